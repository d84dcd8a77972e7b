use Rattle.std.proofs.Common.{ap, subst, sym, refl, ◌∙◌, arith, None}
use Rattle.art_arena.proofs.Common.{node_at, IsSubtree, first_slot, last_slot, passing, begins_with, begins_of}
use Rattle.art_operations.proofs.Points.{stored_is}
use Rattle.art_arena.proofs.shapes.Prefixes.{begins_not}
use Rattle.art_operations.proofs.Terms.{AllConflict}
use Rattle.art_operations.proofs.Nearest.{first_of_part}
use Rattle.art_operations.proofs.Segments.{begin_all, begin_none}
use Rattle.art_operations.proofs.bounds.segment_at.Goals as goal

pub maximum_with-requires : goal.maximum_with-requires
maximum_with-requires g c =
    let r = c.requires in
    (omega arith, (r.0, r.1, subst (λ a. IsSubtree g.K.AsBytes.bytes g.row.PREFIX_LEN (node_at a) c.args.part r.0 r.1) (sym c.end_leaf_with-first.ensures.kept) r.2))

pub returns-then-starts_with-clause-value : goal.returns-then-starts_with-clause-value
returns-then-starts_with-clause-value g c = λ path s sub conflicts.
    let first = first_of_part g.K.AsBytes.bytes g.row.PREFIX_LEN c.args.reader.now.arena.now c.args.part path s c.end_leaf_with-first.result.name sub (c.end_leaf_with-first.ensures.value path s sub) in
    let stored = stored_is g.K.AsBytes.bytes first.there c.end_leaf_with-first.ensures.leaf c.key_ref.ensures c.as_bytes.ensures.value ∙ ap g.K.AsBytes.bytes first.key_is in
    let begins = begins_of c.starts_with.result _ (g.K.AsBytes.bytes first.first.key) _ c.args.prefix.now stored refl c.starts_with.ensures.value c.if-starts_with.true in
    let all = begin_all g.K.AsBytes.bytes c.args.prefix.now first.first first.others (subst (AllConflict g.K.AsBytes.bytes c.args.prefix.now) first.are conflicts) first.before begins in (
      ap (λ xs. first_slot (passing g.K.AsBytes.bytes (λ k. begins_with c.args.prefix.now k) xs) None) first.are ∙ ap (λ xs. first_slot xs None) all ∙ ap (λ xs. first_slot xs None) (sym first.are) ∙ c.end_leaf_with-first.ensures.value path s sub,
      ap (λ xs. last_slot None (passing g.K.AsBytes.bytes (λ k. begins_with c.args.prefix.now k) xs)) first.are ∙ ap (last_slot None) all
          ∙ ap (last_slot None) (sym first.are) ∙ c.maximum_with.ensures.value path s
          (subst (λ a. IsSubtree g.K.AsBytes.bytes g.row.PREFIX_LEN (node_at a) c.args.part path s) (sym c.end_leaf_with-first.ensures.kept) sub),
    )

pub returns-clause-value : goal.returns-clause-value
returns-clause-value g c = λ path s sub conflicts.
    let first = first_of_part g.K.AsBytes.bytes g.row.PREFIX_LEN c.args.reader.now.arena.now c.args.part path s c.end_leaf_with-first.result.name sub (c.end_leaf_with-first.ensures.value path s sub) in
    let stored = stored_is g.K.AsBytes.bytes first.there c.end_leaf_with-first.ensures.leaf c.key_ref.ensures c.as_bytes.ensures.value ∙ ap g.K.AsBytes.bytes first.key_is in
    let other = begins_not c.starts_with.result _ (g.K.AsBytes.bytes first.first.key) _ c.args.prefix.now stored refl c.starts_with.ensures.value c.if-starts_with.false in
    ap (passing g.K.AsBytes.bytes (λ k. begins_with c.args.prefix.now k)) first.are ∙ begin_none g.K.AsBytes.bytes c.args.prefix.now first.first first.others (subst (AllConflict g.K.AsBytes.bytes c.args.prefix.now) first.are conflicts) first.before other

pub returns-then-starts_with-clause-few : goal.returns-then-starts_with-clause-few
returns-then-starts_with-clause-few g c = λ path s sub longest short.
    let first = c.end_leaf_with-first.ensures.few path s sub longest short in
    let last = c.maximum_with.ensures.few path s (subst (λ a. IsSubtree g.K.AsBytes.bytes g.row.PREFIX_LEN (node_at a) c.args.part path s) (sym c.end_leaf_with-first.ensures.kept) sub) longest short in
    omega (arith, first, last)

pub returns-clause-few : goal.returns-clause-few
returns-clause-few g c = λ path s sub longest short. let first = c.end_leaf_with-first.ensures.few path s sub longest short in omega (arith, first)

pub returns-then-starts_with-clause-all : goal.returns-then-starts_with-clause-all
returns-then-starts_with-clause-all g c = λ path s sub conflicts.
    let first = first_of_part g.K.AsBytes.bytes g.row.PREFIX_LEN c.args.reader.now.arena.now c.args.part path s c.end_leaf_with-first.result.name sub (c.end_leaf_with-first.ensures.value path s sub) in
    let stored = stored_is g.K.AsBytes.bytes first.there c.end_leaf_with-first.ensures.leaf c.key_ref.ensures c.as_bytes.ensures.value ∙ ap g.K.AsBytes.bytes first.key_is in
    let begins = begins_of c.starts_with.result _ (g.K.AsBytes.bytes first.first.key) _ c.args.prefix.now stored refl c.starts_with.ensures.value c.if-starts_with.true in
    let all = begin_all g.K.AsBytes.bytes c.args.prefix.now first.first first.others (subst (AllConflict g.K.AsBytes.bytes c.args.prefix.now) first.are conflicts) first.before begins in
    ap (passing g.K.AsBytes.bytes (λ k. begins_with c.args.prefix.now k)) first.are ∙ all ∙ sym first.are

pub returns-then-starts_with-clause-counts : goal.returns-then-starts_with-clause-counts
returns-then-starts_with-clause-counts g c = λ path s sub.
    let first = c.end_leaf_with-first.ensures.exact path s sub in
    let last = c.maximum_with.ensures.exact path s (subst (λ a. IsSubtree g.K.AsBytes.bytes g.row.PREFIX_LEN (node_at a) c.args.part path s) (sym c.end_leaf_with-first.ensures.kept) sub) in
    omega (arith, first, last)

pub returns-clause-counts : goal.returns-clause-counts
returns-clause-counts g c = λ path s sub. c.end_leaf_with-first.ensures.exact path s sub
