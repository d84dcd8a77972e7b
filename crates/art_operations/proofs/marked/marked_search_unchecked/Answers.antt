use Rattle.std.proofs.Common.{arith, ap, subst, ◌∙◌}
use Rattle.art_operations.proofs.Terms.{NoneMarked}
use Rattle.art_operations.proofs.MarkedSearch.{all-within, met-found, met-left, met-shorter, met-there, search-none}
use Rattle.art_operations.proofs.marked.marked_search_unchecked.Goals as goal

pub shorter-init : goal.shorter-init
shorter-init g c = record { within = omega arith; left = λ s tree. all-within g.K.AsBytes.bytes c.args.query.now c.args.mark s }

pub as_key_ref-requires : goal.as_key_ref-requires
as_key_ref-requires g c = (
  omega arith,
  met-there g.K.AsBytes.bytes g.row.PREFIX_LEN c.args.arena.now c.args.root c.requires.0 c.requires.1 c.first_bytes-front.result.now c.args.mark c.in-Some.leaf (c.in-Some.ensures c.requires.0 c.requires.1),
)

pub returns-in-None : goal.returns-in-None
returns-in-None g c = λ s tree.
    search-none g.K.AsBytes.bytes c.args.query.now c.args.mark s tree.under c.shorter.most c.shorter.invariant.within (c.shorter.invariant.left s tree)
    (subst (λ f. NoneMarked g.K.AsBytes.bytes f c.args.mark s) c.first_bytes-front.ensures (c.in-None.ensures s tree))

pub returns-then-is_marked : goal.returns-then-is_marked
returns-then-is_marked g c = λ s tree.
    met-found g.K.AsBytes.bytes g.row.PREFIX_LEN c.args.arena.now c.args.root s tree c.args.query.now c.args.mark c.shorter.most c.shorter.invariant.within (c.shorter.invariant.left s tree)
    c.first_bytes-front.result.now c.first_bytes-front.ensures c.in-Some.leaf (c.in-Some.ensures s tree) c.as_bytes-key.result.now (λ leaf held. c.as_bytes-key.ensures.value ∙ ap g.K.AsBytes.bytes (c.as_key_ref.ensures leaf held))
    (c.is_marked.ensures.0 c.if-is_marked.true)

pub shorter-preserved : goal.shorter-preserved
shorter-preserved g c =
    let shorter = met-shorter g.K.AsBytes.bytes g.row.PREFIX_LEN c.args.arena.now c.args.root c.requires.0 c.requires.1 c.args.query.now c.args.mark c.shorter.most c.shorter.invariant.within (c.shorter.invariant.left c.requires.0 c.requires.1)
    c.first_bytes-front.result.now c.first_bytes-front.ensures c.in-Some.leaf (c.in-Some.ensures c.requires.0 c.requires.1) c.as_bytes-key.result.now (λ leaf held. c.as_bytes-key.ensures.value ∙ ap g.K.AsBytes.bytes (c.as_key_ref.ensures leaf held))
    (λ by. let t = c.is_marked.ensures.1 by in let f = c.if-is_marked.false in cc) c.count_agreeing-most.result c.count_agreeing-most.ensures.value in
    record {
      within = omega (arith, shorter, c.shorter.invariant.within);
      left = λ s tree.
          met-left g.K.AsBytes.bytes g.row.PREFIX_LEN c.args.arena.now c.args.root s tree c.args.query.now c.args.mark c.shorter.most c.shorter.invariant.within (c.shorter.invariant.left s tree)
          c.first_bytes-front.result.now c.first_bytes-front.ensures c.in-Some.leaf (c.in-Some.ensures s tree) c.as_bytes-key.result.now (λ leaf held. c.as_bytes-key.ensures.value ∙ ap g.K.AsBytes.bytes (c.as_key_ref.ensures leaf held))
          (λ by. let t = c.is_marked.ensures.1 by in let f = c.if-is_marked.false in cc) c.count_agreeing-most.result c.count_agreeing-most.ensures.value;
    }

pub shorter-smaller : goal.shorter-smaller
shorter-smaller g c =
    met-shorter g.K.AsBytes.bytes g.row.PREFIX_LEN c.args.arena.now c.args.root c.requires.0 c.requires.1 c.args.query.now c.args.mark c.shorter.most c.shorter.invariant.within (c.shorter.invariant.left c.requires.0 c.requires.1)
    c.first_bytes-front.result.now c.first_bytes-front.ensures c.in-Some.leaf (c.in-Some.ensures c.requires.0 c.requires.1) c.as_bytes-key.result.now (λ leaf held. c.as_bytes-key.ensures.value ∙ ap g.K.AsBytes.bytes (c.as_key_ref.ensures leaf held))
    (λ by. let t = c.is_marked.ensures.1 by in let f = c.if-is_marked.false in cc) c.count_agreeing-most.result c.count_agreeing-most.ensures.value
