use Rattle.std.proofs.Common.{◌≡◌, ◌++◌, ◌∷◌, ◌+◌, [], take, length, refl, sym, ap, subst, ◌∙◌, arith, append_assoc}
use Rattle.std.specs.List.{AllByRecursion}
use Rattle.art_arena.proofs.Common.{node_at}
use Rattle.art_walks.proofs.Terms.{Place, HasShape, ChildFits, first_key}
use Rattle.art_walks.proofs.KeyWalks.{await-join, await-one, child-unfit, of_one}
use Rattle.art_walks.proofs.checker.keys.others_fit.Goals as goal

pub first_below-first-requires : goal.first_below-first-requires
first_below-first-requires g c =
    let inv = c.loop-child.invariant in (
      omega arith,
      of_one g.K.AsBytes.bytes g.row.PREFIX_LEN (node_at c.args.arena.now) (λ x. HasShape g.K.AsBytes.bytes g.row.PREFIX_LEN (node_at c.args.arena.now) x.1)
          c.args.children inv.0 c.loop-child.left c.next.new.self c.in-Some.child inv.2 c.in-Some.ensures.steps c.requires.stand,
    )

pub key_at-requires : goal.key_at-requires
key_at-requires g c =
    let inv = c.loop-child.invariant in
    let below = of_one g.K.AsBytes.bytes g.row.PREFIX_LEN (node_at c.args.arena.now) (λ x. HasShape g.K.AsBytes.bytes g.row.PREFIX_LEN (node_at c.args.arena.now) x.1)
    c.args.children inv.0 c.loop-child.left c.next.new.self c.in-Some.child inv.2 c.in-Some.ensures.steps c.requires.stand in
    (omega arith, (first_key g.K.AsBytes.bytes below.shape, c.first_below-first.ensures below.shape below.part))

pub returns-then-not-parts_at : goal.returns-then-not-parts_at
returns-then-not-parts_at g c = λ all.
    let inv = c.loop-child.invariant in
    let below = of_one g.K.AsBytes.bytes g.row.PREFIX_LEN (node_at c.args.arena.now) (λ x. HasShape g.K.AsBytes.bytes g.row.PREFIX_LEN (node_at c.args.arena.now) x.1)
    c.args.children inv.0 c.loop-child.left c.next.new.self c.in-Some.child inv.2 c.in-Some.ensures.steps c.requires.stand in
    let is_key : c.key_at.result.now ≡ first_key g.K.AsBytes.bytes below.shape = c.key_at.ensures (first_key g.K.AsBytes.bytes below.shape) (c.first_below-first.ensures below.shape below.part) in
    child-unfit g.K.AsBytes.bytes g.row.PREFIX_LEN (node_at c.args.arena.now) c.args.end c.args.key.now inv.0 c.in-Some.child c.next.new.self below
    (λ e. let h = c.if-not-parts_at.ensures.value.1 (ap (take (c.args.end + 1)) is_key ∙ e) in cc)
    (subst (AllByRecursion (ChildFits g.K.AsBytes.bytes g.row.PREFIX_LEN (node_at c.args.arena.now) c.args.end c.args.key.now)) (inv.2 ∙ ap (λ xs. inv.0 ++ xs) c.in-Some.ensures.steps) all)

pub loop-child-preserved : goal.loop-child-preserved
loop-child-preserved g c =
    let inv = c.loop-child.invariant in
    let below = of_one g.K.AsBytes.bytes g.row.PREFIX_LEN (node_at c.args.arena.now) (λ x. HasShape g.K.AsBytes.bytes g.row.PREFIX_LEN (node_at c.args.arena.now) x.1)
    c.args.children inv.0 c.loop-child.left c.next.new.self c.in-Some.child inv.2 c.in-Some.ensures.steps c.requires.stand in
    let has = c.first_below-first.ensures below.shape below.part in
    let is_key : c.key_at.result.now ≡ first_key g.K.AsBytes.bytes below.shape = c.key_at.ensures (first_key g.K.AsBytes.bytes below.shape) has in
    let told = c.if-not-parts_at.ensures in
    let deep = told.within refl in
    let same = ap length is_key in
    let place : Place = record { name = c.in-Some.child.1; depth = c.args.end + 1; first = c.first_below-first.result } in (
      inv.0 ++ c.in-Some.child ∷ [],
      inv.1 ++ place ∷ [],
      inv.2 ∙ ap (λ xs. inv.0 ++ xs) c.in-Some.ensures.steps ∙ sym (append_assoc inv.0 (c.in-Some.child ∷ []) c.next.new.self),
      c.in_ok-push.ensures.items ∙ ap (λ xs. xs ++ place ∷ []) inv.3 ∙ append_assoc c.args.waiting.now.items inv.1 (place ∷ []),
      await-join g.K.AsBytes.bytes g.row.PREFIX_LEN (node_at c.args.arena.now) c.args.end c.args.key.now inv.0 (c.in-Some.child ∷ []) inv.1 (place ∷ []) inv.4
          (await-one g.K.AsBytes.bytes g.row.PREFIX_LEN (node_at c.args.arena.now) c.args.end c.args.key.now c.in-Some.child c.first_below-first.result below has
          (sym (ap (take (c.args.end + 1)) is_key) ∙ told.value.0 refl) (omega (arith, deep, same))),
    )
