use Rattle.std.proofs.Common.{◌≡◌, ◌-◌, ◌∷◌, ◌++◌, [], take, refl, ap, ◌∙◌, arith}
use Rattle.art_arena.proofs.Common.{node_at}
use Rattle.art_walks.proofs.Terms.{Place}
use Rattle.art_walks.proofs.KeyWalks.{left-start, left-end, left-leaf, left-inner, left-unfit, stands-here, fewer-leaf, fewer-inner, yes_of, no_of}
use Rattle.art_walks.proofs.checker.keys.keys_fit.Goals as goal

pub loop-place-init : goal.loop-place-init
loop-place-init g c =
    let place : Place = record { name = c.args.root; depth = 0; first = c.first_below-first.result } in
    left-start g.K.AsBytes.bytes g.row.PREFIX_LEN (node_at c.args.arena.now) c.args.root _ c.first_below-first.result c.requires (c.first_below-first.ensures c.requires.shape c.requires.part)
    (c.in_ok-push.ensures.items ∙ ap (λ xs. xs ++ place ∷ []) c.new-waiting.ensures.items)

pub loop-place-preserved-then-is : goal.loop-place-preserved-then-is
loop-place-preserved-then-is g c =
    left-leaf g.K.AsBytes.bytes g.row.PREFIX_LEN (node_at c.args.arena.now) c.args.root _ _ c.in-Some.place c.loop-place.invariant c.in-Some.ensures.items (c.if-is.ensures.0 refl)

pub loop-place-smaller-then-is : goal.loop-place-smaller-then-is
loop-place-smaller-then-is g c =
    fewer-leaf g.K.AsBytes.bytes g.row.PREFIX_LEN c.args.arena.now _ _ c.in-Some.place c.in-Some.ensures.items
    (stands-here g.K.AsBytes.bytes g.row.PREFIX_LEN (node_at c.args.arena.now) c.args.root _ _ c.in-Some.place c.loop-place.invariant c.in-Some.ensures.items)

pub node_fits-requires : goal.node_fits-requires
node_fits-requires g c = (
  omega arith,
  (
    stands-here g.K.AsBytes.bytes g.row.PREFIX_LEN (node_at c.args.arena.now) c.args.root _ _ c.in-Some.place c.loop-place.invariant c.in-Some.ensures.items,
    λ e. let h = c.if-is.ensures.1 e in cc,
  ),
)

pub returns-then-not-branch : goal.returns-then-not-branch
returns-then-not-branch g c =
    left-unfit g.K.AsBytes.bytes g.row.PREFIX_LEN (node_at c.args.arena.now) c.args.root _ _ c.in-Some.place c.loop-place.invariant c.in-Some.ensures.items
    (no_of c.in_ok-node_fits.field-0 _ _ c.if-not-branch.true c.in_ok-node_fits.ensures)

pub loop-place-preserved : goal.loop-place-preserved
loop-place-preserved g c =
    left-inner g.K.AsBytes.bytes g.row.PREFIX_LEN (node_at c.args.arena.now) c.args.root _ _ c.in-Some.place c.loop-place.invariant c.in-Some.ensures.items _
    (yes_of c.in_ok-node_fits.field-0 _ _ c.if-not-branch.false c.in_ok-node_fits.ensures)

pub loop-place-smaller : goal.loop-place-smaller
loop-place-smaller g c =
    fewer-inner g.K.AsBytes.bytes g.row.PREFIX_LEN c.args.arena.now _ _ _ c.in-Some.place c.in-Some.ensures.items
    (stands-here g.K.AsBytes.bytes g.row.PREFIX_LEN (node_at c.args.arena.now) c.args.root _ _ c.in-Some.place c.loop-place.invariant c.in-Some.ensures.items)
    (yes_of c.in_ok-node_fits.field-0 _ _ c.if-not-branch.false c.in_ok-node_fits.ensures)

pub returns : goal.returns
returns g c =
    let none : c.pop.new.self.items ≡ [] = c.in_default.ensures.rest ∙ ap (λ n. take (n - 1) c.loop-place.waiting.items) c.in_default.ensures.cases.0 in
    left-end g.K.AsBytes.bytes g.row.PREFIX_LEN (node_at c.args.arena.now) c.args.root _ c.loop-place.invariant (c.in_default.ensures.items ∙ ap (λ xs. xs ++ []) none)
