use Rattle.std.proofs.Common.{[], refl, ap, subst, sym}
use Rattle.art_c.specs.Joins.{ArePairsMoved}
use Rattle.art_c.specs.declared.code.Code.TheVariants.{Done}
use Rattle.art_c.proofs.Joins.{all-moved, moved-ends, no-pair, no-room, none-joined, one-moved, room-at-end, room-of-one, some-pair}
use Rattle.art_c.proofs.calls.joins.join.Goals as goal

pub returns-then-is_empty : goal.returns-then-is_empty
returns-then-is_empty g c =
    none-joined c.args.other.now c.args.map.now (no-pair c.args.other.now.pairs c.is_empty.result c.is_empty.ensures c.if-is_empty.true)

pub returns-then-is_empty-2 : goal.returns-then-is_empty-2
returns-then-is_empty-2 g c =
    let all = c.args.other.now.pairs in let old = c.args.map.now.pairs in
    let none = no-pair old c.is_empty-2.result c.is_empty-2.ensures c.if-is_empty-2.true in (
      subst (λ ps. ArePairsMoved all old Done ps c.swap.new.x.pairs) (sym (ap (λ m. m.pairs) c.swap.ensures.y_after))
          (subst (λ ps. ArePairsMoved all old Done old ps) (sym (ap (λ m. m.pairs) c.swap.ensures.x_after))
          (all-moved all old none c.nodes-root.ensures.ordered)),
      λ no_other. absurd (some-pair all c.is_empty.result c.is_empty.ensures c.if-is_empty.false no_other),
      λ _ _. (refl, c.swap.ensures.x_after, c.swap.ensures.y_after),
      λ some. absurd (some none),
    )

pub loop-code-init : goal.loop-code-init
loop-code-init g c = (([], refl, refl), no-room c.args.other.now c.args.map.now)

pub loop-code-preserved : goal.loop-code-preserved
loop-code-preserved g c = (
  one-moved c.args.other.now.pairs c.args.map.now.pairs c.loop-code.other.pairs c.loop-code.map.pairs
      c.move_first.new.other.pairs c.move_first.new.map.pairs c.loop-code.invariant.0 c.in_default.ensures.moves,
  room-of-one c.args.other.now c.args.map.now c.loop-code.other c.loop-code.map c.move_first.new.other c.move_first.new.map
      c.loop-code.invariant.1 c.in_default.ensures.moves c.in_default.ensures.room.0 c.in_default.ensures.room.1,
)

pub returns-in-Some : goal.returns-in-Some
returns-in-Some g c =
    let ends = c.in-Some.ensures.moves in (
      moved-ends c.args.other.now.pairs c.args.map.now.pairs c.loop-code.other.pairs c.loop-code.map.pairs
          c.move_first.new.other.pairs c.move_first.new.map.pairs c.in-Some.code c.loop-code.invariant.0 ends.0 ends.1 ends.2,
      λ none. absurd (some-pair c.args.other.now.pairs c.is_empty.result c.is_empty.ensures c.if-is_empty.false none),
      λ none. absurd (some-pair c.args.map.now.pairs c.is_empty-2.result c.is_empty-2.ensures c.if-is_empty-2.false none),
      λ _. room-at-end c.args.other.now c.args.map.now c.loop-code.other c.loop-code.map c.move_first.new.other c.move_first.new.map
          c.loop-code.invariant.1 c.in-Some.ensures.room.0 c.in-Some.ensures.room.1 ends.1,
    )
