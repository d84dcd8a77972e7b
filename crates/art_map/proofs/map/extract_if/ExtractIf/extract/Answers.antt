use Rattle.std.proofs.Common.{◌<◌, length, Some, None, refl, sym, ap, subst, ◌∙◌, arith}
use Rattle.std.specs.Map.Calls.{CalledAtPair, TakesPair}
use Rattle.art_map.proofs.Terms.{asking, extract_map, map_of, AddsNoLeaf, asking_by}
use Rattle.art_map.proofs.Asks.{callable-next, extracts-later, extracts-none, extracts-now, fewer-passed, fewer-taken, none-left, one-left}
use Rattle.art_arena.proofs.Common.{KeepsRoomOf}
use Rattle.art_map.proofs.LeafNames.{then-names}
use Rattle.art_map.proofs.RoomKept.{kept-frees, kept-uses, taken-frees, taken-uses}
use Rattle.art_map.proofs.map.extract_if.ExtractIf.extract.Goals.{After-ask}
use Rattle.art_map.proofs.map.extract_if.ExtractIf.extract.Goals as goal

pub ask-requires : goal.ask-requires
ask-requires g c = (
  omega arith,
  (
    one-left (asking c.loop-end.self).left c.is_empty.ensures c.loop-end-test.true,
    callable-next (CalledAtPair g.F.FnMut) (TakesPair g.F.FnMut) c.loop-end.self.pred (asking c.loop-end.self).left c.loop-end.invariant.can c.args.end,
  ),
)

-- no leaf is new where pairs were asked of
asked-names : (g : _) (c : After-ask g) → AddsNoLeaf g.K.AsBytes.bytes (extract_map c.args.self.now).now (map_of c.ask.new.self).now
asked-names g c = then-names g.K.AsBytes.bytes (extract_map c.args.self.now).now.nodes (extract_map c.loop-end.self).now.nodes (map_of c.ask.new.self).now.nodes c.loop-end.invariant.none_new c.ask.ensures.none_new

-- and all room stays
asked-room : (g : _) (c : After-ask g) → KeepsRoomOf (extract_map c.args.self.now).now.nodes (map_of c.ask.new.self).now.nodes
asked-room g c kind n room = c.ask.ensures.room kind n (c.loop-end.invariant.room kind n room)

pub returns-then-ask-clause-steps : goal.returns-then-ask-clause-steps
returns-then-ask-clause-steps g c =
    let taken = c.take.ensures in (
      taken.same_map ∙ c.ask.ensures.same_map ∙ c.loop-end.invariant.same_map,
      c.loop-end.invariant.later (Some c.take.result) (asking_by c.take.new.self c.ask.new.pred)
          (extracts-now (CalledAtPair g.F.FnMut) g.K.AsBytes.bytes c.args.end (asking c.loop-end.self) (asking_by c.ask.new.self c.ask.new.pred) c.if-ask.ensures.asked (asking_by c.take.new.self c.ask.new.pred) refl c.take.result
          taken.left taken.pairs taken.err taken.shrinks),
      (
        then-names g.K.AsBytes.bytes (extract_map c.args.self.now).now.nodes (map_of c.ask.new.self).now.nodes (map_of c.take.new.self).now.nodes (asked-names g (goal.at.returns-then-ask-clause-steps g c).After-ask) taken.none_new,
        taken-uses (extract_map c.args.self.now).now.nodes (map_of c.ask.new.self).now (map_of c.take.new.self).now (asked-room g (goal.at.returns-then-ask-clause-steps g c).After-ask) c.take.result taken.room taken.untouched,
        taken-frees (extract_map c.args.self.now).now.nodes (map_of c.ask.new.self).now (map_of c.take.new.self).now (asked-room g (goal.at.returns-then-ask-clause-steps g c).After-ask) c.take.result taken.leaf_room taken.untouched,
      ),
    )

pub returns-then-ask-clause-goes : goal.returns-then-ask-clause-goes
returns-then-ask-clause-goes g c =
    let s = asking c.loop-end.self in
    let a = asking_by c.ask.new.self c.ask.new.pred in
    let left = (asking_by c.take.new.self c.ask.new.pred).left in
    let goes = fewer-taken (CalledAtPair g.F.FnMut) g.K.AsBytes.bytes c.args.end s a (TakesPair g.F.FnMut) c.loop-end.invariant.can c.if-ask.ensures.asked left c.take.result c.take.ensures.left (asking_by c.take.new.self c.ask.new.pred).pairs c.take.ensures.err in
    let fewer = c.loop-end.invariant.fewer in
    let less = goes.1 in
    let fits : length left < length (asking c.args.self.now).left = omega (arith, less, fewer) in
    record { on = λ _. (goes.0, tt, fits); keeps = goes.0; rests = λ _. tt }

pub loop-end-preserved : goal.loop-end-preserved
loop-end-preserved g c =
    let s = asking c.loop-end.self in
    let a = asking_by c.ask.new.self c.ask.new.pred in
    let m = asking_by c.pass.new.self c.ask.new.pred in
    let goes = fewer-passed (CalledAtPair g.F.FnMut) g.K.AsBytes.bytes c.args.end s a (TakesPair g.F.FnMut) c.loop-end.invariant.can c.if-ask.ensures.asked m.left c.pass.ensures.left in
    let fewer = c.loop-end.invariant.fewer in
    let less = goes.1 in
    record {
      none_new = subst (λ r. AddsNoLeaf g.K.AsBytes.bytes (extract_map c.args.self.now).now r.now) (sym c.pass.ensures.same) (asked-names g (goal.at.loop-end-preserved g c).After-ask);
      room = subst (λ r. KeepsRoomOf (extract_map c.args.self.now).now.nodes r.now.nodes) (sym c.pass.ensures.same) (asked-room g (goal.at.loop-end-preserved g c).After-ask);
      same_map = ap (λ r. r.ghost_name) c.pass.ensures.same ∙ c.ask.ensures.same_map ∙ c.loop-end.invariant.same_map;
      can = goes.0;
      fewer = omega (arith, less, fewer);
      later = λ r t e. c.loop-end.invariant.later r t (extracts-later (CalledAtPair g.F.FnMut) g.K.AsBytes.bytes c.args.end s a c.if-ask.ensures.asked m (ap (λ r. r.now.pairs) c.pass.ensures.same) refl c.pass.ensures.left r t e);
    }

pub returns-clause-steps : goal.returns-clause-steps
returns-clause-steps g c =
    let s = asking c.loop-end.self in (
      c.loop-end.invariant.same_map,
      c.loop-end.invariant.later None s (extracts-none (CalledAtPair g.F.FnMut) g.K.AsBytes.bytes c.args.end s (none-left s.left c.is_empty.ensures c.loop-end-test.false)),
      (
        c.loop-end.invariant.none_new,
        kept-uses (extract_map c.args.self.now).now.nodes (extract_map c.loop-end.self).now.nodes c.loop-end.invariant.room,
        kept-frees (extract_map c.args.self.now).now.nodes (extract_map c.loop-end.self).now.nodes c.loop-end.invariant.room,
      ),
    )
