use Rattle.std.proofs.Common.{◌+◌, ◌-◌, false, length, refl, sym, ap, subst, ◌∙◌, arith}
use Rattle.art_arena.specs.arena.Arena.{UsesRoom}
use Rattle.std.specs.Map.Calls.{CalledAtPair, RetainsPairs, TakesPair}
use Rattle.art_arena.specs.declared.ends.End.TheVariants.{First}
use Rattle.art_map.proofs.Terms.{map_of, AddsNoLeaf, IsAsked, asking_by}
use Rattle.art_map.proofs.Asks.{asked-long, asked-some, taken-long, callable-first, none-left, one-left, retained-all, retaining-all, retaining-kept, retaining-stopped, retaining-taken}
use Rattle.art_map.proofs.LeafNames.{then-names}
use Rattle.art_operations.proofs.Common.{on-err}
use Rattle.art_operations.specs.Frees.{FreesLeaves}
use Rattle.art_nodes.specs.declared.kind.NodeType.TheVariants.{Leaf}
use Rattle.art_map.proofs.RoomKept.{UsesOfGone, gone-frees, gone-room, gone-uses, kinds-kept, none-gone, one-gone, same-gone}
use Rattle.art_map.proofs.map.TreeMap.drop_others.Goals.{After-take}
use Rattle.art_map.proofs.map.TreeMap.drop_others.Goals as goal

pub loop-pairs-init : goal.loop-pairs-init
loop-pairs-init g c =
    let all = c.extraction_of_all-pairs.ensures in
    record {
      same_map = refl;
      none_new = subst (AddsNoLeaf g.K.AsBytes.bytes c.args.self.now) (sym all.same_map.1) (λ slot key has. has);
      room = none-gone c.args.self.now _ all.same_map.1;
      retaining = retaining-all (CalledAtPair g.F.FnMut) g.K.AsBytes.bytes (TakesPair g.F.FnMut) c.args.keep c.args.self.now.pairs (asking_by c.extraction_of_all-pairs.result c.args.keep) (ap (λ m. m.pairs) all.same_map.1) all.left refl c.nodes-root.ensures.ordered c.requires;
    }

pub ask-requires : goal.ask-requires
ask-requires g c =
    let s = asking_by c.loop-pairs.pairs c.loop-pairs.keep in (
      omega arith,
      (
        one-left s.left c.is_empty.ensures c.loop-pairs-test.true,
        callable-first (CalledAtPair g.F.FnMut) g.K.AsBytes.bytes (TakesPair g.F.FnMut) c.args.keep c.args.self.now.pairs s c.loop-pairs.invariant.retaining,
      ),
    )

pub loop-pairs-preserved-then-ask : goal.loop-pairs-preserved-then-ask
loop-pairs-preserved-then-ask g c =
    let s = asking_by c.loop-pairs.pairs c.loop-pairs.keep in
    let a = asking_by c.ask.new.self c.ask.new.pred in
    let m = asking_by c.pass_front.new.self c.ask.new.pred in
    record {
      same_map = ap (λ r. r.ghost_name) c.pass_front.ensures.same ∙ c.ask.ensures.same_map ∙ c.loop-pairs.invariant.same_map;
      none_new = subst (λ r. AddsNoLeaf g.K.AsBytes.bytes c.args.self.now r.now) (sym c.pass_front.ensures.same)
          (then-names g.K.AsBytes.bytes c.args.self.now.nodes (map_of c.loop-pairs.pairs).now.nodes (map_of c.ask.new.self).now.nodes c.loop-pairs.invariant.none_new c.ask.ensures.none_new);
      room = subst (λ r. UsesOfGone c.args.self.now r.now) (sym c.pass_front.ensures.same)
          (same-gone c.args.self.now (map_of c.loop-pairs.pairs).now (map_of c.ask.new.self).now c.loop-pairs.invariant.room
          (asked-long (CalledAtPair g.F.FnMut) g.K.AsBytes.bytes (TakesPair g.F.FnMut) c.args.keep c.args.self.now.pairs s a c.loop-pairs.invariant.retaining c.if-ask.ensures.asked) c.ask.ensures.room);
      retaining = retaining-kept (CalledAtPair g.F.FnMut) g.K.AsBytes.bytes (TakesPair g.F.FnMut) c.args.keep c.args.self.now.pairs s a c.loop-pairs.invariant.retaining c.if-ask.ensures.asked m (ap (λ r. r.now.pairs) c.pass_front.ensures.same) refl c.pass_front.ensures.left;
    }

-- no leaf is new where a pair was asked of and taken
asked-taken : (g : _) (c : After-take g) → AddsNoLeaf g.K.AsBytes.bytes c.args.self.now (map_of c.take.new.self).now
asked-taken g c =
    let start = c.args.self.now.nodes in
    let asked = (map_of c.ask.new.self).now.nodes in
    then-names g.K.AsBytes.bytes start asked (map_of c.take.new.self).now.nodes (then-names g.K.AsBytes.bytes start (map_of c.loop-pairs.pairs).now.nodes asked c.loop-pairs.invariant.none_new c.ask.ensures.none_new) c.take.ensures.none_new

pub loop-pairs-preserved : goal.loop-pairs-preserved
loop-pairs-preserved g c =
    let s = asking_by c.loop-pairs.pairs c.loop-pairs.keep in
    let a = asking_by c.ask.new.self c.ask.new.pred in
    let m = asking_by c.take.new.self c.ask.new.pred in
    let taken = c.in_ok-_pair.ensures in
    record {
      same_map = taken.same_map ∙ c.ask.ensures.same_map ∙ c.loop-pairs.invariant.same_map;
      none_new = asked-taken g (goal.at.loop-pairs-preserved g c).After-take;
      room = one-gone c.args.self.now (map_of c.loop-pairs.pairs).now (map_of c.take.new.self).now c.loop-pairs.invariant.room
          (taken-long (CalledAtPair g.F.FnMut) g.K.AsBytes.bytes (TakesPair g.F.FnMut) c.args.keep c.args.self.now.pairs s a c.loop-pairs.invariant.retaining c.if-ask.ensures.asked c.in_ok-_pair._pair m.left m.pairs taken.left taken.pairs)
          (λ n room. c.take.ensures.room n (kinds-kept (map_of c.loop-pairs.pairs).now.nodes (map_of c.ask.new.self).now.nodes c.ask.ensures.room (n + 1) room))
          (λ n room. taken.leaf_room n (c.ask.ensures.room Leaf n room));
      retaining = retaining-taken (CalledAtPair g.F.FnMut) g.K.AsBytes.bytes (TakesPair g.F.FnMut) c.args.keep c.args.self.now.pairs s a c.loop-pairs.invariant.retaining c.if-ask.ensures.asked m refl c.in_ok-_pair._pair taken.left taken.pairs;
    }

pub returns-in_err-_pair-clause-refused : goal.returns-in_err-_pair-clause-refused
returns-in_err-_pair-clause-refused g c =
    let s = asking_by c.loop-pairs.pairs c.loop-pairs.keep in
    let a = asking_by c.ask.new.self c.ask.new.pred in
    let refused = c.in_err-_pair.ensures in
    let end = c.in_err-_pair.self-in-Break-1-own.given in
    let same = sym (refused.same_map ∙ c.ask.ensures.same_map ∙ c.loop-pairs.invariant.same_map ∙ c.extraction_of_all-pairs.ensures.same_map.0) in
    on-err c.from_residual.result
    (retaining-stopped (CalledAtPair g.F.FnMut) g.K.AsBytes.bytes (TakesPair g.F.FnMut) c.args.keep c.args.self.now.pairs s a c.loop-pairs.invariant.retaining c.if-ask.ensures.asked end.0.pairs
    (ap (λ m. m.pairs) (end.1 same) ∙ refused.err.1) refused.shrinks)

pub returns-clause-retained : goal.returns-clause-retained
returns-clause-retained g c =
    let s = asking_by c.loop-pairs.pairs c.loop-pairs.keep in
    let all = retained-all (CalledAtPair g.F.FnMut) g.K.AsBytes.bytes (TakesPair g.F.FnMut) c.args.keep c.args.self.now.pairs s c.loop-pairs.invariant.retaining (none-left s.left c.is_empty.ensures c.loop-pairs-test.false) in
    let end = c.self-1.given in
    let same = sym (c.loop-pairs.invariant.same_map ∙ c.extraction_of_all-pairs.ensures.same_map.0) in
    subst (λ ps. RetainsPairs (CalledAtPair g.F.FnMut) c.args.keep c.args.self.now.pairs ps) (sym (ap (λ m. m.pairs) (end.1 same))) all

pub returns-in_err-_pair-clause-none_new : goal.returns-in_err-_pair-clause-none_new
returns-in_err-_pair-clause-none_new g c =
    let end = c.in_err-_pair.self-in-Break-1-own.given in
    let same = sym (c.in_err-_pair.ensures.same_map ∙ c.ask.ensures.same_map ∙ c.loop-pairs.invariant.same_map ∙ c.extraction_of_all-pairs.ensures.same_map.0) in
    subst (AddsNoLeaf g.K.AsBytes.bytes c.args.self.now) (sym (end.1 same)) (asked-taken g (goal.at.returns-in_err-_pair-clause-none_new g c).After-take)

pub returns-clause-none_new : goal.returns-clause-none_new
returns-clause-none_new g c =
    let end = c.self-1.given in
    let same = sym (c.loop-pairs.invariant.same_map ∙ c.extraction_of_all-pairs.ensures.same_map.0) in
    subst (AddsNoLeaf g.K.AsBytes.bytes c.args.self.now) (sym (end.1 same)) c.loop-pairs.invariant.none_new

pub returns-clause-room : goal.returns-clause-room
returns-clause-room g c =
    let end = c.self-1.given in
    let same = sym (c.loop-pairs.invariant.same_map ∙ c.extraction_of_all-pairs.ensures.same_map.0) in
    subst (λ m. UsesRoom (length c.args.self.now.pairs - length m.pairs) c.args.self.now.nodes m.nodes) (sym (end.1 same)) (gone-uses c.args.self.now _ c.loop-pairs.invariant.room)

pub returns-clause-leaf_room : goal.returns-clause-leaf_room
returns-clause-leaf_room g c =
    let end = c.self-1.given in
    let same = sym (c.loop-pairs.invariant.same_map ∙ c.extraction_of_all-pairs.ensures.same_map.0) in
    subst (λ m. FreesLeaves (length c.args.self.now.pairs - length m.pairs) c.args.self.now.nodes m.nodes) (sym (end.1 same)) (gone-frees c.args.self.now _ c.loop-pairs.invariant.room)

-- what was asked of, and is refused
refused-room : (g : _) (c : After-take g) → IsAsked (CalledAtPair g.F.FnMut) g.K.AsBytes.bytes First (asking_by c.loop-pairs.pairs c.loop-pairs.keep) false (asking_by c.ask.new.self c.ask.new.pred) → UsesOfGone c.args.self.now (map_of c.ask.new.self).now
refused-room g c asked =
    same-gone c.args.self.now (map_of c.loop-pairs.pairs).now (map_of c.ask.new.self).now c.loop-pairs.invariant.room
    (asked-long (CalledAtPair g.F.FnMut) g.K.AsBytes.bytes (TakesPair g.F.FnMut) c.args.keep c.args.self.now.pairs (asking_by c.loop-pairs.pairs c.loop-pairs.keep) (asking_by c.ask.new.self c.ask.new.pred) c.loop-pairs.invariant.retaining asked) c.ask.ensures.room

pub returns-in_err-_pair-clause-room : goal.returns-in_err-_pair-clause-room
returns-in_err-_pair-clause-room g c =
    let end = c.in_err-_pair.self-in-Break-1-own.given in
    let refused = c.in_err-_pair.ensures in
    let same = sym (refused.same_map ∙ c.ask.ensures.same_map ∙ c.loop-pairs.invariant.same_map ∙ c.extraction_of_all-pairs.ensures.same_map.0) in
    let uses = same-gone c.args.self.now (map_of c.ask.new.self).now (map_of c.take.new.self).now (refused-room g (goal.at.returns-in_err-_pair-clause-room g c).After-take c.if-ask.ensures.asked) (ap length refused.err.1) refused.untouched.2 in
    subst (λ m. UsesRoom (length c.args.self.now.pairs - length m.pairs) c.args.self.now.nodes m.nodes) (sym (end.1 same)) (gone-uses c.args.self.now _ uses)

pub returns-in_err-_pair-clause-leaf_room : goal.returns-in_err-_pair-clause-leaf_room
returns-in_err-_pair-clause-leaf_room g c =
    let end = c.in_err-_pair.self-in-Break-1-own.given in
    let refused = c.in_err-_pair.ensures in
    let same = sym (refused.same_map ∙ c.ask.ensures.same_map ∙ c.loop-pairs.invariant.same_map ∙ c.extraction_of_all-pairs.ensures.same_map.0) in
    let uses = same-gone c.args.self.now (map_of c.ask.new.self).now (map_of c.take.new.self).now (refused-room g (goal.at.returns-in_err-_pair-clause-leaf_room g c).After-take c.if-ask.ensures.asked) (ap length refused.err.1) refused.untouched.2 in
    subst (λ m. FreesLeaves (length c.args.self.now.pairs - length m.pairs) c.args.self.now.nodes m.nodes) (sym (end.1 same)) (gone-frees c.args.self.now _ uses)

pub returns-in_err-_pair-clause-succeeds : goal.returns-in_err-_pair-clause-succeeds
returns-in_err-_pair-clause-succeeds g c = λ room.
    let s = asking_by c.loop-pairs.pairs c.loop-pairs.keep in
    let a = asking_by c.ask.new.self c.ask.new.pred in
    let some = asked-some (CalledAtPair g.F.FnMut) g.K.AsBytes.bytes (TakesPair g.F.FnMut) c.args.keep c.args.self.now.pairs s a c.loop-pairs.invariant.retaining c.if-ask.ensures.asked in
    let never = c.in_err-_pair.ensures.succeeds (gone-room c.args.self.now (map_of c.ask.new.self).now (refused-room g (goal.at.returns-in_err-_pair-clause-succeeds g c).After-take c.if-ask.ensures.asked) some room) in
    absurd (cc)
