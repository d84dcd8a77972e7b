use Rattle.std.proofs.Common.{◌<◌, length, true, false, None, refl, sym, ap, subst, ◌∙◌, arith}
use Rattle.std.specs.Fn.{CalledAt, TakesAt}
use Rattle.std.specs.Map.{keys_of}
use Rattle.art_arena.proofs.Common.{KeepsRoomOf}
use Rattle.art_arena.specs.arena.Arena.{UsesRoom}
use Rattle.art_operations.specs.Frees.{FreesLeaves}
use Rattle.art_map.proofs.Common.{left_of, map_of}
use Rattle.art_map.specs.LeafNames.{AddsNoLeaf}
use Rattle.art_map.proofs.RoomKept.{kept-frees, kept-uses, taken-frees, taken-uses}
use Rattle.art_set.proofs.Terms.{AskingKeys, asking_keys, extract_set}
use Rattle.art_set.proofs.AskedKeys.{callable-after, callable-next, extracts-later, extracts-none, extracts-now}
use Rattle.art_set.proofs.AskedPairs.{fewer-left, first-left, first-passed, none-first, refused-key, taken-as-key, taken-key}
use Rattle.art_set.proofs.iterators.extract_if.ExtractIfIterator.next.Goals as goal

pub pred-requires : goal.pred-requires
pred-requires g c =
    let s = c.loop-key.self in
    let first = first-left (c.in-Some.key.now, c.in-Some.field-0-1.now) (left_of s.extraction) c.in-Some.ensures in
    callable-next (CalledAt g.F.FnMut) (TakesAt g.F.FnMut) s.pred c.in-Some.key.now (asking_keys s).left _ first c.loop-key.invariant.can c.in-Some.key refl

pub returns-then-pred-clause-steps : goal.returns-then-pred-clause-steps
returns-then-pred-clause-steps g c =
    let s = c.loop-key.self in
    let old = left_of s.extraction in
    let new = left_of c.take_front.new.self in
    let ps = (map_of s.extraction).now.pairs in
    let qs = (map_of c.take_front.new.self).now.pairs in
    let first = first-left (c.in-Some.key.now, c.in-Some.field-0-1.now) old c.in-Some.ensures in
    let call : CalledAt g.F.FnMut s.pred c.in-Some.key.now true c.pred.new.self = record { shown = c.in-Some.key; shows = refl; called = c.if-pred.ensures } in
    let kept = subst (λ r. KeepsRoomOf (extract_set c.args.self.now).now.nodes r.now.nodes) (sym c.loop-key.invariant.same) (λ kind n room. room) in
    let taken = c.take_front.ensures in (
      taken.same_map ∙ ap (λ r. r.ghost_name) c.loop-key.invariant.same,
      c.loop-key.invariant.later _ _
          (extracts-now (CalledAt g.F.FnMut) g.K.AsBytes.bytes (asking_keys s) record { keys = keys_of qs; left = keys_of new; asks = c.pred.new.self } c.in-Some.key.now _ first call c.key_of.result
          (taken-key g.K.AsBytes.bytes c.in-Some.key.now old new ps qs first c.take_front.result c.key_of.result c.key_of.ensures.ok c.key_of.ensures.outcome taken.left taken.pairs)
          (refused-key g.K.AsBytes.bytes c.in-Some.key.now old new ps qs first c.take_front.result c.key_of.result c.key_of.ensures.outcome taken.err taken.shrinks)),
      (
        subst (λ r. AddsNoLeaf g.K.AsBytes.bytes r.now (map_of c.take_front.new.self).now) c.loop-key.invariant.same taken.none_new,
        subst (λ k. UsesRoom k (extract_set c.args.self.now).now.nodes (map_of c.take_front.new.self).now.nodes) (taken-as-key c.take_front.result c.key_of.result c.key_of.ensures.outcome)
            (taken-uses (extract_set c.args.self.now).now.nodes (extract_set s).now (map_of c.take_front.new.self).now kept c.take_front.result taken.room taken.untouched),
        subst (λ k. FreesLeaves k (extract_set c.args.self.now).now.nodes (map_of c.take_front.new.self).now.nodes) (taken-as-key c.take_front.result c.key_of.result c.key_of.ensures.outcome)
            (taken-frees (extract_set c.args.self.now).now.nodes (extract_set s).now (map_of c.take_front.new.self).now kept c.take_front.result taken.leaf_room taken.untouched),
      ),
    )

pub returns-then-pred-clause-goes : goal.returns-then-pred-clause-goes
returns-then-pred-clause-goes g c =
    let s = c.loop-key.self in
    let old = left_of s.extraction in
    let new = left_of c.take_front.new.self in
    let ps = (map_of s.extraction).now.pairs in
    let qs = (map_of c.take_front.new.self).now.pairs in
    let first = first-left (c.in-Some.key.now, c.in-Some.field-0-1.now) old c.in-Some.ensures in
    let call : CalledAt g.F.FnMut s.pred c.in-Some.key.now true c.pred.new.self = record { shown = c.in-Some.key; shows = refl; called = c.if-pred.ensures } in
    let following = callable-after (CalledAt g.F.FnMut) (TakesAt g.F.FnMut) s.pred c.pred.new.self c.in-Some.key.now (asking_keys s).left _ first c.loop-key.invariant.can _ call in
    let goes = fewer-left g.K.AsBytes.bytes c.in-Some.key.now old new ps qs first (CalledAt g.F.FnMut) (TakesAt g.F.FnMut) c.pred.new.self following c.take_front.result c.take_front.ensures.left c.take_front.ensures.err in
    let less = goes.1 in
    let all = ap length first in
    let fewer = c.loop-key.invariant.fewer in
    let fits : length (keys_of new) < length (asking_keys c.args.self.now).left = omega (arith, less, all, fewer) in
    record { on = λ _. (goes.0, tt, fits); keeps = goes.0; rests = λ _. tt }

pub loop-key-preserved : goal.loop-key-preserved
loop-key-preserved g c =
    let s = c.loop-key.self in
    let old = left_of s.extraction in
    let new = left_of c.pass_front.new.self in
    let first = first-left (c.in-Some.key.now, c.in-Some.field-0-1.now) old c.in-Some.ensures in
    let passed = first-passed c.in-Some.key.now old new first c.pass_front.ensures.left in
    let call : CalledAt g.F.FnMut s.pred c.in-Some.key.now false c.pred.new.self = record { shown = c.in-Some.key; shows = refl; called = c.if-pred.ensures } in
    let m : AskingKeys g.row.K.Denot g.row.F.Denot = record { keys = keys_of (map_of c.pass_front.new.self).now.pairs; left = keys_of new; asks = c.pred.new.self } in
    let all = ap length passed in
    let fewer = c.loop-key.invariant.fewer in
    record {
      same = c.pass_front.ensures.same ∙ c.loop-key.invariant.same;
      can = callable-after (CalledAt g.F.FnMut) (TakesAt g.F.FnMut) s.pred c.pred.new.self c.in-Some.key.now (asking_keys s).left _ passed c.loop-key.invariant.can _ call;
      fewer = omega (arith, all, fewer);
      later = λ r t e. c.loop-key.invariant.later r t
          (extracts-later (CalledAt g.F.FnMut) g.K.AsBytes.bytes (asking_keys s) m c.in-Some.key.now passed call (ap (λ r. keys_of r.now.pairs) c.pass_front.ensures.same) r t e);
    }

pub returns-clause-steps : goal.returns-clause-steps
returns-clause-steps g c =
    let s = c.loop-key.self in
    let kept = subst (λ r. KeepsRoomOf (extract_set c.args.self.now).now.nodes r.now.nodes) (sym c.loop-key.invariant.same) (λ kind n room. room) in (
      ap (λ r. r.ghost_name) c.loop-key.invariant.same,
      c.loop-key.invariant.later None (asking_keys s) (extracts-none (CalledAt g.F.FnMut) g.K.AsBytes.bytes (asking_keys s) (none-first (left_of s.extraction) c.in_default.ensures)),
      (
        subst (λ r. AddsNoLeaf g.K.AsBytes.bytes (extract_set c.args.self.now).now r.now) (sym c.loop-key.invariant.same) (λ slot key has. has),
        kept-uses (extract_set c.args.self.now).now.nodes (extract_set s).now.nodes kept,
        kept-frees (extract_set c.args.self.now).now.nodes (extract_set s).now.nodes kept,
      ),
    )
