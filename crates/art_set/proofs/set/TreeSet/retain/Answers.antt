use Rattle.std.proofs.Common.{true, false, Ok, Err, length, refl, sym, ap, subst, ◌∙◌}
use Rattle.std.specs.Fn.{CalledAt, TakesAt}
use Rattle.std.specs.Map.{keys_of}
use Rattle.art_arena.proofs.Common.{Shrinks, key_of}
use Rattle.art_map.proofs.Common.{left_of, map_of}
use Rattle.art_map.proofs.RoomKept.{UsesOfGone, none-gone, one-gone, same-gone}
use Rattle.art_operations.proofs.Common.{HasKey, KeepsLeavesOf, on-err, same-names}
use Rattle.art_set.proofs.Terms.{StopsAtKey}
use Rattle.art_set.proofs.AskedKeys.{callable-next, retained-all, retaining-all, retaining-kept, retaining-stopped, retaining-taken, some-left, taken-long}
use Rattle.art_set.proofs.AskedPairs.{asking_by, contents-back, contents_of, first-left, first-passed, frees-keys, none-first, one-less, refused-key, room-keys, taken-key, then-kept, uses-keys}
use Rattle.art_set.proofs.KeyViews.{kept-names}
use Rattle.art_set.proofs.set.TreeSet.retain.Goals as goal

pub loop-key-init : goal.loop-key-init
loop-key-init g c =
    let all = c.all_of-keys.ensures in
    record {
      same_map = refl;
      room = none-gone (contents_of c.args.self.now) _ (all.same_map.1 ∙ contents-back c.self.inside.map ∙ ap contents_of c.self.view_is);
      names = subst (λ a. KeepsLeavesOf g.K.AsBytes.bytes (map_of c.all_of-keys.result).now.pairs a (map_of c.all_of-keys.result).now.nodes) (ap (λ m. m.nodes) all.same_map.1 ∙ ap (λ m. m.nodes) c.self.view_is) (λ slot key has still. has);
      retaining = retaining-all (CalledAt g.F.FnMut) g.K.AsBytes.bytes (TakesAt g.F.FnMut) c.args.keep c.args.self.now.keys
          (asking_by c.all_of-keys.result c.args.keep) (ap (λ m. keys_of m.pairs) all.same_map.1 ∙ ap (λ m. m.keys) c.self.view_is)
          (ap keys_of all.left ∙ ap (λ m. m.keys) c.self.view_is) refl c.iter-keys.ensures.ordered c.requires;
    }

pub keep-requires : goal.keep-requires
keep-requires g c =
    let first = first-left (c.in-Some.key.now, c.in-Some.field-0-1.now) (left_of c.loop-key.keys) c.in-Some.ensures in
    callable-next (CalledAt g.F.FnMut) (TakesAt g.F.FnMut) c.loop-key.keep c.in-Some.key.now (keys_of (left_of c.loop-key.keys)) _ first c.loop-key.invariant.retaining.callable c.in-Some.key refl

pub loop-key-preserved-then-keep : goal.loop-key-preserved-then-keep
loop-key-preserved-then-keep g c =
    let s = asking_by c.loop-key.keys c.loop-key.keep in
    let k = c.in-Some.key.now in
    let first = first-left (k, c.in-Some.field-0-1.now) (left_of c.loop-key.keys) c.in-Some.ensures in
    let call : CalledAt g.F.FnMut c.loop-key.keep k true c.keep.new.self = record { shown = c.in-Some.key; shows = refl; called = c.if-keep.ensures } in
    record {
      same_map = ap (λ r. r.ghost_name) c.pass_front.ensures.same ∙ c.loop-key.invariant.same_map;
      room = subst (λ r. UsesOfGone (contents_of c.args.self.now) r.now) (sym c.pass_front.ensures.same) c.loop-key.invariant.room;
      names = subst (λ r. KeepsLeavesOf g.K.AsBytes.bytes r.now.pairs c.args.self.now.nodes r.now.nodes) (sym c.pass_front.ensures.same) c.loop-key.invariant.names;
      retaining = retaining-kept (CalledAt g.F.FnMut) g.K.AsBytes.bytes (TakesAt g.F.FnMut) c.args.keep c.args.self.now.keys s c.loop-key.invariant.retaining k (asking_by c.pass_front.new.self c.keep.new.self)
          (first-passed k (left_of c.loop-key.keys) (left_of c.pass_front.new.self) first c.pass_front.ensures.left) call (ap (λ r. keys_of r.now.pairs) c.pass_front.ensures.same);
    }

pub returns-in_err-_pair-clause-refused : goal.returns-in_err-_pair-clause-refused
returns-in_err-_pair-clause-refused g c =
    let s = asking_by c.loop-key.keys c.loop-key.keep in
    let k = c.in-Some.key.now in
    let old = left_of c.loop-key.keys in
    let new = left_of c.take_front.new.self in
    let ps = (map_of c.loop-key.keys).now.pairs in
    let qs = (map_of c.take_front.new.self).now.pairs in
    let first = first-left (k, c.in-Some.field-0-1.now) old c.in-Some.ensures in
    let call : CalledAt g.F.FnMut c.loop-key.keep k false c.keep.new.self = record { shown = c.in-Some.key; shows = refl; called = c.if-keep.ensures } in
    let refused = refused-key g.K.AsBytes.bytes {E = Unit {0}} k old new ps qs first (Err tt) (Err tt) refl c.in_err-_pair.ensures.err c.in_err-_pair.ensures.shrinks in
    on-err c.from_residual.result (
      k,
      subst (λ ks. StopsAtKey (CalledAt g.F.FnMut) c.args.keep c.args.self.now.keys k ks) (sym refused.0)
          (retaining-stopped (CalledAt g.F.FnMut) g.K.AsBytes.bytes (TakesAt g.F.FnMut) c.args.keep c.args.self.now.keys s c.loop-key.invariant.retaining k _ c.keep.new.self first call),
      subst (λ ks. Shrinks g.K.AsBytes.bytes ks (g.K.AsBytes.bytes k)) (sym refused.0) refused.2,
    )

pub loop-key-preserved : goal.loop-key-preserved
loop-key-preserved g c =
    let s = asking_by c.loop-key.keys c.loop-key.keep in
    let k = c.in-Some.key.now in
    let old = left_of c.loop-key.keys in
    let new = left_of c.take_front.new.self in
    let ps = (map_of c.loop-key.keys).now.pairs in
    let qs = (map_of c.take_front.new.self).now.pairs in
    let first = first-left (k, c.in-Some.field-0-1.now) old c.in-Some.ensures in
    let call : CalledAt g.F.FnMut c.loop-key.keep k false c.keep.new.self = record { shown = c.in-Some.key; shows = refl; called = c.if-keep.ensures } in
    let p = c.in_ok-_pair._pair in
    let kept = c.in_ok-_pair.ensures in
    let taken = taken-key g.K.AsBytes.bytes {E = Unit {0}} k old new ps qs first (Ok p) (Ok p.0) refl refl kept.left kept.pairs in
    record {
      same_map = kept.same_map ∙ c.loop-key.invariant.same_map;
      room = one-gone (contents_of c.args.self.now) (map_of c.loop-key.keys).now (map_of c.take_front.new.self).now c.loop-key.invariant.room
          (one-less ps qs (taken-long (CalledAt g.F.FnMut) g.K.AsBytes.bytes (TakesAt g.F.FnMut) c.args.keep c.args.self.now.keys s c.loop-key.invariant.retaining k (keys_of new) (keys_of qs) (first-passed k old new first (p, kept.left)) taken.1)) c.take_front.ensures.room kept.leaf_room;
      names = then-kept g.K.AsBytes.bytes ps qs (g.K.AsBytes.bytes p.0) c.args.self.now.nodes (map_of c.loop-key.keys).now.nodes (map_of c.take_front.new.self).now.nodes c.loop-key.invariant.names kept.pairs kept.names;
      retaining = retaining-taken (CalledAt g.F.FnMut) g.K.AsBytes.bytes (TakesAt g.F.FnMut) c.args.keep c.args.self.now.keys s c.loop-key.invariant.retaining k (asking_by c.take_front.new.self c.keep.new.self)
          (first-passed k old new first (p, kept.left)) call taken.1;
    }

pub returns-clause-retained : goal.returns-clause-retained
returns-clause-retained g c =
    retained-all (CalledAt g.F.FnMut) g.K.AsBytes.bytes (TakesAt g.F.FnMut) c.args.keep c.args.self.now.keys (asking_by c.loop-key.keys c.loop-key.keep) c.loop-key.invariant.retaining
    (none-first (left_of c.loop-key.keys) c.in_default.ensures)

pub returns-in_err-_pair-clause-succeeds : goal.returns-in_err-_pair-clause-succeeds
returns-in_err-_pair-clause-succeeds g c = λ room.
    let s = asking_by c.loop-key.keys c.loop-key.keep in
    let first = first-left (c.in-Some.key.now, c.in-Some.field-0-1.now) (left_of c.loop-key.keys) c.in-Some.ensures in
    let some = some-left (CalledAt g.F.FnMut) g.K.AsBytes.bytes (TakesAt g.F.FnMut) c.args.keep c.args.self.now.keys s c.loop-key.invariant.retaining c.in-Some.key.now _ first in
    let never = c.in_err-_pair.ensures.succeeds (room-keys c.args.self.now (map_of c.loop-key.keys).now c.loop-key.invariant.room some room) in
    absurd (cc)

pub returns-in_err-_pair-clause-room : goal.returns-in_err-_pair-clause-room
returns-in_err-_pair-clause-room g c =
    let refused = c.in_err-_pair.ensures in
    uses-keys c.args.self.now (map_of c.take_front.new.self).now
    (same-gone (contents_of c.args.self.now) (map_of c.loop-key.keys).now (map_of c.take_front.new.self).now c.loop-key.invariant.room (ap length refused.err.1) refused.untouched.2)

pub returns-clause-room : goal.returns-clause-room
returns-clause-room g c = uses-keys c.args.self.now (map_of c.loop-key.keys).now c.loop-key.invariant.room

pub returns-in_err-_pair-clause-leaf_room : goal.returns-in_err-_pair-clause-leaf_room
returns-in_err-_pair-clause-leaf_room g c =
    let refused = c.in_err-_pair.ensures in
    frees-keys c.args.self.now (map_of c.take_front.new.self).now
    (same-gone (contents_of c.args.self.now) (map_of c.loop-key.keys).now (map_of c.take_front.new.self).now c.loop-key.invariant.room (ap length refused.err.1) refused.untouched.2)

pub returns-clause-leaf_room : goal.returns-clause-leaf_room
returns-clause-leaf_room g c = frees-keys c.args.self.now (map_of c.loop-key.keys).now c.loop-key.invariant.room

pub returns-in_err-_pair-clause-names : goal.returns-in_err-_pair-clause-names
returns-in_err-_pair-clause-names g c =
    let refused = c.in_err-_pair.ensures in
    let was = (map_of c.loop-key.keys).now.nodes in
    let is = (map_of c.take_front.new.self).now.nodes in
    kept-names g.K.AsBytes.bytes (map_of c.take_front.new.self).now.pairs c.args.self.now.nodes is
    (λ slot key has still. same-names g.K.AsBytes.bytes was is refused.untouched.0 slot key (c.loop-key.invariant.names slot key has (subst (HasKey (key_of g.K.AsBytes.bytes) key) refused.err.1 still)))

pub returns-clause-names : goal.returns-clause-names
returns-clause-names g c = kept-names g.K.AsBytes.bytes (map_of c.loop-key.keys).now.pairs c.args.self.now.nodes (map_of c.loop-key.keys).now.nodes c.loop-key.invariant.names
