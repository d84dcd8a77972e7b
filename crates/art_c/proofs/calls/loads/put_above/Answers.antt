use Rattle.std.proofs.Common.{◌≡◌, Bool, true, false, ◌+◌, ◌≤◌, ℕ, refl, sym, subst, ◌∙◌, arith}
use Rattle.std.specs.Prelude.{if◌then◌else◌}
use Rattle.art_bytes.specs.Keys.{AreBytes}
use Rattle.art_map.specs.Builders.{HasGathered, HasRoomLeft}
use Rattle.art_operations.specs.Pairs.{with_pair_put}
use Rattle.art_c.specs.Calls.{whole}
use Rattle.art_c.proofs.Loads.{after-above, some-room}
use Rattle.art_c.proofs.calls.loads.put_above.Goals as goal

-- where the key did not go after all, the pairs and the room are as they were
pairs-kept : {X : Type 0} (IsSo : X → Type 0) (out : Bool) (put kept : X) → out ≡ false → IsSo (if out then put else kept) → IsSo kept
pairs-kept IsSo out put kept is so = subst (λ b. IsSo (if b then put else kept)) is so

room-kept : (IsSo : ℕ → Type 0) (out : Bool) (n : ℕ) → out ≡ false → IsSo n → IsSo (if out then n + 2 else n)
room-kept IsSo out n is so = subst (λ b. IsSo (if b then n + 2 else n)) (sym is) so

pub returns-then-at_end-clause-pairs : goal.returns-then-at_end-clause-pairs
returns-then-at_end-clause-pairs g c = λ ps had.
    subst (λ b. HasGathered whole AreBytes c.push_after.new.builder
    (if b then with_pair_put whole c.args.key.now (g.V.Value.value_of c.args.item c.args.text.now) ps else ps)) c.if-at_end.true
    (c.push_after.ensures.pairs ps had)

pub returns-then-at_end-clause-above : goal.returns-then-at_end-clause-above
returns-then-at_end-clause-above g c = λ _ ps had has. after-above _ c.args.key.now ps (c.push_after.ensures.after c.if-at_end.true ps had) has

pub returns-then-at_end-clause-room : goal.returns-then-at_end-clause-room
returns-then-at_end-clause-room g c = λ n one left.
    c.push_after.ensures.room n one (subst (λ b. HasRoomLeft c.args.builder.now (if b then n + 2 else n)) (sym c.if-at_end.true) left)

pub returns-then-not-rises-clause-pairs : goal.returns-then-not-rises-clause-pairs
returns-then-not-rises-clause-pairs g c = λ ps had. pairs-kept (HasGathered whole AreBytes c.push_after.new.builder) c.push_after.result _ ps c.if-at_end.false (c.push_after.ensures.pairs ps had)

pub returns-then-not-rises-clause-room : goal.returns-then-not-rises-clause-room
returns-then-not-rises-clause-room g c = λ n one left. c.push_after.ensures.room n one (room-kept (HasRoomLeft c.args.builder.now) c.push_after.result n c.if-at_end.false left)

pub returns-then-not-rises-clause-refused : goal.returns-then-not-rises-clause-refused
returns-then-not-rises-clause-refused g c = λ _ ps had above left key text.
    let e : true ≡ false = sym above ∙ sym c.is_above-rises.ensures ∙ c.if-not-rises.true in absurd (cc)

pub returns-clause-pairs : goal.returns-clause-pairs
returns-clause-pairs g c = λ ps had.
    c.put_inside.ensures.pairs ps (pairs-kept (HasGathered whole AreBytes c.push_after.new.builder) c.push_after.result _ ps c.if-at_end.false (c.push_after.ensures.pairs ps had))

pub returns-clause-above : goal.returns-clause-above
returns-clause-above g c = λ _ ps had has. sym c.is_above-rises.ensures ∙ c.if-not-rises.false

pub returns-clause-room : goal.returns-clause-room
returns-clause-room g c = λ n one left.
    c.put_inside.ensures.room n one
    (c.push_after.ensures.room _ (some-room c.put_inside.result n one) (room-kept (HasRoomLeft c.args.builder.now) c.push_after.result _ c.if-at_end.false left))

pub returns-clause-refused : goal.returns-clause-refused
returns-clause-refused g c = λ out ps had above left key text.
    c.put_inside.ensures.refused out ps (pairs-kept (HasGathered whole AreBytes c.push_after.new.builder) c.push_after.result _ ps c.if-at_end.false (c.push_after.ensures.pairs ps had))
    (c.push_after.ensures.room 2 (omega arith) (room-kept (HasRoomLeft c.args.builder.now) c.push_after.result 2 c.if-at_end.false left)) key text
