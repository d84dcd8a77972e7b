-- The invariant is what was taken so far, as `Taken` has it, whatever pairs the map in the making had; the room that is
-- left; and that what is left of the buffer is short where all is.
use Rattle.std.proofs.Common.{ℕ, ◌+◌, ◌*◌, ◌≤◌, drop}
use Rattle.std.specs.Prelude.{option_map}
use Rattle.art_bytes.specs.Keys.{AreBytes}
use Rattle.art_map.specs.Builders.{HasGathered, HasRoomLeft}
use Rattle.art_c.specs.Calls.{whole}
use Rattle.art_c.specs.Handles.{Pairs}
use Rattle.art_c.specs.Loads.{AreShort}
use Rattle.art_c.proofs.Loads.{Taken}
use Rattle.art_c.proofs.calls.loads.put_rising.Given as goal

abbrev pub invariant-loop-at : goal.invariant-loop-at
invariant-loop-at g l =
    ((old : Pairs g.row.V.Denot) → HasGathered whole AreBytes l.fn.builder old
    → (now : Pairs g.row.V.Denot) × HasGathered whole AreBytes l.builder now
    × Taken g.V.Value.text_of g.V.Value.item_of l.bytes l.items old l.rest (drop l.at l.items) l.at
    (option_map (λ b. b.now) l.before) now)
    × ((n : ℕ) → 1 ≤ n → HasRoomLeft l.fn.builder (n + 2 * l.at) → HasRoomLeft l.builder n)
    × (AreShort g.V.Value.key_len_of g.V.Value.text_len_of l.items
    → AreShort g.V.Value.key_len_of g.V.Value.text_len_of (drop l.at l.items))
