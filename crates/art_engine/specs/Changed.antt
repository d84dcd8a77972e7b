-- How a change went: how that is told, and what it left.
use Rattle.std.specs.Prelude.{◌≡◌, ℕ, Bool, true, false, List, [], ◌∷◌, codes, Some}
use Rattle.art_engine.specs.declared.change.Changed.{Changed}
use Rattle.art_engine.specs.declared.change.Changed.TheVariants as changed
use Rattle.art_lines.specs.Words.{Word, name, natural, bytes}
use Rattle.art_lines.specs.Commands.{put, Command}
use Rattle.art_engine.specs.Records.{Records, own}
use Rattle.art_engine.specs.Refusals.{MayRefuse}
use Rattle.art_engine.specs.Replies.{own_reply, own_after, with_changed, command_reply, command_after}

-- the words that tell how a change went
abbrev pub changed_words : Changed → List Word
changed_words (changed.Old old) = name (codes "old") ∷ bytes old.items ∷ []
changed_words changed.New = name (codes "new") ∷ []
changed_words changed.Conflict = name (codes "conflict") ∷ []
changed_words changed.Memory = name (codes "memory") ∷ []
changed_words (changed.Over count) = name (codes "over") ∷ natural count ∷ []
changed_words (changed.Gone value) = name (codes "gone") ∷ bytes value.items ∷ []
changed_words changed.Absent = name (codes "none") ∷ []

-- whether it found no memory
abbrev pub change_is_memory : Changed → Bool
change_is_memory changed.Memory = true
change_is_memory other = false

-- A put was done as it is answered; where it found no memory, nothing is changed.
abbrev pub IsPutDone : Changed → Records → ℕ → List ℕ → List ℕ → Records → Type 0
IsPutDone changed.Memory old tenant key value new = new ≡ old
IsPutDone p old tenant key value new =
    (changed_words p ∷ [] ≡ own_reply (put key value) (own tenant old))
    × (new ≡ with_changed tenant (own_after (put key value) (own tenant old)) old)

-- A change was done as it is answered; where it found no memory, it may do so, and nothing is changed.
abbrev pub IsChangeDone : Changed → Command → Records → Records → Type 0
IsChangeDone changed.Memory command old new = (new ≡ old) × MayRefuse old command
IsChangeDone p command old new =
    (changed_words p ∷ [] ≡ command_reply (Some command) old) × (new ≡ command_after (Some command) old)
