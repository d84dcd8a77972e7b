-- What is known of the record that a look-up is for, before its turn.
use Rattle.std.specs.Prelude.{◌≡◌, ◌≤◌, ℕ, ◌+◌, ◌-◌, Bool, true, false, List, [], ◌∷◌, length, take, codes}
use Rattle.std.specs.Prelude.{Option, Some, None}
use Rattle.art_lines.specs.Commands.{Command, of_tenant, get, find, nget}
use Rattle.art_lines.specs.ReplyWords.{find_reply, found_or, pair_words}
use Rattle.art_lines.specs.Words.{Word, line_of}
use Rattle.art_engine.specs.Counts.{IsWithin, visits_of}
use Rattle.art_engine.specs.Records.{Records}
use Rattle.art_engine.specs.Replies.{command_reply}
use Rattle.art_engine.specs.declared.read_ahead.landing.Landing.{Landing}
use Rattle.art_engine.specs.declared.read_ahead.landing.Landing.TheVariants.{Open, Leaf, Missed, Found}

-- whether it is a look-up of one record
abbrev pub is_of_one : Option Command → Bool
is_of_one (Some (of_tenant tenant (get key))) = true
is_of_one (Some (of_tenant tenant (find key))) = true
is_of_one (Some (of_tenant tenant (nget number))) = true
is_of_one other = false

-- the reply to it: with the value that was kept, and for a `find` with so much of its key as the record's has
abbrev pub landed_reply : Option Command → Landing → List ℕ → List Word
landed_reply (Some (of_tenant tenant (find key))) (Found len) value = find_reply (Some (take (len - 4) key, value))
landed_reply command (Found len) value = found_or (Some value) (codes "is") (codes "none")
landed_reply command other value = found_or None (codes "is") (codes "none")

-- Where something is known of its record, the look-up is answered so, a pair by a line that isn't too long. It reads as
-- many nodes as were read ahead of it.
pub record IsLandedBy (P : ℕ) (records : Records) (command : Option Command) (landing : Landing) (value : List ℕ)
    (read : ℕ) : Type 0 where
  pub reply : command_reply command records ≡ landed_reply command landing value ∷ []
  pub short : (pair : List ℕ × List ℕ) → landed_reply command landing value ≡ find_reply (Some pair)
      → 3 + length (line_of (pair_words pair)) ≤ 4097
  pub visits : IsWithin (visits_of P command records) read

abbrev pub IsLandingOf : ℕ → Records → Option Command → Landing → List ℕ → ℕ → Type 0
IsLandingOf P records command Open value read = Unit {0}
IsLandingOf P records command Leaf value read = Unit {0}
IsLandingOf P records command landing value read =
    is_of_one command ≡ true → IsLandedBy P records command landing value read
