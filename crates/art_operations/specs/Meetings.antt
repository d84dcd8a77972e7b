-- Where two lists of bytes part.
use Rattle.std.specs.Prelude.{◌≡◌, ◌≢◌, ℕ, List, ◌∷◌, ◌++◌, length}
use Rattle.art_operations.specs.declared.meeting.Parted.{Parted}

-- they have different bytes after a common front of so many bytes
pub record PartAt (old new : List ℕ) (parted : Parted) : Type 0 where
  pub front : List ℕ
  pub old_rest : List ℕ
  pub new_rest : List ℕ
  pub len : length front ≡ parted.matched
  pub old_is : old ≡ front ++ parted.old_byte ∷ old_rest
  pub new_is : new ≡ front ++ parted.new_byte ∷ new_rest
  pub differs : parted.old_byte ≢ parted.new_byte
