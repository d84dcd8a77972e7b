-- A node of the largest kind has room under each byte.
use Rattle.std.proofs.Common.{ℕ, suc, ◌<◌, ◌⊎◌, List, length, IsSome, inl, inr, arith}
use Rattle.std.proofs.lemmas.Bool.Decides.{leb_tells}
use Rattle.art_nodes.proofs.Common.{Name, IsAscending, child_at}
use Rattle.art_nodes.proofs.ReplayLemmas.{at_most_256, each_byte_held}

pub room_in_largest : (byte : ℕ) (children : List (ℕ × Name)) → IsAscending children → byte < 256 → (length children < 256) ⊎ IsSome (child_at children byte)
room_in_largest byte children rises fits = elim (leb_tells (suc (length children)) 256) [
  | inl few ↦ inl few.1
  | inr all ↦ inr (each_byte_held 0 byte children rises (omega (arith, all.1, at_most_256 0 children (omega arith) rises)) (omega arith) fits)
]
