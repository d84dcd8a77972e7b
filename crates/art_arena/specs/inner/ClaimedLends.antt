-- What a slab of which room is claimed ends as, where a `&mut` to one of its values is returned.
use Rattle.std.specs.Prelude.{ℕ}
use Rattle.std.specs.Borrow.{Lends, Fml, RattleType, MutBor}
use Rattle.slab.specs.Slab.{Slab, with_value}
use Rattle.art_arena.specs.contracts.claimed.ClaimedSlab.{the_row}

module _ (T : RattleType) (s : MutBor (Slab T.Denot)) (key : ℕ) where
  -- once the borrow r ends, the key has the last value written through r
  abbrev pub lends_at : MutBor T.Denot → Fml
  lends_at r = Lends (the_row T) T s r (with_value s.now key)
