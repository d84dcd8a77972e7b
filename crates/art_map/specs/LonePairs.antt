-- What a contract says of the pair that an insertion would remove, where it is one alone and is lent.
use Rattle.std.specs.Prelude.{◌≡◌, ℕ, [], Option, option_map, MatchOption}
use Rattle.std.specs.Borrow.{Fml, RattleType, MutBor, LendsSo}
use Rattle.std.specs.Option.{OnSome}
use denote.Param.{number}
use mir.Syntax.{named}
use Rattle.art_arena.specs.arena.Arena.{KeepsRoomOf}
use Rattle.art_bytes.specs.declared.as_bytes.AsBytes as as_bytes
use Rattle.art_operations.specs.Pairs.{with_pair_put}
use Rattle.art_map.specs.LoneLeaves.{pair_where}
use Rattle.art_map.specs.LeafNames.{KeepsAllLeaves}
use Rattle.art_map.specs.declared.map.prefix_entry.lone.LonePairMut.{LonePairMut}
use Rattle.art_map.specs.contracts.map.prefix_entry.lone.LonePairMut as lone

module _ {K V : Type 0} {P : ℕ} {g : as_bytes.Ghosts K} where
  -- the pair, if there is one alone
  abbrev pub shown_pair : LonePairMut K V P g → Option (K × V)
  shown_pair e = pair_where e.map.now e.leaf

  -- n is e, once w is the value of its pair: all else of the map is as it was, each leaf has the key that it had,
  -- and room stays
  pub record IsLoneWritten (e : LonePairMut K V P g) (w : V) (n : LonePairMut K V P g) : Type 0 where
    pub same_map : n.map.ghost_name ≡ e.map.ghost_name
    pub pair : shown_pair n ≡ option_map (λ p. (p.0, w)) (shown_pair e)
    pub pairs : MatchOption (shown_pair e) (n.map.now.pairs ≡ e.map.now.pairs)
        (λ p. n.map.now.pairs ≡ with_pair_put g.bytes p.0 w e.map.now.pairs)
    pub names : KeepsAllLeaves g.bytes e.map.now n.map.now
    pub room : KeepsRoomOf e.map.now.nodes n.map.now.nodes

module _ (K V : RattleType) (P : ℕ) (key : as_bytes.Ghosts K.Denot) where
  -- Once the borrow r ends, the pair has the last value written through r, and at `None` it is as it was. Its lifetime
  -- is the second of the signature.
  abbrev pub lends_shown_value : MutBor (LonePairMut K.Denot V.Denot P key) → Option (MutBor V.Denot) → Fml
  lends_shown_value e r =
      LendsSo (lone.the_row (record { mir = named 1; lft = [] }) K V (number P) key) V e r
      (λ n w. OnSome r (IsLoneWritten e.now w n))
      (λ n. (n.map ≡ e.now.map) × (n.leaf ≡ e.now.leaf))
