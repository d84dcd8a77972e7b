-- The walks that lend values for writing: the pairs still to come, and what a walk is once a value was written.
use Rattle.std.specs.Prelude.{◌≡◌, ℕ, [], List, ◌∷◌, ◌++◌, Option, Some, None}
use Rattle.std.specs.Borrow.{Fml, RattleType, MutBor, Lends, LendsIf}
use denote.Param.{number}
use mir.Syntax.{named}
use Rattle.art_bytes.specs.declared.as_bytes.AsBytes as as_bytes
use Rattle.art_arena.specs.arena.Arena.{KeepsRoomOf}
use Rattle.art_arena.specs.declared.ends.End.{End}
use Rattle.art_arena.specs.declared.ends.End.TheVariants.{First, Last}
use Rattle.art_operations.specs.Pairs.{with_pair_put}
use Rattle.art_walks.specs.Walked.{start_of}
use Rattle.art_map.specs.Contents.{Contents}
use Rattle.art_map.specs.LentRuns.{end_of, left_after, left_before, run_pairs, with_lent_value}
use Rattle.art_map.specs.lemmas.LentSteps.{still_left}
use Rattle.art_map.specs.declared.map.walks_mut.RangeMut.{RangeMut}
use Rattle.art_map.specs.contracts.map.walks_mut.RangeMut as range

-- a walk lends this pair: once w is its value, it has the pairs that are left, and its map has the value under the
-- key, and its room
pub record IsLent {K V W : Type 0} (bytes : K → List ℕ) (rest : W → List (K × V)) (map : W → Contents K V)
    (order : K × V → List (K × V) → List (K × V)) (walk : W) (left : V → W) (p : K × V) : Type 0 where
  pub rest_is : (w : V) → rest walk ≡ order p (rest (left w))
  pub pairs : (w : V) → (map (left w)).pairs ≡ with_pair_put bytes p.0 w (map walk).pairs
  pub room : (w : V) → KeepsRoomOf (map walk).nodes (map (left w)).nodes

-- a walk lends the value of a pair, or has none left
abbrev pub LendsValue : {K V : Type 0} → (K × V → Type 0) → List (K × V) → Option (MutBor V) → Type 0
LendsValue {K} lent rest None = rest ≡ []
LendsValue {K} lent rest (Some value) = (k : K) × lent (k, value.now)

module _ {K V : Type 0} {P : ℕ} {g : as_bytes.Ghosts K} where
  -- the pairs still to come
  abbrev pub range_rest : RangeMut K V P g → List (K × V)
  range_rest walk = run_pairs walk.map.now walk.leaves

  -- the walk after its first pair, and before its last, once w is the value of that pair
  abbrev pub range_after : RangeMut K V P g → V → RangeMut K V P g
  range_after walk w = record walk {
    map = record walk.map { now = with_lent_value walk.map.now (start_of walk.leaves) w };
    leaves = left_after walk.map.now walk.leaves;
    valid = still_left walk.map.now First walk.leaves walk.valid w;
  }

  abbrev pub range_before : RangeMut K V P g → V → RangeMut K V P g
  range_before walk w = record walk {
    map = record walk.map { now = with_lent_value walk.map.now (end_of walk.leaves) w };
    leaves = left_before walk.map.now walk.leaves;
    valid = still_left walk.map.now Last walk.leaves walk.valid w;
  }

  -- and at this end
  abbrev pub range_left : End → RangeMut K V P g → V → RangeMut K V P g
  range_left First = range_after
  range_left Last = range_before

  -- p is the first of the pairs still to come, and the last, and is lent
  abbrev pub IsRangeFirst : RangeMut K V P g → K × V → Type 0
  IsRangeFirst walk = IsLent g.bytes range_rest (λ d. d.map.now) (λ p ps. p ∷ ps) walk (range_after walk)

  abbrev pub IsRangeLast : RangeMut K V P g → K × V → Type 0
  IsRangeLast walk = IsLent g.bytes range_rest (λ d. d.map.now) (λ p ps. ps ++ p ∷ []) walk (range_before walk)

  -- and at this end
  abbrev pub IsRangeEnd : End → RangeMut K V P g → K × V → Type 0
  IsRangeEnd First = IsRangeFirst
  IsRangeEnd Last = IsRangeLast

module _ (K V : RattleType) (P : ℕ) (key : as_bytes.Ghosts K.Denot) where
  -- the walk's type, as the logic holds it. Its lifetime is the second of the signature
  abbrev range_row : RattleType
  range_row = range.the_row (record { mir = named 1; lft = [] }) K V (number P) key

  -- once the borrow r ends, the walk has made a step, and w is the value of the pair, the last that was written
  abbrev pub lends_in_range : MutBor (RangeMut K.Denot V.Denot P key)
      → (V.Denot → RangeMut K.Denot V.Denot P key) → MutBor V.Denot → Fml
  lends_in_range walk left r = Lends range_row V walk r left

  -- the same, or the walk stays where none is lent
  abbrev pub lends_if_in_range : MutBor (RangeMut K.Denot V.Denot P key)
      → (V.Denot → RangeMut K.Denot V.Denot P key) → Option (MutBor V.Denot) → Fml
  lends_if_in_range walk left r = LendsIf range_row V walk r left walk.now
