-- The walks that lend the values of all pairs of a map for writing, and are counted.
use Rattle.std.specs.Prelude.{ℕ, ◌-◌, [], List, ◌∷◌, ◌++◌, Option}
use Rattle.std.specs.Borrow.{Fml, RattleType, MutBor, Lends, LendsIf}
use denote.Param.{number}
use mir.Syntax.{named}
use Rattle.art_bytes.specs.declared.as_bytes.AsBytes as as_bytes
use Rattle.art_arena.specs.declared.ends.End.{End}
use Rattle.art_arena.specs.declared.ends.End.TheVariants.{First, Last}
use Rattle.art_walks.specs.Walked.{start_of}
use Rattle.art_map.specs.LentRuns.{end_of, left_after, left_before, run_pairs, with_lent_value}
use Rattle.art_map.specs.LentWalks.{IsLent}
use Rattle.art_map.specs.lemmas.LentSteps.{counted_left, still_left}
use Rattle.art_map.specs.declared.map.iter_mut.IterMut.{IterMut}
use Rattle.art_map.specs.contracts.map.iter_mut.IterMut as iter

module _ {K V : Type 0} {P : ℕ} {g : as_bytes.Ghosts K} where
  -- the pairs still to come
  abbrev pub iter_rest : IterMut K V P g → List (K × V)
  iter_rest walk = run_pairs walk.map.now walk.leaves

  -- the walk after its first pair, and before its last, once w is the value of that pair
  abbrev pub iter_after : IterMut K V P g → V → IterMut K V P g
  iter_after walk w = record walk {
    map = record walk.map { now = with_lent_value walk.map.now (start_of walk.leaves) w };
    leaves = left_after walk.map.now walk.leaves;
    len = walk.len - 1;
    valid = still_left walk.map.now First walk.leaves walk.valid w;
    counted = counted_left walk.map.now First walk.leaves walk.valid w walk.len walk.counted;
  }

  abbrev pub iter_before : IterMut K V P g → V → IterMut K V P g
  iter_before walk w = record walk {
    map = record walk.map { now = with_lent_value walk.map.now (end_of walk.leaves) w };
    leaves = left_before walk.map.now walk.leaves;
    len = walk.len - 1;
    valid = still_left walk.map.now Last walk.leaves walk.valid w;
    counted = counted_left walk.map.now Last walk.leaves walk.valid w walk.len walk.counted;
  }

  -- and at this end
  abbrev pub iter_left : End → IterMut K V P g → V → IterMut K V P g
  iter_left First = iter_after
  iter_left Last = iter_before

  -- p is the first of the pairs still to come, and the last, and is lent
  abbrev pub IsIterFirst : IterMut K V P g → K × V → Type 0
  IsIterFirst walk = IsLent g.bytes iter_rest (λ d. d.map.now) (λ p ps. p ∷ ps) walk (iter_after walk)

  abbrev pub IsIterLast : IterMut K V P g → K × V → Type 0
  IsIterLast walk = IsLent g.bytes iter_rest (λ d. d.map.now) (λ p ps. ps ++ p ∷ []) walk (iter_before walk)

  -- and at this end
  abbrev pub IsIterEnd : End → IterMut K V P g → K × V → Type 0
  IsIterEnd First = IsIterFirst
  IsIterEnd Last = IsIterLast

module _ (K V : RattleType) (P : ℕ) (key : as_bytes.Ghosts K.Denot) where
  -- the walk's type, as the logic holds it. Its lifetime is the second of the signature
  abbrev iter_row : RattleType
  iter_row = iter.the_row (record { mir = named 1; lft = [] }) K V (number P) key

  -- once the borrow r ends, the walk has made a step, and w is the value of the pair, the last that was written
  abbrev pub lends_in_iter : MutBor (IterMut K.Denot V.Denot P key)
      → (V.Denot → IterMut K.Denot V.Denot P key) → MutBor V.Denot → Fml
  lends_in_iter walk left r = Lends iter_row V walk r left

  -- the same, or the walk stays where none is lent
  abbrev pub lends_if_in_iter : MutBor (IterMut K.Denot V.Denot P key)
      → (V.Denot → IterMut K.Denot V.Denot P key) → Option (MutBor V.Denot) → Fml
  lends_if_in_iter walk left r = LendsIf iter_row V walk r left walk.now
