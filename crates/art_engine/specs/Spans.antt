-- What a reader of the records' map reads, and what is left of a span of it.
use Rattle.std.specs.Prelude.{ℕ, ◌≡◌, ◌+◌, ◌^◌, ◌<◌, ◌≤◌, ℤ, FitsSigned, List, [], ◌∷◌, length, drop}
use Rattle.std.specs.Prelude.{Option, Some, None, option_map}
use Rattle.std.specs.Global.{Vec}
use Rattle.std.specs.Int.{w64}
use Rattle.art_arena.specs.arena.Arena.{Arena}
use Rattle.art_walks.specs.MapReads.{ReadMap, ReadsPairs}
use Rattle.art_walks.specs.Runs.{Ends}
use Rattle.art_walks.specs.Walked.{pairs_left}
use Rattle.art_lines.specs.Words.{line_of}
use Rattle.art_engine.specs.Keys.{number_of_bytes}
use Rattle.art_lines.specs.ReplyWords.{pair_words, number_words}
use Rattle.art_engine.specs.Stored.{Pair, NumberPair, ArePairs, AreNumberPairs}

-- A reader reads the map of these pairs, which an index may hold, and a map has no more than can be counted.
pub record ReadsRecords (P : ℕ) (map : ReadMap (Vec ℕ) (Vec ℕ)) (pairs : List Pair) : Type 0 where
  pub read : ReadsPairs (λ k. k.items) P map.nodes map.root pairs
  pub are : ArePairs pairs
  pub few : length pairs < 2 ^ 64

-- likewise of records under numbers
pub record ReadsNumbers (P : ℕ) (map : ReadMap (List ℕ) (Vec ℕ)) (pairs : List NumberPair) : Type 0 where
  pub read : ReadsPairs (λ k. k) P map.nodes map.root pairs
  pub are : AreNumberPairs pairs
  pub few : length pairs < 2 ^ 64

-- the one that was read ahead, if there is one, and those after it
abbrev pub pending : {X : Type 0} → Option X → List X → List X
pending None rest = rest
pending (Some x) rest = x ∷ rest

-- those that were read ahead, each if there is one, and those after them
abbrev pub pending_all : {R X : Type 0} → (R → X) → List (Option R) → List X → List X
pending_all read [] rest = rest
pending_all read (o ∷ os) rest = pending (option_map read o) (pending_all read os rest)

-- where there is none, there is none after it
abbrev pub IsClosed : {R X : Type 0} → (R → X) → List (Option R) → List X → Type 0
IsClosed read [] rest = Unit {0}
IsClosed read (None ∷ os) rest = pending_all read os rest ≡ []
IsClosed read (Some r ∷ os) rest = IsClosed read os rest

-- the pairs that a span has still to give
abbrev pub span_pairs : {K V : Type 0} → Arena K V → Ends → List (K × V)
span_pairs arena ends = pairs_left arena ends

-- a pair without its tenant
abbrev pub own_pair : Pair → List ℕ × List ℕ
own_pair p = (drop 4 p.0.items, p.1.items)

-- a pair has a tenant before its key, and its line is shorter than the one that made it
abbrev pub IsListed : Pair → Type 0
IsListed p = (4 ≤ length p.0.items) × (3 + length (line_of (pair_words (own_pair p))) ≤ 4097)

-- a number's pair without its tenant; its line is no longer than one may be, and its number has 64 bits
abbrev pub own_number : NumberPair → ℤ × List ℕ
own_number p = (number_of_bytes (drop 4 p.0), p.1.items)

abbrev pub IsNumbered : NumberPair → Type 0
IsNumbered p = (length (line_of (number_words (own_number p))) ≤ 4097) × FitsSigned w64 (number_of_bytes (drop 4 p.0))
