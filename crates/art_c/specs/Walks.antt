-- What a call gives that copies out many pairs in order, or many words.
use Rattle.std.specs.Prelude.{◌≡◌, ℕ, zero, suc, ◌≤◌, Bool, true, false, IsTrue}
use Rattle.std.specs.Prelude.{List, [], ◌∷◌, ◌++◌, length, map, Option, Some, None}
use Rattle.art_map.specs.Asked.{from_end}
use Rattle.art_map.specs.Contents.{first_item}
use Rattle.art_c.specs.Copies.{written}
use Rattle.art_c.specs.Handles.{Pairs}
use Rattle.art_c.specs.Layouts.{end_to_end, items_of_pairs, with_first}
use Rattle.art_c.specs.Spans.{Reach, AreReached, goes_to, met_of}
use Rattle.art_c.specs.declared.code.Code.{Code}
use Rattle.art_c.specs.declared.code.Code.TheVariants.{Done, NotFound, NoRoom, More}

-- what a caller lends for many pairs: room for their bytes, places for what tells them, and where their number is told
pub record ManyRooms (I : Type 0) : Type 0 where
  pub bytes : List ℕ
  pub items : List I
  pub count : ℕ

abbrev pub many_rooms : {I : Type 0} → List ℕ → List I → ℕ → ManyRooms I
many_rooms bytes items count = record { bytes = bytes; items = items; count = count }

-- the next of some pairs is taken from the end that is walked from, or the walk goes on to none
abbrev pub TakesNext : {V : Type 0} → Reach → Pairs V → Option (List ℕ × V) → Pairs V → Type 0
TakesNext r old None new = met_of r old ≡ []
TakesNext r old (Some p) new =
    (from_end r.end old ≡ p ∷ from_end r.end new) × IsTrue (goes_to r p)

module _ {V I : Type 0} (text : V → List ℕ) (item : List ℕ → V → I) where
  -- these pairs go into the rooms
  abbrev pub Fit : Pairs V → ManyRooms I → Type 0
  Fit pairs x = (length (end_to_end text pairs) ≤ length x.bytes) × (length pairs ≤ length x.items)

  -- there is no other pair, or it does not go in beside these
  abbrev pub NoneElseFits : Pairs V → Pairs V → ManyRooms I → Type 0
  NoneElseFits given [] x = Unit {0}
  NoneElseFits given (p ∷ rest) x = Fit (given ++ p ∷ []) x → ⊥

  -- the rooms with these pairs at their start, whose rest is what it was
  abbrev pub with_pairs_copied : Pairs V → ManyRooms I → ManyRooms I
  with_pairs_copied given x = record {
    bytes = written (end_to_end text given) x.bytes;
    items = written (items_of_pairs item given) x.items;
    count = length given;
  }

  -- As many of these pairs were copied out as go in, from the first one on, and the next is told that does not go in.
  abbrev pub AreTaken : Pairs V → ManyRooms I → Option (List ℕ × V) → ManyRooms I → Type 0
  AreTaken pairs x other y =
      (given : Pairs V) × (rest : Pairs V) × (pairs ≡ given ++ rest) × (other ≡ first_item rest)
      × Fit given x × NoneElseFits given rest x × (y ≡ with_pairs_copied given x)

  -- the rooms where not even the first pair goes in: what tells it is in the first place
  abbrev pub with_first_told : List ℕ × V → ManyRooms I → ManyRooms I
  with_first_told p x = record { bytes = x.bytes; items = with_first (item p.0 p.1) x.items; count = 0 }

  -- what is answered of the pairs that were copied out and of the others, and the rooms then
  abbrev pub AreCopied : Pairs V → Pairs V → ManyRooms I → Code → ManyRooms I → Type 0
  AreCopied (p ∷ ps) [] x code y = (code ≡ Done) × (y ≡ with_pairs_copied (p ∷ ps) x)
  AreCopied (p ∷ ps) (q ∷ rest) x code y = (code ≡ More) × (y ≡ with_pairs_copied (p ∷ ps) x)
  AreCopied [] [] x code y = (code ≡ NotFound) × (y ≡ with_pairs_copied [] x)
  AreCopied [] (p ∷ rest) x code y = (code ≡ NoRoom) × (y ≡ with_first_told p x)

  -- As many of the pairs of a span are copied out as go in, from the first one on.
  abbrev pub IsWalked : Reach → Pairs V → ManyRooms I → Code → ManyRooms I → Type 0
  IsWalked r pairs x code y =
      (given : Pairs V) × (rest : Pairs V) × AreReached r pairs (given ++ rest)
      × Fit given x × NoneElseFits given rest x × AreCopied given rest x code y

-- the words of some pairs
abbrev pub words_of_pairs : Pairs ℕ → List ℕ
words_of_pairs pairs = map (λ p. p.1) pairs

-- whether others are left after the pairs that were told: all places are taken then
abbrev pub TellingEnds : {X : Type 0} → Pairs ℕ → Pairs ℕ → List X → Bool → Type 0
TellingEnds [] given x more = more ≡ false
TellingEnds (p ∷ rest) given x more = (more ≡ true) × (length given ≡ length x)

-- As many of these pairs are told as there are places, each by an item, and their number, and whether others are left.
abbrev pub AreTold : {X : Type 0} → (List ℕ × ℕ → X) → Pairs ℕ → List X → ℕ → Bool → List X → Type 0
AreTold tells pairs x count is_more y =
    (given : Pairs ℕ) × (rest : Pairs ℕ) × (pairs ≡ given ++ rest) × (length given ≤ length x)
    × (y ≡ written (map tells given) x) × (count ≡ length given) × TellingEnds rest given x is_more

-- the same by their words, which are copied out
abbrev pub AreWordsTaken : Pairs ℕ → List ℕ → ℕ → Bool → List ℕ → Type 0
AreWordsTaken pairs x count is_more y = AreTold (λ p. p.1) pairs x count is_more y

-- what is answered then
abbrev pub words_code : ℕ → Bool → Code
words_code zero false = NotFound
words_code zero true = NoRoom
words_code (suc n) false = Done
words_code (suc n) true = More

-- as many of the words of a span are copied out as there are places
abbrev pub IsWordsWalked : Reach → Pairs ℕ → List ℕ × ℕ → Code → List ℕ × ℕ → Type 0
IsWordsWalked r pairs x code y =
    (met : Pairs ℕ) × (is_more : Bool) × AreReached r pairs met × AreWordsTaken met x.0 y.1 is_more y.0
    × (code ≡ words_code y.1 is_more)
