-- A walk that copies pairs out, as far as it has come.
use Rattle.std.proofs.Common.{◌≡◌, ◌==◌, ℕ, ◌+◌, ◌<◌, ◌≤◌, ◌-◌, zero, suc, Bool, true, false, not, List, [], ◌∷◌, ◌++◌, length, map, take, drop, Option, refl, sym, ap, ap₂, subst, ◌∙◌, append_assoc, arith, inl, inr}
use Rattle.std.specs.Prelude.{IsTrue, if◌then◌else◌}
use Rattle.std.proofs.lemmas.Bool.Decides.{eqb_tells}
use Rattle.std.proofs.Math.ListN.{set}
use Rattle.std.proofs.lemmas.List.{length-append, length-drop, length-map, length-reverse, map-append}
use Rattle.art_arena.specs.declared.ends.End.{End}
use Rattle.art_arena.specs.declared.ends.End.TheVariants.{First, Last}
use Rattle.art_map.proofs.Common.{from_end, first_item}
use Rattle.art_c.specs.Copies.{written}
use Rattle.art_c.specs.Handles.{Pairs}
use Rattle.art_c.specs.Layouts.{end_to_end, items_of_pairs}
use Rattle.art_c.specs.Spans.{Reach, goes_on, goes_to, met_of, while_so}
use Rattle.art_c.specs.Walks.{AreTaken, AreTold, Fit, NoneElseFits, ManyRooms, many_rooms}
use Rattle.art_c.proofs.Layouts.{bytes-more, items-more, set-more, written-more}

length-written : {X : Type 0} (a r : List X) → length a ≤ length r → length (written a r) ≡ length r
length-written a r h = omega (arith, length-append a (drop (length a) r), length-drop (length a) r)

module _ {V I : Type 0} (text : V → List ℕ) (item : List ℕ → V → I) where
  module _ (all : Pairs V) (x : ManyRooms I) where
    -- these pairs were copied out, and these are left
    pub record CopiedOut (left : Pairs V) (bytes : List ℕ) (items : List I) (at count : ℕ) : Type 0 where
      pub given : Pairs V
      pub are : all ≡ given ++ left
      pub at_is : at ≡ length (end_to_end text given)
      pub count_is : count ≡ length given
      pub bytes_are : bytes ≡ written (end_to_end text given) x.bytes
      pub items_are : items ≡ written (items_of_pairs item given) x.items
      pub fit : Fit text item given x

  module _ (all : Pairs V) (x : ManyRooms I) {left : Pairs V} {bytes : List ℕ} {items : List I} {at count : ℕ}
      (c : CopiedOut all x left bytes items at count) (p : List ℕ × V) where
    -- how long the pairs are with this one after them
    long : length (end_to_end text (c.given ++ p ∷ [])) ≡ length (end_to_end text c.given) + (length p.0 + length (text p.1))
    long = ap length (bytes-more text c.given p) ∙ length-append (end_to_end text c.given) (p.0 ++ text p.1)
        ∙ ap (λ n. length (end_to_end text c.given) + n) (length-append p.0 (text p.1))

    long-bytes : length bytes ≡ length x.bytes
    long-bytes = ap length c.bytes_are ∙ length-written (end_to_end text c.given) x.bytes c.fit.0

    long-items : length items ≡ length x.items
    long-items =
        let is : length (items_of_pairs item c.given) ≡ length c.given = length-map c.given (λ q. item q.0 q.1) in
        ap length c.items_are ∙ length-written (items_of_pairs item c.given) x.items (omega (arith, c.fit.1))

    -- it does not go in
    pub no-bytes : length bytes - at < length p.0 + length (text p.1) → Fit text item (c.given ++ p ∷ []) x → ⊥
    no-bytes h fit = absurd (omega (arith, c.at_is, long, long-bytes, fit.0))

    pub no-place : count ≡ length items → Fit text item (c.given ++ p ∷ []) x → ⊥
    no-place h fit = absurd (omega (arith, c.count_is, long-items, length-append c.given (p ∷ []), fit.1))

    -- it goes in
    pub one-more : (rest : Pairs V) (new : List ℕ) (told : List I) → left ≡ p ∷ rest
        → at ≤ length bytes → length p.0 + length (text p.1) ≤ length bytes - at → count < length items
        → new ≡ take at bytes ++ written (p.0 ++ text p.1) (drop at bytes) → told ≡ set items count (item p.0 p.1)
        → CopiedOut all x rest new told (at + (length p.0 + length (text p.1))) (count + 1)
    one-more rest new told is within room place put set_is =
        let same : length (items_of_pairs item c.given) ≡ length c.given = length-map c.given (λ q. item q.0 q.1) in
        let there : length (items_of_pairs item c.given) < length x.items = omega (arith, same, c.count_is, long-items) in
        record {
          given = c.given ++ p ∷ [];
          are = c.are ∙ ap (λ z. c.given ++ z) is ∙ sym (append_assoc c.given (p ∷ []) rest);
          at_is = omega (arith, c.at_is, long);
          count_is = omega (arith, c.count_is, length-append c.given (p ∷ []));
          bytes_are = put ∙ ap₂ (λ n b. take n b ++ written (p.0 ++ text p.1) (drop n b)) c.at_is c.bytes_are
              ∙ written-more (end_to_end text c.given) (p.0 ++ text p.1) x.bytes ∙ ap (λ a. written a x.bytes) (sym (bytes-more text c.given p));
          items_are = set_is ∙ ap₂ (λ n l. set l n (item p.0 p.1)) (c.count_is ∙ sym same) c.items_are
              ∙ set-more (items_of_pairs item c.given) x.items (item p.0 p.1) there ∙ ap (λ a. written a x.items) (sym (items-more item c.given p));
          fit = (omega (arith, c.at_is, long, long-bytes), omega (arith, c.count_is, long-items, length-append c.given (p ∷ [])));
        }

    -- the same where its text is told by another list
    pub one-more-of : (t : List ℕ) → t ≡ text p.1 → (rest : Pairs V) (new : List ℕ) (told : List I) → left ≡ p ∷ rest
        → at ≤ length bytes → length p.0 + length t ≤ length bytes - at → count < length items
        → new ≡ take at bytes ++ written (p.0 ++ t) (drop at bytes) → told ≡ set items count (item p.0 p.1)
        → CopiedOut all x rest new told (at + (length p.0 + length t)) (count + 1)
    one-more-of t same rest new told is within room place put set_is =
        subst (λ z. CopiedOut all x rest new told (at + (length p.0 + length z)) (count + 1)) (sym same)
        (one-more rest new told is within (subst (λ z. length p.0 + length z ≤ length bytes - at) same room) place
        (put ∙ ap (λ z. take at bytes ++ written (p.0 ++ z) (drop at bytes)) same) set_is)

  -- it ends there
  pub all-copied : (all : Pairs V) (x : ManyRooms I) {left : Pairs V} {bytes : List ℕ} {items : List I} {at count : ℕ}
      (c : CopiedOut all x left bytes items at count) (other : Option (List ℕ × V)) → other ≡ first_item left
      → NoneElseFits text item c.given left x → AreTaken text item all x other (many_rooms bytes items count)
  all-copied all x {left} c other is full =
      (c.given, left, c.are, is, c.fit, full, λ i. record { bytes = c.bytes_are i; items = c.items_are i; count = c.count_is i })

-- without a prefix a walk goes on to each key
goes-on : (to : ℕ) → to ≤ 2 → (prefix key : List ℕ) → goes_on to prefix key ≡ true
goes-on zero low prefix key = refl
goes-on (suc zero) low prefix key = refl
goes-on (suc (suc zero)) low prefix key = refl
goes-on (suc (suc (suc n))) low prefix key = absurd (omega (arith, low))

module _ {V : Type 0} where
  -- each step leaves fewer
  same-length : (end : End) (ps : Pairs V) → length (from_end end ps) ≡ length ps
  same-length First ps = refl
  same-length Last ps = length-reverse ps

  pub fewer : (end : End) (p : List ℕ × V) (old new : Pairs V) → from_end end old ≡ p ∷ from_end end new → length new < length old
  fewer end p old new is =
      let long : length (from_end end old) ≡ suc (length (from_end end new)) = ap length is in
      omega (arith, same-length end old, same-length end new)

  -- a pair that is met, and those that are met after it
  met-cons : (r : Reach) (p : List ℕ × V) (ps : Pairs V) (b : Bool) → goes_to r p ≡ b → IsTrue b
      → while_so (goes_to r) (p ∷ ps) ≡ p ∷ while_so (goes_to r) ps
  met-cons r p ps true is so = ap (λ c. if c then p ∷ while_so (goes_to r) ps else []) is
  met-cons r p ps false is so = absurd (cc)

  pub met-next : (r : Reach) (p : List ℕ × V) (old new : Pairs V) → from_end r.end old ≡ p ∷ from_end r.end new
      → IsTrue (goes_to r p) → met_of r old ≡ p ∷ met_of r new
  met-next r p old new is so =
      ap (while_so (goes_to r)) is ∙ met-cons r p (from_end r.end new) (goes_to r p) refl so

  -- without a prefix it goes on to all
  while-all : (f : List ℕ × V → Bool) → ((p : List ℕ × V) → f p ≡ true) → (ps : Pairs V) → while_so f ps ≡ ps
  while-all f all [] = refl
  while-all f all (p ∷ ps) = rw (all p) (ap (λ qs. p ∷ qs) (while-all f all ps))

  pub met-all : (r : Reach) → r.to ≤ 2 → (ps : Pairs V) → length (met_of r ps) ≡ length ps
  met-all r low ps = ap length (while-all (goes_to r) (λ p. goes-on r.to low r.to_key p.0) (from_end r.end ps)) ∙ same-length r.end ps

pub not-zero : (n : ℕ) → (suc n == 0) ≡ false
not-zero n = elim (eqb_tells (suc n) 0) [ inl same ↦ absurd (omega (arith, same.1)) | inr other ↦ other.0 ]

-- a call that tells pairs, each by a word or another item
module _ {X : Type 0} (tells : List ℕ × ℕ → X) (all : Pairs ℕ) (x : List X) where
  -- these were told, and these are left
  pub record ToldOut (left : Pairs ℕ) (items : List X) (count : ℕ) : Type 0 where
    pub given : Pairs ℕ
    pub are : all ≡ given ++ left
    pub items_are : items ≡ written (map tells given) x
    pub count_is : count ≡ length given
    pub fit : length given ≤ length x

  module _ {left : Pairs ℕ} {items : List X} {count : ℕ} (c : ToldOut left items count) where
    pub same-items : length items ≡ length x
    same-items =
        let is : length (map tells c.given) ≡ length c.given = length-map c.given tells in
        ap length c.items_are ∙ length-written (map tells c.given) x (omega (arith, is, c.fit))

    -- one more
    unfoldable pub one-told : (p : List ℕ × ℕ) (rest : Pairs ℕ) (told : List X) → left ≡ p ∷ rest → count < length items
        → told ≡ set items count (tells p) → ToldOut rest told (count + 1)
    one-told p rest told is place set_is =
        let same : length (map tells c.given) ≡ length c.given = length-map c.given tells in
        let there : length (map tells c.given) < length x = omega (arith, same, c.count_is, same-items, place) in
        record {
          given = c.given ++ p ∷ [];
          are = c.are ∙ ap (λ z. c.given ++ z) is ∙ sym (append_assoc c.given (p ∷ []) rest);
          items_are = set_is ∙ ap₂ (λ n l. set l n (tells p)) (c.count_is ∙ sym same) c.items_are
              ∙ set-more (map tells c.given) x (tells p) there ∙ ap (λ a. written a x) (sym (map-append tells c.given (p ∷ [])));
          count_is = omega (arith, c.count_is, length-append c.given (p ∷ []));
          fit = omega (arith, c.count_is, same-items, place, length-append c.given (p ∷ []));
        }

    -- it ends where no place is left for the next
    pub told_full : (p : List ℕ × ℕ) (rest : Pairs ℕ) → left ≡ p ∷ rest → count ≡ length items
        → AreTold tells all x count true items
    told_full p rest is full = (
      c.given,
      p ∷ rest,
      c.are ∙ ap (λ z. c.given ++ z) is,
      c.fit,
      c.items_are,
      c.count_is,
      (refl, sym c.count_is ∙ full ∙ same-items),
    )

    -- or where none is left
    pub told_done : left ≡ [] → AreTold tells all x count false items
    told_done is = (c.given, [], c.are ∙ ap (λ z. c.given ++ z) is, c.fit, c.items_are, c.count_is, refl)

    -- by whether another is left
    pub told_ended : (more : Bool) → more ≡ not (length left == 0) → (count < length items → ⊥) → AreTold tells all x count more items
    told_ended more is full = here left refl
      where
        here : (l : Pairs ℕ) → left ≡ l → AreTold tells all x count more items
        here [] e = subst (λ b. AreTold tells all x count b items) (sym (is ∙ ap (λ (ps : Pairs ℕ). not (length ps == 0)) e)) (told_done e)
        here (p ∷ rest) e =
            subst (λ b. AreTold tells all x count b items) (sym (is ∙ ap (λ (ps : Pairs ℕ). not (length ps == 0)) e ∙ ap not (not-zero (length rest))))
            (told_full p rest e (omega (arith, full, c.count_is, c.fit, same-items)))
