-- Filters of lists, one within another, and what holds of all elements.
use Rattle.std.proofs.Common.{◌≡◌, ℕ, List, [], ◌∷◌, ◌++◌, refl, ap, ap₂, sym, ◌∙◌, Bool, true, false, cond, Option, Some, None}
use Rattle.std.specs.Prelude.{◌&&◌, map, filter, option_map}
use Rattle.std.specs.Map.{lookup, lookup_entry}
use Rattle.std.proofs.lemmas.Bool.{cond_both, false_from_ne_true, true≢false}
use Rattle.std.specs.List.{AllByRecursion, find}
use Rattle.art_arena.proofs.Common.{all_left, all_right, is_before, put_in_order}
use Rattle.art_arena.proofs.tree.Filters.{filter-map}
use Rattle.art_arena.proofs.tree.Paths.{all_map}
use Rattle.art_walks.proofs.Common.{all-filter}
use Rattle.art_engine.proofs.Terms.{InOrder}

module _ {X : Type 0} where
  -- what holds of each element holds of all in a list
  pub All-each : (P : X → Type 0) → ((x : X) → P x) → (xs : List X) → AllByRecursion P xs
  All-each P each [] = tt
  All-each P each (x ∷ xs) = (each x, All-each P each xs)

  -- and what follows of two facts
  pub All-both : (P Q R : X → Type 0) → ((x : X) → P x → Q x → R x) → (xs : List X) → AllByRecursion P xs → AllByRecursion Q xs → AllByRecursion R xs
  All-both P Q R f [] h k = tt
  All-both P Q R f (x ∷ xs) h k = (f x h.0 k.0, All-both P Q R f xs h.1 k.1)

  pub InOrder-filter : (B : X → X → Type 0) (p : X → Bool) (xs : List X) → InOrder B xs → InOrder B (filter p xs)
  InOrder-filter B p [] h = tt
  InOrder-filter B p (x ∷ xs) h =
      let ih = InOrder-filter B p xs h.1 in
      cond_both (p x) (x ∷ filter p xs) (filter p xs) (InOrder B) (λ e. (all-filter (B x) p xs h.0, ih)) (λ e. ih)

  pub InOrder-left : (B : X → X → Type 0) (fs bs : List X) → InOrder B (fs ++ bs) → InOrder B fs
  InOrder-left B [] bs h = tt
  InOrder-left B (a ∷ fs) bs h = (all_left (B a) fs bs h.0, InOrder-left B fs bs h.1)

  pub InOrder-before : (B : X → X → Type 0) (fs bs : List X) (m : X) → InOrder B (fs ++ m ∷ bs) → AllByRecursion (λ a. B a m) fs
  InOrder-before B [] bs m h = tt
  InOrder-before B (a ∷ fs) bs m h = ((all_right (B a) fs (m ∷ bs) h.0).0, InOrder-before B fs bs m h.1)

  pub filter-apart : (p q : X → Bool) → ((x : X) → q x ≡ true → p x ≡ false) → (xs : List X) → filter p (filter q xs) ≡ []
  filter-apart p q apart [] = refl
  filter-apart p q apart (x ∷ xs) =
      let ih = filter-apart p q apart xs in
      cond_both (q x) (x ∷ filter q xs) (filter q xs) (λ l. filter p l ≡ []) (λ e. rw (apart x e) ih) (λ e. ih)

  -- a test within another one that all pass which pass it
  pub filter-inside : (p q : X → Bool) (xs : List X) → AllByRecursion (λ x. p x ≡ true → q x ≡ true) xs → filter p (filter q xs) ≡ filter p xs
  filter-inside p q [] h = refl
  filter-inside p q (x ∷ xs) h =
      let ih = filter-inside p q xs h.1 in
      cond_both (q x) (x ∷ filter q xs) (filter q xs) (λ l. filter p l ≡ filter p (x ∷ xs)) (λ e. ap (λ l. cond (p x) (x ∷ l) l) ih)
      (λ e. let not_passed = false_from_ne_true (p x) (λ f. true≢false (sym (h.0 f) ∙ e)) in rw not_passed ih)

  pub filter-within : (p q : X → Bool) → ((x : X) → p x ≡ true → q x ≡ true) → (xs : List X) → filter p (filter q xs) ≡ filter p xs
  filter-within p q within xs = filter-inside p q xs (All-each (λ x. p x ≡ true → q x ≡ true) within xs)

  -- two tests that give one answer
  pub filter-same : (p q : X → Bool) (xs : List X) → AllByRecursion (λ x. p x ≡ q x) xs → filter p xs ≡ filter q xs
  filter-same p q [] h = refl
  filter-same p q (x ∷ xs) h = let first = h.0 in rw first (ap (λ l. cond (q x) (x ∷ l) l) (filter-same p q xs h.1))

  -- one test after another
  pub filter-both : (p q : X → Bool) (xs : List X) → filter (λ x. p x && q x) xs ≡ filter q (filter p xs)
  filter-both p q [] = refl
  filter-both p q (x ∷ xs) = go (p x) (filter-both p q xs)
    where
      go : (b : Bool) → filter (λ x. p x && q x) xs ≡ filter q (filter p xs)
          → cond (b && q x) (x ∷ filter (λ x. p x && q x) xs) (filter (λ x. p x && q x) xs) ≡ filter q (cond b (x ∷ filter p xs) (filter p xs))
      go true ih = ap (λ l. cond (q x) (x ∷ l) l) ih
      go false ih = ih

-- what is found is the first of all that passes
abbrev pub first : {X : Type 0} → List X → Option X
first [] = None
first (x ∷ xs) = Some x

pub first-map : {X Y : Type 0} (f : X → Y) (xs : List X) → first (map f xs) ≡ option_map f (first xs)
first-map f [] = refl
first-map f (x ∷ xs) = refl

pub find-first : {X : Type 0} (p : X → Bool) (xs : List X) → find p xs ≡ first (filter p xs)
find-first p [] = refl
find-first p (x ∷ xs) = let ih = find-first p xs in cond_both (p x) (x ∷ filter p xs) (filter p xs) (λ l. find p (x ∷ xs) ≡ first l) (λ e. rw e refl) (λ e. rw e ih)

module _ {K V : Type 0} (p : K → Bool) where
  pub entry-first : (xs : List (K × V)) → lookup_entry p xs ≡ first (filter (λ x. p x.0) xs)
  entry-first [] = refl
  entry-first (x ∷ xs) = let ih = entry-first xs in cond_both (p x.0) (x ∷ filter (λ x. p x.0) xs) (filter (λ x. p x.0) xs) (λ l. lookup_entry p (x ∷ xs) ≡ first l) (λ e. rw e refl) (λ e. rw e ih)

  pub lookup-entry : (xs : List (K × V)) → lookup p xs ≡ option_map (λ x. x.1) (lookup_entry p xs)
  lookup-entry [] = refl
  lookup-entry (x ∷ xs) = let ih = lookup-entry xs in cond_both (p x.0) (Some x) (lookup_entry p xs) (λ o. lookup p (x ∷ xs) ≡ option_map (λ x. x.1) o) (λ e. rw e refl) (λ e. rw e ih)

module _ {X Y : Type 0} (P : Y → Type 0) (f : X → Y) where
  -- what holds of all that elements are made into holds of each
  pub All-made : (xs : List X) → AllByRecursion P (map f xs) → AllByRecursion (λ x. P (f x)) xs
  All-made [] h = tt
  All-made (x ∷ xs) h = (h.0, All-made xs h.1)

  -- and of all that is left
  pub All-left_out : (q : X → Bool) (xs : List X) → AllByRecursion P (map f xs) → AllByRecursion P (map f (filter q xs))
  All-left_out q xs h = all_map f P (filter q xs) (all-filter (λ x. P (f x)) q xs (All-made xs h))

  -- and with what is put in, if it holds of that
  pub All-put : (key : X → List ℕ) (q : X → Bool) (x : X) (xs : List X) → AllByRecursion P (map f xs) → P (f x) → AllByRecursion P (map f (put_in_order key x (filter q xs)))
  All-put key q x xs h new = all_map f P (put_in_order key x (filter q xs)) (put (filter q xs) (all-filter (λ x. P (f x)) q xs (All-made xs h)))
    where
      put : (ys : List X) → AllByRecursion (λ y. P (f y)) ys → AllByRecursion (λ y. P (f y)) (put_in_order key x ys)
      put [] h = (new, tt)
      put (y ∷ ys) h = cond_both (is_before (key x) (key y)) (x ∷ y ∷ ys) (y ∷ put_in_order key x ys) (AllByRecursion (λ y. P (f y))) (λ e. (new, h)) (λ e. (h.0, put ys h.1))

module _ {X Y : Type 0} (f : X → Y) where
  -- a test of what is made of the elements
  pub map-filter : (q : Y → Bool) (xs : List X) → map f (filter (λ x. q (f x)) xs) ≡ filter q (map f xs)
  map-filter q xs = sym (filter-map q f xs)

  -- the elements that pass are made into what passes
  pub filter-mapped : (p : X → Bool) (q : Y → Bool) (xs : List X) → AllByRecursion (λ x. p x ≡ q (f x)) xs → map f (filter p xs) ≡ filter q (map f xs)
  filter-mapped p q xs same = ap (map f) (filter-same p (λ x. q (f x)) xs same) ∙ map-filter q xs

-- what is made of elements, in two ways that come to the same
pub map-alike : {X Y Z : Type 0} (f : Y → Z) (r : X → Y) (g : X → Z) (xs : List X) → AllByRecursion (λ x. f (r x) ≡ g x) xs → map f (map r xs) ≡ map g xs
map-alike f r g [] h = refl
map-alike f r g (x ∷ xs) h = ap₂ (λ z zs. z ∷ zs) h.0 (map-alike f r g xs h.1)
