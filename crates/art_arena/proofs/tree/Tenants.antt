-- Paths in a tree of the keys that begin with a front, and in the tree of all keys.
use Rattle.std.proofs.Common.{◌≡◌, ℕ, ◌+◌, ◌≤◌, List, [], ◌∷◌, ◌++◌, length, map, filter, refl, sym, ap, ap₂, ◌∙◌, subst, inl, inr, append-nil, arith, Bool, true, false, not, cond, ◌||◌, ◌&&◌, sum_by, eqb, bytes_eq, eq-eqb, eqb-true}
use Rattle.std.specs.List.{AllByRecursion, list_any}
use Rattle.std.proofs.lemmas.Bool.{cond-true, cond-false, cond_both, not-true, not-false, cases_Bool, or_left, or_right, or_cases, and_parts, and_from, not_from_true, not_from_false, false_from_ne_true}
use Rattle.art_bytes.proofs.Common.{BeginsWith, common_prefix, IsProperFront, common_begins}
use Rattle.art_arena.proofs.Terms.{IsIn, Tree, items, IsCanonical, path_of, distinct, meetings_of, begins_with, with_front, without_front, crossings}
use Rattle.art_arena.proofs.tree.Distinct.{same_bytes, bytes_from_same, length_sum, sum_again, sum_new, sum_chosen}
use Rattle.art_arena.proofs.tree.Filters.{all_pass, from_kept, map_same}
use Rattle.art_arena.proofs.tree.Fronts.{begins_trans, common_left}
use Rattle.art_arena.proofs.tree.Order.{all_weaker}
use Rattle.art_arena.proofs.tree.Paths.{path_is_meetings, all_map}

pub begins_true : (front k : List ℕ) → begins_with front k ≡ true → BeginsWith front k
begins_true [] k e = (k, refl)
begins_true (a ∷ front) [] e = absurd (cc)
begins_true (a ∷ front) (b ∷ k) e =
    let p = and_parts _ _ e in
    let r = begins_true front k p.1 in
    (r.0, ap₂ (λ c m. c ∷ m) (sym (eqb-true a b p.0)) r.1)

pub begins_false : (front k : List ℕ) → begins_with front k ≡ false → BeginsWith front k → ⊥
begins_false front k e (r, f) = let g : true ≡ false = sym (whole front r) ∙ ap (begins_with front) (sym f) ∙ e in cc
  where
    whole : (p s : List ℕ) → begins_with p (p ++ s) ≡ true
    whole [] s = refl
    whole (a ∷ p) s = and_from _ _ (eq-eqb a a refl) (whole p s)

-- what doesn't begin with the front meets a longer key as it meets the front
common_short : (front r l : List ℕ) → begins_with front l ≡ false → common_prefix (front ++ r) l ≡ common_prefix front l
common_short [] r l e = absurd (cc)
common_short (a ∷ front) r [] e = refl
common_short (a ∷ front) r (b ∷ l) e =
    let inside = λ (f : begins_with front l ≡ false). common_short front r l f in
    elim (cases_Bool (eqb a b)) [
      | inl t ↦ cond-true _ _ _ t ∙ ap (λ m. a ∷ m) (inside (sym (ap (λ c. c && begins_with front l) t) ∙ e)) ∙ sym (cond-true _ _ _ t)
      | inr f ↦ cond-false _ _ _ f ∙ sym (cond-false _ _ _ f)
    ]

pub common_right : (k l : List ℕ) → BeginsWith (common_prefix k l) l
common_right [] l = (l, refl)
common_right (a ∷ k) [] = ([], refl)
common_right (a ∷ k) (b ∷ l) =
    let r = common_right k l in
    cond_both (eqb a b) (a ∷ common_prefix k l) [] (λ m. BeginsWith m (b ∷ l)) (λ e. (r.0, ap₂ (λ c m. c ∷ m) (sym (eqb-true a b e)) r.1)) (λ _. (b ∷ l, refl))

-- distinct values, in two parts

abbrev Number : List (List ℕ) → ℕ
Number fs = sum_by (λ f. 1) (distinct bytes_eq fs)

module _ {X : Type 0} (p : X → Bool) (m : X → List ℕ) (Q : List ℕ → Type 0) (in' : (x : X) → p x ≡ true → Q (m x)) (out : (x : X) → p x ≡ false → Q (m x) → ⊥) where
  differs : (z y : List ℕ) → Q z → (Q y → ⊥) → bytes_eq z y ≡ false
  differs z y h n = false_from_ne_true _ (λ e. n (subst Q (bytes_from_same z y e) h))

  differs_back : (z y : List ℕ) → (Q z → ⊥) → Q y → bytes_eq z y ≡ false
  differs_back z y n h = false_from_ne_true _ (λ e. n (subst Q (sym (bytes_from_same z y e)) h))

  among_in : (z : List ℕ) → Q z → (xs : List X) → list_any (bytes_eq z) (map m xs) ≡ list_any (bytes_eq z) (map m (filter p xs))
  among_in z h [] = refl
  among_in z h (x ∷ xs) =
      let rest = among_in z h xs in
      cond_both (p x) (x ∷ filter p xs) (filter p xs) (λ l. list_any (bytes_eq z) (map m (x ∷ xs)) ≡ list_any (bytes_eq z) (map m l))
      (λ t. ap (λ b. bytes_eq z (m x) || b) rest) (λ f. ap (λ b. b || list_any (bytes_eq z) (map m xs)) (differs z (m x) h (out x f)) ∙ rest)

  among_out : (z : List ℕ) → (Q z → ⊥) → (xs : List X) → list_any (bytes_eq z) (map m xs) ≡ list_any (bytes_eq z) (map m (filter (λ x. not (p x)) xs))
  among_out z h [] = refl
  among_out z h (x ∷ xs) =
      let rest = among_out z h xs in
      cond_both (not (p x)) (x ∷ filter (λ y. not (p y)) xs) (filter (λ y. not (p y)) xs) (λ l. list_any (bytes_eq z) (map m (x ∷ xs)) ≡ list_any (bytes_eq z) (map m l))
      (λ t. ap (λ b. bytes_eq z (m x) || b) rest) (λ f. ap (λ b. b || list_any (bytes_eq z) (map m xs)) (differs_back z (m x) h (in' x (not-false _ f))) ∙ rest)

  two_parts : (xs : List X) → Number (map m xs) ≡ Number (map m (filter p xs)) + Number (map m (filter (λ x. not (p x)) xs))
  two_parts [] = omega arith
  two_parts (x ∷ xs) =
      let rest = two_parts xs in
      let whole = sum_chosen bytes_eq same_bytes bytes_from_same (λ f. 1) (list_any (bytes_eq (m x)) (map m xs)) (m x) (distinct bytes_eq (map m xs)) in
      let ins = sum_chosen bytes_eq same_bytes bytes_from_same (λ f. 1) (list_any (bytes_eq (m x)) (map m (filter p xs))) (m x) (distinct bytes_eq (map m (filter p xs))) in
      let outs = sum_chosen bytes_eq same_bytes bytes_from_same (λ f. 1) (list_any (bytes_eq (m x)) (map m (filter (λ y. not (p y)) xs))) (m x) (distinct bytes_eq (map m (filter (λ y. not (p y)) xs))) in
      elim (cases_Bool (p x)) [
        | inl t ↦
            let one = ap {B = ℕ} (λ b. cond b 0 1) (among_in (m x) (in' x t) xs) in
            let a = ap (λ l. Number (map m l)) (cond-true (p x) (x ∷ filter p xs) (filter p xs) t) in
            let b = ap (λ l. Number (map m l)) (cond-false (not (p x)) (x ∷ filter (λ y. not (p y)) xs) (filter (λ y. not (p y)) xs) (not_from_true _ t)) in
            omega (arith, whole, ins, rest, one, a, b)
        | inr f ↦
            let one = ap {B = ℕ} (λ b. cond b 0 1) (among_out (m x) (out x f) xs) in
            let a = ap (λ l. Number (map m l)) (cond-false (p x) (x ∷ filter p xs) (filter p xs) f) in
            let b = ap (λ l. Number (map m l)) (cond-true (not (p x)) (x ∷ filter (λ y. not (p y)) xs) (filter (λ y. not (p y)) xs) (not_from_false _ f)) in
            omega (arith, whole, outs, rest, one, a, b)
      ]

-- fronts of one list

tails : List (List ℕ) → List (List ℕ)
tails [] = []
tails ([] ∷ ms) = tails ms
tails ((c ∷ m) ∷ ms) = m ∷ tails ms

module _ (a : ℕ) (front : List ℕ) where
  tails_proper : (ms : List (List ℕ)) → AllByRecursion (λ m. IsProperFront m (a ∷ front)) ms → AllByRecursion (λ m. IsProperFront m front) (tails ms)
  unfolding tails
  tails_proper [] h = tt
  tails_proper ([] ∷ ms) h = tails_proper ms h.1
  tails_proper ((c ∷ m) ∷ ms) ((b, r, e), k) = ((b, r, let f : front ≡ m ++ b ∷ r = cc in f), tails_proper ms k)

  tails_among : (c : ℕ) (m : List ℕ) → c ≡ a → (ms : List (List ℕ)) → AllByRecursion (λ m. IsProperFront m (a ∷ front)) ms → list_any (bytes_eq m) (tails ms) ≡ true → list_any (bytes_eq (c ∷ m)) ms ≡ true
  unfolding tails
  tails_among c m e [] h t = absurd (cc)
  tails_among c m e ([] ∷ ms) h t = tails_among c m e ms h.1 t
  tails_among c m e ((d ∷ n) ∷ ms) ((b, r, f), k) t =
      let rest = tails_among c m e ms k in
      elim (or_cases _ _ t) [
        | inl g ↦ or_left _ _ (and_from _ _ (eq-eqb c d (let i : d ≡ a = cc in e ∙ sym i)) g)
        | inr g ↦ or_right _ _ (rest g)
      ]

  tails_number : (ms : List (List ℕ)) → AllByRecursion (λ m. IsProperFront m (a ∷ front)) ms → Number ms ≤ cond (list_any (bytes_eq []) ms) 1 0 + Number (tails ms)
  unfolding tails
  tails_number [] h = omega arith
  tails_number ([] ∷ ms) h =
      let rest = tails_number ms h.1 in
      elim (cases_Bool (list_any (bytes_eq []) ms)) [
        | inl t ↦ let n = sum_again bytes_eq same_bytes bytes_from_same (λ f. 1) [] ms t in let o = cond-true {A = ℕ} (list_any (bytes_eq []) ms) 1 0 t in omega (arith, n, o, rest)
        | inr f ↦ let n = sum_new bytes_eq same_bytes bytes_from_same (λ f. 1) [] ms f in let o = cond-false {A = ℕ} (list_any (bytes_eq []) ms) 1 0 f in omega (arith, n, o, rest)
      ]
  tails_number ((c ∷ m) ∷ ms) ((b, r, e), k) =
      let rest = tails_number ms k in
      let same : c ≡ a = cc in
      elim (cases_Bool (list_any (bytes_eq m) (tails ms))) [
        | inl t ↦
            let n = sum_again bytes_eq same_bytes bytes_from_same (λ f. 1) (c ∷ m) ms (tails_among c m same ms k t) in
            let o = sum_again bytes_eq same_bytes bytes_from_same (λ f. 1) m (tails ms) t in omega (arith, n, o, rest)
        | inr f ↦
            let n = sum_chosen bytes_eq same_bytes bytes_from_same (λ f. 1) (list_any (bytes_eq (c ∷ m)) ms) (c ∷ m) (distinct bytes_eq ms) in
            let o = sum_new bytes_eq same_bytes bytes_from_same (λ f. 1) m (tails ms) f in
            let q = cond_both (list_any (bytes_eq (c ∷ m)) ms) 0 1 (λ k. k ≤ 1) (λ _. omega arith) (λ _. omega arith) in omega (arith, n, o, rest, q)
      ]

few_fronts : (front : List ℕ) (ms : List (List ℕ)) → AllByRecursion (λ m. IsProperFront m front) ms → Number ms ≤ length front
few_fronts [] [] h = omega arith
few_fronts [] ([] ∷ ms) ((b, r, e), k) = absurd (cc)
few_fronts [] ((c ∷ m) ∷ ms) ((b, r, e), k) = absurd (cc)
few_fronts (a ∷ front) ms h =
    let rest = few_fronts front (tails ms) (tails_proper a front ms h) in
    let n = tails_number a front ms h in
    let q = cond_both (list_any (bytes_eq []) ms) 1 0 (λ k. k ≤ 1) (λ _. omega arith) (λ _. omega arith) in
    omega (arith, rest, n, q)

module _ {X : Type 0} (key : X → List ℕ) (front : List ℕ) where
  pub own_in : (x : X) (xs : List X) → IsIn x (with_front key front xs) → IsIn x xs × (begins_with front (key x) ≡ true)
  own_in x xs i = from_kept (λ y. begins_with front (key y)) x xs i

  short : (r : List ℕ) (xs : List X) → map (λ y. common_prefix (front ++ r) (key y)) (without_front key front xs) ≡ map (λ y. common_prefix front (key y)) (without_front key front xs)
  short r xs =
      map_same (λ y. common_prefix (front ++ r) (key y)) (λ y. common_prefix front (key y)) (without_front key front xs)
      (all_weaker _ _ (λ x n. common_short front r (key x) (not-true (begins_with front (key x)) n)) (without_front key front xs) (all_pass (λ x. not (begins_with front (key x))) xs))

  -- The path to a key of its own is longer in the tree of all keys, by the number of crossings.
  pub tenant_path : (t u : Tree X) → IsCanonical key [] t → IsCanonical key [] u → items u ≡ with_front key front (items t) → (x : X) → IsIn x (items u)
      → length (path_of t (key x)) ≡ length (path_of u (key x)) + crossings key front (items t)
  tenant_path t u h j e x i =
      let mine = own_in x (items t) (subst (IsIn x) e i) in
      let whole = path_is_meetings key (key x) t h (x, mine.0, refl) in
      let part = path_is_meetings key (key x) u j (x, i, refl) in
      let s = begins_true front (key x) mine.1 in
      let parts = two_parts (λ y. begins_with front (key y)) (λ y. common_prefix (key x) (key y)) (BeginsWith front)
      (λ y g. common_begins front (key x) (key y) s (begins_true front (key y) g))
      (λ y g b. begins_false front (key y) g (begins_trans front _ (key y) b (common_right (key x) (key y)))) (items t) in
      let same = ap (λ k. map (λ y. common_prefix k (key y)) (without_front key front (items t))) s.1 ∙ short s.0 (items t) in
      let crossing = ap (λ ms. length (distinct bytes_eq ms)) same in
      let mine_same = ap (λ l. length (meetings_of key (key x) l)) e in
      omega (
        arith,
        whole,
        part,
        parts,
        crossing,
        mine_same,
        length_sum (meetings_of key (key x) (items t)),
        length_sum (meetings_of key (key x) (with_front key front (items t))),
        length_sum (meetings_of key (key x) (without_front key front (items t))),
      )

  proper_front : (l : List ℕ) → begins_with front l ≡ false → IsProperFront (common_prefix front l) front
  proper_front l e = goes (common_left front l)
    where
      goes : BeginsWith (common_prefix front l) front → IsProperFront (common_prefix front l) front
      goes ([], f) = absurd (begins_false front l e (let s = common_right front l in (s.0, s.1 ∙ ap (λ m. m ++ s.0) (sym (f ∙ append-nil _)))))
      goes (b ∷ r, f) = (b, r, f)

  all_proper : (xs : List X) → AllByRecursion (λ y. IsProperFront (common_prefix front (key y)) front) (without_front key front xs)
  all_proper xs = all_weaker _ _ (λ x n. proper_front (key x) (not-true (begins_with front (key x)) n)) (without_front key front xs) (all_pass (λ x. not (begins_with front (key x))) xs)

  -- four bytes have at most four crossings
  pub few_crossings : (xs : List X) → crossings key front xs ≤ length front
  few_crossings xs =
      let n = few_fronts front (map (λ y. common_prefix front (key y)) (without_front key front xs)) (all_map (λ y. common_prefix front (key y)) (λ m. IsProperFront m front) _ (all_proper xs)) in
      omega (arith, n, length_sum (distinct bytes_eq (map (λ y. common_prefix front (key y)) (without_front key front xs))))
