-- How long the path to a stored key is.
use Rattle.std.proofs.Common.{◌≡◌, ℕ, zero, suc, ◌+◌, ◌≤◌, ◌⊎◌, List, [], ◌∷◌, ◌++◌, length, drop, drop_at, map, refl, sym, ap, ap₂, ◌∙◌, subst, inl, inr, append_assoc, append-nil, arith, false, sum_by, eqb, bytes_eq, eq-eqb, ne_eqb}
use Rattle.std.specs.List.{AllByRecursion, list_any}
use Rattle.std.proofs.lemmas.Bool.{cond-true, cond-false, cases_eq}
use Rattle.std.proofs.lemmas.List.{map-append}
use Rattle.art_bytes.proofs.Common.{BeginsWith, common_prefix, begins_step, begins_from_step, common_begins, common_apart}
use Rattle.art_arena.proofs.Terms.{IsIn, Tree, Forest, leaf, inner, no_child, child, items, items_in, count, IsBelow, IsCanonical, AreCanonical, path_of, path_in, distinct, meetings_of}
use Rattle.art_arena.proofs.tree.Order.{all_append, all_weaker}
use Rattle.art_arena.proofs.tree.Canonical.{begin, some_item, some_item_in}
use Rattle.art_arena.proofs.tree.Insert.{in_right, in_left, all_at}
use Rattle.art_arena.proofs.tree.Distinct.{same_bytes, bytes_from_same, length_sum, not_among, among, sum_apart, sum_same, sum_absorbed}
use Rattle.art_arena.proofs.tree.Fronts.{extra, cancel_front, one_byte, not_longer, not_among_others}

pub in_cases : {X : Type 0} (y : X) (xs ys : List X) → IsIn y (xs ++ ys) → IsIn y xs ⊎ IsIn y ys
in_cases y [] ys i = inr i
in_cases y (x ∷ xs) ys (inl e) = inl (inl e)
in_cases y (x ∷ xs) ys (inr i) = elim (in_cases y xs ys i) [ inl j ↦ inl (inr j) | inr j ↦ inr j ]

pub in_map : {X Y : Type 0} (f : X → Y) (x : X) (xs : List X) → IsIn x xs → IsIn (f x) (map f xs)
in_map f x [] i = i
in_map f x (y ∷ ys) (inl e) = inl (ap f e)
in_map f x (y ∷ ys) (inr i) = inr (in_map f x ys i)

pub in_unmap : {X Y : Type 0} (f : X → Y) (y : Y) (xs : List X) → IsIn y (map f xs) → (x : X) × IsIn x xs × (f x ≡ y)
in_unmap f y [] i = absurd i
in_unmap f y (x ∷ xs) (inl e) = (x, inl refl, e)
in_unmap f y (x ∷ xs) (inr i) = let r = in_unmap f y xs i in (r.0, inr r.1, r.2)

pub all_map : {X Y : Type 0} (f : X → Y) (P : Y → Type 0) (xs : List X) → AllByRecursion (λ x. P (f x)) xs → AllByRecursion P (map f xs)
all_map f P [] h = tt
all_map f P (x ∷ xs) h = (h.0, all_map f P xs h.1)

module _ {X : Type 0} (key : X → List ℕ) (k : List ℕ) where
  abbrev shared_fronts : List X → List (List ℕ)
  shared_fronts xs = map (λ x. common_prefix k (key x)) xs

  abbrev Number : List (List ℕ) → ℕ
  Number fs = sum_by (λ f. 1) (distinct bytes_eq fs)

  -- an item whose key is k
  abbrev pub Stored : List X → Type 0
  Stored xs = (x : X) × IsIn x xs × (key x ≡ k)

  -- keys that go on by another byte
  pub meets_apart : (q : List ℕ) (b : ℕ) (r : List ℕ) → k ≡ q ++ b ∷ r → (c : ℕ) → (b ≡ c → ⊥) → (xs : List X) → AllByRecursion (λ x. BeginsWith (q ++ c ∷ []) (key x)) xs
      → AllByRecursion (λ f. f ≡ q) (shared_fronts xs)
  meets_apart q b r e c apart xs h =
      all_map (λ x. common_prefix k (key x)) (λ f. f ≡ q) xs
      (all_weaker _ (λ x. common_prefix k (key x) ≡ q) (λ x j. let s = begins_step q c (key x) j in ap₂ common_prefix e s.1 ∙ common_apart q b c r s.0 apart) xs h)

  meets_begin : (p : List ℕ) → BeginsWith p k → (xs : List X) → AllByRecursion (λ x. BeginsWith p (key x)) xs → AllByRecursion (BeginsWith p) (shared_fronts xs)
  meets_begin p h xs j = all_map (λ x. common_prefix k (key x)) (BeginsWith p) xs (all_weaker _ (λ x. BeginsWith p (common_prefix k (key x))) (λ x i. common_begins p k (key x) h i) xs j)

  pub meets_above : (q : List ℕ) (b : ℕ) (r : List ℕ) → k ≡ q ++ b ∷ r → (cs : Forest X) → IsBelow b cs → AreCanonical key q cs → AllByRecursion (λ f. f ≡ q) (shared_fronts (items_in cs))
  meets_above q b r e no_child low h = tt
  meets_above q b r e (child c t cs) low h =
      subst (AllByRecursion (λ f. f ≡ q)) (sym (map-append (λ x. common_prefix k (key x)) (items t) (items_in cs)))
      (all_append _ _ _ (meets_apart q b r e c (λ i. let l = low.0 in omega arith) (items t) (begin key (q ++ c ∷ []) t h.0)) (meets_above q b r e cs low.1 h.2))

  -- two children, one of which is off the path
  pub off_path : (q : List ℕ) (b : ℕ) (r : List ℕ) → k ≡ q ++ b ∷ r → (c : ℕ) (t : Tree X) (d : ℕ) (u : Tree X) (cs : Forest X) → AreCanonical key q (child c t (child d u cs))
      → IsIn q (shared_fronts (items_in (child c t (child d u cs))))
  off_path q b r e c t d u cs h =
      let s = some_item key (q ++ c ∷ []) t h.0 in
      let v = some_item key (q ++ d ∷ []) u h.2.0 in
      let is : IsIn s.0 (items t ++ (items u ++ items_in cs)) = in_left s.0 (items t) _ (subst (IsIn s.0) (sym s.2) (inl refl)) in
      let iv : IsIn v.0 (items t ++ (items u ++ items_in cs)) = in_right v.0 (items t) (items u ++ items_in cs) (in_left v.0 (items u) (items_in cs) (subst (IsIn v.0) (sym v.2) (inl refl))) in
      let at = λ (x : X) (i : IsIn x (items t ++ (items u ++ items_in cs))) (f : common_prefix k (key x) ≡ q). subst (λ l. IsIn l (shared_fronts (items t ++ (items u ++ items_in cs)))) f (in_map (λ y. common_prefix k (key y)) x _ i) in
      let ks = begins_step q c (key s.0) (all_at _ s.0 (items t) (begin key (q ++ c ∷ []) t h.0) (subst (IsIn s.0) (sym s.2) (inl refl))) in
      let kv = begins_step q d (key v.0) (all_at _ v.0 (items u) (begin key (q ++ d ∷ []) u h.2.0) (subst (IsIn v.0) (sym v.2) (inl refl))) in
      elim (cases_eq b c) [
        | inl f ↦ at v.0 iv (ap₂ common_prefix e kv.1 ∙ common_apart q b d r kv.0 (λ g. let l = h.1.0 in omega arith))
        | inr f ↦ at s.0 is (ap₂ common_prefix e ks.1 ∙ common_apart q b c r ks.0 f)
      ]

  abbrev ForestPath : List ℕ → ℕ → List ℕ → Forest X → Type 0
  ForestPath q b r cs = Number (shared_fronts (items_in cs)) ≡ extra (count cs) 1 + length (path_in cs (b ∷ r))

  -- the child on the path, and children above it
  on_child : (q : List ℕ) (b : ℕ) (r : List ℕ) → k ≡ q ++ b ∷ r → (t : Tree X) (cs : Forest X) → AreCanonical key q (child b t cs)
      → Number (shared_fronts (items t)) ≡ length (path_of t r) → ForestPath q b r (child b t cs)
  on_child q b r e t no_child h ih =
      ap (λ l. Number (shared_fronts l)) (append-nil (items t)) ∙ ih ∙ sym (ap length (cond-true (eqb b b) (path_of t r) [] (eq-eqb b b refl))) ∙ omega arith
  on_child q b r e t (child c u cs) h ih =
      let ms = shared_fronts (items t) in
      let v = some_item_in key q (child c u cs) (omega arith) h.2 in
      let all : AllByRecursion (λ f. f ≡ q) (common_prefix k (key v.0) ∷ shared_fronts v.1) = subst (λ l. AllByRecursion (λ f. f ≡ q) (shared_fronts l)) v.2 (meets_above q b r e (child c u cs) h.1 h.2) in
      let here = meets_begin (q ++ b ∷ []) (begins_from_step q b r k e) (items t) (begin key (q ++ b ∷ []) t h.0) in
      let apart = all_weaker (BeginsWith (q ++ b ∷ [])) (λ g. list_any (bytes_eq g) (common_prefix k (key v.0) ∷ shared_fronts v.1) ≡ false)
      (λ g j. not_among bytes_eq same_bytes bytes_from_same g (common_prefix k (key v.0) ∷ shared_fronts v.1)
      (all_weaker (λ f. f ≡ q) (λ f. g ≡ f → ⊥) (λ f i n. not_longer q b (subst (BeginsWith (q ++ b ∷ [])) (n ∙ i) j)) (common_prefix k (key v.0) ∷ shared_fronts v.1) all)) (shared_fronts (items t)) here in
      let sum = sum_apart bytes_eq same_bytes bytes_from_same (λ f. 1) (shared_fronts (items t)) (common_prefix k (key v.0) ∷ shared_fronts v.1) apart in
      let last = sum_same bytes_eq same_bytes bytes_from_same (λ f. 1) q (common_prefix k (key v.0)) (shared_fronts v.1) all in
      let walk = ap length (cond-true (eqb b b) (path_of t r) (path_in (child c u cs) (b ∷ r)) (eq-eqb b b refl)) in
      ap (λ l. Number (shared_fronts (items t ++ l))) v.2 ∙ ap Number (map-append (λ x. common_prefix k (key x)) (items t) (v.0 ∷ v.1)) ∙ omega (arith, sum, last, walk, ih)

  -- a child below the path's
  past_child : (q : List ℕ) (b : ℕ) (r : List ℕ) → k ≡ q ++ b ∷ r → (c : ℕ) → (b ≡ c → ⊥) → (t : Tree X) (cs : Forest X) → AreCanonical key q (child c t cs)
      → Stored (items_in cs) → ForestPath q b r cs → ForestPath q b r (child c t cs)
  past_child q b r e c apart t no_child h s ih = absurd s.1
  past_child q b r e c apart t (child d u no_child) h s ih =
      let v = some_item key (q ++ c ∷ []) t h.0 in
      let all : AllByRecursion (λ f. f ≡ q) (common_prefix k (key v.0) ∷ shared_fronts v.1) = subst (λ l. AllByRecursion (λ f. f ≡ q) (shared_fronts l)) v.2 (meets_apart q b r e c apart (items t) (begin key (q ++ c ∷ []) t h.0)) in
      let below = all_append _ (items u) [] (begin key (q ++ d ∷ []) u h.2.0) tt in
      let on : BeginsWith (q ++ d ∷ []) k = subst (BeginsWith (q ++ d ∷ [])) s.2 (all_at (λ x. BeginsWith (q ++ d ∷ []) (key x)) s.0 (items u ++ []) below s.1) in
      let rest = meets_begin (q ++ d ∷ []) on (items u ++ []) below in
      let other = all_weaker (λ f. f ≡ q) (λ g. list_any (bytes_eq g) (shared_fronts (items u ++ [])) ≡ false)
      (λ g i. not_among bytes_eq same_bytes bytes_from_same g (shared_fronts (items u ++ []))
      (all_weaker (BeginsWith (q ++ d ∷ [])) (λ f. g ≡ f → ⊥) (λ f j n. not_longer q d (subst (BeginsWith (q ++ d ∷ [])) (sym n ∙ i) j)) (shared_fronts (items u ++ [])) rest))
      (common_prefix k (key v.0) ∷ shared_fronts v.1) all in
      let sum = sum_apart bytes_eq same_bytes bytes_from_same (λ f. 1) (common_prefix k (key v.0) ∷ shared_fronts v.1) (shared_fronts (items u ++ [])) other in
      let first = sum_same bytes_eq same_bytes bytes_from_same (λ f. 1) q (common_prefix k (key v.0)) (shared_fronts v.1) all in
      let walk = ap length (cond-false (eqb b c) (path_of t r) (path_in (child d u no_child) (b ∷ r)) (ne_eqb b c apart)) in
      ap (λ l. Number (shared_fronts (l ++ (items u ++ [])))) v.2 ∙ ap Number (map-append (λ x. common_prefix k (key x)) (v.0 ∷ v.1) (items u ++ [])) ∙ omega (arith, sum, first, walk, ih)
  past_child q b r e c apart t (child d u (child a w cs)) h s ih =
      let all = meets_apart q b r e c apart (items t) (begin key (q ++ c ∷ []) t h.0) in
      let same = sum_absorbed bytes_eq same_bytes bytes_from_same (λ f. 1) q (shared_fronts (items t)) (shared_fronts (items_in (child d u (child a w cs)))) all
      (among bytes_eq same_bytes bytes_from_same q _ (off_path q b r e d u a w cs h.2)) in
      let walk = ap length (cond-false (eqb b c) (path_of t r) (path_in (child d u (child a w cs)) (b ∷ r)) (ne_eqb b c apart)) in
      ap Number (map-append (λ x. common_prefix k (key x)) (items t) (items_in (child d u (child a w cs)))) ∙ same ∙ omega (arith, walk, ih)

  -- each key below goes on after the path
  pub deeper : (q : List ℕ) (cs : Forest X) → AreCanonical key q cs → Stored (items_in cs) → (b : ℕ) × (r : List ℕ) × (k ≡ q ++ b ∷ r)
  deeper q no_child h s = absurd s.1
  deeper q (child c t cs) h s =
      elim (in_cases s.0 (items t) (items_in cs) s.1) [
        | inl j ↦ let u = begins_step q c (key s.0) (all_at _ s.0 (items t) (begin key (q ++ c ∷ []) t h.0) j) in (c, u.0, sym s.2 ∙ u.1)
        | inr j ↦ deeper q cs h.2 (s.0, j, s.2)
      ]

  at_least_two : (n m : ℕ) → 2 ≤ n → extra n 1 + m ≡ suc m
  at_least_two zero m l = absurd (omega arith)
  at_least_two (suc zero) m l = absurd (omega arith)
  at_least_two (suc (suc n)) m l = omega arith

  mutual
    pub path_number : (p : List ℕ) (t : Tree X) → IsCanonical key p t → (rest : List ℕ) → k ≡ p ++ rest → Stored (items t) → Number (shared_fronts (items t)) ≡ length (path_of t rest)
    path_number p (leaf x) h rest e s = refl
    path_number p (inner prefix cs) h rest e s =
        let d = deeper (p ++ prefix) cs h.1 s in
        let f : rest ≡ prefix ++ d.0 ∷ d.1 = cancel_front p rest (prefix ++ d.0 ∷ d.1) (sym e ∙ d.2 ∙ append_assoc p prefix (d.0 ∷ d.1)) in
        path_in_number (p ++ prefix) cs h.1 d.0 d.1 d.2 s ∙ at_least_two (count cs) (length (path_in cs (d.0 ∷ d.1))) h.0
        ∙ ap (λ l. suc (length (path_in cs l))) (sym (ap (drop (length prefix)) f ∙ drop_at prefix (d.0 ∷ d.1) (length prefix) refl))

    pub path_in_number : (q : List ℕ) (cs : Forest X) → AreCanonical key q cs → (b : ℕ) (r : List ℕ) → k ≡ q ++ b ∷ r → Stored (items_in cs) → ForestPath q b r cs
    path_in_number q no_child h b r e s = absurd s.1
    path_in_number q (child c t cs) h b r e s =
        let here = λ (f : b ≡ c) (i : IsIn s.0 (items t)). subst (λ a. ForestPath q a r (child c t cs)) (sym f)
        (on_child q c r (e ∙ ap (λ a. q ++ a ∷ r) f) t cs h (path_number (q ++ c ∷ []) t h.0 r (e ∙ ap (λ a. q ++ a ∷ r) f ∙ sym (append_assoc q (c ∷ []) r)) (s.0, i, s.2))) in
        let there = λ (i : IsIn s.0 (items_in cs)) (f : b ≡ c → ⊥). past_child q b r e c f t cs h (s.0, i, s.2) (path_in_number q cs h.2 b r e (s.0, i, s.2)) in
        elim (in_cases s.0 (items t) (items_in cs) s.1) [
          | inl i ↦ here (one_byte q b c k (begins_from_step q b r k e) (subst (BeginsWith (q ++ c ∷ [])) s.2 (all_at (λ x. BeginsWith (q ++ c ∷ []) (key x)) s.0 (items t) (begin key (q ++ c ∷ []) t h.0) i))) i
          | inr i ↦ there i (λ f. all_at (λ x. BeginsWith (q ++ c ∷ []) (key x) → ⊥) s.0 (items_in cs) (not_among_others key q c cs h.1 h.2) i
              (subst (BeginsWith (q ++ c ∷ [])) (sym s.2) (subst (λ a. BeginsWith (q ++ a ∷ []) k) f (begins_from_step q b r k e))))
        ]

  -- the path to a stored key has a node for each front that the key shares with some key, itself included
  pub path_is_meetings : (t : Tree X) → IsCanonical key [] t → Stored (items t) → length (path_of t k) ≡ length (meetings_of key k (items t))
  path_is_meetings t h s = sym (length_sum (distinct bytes_eq (shared_fronts (items t))) ∙ path_number [] t h k refl s)
