-- The fronts of neighbours are those of the inner nodes.
use Rattle.std.proofs.Common.{◌≡◌, ℕ, zero, suc, ◌+◌, ◌<◌, ◌≤◌, ◌⊎◌, List, [], ◌∷◌, ◌++◌, length, refl, sym, ap, ap₂, ◌∙◌, subst, inl, inr, append_assoc, append-nil, arith, Bool, false, cond, sum_by, eqb, nat_eq, bytes_eq, eq-eqb, eqb-true, Some, None}
use Rattle.std.specs.List.{AllByRecursion, list_any, cons_option}
use Rattle.std.proofs.lemmas.Bool.{cond-true, cond_both}
use Rattle.std.proofs.lemmas.List.Elements.{filter_map-append}
use Rattle.art_bytes.proofs.Common.{BeginsWith, common_prefix, begins_append, begins_step, common_begins, common_apart}
use Rattle.art_arena.proofs.Terms.{IsIn, Tree, Forest, leaf, inner, no_child, child, items, items_in, count, IsBelow, IsCanonical, AreCanonical, nodes_with, nodes_in, distinct, neighbour_fronts, byte_after, bytes_after, width_of, fronts_with}
use Rattle.art_arena.proofs.tree.Order.{all_append, all_weaker}
use Rattle.art_arena.proofs.tree.Canonical.{begin, some_item}
use Rattle.art_arena.proofs.tree.Insert.{in_right}
use Rattle.art_arena.proofs.tree.Distinct.{same_bytes, bytes_from_same, length_sum, not_among, among, sum_again, sum_new, sum_apart, sum_same}

-- fronts of fronts

pub cancel_front : (q k l : List ℕ) → q ++ k ≡ q ++ l → k ≡ l
cancel_front [] k l e = e
cancel_front (a ∷ q) k l e = let f : q ++ k ≡ q ++ l = cc in cancel_front q k l f

pub begins_trans : (p q k : List ℕ) → BeginsWith p q → BeginsWith q k → BeginsWith p k
begins_trans p q k (r, e) (s, f) = (r ++ s, f ∙ ap (λ m. m ++ s) e ∙ append_assoc p r s)

pub common_left : (k l : List ℕ) → BeginsWith (common_prefix k l) k
common_left [] l = ([], refl)
common_left (a ∷ k) [] = (a ∷ k, refl)
common_left (a ∷ k) (b ∷ l) =
    let r = common_left k l in
    cond_both (eqb a b) (a ∷ common_prefix k l) [] (λ m. BeginsWith m (a ∷ k)) (λ _. (r.0, ap (λ m. a ∷ m) r.1)) (λ _. (a ∷ k, refl))

pub one_byte : (q : List ℕ) (b c : ℕ) (k : List ℕ) → BeginsWith (q ++ b ∷ []) k → BeginsWith (q ++ c ∷ []) k → b ≡ c
one_byte q b c k h j =
    let s = begins_step q b k h in
    let t = begins_step q c k j in
    let e : b ∷ s.0 ≡ c ∷ t.0 = cancel_front q (b ∷ s.0) (c ∷ t.0) (sym s.1 ∙ t.1) in cc

pub not_longer : (q : List ℕ) (b : ℕ) → BeginsWith (q ++ b ∷ []) q → ⊥
not_longer q b h = let s = begins_step q b q h in let e : [] ≡ b ∷ s.0 = cancel_front q [] (b ∷ s.0) (append-nil q ∙ s.1) in cc

-- the byte after a front

pub after_front : (q : List ℕ) (b : ℕ) (r : List ℕ) → byte_after q (q ++ b ∷ r) ≡ Some b
after_front [] b r = refl
after_front (a ∷ q) b r = cond-true _ _ _ (eq-eqb a a refl) ∙ after_front q b r

pub none_after : (q k : List ℕ) → (BeginsWith q k → ⊥) → byte_after q k ≡ None
none_after [] k h = absurd (h (k, refl))
none_after (a ∷ q) [] h = refl
none_after (a ∷ q) (b ∷ k) h =
    cond_both (eqb a b) (byte_after q k) None (λ o. o ≡ None) (λ e. none_after q k (λ j. h (j.0, ap₂ (λ c m. c ∷ m) (sym (eqb-true a b e)) j.1))) (λ _. refl)

-- f at the front of each inner node
abbrev mutual
  pub weights : {X : Type 0} → (List ℕ → ℕ) → List ℕ → Tree X → ℕ
  weights f path (leaf x) = 0
  weights f path (inner prefix cs) = f (path ++ prefix) + weights_in f (path ++ prefix) cs

  pub weights_in : {X : Type 0} → (List ℕ → ℕ) → List ℕ → Forest X → ℕ
  weights_in f q no_child = 0
  weights_in f q (child b t cs) = weights f (q ++ b ∷ []) t + weights_in f q cs

-- w, where there are two or more
abbrev pub extra : ℕ → ℕ → ℕ
extra zero w = 0
extra (suc zero) w = 0
extra (suc (suc n)) w = w

-- w gives the number of children at the front of each inner node
abbrev mutual
  pub Widths : {X : Type 0} → (List ℕ → ℕ) → List ℕ → Tree X → Type 0
  Widths w path (leaf x) = Unit {0}
  Widths w path (inner prefix cs) = (w (path ++ prefix) ≡ count cs) × WidthsIn w (path ++ prefix) cs

  pub WidthsIn : {X : Type 0} → (List ℕ → ℕ) → List ℕ → Forest X → Type 0
  WidthsIn w q no_child = Unit {0}
  WidthsIn w q (child b t cs) = Widths w (q ++ b ∷ []) t × WidthsIn w q cs

mutual
  pub weights_are : {X : Type 0} (test : ℕ → Bool) (w : List ℕ → ℕ) (path : List ℕ) (t : Tree X) → Widths w path t
      → weights (λ front. cond (test (w front)) 1 0) path t ≡ nodes_with test t
  weights_are test w path (leaf x) h = refl
  weights_are test w path (inner prefix cs) h =
      ap₂ (λ m n. m + n) (ap (λ n. cond (test n) 1 0) h.0) (weights_in_are test w (path ++ prefix) cs h.1)

  pub weights_in_are : {X : Type 0} (test : ℕ → Bool) (w : List ℕ → ℕ) (q : List ℕ) (cs : Forest X) → WidthsIn w q cs
      → weights_in (λ front. cond (test (w front)) 1 0) q cs ≡ nodes_in test cs
  weights_in_are test w q no_child h = refl
  weights_in_are test w q (child b t cs) h = ap₂ (λ m n. m + n) (weights_are test w (q ++ b ∷ []) t h.0) (weights_in_are test w q cs h.1)

abbrev pub HasByte : {X : Type 0} → ℕ → Forest X → Type 0
HasByte b no_child = ⊥
HasByte b (child c t cs) = (b ≡ c) ⊎ HasByte b cs

pub below_byte : {X : Type 0} (b c : ℕ) (cs : Forest X) → IsBelow b cs → HasByte c cs → b < c
below_byte b c no_child h j = absurd j
below_byte b c (child d t cs) h (inl e) = let l = h.0 in omega arith
below_byte b c (child d t cs) h (inr j) = below_byte b c cs h.1 j

module _ {X : Type 0} (key : X → List ℕ) where
  nf_begin : (p : List ℕ) (xs : List X) → AllByRecursion (λ x. BeginsWith p (key x)) xs → AllByRecursion (BeginsWith p) (neighbour_fronts key xs)
  nf_begin p [] h = tt
  nf_begin p (x ∷ []) h = tt
  nf_begin p (x ∷ y ∷ ys) h = (common_begins p (key x) (key y) h.0 h.1.0, nf_begin p (y ∷ ys) h.1)

  nf_apart : (p : List ℕ) (xs : List X) → AllByRecursion (λ x. BeginsWith p (key x) → ⊥) xs → AllByRecursion (λ f. BeginsWith p f → ⊥) (neighbour_fronts key xs)
  nf_apart p [] h = tt
  nf_apart p (x ∷ []) h = tt
  nf_apart p (x ∷ y ∷ ys) h = (λ j. h.0 (begins_trans p (common_prefix (key x) (key y)) (key x) j (common_left (key x) (key y))), nf_apart p (y ∷ ys) h.1)

  nf_append : (q : List ℕ) (x : X) (xs : List X) (y : X) (ys : List X) → AllByRecursion (λ z. common_prefix (key z) (key y) ≡ q) (x ∷ xs)
      → neighbour_fronts key ((x ∷ xs) ++ (y ∷ ys)) ≡ neighbour_fronts key (x ∷ xs) ++ q ∷ neighbour_fronts key (y ∷ ys)
  nf_append q x [] y ys h = ap (λ f. f ∷ neighbour_fronts key (y ∷ ys)) h.0
  nf_append q x (z ∷ zs) y ys h = ap (λ fs. common_prefix (key x) (key z) ∷ fs) (nf_append q z zs y ys h.1)

  -- the keys below other children
  pub not_among_others : (q : List ℕ) (b : ℕ) (cs : Forest X) → IsBelow b cs → AreCanonical key q cs → AllByRecursion (λ y. BeginsWith (q ++ b ∷ []) (key y) → ⊥) (items_in cs)
  not_among_others q b no_child low h = tt
  not_among_others q b (child c t cs) low h =
      all_append _ (items t) (items_in cs)
      (all_weaker _ _ (λ y s j. let e = one_byte q b c (key y) j s in let l = low.0 in omega arith) (items t) (begin key (q ++ c ∷ []) t h.0))
      (not_among_others q b cs low.1 h.2)

  -- the neighbours' fronts of two children and more
  nf_parts : (q : List ℕ) (b : ℕ) (t : Tree X) (c : ℕ) (u : Tree X) (cs : Forest X) → AreCanonical key q (child b t (child c u cs))
      → neighbour_fronts key (items_in (child b t (child c u cs))) ≡ neighbour_fronts key (items t) ++ q ∷ neighbour_fronts key (items_in (child c u cs))
  nf_parts q b t c u cs h =
      let s = some_item key (q ++ b ∷ []) t h.0 in
      let v = some_item key (q ++ c ∷ []) u h.2.0 in
      let all = subst (AllByRecursion (λ z. BeginsWith (q ++ b ∷ []) (key z))) s.2 (begin key (q ++ b ∷ []) t h.0) in
      let first = subst (AllByRecursion (λ z. BeginsWith (q ++ c ∷ []) (key z))) v.2 (begin key (q ++ c ∷ []) u h.2.0) in
      let l = begins_step q c (key v.0) first.0 in
      let meet = all_weaker _ (λ z. common_prefix (key z) (key v.0) ≡ q) (λ z j. let k = begins_step q b (key z) j in
      ap₂ common_prefix k.1 l.1 ∙ common_apart q b c k.0 l.0 (λ e. let o = h.1.0 in omega arith)) (s.0 ∷ s.1) all in
      ap₂ (λ l m. neighbour_fronts key (l ++ (m ++ items_in cs))) s.2 v.2
      ∙ nf_append q s.0 s.1 v.0 (v.1 ++ items_in cs) meet
      ∙ sym (ap₂ (λ l m. neighbour_fronts key l ++ q ∷ neighbour_fronts key (m ++ items_in cs)) s.2 v.2)

  module _ (f : List ℕ → ℕ) where
    abbrev Total : List (List ℕ) → ℕ
    Total fs = sum_by f (distinct bytes_eq fs)

    abbrev ForestSum : List ℕ → Forest X → Type 0
    ForestSum q cs = Total (neighbour_fronts key (items_in cs)) ≡ extra (count cs) (f q) + weights_in f q cs

    front_and_rest : (q : List ℕ) (c : ℕ) (u : Tree X) (cs : Forest X) → AreCanonical key q (child c u cs) → ForestSum q (child c u cs)
        → Total (q ∷ neighbour_fronts key (items_in (child c u cs))) ≡ f q + weights_in f q (child c u cs)
    front_and_rest q c u no_child h s =
        let all = nf_begin (q ++ c ∷ []) (items u ++ []) (all_append _ (items u) [] (begin key (q ++ c ∷ []) u h.0) tt) in
        let new = sum_new bytes_eq same_bytes bytes_from_same f q (neighbour_fronts key (items u ++ []))
        (not_among bytes_eq same_bytes bytes_from_same q _ (all_weaker _ _ (λ g j e. not_longer q c (subst (BeginsWith (q ++ c ∷ [])) (sym e) j)) _ all)) in
        omega (arith, new, s)
    front_and_rest q c u (child d v cs) h s =
        let here = subst (IsIn q) (sym (nf_parts q c u d v cs h)) (in_right q (neighbour_fronts key (items u)) _ (inl refl)) in
        sum_again bytes_eq same_bytes bytes_from_same f q _ (among bytes_eq same_bytes bytes_from_same q _ here) ∙ s

    one_more : (q : List ℕ) (b : ℕ) (t : Tree X) (cs : Forest X) → AreCanonical key q (child b t cs)
        → Total (neighbour_fronts key (items t)) ≡ weights f (q ++ b ∷ []) t → ForestSum q cs → ForestSum q (child b t cs)
    one_more q b t no_child h s r = ap (λ l. Total (neighbour_fronts key l)) (append-nil (items t)) ∙ omega (arith, s)
    one_more q b t (child c u cs) h s r =
        let all = nf_begin (q ++ b ∷ []) (items t) (begin key (q ++ b ∷ []) t h.0) in
        let others = nf_apart (q ++ b ∷ []) (items_in (child c u cs)) (not_among_others q b (child c u cs) h.1 h.2) in
        let apart = all_weaker (BeginsWith (q ++ b ∷ [])) (λ g. list_any (bytes_eq g) (q ∷ neighbour_fronts key (items_in (child c u cs))) ≡ false)
        (λ g j. not_among bytes_eq same_bytes bytes_from_same g (q ∷ neighbour_fronts key (items_in (child c u cs)))
        (λ e. not_longer q b (subst (BeginsWith (q ++ b ∷ [])) e j), all_weaker (λ l. BeginsWith (q ++ b ∷ []) l → ⊥) (λ l. g ≡ l → ⊥) (λ l m e. m (subst (BeginsWith (q ++ b ∷ [])) e j)) (neighbour_fronts key (items_in (child c u cs))) others)) (neighbour_fronts key (items t)) all in
        let sum = sum_apart bytes_eq same_bytes bytes_from_same f (neighbour_fronts key (items t)) (q ∷ neighbour_fronts key (items_in (child c u cs))) apart in
        let last = front_and_rest q c u cs h.2 r in
        ap Total (nf_parts q b t c u cs h) ∙ omega (arith, sum, last, s)

    mutual
      pub sum_fronts : (path : List ℕ) (t : Tree X) → IsCanonical key path t → Total (neighbour_fronts key (items t)) ≡ weights f path t
      sum_fronts path (leaf x) h = refl
      sum_fronts path (inner prefix cs) h = many (f (path ++ prefix)) (weights_in f (path ++ prefix) cs) (count cs) h.0 (sum_fronts_in (path ++ prefix) cs h.1)
        where
          many : (w m n : ℕ) → 2 ≤ n → Total (neighbour_fronts key (items_in cs)) ≡ extra n w + m → Total (neighbour_fronts key (items_in cs)) ≡ w + m
          many w m zero l e = absurd (omega arith)
          many w m (suc zero) l e = absurd (omega arith)
          many w m (suc (suc n)) l e = e

      pub sum_fronts_in : (q : List ℕ) (cs : Forest X) → AreCanonical key q cs → ForestSum q cs
      sum_fronts_in q no_child h = refl
      sum_fronts_in q (child b t cs) h = one_more q b t cs h (sum_fronts (q ++ b ∷ []) t h.0) (sum_fronts_in q cs h.2)

  -- widths

  bytes_append : (front : List ℕ) (xs ys : List X) → bytes_after key front (xs ++ ys) ≡ bytes_after key front xs ++ bytes_after key front ys
  bytes_append front xs ys = filter_map-append (λ x. byte_after front (key x)) xs ys

  no_bytes : (p front : List ℕ) (xs : List X) → BeginsWith p front → AllByRecursion (λ y. BeginsWith p (key y) → ⊥) xs → bytes_after key front xs ≡ []
  no_bytes p front [] h j = refl
  no_bytes p front (x ∷ xs) h j =
      ap (λ o. cons_option o (bytes_after key front xs)) (none_after front (key x) (λ i. j.0 (begins_trans p front (key x) h i))) ∙ no_bytes p front xs h j.1

  one_byte_each : (q : List ℕ) (b : ℕ) (x : X) (xs : List X) → AllByRecursion (λ y. BeginsWith (q ++ b ∷ []) (key y)) (x ∷ xs)
      → bytes_after key q (x ∷ xs) ≡ b ∷ bytes_after key q xs
  one_byte_each q b x xs h =
      let s = begins_step q b (key x) h.0 in
      ap (λ o. cons_option o (bytes_after key q xs)) (ap (byte_after q) s.1 ∙ after_front q b s.0)

  bytes_same : (q : List ℕ) (b : ℕ) (xs : List X) → AllByRecursion (λ y. BeginsWith (q ++ b ∷ []) (key y)) xs → AllByRecursion (λ c. c ≡ b) (bytes_after key q xs)
  bytes_same q b [] h = tt
  bytes_same q b (x ∷ xs) h = subst (AllByRecursion (λ c. c ≡ b)) (sym (one_byte_each q b x xs h)) (refl, bytes_same q b xs h.1)

  bytes_above : (q : List ℕ) (b : ℕ) (cs : Forest X) → IsBelow b cs → AreCanonical key q cs → AllByRecursion (λ c. b < c) (bytes_after key q (items_in cs))
  bytes_above q b no_child low h = tt
  bytes_above q b (child c t cs) low h =
      subst (AllByRecursion (λ c. b < c)) (sym (bytes_append q (items t) (items_in cs)))
      (all_append _ _ _ (all_weaker _ _ (λ d e. let l = low.0 in omega arith) _ (bytes_same q c (items t) (begin key (q ++ c ∷ []) t h.0))) (bytes_above q b cs low.1 h.2))

  pub width_in : (q : List ℕ) (cs : Forest X) → AreCanonical key q cs → length (distinct nat_eq (bytes_after key q (items_in cs))) ≡ count cs
  width_in q no_child h = refl
  width_in q (child b t cs) h =
      let one : ℕ → ℕ = λ x. 1 in
      let itself = λ (a : ℕ). eq-eqb a a refl in
      let s = some_item key (q ++ b ∷ []) t h.0 in
      let all = subst (AllByRecursion (λ z. BeginsWith (q ++ b ∷ []) (key z))) s.2 (begin key (q ++ b ∷ []) t h.0) in
      let same : AllByRecursion (λ c. c ≡ b) (b ∷ bytes_after key q s.1) = subst (AllByRecursion (λ c. c ≡ b)) (one_byte_each q b s.0 s.1 all) (bytes_same q b (s.0 ∷ s.1) all) in
      let above = bytes_above q b cs h.1 h.2 in
      let apart = all_weaker _ (λ c. list_any (nat_eq c) (bytes_after key q (items_in cs)) ≡ false)
      (λ c e. not_among nat_eq itself eqb-true c _ (all_weaker _ _ (λ d l f. omega arith) _ above)) (b ∷ bytes_after key q s.1) same in
      let sum = sum_apart nat_eq itself eqb-true one (b ∷ bytes_after key q s.1) (bytes_after key q (items_in cs)) apart in
      let first = sum_same nat_eq itself eqb-true one b b (bytes_after key q s.1) same in
      let rest = width_in q cs h.2 in
      let all_bytes : bytes_after key q (items t ++ items_in cs) ≡ (b ∷ bytes_after key q s.1) ++ bytes_after key q (items_in cs)
      = bytes_append q (items t) (items_in cs) ∙ ap (λ l. bytes_after key q l ++ bytes_after key q (items_in cs)) s.2
      ∙ ap (λ l. l ++ bytes_after key q (items_in cs)) (one_byte_each q b s.0 s.1 all) in
      ap (λ l. length (distinct nat_eq l)) all_bytes ∙ omega (arith, sum, first, rest, length_sum (distinct nat_eq ((b ∷ bytes_after key q s.1) ++ bytes_after key q (items_in cs))), length_sum (distinct nat_eq (bytes_after key q (items_in cs))))

  mutual
    pub widths : (whole : List X) (path : List ℕ) (t : Tree X) → IsCanonical key path t
        → ((front : List ℕ) → BeginsWith path front → bytes_after key front whole ≡ bytes_after key front (items t)) → Widths (width_of key whole) path t
    widths whole path (leaf x) h same = tt
    widths whole path (inner prefix cs) h same = (
      ap (λ l. length (distinct nat_eq l)) (same (path ++ prefix) (prefix, refl)) ∙ width_in (path ++ prefix) cs h.1,
      widths_in whole (path ++ prefix) cs h.1 (λ b front j i. same front (begins_append path prefix front (begins_append (path ++ prefix) (b ∷ []) front i))),
    )

    pub widths_in : (whole : List X) (q : List ℕ) (cs : Forest X) → AreCanonical key q cs
        → ((b : ℕ) (front : List ℕ) → HasByte b cs → BeginsWith (q ++ b ∷ []) front → bytes_after key front whole ≡ bytes_after key front (items_in cs)) → WidthsIn (width_of key whole) q cs
    widths_in whole q no_child h same = tt
    widths_in whole q (child c t cs) h same = (
      widths whole (q ++ c ∷ []) t h.0 (λ front i. same c front (inl refl) i ∙ bytes_append front (items t) (items_in cs)
          ∙ ap (λ l. bytes_after key front (items t) ++ l) (no_bytes (q ++ c ∷ []) front (items_in cs) i (not_among_others q c cs h.1 h.2)) ∙ append-nil _),
      widths_in whole q cs h.2 (λ b front j i. same b front (inr j) i ∙ bytes_append front (items t) (items_in cs)
          ∙ ap (λ l. l ++ bytes_after key front (items_in cs)) (no_bytes (q ++ b ∷ []) front (items t) i
          (all_weaker _ _ (λ y s k. let e = one_byte q b c (key y) k s in let l = below_byte c b cs h.1 j in omega arith) _ (begin key (q ++ c ∷ []) t h.0)))),
    )

  -- the inner nodes of each kind, counted from the keys alone
  pub kinds_are_fronts : (test : ℕ → Bool) (t : Tree X) → IsCanonical key [] t → nodes_with test t ≡ fronts_with test key (items t)
  kinds_are_fronts test t h =
      sym (weights_are test (width_of key (items t)) [] t (widths (items t) [] t h (λ front i. refl)))
      ∙ sym (sum_fronts (λ front. cond (test (width_of key (items t) front)) 1 0) [] t h)
