-- How many comparisons a merge of two ascending lists needs, step by step.
use Rattle.std.proofs.Common.{◌≡◌, ℕ, ◌+◌, Bool, true, false, not, cond, ◌||◌, List, [], ◌∷◌, refl, sym, ap, ap₂, ◌∙◌, subst, arith, length}
use Rattle.std.specs.Prelude.{filter}
use Rattle.std.specs.Bool.{OnFalse}
use Rattle.std.specs.List.{AllByRecursion}
use Rattle.std.specs.Ordering.{is_lt}
use Rattle.std.specs.declared.cmp.Ordering.{Ordering}
use Rattle.std.specs.declared.cmp.Ordering.TheVariants.{Less, Equal, Greater}
use Rattle.art_bytes.proofs.Common.{bytes_cmp, is_below}
use Rattle.art_set.proofs.Terms.{is_member, comparisons_of, difference_of, has_not_below, AscendsInBytes, filter-none, filter-same}
use Rattle.art_operations.proofs.Common.{turned}
use Rattle.art_walks.proofs.Common.{all-filter}
use Rattle.art_arena.proofs.Common.{all_weaker}
use Rattle.art_set.proofs.MergeLemmas.{AreAbove, above-lack, above-next, above-next-turned, above-same, agrees, following}

-- what holds is so where a test fails
pub on-false : {P : Type 0} (b : Bool) → P → OnFalse b P
on-false true p = tt
on-false false p = p

module _ {K : Type 0} (bytes : K → List ℕ) where
  lt-is : (k l : List ℕ) (o : Ordering) → bytes_cmp k l ≡ o → is_below k l ≡ is_lt o
  lt-is k l o e = ap is_lt e

  -- of two keys in order the second is not below the first
  not-before : (x y : K) → bytes_cmp (bytes x) (bytes y) ≡ Less → is_below (bytes y) (bytes x) ≡ false
  not-before x y e = lt-is (bytes y) (bytes x) Greater (turned (bytes x) (bytes y) Less e)

  -- a key is not below one that is above it
  pub reaches : (x y : K) (ys : List K) → is_below (bytes y) (bytes x) ≡ false → has_not_below bytes x (y ∷ ys) ≡ true
  reaches x y ys e = ap (λ b. not b || has_not_below bytes x ys) e

  -- what is below a key counts for none that is not
  skips : (x y : K) (ys : List K) → is_below (bytes y) (bytes x) ≡ true → has_not_below bytes x (y ∷ ys) ≡ has_not_below bytes x ys
  skips x y ys e = ap (λ b. not b || has_not_below bytes x ys) e

  below-all : (x : K) (ys zs : List K) → AreAbove bytes x zs → AllByRecursion (λ z. has_not_below bytes z (x ∷ ys) ≡ has_not_below bytes z ys) zs
  below-all x ys zs h = all_weaker _ (λ z. has_not_below bytes z (x ∷ ys) ≡ has_not_below bytes z ys) (λ z e. skips z x ys (lt-is (bytes x) (bytes z) Less e)) zs h

  pub none-of-first : (ys : List K) → comparisons_of bytes [] ys ≡ 0
  none-of-first ys = let e = ap length (filter-none (λ y. has_not_below bytes y []) (difference_of bytes ys []) (λ y. refl)) in omega (arith, e)

  pub none-of-second : (xs : List K) → comparisons_of bytes xs [] ≡ 0
  none-of-second xs = let e = ap length (filter-none (λ x. has_not_below bytes x []) xs (λ x. refl)) in omega (arith, e)

  -- the keys of the second list that the first lacks, without the first's next key
  lacks-same : (x : K) (xs ys : List K) → AreAbove bytes x ys → difference_of bytes ys (x ∷ xs) ≡ difference_of bytes ys xs
  lacks-same x xs ys beside = filter-same _ _ ys (all_weaker _ (λ y. not (is_member bytes (bytes y) (x ∷ xs)) ≡ not (is_member bytes (bytes y) xs)) (λ y e. ap not e) ys (following bytes x xs ys beside))

  -- the first list's next key is below all of the second
  pub one-first : (x y : K) (xs ys : List K) → AreAbove bytes x xs → AreAbove bytes x (y ∷ ys) → comparisons_of bytes (x ∷ xs) (y ∷ ys) ≡ 1 + comparisons_of bytes xs (y ∷ ys)
  one-first x y xs ys up beside =
      let zs = y ∷ ys in
      let here = ap (λ b. length (cond b (x ∷ filter (λ z. has_not_below bytes z zs) xs) (filter (λ z. has_not_below bytes z zs) xs))) (reaches x y ys (not-before x y beside.0)) in
      let lacks = ap (λ ks. length (filter (λ z. has_not_below bytes z (x ∷ xs)) ks)) (lacks-same x xs zs beside) in
      let there = ap length (filter-same (λ z. has_not_below bytes z (x ∷ xs)) (λ z. has_not_below bytes z xs) (difference_of bytes zs xs)
      (below-all x xs (difference_of bytes zs xs) (all-filter (λ z. bytes_cmp (bytes x) (bytes z) ≡ Less) (λ z. not (is_member bytes (bytes z) xs)) zs beside))) in
      omega (arith, here, lacks, there)

  -- the second list's next key is below all of the first
  pub one-second : (x y : K) (xs ys : List K) → AreAbove bytes y (x ∷ xs) → AreAbove bytes y ys → comparisons_of bytes (x ∷ xs) (y ∷ ys) ≡ 1 + comparisons_of bytes (x ∷ xs) ys
  one-second x y xs ys beside up =
      let ws = x ∷ xs in
      let first = ap length (filter-same (λ z. has_not_below bytes z (y ∷ ys)) (λ z. has_not_below bytes z ys) ws (below-all y ys ws beside)) in
      let lack = ap (λ b. length (filter (λ z. has_not_below bytes z ws) (cond (not b) (y ∷ difference_of bytes ys ws) (difference_of bytes ys ws)))) (above-lack bytes y ws beside) in
      let here = ap (λ b. length (cond b (y ∷ filter (λ z. has_not_below bytes z ws) (difference_of bytes ys ws)) (filter (λ z. has_not_below bytes z ws) (difference_of bytes ys ws)))) (reaches y x xs (not-before y x beside.0)) in
      omega (arith, first, lack, here)

  -- both have the next key
  pub one-both : (x y : K) (xs ys : List K) → bytes_cmp (bytes x) (bytes y) ≡ Equal → AreAbove bytes x xs → AreAbove bytes y ys → comparisons_of bytes (x ∷ xs) (y ∷ ys) ≡ 1 + comparisons_of bytes xs ys
  one-both x y xs ys same up beside =
      let back = turned (bytes x) (bytes y) Equal same in
      let ahead : AreAbove bytes x ys = above-same bytes x y ys same beside in
      let after_y : AreAbove bytes y xs = above-same bytes y x xs back up in
      let here = ap (λ b. length (cond b (x ∷ filter (λ z. has_not_below bytes z (y ∷ ys)) xs) (filter (λ z. has_not_below bytes z (y ∷ ys)) xs))) (reaches x y ys (lt-is (bytes y) (bytes x) Equal back)) in
      let first = ap length (filter-same (λ z. has_not_below bytes z (y ∷ ys)) (λ z. has_not_below bytes z ys) xs (below-all y ys xs after_y)) in
      let met : is_member bytes (bytes y) (x ∷ xs) ≡ true = ap (λ b. b || is_member bytes (bytes y) xs) (agrees (bytes x) (bytes y) same) in
      let has = ap (λ b. length (filter (λ z. has_not_below bytes z (x ∷ xs)) (cond (not b) (y ∷ difference_of bytes ys (x ∷ xs)) (difference_of bytes ys (x ∷ xs))))) met in
      let lacks = ap (λ ks. length (filter (λ z. has_not_below bytes z (x ∷ xs)) ks)) (lacks-same x xs ys ahead) in
      let there = ap length (filter-same (λ z. has_not_below bytes z (x ∷ xs)) (λ z. has_not_below bytes z xs) (difference_of bytes ys xs)
      (below-all x xs (difference_of bytes ys xs) (all-filter (λ z. bytes_cmp (bytes x) (bytes z) ≡ Less) (λ z. not (is_member bytes (bytes z) xs)) ys ahead))) in
      omega (arith, here, first, has, lacks, there)

  -- two lists, of which the next key of one or of each is gone past
  pub left-first : (x y : K) (xs ys on rest : List K) → xs ≡ x ∷ on → ys ≡ y ∷ rest → AscendsInBytes bytes xs → AscendsInBytes bytes ys → bytes_cmp (bytes x) (bytes y) ≡ Less → comparisons_of bytes xs ys ≡ 1 + comparisons_of bytes on ys
  left-first x y xs ys on rest e f up beside less =
      ap₂ (comparisons_of bytes) e f
      ∙ one-first x y on rest (subst (AscendsInBytes bytes) e up).0 (subst (AreAbove bytes x) f (above-next bytes x y ys rest f beside less))
      ∙ ap (λ zs. 1 + comparisons_of bytes on zs) (sym f)

  pub left-second : (x y : K) (xs ys on rest : List K) → xs ≡ x ∷ on → ys ≡ y ∷ rest → AscendsInBytes bytes xs → AscendsInBytes bytes ys → bytes_cmp (bytes x) (bytes y) ≡ Greater → comparisons_of bytes xs ys ≡ 1 + comparisons_of bytes xs rest
  left-second x y xs ys on rest e f up beside more =
      ap₂ (comparisons_of bytes) e f
      ∙ one-second x y on rest (subst (AreAbove bytes y) e (above-next-turned bytes x y xs on e up more)) (subst (AscendsInBytes bytes) f beside).0
      ∙ ap (λ zs. 1 + comparisons_of bytes zs rest) (sym e)

  pub left-both : (x y : K) (xs ys on rest : List K) → xs ≡ x ∷ on → ys ≡ y ∷ rest → AscendsInBytes bytes xs → AscendsInBytes bytes ys → bytes_cmp (bytes x) (bytes y) ≡ Equal → comparisons_of bytes xs ys ≡ 1 + comparisons_of bytes on rest
  left-both x y xs ys on rest e f up beside same =
      ap₂ (comparisons_of bytes) e f ∙ one-both x y on rest same (subst (AscendsInBytes bytes) e up).0 (subst (AscendsInBytes bytes) f beside).0

  -- none is left where a list is at its end
  pub no-first : (xs ys : List K) → xs ≡ [] → comparisons_of bytes xs ys ≡ 0
  no-first xs ys e = ap (λ zs. comparisons_of bytes zs ys) e ∙ none-of-first ys

  pub no-second : (xs ys : List K) → ys ≡ [] → comparisons_of bytes xs ys ≡ 0
  no-second xs ys e = ap (comparisons_of bytes xs) e ∙ none-of-second xs
