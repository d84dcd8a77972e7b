-- How much is read at a place of a canonical tree, and at the ends of a range: few nodes, told by the longest key alone.
use Rattle.std.proofs.Common.{◌≡◌, ℕ, zero, suc, ◌+◌, ◌*◌, ◌-◌, ◌<◌, ◌≤◌, nat_lt, eqb, Bool, true, false, List, [], ◌∷◌, ◌++◌, length, length-append, drop, filter, Some, refl, sym, ap, subst, ◌∙◌, ◌⊎◌, inl, inr, arith, bytes_eq}
use Rattle.std.specs.List.{AllByRecursion}
use Rattle.std.specs.Prelude.{if◌then◌else◌}
use Rattle.std.specs.BTreeMap.Range.{is_from_start, is_past_end}
use Rattle.std.specs.declared.ops.Bound.{Bound}
use Rattle.std.specs.declared.ops.Bound.TheVariants.{Included, Excluded, Unbounded}
use Rattle.std.proofs.lemmas.Bool.{cond_both}
use Rattle.art_bytes.proofs.Common.{BeginsWith, bytes_cmp}
use Rattle.art_arena.proofs.Common.{all_left, all_right}
use Rattle.art_arena.proofs.Terms.{Tree, Forest, leaf, inner, no_child, child, items, items_in, count, IsCanonical, AreCanonical, path_of, path_in, end_path, end_path_in, last_path_in, led_on, path_to_guide, way_of, way_in, way_end, last_or, is_cut, prefix_reads, guide_reads, ends}
use Rattle.art_arena.proofs.Terms.{differs, passes, pass, is_before, begins_with}
use Rattle.art_arena.specs.declared.ends.End.{End}
use Rattle.art_arena.specs.declared.ends.End.TheVariants.{First, Last}
use Rattle.art_arena.specs.tree.Landing.{Passing}
use Rattle.art_operations.proofs.Terms.{beside_reads, bound_reads, end_reads, ends_reads, first_above, near_reads, part_reads, place_reads, range_reads}
use Rattle.art_operations.specs.Laws.{CountsAreFew}

-- no way down has more nodes than this
abbrev mutual
  pub IsNoDeeper : {X : Type 0} → ℕ → Tree X → Type 0
  IsNoDeeper n (leaf x) = 1 ≤ n
  IsNoDeeper n (inner prefix children) = (1 ≤ n) × AreNoDeeper (n - 1) children

  pub AreNoDeeper : {X : Type 0} → ℕ → Forest X → Type 0
  AreNoDeeper n no_child = Unit {0}
  AreNoDeeper n (child byte tree others) = IsNoDeeper n tree × AreNoDeeper n others

some : {X : Type 0} (n : ℕ) (t : Tree X) → IsNoDeeper n t → 1 ≤ n
some n (leaf x) h = h
some n (inner prefix cs) h = h.0

mutual
  wider : {X : Type 0} (m n : ℕ) (t : Tree X) → m ≤ n → IsNoDeeper m t → IsNoDeeper n t
  wider m n (leaf x) few h = omega (arith, few, h)
  wider m n (inner prefix cs) few h = let one = h.0 in (omega (arith, few, one), wider_in (m - 1) (n - 1) cs (omega (arith, few, one)) h.1)

  wider_in : {X : Type 0} (m n : ℕ) (cs : Forest X) → m ≤ n → AreNoDeeper m cs → AreNoDeeper n cs
  wider_in m n no_child few h = tt
  wider_in m n (child c t cs) few h = (wider m n t few h.0, wider_in m n cs few h.1)

one_less : {X : Type 0} (n : ℕ) (cs : Forest X) → AreNoDeeper (suc n - 1) cs → AreNoDeeper n cs
one_less n cs h = wider_in (suc n - 1) n cs (omega arith) h

-- a node stands after fewer bytes than the keys below it have
module _ {X : Type 0} (key : X → List ℕ) (longest : ℕ) where
  abbrev Short : X → Type 0
  Short x = length (key x) ≤ longest

  long : (q k : List ℕ) → BeginsWith q k → length q ≤ length k
  long q k (rest, is) = let size = ap length is ∙ length-append q rest in omega (arith, size)

  mutual
    pub within : (q : List ℕ) (n : ℕ) (t : Tree X) → IsCanonical key q t → AllByRecursion Short (items t) → longest + 1 ≤ length q + n → IsNoDeeper n t
    within q n (leaf x) is short few =
        let most = short.0 in
        let front = long q (key x) is in
        omega (arith, few, most, front)
    within q n (inner prefix cs) is short few =
        let front = above (q ++ prefix) cs is.0 is.1 short in
        let size = length-append q prefix in
        let one : 1 ≤ n = omega (arith, few, front, size) in
        (one, within_in (q ++ prefix) (n - 1) cs is.1 short (omega (arith, few, size, one)))

    within_in : (q : List ℕ) (n : ℕ) (cs : Forest X) → AreCanonical key q cs → AllByRecursion Short (items_in cs) → longest ≤ length q + n → AreNoDeeper n cs
    within_in q n no_child is short few = tt
    within_in q n (child c t cs) is short few =
        let size = length-append q (c ∷ []) in
        (within (q ++ c ∷ []) n t is.0 (all_left Short (items t) (items_in cs) short) (omega (arith, few, size)), within_in q n cs is.2 (all_right Short (items t) (items_in cs) short) few)

    -- some key goes on after a node that has children
    above : (q : List ℕ) (cs : Forest X) → 2 ≤ count cs → AreCanonical key q cs → AllByRecursion Short (items_in cs) → length q < longest + 1
    above q no_child two is short = absurd (omega (arith, two))
    above q (child c t cs) two is short = let size = length-append q (c ∷ []) in let front = least (q ++ c ∷ []) t is.0 (all_left Short (items t) (items_in cs) short) in omega (arith, size, front)

    least : (q : List ℕ) (t : Tree X) → IsCanonical key q t → AllByRecursion Short (items t) → length q ≤ longest
    least q (leaf x) is short = let front = long q (key x) is in let most = short.0 in omega (arith, front, most)
    least q (inner prefix cs) is short = let front = above (q ++ prefix) cs is.0 is.1 short in let size = length-append q prefix in omega (arith, front, size)

-- the ways down to an end, and to a guide
module _ {X : Type 0} where
  mutual
    pub end_few : (end : End) (n : ℕ) (t : Tree X) → IsNoDeeper n t → length (end_path end t) ≤ n
    end_few end n (leaf x) h = h
    end_few end n (inner prefix cs) h = let one = h.0 in let below = end_few_in end (n - 1) cs h.1 in omega (arith, one, below)

    end_few_in : (end : End) (n : ℕ) (cs : Forest X) → AreNoDeeper n cs → length (end_path_in end cs) ≤ n
    end_few_in end n no_child h = omega arith
    end_few_in First n (child c t cs) h = end_few First n t h.0
    end_few_in Last n (child c t cs) h = last_few n (end_path Last t) cs (end_few Last n t h.0) h.1

    last_few : (n : ℕ) (path : List (Tree X)) (cs : Forest X) → length path ≤ n → AreNoDeeper n cs → length (last_path_in path cs) ≤ n
    last_few n path no_child few h = few
    last_few n path (child c t cs) few h = last_few n (end_path Last t) cs (end_few Last n t h.0) h.1

  led_few : (n : ℕ) (t : Tree X) (nodes : List (Tree X)) → 1 ≤ n → length (end_path First t) ≤ n → length (led_on nodes) ≤ n - 1 → length (led_on (t ∷ nodes)) ≤ n
  led_few n t [] one end below = end
  led_few n t (u ∷ nodes) one end below = omega (arith, one, below)

  mutual
    guide_few : (n : ℕ) (t : Tree X) (k : List ℕ) → IsNoDeeper n t → length (path_to_guide t k) ≤ n
    guide_few n (leaf x) k h = h
    guide_few n (inner prefix cs) k h =
        led_few n (inner prefix cs) (path_in cs (drop (length prefix) k)) h.0 (end_few First n (inner prefix cs) h) (guide_few_in (n - 1) cs (drop (length prefix) k) h.1)

    guide_few_in : (n : ℕ) (cs : Forest X) (k : List ℕ) → AreNoDeeper n cs → length (led_on (path_in cs k)) ≤ n
    guide_few_in n no_child k h = omega arith
    guide_few_in n (child c t cs) [] h = omega arith
    guide_few_in n (child c t cs) (b ∷ k) h = cond_both (eqb b c) (path_of t k) (path_in cs (b ∷ k)) (λ l. length (led_on l) ≤ n) (λ _. guide_few n t k h.0) (λ _. guide_few_in n cs (b ∷ k) h.1)

  -- after a node a way ends, or is that of a child
  abbrev Onward : ℕ → List (Tree X × List ℕ) → Type 0
  Onward n way = (way ≡ []) ⊎ ((u : Tree X) × (k : List ℕ) × IsNoDeeper n u × (way ≡ way_of u k))

  onward_in : (n : ℕ) (cs : Forest X) (b : ℕ) (k : List ℕ) → AreNoDeeper n cs → Onward n (way_in cs b k)
  onward_in n no_child b k h = inl refl
  onward_in n (child c t cs) b k h = cond_both (eqb b c) (way_of t k) (way_in cs b k) (Onward n) (λ _. inr (t, k, h.0, refl)) (λ _. onward_in n cs b k h.1)

  abbrev following : Forest X → Passing → List (Tree X × List ℕ)
  following cs w = elim w [ ends ↦ [] | differs ↦ [] | passes b rest ↦ way_in cs b rest ]

  onward : (n : ℕ) (cs : Forest X) (w : Passing) → AreNoDeeper n cs → Onward n (following cs w)
  onward n cs ends h = inl refl
  onward n cs differs h = inl refl
  onward n cs (passes b rest) h = onward_in n cs b rest h

  -- such a way ends where that of the child does
  same_end : (here : Tree X × List ℕ) (u : Tree X) (k : List ℕ) → last_or here (way_of u k) ≡ way_end u k
  same_end here (leaf x) k = refl
  same_end here (inner prefix cs) k = refl

  module _ (P : ℕ) where
    uncut : (t : Tree X) → is_cut P t ≡ false → prefix_reads P t ≡ 1
    uncut t e = rw e refl

    whole_few : (n : ℕ) (t : Tree X) → IsNoDeeper n t → prefix_reads P t ≤ n
    whole_few n t h = cond_both (is_cut P t) (length (end_path First t)) 1 (λ m. m ≤ n) (λ _. end_few First n t h) (λ _. some n t h)

    -- with a guide at hand: the way, and the whole prefix at its end
    guided : (n : ℕ) (t : Tree X) (k : List ℕ) → IsNoDeeper n t → length (way_of t k) + prefix_reads P (way_end t k).0 ≤ n + 1
    guided zero t k h = let one = some 0 t h in absurd (omega (arith, one))
    guided (suc n) (leaf x) k h = omega arith
    guided (suc n) (inner prefix cs) k h = step (λ u l inside. guided n u l inside) (following cs (pass prefix k)) (onward n cs (pass prefix k) (one_less n cs h.1))
      where
        step : ((u : Tree X) (l : List ℕ) → IsNoDeeper n u → length (way_of u l) + prefix_reads P (way_end u l).0 ≤ n + 1) → (tail : List (Tree X × List ℕ)) → Onward n tail → suc (length tail) + prefix_reads P (last_or (inner prefix cs, k) tail).0 ≤ suc n + 1
        step later tail (inl e) =
            let few = whole_few (suc n) (inner prefix cs) h in
            subst (λ (w : List (Tree X × List ℕ)). suc (length w) + prefix_reads P (last_or (inner prefix cs, k) w).0 ≤ suc n + 1) (sym e) (omega (arith, few))
        step later tail (inr (u, l, inside, e)) =
            let below = later u l inside in
            let same = ap (λ (w : Tree X × List ℕ). prefix_reads P w.0) (same_end (inner prefix cs, k) u l) in
            subst (λ (w : List (Tree X × List ℕ)). suc (length w) + prefix_reads P (last_or (inner prefix cs, k) w).0 ≤ suc n + 1) (sym e) (omega (arith, below, same))

    -- a place
    pub place_few : (n : ℕ) (t : Tree X) (k : List ℕ) → IsNoDeeper n t → place_reads P t k ≤ 2 * n
    place_few zero t k h = let one = some 0 t h in absurd (omega (arith, one))
    place_few (suc n) (leaf x) k h = omega arith
    place_few (suc n) (inner prefix cs) k h =
        cond_both (is_cut P (inner prefix cs)) (length (path_to_guide (inner prefix cs) k) - 1) (guide_reads P (following cs (pass prefix k)))
        (λ g. (suc (length (following cs (pass prefix k))) + g) + prefix_reads P (last_or (inner prefix cs, k) (following cs (pass prefix k))).0 ≤ 2 * suc n)
        (λ _. let way = guided (suc n) (inner prefix cs) k h in let guide = guide_few (suc n) (inner prefix cs) k h in omega (arith, way, guide))
        (λ e. step (λ u l inside. place_few n u l inside) (following cs (pass prefix k)) (onward n cs (pass prefix k) (one_less n cs h.1)) (uncut (inner prefix cs) e))
      where
        step : ((u : Tree X) (l : List ℕ) → IsNoDeeper n u → place_reads P u l ≤ 2 * n) → (tail : List (Tree X × List ℕ)) → Onward n tail → prefix_reads P (inner prefix cs) ≡ 1 → (suc (length tail) + guide_reads P tail) + prefix_reads P (last_or (inner prefix cs, k) tail).0 ≤ 2 * suc n
        step later tail (inl e) one = subst (λ (w : List (Tree X × List ℕ)). (suc (length w) + guide_reads P w) + prefix_reads P (last_or (inner prefix cs, k) w).0 ≤ 2 * suc n) (sym e) (omega (arith, one))
        step later tail (inr (u, l, inside, e)) one =
            let below = later u l inside in
            let same = ap (λ (w : Tree X × List ℕ). prefix_reads P w.0) (same_end (inner prefix cs, k) u l) in
            subst (λ (w : List (Tree X × List ℕ)). (suc (length w) + guide_reads P w) + prefix_reads P (last_or (inner prefix cs, k) w).0 ≤ 2 * suc n) (sym e) (omega (arith, below, same))

  -- what stands at the end of a way
  pub end_within : (n : ℕ) (t : Tree X) (k : List ℕ) → IsNoDeeper n t → IsNoDeeper n (way_end t k).0
  end_within zero t k h = let one = some 0 t h in absurd (omega (arith, one))
  end_within (suc n) (leaf x) k h = h
  end_within (suc n) (inner prefix cs) k h = step (λ u l inside. end_within n u l inside) (following cs (pass prefix k)) (onward n cs (pass prefix k) (one_less n cs h.1))
    where
      step : ((u : Tree X) (l : List ℕ) → IsNoDeeper n u → IsNoDeeper n (way_end u l).0) → (tail : List (Tree X × List ℕ)) → Onward n tail → IsNoDeeper (suc n) (last_or (inner prefix cs, k) tail).0
      step later tail (inl e) = subst (λ (w : List (Tree X × List ℕ)). IsNoDeeper (suc n) (last_or (inner prefix cs, k) w).0) (sym e) h
      step later tail (inr (u, l, inside, e)) =
          let below = wider n (suc n) (way_end u l).0 (omega arith) (later u l inside) in
          subst (λ (w : List (Tree X × List ℕ)). IsNoDeeper (suc n) (last_or (inner prefix cs, k) w).0) (sym e) (subst (λ (w : Tree X × List ℕ). IsNoDeeper (suc n) w.0) (sym (same_end (inner prefix cs, k) u l)) below)

  -- a leaf beside it
  beside_few : (n : ℕ) (t : Tree X) (b : ℕ) (cs : Forest X) → 1 ≤ n → length (end_path Last t) ≤ n → AreNoDeeper (n - 1) cs → beside_reads t (first_above b cs) ≤ n + 1
  beside_few n t b no_child one last h = omega (arith, last)
  beside_few n t b (child c u cs) one last h =
      cond_both (nat_lt b c) (Some u) (first_above b cs) (λ o. beside_reads t o ≤ n + 1) (λ _. let first = end_few First (n - 1) u h.0 in omega (arith, first, one)) (λ _. beside_few n t b cs one last h.1)

  near_few : (n : ℕ) (t : Tree X) (k : List ℕ) → IsNoDeeper n t → near_reads (t, k) ≤ n + 1
  near_few n (leaf x) k h = omega arith
  near_few n (inner prefix cs) k h = at (pass prefix k)
    where
      at : (w : Passing) → elim w [
        | ends ↦ length (end_path First (inner prefix cs))
        | differs ↦ length (end_path (if is_before k prefix then First else Last) (inner prefix cs))
        | passes b rest ↦ beside_reads (inner prefix cs) (first_above b cs)
      ] ≤ n + 1
      at ends = let few = end_few First n (inner prefix cs) h in omega (arith, few)
      at differs = let few = end_few (if is_before k prefix then First else Last) n (inner prefix cs) h in omega (arith, few)
      at (passes b rest) = beside_few n (inner prefix cs) b cs h.0 (end_few Last n (inner prefix cs) h) h.1

  -- an end of a range, and both
  module _ (P n : ℕ) (t : Tree X) (h : IsNoDeeper n t) where
    at_key : (k : List ℕ) → suc (place_reads P t k + near_reads (way_end t k)) ≤ 3 * n + 2
    at_key k =
        let place = place_few P n t k h in
        let near = near_few n (way_end t k).0 (way_end t k).1 (end_within n t k h) in
        omega (arith, place, near)

    bound_few : (is_start : Bool) (bound : Bound (List ℕ)) → bound_reads P is_start t bound ≤ 3 * n + 2
    bound_few is_start (Included k) = at_key k
    bound_few is_start (Excluded k) = at_key k
    bound_few is_start Unbounded = let few = end_few (if is_start then First else Last) n t h in omega (arith, few)

    module _ (key : X → List ℕ) where
      other_few : (end : Bound (List ℕ)) (xs : List X) → end_reads key P t end xs ≤ 3 * n + 3
      other_few end [] = omega arith
      other_few end (x ∷ xs) =
          cond_both (is_past_end bytes_cmp end (key x)) 0 (bound_reads P false t end) (λ m. suc m ≤ 3 * n + 3) (λ _. omega arith) (λ _. let few = bound_few false end in omega (arith, few))

      range_few : (start end : Bound (List ℕ)) → range_reads key P t start end ≤ 6 * n + 6
      range_few start end =
          let first = bound_few true start in
          let last = other_few end (filter (λ x. is_from_start bytes_cmp start (key x)) (items t)) in
          omega (arith, first, last)

      both_few : (front : List ℕ) (u : Tree X) → IsNoDeeper n u → (xs : List X) → ends_reads key front u xs ≤ 2 * n
      both_few front u inside [] = omega arith
      both_few front u inside (x ∷ xs) =
          let first = end_few First n u inside in
          let last = end_few Last n u inside in
          cond_both (bytes_eq front (key x)) 0 _ (λ m. m ≤ 2 * n) (λ _. omega arith)
          (λ _. cond_both (begins_with front (key x)) (length (end_path First u) + length (end_path Last u)) _ (λ m. m ≤ 2 * n) (λ _. omega (arith, first, last))
          (λ _. cond_both (begins_with (key x) front) (length (end_path First u)) 0 (λ m. m ≤ 2 * n) (λ _. omega (arith, first)) (λ _. omega arith)))

      part_few : (front : List ℕ) → part_reads key P t front ≤ 4 * n
      part_few front =
          let place = place_few P n t front h in
          let both = both_few front (way_end t front).0 (end_within n t front h) (items (way_end t front).0) in
          omega (arith, place, both)

pub counts-few : (X : Type 0) → CountsAreFew X
counts-few X key t is longest short P = (
  λ k. (let few = place_few P (longest + 1) t k inside in omega (arith, few)),
  λ is_start bound. (let few = bound_few P (longest + 1) t inside is_start bound in omega (arith, few)),
  λ start end. (let few = range_few P (longest + 1) t inside key start end in omega (arith, few)),
  λ front. (let few = part_few P (longest + 1) t inside key front in omega (arith, few)),
)
  where
    inside : IsNoDeeper (longest + 1) t
    inside = within key longest [] (longest + 1) t is short (omega arith)
