-- How many nodes a look-up reads: the path of its full key, which is short, and is the tenant's own and what it shares
-- with others.
use Rattle.std.proofs.Common.{◌≡◌, ℕ, ◌+◌, ◌<◌, ◌≤◌, ◌^◌, List, [], ◌∷◌, append_assoc, append-nil, length, map, refl, sym, ap, ap₂, ◌∙◌, subst, inl, inr, Bool, true, false, not, cond, arith, bytes_eq, Option, Some, None}
use Rattle.std.specs.Prelude.{◌==◌, filter, IsSome}
use Rattle.std.specs.List.{AllByRecursion, find}
use Rattle.std.specs.Int.{to_be_bytes, w32}
use Rattle.std.proofs.lemmas.Bool.{cond_both, eq-eqb, eqb-true}
use Rattle.art_bytes.proofs.Common.{BeginsWith, common_prefix}
use Rattle.art_arena.proofs.Common.{IsIn, distinct, AscendsByKey, path_of, begins_with, with_front, without_front, crossings, tree_of, Tree, items, IsCanonical, tree_of_ascending, tenant_path, few_crossings, all_weaker}
use Rattle.art_arena.proofs.tree.Blocks.{front_is_block}
use Rattle.art_arena.proofs.tree.Landing.{path_same}
use Rattle.art_arena.proofs.tree.Sizes.{path_length as path_short}
use Rattle.art_arena.proofs.tree.LookUps.{look_up_few, look_up_whole}
use Rattle.art_walks.specs.MapReads.{look_up_reads, of_tree}
use Rattle.art_engine.proofs.Terms.{look_up_nodes, path_nodes, fronts_shared, IsOwnPath}
use Rattle.art_lines.proofs.Common.{full_key}
use Rattle.art_engine.proofs.FrontPaths.{front_path}
use Rattle.art_engine.proofs.Filters.{filter-same}
use Rattle.art_engine.proofs.FullTests.{begins_full}
use Rattle.std.proofs.Math.Bool.{and-true}

module _ {X : Type 0} (key : X → List ℕ) (tenant_of : X → ℕ) (rest_of : X → List ℕ) (keys_are : (x : X) → key x ≡ full_key (tenant_of x) (rest_of x)) (t : ℕ) (small : t < 2 ^ 32) where
  abbrev pub AreSmall : List X → Type 0
  AreSmall xs = AllByRecursion (λ x. tenant_of x < 2 ^ 32) xs

  abbrev mine : List X → List X
  mine xs = filter (λ x. tenant_of x == t) xs

  abbrev front : List ℕ
  front = full_key t []

  -- the tenant's front is that of its records
  begins : (x : X) → tenant_of x < 2 ^ 32 → begins_with front (key x) ≡ (tenant_of x == t)
  begins x fits = ap (begins_with front) (keys_are x) ∙ begins_full t (tenant_of x) [] (rest_of x) small fits ∙ and-true (tenant_of x == t)

  pub own_records : (xs : List X) → AreSmall xs → with_front key front xs ≡ mine xs
  own_records xs fits = filter-same (λ x. begins_with front (key x)) (λ x. tenant_of x == t) xs (all_weaker (λ x. tenant_of x < 2 ^ 32) (λ x. begins_with front (key x) ≡ (tenant_of x == t)) begins xs fits)

  -- what it shares with other records is what it shares with their tenants
  abbrev others : List X → List X
  others xs = filter (λ x. not (tenant_of x == t)) xs

  abbrev met_key : X → List ℕ
  met_key x = common_prefix front (key x)

  abbrev met_tenant : X → List ℕ
  met_tenant x = common_prefix (to_be_bytes w32 t) (to_be_bytes w32 (tenant_of x))

  others_met : (xs : List X) → AreSmall xs → map met_key (without_front key front xs) ≡ map met_tenant (others xs)
  others_met xs fits =
      ap (map met_key) (filter-same (λ x. not (begins_with front (key x))) (λ x. not (tenant_of x == t)) xs
      (all_weaker (λ x. tenant_of x < 2 ^ 32) (λ x. not (begins_with front (key x)) ≡ not (tenant_of x == t)) (λ x low. ap not (begins x low)) xs fits))
      ∙ same_met (others xs)
    where
      same_met : (xs : List X) → map met_key xs ≡ map met_tenant xs
      same_met [] = refl
      same_met (x ∷ xs) = ap₂ (λ k l. common_prefix front k ∷ l) (keys_are x) (same_met xs)

  shares : (xs : List X) → AreSmall xs → crossings key front xs ≡ fronts_shared tenant_of t xs
  shares xs fits = ap (λ ms. length (distinct bytes_eq ms)) (others_met xs fits)

  -- no more than four fronts are shared
  pub few_shared : (xs : List X) → AreSmall xs → fronts_shared tenant_of t xs ≤ 4
  few_shared xs fits = subst (λ n. n ≤ 4) (shares xs fits) (few_crossings key front xs)

  is_mine : (x : X) (xs : List X) → tenant_of x ≡ t → IsIn x xs → IsIn x (mine xs)
  is_mine x [] own i = absurd i
  is_mine x (y ∷ ys) own i = go (tenant_of y == t) refl (is_mine x ys own) i
    where
      go : (b : Bool) → (tenant_of y == t) ≡ b → (IsIn x ys → IsIn x (mine ys)) → IsIn x (y ∷ ys) → IsIn x (cond b (y ∷ mine ys) (mine ys))
      go true e ih (inl same) = inl same
      go true e ih (inr later) = inr (ih later)
      go false e ih (inl same) = absurd (let prefetched : (tenant_of y == t) ≡ true = eq-eqb (tenant_of y) t (ap tenant_of same ∙ own) in cc)
      go false e ih (inr later) = ih later

  -- the path of a key that goes on after a stored one
  path_in_tree : (xs : List X) → AscendsByKey key xs → (x : X) → IsIn x xs → (k : List ℕ) → BeginsWith (key x) k
      → (u : Tree X) × (tree_of key xs ≡ Some u) × IsCanonical key [] u × (items u ≡ xs) × (path_of u k ≡ path_of u (key x))
  path_in_tree [] order x i k begins = absurd i
  path_in_tree (y ∷ ys) order x i k begins =
      let u = tree_of_ascending key y ys order in
      (u.0, u.1, u.2, u.3, path_same key u.0 u.2 k x (subst (IsIn x) (sym u.3) i) begins)

  pub own_path : (xs : List X) → AscendsByKey key xs → AreSmall xs → (x : X) → IsIn x xs → tenant_of x ≡ t → (k : List ℕ) → BeginsWith (key x) k
      → IsOwnPath key tenant_of t k xs (path_nodes key xs k)
  own_path xs order fits x i own k begins =
      let own_order = subst (AscendsByKey key) (own_records xs fits) (front_is_block X key front xs order).0 in
      let all = path_in_tree xs order x i k begins in
      let part = path_in_tree (mine xs) own_order x (is_mine x xs own i) k begins in
      let within : items part.0 ≡ with_front key front (items all.0) = part.3 ∙ sym (own_records xs fits) ∙ ap (with_front key front) (sym all.3) in
      let split = tenant_path key front all.0 part.0 all.2 part.2 within x (subst (IsIn x) (sym part.3) (is_mine x xs own i)) in
      let whole : path_nodes key xs k ≡ length (path_of all.0 (key x)) = ap (of_tree (λ t. length (path_of t k))) all.1 ∙ ap length all.4 in
      let mine_is : path_nodes key (mine xs) k ≡ length (path_of part.0 (key x)) = ap (of_tree (λ t. length (path_of t k))) part.1 ∙ ap length part.4 in
      let shared : crossings key front (items all.0) ≡ fronts_shared tenant_of t xs = ap (crossings key front) all.3 ∙ shares xs fits in
      record { path = omega (arith, whole, mine_is, shared, split); few = few_shared xs fits }

  -- a look-up that finds a record reads the whole path
  pub look_up_whole_path : (P : ℕ) (xs : List X) → AscendsByKey key xs → (x : X) → IsIn x xs → (k : List ℕ) → BeginsWith (key x) k → look_up_nodes key P xs k ≡ path_nodes key xs k
  look_up_whole_path P xs order x i k begins =
      let all = path_in_tree xs order x i k begins in
      ap (of_tree (look_up_reads P k)) all.1 ∙ ap length (look_up_whole key P all.0 all.2 k x (subst (IsIn x) (sym all.3) i) begins) ∙ sym (ap (of_tree (λ u. length (path_of u k))) all.1)

  -- the path of any key of the tenant's, where it has a record
  pub own_way : (xs : List X) → AscendsByKey key xs → AreSmall xs → (x : X) → IsIn x xs → tenant_of x ≡ t → (k : List ℕ) → IsOwnPath key tenant_of t (full_key t k) xs (path_nodes key xs (full_key t k))
  own_way xs order fits x i own k =
      let own_order = subst (AscendsByKey key) (own_records xs fits) (front_is_block X key front xs order).0 in
      let all = path_in_tree xs order x i (key x) ([], sym (append-nil (key x))) in
      let part = path_in_tree (mine xs) own_order x (is_mine x xs own i) (key x) ([], sym (append-nil (key x))) in
      let within : items part.0 ≡ with_front key front (items all.0) = part.3 ∙ sym (own_records xs fits) ∙ ap (with_front key front) (sym all.3) in
      let split = subst (λ full. length (path_of all.0 full) ≡ length (path_of part.0 full) + crossings key front (items all.0)) (append_assoc (to_be_bytes w32 t) [] k)
      (front_path key front all.0 part.0 all.2 part.2 within x (subst (IsIn x) (sym part.3) (is_mine x xs own i)) k) in
      let whole : path_nodes key xs (full_key t k) ≡ length (path_of all.0 (full_key t k)) = ap (of_tree (λ u. length (path_of u (full_key t k)))) all.1 in
      let mine_is : path_nodes key (mine xs) (full_key t k) ≡ length (path_of part.0 (full_key t k)) = ap (of_tree (λ u. length (path_of u (full_key t k)))) part.1 in
      let shared : crossings key front (items all.0) ≡ fronts_shared tenant_of t xs = ap (crossings key front) all.3 ∙ shares xs fits in
      record { path = omega (arith, whole, mine_is, shared, split); few = few_shared xs fits }

-- one of a tenant's own
pub some_own : {X A : Type 0} (tenant_of : X → ℕ) (part : X → A) (t : ℕ) (xs : List X) → (map part (filter (λ x. tenant_of x == t) xs) ≡ [] → ⊥) → (x : X) × IsIn x xs × (tenant_of x ≡ t)
some_own tenant_of part t [] some = absurd (some refl)
some_own {X} {A} tenant_of part t (x ∷ xs) some =
    cond_both (tenant_of x == t) (x ∷ filter (λ x. tenant_of x == t) xs) (filter (λ x. tenant_of x == t) xs) (λ l. (map part l ≡ [] → ⊥) → (y : X) × IsIn y (x ∷ xs) × (tenant_of y ≡ t))
    (λ own s. (x, inl refl, eqb-true (tenant_of x) t own)) (λ other s. let y = some_own tenant_of part t xs s in (y.0, inr y.1, y.2)) some

-- a look-up reads no more nodes than the path has
pub look_up_within : {X : Type 0} (key : X → List ℕ) (P : ℕ) (xs : List X) (k : List ℕ) → look_up_nodes key P xs k ≤ path_nodes key xs k
look_up_within {X = X} key P xs k = go (tree_of key xs)
  where
    go : (o : Option (Tree X)) → of_tree (look_up_reads P k) o ≤ of_tree (λ t. length (path_of t k)) o
    go None = omega arith
    go (Some t) = look_up_few P t k

-- and at most one node more than its key has bytes
pub look_up_is_short : {X : Type 0} (key : X → List ℕ) (P : ℕ) (xs : List X) (k : List ℕ) → look_up_nodes key P xs k ≤ length k + 1
look_up_is_short {X = X} key P xs k = go (tree_of key xs)
  where
    go : (o : Option (Tree X)) → of_tree (look_up_reads P k) o ≤ length k + 1
    go None = omega arith
    go (Some t) = let few = look_up_few P t k in let short = path_short t k in omega (arith, few, short)

-- a record that is found among a tenant's by a test of its key, or of its number
module _ {X A : Type 0} (tenant_of : X → ℕ) (part : X → A × List ℕ) (t : ℕ) (T : A → Bool) where
  abbrev pub IsFoundAmong : List X → Type 0
  IsFoundAmong xs = (x : X) × IsIn x xs × (tenant_of x ≡ t) × (T (part x).0 ≡ true)

  following : (x : X) (xs : List X) → IsFoundAmong xs → IsFoundAmong (x ∷ xs)
  following x xs f = (f.0, inr f.1, f.2, f.3)

  abbrev IsMet : List (A × List ℕ) → Type 0
  IsMet pairs = IsSome (find (λ p. T p.0) pairs)

  abbrev parts : List X → List (A × List ℕ)
  parts xs = map part (filter (λ x. tenant_of x == t) xs)

  pub found_record : (xs : List X) → IsMet (parts xs) → IsFoundAmong xs
  found_record [] some = absurd (cc)
  found_record (x ∷ xs) some =
      let later = λ (s : IsMet (parts xs)). following x xs (found_record xs s) in
      cond_both (tenant_of x == t) (x ∷ filter (λ x. tenant_of x == t) xs) (filter (λ x. tenant_of x == t) xs) (λ l. IsMet (map part l) → IsFoundAmong (x ∷ xs))
      (λ own. cond_both (T (part x).0) (Some (part x)) (find (λ p. T p.0) (parts xs)) (λ o. IsSome o → IsFoundAmong (x ∷ xs))
      (λ passes s. (x, inl refl, eqb-true (tenant_of x) t own, passes)) (λ fails. later)) (λ other. later) some
