-- A canonical shape has as many nodes as its keys tell.
use Rattle.std.proofs.Common.{◌≡◌, ℕ, ◌+◌, ◌*◌, ◌≤◌, List, [], ◌∷◌, ◌++◌, length, map, refl, ap, ◌∙◌, arith, length-append, bytes_eq}
use Rattle.std.specs.List.{list_any}
use Rattle.std.proofs.lemmas.Bool.{cond_both}
use Rattle.std.proofs.lemmas.List.{length-map}
use Rattle.art_arena.proofs.Common.{Shape, Branches, leaf_at, inner_at, no_branch, branch, erase, erase_in, leaves, leaves_in, pairs_of, cells, cells_in, IsUnder, key_of, distinct, fronts_of, neighbour_fronts, items, canonical-erase, items-erase, length_sum, sum_fronts, weights, weights_in}
use Rattle.art_bytes.proofs.Common.{common_prefix}
use Rattle.art_operations.proofs.Terms.{node_count}

module _ {K V : Type 0} (P : ℕ) where
  mutual
    cells-weigh : (path : List ℕ) (s : Shape K V) → length (cells P s) ≡ length (leaves s) + weights (λ _. 1) path (erase s)
    cells-weigh path (leaf_at slot k v) = refl
    cells-weigh path (inner_at n prefix kids) = let h = cells_in-weigh (path ++ prefix) kids in omega (arith, h)

    cells_in-weigh : (q : List ℕ) (f : Branches K V) → length (cells_in P f) ≡ length (leaves_in f) + weights_in (λ _. 1) q (erase_in f)
    cells_in-weigh q no_branch = refl
    cells_in-weigh q (branch b s rest) =
        let h = cells-weigh (q ++ b ∷ []) s in
        let t = cells_in-weigh q rest in
        omega (arith, h, t, length-append (cells P s) (cells_in P rest), length-append (leaves s) (leaves_in rest))

module _ {K V : Type 0} (bytes : K → List ℕ) (P : ℕ) where
  -- a part too, whatever leads to it
  pub shape-nodes : (path : List ℕ) (s : Shape K V) → IsUnder bytes path s → length (cells P s) ≡ node_count (key_of bytes) (pairs_of (leaves s))
  shape-nodes path s under =
      let fronts = length_sum (fronts_of (key_of bytes) (items (erase s))) ∙ sum_fronts (key_of bytes) (λ _. 1) path (erase s) (canonical-erase bytes path s under) in
      let same = ap (λ xs. length (fronts_of (key_of bytes) xs)) (items-erase s) in
      let many = length-map {B = K × V} (leaves s) (λ l. (l.key, l.value)) in
      let weigh = cells-weigh P path s in
      omega (arith, fronts, same, many, weigh)

module _ {X : Type 0} (key : X → List ℕ) where
  neighbours-map : (xs : List X) → neighbour_fronts key xs ≡ neighbour_fronts (λ k. k) (map key xs)
  neighbours-map [] = refl
  neighbours-map (x ∷ []) = refl
  neighbours-map (x ∷ y ∷ ys) = ap (λ fs. common_prefix (key x) (key y) ∷ fs) (neighbours-map (y ∷ ys))

  -- what is counted is told by the keys alone
  pub counted-map : (xs : List X) → node_count key xs ≡ node_count (λ k. k) (map key xs)
  counted-map xs =
      let fronts = ap (λ fs. length (distinct bytes_eq fs)) (neighbours-map xs) in
      let many = length-map xs key in
      omega (arith, fronts, many)

  few-distinct : (xs : List (List ℕ)) → length (distinct bytes_eq xs) ≤ length xs
  few-distinct [] = omega arith
  few-distinct (x ∷ xs) =
      let h = few-distinct xs in
      cond_both (list_any (bytes_eq x) xs) (distinct bytes_eq xs) (x ∷ distinct bytes_eq xs) (λ l. length l ≤ length (x ∷ xs)) (λ _. omega (arith, h)) (λ _. omega (arith, h))

  few-neighbours : (xs : List X) → length (neighbour_fronts key xs) ≤ length xs
  few-neighbours [] = omega arith
  few-neighbours (x ∷ []) = omega arith
  few-neighbours (x ∷ y ∷ ys) = let h = few-neighbours (y ∷ ys) in omega (arith, h)

  -- at least as many nodes as keys, and at most twice as many
  pub many-nodes : (xs : List X) → length xs ≤ node_count key xs
  many-nodes xs = omega arith

  pub few-nodes : (xs : List X) → node_count key xs ≤ 2 * length xs
  few-nodes xs = let a = few-distinct (neighbour_fronts key xs) in let b = few-neighbours xs in omega (arith, a, b)
