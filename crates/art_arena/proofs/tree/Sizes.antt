-- How long a path is, and how many inner nodes there are.
use Rattle.std.proofs.Common.{ℕ, ◌+◌, ◌≤◌, List, [], ◌∷◌, ◌++◌, length, drop, arith, length-append, length-drop, Bool, eqb}
use Rattle.std.proofs.lemmas.Bool.{cond_both}
use Rattle.art_arena.proofs.Terms.{Tree, Forest, leaf, inner, no_child, child, items, items_in, count, IsCanonical, AreCanonical, nodes_with, nodes_in, path_of, path_in}

-- a path has at most one node more than the key has bytes
mutual
  pub path_length : {X : Type 0} (t : Tree X) (k : List ℕ) → length (path_of t k) ≤ length k + 1
  path_length (leaf x) k = omega arith
  path_length (inner prefix cs) k = let h = path_in_length cs (drop (length prefix) k) in omega (arith, length-drop (length prefix) k)

  pub path_in_length : {X : Type 0} (cs : Forest X) (k : List ℕ) → length (path_in cs k) ≤ length k
  path_in_length no_child k = omega arith
  path_in_length (child c t cs) [] = omega arith
  path_in_length (child c t cs) (b ∷ k) =
      let here = path_length t k in
      let there = path_in_length cs (b ∷ k) in
      cond_both (eqb b c) (path_of t k) (path_in cs (b ∷ k)) (λ l. length l ≤ length (b ∷ k)) (λ _. omega arith) (λ _. there)

-- m leaves have at most m - 1 inner nodes
module _ {X : Type 0} (key : X → List ℕ) where
  mutual
    pub few_nodes : (test : ℕ → Bool) (q : List ℕ) (t : Tree X) → IsCanonical key q t → nodes_with test t + 1 ≤ length (items t)
    few_nodes test q (leaf x) h = omega arith
    few_nodes test q (inner prefix cs) h =
        let n = few_nodes_in test (q ++ prefix) cs h.1 in
        let two = h.0 in
        cond_both (test (count cs)) 1 0 (λ m. (m + nodes_in test cs) + 1 ≤ length (items_in cs)) (λ _. omega arith) (λ _. omega arith)

    pub few_nodes_in : (test : ℕ → Bool) (q : List ℕ) (cs : Forest X) → AreCanonical key q cs → nodes_in test cs + count cs ≤ length (items_in cs)
    few_nodes_in test q no_child h = omega arith
    few_nodes_in test q (child c t cs) h =
        let here = few_nodes test (q ++ c ∷ []) t h.0 in
        let there = few_nodes_in test q cs h.2 in
        omega (arith, length-append (items t) (items_in cs))
