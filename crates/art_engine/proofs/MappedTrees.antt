-- The tree of some items, and that of what each of them is turned into: the one is the other with each item turned, and so
-- are the nodes of a path.
use Rattle.std.proofs.Common.{◌≡◌, ℕ, zero, suc, List, [], ◌∷◌, length, drop, take, map, Option, Some, None, refl, sym, ap, ap₂, ◌∙◌, true, false, cond}
use Rattle.std.specs.Prelude.{◌==◌, option_map, slice_index}
use Rattle.art_bytes.proofs.Common.{common_prefix, shared_prefix}
use Rattle.art_arena.proofs.Common.{Tree, Forest, leaf, inner, no_child, child, Group, add_to, grouped, children_of, tree_below, tree_of, path_of, path_in, begins_with}
use Rattle.art_arena.specs.tree.Paths.{look_up_in, look_up_path}
use Rattle.std.proofs.lemmas.List.{length-map}

module _ {X Y : Type 0} (f : X → Y) (key : Y → List ℕ) where
  -- the key of what an item is turned into
  abbrev pub key_after : X → List ℕ
  key_after x = key (f x)

  -- each item turned
  abbrev mutual
    pub turned : Tree X → Tree Y
    turned (leaf x) = leaf (f x)
    turned (inner prefix children) = inner prefix (turned_in children)

    pub turned_in : Forest X → Forest Y
    turned_in no_child = no_child
    turned_in (child byte t others) = child byte (turned t) (turned_in others)

  mutual
    pub path-turned : (t : Tree X) (k : List ℕ) → path_of (turned t) k ≡ map turned (path_of t k)
    path-turned (leaf x) k = refl
    path-turned (inner prefix children) k = ap (λ nodes. turned (inner prefix children) ∷ nodes) (path_in-turned children (drop (length prefix) k))

    path_in-turned : (cs : Forest X) (k : List ℕ) → path_in (turned_in cs) k ≡ map turned (path_in cs k)
    path_in-turned no_child k = refl
    path_in-turned (child byte t others) [] = refl
    path_in-turned (child byte t others) (b ∷ k) =
        elim (b == byte) as (λ c. cond c (path_of (turned t) k) (path_in (turned_in others) (b ∷ k)) ≡ map turned (cond c (path_of t k) (path_in others (b ∷ k)))) [
          | true ↦ path-turned t k
          | false ↦ path_in-turned others (b ∷ k)
        ]

  mutual
    pub look_up-turned : (P : ℕ) (t : Tree X) (k : List ℕ) → look_up_path P (turned t) k ≡ map turned (look_up_path P t k)
    look_up-turned P (leaf x) k = refl
    look_up-turned P (inner prefix children) k =
        ap (λ nodes. turned (inner prefix children) ∷ nodes)
        (elim (begins_with (take P prefix) k) as (λ c. cond c (look_up_in P (turned_in children) (drop (length prefix) k)) [] ≡ map turned (cond c (look_up_in P children (drop (length prefix) k)) [])) [
          | true ↦ look_up_in-turned P children (drop (length prefix) k)
          | false ↦ refl
        ])

    look_up_in-turned : (P : ℕ) (cs : Forest X) (k : List ℕ) → look_up_in P (turned_in cs) k ≡ map turned (look_up_in P cs k)
    look_up_in-turned P no_child k = refl
    look_up_in-turned P (child byte t others) [] = refl
    look_up_in-turned P (child byte t others) (b ∷ k) =
        elim (b == byte) as (λ c. cond c (look_up_path P (turned t) k) (look_up_in P (turned_in others) (b ∷ k)) ≡ map turned (cond c (look_up_path P t k) (look_up_in P others (b ∷ k)))) [
          | true ↦ look_up-turned P t k
          | false ↦ look_up_in-turned P others (b ∷ k)
        ]

  abbrev group : Group X → Group Y
  group g = (g.0, map f g.1)

  add_to-turned : (b : ℕ) (x : X) (gs : List (Group X)) → add_to b (f x) (map group gs) ≡ map group (add_to b x gs)
  add_to-turned b x [] = refl
  add_to-turned b x ((first, xs) ∷ gs) =
      elim (b == first) as (λ c. cond c ((first, f x ∷ map f xs) ∷ map group gs) ((b, f x ∷ []) ∷ (first, map f xs) ∷ map group gs)
      ≡ map group (cond c ((first, x ∷ xs) ∷ gs) ((b, x ∷ []) ∷ (first, xs) ∷ gs))) [
        | true ↦ refl
        | false ↦ refl
      ]

  grouped-turned : (depth : ℕ) (xs : List X) → grouped key depth (map f xs) ≡ map group (grouped key_after depth xs)
  grouped-turned depth [] = refl
  grouped-turned depth (x ∷ xs) =
      ap (add_to (slice_index (key (f x)) depth) (f x)) (grouped-turned depth xs) ∙ add_to-turned (slice_index (key (f x)) depth) x (grouped key_after depth xs)

  children-turned : (T : List X → Tree X) (U : List Y → Tree Y) → ((xs : List X) → U (map f xs) ≡ turned (T xs)) → (gs : List (Group X))
      → children_of U (map group gs) ≡ turned_in (children_of T gs)
  children-turned T U same [] = refl
  children-turned T U same ((byte, xs) ∷ gs) = ap₂ (λ t cs. child byte t cs) (same xs) (children-turned T U same gs)

  shared-turned : (xs : List X) → shared_prefix key (map f xs) ≡ shared_prefix key_after xs
  shared-turned [] = refl
  shared-turned (x ∷ []) = refl
  shared-turned (x ∷ y ∷ ys) = ap (common_prefix (key (f x))) (shared-turned (y ∷ ys))

  below-turned : (fuel depth : ℕ) (xs : List X) → tree_below key fuel depth (map f xs) ≡ turned (tree_below key_after fuel depth xs)
  below-turned zero depth xs = refl
  below-turned (suc fuel) depth [] = refl
  below-turned (suc fuel) depth (x ∷ []) = refl
  below-turned (suc fuel) depth (x ∷ y ∷ ys) =
      let xs = x ∷ y ∷ ys in
      let front = shared_prefix key_after xs in
      let tree = tree_below key fuel (suc (length front)) in
      ap (λ p. inner (drop depth p) (children_of (tree_below key fuel (suc (length p))) (grouped key (length p) (map f xs)))) (shared-turned xs)
      ∙ ap (λ gs. inner (drop depth front) (children_of tree gs)) (grouped-turned (length front) xs)
      ∙ ap (inner (drop depth front)) (children-turned (tree_below key_after fuel (suc (length front))) tree (below-turned fuel (suc (length front))) (grouped key_after (length front) xs))

  pub tree-turned : (xs : List X) → tree_of key (map f xs) ≡ option_map turned (tree_of key_after xs)
  tree-turned [] = refl
  tree-turned (x ∷ xs) = ap (λ n. Some (tree_below key n 0 (map f (x ∷ xs)))) (length-map (x ∷ xs) f) ∙ ap Some (below-turned (length (x ∷ xs)) 0 (x ∷ xs))

-- a list of keys is its own
abbrev pub itself : List ℕ → List ℕ
itself k = k
