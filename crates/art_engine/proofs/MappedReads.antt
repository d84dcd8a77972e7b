-- What is read of the tree of some items, and of that of what each of them is turned into, by a look-up, or at the ends of
-- a part or of a range: as much of one as of the other.
use Rattle.std.proofs.Common.{◌≡◌, ℕ, suc, ◌+◌, ◌-◌, nat_lt, Bool, true, false, List, [], ◌∷◌, ◌++◌, length, map, filter, Option, Some, None, refl, sym, ap, ap₂, ◌∙◌, cond, bytes_eq}
use Rattle.std.specs.Prelude.{◌==◌, if◌then◌else◌, option_map}
use Rattle.std.specs.BTreeMap.Range.{is_from_start, is_past_end}
use Rattle.std.specs.declared.ops.Bound.{Bound}
use Rattle.std.specs.declared.ops.Bound.TheVariants.{Included, Excluded, Unbounded}
use Rattle.std.proofs.lemmas.List.{length-map, map-append}
use Rattle.art_bytes.proofs.Common.{bytes_cmp}
use Rattle.art_arena.proofs.Terms.{Tree, Forest, leaf, inner, no_child, child, items, items_in, path_of, end_path, end_path_in, last_path_in, led_on, path_to_guide, way_of, way_in, way_end, last_or, is_cut, prefix_reads, guide_reads, descent_reads}
use Rattle.art_arena.proofs.Terms.{ends, differs, passes, pass, is_before, begins_with, tree_of}
use Rattle.art_arena.proofs.tree.Filters.{filter-map}
use Rattle.art_arena.specs.declared.ends.End.{End}
use Rattle.art_arena.specs.declared.ends.End.TheVariants.{First, Last}
use Rattle.art_arena.specs.tree.Landing.{Passing}
use Rattle.art_operations.specs.Openings.{beside_reads, bound_reads, end_reads, ends_reads, first_above, near_reads, part_reads, place_reads, range_reads}
use Rattle.art_arena.specs.tree.Paths.{look_up_path}
use Rattle.art_walks.specs.MapReads.{look_up_reads, of_tree}
use Rattle.art_engine.proofs.MappedTrees.{itself, key_after, turned, turned_in, path-turned, look_up-turned, tree-turned}

-- what a way goes on by
abbrev following : {Z : Type 0} → Forest Z → Passing → List (Tree Z × List ℕ)
following cs w = elim w [ ends ↦ [] | differs ↦ [] | passes b rest ↦ way_in cs b rest ]

module _ {X Y : Type 0} (f : X → Y) (key : Y → List ℕ) where
  abbrev turn : Tree X → Tree Y
  turn t = turned f key t

  abbrev turn_in : Forest X → Forest Y
  turn_in cs = turned_in f key cs

  -- the leaves
  mutual
    items-turned : (t : Tree X) → items (turn t) ≡ map f (items t)
    items-turned (leaf x) = refl
    items-turned (inner prefix cs) = items_in-turned cs

    items_in-turned : (cs : Forest X) → items_in (turn_in cs) ≡ map f (items_in cs)
    items_in-turned no_child = refl
    items_in-turned (child c t cs) = ap₂ (λ xs ys. xs ++ ys) (items-turned t) (items_in-turned cs) ∙ sym (map-append f (items t) (items_in cs))

  -- the ways down to an end, and to a guide
  mutual
    end-turned : (end : End) (t : Tree X) → end_path end (turn t) ≡ map turn (end_path end t)
    end-turned end (leaf x) = refl
    end-turned end (inner prefix cs) = ap (λ nodes. turn (inner prefix cs) ∷ nodes) (end_in-turned end cs)

    end_in-turned : (end : End) (cs : Forest X) → end_path_in end (turn_in cs) ≡ map turn (end_path_in end cs)
    end_in-turned end no_child = refl
    end_in-turned First (child c t cs) = end-turned First t
    end_in-turned Last (child c t cs) = ap (λ nodes. last_path_in nodes (turn_in cs)) (end-turned Last t) ∙ last-turned (end_path Last t) cs

    last-turned : (nodes : List (Tree X)) (cs : Forest X) → last_path_in (map turn nodes) (turn_in cs) ≡ map turn (last_path_in nodes cs)
    last-turned nodes no_child = refl
    last-turned nodes (child c t cs) = ap (λ others. last_path_in others (turn_in cs)) (end-turned Last t) ∙ last-turned (end_path Last t) cs

  as_long : (end : End) (t : Tree X) → length (end_path end (turn t)) ≡ length (end_path end t)
  as_long end t = ap length (end-turned end t) ∙ length-map (end_path end t) turn

  led-turned : (nodes : List (Tree X)) → led_on (map turn nodes) ≡ map turn (led_on nodes)
  led-turned [] = refl
  led-turned (t ∷ []) = end-turned First t
  led-turned (t ∷ u ∷ nodes) = ap (λ others. turn t ∷ others) (led-turned (u ∷ nodes))

  guide-turned : (t : Tree X) (k : List ℕ) → length (path_to_guide (turn t) k) ≡ length (path_to_guide t k)
  guide-turned t k = ap (λ nodes. length (led_on nodes)) (path-turned f key t k) ∙ ap length (led-turned (path_of t k)) ∙ length-map (led_on (path_of t k)) turn

  -- the way by all bytes
  abbrev spot : Tree X × List ℕ → Tree Y × List ℕ
  spot w = (turn w.0, w.1)

  followed : (cs : Forest X) (w : Passing) → ((b : ℕ) (k : List ℕ) → way_in (turn_in cs) b k ≡ map spot (way_in cs b k)) → following (turn_in cs) w ≡ map spot (following cs w)
  followed cs ends h = refl
  followed cs differs h = refl
  followed cs (passes b rest) h = h b rest

  mutual
    way-turned : (t : Tree X) (k : List ℕ) → way_of (turn t) k ≡ map spot (way_of t k)
    way-turned (leaf x) k = refl
    way-turned (inner prefix cs) k = ap (λ way. (turn (inner prefix cs), k) ∷ way) (followed cs (pass prefix k) (λ b rest. way_in-turned cs b rest))

    way_in-turned : (cs : Forest X) (b : ℕ) (k : List ℕ) → way_in (turn_in cs) b k ≡ map spot (way_in cs b k)
    way_in-turned no_child b k = refl
    way_in-turned (child c t cs) b k =
        elim (b == c) as (λ same. cond same (way_of (turn t) k) (way_in (turn_in cs) b k) ≡ map spot (cond same (way_of t k) (way_in cs b k))) [
          | true ↦ way-turned t k
          | false ↦ way_in-turned cs b k
        ]

  last_or-turned : (here : Tree X × List ℕ) (way : List (Tree X × List ℕ)) → last_or (spot here) (map spot way) ≡ spot (last_or here way)
  last_or-turned here [] = refl
  last_or-turned here (next ∷ way) = last_or-turned next way

  way_end-turned : (t : Tree X) (k : List ℕ) → way_end (turn t) k ≡ spot (way_end t k)
  way_end-turned t k = ap (last_or (turn t, k)) (way-turned t k) ∙ last_or-turned (t, k) (way_of t k)

  module _ (P : ℕ) where
    cut-turned : (t : Tree X) → is_cut P (turn t) ≡ is_cut P t
    cut-turned (leaf x) = refl
    cut-turned (inner prefix cs) = refl

    prefix-turned : (t : Tree X) → prefix_reads P (turn t) ≡ prefix_reads P t
    prefix-turned t = ap₂ (λ b n. cond b n 1) (cut-turned t) (as_long First t)

    guides-turned : (way : List (Tree X × List ℕ)) → guide_reads P (map spot way) ≡ guide_reads P way
    guides-turned [] = refl
    guides-turned ((t, k) ∷ way) =
        ap (λ b. cond b (length (path_to_guide (turn t) k) - 1) (guide_reads P (map spot way))) (cut-turned t)
        ∙ ap₂ (λ n m. cond (is_cut P t) (n - 1) m) (guide-turned t k) (guides-turned way)

    descent-turned : (t : Tree X) (k : List ℕ) → descent_reads P (turn t) k ≡ descent_reads P t k
    descent-turned t k = ap (λ way. length way + guide_reads P way) (way-turned t k) ∙ ap₂ (λ n m. n + m) (length-map (way_of t k) spot) (guides-turned (way_of t k))

    place-turned : (t : Tree X) (k : List ℕ) → place_reads P (turn t) k ≡ place_reads P t k
    place-turned t k = ap₂ (λ n m. n + m) (descent-turned t k) (ap (λ w. prefix_reads P w.0) (way_end-turned t k) ∙ prefix-turned (way_end t k).0)

  -- a leaf beside a place
  above-turned : (b : ℕ) (cs : Forest X) → first_above b (turn_in cs) ≡ option_map turn (first_above b cs)
  above-turned b no_child = refl
  above-turned b (child c t cs) =
      elim (nat_lt b c) as (λ above. cond above (Some (turn t)) (first_above b (turn_in cs)) ≡ option_map turn (cond above (Some t) (first_above b cs))) [
        | true ↦ refl
        | false ↦ above-turned b cs
      ]

  beside-turned : (t : Tree X) (o : Option (Tree X)) → beside_reads (turn t) (option_map turn o) ≡ beside_reads t o
  beside-turned t None = ap suc (as_long Last t)
  beside-turned t (Some above) = ap suc (as_long First above)

  abbrev near : {Z : Type 0} → List ℕ → Forest Z → List ℕ → Passing → ℕ
  near prefix cs k w =
      elim w [
        | ends ↦ length (end_path First (inner prefix cs))
        | differs ↦ length (end_path (if is_before k prefix then First else Last) (inner prefix cs))
        | passes b rest ↦ beside_reads (inner prefix cs) (first_above b cs)
      ]

  near-at : (prefix : List ℕ) (cs : Forest X) (k : List ℕ) (w : Passing) → near prefix (turn_in cs) k w ≡ near prefix cs k w
  near-at prefix cs k ends = as_long First (inner prefix cs)
  near-at prefix cs k differs = as_long (if is_before k prefix then First else Last) (inner prefix cs)
  near-at prefix cs k (passes b rest) = ap (beside_reads (turn (inner prefix cs))) (above-turned b cs) ∙ beside-turned (inner prefix cs) (first_above b cs)

  near-turned : (w : Tree X × List ℕ) → near_reads (spot w) ≡ near_reads w
  near-turned (leaf x, k) = refl
  near-turned (inner prefix cs, k) = near-at prefix cs k (pass prefix k)

  module _ (P : ℕ) (t : Tree X) where
    at-turned : (k : List ℕ) → suc (place_reads P (turn t) k + near_reads (way_end (turn t) k)) ≡ suc (place_reads P t k + near_reads (way_end t k))
    at-turned k = ap₂ (λ n m. suc (n + m)) (place-turned P t k) (ap near_reads (way_end-turned t k) ∙ near-turned (way_end t k))

    bound-turned : (is_start : Bool) (bound : Bound (List ℕ)) → bound_reads P is_start (turn t) bound ≡ bound_reads P is_start t bound
    bound-turned is_start (Included k) = at-turned k
    bound-turned is_start (Excluded k) = at-turned k
    bound-turned is_start Unbounded = as_long (if is_start then First else Last) t

    other-turned : (end : Bound (List ℕ)) (xs : List X) → end_reads key P (turn t) end (map f xs) ≡ end_reads (key_after f key) P t end xs
    other-turned end [] = refl
    other-turned end (x ∷ xs) = ap (λ n. suc (cond (is_past_end bytes_cmp end (key (f x))) 0 n)) (bound-turned false end)

    range-turned : (start end : Bound (List ℕ)) → range_reads key P (turn t) start end ≡ range_reads (key_after f key) P t start end
    range-turned start end =
        let T : Y → Bool = λ y. is_from_start bytes_cmp start (key y) in
        ap₂ (λ n m. n + m) (bound-turned true start)
        (ap (λ xs. end_reads key P (turn t) end (filter T xs)) (items-turned t) ∙ ap (end_reads key P (turn t) end) (filter-map T f (items t)) ∙ other-turned end (filter (λ x. T (f x)) (items t)))

    both-turned : (front : List ℕ) (u : Tree X) (xs : List X) → ends_reads key front (turn u) (map f xs) ≡ ends_reads (key_after f key) front u xs
    both-turned front u [] = refl
    both-turned front u (x ∷ xs) =
        let k = key (f x) in
        ap₂ (λ n m. cond (bytes_eq front k) 0 (cond (begins_with front k) (n + m) (cond (begins_with k front) n 0))) (as_long First u) (as_long Last u)

    part-turned : (front : List ℕ) → part_reads key P (turn t) front ≡ part_reads (key_after f key) P t front
    part-turned front =
        let u = (way_end t front).0 in
        ap₂ (λ n m. n + m) (place-turned P t front)
        (ap (λ w. ends_reads key front w.0 (items w.0)) (way_end-turned t front) ∙ ap (ends_reads key front (turn u)) (items-turned u) ∙ both-turned front u (items u))

  -- what is read of a tree that there may be
  of-turned : (reads : Tree Y → ℕ) (others : Tree X → ℕ) → ((t : Tree X) → reads (turn t) ≡ others t) → (xs : List X) → of_tree reads (tree_of key (map f xs)) ≡ of_tree others (tree_of (key_after f key) xs)
  of-turned reads others same xs = ap (of_tree reads) (tree-turned f key xs) ∙ go (tree_of (key_after f key) xs)
    where
      go : (o : Option (Tree X)) → of_tree reads (option_map turn o) ≡ of_tree others o
      go None = refl
      go (Some t) = same t

-- so it goes by the keys alone
module _ {X Y : Type 0} (key : X → List ℕ) (other : Y → List ℕ) (xs : List X) (ys : List Y) (same : map key xs ≡ map other ys) where
  by_keys : (of : (Z : Type 0) → (Z → List ℕ) → Tree Z → ℕ) → ((Z : Type 0) (f : Z → List ℕ) (t : Tree Z) → of (List ℕ) itself (turned f itself t) ≡ of Z f t)
      → of_tree (of X key) (tree_of key xs) ≡ of_tree (of Y other) (tree_of other ys)
  by_keys of turns =
      sym (of-turned key itself (of (List ℕ) itself) (of X key) (turns X key) xs)
      ∙ ap (λ keys. of_tree (of (List ℕ) itself) (tree_of itself keys)) same ∙ of-turned other itself (of (List ℕ) itself) (of Y other) (turns Y other) ys

  pub paths_by_keys : (k : List ℕ) → of_tree (λ t. length (path_of t k)) (tree_of key xs) ≡ of_tree (λ t. length (path_of t k)) (tree_of other ys)
  paths_by_keys k = by_keys (λ Z f t. length (path_of t k)) (λ Z f t. ap length (path-turned f itself t k) ∙ length-map (path_of t k) (turned f itself))

  module _ (P : ℕ) where
    pub look_ups_by_keys : (k : List ℕ) → of_tree (look_up_reads P k) (tree_of key xs) ≡ of_tree (look_up_reads P k) (tree_of other ys)
    look_ups_by_keys k = by_keys (λ Z f t. look_up_reads P k t) (λ Z f t. ap length (look_up-turned f itself P t k) ∙ length-map (look_up_path P t k) (turned f itself))

    pub part_by_keys : (front : List ℕ) → of_tree (λ t. part_reads key P t front) (tree_of key xs) ≡ of_tree (λ t. part_reads other P t front) (tree_of other ys)
    part_by_keys front = by_keys (λ Z f t. part_reads f P t front) (λ Z f t. part-turned f itself P t front)

    pub range_by_keys : (start end : Bound (List ℕ)) → of_tree (λ t. range_reads key P t start end) (tree_of key xs) ≡ of_tree (λ t. range_reads other P t start end) (tree_of other ys)
    range_by_keys start end = by_keys (λ Z f t. range_reads f P t start end) (λ Z f t. range-turned f itself P t start end)
