-- How many nodes a canonical shape has, by its leaves: at least as many, and fewer than twice as many.
use Rattle.std.proofs.Common.{◌≡◌, ◌≢◌, ℕ, ◌+◌, ◌*◌, ◌-◌, ◌^◌, ◌<◌, ◌≤◌, min, List, [], ◌∷◌, ◌++◌, length, refl, arith, length-append}
use Rattle.art_nodes.specs.declared.kind.NodeType.TheVariants.{Leaf}
use Rattle.art_arena.proofs.Common.{Shape, Branches, leaf_at, inner_at, no_branch, branch, name_of, leaves, leaves_in, width, cells, cells_in, IsUnder, AreUnder}

module _ {K V : Type 0} (bytes : K → List ℕ) (P : ℕ) where
  mutual
    sized : (path : List ℕ) (s : Shape K V) → IsUnder bytes path s → (length (leaves s) ≤ length (cells P s)) × (length (cells P s) + 1 ≤ 2 * length (leaves s))
    sized path (leaf_at slot k v) under = (omega arith, omega arith)
    sized path (inner_at n prefix kids) under =
        let h = sized_in (path ++ prefix) 0 kids under.1 in
        let two = under.0.two in
        let more = h.0 in
        let few = h.1 in
        (omega (arith, more), omega (arith, few, two))

    sized_in : (path : List ℕ) (low : ℕ) (f : Branches K V) → AreUnder bytes path low f → (length (leaves_in f) ≤ length (cells_in P f)) × (length (cells_in P f) + width f ≤ 2 * length (leaves_in f))
    sized_in path low no_branch under = (omega arith, omega arith)
    sized_in path low (branch b s rest) under =
        let h = sized (path ++ b ∷ []) s under.1 in
        let t = sized_in path (b + 1) rest under.2 in
        let more = h.0 in
        let few = h.1 in
        let more_rest = t.0 in
        let few_rest = t.1 in (
          omega (arith, more, more_rest, length-append (leaves s) (leaves_in rest), length-append (cells P s) (cells_in P rest)),
          omega (arith, few, few_rest, length-append (leaves s) (leaves_in rest), length-append (cells P s) (cells_in P rest)),
        )

  -- a part that is no leaf has two leaves at least
  pub two_leaves : (path : List ℕ) (s : Shape K V) → IsUnder bytes path s → (name_of s).kind ≢ Leaf → 2 ≤ length (leaves s)
  two_leaves path (leaf_at slot k v) under inner = absurd (inner refl)
  two_leaves path (inner_at n prefix kids) under inner =
      let h = sized_in (path ++ prefix) 0 kids under.1 in
      let two = under.0.two in
      let more = h.0 in
      let few = h.1 in
      omega (arith, more, few, two)

  -- a count of nodes that stays at the greatest number is so bounded too
  pub many_nodes : (path : List ℕ) (s : Shape K V) → IsUnder bytes path s → (n count : ℕ) → n ≡ length (leaves s) → n < 2 ^ 64 → count ≡ min (length (cells P s)) (2 ^ 64 - 1) → n ≤ count
  many_nodes path s under n count leaf_count low is = let more = (sized path s under).0 in omega (arith, more, leaf_count, low, is)

  pub few_nodes : (path : List ℕ) (s : Shape K V) → IsUnder bytes path s → (n count : ℕ) → n ≡ length (leaves s) → count ≡ min (length (cells P s)) (2 ^ 64 - 1) → count + 1 ≤ 2 * n
  few_nodes path s under n count leaf_count is = let few = (sized path s under).1 in omega (arith, few, leaf_count, is)
