-- The nodes of a tree are freed one after the other: what is left meanwhile, and in the end.
use Rattle.std.proofs.Common.{◌≡◌, ℕ, suc, ◌+◌, ◌-◌, ◌^◌, ◌<◌, ◌≤◌, min, Bool, true, List, ◌∷◌, ◌++◌, length, refl, sym, ap, subst, ◌∙◌, arith}
use Rattle.art_nodes.proofs.Common.{Name}
use Rattle.art_arena.proofs.Common.{Arena, node_at, leaves_held, Cell, copies, Holds, Shape, Branches, leaf_at, inner_at, no_branch, branch, leaves, children_at, node_of, cells, cells_in, leaves_beside, leaves_counted}
use Rattle.art_operations.proofs.Terms.{cells_with, cells_with_in, KeepsAllBut, HoldsBeside, HoldsPart, HoldsOneLess}
use Rattle.art_operations.proofs.FreedSizes.{size_of, size-part}

-- one more is counted
counts : (count more size was left : ℕ) → was ≡ suc left → was ≤ size → count ≡ min (size - was) (2 ^ 64 - 1) → more ≡ min (count + 1) (2 ^ 64 - 1) → more ≡ min (size - left) (2 ^ 64 - 1)
counts count more size was left less fewer c m = omega (arith, less, fewer, c, m)

module _ {K V : Type 0} (P : ℕ) where
  mutual
    pub with_all : (s : Shape K V) → cells_with P true s ≡ cells P s
    with_all (leaf_at slot k v) = refl
    with_all (inner_at n prefix kids) = ap (λ xs. (n, node_of P prefix (children_at kids)) ∷ xs) (with_all_in kids)

    with_all_in : (f : Branches K V) → cells_with_in P true f ≡ cells_in P f
    with_all_in no_branch = refl
    with_all_in (branch byte s rest) = ap (λ xs. xs ++ cells_with_in P true rest) (with_all s) ∙ ap (λ xs. cells P s ++ xs) (with_all_in rest)

  -- all of a shape is held
  pub all-part : (arena : Arena K V) (n : Name) (s : Shape K V) (rest : List (Name × Cell K V)) → HoldsBeside P arena n s rest → HoldsPart P true arena n s rest
  all-part arena n s rest beside = record { named = beside.named; holds = subst (λ xs. Holds (node_at arena) (xs ++ rest)) (sym (with_all s)) beside.holds }

  -- the leaves that are gone were those of the shape
  pub leaves-gone : (old new : Arena K V) (n : Name) (s : Shape K V) (rest : List (Name × Cell K V)) → HoldsBeside P old n s rest → Holds (node_at new) rest
      → leaves_held old ≡ length (leaves s) + leaves_held new
  leaves-gone old new n s rest beside left = omega (arith, leaves_beside P old s rest beside.holds, leaves_counted new rest left)

  module _ (w : Bool) (old now : Arena K V) (s : Shape K V) where
    -- this part of the shape is left after so many frees, and what isn't its own is as it was
    pub record IsLeft (current : Name) (count : ℕ) (rest : List (Name × Cell K V)) : Type 0 where
      pub part : Shape K V
      pub holds : HoldsPart P w now current part rest
      pub names : (n : Name) → copies n (cells_with P w part) ≤ copies n (cells_with P w s)
      pub kept : KeepsAllBut (cells_with P w s) old now
      pub fewer : length (cells P part) ≤ length (cells P s)
      pub counted : count ≡ min (length (cells P s) - length (cells P part)) (2 ^ 64 - 1)

  pub left-start : (w : Bool) (old : Arena K V) (root : Name) (s : Shape K V) (rest : List (Name × Cell K V)) → HoldsPart P w old root s rest → IsLeft w old old s root 0 rest
  left-start w old root s rest part = record { part = s; holds = part; names = λ n. omega arith; kept = λ n none. refl; fewer = omega arith; counted = none (length (cells P s)) }
    where
      none : (n : ℕ) → 0 ≡ min (n - n) (2 ^ 64 - 1)
      none n = rw (nothing n) refl
        where
          nothing : (n : ℕ) → n - n ≡ 0
          nothing n = omega arith

  -- after one more free
  pub left-step : (w : Bool) (old now new : Arena K V) (s : Shape K V) (current next : Name) (count more : ℕ) (rest : List (Name × Cell K V)) → (left : IsLeft w old now s current count rest) → more ≡ min (count + 1) (2 ^ 64 - 1)
      → HoldsOneLess P w new next (length (cells P left.part)) (cells_with P w left.part) rest → KeepsAllBut (cells_with P w left.part) now new
      → IsLeft w old new s next more rest × (size_of new next < size_of now current)
  left-step w old now new s current next count more rest left one less kept = (
    record {
      part = less.left;
      holds = less.part;
      names = λ n. omega (arith, less.names n, left.names n);
      kept = λ n none. kept n (omega (arith, left.names n, none)) ∙ left.kept n none;
      fewer = let l = less.less in let f = left.fewer in omega (arith, l, f);
      counted = let l = less.less in let f = left.fewer in let c = left.counted in counts count more (length (cells P s)) (length (cells P left.part)) (length (cells P less.left)) l f c one;
    },
    (let fewer = less.less in omega (arith, fewer, size-part P w now current left.part rest left.holds, size-part P w new next less.left rest less.part)),
  )

  pub left-end : (w : Bool) (old now new : Arena K V) (s : Shape K V) (current : Name) (count : ℕ) (rest : List (Name × Cell K V)) → (left : IsLeft w old now s current count rest)
      → KeepsAllBut (cells_with P w left.part) now new → KeepsAllBut (cells_with P w s) old new
  left-end w old now new s current count rest left kept n none = kept n (omega (arith, left.names n, none)) ∙ left.kept n none
