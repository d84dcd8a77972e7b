-- The table of kinds: which kind a number of children tells, and where the loss of one changes it.
use Rattle.std.proofs.Common.{◌≡◌, ◌≢◌, ℕ, ◌-◌, ◌≤◌, IsSome, refl, inl, inr, arith}
use Rattle.std.proofs.lemmas.Bool.{cases_lt}
use Rattle.art_nodes.proofs.Common.{row_of}
use Rattle.art_nodes.specs.declared.kind.NodeType.{NodeType}
use Rattle.art_nodes.specs.declared.kind.NodeType.TheVariants.{Node4, Node16, Node32, Node48, Node256, Leaf}
use Rattle.art_arena.proofs.Terms.{IsKindOf, IsLimit, ChangesKind, LimitsAreKinds}

-- the ranges of two kinds have nothing in common

pub one_kind : (n : ℕ) (kind other : NodeType) → IsKindOf kind n → IsKindOf other n → kind ≡ other
one_kind n Node4 Node4 a b = refl
one_kind n Node4 other a b = absurd (omega (arith, a.most, b.fewest, b.two, b.most))
one_kind n Node16 Node16 a b = refl
one_kind n Node16 other a b = absurd (omega (arith, a.fewest, a.most, b.fewest, b.two, b.most))
one_kind n Node32 Node32 a b = refl
one_kind n Node32 other a b = absurd (omega (arith, a.fewest, a.most, b.fewest, b.two, b.most))
one_kind n Node48 Node48 a b = refl
one_kind n Node48 other a b = absurd (omega (arith, a.fewest, a.most, b.fewest, b.two, b.most))
one_kind n Node256 Node256 a b = refl
one_kind n Node256 other a b = absurd (omega (arith, a.fewest, b.two, b.most))
one_kind n Leaf other a b = absurd (omega (arith, a.two, a.most))

pub kind_exists : (n : ℕ) → 2 ≤ n → n ≤ 256 → (kind : NodeType) × IsKindOf kind n
kind_exists n two most =
    elim (cases_lt 4 n) [
      | inr small ↦ (Node4, record { two = two; fewest = two; most = omega arith })
      | inl more ↦ elim (cases_lt 16 n) [
        | inr small ↦ (Node16, record { two = two; fewest = omega arith; most = omega arith })
        | inl more ↦ elim (cases_lt 32 n) [
          | inr small ↦ (Node32, record { two = two; fewest = omega arith; most = omega arith })
          | inl more ↦ elim (cases_lt 48 n) [
            | inr small ↦ (Node48, record { two = two; fewest = omega arith; most = omega arith })
            | inl more ↦ (Node256, record { two = two; fewest = omega arith; most = most })
          ]
        ]
      ]
    ]

limit_changes : (n : ℕ) → IsLimit n → ChangesKind n
limit_changes n (Node4, some, is) = absurd (cc)
limit_changes n (Node16, some, is) = (Node16, Node4, record { two = omega arith; fewest = omega arith; most = omega arith }, record { two = omega arith; fewest = omega arith; most = omega arith }, λ e. absurd (cc))
limit_changes n (Node32, some, is) = (Node32, Node16, record { two = omega arith; fewest = omega arith; most = omega arith }, record { two = omega arith; fewest = omega arith; most = omega arith }, λ e. absurd (cc))
limit_changes n (Node48, some, is) = (Node48, Node32, record { two = omega arith; fewest = omega arith; most = omega arith }, record { two = omega arith; fewest = omega arith; most = omega arith }, λ e. absurd (cc))
limit_changes n (Node256, some, is) = (Node256, Node48, record { two = omega arith; fewest = omega arith; most = omega arith }, record { two = omega arith; fewest = omega arith; most = omega arith }, λ e. absurd (cc))
limit_changes n (Leaf, some, is) = absurd (cc)

-- a kind that hasn't room for one less has the fewest
changed_at : (n : ℕ) (kind other : NodeType) → IsKindOf kind n → IsKindOf other (n - 1) → kind ≢ other → n ≡ (row_of kind).fewest
changed_at n kind other a b apart =
    elim (cases_lt (row_of kind).fewest n) [
      | inl more ↦
          let still : IsKindOf kind (n - 1) = record { two = b.two; fewest = omega (arith, more); most = omega (arith, a.most) } in
          absurd (apart (one_kind (n - 1) kind other still b))
      | inr least ↦ omega (arith, least, a.fewest)
    ]

-- there is a smaller kind, where one less is of a kind at all
has_smaller : (n : ℕ) (kind : NodeType) → IsKindOf kind n → 3 ≤ n → n ≡ (row_of kind).fewest → IsSome (row_of kind).smaller
has_smaller n Node4 a three is = absurd (omega (arith, is))
has_smaller n Leaf a three is = absurd (omega (arith, is))
has_smaller n kind a three is = refl

changes_limit : (n : ℕ) → ChangesKind n → IsLimit n
changes_limit n (kind, other, a, b, apart) =
    let is = changed_at n kind other a b apart in
    (kind, has_smaller n kind a (omega (arith, b.two)) is, is)

pub limits_are_kinds : LimitsAreKinds
limits_are_kinds n = (limit_changes n, changes_limit n)
