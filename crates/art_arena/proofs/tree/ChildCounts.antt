-- How many children a node of a canonical tree may have.
use Rattle.std.proofs.Common.{◌≡◌, ℕ, suc, ◌+◌, ◌<◌, ◌≤◌, List, [], ◌∷◌, ◌++◌, refl, sym, ap, subst, inl, arith, Bool, false}
use Rattle.std.specs.List.{AllByRecursion}
use Rattle.art_arena.proofs.Terms.{IsIn, Tree, Forest, leaf, inner, no_child, child, items, items_in, count, IsBelow, IsCanonical, AreCanonical, nodes_with, nodes_in, one_if}
use Rattle.art_arena.proofs.tree.Order.{all_left, all_right}
use Rattle.art_arena.proofs.tree.Canonical.{begin, some_item}
use Rattle.art_arena.proofs.tree.Insert.{all_at}
use Rattle.art_bytes.proofs.Common.{begins_step}

module _ {X : Type 0} (key : X → List ℕ) where
  -- children have bytes, if the keys do
  abbrev pub HasBytes : X → Type 0
  HasBytes x = AllByRecursion (λ b. b < 256) (key x)

  abbrev IsFrom : ℕ → Forest X → Type 0
  IsFrom low no_child = Unit {0}
  IsFrom low (child c t cs) = (low ≤ c) × IsFrom low cs

  from_below : (c : ℕ) (cs : Forest X) → IsBelow c cs → IsFrom (suc c) cs
  from_below c no_child h = tt
  from_below c (child d t cs) h = (h.0, from_below c cs h.1)

  few_children : (q : List ℕ) (low : ℕ) (cs : Forest X) → low ≤ 256 → AreCanonical key q cs → IsFrom low cs → AllByRecursion HasBytes (items_in cs) → count cs + low ≤ 256
  few_children q low no_child l h k bytes = omega arith
  few_children q low (child c t cs) l h k bytes =
      let s = some_item key (q ++ c ∷ []) t h.0 in
      let i : IsIn s.0 (items t) = subst (IsIn s.0) (sym s.2) (inl refl) in
      let b = begins_step q c (key s.0) (all_at _ s.0 (items t) (begin key (q ++ c ∷ []) t h.0) i) in
      let all : HasBytes s.0 = all_at HasBytes s.0 (items t) (all_left HasBytes (items t) (items_in cs) bytes) i in
      let byte : c < 256 = (all_right (λ b. b < 256) q (c ∷ b.0) (subst (AllByRecursion (λ b. b < 256)) b.1 all)).0 in
      let first = k.0 in
      let rest = few_children q (suc c) cs (omega arith) h.2 (from_below c cs h.1) (all_right HasBytes (items t) (items_in cs) bytes) in
      omega arith

  mutual
    pub kinds_fit : (test : ℕ → Bool) → ((n : ℕ) → 2 ≤ n → n ≤ 256 → test n ≡ false) → (p : List ℕ) (t : Tree X) → IsCanonical key p t → AllByRecursion HasBytes (items t) → nodes_with test t ≡ 0
    kinds_fit test f p (leaf x) h bytes = refl
    kinds_fit test f p (inner prefix cs) h bytes =
        let n = few_children (p ++ prefix) 0 cs (omega arith) h.1 (from_zero cs) bytes in
        let e = ap one_if (f (count cs) h.0 (omega arith)) in
        let rest = kinds_fit_in test f (p ++ prefix) cs h.1 bytes in
        omega (arith, e, rest)
      where
        from_zero : (cs : Forest X) → IsFrom 0 cs
        from_zero no_child = tt
        from_zero (child c t cs) = (omega arith, from_zero cs)

    kinds_fit_in : (test : ℕ → Bool) → ((n : ℕ) → 2 ≤ n → n ≤ 256 → test n ≡ false) → (q : List ℕ) (cs : Forest X) → AreCanonical key q cs → AllByRecursion HasBytes (items_in cs) → nodes_in test cs ≡ 0
    kinds_fit_in test f q no_child h bytes = refl
    kinds_fit_in test f q (child c t cs) h bytes =
        let a = kinds_fit test f (q ++ c ∷ []) t h.0 (all_left HasBytes (items t) (items_in cs) bytes) in
        let b = kinds_fit_in test f q cs h.2 (all_right HasBytes (items t) (items_in cs) bytes) in
        omega (arith, a, b)
