-- What stands beside a tree, and stays where only the tree changes.
use Rattle.std.proofs.Common.{◌≡◌, ℕ, ◌≤◌, true, cond, List, [], ◌∷◌, ◌++◌, Option, Some, None, is_some, refl, sym, ap, ap₂, subst, ◌∙◌, arith}
use Rattle.art_nodes.proofs.Common.{InnerNode, Name}
use Rattle.art_nodes.specs.declared.kind.NodeType.{NodeType}
use Rattle.art_nodes.specs.declared.kind.NodeType.TheVariants.{Leaf}
use Rattle.art_arena.proofs.Terms.{Arena, Held, leaf_held, inner_held, as_inner, held_as, cell_of, links_of, node_at, links_at, KeepsNodes, SameNodes, Cell, leaf_name, same_name, copies, AreHeld, Holds, Links, times, KeepsLinksOutside, Shape, leaves, cells, IsUnder}
use Rattle.art_arena.proofs.shapes.CellLists.{copies-append, same_name-self}
use Rattle.art_arena.proofs.shapes.Surroundings.{times-leaves}

no_links : (K V : Type 0) (o : Option InnerNode) → links_of {K = K} {V = V} (as_inner o) ≡ None
no_links K V None = refl
no_links K V (Some n) = refl

module _ {K V : Type 0} where
  -- a node is told by its cell, and a leaf's links beside
  same_held : (o p : Option (Held K V)) → cell_of o ≡ cell_of p → links_of o ≡ links_of p → o ≡ p
  same_held None None cell links = refl
  same_held None (Some (leaf_held l)) cell links = absurd (cc)
  same_held None (Some (inner_held n)) cell links = absurd (cc)
  same_held (Some (leaf_held l)) None cell links = absurd (cc)
  same_held (Some (inner_held n)) None cell links = absurd (cc)
  same_held (Some (leaf_held l)) (Some (inner_held n)) cell links = absurd (cc)
  same_held (Some (inner_held n)) (Some (leaf_held l)) cell links = absurd (cc)
  same_held (Some (inner_held m)) (Some (inner_held n)) cell links = let same : m ≡ n = cc in ap (λ x. Some (inner_held x)) same
  same_held (Some (leaf_held l)) (Some (leaf_held m)) cell links =
      let key : l.key ≡ m.key = cc in
      let value : l.value ≡ m.value = cc in
      let both : ◌≡◌ {A = Links} (record { previous = l.previous; next = l.next }) (record { previous = m.previous; next = m.next }) = cc in
      let previous : l.previous ≡ m.previous = ap (λ (x : Links). x.previous) both in
      let next : l.next ≡ m.next = ap (λ (x : Links). x.next) both in
      ap₂ (λ k v. Some (leaf_held (record { key = k; value = v; previous = l.previous; next = l.next }))) key value
      ∙ ap₂ (λ p n. Some (leaf_held (record { key = m.key; value = m.value; previous = p; next = n }))) previous next

  same_as : (old new : Arena K V) (kind : NodeType) (slot : ℕ) → cell_of (held_as new kind slot) ≡ cell_of (held_as old kind slot) → (kind ≡ Leaf → links_at new slot ≡ links_at old slot) → held_as new kind slot ≡ held_as old kind slot
  same_as old new Leaf slot cell links = same_held _ _ cell (links refl)
  same_as old new kind slot cell links = same_held _ _ cell (no_links K V _ ∙ sym (no_links K V _))

  -- where every name has what it had, so have these
  pub keeps-same : (old new : Arena K V) → SameNodes old new → (rest : List (Name × Cell K V)) → KeepsNodes rest old new
  keeps-same old new same [] = tt
  keeps-same old new same (c ∷ rest) = (same c.0, keeps-same old new same rest)

  -- cells that are held before and after are kept, where their leaves keep their links
  pub keeps-held : (old new : Arena K V) (rest : List (Name × Cell K V)) → AreHeld (node_at old) rest → AreHeld (node_at new) rest → ((n : ℕ) → 1 ≤ copies (leaf_name n) rest → links_at new n ≡ links_at old n) → KeepsNodes rest old new
  keeps-held old new [] before after links = tt
  keeps-held old new (c ∷ rest) before after links = (
    same_as old new c.0.kind c.0.slot (after.0 ∙ sym before.0) (λ e. links c.0.slot (first c e)),
    keeps-held old new rest before.1 after.1 (λ n more. links n (omega (arith, more))),
  )
    where
      first : (c : Name × Cell K V) → c.0.kind ≡ Leaf → 1 ≤ copies (leaf_name c.0.slot) (c ∷ rest)
      first c e =
          let same : ◌≡◌ {A = Name} (leaf_name c.0.slot) c.0 = ap (λ k. record { kind = k; slot = c.0.slot }) (sym e) in
          let met : same_name (leaf_name c.0.slot) c.0 ≡ true = subst (λ m. same_name (leaf_name c.0.slot) m ≡ true) same (same_name-self (leaf_name c.0.slot)) in
          omega (arith, ap {B = ℕ} (λ b. cond b 1 0) met)

module _ {K V : Type 0} (bytes : K → List ℕ) (P : ℕ) where
  -- what stands beside a tree is no leaf of it
  outside : (at : Name → Option (Cell K V)) (rest : List (Name × Cell K V)) (s : Shape K V) → Holds at (rest ++ cells P s) → IsUnder bytes [] s → (n : ℕ) → 1 ≤ copies (leaf_name n) rest → times n (leaves s) ≡ 0
  outside at rest s holds under n some = none (at (leaf_name n)) (holds.once (leaf_name n))
    where
      none : (o : Option (Cell K V)) → copies (leaf_name n) (rest ++ cells P s) ≡ cond (is_some o) 1 0 → times n (leaves s) ≡ 0
      none None e = omega (arith, e, some, copies-append (leaf_name n) rest (cells P s))
      none (Some c) e = omega (arith, e, some, copies-append (leaf_name n) rest (cells P s), times-leaves bytes P n [] s under)

  -- so it is kept where the leaves of the tree alone change their links
  pub keeps-beside : (old new : Arena K V) (at : Name → Option (Cell K V)) (rest : List (Name × Cell K V)) (s : Shape K V) → AreHeld (node_at old) rest → AreHeld (node_at new) rest
      → Holds at (rest ++ cells P s) → IsUnder bytes [] s → KeepsLinksOutside (links_at old) (links_at new) (leaves s) → KeepsNodes rest old new
  keeps-beside old new at rest s before after holds under links = keeps-held old new rest before after (λ n some. links n (outside at rest s holds under n some))
