-- An inner node gives way to one of the next larger kind.
use Rattle.std.proofs.Common.{◌≡◌, ℕ, suc, ◌<◌, List, [], ◌∷◌, ◌++◌, take, Some, None, refl, sym, ap, subst, ◌∙◌, arith, append_assoc}
use Rattle.art_nodes.proofs.Common.{row_of, Name}
use Rattle.art_nodes.specs.declared.kind.NodeType.{NodeType}
use Rattle.art_nodes.specs.declared.kind.NodeType.TheVariants.{Node4, Node16, Node32, Node48, Node256, Leaf}
use Rattle.art_arena.proofs.Common.{Arena, inner_held, cell_of, held_at, node_at, links_at, Allocates, Cell, pair, branches, leaf_name, UpdatesAt, Holds, Frame, root_of, leaves_before, leaves_after, cells_before, cells_after, IsKindOf, LeafAt, cells_in, Step, steps_to, all_right}
use Rattle.art_arena.proofs.Common.{Holds-add, Holds-remove, inner_of, nodes-update, links-kept}
use Rattle.art_operations.proofs.Terms.{StandsAround, AwaitsLeaf}
use Rattle.art_operations.proofs.NewLeaves.{beside-same}
use Rattle.art_operations.proofs.Waiting.{open_node, inner-kind, node-inner}

-- what holds of one kind holds of the same
of_next : {a b : NodeType} {n : ℕ} → Some a ≡ Some b → IsKindOf a n → IsKindOf b n
of_next {a} {b} {n} e is = let same : a ≡ b = cc in subst (λ k. IsKindOf k n) same is

-- a full node's children and one more are of the next larger kind
pub next-kind : (kind next : NodeType) (n : ℕ) → (row_of kind).larger ≡ Some next → n ≡ (row_of kind).most → IsKindOf next (suc n)
next-kind Node4 next n larger full = of_next larger (record { two = omega (arith, full); fewest = omega (arith, full); most = omega (arith, full) })
next-kind Node16 next n larger full = of_next larger (record { two = omega (arith, full); fewest = omega (arith, full); most = omega (arith, full) })
next-kind Node32 next n larger full = of_next larger (record { two = omega (arith, full); fewest = omega (arith, full); most = omega (arith, full) })
next-kind Node48 next n larger full = of_next larger (record { two = omega (arith, full); fewest = omega (arith, full); most = omega (arith, full) })
next-kind Node256 next n larger full = absurd (cc)
next-kind Leaf next n larger full = absurd (cc)

-- where there is room, one more child is of the same kind
pub same-kind : (kind : NodeType) (n : ℕ) → IsKindOf kind n → n < (row_of kind).most → IsKindOf kind (suc n)
same-kind kind n is few = let two = is.two in let fewest = is.fewest in record { two = omega arith; fewest = omega arith; most = omega arith }

module _ {K V : Type 0} (bytes : K → List ℕ) (P : ℕ) where
  -- a copy of the node is stored, put in its place, and the node taken out
  module _ {rest : List (Name × Cell K V)} (arena : Arena K V) (root node : Name) (byte leaf : ℕ) (f : Frame K V) (outer : List (Frame K V)) (l : LeafAt K V) (awaits : AwaitsLeaf bytes P arena rest root node byte leaf f outer l)
      (copied : Arena K V) (copy : Name) (copies : Allocates arena copied copy (inner_held (open_node P f))) where
    abbrev below : List (Name × Cell K V)
    below = cells_in P f.before ++ ((leaf_name l.slot, pair l.key l.value) ∷ (cells_after P (f ∷ outer) ++ rest))

    abbrev pub both : List (Name × Cell K V)
    both = (copy, branches (open_node P f)) ∷ ((f.name, branches (open_node P f)) ∷ below)

    pub both-held : (last : List Step) → take 2 (steps_to outer) ≡ last → StandsAround bytes P (node_at copied) root outer f.name both last
    both-held last path = record {
      around = awaits.around;
      holds =
          Holds-add (node_at arena) (node_at copied) copy (branches (open_node P f)) (cells_before P outer f.name) ((f.name, branches (open_node P f)) ∷ below)
          (nodes-update arena copied copy _ copies.updates) (ap cell_of copies.vacant) awaits.holds;
      steps = path;
      named = awaits.named;
    }

    module _ (moved : Arena K V) (moved-there : Holds (node_at moved) (cells_before P outer copy ++ both)) where
      -- the node is still held
      pub still-held : held_at moved node ≡ Some (inner_held (open_node P f))
      still-held =
          let all = all_right (λ (c : Name × Cell K V). node_at moved c.0 ≡ Some c.1) (cells_before P outer copy) both moved-there.held in
          subst (λ n. held_at moved n ≡ Some (inner_held (open_node P f))) awaits.node_is (inner_of (held_at moved f.name) (open_node P f) all.1.0)

      -- no link has changed
      pub same_links : (freed : Arena K V) → ((slot : ℕ) → links_at moved slot ≡ links_at copied slot) → UpdatesAt (held_at moved) (held_at freed) node None → (slot : ℕ) → links_at freed slot ≡ links_at arena slot
      same_links freed links_stay update slot =
          links-kept moved freed node None update (node-inner bytes P arena root node byte leaf f outer l awaits) slot
          ∙ links_stay slot
          ∙ links-kept arena copied copy _ copies.updates (inner-kind copied copy (open_node P f) copies.updates.changed) slot

      -- the leaf waits beside the tree with the copy
      pub renamed : (freed : Arena K V) (new_root : Name) → root_of outer copy ≡ new_root → ((slot : ℕ) → links_at moved slot ≡ links_at copied slot) → UpdatesAt (held_at moved) (held_at freed) node None
          → AwaitsLeaf bytes P freed rest new_root copy byte leaf (record f { name = copy }) outer l
      renamed freed new_root named links_stay update =
          let gone = subst (λ n. UpdatesAt (node_at moved) (node_at freed) n None) (sym awaits.node_is) (nodes-update moved freed node None update) in
          let left = Holds-remove (node_at moved) (node_at freed) f.name (branches (open_node P f)) (cells_before P outer copy ++ (copy, branches (open_node P f)) ∷ []) below gone
          (subst (Holds (node_at moved)) (sym (append_assoc (cells_before P outer copy) ((copy, branches (open_node P f)) ∷ []) ((f.name, branches (open_node P f)) ∷ below))) moved-there) in
          record {
            named = named;
            node_is = refl;
            byte_is = awaits.byte_is;
            leaf_is = awaits.leaf_is;
            holds = subst (Holds (node_at freed)) (append_assoc (cells_before P outer copy) ((copy, branches (open_node P f)) ∷ []) below) left;
            beside = beside-same (links_at arena) (links_at freed) (leaves_before (f ∷ outer) ++ leaves_after (f ∷ outer)) l.slot (same_links freed links_stay update) awaits.beside;
            around = awaits.around;
            two = awaits.two;
            before_under = awaits.before_under;
            below = awaits.below;
            after_under = awaits.after_under;
            begins = awaits.begins;
          }
