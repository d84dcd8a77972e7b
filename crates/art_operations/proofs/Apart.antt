-- A part's cells set apart from those of its tree, and what becomes of the node above it.
use Rattle.std.proofs.Common.{◌≡◌, ◌≢◌, ℕ, ◌+◌, ◌≤◌, cond, List, ◌∷◌, ◌++◌, Option, Some, None, inl, inr, refl, sym, ap, subst, ◌∙◌, arith, append_assoc}
use Rattle.art_nodes.proofs.Common.{Name, InnerNode, without_child, with_children}
use Rattle.art_arena.proofs.Common.{Arena, inner_held, held_at, cell_of, node_at, Cell, branches, same_name, Holds, UpdatesAt, Frame, plug, path_to, frame_cell, cells_before, cells_after, AreBelow, IsKindOf, Shape, Branches, inner_at, no_branch, branch, name_of, children_at, join, width}
use Rattle.art_arena.proofs.Common.{cells, cells_in, AreUnder, all_right, same_name_tells, same_name-self, Holds-add, Holds-write, Holds-remove, Holds-turn, children_at-join, leaves_in-join, cells_in-join, width-join, without_child-frame, frame_node, unplugged}
use Rattle.art_operations.proofs.Terms.{IsHeldAt, StandsFor, Moves}

module _ {K V : Type 0} where
  -- a node that moves to another name is a cell that does
  pub Holds-move : (old new : Arena K V) (place other : Name) (node : InnerNode) → Moves old new place other (inner_held node)
      → (was : Cell K V) (xs ys : List (Name × Cell K V)) → Holds (node_at old) (xs ++ (place, was) ∷ ys) → Holds (node_at new) (xs ++ (other, branches node) ∷ ys)
  Holds-move old new place other node moves was xs ys holds = elim moves.vacant [ inl same ↦ stays same | inr vacant ↦ goes vacant ]
    where
      there : node_at old place ≡ Some was
      there = (all_right (λ (x : Name × Cell K V). node_at old x.0 ≡ Some x.1) xs ((place, was) ∷ ys) holds.held).0

      stays : other ≡ place → Holds (node_at new) (xs ++ (other, branches node) ∷ ys)
      stays same =
          let update : UpdatesAt (node_at old) (node_at new) place (Some (branches node)) = record {
            changed = ap (node_at new) (sym same) ∙ ap cell_of moves.there;
            others = λ m apart. ap cell_of (moves.others m apart (λ e. apart (e ∙ same)));
          } in
          subst (λ n. Holds (node_at new) (xs ++ (n, branches node) ∷ ys)) (sym same) (Holds-write (node_at old) (node_at new) place was (branches node) xs ys update holds)

      goes : held_at old other ≡ None → Holds (node_at new) (xs ++ (other, branches node) ∷ ys)
      goes vacant =
          let nothing : node_at old other ≡ None = ap cell_of vacant in
          let apart : other ≢ place = λ e. let h : ◌≡◌ {A = Option (Cell K V)} None (Some was) = sym nothing ∙ ap (node_at old) e ∙ there in cc in
          let mid = λ (m : Name). cond (same_name m place) None (node_at old m) in
          let out : UpdatesAt (node_at old) mid place None = record {
            changed = rw (same_name-self place) refl;
            others = λ m other_name. elim (same_name_tells m place) [ inl same ↦ absurd (other_name same.1) | inr no_more ↦ rw no_more.0 refl ];
          } in
          let in_again : UpdatesAt mid (node_at new) other (Some (branches node)) = record {
            changed = ap cell_of moves.there;
            others = λ m other_name. elim (same_name_tells m place) [
              | inl same ↦ rw same.0 (ap (node_at new) same.1 ∙ ap cell_of (moves.gone apart))
              | inr no_more ↦ rw no_more.0 (ap cell_of (moves.others m no_more.1 other_name))
            ];
          } in
          let free : mid other ≡ None = elim (same_name_tells other place) [ inl same ↦ absurd (apart same.1) | inr no_more ↦ rw no_more.0 nothing ] in
          Holds-add mid (node_at new) other (branches node) xs ys in_again free (Holds-remove (node_at old) mid place was xs ys out holds)

  -- the part's cells stand after those of the tree without it, but for the node above it
  pub set_apart : (P : ℕ) (at : Name → Option (Cell K V)) (rest : List (Name × Cell K V)) (f : Frame K V) (outer : List (Frame K V)) (part : Shape K V)
      → Holds at (rest ++ cells P (plug (f ∷ outer) part))
      → Holds at (cells_before P outer f.name ++ (frame_cell P f (name_of part) ∷ (cells_in P (join f.before f.after) ++ (cells_after P outer ++ (cells P part ++ rest)))))
  set_apart P at rest f outer part holds =
      let last = Holds-turn at (cells_before P (f ∷ outer) (name_of part)) (cells P part) (cells_after P (f ∷ outer)) rest (unplugged P at rest (f ∷ outer) part holds) in
      subst (Holds at) (reordered (cells_before P outer f.name) (cells_in P f.before) (cells_in P f.after) (cells_after P outer) (cells P part ++ rest) (cells_in P (join f.before f.after)) (frame_cell P f (name_of part)) (cells_in-join P f.before f.after)) last
    where
      reordered : (a b c d e j : List (Name × Cell K V)) (x : Name × Cell K V) → j ≡ b ++ c → (a ++ x ∷ b) ++ ((c ++ d) ++ e) ≡ a ++ (x ∷ (j ++ (d ++ e)))
      reordered a b c d e j x is = rw is (simp append_assoc)

module _ {K V : Type 0} (bytes : K → List ℕ) where
  -- branches may begin later than they have to
  lower : (path : List ℕ) (low high : ℕ) (f : Branches K V) → low ≤ high → AreUnder bytes path high f → AreUnder bytes path low f
  lower path low high no_branch less under = tt
  lower path low high (branch c s rest) less under = (omega (arith, less, under.0), under.1, under.2)

  -- what stands before a byte and what stands after it, in one
  pub AreUnder-closed : (path : List ℕ) (low byte : ℕ) (f g : Branches K V) → AreUnder bytes path low f → AreBelow byte f → low ≤ byte + 1 → AreUnder bytes path (byte + 1) g → AreUnder bytes path low (join f g)
  AreUnder-closed path low byte no_branch g before below less after = lower path low (byte + 1) g less after
  AreUnder-closed path low byte (branch c s f) g before below less after = (before.0, before.1, AreUnder-closed path (c + 1) byte f g before.2 below.1 (omega (arith, below.0)) after)

module _ {K V : Type 0} {bytes : K → List ℕ} {P : ℕ} {rest : List (Name × Cell K V)} {old : Arena K V} (new : Arena K V) {f : Frame K V} {outer : List (Frame K V)} {part : Shape K V} (at : IsHeldAt bytes P old rest (f ∷ outer) part) where
  -- the node above the part without it, under whichever name
  pub taken : (other : Name)
      → Moves old new f.name other (inner_held (with_children (frame_node P f (name_of part)) (without_child (frame_node P f (name_of part)).children f.byte)))
      → IsKindOf other.kind (width f.before + width f.after) → StandsFor bytes P new rest f outer part other
  taken other moves kind =
      let left = without_child-frame bytes f.byte (name_of part) f.before (children_at f.after) at.around.2 ∙ sym (children_at-join f.before f.after) in
      let moved = Holds-move old new f.name other _ moves _ (cells_before P outer f.name) _ (set_apart P (node_at old) rest f outer part at.holds) in
      record {
        remains = inner_at other f.prefix (join f.before f.after);
        named = refl;
        holds = subst (λ kids. Holds (node_at new) (cells_before P outer f.name ++ ((other, branches (with_children (frame_node P f (name_of part)) kids)) ∷ (cells_in P (join f.before f.after) ++ (cells_after P outer ++ (cells P part ++ rest)))))) left moved;
        under = (
          subst (IsKindOf other.kind) (sym (width-join f.before f.after)) kind,
          AreUnder-closed bytes (path_to outer ++ f.prefix) 0 f.byte f.before f.after at.around.1 at.around.2 (omega arith) at.around.3,
        );
        left = leaves_in-join f.before f.after;
      }
