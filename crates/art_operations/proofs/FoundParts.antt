-- The part of a tree that a search for a prefix finds.
use Rattle.std.proofs.Common.{◌≡◌, ℕ, List, [], Option, Some, None, IfSome, MatchOption, refl, sym, ap, subst, ◌∙◌, append-nil}
use Rattle.art_nodes.proofs.Common.{Name}
use Rattle.art_arena.proofs.Common.{Arena, node_at, links_at, Cell, path_to, IsSubtree, IsTreeBeside, nodes-subtree, passing, first_slot, last_slot, Shape, name_of, leaves, steps_of, begins_with, begins_same}
use Rattle.art_arena.specs.declared.path.TreePath.{TreePath}
use Rattle.art_operations.proofs.Terms.{AreEndsWhere, IsInTheWay, IsPoint, MeetsAt, NoConflict, leaves_with, IsSubtreeAnswer, IsSubtreePoint, SubtreeDeletePoint, InsertPoint}
use Rattle.art_operations.specs.declared.insert.point.InsertKind.TheVariants as kind
use Rattle.art_operations.specs.inner.LeafParts.{IsLeafPart}
use Rattle.art_operations.proofs.NotStored.{not-stored}
use Rattle.art_operations.proofs.Prefixed.{block_is, others_are}
use Rattle.art_operations.proofs.Segments.{begin_nowhere}

module _ {K V : Type 0} (bytes : K → List ℕ) (front : List ℕ) (s : Shape K V) (root : Name) (named : name_of s ≡ root) where
  -- one whose leaves are in conflict with the prefix, where they begin with it
  pub conflict_point : (top part : Name) (path : TreePath) (first last : ℕ) (way : IsInTheWay bytes front s top part (steps_of path)) → AreEndsWhere bytes (λ k. begins_with front k) (leaves way.part) (Some (first, last))
      → passing bytes (λ k. begins_with front k) (leaves way.part) ≡ leaves way.part → IsSubtreePoint bytes front s (record { root = root; path = path; subtree = part; first_leaf = first; last_leaf = last })
  conflict_point top part path first last way ends all = record {
    named = named;
    at = record { ctx = way.ctx; part = way.part; place = way.toward.place; here = way.here; steps = way.toward.steps };
    begins = way.toward.begins;
    first_is = ap (λ ls. first_slot ls None) (sym all) ∙ ends.0;
    last_is = ap (last_slot None) (sym all) ∙ ends.1;
    block = block_is bytes front s way.part way.ctx way.toward.place way.toward.begins all;
    others = others_are bytes front s way.part way.ctx way.toward.place way.toward.begins all;
  }

  -- the leaf whose key is the prefix
  pub stored_point : (point : InsertPoint) (part : SubtreeDeletePoint) → IsPoint bytes front s point → IsLeafPart root point part → IsSubtreePoint bytes front s part
  stored_point point part at is =
      let meets = subst (MeetsAt bytes front (path_to at.ctx) at.part) is.exact at.meets in
      let own = begins_same front (bytes meets.0) ([], meets.3 ∙ sym (append-nil front)) in
      let all : leaves_with bytes front (leaves at.part) ≡ leaves at.part = subst (λ t. leaves_with bytes front (leaves t) ≡ leaves t) (sym meets.2) (rw own refl) in
      record {
        named = named ∙ sym is.root_is;
        at = record { ctx = at.ctx; part = at.part; place = at.toward.place; here = ap name_of meets.2 ∙ sym is.leaf_is; steps = at.toward.steps ∙ ap steps_of (sym is.path_is) };
        begins = at.toward.begins;
        first_is = ap (λ t. first_slot (leaves t) None) meets.2;
        last_is = ap (λ t. last_slot None (leaves t)) meets.2 ∙ ap Some (sym is.last_is);
        block = block_is bytes front s at.part at.ctx at.toward.place at.toward.begins all;
        others = others_are bytes front s at.part at.ctx at.toward.place at.toward.begins all;
      }

  -- or none
  pub found_leaf : (point : InsertPoint) (result : Option SubtreeDeletePoint) → IsPoint bytes front s point → NoConflict bytes front (leaves s)
      → MatchOption result ((slot : ℕ) → point.insert_kind ≡ kind.Exact slot → ⊥) (IsLeafPart root point) → IsSubtreeAnswer bytes front s result
  found_leaf point None at free none = begin_nowhere bytes front (leaves s) free (not-stored bytes front s point at none)
  found_leaf point (Some part) at free is = stored_point point part at is

-- it names the root
pub leaf_root : (root : Name) (point : InsertPoint) (result : Option SubtreeDeletePoint) → MatchOption result ((slot : ℕ) → point.insert_kind ≡ kind.Exact slot → ⊥) (IsLeafPart root point) → IfSome result (λ part. part.root ≡ root)
leaf_root root point None none = tt
leaf_root root point (Some part) is = is.root_is

-- the part that a search answers stands in the tree that it was given
pub found-part : {K V : Type 0} (bytes : K → List ℕ) (front : List ℕ) (P : ℕ) (arena : Arena K V) (rest : List (Name × Cell K V)) (root : Name) (result : Option SubtreeDeletePoint) → IfSome result (λ point. point.root ≡ root)
    → ((s : Shape K V) → IsSubtree bytes P (node_at arena) root [] s → IsSubtreeAnswer bytes front s result) → (s : Shape K V) → IsTreeBeside bytes P (node_at arena) root (links_at arena) rest s
    → IfSome result (λ point. (s : Shape K V) × IsTreeBeside bytes P (node_at arena) point.root (links_at arena) rest s × IsSubtreePoint bytes front s point)
found-part bytes front P arena rest root None is answer s tree = tt
found-part bytes front P arena rest root (Some point) is answer s tree =
    (s, subst (λ n. IsTreeBeside bytes P (node_at arena) n (links_at arena) rest s) (sym is) tree, answer s (nodes-subtree bytes P (node_at arena) root s tree.nodes))
