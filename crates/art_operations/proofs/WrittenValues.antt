-- An arena that has pairs, and one of its leaves with another value.
use Rattle.std.proofs.Common.{◌≡◌, ℕ, cond, List, [], ◌∷◌, ◌++◌, Some, None, IsSome, refl, sym, ap, ◌∙◌, arith}
use Rattle.art_nodes.proofs.Common.{Name}
use Rattle.art_nodes.specs.declared.leaf.LeafNode.{LeafNode}
use Rattle.art_arena.proofs.Common.{Arena, held_at, node_at, cell_of, leaf_name, pair, with_leaf_value, times, Shape, LeafAt, leaves, StoresOnly, LeafThere, leaf-there, cell-some, times-leaves}
use Rattle.art_arena.proofs.shapes.LeafPlaces.{HasPlace, leaf-stands}
use Rattle.art_operations.proofs.Terms.{IsInsertedBeside, NoChange}
use Rattle.art_operations.proofs.Inserted.{IsExactPlace, exact_there, replaced}

module _ {K V : Type 0} (bytes : K → List ℕ) (P : ℕ) (old : Arena K V) (root : Name) (s : Shape K V) (tree : StoresOnly bytes P old root s) (slot : ℕ) (there : IsSome (held_at old (leaf_name slot))) where
  abbrev is_there : LeafThere old slot
  is_there = leaf-there old slot there

  once : times slot (leaves s) ≡ 1
  once = times-leaves bytes P slot [] s tree.nodes.under ∙ tree.nodes.holds.once (leaf_name slot) ∙ ap {B = ℕ} (λ b. cond b 1 0) (cell-some (held_at old (leaf_name slot)) there)

  abbrev stands : HasPlace bytes s slot
  stands = leaf-stands bytes s slot tree.nodes.under (omega (arith, once))

  abbrev loose : IsExactPlace bytes P (bytes stands.place.key) s slot stands.last
  loose = record { ctx = stands.place.ctx; k = stands.place.key; v = stands.place.value; place = stands.place.place; steps = stands.place.steps; same = refl }

  same-key : stands.place.key ≡ is_there.leaf.key
  same-key =
      let there = exact_there bytes P old root s tree slot (bytes stands.place.key) stands.last loose in
      let e = sym there.is ∙ is_there.held in
      let node : there.leaf ≡ is_there.leaf = cc in
      sym there.key ∙ ap (λ (l : LeafNode K V). l.key) node

  abbrev place : IsExactPlace bytes P (bytes is_there.leaf.key) s slot stands.last
  place = record { ctx = stands.place.ctx; k = stands.place.key; v = stands.place.value; place = stands.place.place; steps = stands.place.steps; same = ap bytes same-key }

  -- the leaves with another value in this one
  pub record Written (new : Arena K V) (w : V) : Type 0 where
    pub shape : Shape K V
    pub is_tree : StoresOnly bytes P new root shape
    pub key : K
    pub value : V
    pub front : List (LeafAt K V)
    pub back : List (LeafAt K V)
    pub had : leaves s ≡ front ++ record { slot = slot; key = key; value = value } ∷ back
    pub has : leaves shape ≡ front ++ record { slot = slot; key = key; value = w } ∷ back
    pub held : node_at old (leaf_name slot) ≡ Some (pair key value)
    pub one : times slot (leaves s) ≡ 1

  pub written : (w : V) → Written (with_leaf_value old slot w) w
  written w = record {
    shape = is.shape;
    is_tree = is.is_tree;
    key = is_there.leaf.key;
    value = is_there.leaf.value;
    front = is.stored.1.0;
    back = is.stored.1.1;
    had = is.stored.1.2;
    has = is.stored.1.3;
    held = ap cell_of is_there.held;
    one = once;
  }
    where
      is : IsInsertedBeside bytes P (with_leaf_value old slot w) [] s stands.last is_there.leaf.key w (record { leaf_node_ptr = slot; existing_leaf = Some (record is_there.leaf { previous = None; next = None }); new_root = root; parent_node_change = NoChange })
      is = replaced bytes P old root s tree slot (with_leaf_value old slot w) is_there.leaf.key w stands.last place is_there.leaf (record is_there.leaf { value = w }) is_there.held
          (is_there.written w) refl refl refl refl
