-- From the point of an insertion under an inner node to a leaf that waits there, and from the leaf in its place to what an insertion leaves.
use Rattle.std.proofs.Common.{◌≡◌, ℕ, suc, ◌+◌, List, [], ◌∷◌, ◌++◌, take, None, refl, sym, ap, ap₂, subst, ◌∙◌, append_assoc}
use Rattle.art_bytes.proofs.Common.{BeginsWith}
use Rattle.art_nodes.proofs.Common.{child_at, Name, inner_name_of}
use Rattle.art_nodes.specs.declared.concrete.ConcreteInnerNodePtr.{ConcreteInnerNodePtr}
use Rattle.art_arena.proofs.Common.{Arena, cell_of, node_at, links_at, Allocates, Cell, pair, branches, leaf_name, Holds, Frame, plug, path_to, leaves_before, leaves_after, cells_before, cells_after, IsKindOf, IsBeside, IsTreeBeside, Shape, Branches, inner_at, leaf_at, LeafAt, name_of}
use Rattle.art_arena.proofs.Common.{children_at, join, width, leaves, leaves_in, cells, cells_in, IsUnder, steps_to, steps_of, Holds-add, Holds-swap, leaves_in-join, cells_in-join, width-join, leaves-plug, cells-plug, name_of-plug, opening, new-beside, nodes-update, links-update}
use Rattle.art_operations.proofs.Terms.{lone_leaf, IsInsertedBeside, IsPoint, MeetsAt, InsertPoint, NewParent, AwaitsLeaf}
use Rattle.art_operations.specs.declared.insert.point.InsertKind.TheVariants.{IntoExisting}
use Rattle.art_arena.proofs.shapes.LastSteps.{last_two}
use Rattle.art_operations.proofs.Waiting.{open_node, regroup_front}

regroup : {X : Type 0} (xs bs ts cs : List X) → xs ++ ((bs ++ ts) ++ cs) ≡ (xs ++ bs) ++ (ts ++ cs)
regroup xs bs ts cs = simp append_assoc

module _ {K V : Type 0} (bytes : K → List ℕ) (P : ℕ) (s : Shape K V) (point : InsertPoint) (inner : Name) (byte slot : ℕ) (key : K) (value : V) where
  abbrev new_leaf : LeafAt K V
  new_leaf = record { slot = slot; key = key; value = value }

  -- the leaf waits beside the tree for the place that the point names
  pub record Starts (arena : Arena K V) (rest : List (Name × Cell K V)) : Type 0 where
    pub frame : Frame K V
    pub outer : List (Frame K V)
    pub awaits : AwaitsLeaf bytes P arena rest point.root inner byte slot frame outer new_leaf
    pub path : take 2 (steps_to outer) ≡ steps_of point.path
    pub kind : IsKindOf inner.kind (width frame.before + width frame.after)
    pub was : leaves s ≡ leaves_before (frame ∷ outer) ++ leaves_after (frame ∷ outer)

  pub starts : {rest : List (Name × Cell K V)} (old new : Arena K V) → IsTreeBeside bytes P (node_at old) point.root (links_at old) rest s → IsPoint bytes (bytes key) s point → point.insert_kind ≡ IntoExisting inner byte
      → Allocates old new (leaf_name slot) (lone_leaf key value) → Starts new rest
  starts {rest} old new tree at is_kind allocates = there meets.0 meets.1 meets.2 meets.3 meets.4
    where
      meets : MeetsAt bytes (bytes key) (path_to at.ctx) at.part (IntoExisting inner byte)
      meets = subst (MeetsAt bytes (bytes key) (path_to at.ctx) at.part) is_kind at.meets

      there : (prefix : List ℕ) (kids : Branches K V) → at.part ≡ inner_at inner prefix kids → child_at (children_at kids) byte ≡ None → BeginsWith ((path_to at.ctx ++ prefix) ++ byte ∷ []) (bytes key) → Starts new rest
      there prefix kids is missing begins =
          let ctx = at.ctx in
          let under = subst (IsUnder bytes (path_to ctx)) is at.toward.place.under in
          let o = opening bytes kids byte (path_to ctx ++ prefix) 0 under.1 missing in
          let node : Shape K V = inner_at inner prefix (join o.before o.after) in
          let whole : s ≡ plug ctx node = at.toward.place.is ∙ ap (plug ctx) (is ∙ ap (inner_at inner prefix) o.kids_are) in
          let f : Frame K V = record { name = inner; prefix = prefix; before = o.before; byte = byte; after = o.after } in
          let as_wide : width kids ≡ width o.before + width o.after = ap width o.kids_are ∙ width-join o.before o.after in
          let kind = subst (IsKindOf inner.kind) as_wide under.0 in
          let was : leaves s ≡ leaves_before (f ∷ ctx) ++ leaves_after (f ∷ ctx) =
          ap leaves whole ∙ leaves-plug ctx node ∙ ap (λ ls. leaves_before ctx ++ (ls ++ leaves_after ctx)) (leaves_in-join o.before o.after)
          ∙ regroup (leaves_before ctx) (leaves_in o.before) (leaves_in o.after) (leaves_after ctx) in
          let cells_are : cells P s ≡ (cells_before P ctx inner ++ ((inner, branches (open_node P f)) ∷ cells_in P o.before)) ++ cells_after P (f ∷ ctx) =
          ap (cells P) whole ∙ cells-plug P ctx node ∙ ap (λ xs. cells_before P ctx inner ++ ((inner, branches (open_node P f)) ∷ (xs ++ cells_after P ctx))) (cells_in-join P o.before o.after)
          ∙ regroup_front (cells_before P ctx inner) (cells_in P o.before) (cells_in P o.after) (cells_after P ctx) _ in
          let added = Holds-add (node_at old) (node_at new) (leaf_name slot) (pair key value) (cells_before P ctx inner ++ ((inner, branches (open_node P f)) ∷ cells_in P o.before)) (cells_after P (f ∷ ctx) ++ rest)
          (nodes-update old new (leaf_name slot) _ allocates.updates) (ap cell_of allocates.vacant)
          (subst (Holds (node_at old)) (ap (λ cs. cs ++ rest) cells_are ∙ append_assoc (cells_before P ctx inner ++ ((inner, branches (open_node P f)) ∷ cells_in P o.before)) (cells_after P (f ∷ ctx)) rest) (Holds-swap (node_at old) rest (cells P s) tree.nodes.holds)) in
          record {
            frame = f;
            outer = ctx;
            awaits = record {
              named = sym (name_of-plug ctx node) ∙ ap name_of (sym whole) ∙ tree.nodes.named;
              node_is = refl;
              byte_is = refl;
              leaf_is = refl;
              holds = subst (Holds (node_at new)) (append_assoc (cells_before P ctx inner) ((inner, branches (open_node P f)) ∷ cells_in P o.before) ((leaf_name slot, pair key value) ∷ (cells_after P (f ∷ ctx) ++ rest))) added;
              beside = subst (λ ls. IsBeside (links_at new) ls slot) was
                  (new-beside bytes P (node_at old) point.root (links_at old) (links_at new) s slot _ tree (ap cell_of allocates.vacant) (links-update old new slot _ allocates.updates));
              around = at.toward.place.around;
              two = kind.two;
              before_under = o.before_under;
              below = o.below;
              after_under = o.after_under;
              begins = begins;
            };
            path = at.toward.steps;
            kind = kind;
            was = was;
          }

  -- the tree with the leaf in its place, under this node, is what an insertion leaves
  pub inserted : {rest : List (Name × Cell K V)} (arena final : Arena K V) (root node : Name) (f : Frame K V) (outer : List (Frame K V)) (parent : ConcreteInnerNodePtr)
      → AwaitsLeaf bytes P arena rest root node byte slot f outer new_leaf → IsKindOf node.kind (suc (width f.before + width f.after)) → take 2 (steps_to outer) ≡ steps_of point.path
      → leaves s ≡ leaves_before (f ∷ outer) ++ leaves_after (f ∷ outer) → inner_name_of parent ≡ node
      → IsTreeBeside bytes P (node_at final) root (links_at final) rest (plug (f ∷ outer) (leaf_at slot key value))
      → IsInsertedBeside bytes P final rest s (steps_of point.path) key value (record { leaf_node_ptr = slot; existing_leaf = None; new_root = root; parent_node_change = NewParent parent byte })
  inserted arena final root node f outer parent awaits kind path was is_parent tree = record {
    shape = plug (f ∷ outer) (leaf_at slot key value);
    is_tree = tree;
    stored = (leaves_before (f ∷ outer), leaves_after (f ∷ outer), was, leaves-plug (f ∷ outer) (leaf_at slot key value));
    place = record {
      ctx = f ∷ outer;
      key = key;
      value = value;
      place = record {
        is = refl;
        around = (subst (λ n. IsKindOf n.kind (suc (width f.before + width f.after))) (sym awaits.node_is) kind, awaits.before_under, awaits.below, awaits.after_under, awaits.around);
        under = awaits.begins;
      };
      steps =
          last_two (record { node = f.name; byte = f.byte }) (steps_to outer)
          ∙ ap (λ xs. take 2 (record { node = f.name; byte = f.byte } ∷ xs)) path
          ∙ ap₂ (λ n b. take 2 (record { node = n; byte = b } ∷ steps_of point.path)) (awaits.node_is ∙ sym is_parent) awaits.byte_is;
    };
  }
