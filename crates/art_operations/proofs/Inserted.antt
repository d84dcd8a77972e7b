-- The tree that an insertion leaves, from the cells and the links of an arena.
use Rattle.std.proofs.Common.{◌≡◌, ◌≢◌, ℕ, List, ◌∷◌, ◌++◌, take, Option, Some, None, refl, sym, ap, ap₂, subst, ◌∙◌, inl, inr, arith}
use Rattle.art_bytes.proofs.Common.{BeginsWith}
use Rattle.art_nodes.proofs.Common.{inner_name_of, Name}
use Rattle.art_nodes.specs.declared.leaf.LeafNode.{LeafNode}
use Rattle.art_nodes.specs.declared.concrete.ConcreteInnerNodePtr.{ConcreteInnerNodePtr}
use Rattle.art_arena.proofs.Common.{Arena, leaf_held, held_at, node_at, links_at, links_of, KeepsNodes, Cell, pair, leaf_name, AreHeld, Holds, UpdatesAt, Frame, plug, path_to, root_of, leaves_before, leaves_after, cells_before, cells_after, AreAround, Links, AreLinked, times}
use Rattle.art_arena.proofs.Common.{KeepsLinksOutside, IsNodesBeside, IsTreeBeside, IsPlace, Shape, leaf_at, LeafAt, name_of, leaves, cells, Step, steps_to, keeps-beside, Holds-write, leaves-plug, name_of-plug, AreLinked-left, AreLinked-right, AreLinked-join, outside-apart, times-append}
use Rattle.art_arena.proofs.Common.{AreLinked-same, nodes-part, IsNodesBeside-plug, unplugged, nodes-update, links-update, steps_of, held-below, all_left, holds_pair, HoldsPair}
use Rattle.std.proofs.lemmas.Bool.Decides.{eqb_tells}
use Rattle.art_operations.proofs.Terms.{IsInsertedBeside, IsPoint, MeetsAt, InsertPoint, NewParent, NoChange}
use Rattle.art_operations.specs.declared.insert.point.InsertKind.TheVariants as kind
use Rattle.art_operations.specs.declared.insert.result.InsertParentNodeChange.{InsertParentNodeChange}
use Rattle.art_arena.proofs.shapes.LastSteps.{last_two}

module _ {K V : Type 0} where
  -- a leaf of a list may have another key and another value
  pub AreLinked-pair : (links : ℕ → Option Links) (xs ys : List (LeafAt K V)) (slot : ℕ) (k l : K) (v w : V) → AreLinked links None (xs ++ record { slot = slot; key = k; value = v } ∷ ys) None → AreLinked links None (xs ++ record { slot = slot; key = l; value = w } ∷ ys) None
  AreLinked-pair links xs ys slot k l v w linked =
      let x : LeafAt K V = record { slot = slot; key = k; value = v } in
      let y : LeafAt K V = record { slot = slot; key = l; value = w } in
      AreLinked-join links None xs (y ∷ ys) None (AreLinked-left links None xs (x ∷ ys) None linked) (AreLinked-right links None xs (x ∷ ys) None linked)

  -- a leaf that is written with the links that it had leaves all links
  pub kept_links : (old : Arena K V) (leaf : ℕ) (new : Arena K V) (was node : LeafNode K V) → held_at old (leaf_name leaf) ≡ Some (leaf_held was) → UpdatesAt (held_at old) (held_at new) (leaf_name leaf) (Some (leaf_held node))
      → node.previous ≡ was.previous → node.next ≡ was.next → (n : ℕ) → links_at new n ≡ links_at old n
  kept_links old leaf new was node there update previous next n =
      let written = links-update old new leaf (Some (leaf_held node)) update in
      elim (eqb_tells n leaf) [
        | inl same ↦ subst (λ m. links_at new m ≡ links_at old m) (sym same.1) (written.changed ∙ ap₂ (λ p q. Some (record { previous = p; next = q })) previous next ∙ sym (ap links_of there))
        | inr other ↦ written.others n other.1
      ]

module _ {K V : Type 0} (bytes : K → List ℕ) (P : ℕ) where
  -- a new leaf below an inner node
  pub inserted_below : {rest : List (Name × Cell K V)} (s : Shape K V) (new : Arena K V) (root : Name) (f : Frame K V) (outer : List (Frame K V)) (leaf : ℕ) (key : K) (value : V) (last : List Step) (parent : ConcreteInnerNodePtr)
      → Holds (node_at new) (cells_before P (f ∷ outer) (leaf_name leaf) ++ (leaf_name leaf, pair key value) ∷ (cells_after P (f ∷ outer) ++ rest))
      → AreAround bytes (f ∷ outer) → BeginsWith (path_to (f ∷ outer)) (bytes key) → root_of outer f.name ≡ root
      → AreLinked (links_at new) None (leaves_before (f ∷ outer) ++ record { slot = leaf; key = key; value = value } ∷ leaves_after (f ∷ outer)) None
      → leaves s ≡ leaves_before (f ∷ outer) ++ leaves_after (f ∷ outer) → inner_name_of parent ≡ f.name → take 2 (steps_to outer) ≡ last
      → IsInsertedBeside bytes P new rest s last key value (record { leaf_node_ptr = leaf; existing_leaf = None; new_root = root; parent_node_change = NewParent parent f.byte })
  inserted_below {rest} s new root f outer leaf key value last parent holds around under root_is linked leaves_are parent_is steps = record {
    shape = plug (f ∷ outer) (leaf_at leaf key value);
    is_tree = record {
      nodes = subst (λ r. IsNodesBeside bytes P (node_at new) r rest (plug (f ∷ outer) (leaf_at leaf key value))) root_is (IsNodesBeside-plug bytes P (node_at new) rest (f ∷ outer) (leaf_at leaf key value) holds around under);
      linked = subst (λ ls. AreLinked (links_at new) None ls None) (sym (leaves-plug (f ∷ outer) (leaf_at leaf key value))) linked;
    };
    stored = (leaves_before (f ∷ outer), leaves_after (f ∷ outer), leaves_are, leaves-plug (f ∷ outer) (leaf_at leaf key value));
    place = record {
      ctx = f ∷ outer;
      key = key;
      value = value;
      place = record { is = refl; around = around; under = under };
      steps = last_two (record { node = f.name; byte = f.byte }) (steps_to outer)
          ∙ ap (λ xs. take 2 (record { node = f.name; byte = f.byte } ∷ xs)) steps
          ∙ ap (λ n. take 2 (record { node = n; byte = f.byte } ∷ last)) (sym parent_is);
    };
  }

  -- where the leaves of the new tree alone change their links, what stands beside it is kept
  pub inserted_keeps : {rest : List (Name × Cell K V)} (old new : Arena K V) (root top : Name) (s t : Shape K V) → IsTreeBeside bytes P (node_at old) root (links_at old) rest s → IsTreeBeside bytes P (node_at new) top (links_at new) rest t
      → KeepsLinksOutside (links_at old) (links_at new) (leaves t) → KeepsNodes rest old new
  inserted_keeps {rest} old new root top s t before after links =
      let held = λ (at : Name → Option (Cell K V)) (u : Shape K V) (h : AreHeld at (rest ++ cells P u)). all_left (λ (c : Name × Cell K V). at c.0 ≡ Some c.1) rest (cells P u) h in
      keeps-beside bytes P old new (node_at new) rest t (held (node_at old) s before.nodes.holds.held) (held (node_at new) t after.nodes.holds.held) after.nodes.holds after.nodes.under links

  -- so it is where a leaf was stored, then linked in, and then put in its place
  pub put_keeps : {rest : List (Name × Cell K V)} (old stored linked new : Arena K V) (root top : Name) (s : Shape K V) (last : List Step) (slot : ℕ) (key : K) (value : V) (above : InsertParentNodeChange) (xs ys : List (LeafAt K V))
      → IsTreeBeside bytes P (node_at old) root (links_at old) rest s → IsInsertedBeside bytes P new rest s last key value (record { leaf_node_ptr = slot; existing_leaf = None; new_root = top; parent_node_change = above }) → leaves s ≡ xs ++ ys
      → ((n : ℕ) → n ≢ slot → links_at stored n ≡ links_at old n) → KeepsLinksOutside (links_at stored) (links_at linked) (xs ++ record { slot = slot; key = key; value = value } ∷ ys) → ((n : ℕ) → links_at new n ≡ links_at linked n) → KeepsNodes rest old new
  put_keeps old stored linked new root top s last slot key value above xs ys tree is were first second third =
      let l : LeafAt K V = record { slot = slot; key = key; value = value } in
      inserted_keeps old new root top s is.shape tree is.is_tree (λ n none.
      let all : times n (is.stored.0 ++ l ∷ is.stored.1) ≡ 0 = subst (λ ls. times n ls ≡ 0) is.stored.3 none in
      let same : times n (is.stored.0 ++ is.stored.1) ≡ times n (xs ++ ys) = ap (times n) (sym is.stored.2 ∙ were) in
      let parts = times-append n xs ys in
      let parts_of_new = times-append n is.stored.0 is.stored.1 in
      let absent : times n (xs ++ l ∷ ys) ≡ 0 = omega (arith, all, same, parts, parts_of_new, times-append n xs (l ∷ ys), times-append n is.stored.0 (l ∷ is.stored.1)) in
      third n ∙ second n absent ∙ first n (outside-apart n xs l ys absent))

  -- the place of a leaf that has the key
  pub record IsExactPlace (key : List ℕ) (s : Shape K V) (leaf : ℕ) (last : List Step) : Type 0 where
    pub ctx : List (Frame K V)
    pub k : K
    pub v : V
    pub place : IsPlace bytes s ctx (leaf_at leaf k v)
    pub steps : take 2 (steps_to ctx) ≡ last
    pub same : bytes k ≡ key

  pub exact_place : (key : List ℕ) (s : Shape K V) (point : InsertPoint) (leaf : ℕ) → IsPoint bytes key s point → point.insert_kind ≡ kind.Exact leaf → IsExactPlace key s leaf (steps_of point.path)
  exact_place key s point leaf is_point is =
      let meets : MeetsAt bytes key (path_to is_point.ctx) is_point.part (kind.Exact leaf) = subst (MeetsAt bytes key (path_to is_point.ctx) is_point.part) is is_point.meets in
      record {
        ctx = is_point.ctx;
        k = meets.0;
        v = meets.1;
        place = subst (IsPlace bytes s is_point.ctx) meets.2 is_point.toward.place;
        steps = is_point.toward.steps;
        same = meets.3;
      }

  module _ {rest : List (Name × Cell K V)} (old : Arena K V) (root : Name) (s : Shape K V) (tree : IsTreeBeside bytes P (node_at old) root (links_at old) rest s) (leaf : ℕ) where
    pub exact_there : (key : List ℕ) (last : List Step) (at : IsExactPlace key s leaf last) → HoldsPair (held_at old (leaf_name leaf)) at.k at.v
    exact_there key last at =
        holds_pair (held_at old (leaf_name leaf)) at.k at.v (held-below P (node_at old) at.ctx (leaf_at leaf at.k at.v) (subst (λ t. AreHeld (node_at old) (cells P t)) at.place.is (nodes-part bytes P (node_at old) root s tree.nodes).held)).0

    -- a leaf without its links
    abbrev pub lone : LeafNode K V → LeafNode K V
    lone was = record was { previous = None; next = None }

    -- a leaf that takes another key of the same bytes, and another value
    pub replaced : (new : Arena K V) (key : K) (value : V) (last : List Step) (at : IsExactPlace (bytes key) s leaf last) (was node : LeafNode K V) → held_at old (leaf_name leaf) ≡ Some (leaf_held was)
        → UpdatesAt (held_at old) (held_at new) (leaf_name leaf) (Some (leaf_held node)) → node.key ≡ key → node.value ≡ value → node.previous ≡ was.previous → node.next ≡ was.next
        → IsInsertedBeside bytes P new rest s last key value (record { leaf_node_ptr = leaf; existing_leaf = Some (lone was); new_root = root; parent_node_change = NoChange })
    replaced new key value last at was node there update key_is value_is previous next = record {
      shape = plug at.ctx (leaf_at leaf key value);
      is_tree = record {
        nodes = subst (λ r. IsNodesBeside bytes P (node_at new) r rest (plug at.ctx (leaf_at leaf key value))) named (IsNodesBeside-plug bytes P (node_at new) rest at.ctx (leaf_at leaf key value) holds at.place.around under);
        linked = subst (λ ls. AreLinked (links_at new) None ls None) (sym (leaves-plug at.ctx (leaf_at leaf key value)))
            (AreLinked-pair (links_at new) (leaves_before at.ctx) (leaves_after at.ctx) leaf at.k key at.v value (AreLinked-same (links_at old) (links_at new) (kept_links old leaf new was node there update previous next) None _ None
            (subst (λ ls. AreLinked (links_at old) None ls None) were tree.linked)));
      };
      stored = (ap bytes same_key ∙ at.same, (leaves_before at.ctx, leaves_after at.ctx, were ∙ ap (λ p. leaves_before at.ctx ++ p ∷ leaves_after at.ctx) same_leaf, leaves-plug at.ctx (leaf_at leaf key value)), refl, refl);
      place = record { ctx = at.ctx; key = key; value = value; place = record { is = refl; around = at.place.around; under = under }; steps = at.steps };
    }
      where
        held : HoldsPair (held_at old (leaf_name leaf)) at.k at.v
        held = exact_there (bytes key) last at

        same_node : held.leaf ≡ was
        same_node = let e = sym held.is ∙ there in cc

        same_key : was.key ≡ at.k
        same_key = ap (λ (l : LeafNode K V). l.key) (sym same_node) ∙ held.key

        same_leaf : ◌≡◌ {A = LeafAt K V} (record { slot = leaf; key = at.k; value = at.v }) (record { slot = leaf; key = was.key; value = was.value })
        same_leaf = ap₂ (λ k v. record { slot = leaf; key = k; value = v }) (sym same_key) (sym held.value ∙ ap (λ (l : LeafNode K V). l.value) same_node)

        were : leaves s ≡ leaves_before at.ctx ++ record { slot = leaf; key = at.k; value = at.v } ∷ leaves_after at.ctx
        were = ap leaves at.place.is ∙ leaves-plug at.ctx (leaf_at leaf at.k at.v)

        named : root_of at.ctx (leaf_name leaf) ≡ root
        named = sym (name_of-plug at.ctx (leaf_at leaf at.k at.v)) ∙ sym (ap name_of at.place.is) ∙ tree.nodes.named

        under : BeginsWith (path_to at.ctx) (bytes key)
        under = subst (BeginsWith (path_to at.ctx)) at.same at.place.under

        cell : UpdatesAt (node_at old) (node_at new) (leaf_name leaf) (Some (pair key value))
        cell = subst (λ k. UpdatesAt (node_at old) (node_at new) (leaf_name leaf) (Some (pair k value))) key_is
            (subst (λ v. UpdatesAt (node_at old) (node_at new) (leaf_name leaf) (Some (pair node.key v))) value_is (nodes-update old new (leaf_name leaf) (Some (leaf_held node)) update))

        holds : Holds (node_at new) (cells_before P at.ctx (leaf_name leaf) ++ (leaf_name leaf, pair key value) ∷ (cells_after P at.ctx ++ rest))
        holds = Holds-write (node_at old) (node_at new) (leaf_name leaf) (pair at.k at.v) (pair key value) (cells_before P at.ctx (leaf_name leaf)) (cells_after P at.ctx ++ rest) cell
            (unplugged P (node_at old) rest at.ctx (leaf_at leaf at.k at.v) (subst (λ t. Holds (node_at old) (rest ++ cells P t)) at.place.is tree.nodes.holds))
