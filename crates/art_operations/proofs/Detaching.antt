-- From what stands for the node above a part to the tree without the part.
use Rattle.std.proofs.Common.{◌≡◌, ◌≢◌, ℕ, suc, ◌+◌, List, [], ◌∷◌, ◌++◌, Some, None, IsSome, inl, inr, refl, sym, ap, subst, ◌∙◌, append_assoc}
use Rattle.art_nodes.proofs.Common.{Name, InnerNode, child_at, with_child, with_children}
use Rattle.art_nodes.specs.declared.kind.NodeType.TheVariants.{Leaf}
use Rattle.art_arena.proofs.Common.{Arena, inner_held, held_at, node_at, links_at, SameNodes, Cell, Holds, Frame, plug, path_to, leaves_before, leaves_after, root_of, cells_before, cells_after, AreAround, IsNodesBeside, ChangesKind, Shape, name_of, leaves, leaves_in, width, cells, IsUnder}
use Rattle.art_arena.proofs.Common.{Step, same_name_tells, Holds-same, Holds-swap, leaves-plug, cells-plug, name_of-plug, IsUnder-plug, frame_node, frame-there, frame-child, frame-inner, repoint, at_root, HasParent, parent-of, HasGrandparent, grandparent-of, no-grandparent, inner_of}
use Rattle.art_arena.proofs.Common.{nodes-update, nodes-same, links-kept, links-same}
use Rattle.art_operations.proofs.Terms.{IsPartPlace, IsHeldAt, IsChildPart, StandsFor, IsApart, IsDetached, EditsNode, LosesKind}

module _ {K V : Type 0} (bytes : K → List ℕ) (P : ℕ) where
  -- a part to which no step leads is the whole tree
  pub lone : {rest : List (Name × Cell K V)} (arena : Arena K V) (root : Name) (s : Shape K V) (child : Name) (last : List Step) → last ≡ [] → IsNodesBeside bytes P (node_at arena) root rest s → (place : IsPartPlace bytes s child last)
      → IsDetached bytes P arena rest place.ctx place.part None
  lone {rest} arena root s child last none nodes place =
      let top = at_root place.ctx (place.steps ∙ none) in
      let is : s ≡ place.part = place.place.is ∙ ap (λ ctx. plug ctx place.part) top in
      (top, Holds-swap (node_at arena) rest (cells P place.part) (subst (λ t. Holds (node_at arena) (rest ++ cells P t)) is nodes.holds))

  -- one to which steps lead stands below the node of the last
  module _ {rest : List (Name × Cell K V)} (arena : Arena K V) (root : Name) (s : Shape K V) (child : Name) (last : List Step) (step : Step) (more : List Step) (some : last ≡ step ∷ more) (parent : Name) (node : step.node ≡ parent)
      (nodes : IsNodesBeside bytes P (node_at arena) root rest s) (place : IsPartPlace bytes s child last) where
    abbrev pub the_parent : HasParent place.ctx step more
    the_parent = parent-of place.ctx step more (place.steps ∙ some)

    -- the tree around it
    pub whole_is : s ≡ plug (the_parent.frame ∷ the_parent.outer) place.part
    whole_is = place.place.is ∙ ap (λ ctx. plug ctx place.part) the_parent.is

    -- the arena holds that tree
    pub held_at_place : IsHeldAt bytes P arena rest (the_parent.frame ∷ the_parent.outer) place.part
    held_at_place = record {
      holds = subst (λ t. Holds (node_at arena) (rest ++ cells P t)) whole_is nodes.holds;
      around = subst (AreAround bytes) the_parent.is place.place.around;
      under_path = subst (λ ctx. IsUnder bytes (path_to ctx) place.part) the_parent.is place.place.under;
    }

    -- and the part stands below the node that the step names
    abbrev pub child_part : IsChildPart bytes P arena rest parent step.byte child
    child_part = record {
      frame = the_parent.frame;
      outer = the_parent.outer;
      part = place.part;
      held = held_at_place;
      named = the_parent.named ∙ node;
      under = the_parent.byte;
      child_is = place.here;
    }

    -- what the loss of the part does to that node
    pub loses_kind : ChangesKind (suc (width the_parent.frame.before + width the_parent.frame.after)) → LosesKind place.ctx
    loses_kind changes = subst LosesKind (sym the_parent.is) changes

  -- once the frames above point to what is left, the part is apart
  finish : (rest : List (Name × Cell K V)) (new : Arena K V) (f : Frame K V) (outer : List (Frame K V)) (part remains : Shape K V) → AreAround bytes outer
      → Holds (node_at new) (cells_before P outer (name_of remains) ++ (cells P remains ++ (cells_after P outer ++ (cells P part ++ rest)))) → IsUnder bytes (path_to outer) remains → leaves remains ≡ leaves_in f.before ++ leaves_in f.after
      → IsApart bytes P new rest (f ∷ outer) part (root_of outer (name_of remains))
  finish rest new f outer part remains around holds under left = record {
    remains = plug outer remains;
    named = name_of-plug outer remains;
    holds = subst (Holds (node_at new)) (ordered (cells_before P outer (name_of remains)) (cells P remains) (cells_after P outer) (cells P part ++ rest) (cells P (plug outer remains)) (cells-plug P outer remains)) holds;
    under = IsUnder-plug bytes outer remains around under;
    left = leaves-plug outer remains ∙ ap (λ ls. leaves_before outer ++ (ls ++ leaves_after outer)) left ∙ simp append_assoc;
  }
    where
      ordered : (a b c d e : List (Name × Cell K V)) → e ≡ a ++ (b ++ c) → a ++ (b ++ (c ++ d)) ≡ e ++ d
      ordered a b c d e is = rw is (simp append_assoc)

  -- where the node was the root
  pub finish_root : {rest : List (Name × Cell K V)} (new : Arena K V) (f : Frame K V) (outer : List (Frame K V)) (part : Shape K V) (other : Name) → outer ≡ []
      → StandsFor bytes P new rest f outer part other → IsApart bytes P new rest (f ∷ outer) part other
  finish_root {rest} new f [] part other none stands = subst (IsApart bytes P new rest (f ∷ []) part) stands.named (finish rest new f [] part stands.remains tt stands.holds stands.under stands.left)
  finish_root new f (g ∷ above) part other none stands = absurd (cc)

  -- where another node stands above it
  module _ {rest : List (Name × Cell K V)} (mid : Arena K V) (f g : Frame K V) (above : List (Frame K V)) (part : Shape K V) (other : Name) (around : AreAround bytes (g ∷ above)) (stands : StandsFor bytes P mid rest f (g ∷ above) part other) where
    -- the arena has that node, which still points to the old name
    pub above_held : held_at mid g.name ≡ Some (inner_held (frame_node P g f.name))
    above_held = inner_of (held_at mid g.name) _ (frame-there P g above f.name _ around.2 (node_at mid) stands.holds)

    pub above_child : child_at (frame_node P g f.name).children g.byte ≡ Some f.name
    above_child = frame-child P g above f.name _ around.2 (node_at mid) stands.holds

    module _ (new : Arena K V) (same : other ≡ f.name → SameNodes mid new) (edits : other ≢ f.name → EditsNode mid new g.name (λ n. with_children n (with_child n.children g.byte other))) where
      -- once it points to what is left, that stands in the tree
      pub pointed : Holds (node_at new) (cells_before P (g ∷ above) other ++ (cells P stands.remains ++ (cells_after P (g ∷ above) ++ (cells P part ++ rest))))
      pointed = elim (same_name_tells other f.name) [
        | inl is ↦ Holds-same (node_at mid) (node_at new) (nodes-same mid new (same is.1)) _
            (subst (λ n. Holds (node_at mid) (cells_before P (g ∷ above) n ++ (cells P stands.remains ++ (cells_after P (g ∷ above) ++ (cells P part ++ rest))))) (sym is.1) stands.holds)
        | inr not ↦ repoint P g above f.name _ around.2 (node_at mid) stands.holds (node_at new) other (nodes-update mid new g.name _ (edits not.1 _ above_held))
      ]

      -- and the part is apart from the tree of the others
      pub finish_below : (s : Shape K V) (root : Name) → name_of s ≡ root → s ≡ plug (f ∷ g ∷ above) part → IsApart bytes P new rest (f ∷ g ∷ above) part root
      finish_below s root named is =
          let whole = finish rest new f (g ∷ above) part stands.remains around
          (subst (λ n. Holds (node_at new) (cells_before P (g ∷ above) n ++ (cells P stands.remains ++ (cells_after P (g ∷ above) ++ (cells P part ++ rest))))) (sym stands.named) pointed) stands.under stands.left in
          let same_root : root_of above g.name ≡ root = sym (name_of-plug (f ∷ g ∷ above) part) ∙ ap name_of (sym is) ∙ named in
          subst (IsApart bytes P new rest (f ∷ g ∷ above) part) same_root whole

      -- no link has changed
      pub pointed_links : g.name.kind ≢ Leaf → (slot : ℕ) → links_at new slot ≡ links_at mid slot
      pointed_links inner slot = elim (same_name_tells other f.name) [
        | inl is ↦ links-same mid new (same is.1) slot
        | inr not ↦ links-kept mid new g.name _ (edits not.1 _ above_held) inner slot
      ]

  -- a part to which one step leads, taken out of the root
  module _ {rest : List (Name × Cell K V)} (old new : Arena K V) (root : Name) (s : Shape K V) (child : Name) (last : List Step) (step : Step) (some : last ≡ step ∷ []) (parent : Name) (node : step.node ≡ parent)
      (nodes : IsNodesBeside bytes P (node_at old) root rest s) (place : IsPartPlace bytes s child last) (other : Name)
      (stands : (there : IsChildPart bytes P old rest parent step.byte child) → StandsFor bytes P new rest there.frame there.outer there.part other) where
    -- it is apart from the tree of the others
    pub apart_of_root : IsDetached bytes P new rest place.ctx place.part (Some other)
    apart_of_root =
        let hp = the_parent old root s child last step [] some parent node nodes place in
        subst (λ ctx. IsApart bytes P new rest ctx place.part other) (sym hp.is)
        (finish_root new hp.frame hp.outer place.part other (no-grandparent hp.outer hp.above) (stands (child_part old root s child last step [] some parent node nodes place)))

  -- one to which two lead, taken out of a node to which another points
  module _ {rest : List (Name × Cell K V)} (old mid : Arena K V) (root : Name) (s : Shape K V) (child : Name) (last : List Step) (step upper : Step) (some : last ≡ step ∷ upper ∷ []) (parent : Name) (node : step.node ≡ parent)
      (nodes : IsNodesBeside bytes P (node_at old) root rest s) (place : IsPartPlace bytes s child last) (other : Name)
      (stands : (there : IsChildPart bytes P old rest parent step.byte child) → StandsFor bytes P mid rest there.frame there.outer there.part other)
      (grand : Name) (grand_is : upper.node ≡ grand) where
    abbrev pub its_parent : HasParent place.ctx step (upper ∷ [])
    its_parent = the_parent old root s child last step (upper ∷ []) some parent node nodes place

    abbrev pub its_grandparent : HasGrandparent its_parent.outer upper
    its_grandparent = grandparent-of its_parent.outer upper its_parent.above

    there : IsHeldAt bytes P old rest (its_parent.frame ∷ its_parent.outer) place.part
    there = held_at_place old root s child last step (upper ∷ []) some parent node nodes place

    around : AreAround bytes (its_grandparent.frame ∷ its_grandparent.above)
    around = subst (AreAround bytes) its_grandparent.is there.around.4

    left : StandsFor bytes P mid rest its_parent.frame (its_grandparent.frame ∷ its_grandparent.above) place.part other
    left = subst (λ outer. StandsFor bytes P mid rest its_parent.frame outer place.part other) its_grandparent.is (stands (child_part old root s child last step (upper ∷ []) some parent node nodes place))

    abbrev pub grand_node : InnerNode
    grand_node = frame_node P its_grandparent.frame its_parent.frame.name

    -- the node that points to its parent is there
    pub grand_there : held_at mid grand ≡ Some (inner_held grand_node)
    grand_there = ap (held_at mid) (sym grand_is ∙ sym its_grandparent.named) ∙ above_held mid its_parent.frame its_grandparent.frame its_grandparent.above place.part other around left

    pub grand_child : IsSome (child_at grand_node.children upper.byte)
    grand_child = subst (λ b. IsSome (child_at grand_node.children b)) its_grandparent.byte (rw (above_child mid its_parent.frame its_grandparent.frame its_grandparent.above place.part other around left) refl)

    pub grand_inner : grand.kind ≢ Leaf
    grand_inner = subst (λ (n : Name). n.kind ≢ Leaf) (its_grandparent.named ∙ grand_is) (frame-inner bytes its_grandparent.frame its_grandparent.above around)

    module _ (new : Arena K V) (same : other ≡ parent → SameNodes mid new) (edits : other ≢ parent → EditsNode mid new grand (λ n. with_children n (with_child n.children upper.byte other))) where
      edits_above : other ≢ its_parent.frame.name → EditsNode mid new its_grandparent.frame.name (λ n. with_children n (with_child n.children its_grandparent.frame.byte other))
      edits_above apart =
          subst (λ n. EditsNode mid new n (λ n. with_children n (with_child n.children its_grandparent.frame.byte other))) (sym (its_grandparent.named ∙ grand_is))
          (subst (λ b. EditsNode mid new grand (λ n. with_children n (with_child n.children b other))) (sym its_grandparent.byte) (edits (λ e. apart (e ∙ sym node ∙ sym its_parent.named))))

      same_above : other ≡ its_parent.frame.name → SameNodes mid new
      same_above e = same (e ∙ its_parent.named ∙ node)

      -- once that node points to what is left, the part is apart from the tree of the others
      pub apart_below : IsDetached bytes P new rest place.ctx place.part (Some root)
      apart_below =
          subst (λ ctx. IsApart bytes P new rest ctx place.part root) (ap (λ outer. its_parent.frame ∷ outer) (sym its_grandparent.is) ∙ sym its_parent.is)
          (finish_below mid its_parent.frame its_grandparent.frame its_grandparent.above place.part other around left new same_above edits_above s root nodes.named
          (whole_is old root s child last step (upper ∷ []) some parent node nodes place ∙ ap (λ outer. plug (its_parent.frame ∷ outer) place.part) its_grandparent.is))

      -- and no link has changed
      pub links_below : (at : ℕ) → links_at new at ≡ links_at mid at
      links_below = pointed_links mid its_parent.frame its_grandparent.frame its_grandparent.above place.part other around left new same_above edits_above (frame-inner bytes its_grandparent.frame its_grandparent.above around)
