-- A shape stands in the place of the first childless node below another one, which was freed.
use Rattle.std.proofs.Common.{◌≡◌, ◌≢◌, ℕ, ◌+◌, Bool, List, [], ◌∷◌, ◌++◌, length, Some, None, IsSome, refl, sym, ap, subst, ◌∙◌, arith, append_assoc, length-append}
use Rattle.art_nodes.proofs.Common.{InnerNode, child_at, with_child, with_children, Name}
use Rattle.art_nodes.specs.declared.kind.NodeType.TheVariants.{Leaf}
use Rattle.art_arena.proofs.Common.{Arena, inner_held, held_at, node_at, Cell, branches, copies, UpdatesAt, Holds, Frame, plug, frame_cell, cells_before, cells_after, AreBelow, Shape, name_of, cells, cells_in, copies-append, cells-plug, name_of-plug, no_inner, frame_node, frame-there}
use Rattle.art_arena.proofs.Common.{frame-child, repoint, HasGrandparent, grandparent-of, no-grandparent, inner_of, nodes-update, Holds-turn}
use Rattle.art_operations.proofs.Terms.{cells_with, KeepsAllBut, step_in, AreFirst, IsBottom, FreesRoot, HoldsPart, HoldsBoth, HoldsOneLess}
use Rattle.art_operations.specs.declared.deallocate.Bottom.{Bottom}
use Rattle.art_operations.proofs.Freeing.{after_with, with-plug, childless-cells, childless-one, freed_root, apart-from, kept_root}
use Rattle.art_operations.proofs.FreeSteps.{part-there}

module _ {K V : Type 0} (P : ℕ) where
  -- the cells before a place have the same names, and so many, whatever stands there
  before-copies : (k : Name) (ctx : List (Frame K V)) (m n : Name) → copies k (cells_before P ctx m) ≡ copies k (cells_before P ctx n)
  before-copies k [] m n = refl
  before-copies k (f ∷ outer) m n =
      omega (arith, copies-append k (cells_before P outer f.name) (frame_cell P f m ∷ cells_in P f.before), copies-append k (cells_before P outer f.name) (frame_cell P f n ∷ cells_in P f.before))

  before-length : (ctx : List (Frame K V)) (m n : Name) → length (cells_before P ctx m) ≡ length (cells_before P ctx n)
  before-length [] m n = refl
  before-length (f ∷ outer) m n =
      omega (arith, length-append (cells_before P outer f.name) (frame_cell P f m ∷ cells_in P f.before), length-append (cells_before P outer f.name) (frame_cell P f n ∷ cells_in P f.before))

  plug-length : (ctx : List (Frame K V)) (s : Shape K V) → length (cells P (plug ctx s)) ≡ length (cells_before P ctx (name_of s)) + (length (cells P s) + length (cells_after P ctx))
  plug-length ctx s =
      ap length (cells-plug P ctx s) ∙ omega (arith, length-append (cells_before P ctx (name_of s)) (cells P s ++ cells_after P ctx), length-append (cells P s) (cells_after P ctx))

  module _ (w : Bool) where
    plug-copies : (k : Name) (ctx : List (Frame K V)) (s : Shape K V) → AreFirst ctx
        → copies k (cells_with P w (plug ctx s)) ≡ copies k (cells_before P ctx (name_of s)) + (copies k (cells_with P w s) + copies k (after_with P w ctx))
    plug-copies k ctx s first =
        ap (copies k) (with-plug P w ctx s first) ∙ omega (arith, copies-append k (cells_before P ctx (name_of s)) (cells_with P w s ++ after_with P w ctx), copies-append k (cells_with P w s) (after_with P w ctx))

    pub both-other : (arena : Arena K V) (one : Name) (s : Shape K V) (other : Name) (t : Shape K V) (rest : List (Name × Cell K V)) → HoldsBoth P w arena one s other t rest → HoldsPart P w arena other t (cells_with P w s ++ rest)
    both-other arena one s other t rest both = record { named = both.named_other; holds = Holds-turn (node_at arena) [] (cells_with P w s) (cells_with P w t) rest both.holds }

    -- the childless node at the bottom, all else beside it
    pub bottom-part : (arena : Arena K V) (n : Name) (t : Shape K V) (rest : List (Name × Cell K V)) → HoldsPart P w arena n t rest → (bottom : Bottom) → (b : IsBottom t bottom)
        → HoldsPart P w arena bottom.node b.end (cells_before P b.ctx (name_of b.end) ++ (after_with P w b.ctx ++ rest))
    bottom-part arena n t rest part bottom b = record {
      named = b.named;
      holds = part-there P w arena b.ctx b.end rest b.first (subst (λ x. Holds (node_at arena) (cells_with P w x ++ rest)) b.whole part.holds);
    }

    module _ (old mid : Arena K V) (s t : Shape K V) (node below : Name) (rest : List (Name × Cell K V)) (both : HoldsBoth P w old node s below t rest) (bottom : Bottom)
        (find : (x : Shape K V) (others : List (Name × Cell K V)) → HoldsPart P w old below x others → IsBottom x bottom) (free : (x : Shape K V) (others : List (Name × Cell K V)) → HoldsPart P w old bottom.node x others → FreesRoot w old mid x) where
      abbrev pub b : IsBottom t bottom
      b = find t (cells_with P w s ++ rest) (both-other old node s below t rest both)

      part : HoldsPart P w old bottom.node b.end (cells_before P b.ctx (name_of b.end) ++ (after_with P w b.ctx ++ (cells_with P w s ++ rest)))
      part = bottom-part old below t (cells_with P w s ++ rest) (both-other old node s below t rest both) bottom b

      frees : FreesRoot w old mid b.end
      frees = free b.end (cells_before P b.ctx (name_of b.end) ++ (after_with P w b.ctx ++ (cells_with P w s ++ rest))) part

      -- the bottom is gone
      without_bottom : Holds (node_at mid) (cells_before P b.ctx (name_of b.end) ++ (cells_with P w s ++ (after_with P w b.ctx ++ rest)))
      without_bottom =
          let at_root = subst (λ xs. Holds (node_at old) (xs ++ (cells_before P b.ctx (name_of b.end) ++ (after_with P w b.ctx ++ (cells_with P w s ++ rest))))) (childless-cells P w b.end b.childless) part.holds in
          Holds-turn (node_at mid) (cells_before P b.ctx (name_of b.end)) (after_with P w b.ctx) (cells_with P w s) rest
          (freed_root P w old mid b.end [] (cells_before P b.ctx (name_of b.end) ++ (after_with P w b.ctx ++ (cells_with P w s ++ rest))) frees at_root)

      t_size : length (cells P t) ≡ length (cells_before P b.ctx (name_of b.end)) + (1 + length (cells_after P b.ctx))
      t_size = ap (λ x. length (cells P x)) b.whole ∙ plug-length b.ctx b.end ∙ ap (λ n. length (cells_before P b.ctx (name_of b.end)) + (n + length (cells_after P b.ctx))) (childless-one P w b.end b.childless)

      t_copies : (k : Name) → copies k (cells_with P w t) ≡ copies k (cells_before P b.ctx (name_of b.end)) + (copies k (cells_with P w b.end) + copies k (after_with P w b.ctx))
      t_copies k = ap (λ x. copies k (cells_with P w x)) b.whole ∙ plug-copies k b.ctx b.end b.first

      -- the shape takes the place at the bottom
      hung : (new : Arena K V) (root : Name) → name_of (plug b.ctx s) ≡ root → Holds (node_at new) (cells_before P b.ctx (name_of s) ++ (cells_with P w s ++ (after_with P w b.ctx ++ rest)))
          → HoldsOneLess P w new root (length (cells P s ++ cells P t)) (cells_with P w s ++ cells_with P w t) rest
      hung new root named holds = record {
        left = plug b.ctx s;
        part = record {
          named = named;
          holds = subst (Holds (node_at new)) (sym (ap (λ xs. xs ++ rest) (with-plug P w b.ctx s b.first)
              ∙ append_assoc (cells_before P b.ctx (name_of s)) (cells_with P w s ++ after_with P w b.ctx) rest
              ∙ ap (λ xs. cells_before P b.ctx (name_of s) ++ xs) (append_assoc (cells_with P w s) (after_with P w b.ctx) rest))) holds;
        };
        less = omega (arith, length-append (cells P s) (cells P t), t_size, plug-length b.ctx s, before-length b.ctx (name_of s) (name_of b.end));
        names = λ k. omega (arith, copies-append k (cells_with P w s) (cells_with P w t), t_copies k, plug-copies k b.ctx s b.first, before-copies k b.ctx (name_of s) (name_of b.end));
      }

      pub hung-alone : bottom.place ≡ None → HoldsOneLess P w mid node (length (cells P s ++ cells P t)) (cells_with P w s ++ cells_with P w t) rest
      hung-alone none =
          let root : b.ctx ≡ [] = no-grandparent b.ctx (b.place ∙ ap step_in none) in
          hung mid node (ap (λ ctx. name_of (plug ctx s)) root ∙ both.named)
          (subst (λ ctx. Holds (node_at mid) (cells_before P ctx (name_of s) ++ (cells_with P w s ++ (after_with P w ctx ++ rest)))) (sym root)
          (subst (λ ctx. Holds (node_at mid) (cells_before P ctx (name_of b.end) ++ (cells_with P w s ++ (after_with P w ctx ++ rest)))) root without_bottom))

      pub kept-alone : KeepsAllBut (cells_with P w s ++ cells_with P w t) old mid
      kept-alone k none =
          kept_root P w old mid b.end frees k
          (ap (copies k) (sym (childless-cells P w b.end b.childless)) ∙ omega (arith, none, copies-append k (cells_with P w s) (cells_with P w t), t_copies k))

      module _ (place : Name × ℕ) (is : bottom.place ≡ Some place) where
        abbrev above : HasGrandparent b.ctx (record { node = place.0; byte = place.1 })
        above = grandparent-of b.ctx (record { node = place.0; byte = place.1 }) (b.place ∙ ap step_in is)

        above_below : AreBelow above.frame.byte above.frame.before
        above_below = subst (AreBelow above.frame.byte) (sym (subst AreFirst above.is b.first).0) tt

        at_above : Holds (node_at mid) (cells_before P (above.frame ∷ above.above) (name_of b.end) ++ (cells_with P w s ++ (after_with P w (above.frame ∷ above.above) ++ rest)))
        at_above = subst (λ ctx. Holds (node_at mid) (cells_before P ctx (name_of b.end) ++ (cells_with P w s ++ (after_with P w ctx ++ rest)))) above.is without_bottom

        -- the parent is held, and has a child at the place
        abbrev pub above_node : InnerNode
        above_node = frame_node P above.frame (name_of b.end)

        node_above : node_at mid above.frame.name ≡ Some (branches above_node)
        node_above = frame-there P above.frame above.above (name_of b.end) (cells_with P w s ++ (after_with P w (above.frame ∷ above.above) ++ rest)) above_below (node_at mid) at_above

        pub above_there : held_at mid place.0 ≡ Some (inner_held above_node)
        above_there = inner_of (held_at mid place.0) above_node (ap (node_at mid) (sym above.named) ∙ node_above)

        pub above_child : IsSome (child_at above_node.children place.1)
        above_child =
            let e : child_at above_node.children above.frame.byte ≡ Some (name_of b.end) = frame-child P above.frame above.above (name_of b.end) (cells_with P w s ++ (after_with P w (above.frame ∷ above.above) ++ rest)) above_below (node_at mid) at_above in
            rw (ap (child_at above_node.children) (sym above.byte) ∙ e) refl

        pub above_inner : place.0.kind ≢ Leaf
        above_inner kind = no_inner mid place.0 above_node kind (ap (node_at mid) (sym above.named) ∙ node_above)

        module _ (new : Arena K V) (written : UpdatesAt (held_at mid) (held_at new) place.0 (Some (inner_held (with_children above_node (with_child above_node.children place.1 node))))) where
          pub hung-below : HoldsOneLess P w new below (length (cells P s ++ cells P t)) (cells_with P w s ++ cells_with P w t) rest
          hung-below =
              let f = above.frame in
              let update : UpdatesAt (node_at mid) (node_at new) f.name (Some (branches (with_children above_node (with_child above_node.children f.byte (name_of s))))) =
              subst (λ n. UpdatesAt (node_at mid) (node_at new) f.name (Some (branches (with_children above_node (with_child above_node.children f.byte n))))) (sym both.named)
              (subst (λ n. UpdatesAt (node_at mid) (node_at new) n (Some (branches (with_children above_node (with_child above_node.children f.byte node))))) (sym above.named)
              (subst (λ x. UpdatesAt (node_at mid) (node_at new) place.0 (Some (branches (with_children above_node (with_child above_node.children x node))))) (sym above.byte)
              (nodes-update mid new place.0 (Some (inner_held (with_children above_node (with_child above_node.children place.1 node)))) written))) in
              let there = repoint P f above.above (name_of b.end) (cells_with P w s ++ (after_with P w (f ∷ above.above) ++ rest)) above_below (node_at mid) at_above (node_at new) (name_of s) update in
              let named : name_of (plug b.ctx s) ≡ below =
              ap (λ ctx. name_of (plug ctx s)) above.is ∙ name_of-plug (f ∷ above.above) s ∙ sym (name_of-plug (f ∷ above.above) b.end) ∙ ap (λ ctx. name_of (plug ctx b.end)) (sym above.is) ∙ ap name_of (sym b.whole) ∙ both.named_other in
              hung new below named (subst (λ ctx. Holds (node_at new) (cells_before P ctx (name_of s) ++ (cells_with P w s ++ (after_with P w ctx ++ rest)))) (sym above.is) there)

          pub kept-below : KeepsAllBut (cells_with P w s ++ cells_with P w t) old new
          kept-below k none =
              let f = above.frame in
              let here : copies k (cells_before P b.ctx (name_of b.end)) ≡ 0 = omega (arith, none, copies-append k (cells_with P w s) (cells_with P w t), t_copies k) in
              let at_frame : copies k (cells_before P (f ∷ above.above) (name_of b.end)) ≡ 0 = subst (λ ctx. copies k (cells_before P ctx (name_of b.end)) ≡ 0) above.is here in
              let apart : k ≢ f.name = apart-from k f.name (frame_cell P f (name_of b.end)).1 (cells_in P f.before) (omega (arith, at_frame, copies-append k (cells_before P above.above f.name) (frame_cell P f (name_of b.end) ∷ cells_in P f.before))) in
              written.others k (λ e. apart (e ∙ sym above.named)) ∙ kept-alone k none
