-- What each step of a free leaves.
use Rattle.std.proofs.Common.{◌≡◌, ◌≢◌, ℕ, suc, ◌+◌, ◌<◌, Bool, List, [], ◌∷◌, ◌++◌, length, take, Option, Some, None, refl, sym, ap, subst, ◌∙◌, arith, append_assoc, length-append}
use Rattle.art_nodes.proofs.Common.{InnerNode, first_child, Name}
use Rattle.art_nodes.specs.declared.kind.NodeType.TheVariants.{Leaf}
use Rattle.art_arena.proofs.Common.{Arena, inner_held, held_at, node_at, Cell, branches, Holds, Frame, plug, cells_before, Shape, Branches, leaf_at, inner_at, no_branch, branch, name_of, children_at, cells, cells_in, steps_to, no_inner, inner_of, branch-first, Holds-turn}
use Rattle.art_operations.proofs.Terms.{cells_with, step_in, IsChildless, AreFirst, IsBottom, HoldsPart}
use Rattle.art_operations.specs.declared.deallocate.Bottom.{Bottom}
use Rattle.art_operations.proofs.Freeing.{after_with, with-plug}
use Rattle.art_operations.proofs.FreedSizes.{size_of, size-part}

module _ {K V : Type 0} (P : ℕ) (w : Bool) (arena : Arena K V) where
  -- the shape under the name of a leaf is a leaf, under another name an inner node, which is held
  pub part-leaf : (n : Name) (s : Shape K V) (rest : List (Name × Cell K V)) → HoldsPart P w arena n s rest → n.kind ≡ Leaf → (slot : ℕ) × (k : K) × (v : V) × (s ≡ leaf_at slot k v)
  part-leaf n (leaf_at slot k v) rest part kind = (slot, k, v, refl)
  part-leaf n (inner_at m prefix kids) rest part kind = absurd (no_inner arena m _ (ap (λ (x : Name). x.kind) part.named ∙ kind) part.holds.held.0)

  abbrev pub node_in : List ℕ → Branches K V → InnerNode
  node_in prefix kids = record { header = record { num_children = length (children_at kids); prefix_len = length prefix; stored = take P prefix }; children = children_at kids }

  pub record HasInnerPart (n : Name) (s : Shape K V) : Type 0 where
    pub prefix : List ℕ
    pub kids : Branches K V
    pub is : s ≡ inner_at n prefix kids
    pub there : held_at arena n ≡ Some (inner_held (node_in prefix kids))

  pub part-inner : (n : Name) (s : Shape K V) (rest : List (Name × Cell K V)) → HoldsPart P w arena n s rest → n.kind ≢ Leaf → HasInnerPart n s
  part-inner n (leaf_at slot k v) rest part other = absurd (other (ap (λ (x : Name). x.kind) (sym part.named)))
  part-inner n (inner_at m prefix kids) rest part other = record {
    prefix = prefix;
    kids = kids;
    is = ap (λ x. inner_at x prefix kids) part.named;
    there = inner_of (held_at arena n) (node_in prefix kids) (subst (λ x. node_at arena x ≡ Some (branches (node_in prefix kids))) part.named part.holds.held.0);
  }

  -- the walk down to the first childless node: it has come to this part

  pub record OnFirst (s : Shape K V) (rest : List (Name × Cell K V)) (node : Name) (place : Option (Name × ℕ)) : Type 0 where
    pub ctx : List (Frame K V)
    pub part : Shape K V
    pub whole : s ≡ plug ctx part
    pub first : AreFirst ctx
    pub holds : HoldsPart P w arena node part (cells_before P ctx (name_of part) ++ (after_with P w ctx ++ rest))
    pub place_is : take 1 (steps_to ctx) ≡ step_in place

  -- a part of a shape, the rest of the shape beside it
  pub part-there : (ctx : List (Frame K V)) (part : Shape K V) (rest : List (Name × Cell K V)) → AreFirst ctx → Holds (node_at arena) (cells_with P w (plug ctx part) ++ rest)
      → Holds (node_at arena) (cells_with P w part ++ (cells_before P ctx (name_of part) ++ (after_with P w ctx ++ rest)))
  part-there ctx part rest first holds =
      let parts : Holds (node_at arena) (cells_before P ctx (name_of part) ++ (cells_with P w part ++ (after_with P w ctx ++ rest))) =
      subst (Holds (node_at arena)) (ap (λ xs. xs ++ rest) (with-plug P w ctx part first)
      ∙ append_assoc (cells_before P ctx (name_of part)) (cells_with P w part ++ after_with P w ctx) rest
      ∙ ap (λ xs. cells_before P ctx (name_of part) ++ xs) (append_assoc (cells_with P w part) (after_with P w ctx) rest)) holds in
      Holds-turn (node_at arena) [] (cells_before P ctx (name_of part)) (cells_with P w part) (after_with P w ctx ++ rest) parts

  pub whole-there : (ctx : List (Frame K V)) (part : Shape K V) (rest : List (Name × Cell K V)) → AreFirst ctx
      → Holds (node_at arena) (cells_with P w part ++ (cells_before P ctx (name_of part) ++ (after_with P w ctx ++ rest))) → Holds (node_at arena) (cells_with P w (plug ctx part) ++ rest)
  whole-there ctx part rest first holds =
      subst (Holds (node_at arena)) (sym (ap (λ xs. xs ++ rest) (with-plug P w ctx part first)
      ∙ append_assoc (cells_before P ctx (name_of part)) (cells_with P w part ++ after_with P w ctx) rest
      ∙ ap (λ xs. cells_before P ctx (name_of part) ++ xs) (append_assoc (cells_with P w part) (after_with P w ctx) rest)))
      (Holds-turn (node_at arena) [] (cells_with P w part) (cells_before P ctx (name_of part)) (after_with P w ctx ++ rest) holds)

  -- from an inner node to its first child
  pub record FirstStep (s : Shape K V) (rest : List (Name × Cell K V)) (n : Name) (place : Option (Name × ℕ)) : Type 0 where
    pub node : InnerNode
    pub there : held_at arena n ≡ Some (inner_held node)
    pub goes_on : (c : ℕ × Name) → first_child node.children ≡ Some c → OnFirst s rest c.1 (Some (n, c.0)) × (size_of arena c.1 < size_of arena n)
    pub ends : first_child node.children ≡ None → (b : Bottom) → b.node ≡ n → b.place ≡ place → IsBottom s b

  pub first-step : (s : Shape K V) (rest : List (Name × Cell K V)) (n : Name) (place : Option (Name × ℕ)) → OnFirst s rest n place → n.kind ≢ Leaf → FirstStep s rest n place
  first-step s rest n place on other = at_inner (part-inner n on.part _ on.holds other)
    where
      at_inner : HasInnerPart n on.part → FirstStep s rest n place
      at_inner inner = record {
        node = node_in inner.prefix inner.kids;
        there = inner.there;
        goes_on = λ c found.
            let b = branch-first inner.kids c found in
            let is : on.part ≡ inner_at n inner.prefix (branch c.0 b.0 b.1) = inner.is ∙ ap (inner_at n inner.prefix) b.2 in
            let f : Frame K V = record { name = n; prefix = inner.prefix; before = no_branch; byte = c.0; after = b.1 } in
            let whole : s ≡ plug (f ∷ on.ctx) b.0 = on.whole ∙ ap (plug on.ctx) is in
            let at_part : Holds (node_at arena) (cells_with P w s ++ rest) = subst (λ t. Holds (node_at arena) (cells_with P w t ++ rest)) (sym on.whole) (whole-there on.ctx on.part rest on.first on.holds.holds) in
            let below : HoldsPart P w arena c.1 b.0 (cells_before P (f ∷ on.ctx) (name_of b.0) ++ (after_with P w (f ∷ on.ctx) ++ rest)) =
            record { named = b.3; holds = part-there (f ∷ on.ctx) b.0 rest (refl, on.first) (subst (λ t. Holds (node_at arena) (cells_with P w t ++ rest)) whole at_part) } in (
              record { ctx = f ∷ on.ctx; part = b.0; whole = whole; first = (refl, on.first); holds = below; place_is = refl },
              (
                  let size : length (cells P on.part) ≡ suc (length (cells P b.0) + length (cells_in P b.1)) = ap (λ t. length (cells P t)) is ∙ ap suc (length-append (cells P b.0) (cells_in P b.1)) in
                  omega (arith, size, size-part P w arena n on.part _ on.holds, size-part P w arena c.1 b.0 _ below)
                  ),
            );
        ends = λ none b node place.
            record {
              ctx = on.ctx;
              end = on.part;
              whole = on.whole;
              first = on.first;
              childless = childless-kids inner.kids inner.prefix none inner.is;
              named = on.holds.named ∙ sym node;
              place = on.place_is ∙ ap step_in (sym place);
            };
      }
        where
          childless-kids : (kids : Branches K V) (prefix : List ℕ) → first_child (children_at kids) ≡ None → on.part ≡ inner_at n prefix kids → IsChildless on.part
          childless-kids no_branch prefix none is = subst IsChildless (sym is) tt
          childless-kids (branch b t more) prefix none is = absurd (cc)
