-- A part that stands apart leaves the list, and then the arena.
use Rattle.std.proofs.Common.{◌≡◌, ℕ, cond, List, [], ◌∷◌, ◌++◌, Option, Some, None, refl, sym, ap, ap₂, subst, ◌∙◌, arith}
use Rattle.art_nodes.proofs.Common.{Name}
use Rattle.art_nodes.specs.declared.leaf.LeafNode.{LeafNode}
use Rattle.art_arena.proofs.Common.{Arena, leaf_held, cell_of, links_of, held_at, node_at, links_at, KeepsNodes, SameCells, Cell, pair, leaf_name, copies, AreHeld, Holds, UpdatesAt, Frame, leaves_before, leaves_after, AreLinked, times, IsList, KeepsLinksOutside, IsTreeBeside, IsPlace}
use Rattle.art_arena.proofs.Common.{Shape, leaf_at, LeafAt, name_of, leaves, cells, Step, keeps-beside, Holds-remove, Holds-same, Holds-swap, Holds-turn, holds-only, same_name-self, leaves-plug, times-append, AreLinked-kept, AreLinked-same, all_left, all_right, HoldsPair, holds_pair}
use Rattle.art_arena.proofs.Common.{tree-list, times-leaves, nodes-update}
use Rattle.art_operations.proofs.Terms.{HasLeavesBeside, IsDeletedBeside, IsLeafPlace, HoldsBeside, KeepsAllBut, IsPartPlace, IsDetached}

module _ {K V : Type 0} (bytes : K → List ℕ) (P : ℕ) (mid : Arena K V) (rest : List (Name × Cell K V)) (ctx : List (Frame K V)) (part : Shape K V) where
  -- the cells beside those of the part
  abbrev pub beside_part : (left : Option Name) → IsDetached bytes P mid rest ctx part left → List (Name × Cell K V)
  beside_part None apart = rest
  beside_part (Some root) apart = cells P apart.remains ++ rest

  -- the arena still holds the part when links alone have changed
  pub part_beside : (unlinked : Arena K V) → SameCells mid unlinked → (left : Option Name) (apart : IsDetached bytes P mid rest ctx part left) → HoldsBeside P unlinked (name_of part) part (beside_part left apart)
  part_beside unlinked same None apart = record { named = refl; holds = Holds-same (node_at mid) (node_at unlinked) same (cells P part ++ rest) apart.1 }
  part_beside unlinked same (Some root) apart = record {
    named = refl;
    holds = Holds-turn (node_at unlinked) [] (cells P apart.remains) (cells P part) rest (Holds-same (node_at mid) (node_at unlinked) same (cells P apart.remains ++ (cells P part ++ rest)) apart.holds);
  }

  module _ (old : Arena K V) (root : Name) (s : Shape K V) (tree : IsTreeBeside bytes P (node_at old) root (links_at old) rest s) (place : IsPlace bytes s ctx part) (kept : (slot : ℕ) → links_at mid slot ≡ links_at old slot) where
    -- its leaves and the others are the leaves of the tree
    pub all_are : leaves s ≡ leaves_before ctx ++ (leaves part ++ leaves_after ctx)
    all_are = ap leaves place.is ∙ leaves-plug ctx part

    -- they are still linked
    pub still_listed : IsList (links_at mid) (leaves_before ctx ++ (leaves part ++ leaves_after ctx))
    still_listed =
        let list = tree-list bytes P (node_at old) root (links_at old) s tree in
        subst (IsList (links_at mid)) all_are (record { linked = AreLinked-same (links_at old) (links_at mid) kept None (leaves s) None list.linked; once = list.once })

    module _ (unlinked new : Arena K V) (gone : KeepsAllBut (cells P part) unlinked new) where
      -- leaves that aren't in the part keep their links when it is freed
      links_stay : (n : ℕ) → times n (leaves part) ≡ 0 → links_at new n ≡ links_at unlinked n
      links_stay n none = ap links_of (gone (leaf_name n) (sym (times-leaves bytes P n _ part place.under) ∙ none))

      still_linked : AreLinked (links_at unlinked) None (leaves_before ctx ++ leaves_after ctx) None → AreLinked (links_at new) None (leaves_before ctx ++ leaves_after ctx) None
      still_linked linked =
          AreLinked-kept (links_at unlinked) (links_at new) None (leaves_before ctx ++ leaves_after ctx) None
          (λ n among.
          let once = still_listed.once n in
          links_stay n (omega (arith, among, once, times-append n (leaves_before ctx) (leaves part ++ leaves_after ctx), times-append n (leaves part) (leaves_after ctx), times-append n (leaves_before ctx) (leaves_after ctx))))
          linked

      -- the arena holds the other leaves beside what stood beside the tree
      pub others_left : (left : Option Name) (apart : IsDetached bytes P mid rest ctx part left) → AreLinked (links_at unlinked) None (leaves_before ctx ++ leaves_after ctx) None → Holds (node_at new) (beside_part left apart)
          → HasLeavesBeside bytes P new left (leaves_before ctx ++ leaves_after ctx) rest
      others_left None apart linked freed = (ap (λ c. leaves_before c ++ leaves_after c) apart.0, holds-only (node_at new) rest freed)
      others_left (Some top) apart linked freed = (
        apart.remains,
        record {
          nodes = record { named = apart.named; holds = Holds-swap (node_at new) (cells P apart.remains) rest freed; under = apart.under };
          linked = subst (λ ls. AreLinked (links_at new) None ls None) (sym apart.left) (still_linked linked);
        },
        apart.left,
      )

      -- and that is as it was
      still_beside : (left : Option Name) (apart : IsDetached bytes P mid rest ctx part left) → Holds (node_at new) (beside_part left apart) → AreHeld (node_at new) rest
      still_beside None apart freed = freed.held
      still_beside (Some top) apart freed = all_right (λ (c : Name × Cell K V). node_at new c.0 ≡ Some c.1) (cells P apart.remains) rest freed.held

      pub kept_beside : (left : Option Name) (apart : IsDetached bytes P mid rest ctx part left) → Holds (node_at new) (beside_part left apart)
          → KeepsLinksOutside (links_at mid) (links_at unlinked) (leaves_before ctx ++ (leaves part ++ leaves_after ctx)) → KeepsNodes rest old new
      kept_beside left apart freed outside =
          keeps-beside bytes P old new (node_at old) rest s (all_left (λ (c : Name × Cell K V). node_at old c.0 ≡ Some c.1) rest (cells P s) tree.nodes.holds.held) (still_beside left apart freed) tree.nodes.holds tree.nodes.under links
        where
          links : KeepsLinksOutside (links_at old) (links_at new) (leaves s)
          links n none =
              let absent = subst (λ ls. times n ls ≡ 0) all_are none in
              links_stay n (omega (arith, absent, times-append n (leaves_before ctx) (leaves part ++ leaves_after ctx), times-append n (leaves part) (leaves_after ctx)))
              ∙ outside n absent
              ∙ kept n

-- where the part is one leaf
module _ {K V : Type 0} (bytes : K → List ℕ) (s : Shape K V) (slot : ℕ) (last : List Step) where
  -- a leaf's place is that of a part
  abbrev pub part_place : (name : Name) → name ≡ leaf_name slot → IsLeafPlace bytes s slot last → IsPartPlace bytes s name last
  part_place name is place = record { ctx = place.ctx; part = leaf_at slot place.key place.value; place = place.place; here = sym is; steps = place.steps }

module _ {K V : Type 0} (bytes : K → List ℕ) (P : ℕ) (mid unlinked : Arena K V) (rest : List (Name × Cell K V)) (ctx : List (Frame K V)) (slot : ℕ) (key : K) (value : V) (same : SameCells mid unlinked)
    (left : Option Name) (apart : IsDetached bytes P mid rest ctx (leaf_at slot key value) left) where
  there : node_at unlinked (leaf_name slot) ≡ Some (pair key value)
  there = (part_beside bytes P mid rest ctx (leaf_at slot key value) unlinked same left apart).holds.held.0

  -- it is still there
  pub held_leaf : HoldsPair (held_at unlinked (leaf_name slot)) key value
  held_leaf = holds_pair (held_at unlinked (leaf_name slot)) key value there

  module _ (new : Arena K V) (node : LeafNode K V) (taken : held_at unlinked (leaf_name slot) ≡ Some (leaf_held node)) (gone : UpdatesAt (held_at unlinked) (held_at new) (leaf_name slot) None) where
    -- and freed when it is taken out
    pub leaf_freed : Holds (node_at new) (beside_part bytes P mid rest ctx (leaf_at slot key value) left apart)
    leaf_freed =
        Holds-remove (node_at unlinked) (node_at new) (leaf_name slot) (pair key value) [] (beside_part bytes P mid rest ctx (leaf_at slot key value) left apart)
        (nodes-update unlinked new (leaf_name slot) None gone) (part_beside bytes P mid rest ctx (leaf_at slot key value) unlinked same left apart).holds

    pub leaf_gone : KeepsAllBut (cells P (leaf_at slot key value)) unlinked new
    leaf_gone n none = gone.others n (λ e.
        let met = ap {B = ℕ} (λ b. cond b 1 0) (same_name-self (leaf_name slot)) in
        let absent = subst (λ m. copies m (cells P (leaf_at slot key value)) ≡ 0) e none in
        absurd (omega (arith, met, absent)))

    same_pair : pair key value ≡ pair node.key node.value
    same_pair =
        let e : ◌≡◌ {A = Option (Cell K V)} (Some (pair key value)) (Some (pair node.key node.value)) = sym there ∙ ap cell_of taken in
        cc

    -- what was taken out is the leaf
    pub same_leaf : ◌≡◌ {A = LeafAt K V} (record { slot = slot; key = key; value = value }) (record { slot = slot; key = node.key; value = node.value })
    same_leaf =
        let e = same_pair in
        let same_key : key ≡ node.key = cc in
        let same_value : value ≡ node.value = cc in
        ap₂ (λ k v. record { slot = slot; key = k; value = v }) same_key same_value

    -- and the answer has it
    pub deleted : (s : Shape K V) → leaves s ≡ leaves_before ctx ++ record { slot = slot; key = key; value = value } ∷ leaves_after ctx → HasLeavesBeside bytes P new left (leaves_before ctx ++ leaves_after ctx) rest
        → IsDeletedBeside bytes P new rest s slot (record { new_root = left; deleted_leaf = node })
    deleted s all others = record {
      front = leaves_before ctx;
      back = leaves_after ctx;
      was = all ∙ ap (λ l. leaves_before ctx ++ l ∷ leaves_after ctx) same_leaf;
      left = others;
    }
