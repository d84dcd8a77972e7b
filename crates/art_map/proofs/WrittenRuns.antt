-- The leaves of a map and a run of them, once the value of a leaf is written.
use Rattle.std.proofs.Common.{◌≡◌, ℕ, ◌≤◌, List, [], ◌∷◌, ◌++◌, Option, Some, None, refl, sym, ap, subst, ◌∙◌, append_assoc}
use Rattle.std.proofs.Math.Logic.{∥∥₁_map}
use Rattle.art_nodes.proofs.Common.{Name}
use Rattle.art_arena.proofs.Common.{node_at, links_at, with_leaf_value, first_slot, times, LeafAt, leaves, last_slot-append, tree-list}
use Rattle.art_arena.specs.declared.ends.End.{End}
use Rattle.art_arena.specs.declared.ends.End.TheVariants.{First, Last}
use Rattle.art_operations.proofs.Common.{HasLeaves, IsAmong, IsAtEnd, leaf-held, written}
use Rattle.art_walks.proofs.Common.{Ends, HasEnds}
use Rattle.art_map.proofs.Terms.{Contents, AreLeaves, IsRun, slot_at, with_end, with_lent_value, with_value_at, run-end, slot-end}
use Rattle.art_map.proofs.AtEnds.{none-at-end, same-end}
use Rattle.art_map.proofs.LookedUp.{same-place}
use Rattle.art_map.proofs.MapLeaves.{map-leaves}

module _ {K V : Type 0} (bytes : K → List ℕ) (P : ℕ) (m : Contents K V) where
  -- the leaves of the map, one of which has another value
  pub written-leaves : (slot : ℕ) (ls : List (LeafAt K V)) → AreLeaves bytes P m ls → (there : IsAmong slot ls) → (w : V)
      → AreLeaves bytes P (with_value_at m slot w) (there.front ++ record { slot = slot; key = there.leaf.key; value = w } ∷ there.back)
  written-leaves slot ls are there w = map-leaves bytes P (with_leaf_value m.nodes slot w) m.root _ (go m.root are.has)
    where
      some : (front : List (LeafAt K V)) → [] ≡ front ++ there.leaf ∷ there.back → ⊥
      some [] e = absurd (cc)
      some (f ∷ front) e = absurd (cc)

      go : (root : Option Name) → HasLeaves bytes P m.nodes root ls → HasLeaves bytes P (with_leaf_value m.nodes slot w) root (there.front ++ record { slot = slot; key = there.leaf.key; value = w } ∷ there.back)
      go None has = absurd (some there.front (sym has.0 ∙ there.is))
      go (Some top) (s, tree, e) =
          let at : IsAmong slot (leaves s) = record { front = there.front; leaf = there.leaf; back = there.back; is = e ∙ there.is; slot_is = there.slot_is } in
          let is = written bytes P m.nodes top s tree slot (leaf-held bytes P m.nodes top s tree slot at) w in
          let once : times there.leaf.slot (there.front ++ there.leaf ∷ there.back) ≤ 1 = subst (λ xs. times there.leaf.slot xs ≤ 1) at.is ((tree-list bytes P (node_at m.nodes) top (links_at m.nodes) s tree).once there.leaf.slot) in
          let same = same-place there.front there.leaf there.back is.front (record { slot = slot; key = is.key; value = is.value }) is.back (sym at.is ∙ is.had) there.slot_is once in
          let key : there.leaf.key ≡ is.key = ap (λ (l : LeafAt K V). l.key) same.1 in
          (is.shape, is.is_tree, is.has ∙ sym (rebuilt there.front is.front there.leaf.key is.key there.back is.back same.0 key same.2))
        where
          rebuilt : (f g : List (LeafAt K V)) (k l : K) (b c : List (LeafAt K V)) → f ≡ g → k ≡ l → b ≡ c
              → f ++ record { slot = slot; key = k; value = w } ∷ b ≡ g ++ record { slot = slot; key = l; value = w } ∷ c
          rebuilt f g k l b c x y z = rw (x, y, z) refl

  -- a leaf at an end of a run stands in front of the others, or after them
  pub with-leaf : (end : End) (front : List (LeafAt K V)) (l : LeafAt K V) (ys zs back : List (LeafAt K V)) → IsAtEnd end l ys zs → front ++ (zs ++ back) ≡ with_end bytes P m end front l ys back
  with-leaf First front l ys zs back e = ap (λ xs. front ++ (xs ++ back)) e
  with-leaf Last front l ys zs back e = ap (λ xs. front ++ (xs ++ back)) e ∙ ap (λ xs. front ++ xs) (append_assoc ys (l ∷ []) back)

  -- a run, where the leaf at an end of it has another value
  pub record WrittenRun (end : End) (ends : Ends) (run : List (LeafAt K V)) (w : V) (slot : Option ℕ) : Type 0 where
    pub now : IsRun bytes P (with_lent_value m slot w) ends
    pub same : (l : LeafAt K V) (ys : List (LeafAt K V)) → IsAtEnd end l ys run → IsAtEnd end (record { slot = l.slot; key = l.key; value = w }) ys now.run

  module _ (a b : ℕ) (w : V) (r : IsRun bytes P m (Some (a, b))) (l : LeafAt K V) (ys : List (LeafAt K V)) where
    abbrev new : LeafAt K V
    new = record { slot = l.slot; key = l.key; value = w }

    at-new : (end : End) → IsAtEnd end l ys r.run → (k : LeafAt K V) (zs : List (LeafAt K V)) → IsAtEnd end k zs r.run → (now : List (LeafAt K V)) → IsAtEnd end new ys now → IsAtEnd end (record { slot = k.slot; key = k.key; value = w }) zs now
    at-new end is k zs at now e = let same = same-end end l k ys zs r.run is at in rw (← same.0, ← same.1) e

    of-end : (end : End) → IsAtEnd end l ys r.run → WrittenRun end (Some (a, b)) r.run w (Some l.slot)
    of-end First is = record {
      now = record {
        front = r.front;
        run = new ∷ ys;
        back = r.back;
        leaves = written-leaves l.slot _ r.leaves (record { front = r.front; leaf = l; back = ys ++ r.back; is = with-leaf First r.front l ys r.run r.back is; slot_is = refl }) w;
        ends_are = subst (λ xs. HasEnds xs (Some (a, b))) is r.ends_are;
      };
      same = λ k zs at. at-new First is k zs at (new ∷ ys) refl;
    }
    of-end Last is =
        let parts = with-leaf Last r.front l ys r.run r.back is ∙ sym (append_assoc r.front ys (l ∷ r.back)) in
        let again = append_assoc r.front ys (new ∷ r.back) ∙ sym (with-leaf Last r.front new ys (ys ++ new ∷ []) r.back refl) in
        let has = subst (λ xs. HasEnds xs (Some (a, b))) is r.ends_are in
        record {
          now = record {
            front = r.front;
            run = ys ++ new ∷ [];
            back = r.back;
            leaves = subst (AreLeaves bytes P (with_value_at m l.slot w)) again (written-leaves l.slot _ r.leaves (record { front = r.front ++ ys; leaf = l; back = r.back; is = parts; slot_is = refl }) w);
            ends_are = (starts ys has.0, last_slot-append None ys (new ∷ []) ∙ sym (last_slot-append None ys (l ∷ [])) ∙ has.1);
          };
          same = λ k zs at. at-new Last is k zs at (ys ++ new ∷ []) refl;
        }
      where
        starts : (ys : List (LeafAt K V)) → first_slot (ys ++ l ∷ []) None ≡ Some a → first_slot (ys ++ new ∷ []) None ≡ Some a
        starts [] e = e
        starts (y ∷ ys) e = e

  -- so has any run that is written at an end
  pub written-run : (end : End) (ends : Ends) (r : IsRun bytes P m ends) (w : V) → WrittenRun end ends r.run w (slot_at end ends)
  written-run First None r w = record { now = r; same = λ l ys at. absurd (none-at-end First l ys (subst (IsAtEnd First l ys) r.ends_are at)) }
  written-run Last None r w = record { now = r; same = λ l ys at. absurd (none-at-end Last l ys (subst (IsAtEnd Last l ys) r.ends_are at)) }
  written-run end (Some (a, b)) r w =
      let at = run-end end a b r.run r.ends_are in
      subst (WrittenRun end (Some (a, b)) r.run w) (sym (slot-end end a b r.run r.ends_are at.item at.rest at.is)) (of-end a b w r at.item at.rest end at.is)

  pub still-run : (end : End) (ends : Ends) → ∥ IsRun bytes P m ends ∥₁ → (w : V) → ∥ IsRun bytes P (with_lent_value m (slot_at end ends) w) ends ∥₁
  still-run end ends some w = ∥∥₁_map some (λ r. (written-run end ends r w).now)
