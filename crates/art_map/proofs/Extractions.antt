-- The run of an extraction: what it has left, and what a step at either end leaves of it.
use Rattle.std.proofs.Common.{◌≡◌, ℕ, ◌<◌, List, [], ◌∷◌, ◌++◌, length, Option, Some, None, Result, Ok, Err, OnOk, OnErr, refl, sym, ap, ap₂, subst, ◌∙◌, append_assoc, arith}
use Rattle.std.proofs.lemmas.List.{append-nil}
use Rattle.std.proofs.Math.Logic.{∥∥₁_elim, ∥∥₁_map}
use Rattle.std.specs.Prelude.{MatchOption, option_map}
use Rattle.art_nodes.proofs.Common.{Name}
use Rattle.art_arena.proofs.Common.{node_at, links_at, Cell, pair, branches, leaf_name, IsList, LeafAt, pairs_of, nodes-part, leaves_are_held, tree-list, all_left, all_right}
use Rattle.art_arena.specs.declared.ends.End.{End}
use Rattle.art_arena.specs.declared.ends.End.TheVariants.{First, Last}
use Rattle.art_operations.proofs.Common.{HasLeaves, IsAmong, IsAtEnd, leaf_pair}
use Rattle.art_walks.proofs.Common.{Ends, HasEnds, IsWalk, AreStored, pairs_left, run-pairs}
use Rattle.art_walks.proofs.Counted.{EndsWalk}
use Rattle.art_map.proofs.Terms.{Contents, first_item, last_item, HasPairAt, AreLeaves, IsRun, IsNextAt, slot_at, with_end, with_lent_value, with_value_at, at-end, run-end, slot-end, stored-end, AtEnd}
use Rattle.art_map.proofs.AtEnds.{none-at-end, pairs-end, same-end}
use Rattle.art_map.proofs.Written.{same-pair-at}
use Rattle.art_map.proofs.WrittenRuns.{WrittenRun, still-run, with-leaf, written-run}

module _ {K V : Type 0} where
  end-prop : IsSet (List (K × V)) → (end : End) (p : K × V) (ps qs : List (K × V)) → IsProp (IsAtEnd end p ps qs)
  end-prop sets First p ps qs = sets qs (p ∷ ps)
  end-prop sets Last p ps qs = sets qs (ps ++ p ∷ [])

  -- where a leaf is known to have some pair, its pair is the one
  the-pair : (m : Contents K V) (slot : ℕ) (Q : K × V → Type 0) → ((p : K × V) → IsProp (Q p)) → ∥ ((p : K × V) × HasPairAt m slot p × Q p) ∥₁ → (p : K × V) × HasPairAt m slot p × Q p
  the-pair m slot Q prop some = here (node_at m.nodes (leaf_name slot)) refl
    where
      other : (o : Option (Cell K V)) → node_at m.nodes (leaf_name slot) ≡ o → ((k : K) (v : V) → o ≡ Some (pair k v) → ⊥) → ⊥
      other o e differs = ∥∥₁_elim some (λ x y. absurd x) (λ it. differs it.0.0 it.0.1 (sym e ∙ it.1))

      here : (o : Option (Cell K V)) → node_at m.nodes (leaf_name slot) ≡ o → (p : K × V) × HasPairAt m slot p × Q p
      here None e = absurd (other None e (λ k v f. absurd (cc)))
      here (Some (branches node)) e = absurd (other (Some (branches node)) e (λ k v f. absurd (cc)))
      here (Some (pair k v)) e = (
        (k, v),
        e,
        ∥∥₁_elim some (prop (k, v)) (λ it.
            let same = sym it.1 ∙ e in
            let one : it.0.0 ≡ k = cc in
            let two : it.0.1 ≡ v = cc in
            subst Q (ap₂ (λ a b. (a, b)) one two) it.2),
      )

module _ {K V : Type 0} (bytes : K → List ℕ) (P : ℕ) where
  module _ (m : Contents K V) where
    leaves-list : (ls : List (LeafAt K V)) → AreLeaves bytes P m ls → IsList (links_at m.nodes) ls
    leaves-list ls are = go m.root are.has
      where
        go : (root : Option Name) → HasLeaves bytes P m.nodes root ls → IsList (links_at m.nodes) ls
        go None has = subst (IsList (links_at m.nodes)) (sym has.0) (record { linked = tt; once = λ n. omega arith })
        go (Some top) (s, tree, e) = subst (IsList (links_at m.nodes)) e (tree-list bytes P (node_at m.nodes) top (links_at m.nodes) s tree)

    leaves-stored : (ls : List (LeafAt K V)) → AreLeaves bytes P m ls → AreStored m.nodes ls
    leaves-stored ls are = go m.root are.has
      where
        go : (root : Option Name) → HasLeaves bytes P m.nodes root ls → AreStored m.nodes ls
        go None has = subst (AreStored m.nodes) (sym has.0) tt
        go (Some top) (s, tree, e) = subst (AreStored m.nodes) e (leaves_are_held bytes P m.nodes s (nodes-part bytes P (node_at m.nodes) top s tree.nodes).held)

    module _ (ends : Ends) where
      run-walk : (r : IsRun bytes P m ends) → IsWalk (links_at m.nodes) ends r.run
      run-walk r = record { xs = r.front; zs = r.back; list = leaves-list _ r.leaves; ends_are = r.ends_are }

      pub some-walk : ∥ IsRun bytes P m ends ∥₁ → ∥ ((ys : List (LeafAt K V)) × IsWalk (links_at m.nodes) ends ys) ∥₁
      some-walk some = ∥∥₁_map some (λ r. (r.run, run-walk r))

      run-stored : (r : IsRun bytes P m ends) → AreStored m.nodes r.run
      run-stored r =
          let held = λ (l : LeafAt K V). node_at m.nodes (leaf_name l.slot) ≡ Some (pair l.key l.value) in
          all_left held r.run r.back (all_right held r.front (r.run ++ r.back) (leaves-stored _ r.leaves))

      -- the pairs that are left are those of the run
      run-left : (r : IsRun bytes P m ends) → pairs_left m.nodes ends ≡ pairs_of r.run
      run-left r = run-pairs m.nodes ends (length r.run) (record { leaves = r.run; walk = run-walk r; stored = run-stored r; len_is = refl })

    -- after a step the leaves between the ends are a run
    run-later : (end : End) (slot : ℕ) (ends : Ends) → (s : IsNextAt bytes P m end slot ends) → IsRun bytes P m ends
    run-later First slot ends s = record {
      front = s.front ++ s.leaf ∷ [];
      run = s.run;
      back = s.back;
      leaves = subst (AreLeaves bytes P m) (sym (append_assoc s.front (s.leaf ∷ []) (s.run ++ s.back))) s.leaves;
      ends_are = s.ends_are;
    }
    run-later Last slot ends s = record { front = s.front; run = s.run; back = s.leaf ∷ s.back; leaves = s.leaves; ends_are = s.ends_are }

    run-is : (end : End) (slot : ℕ) (ends : Ends) (s : IsNextAt bytes P m end slot ends) → (run-later end slot ends s).run ≡ s.run
    unfolding run-later
    run-is First slot ends s = refl
    run-is Last slot ends s = refl

    pub later-some : (end : End) (slot : ℕ) (ends : Ends) → ∥ IsNextAt bytes P m end slot ends ∥₁ → ∥ IsRun bytes P m ends ∥₁
    later-some end slot ends some = ∥∥₁_map some (run-later end slot ends)

    step-left : (end : End) (slot : ℕ) (ends : Ends) (s : IsNextAt bytes P m end slot ends) → pairs_left m.nodes ends ≡ pairs_of s.run
    step-left end slot ends s = run-left ends (run-later end slot ends s) ∙ ap pairs_of (run-is end slot ends s)

    -- a step at an end
    module _ (end : End) (old new : Ends) (result : Option ℕ)
        (next : (l : LeafAt K V) (ys zs : List (LeafAt K V)) → IsAtEnd end l ys zs → IsWalk (links_at m.nodes) old zs → (result ≡ Some l.slot) × IsWalk (links_at m.nodes) new ys) where
      stepped : (r : IsRun bytes P m old) → (at : AtEnd end r.run) → (slot : ℕ) → result ≡ Some slot → IsNextAt bytes P m end slot new
      stepped r at slot e =
          let it = next at.item at.rest r.run at.is (run-walk old r) in
          let f = sym it.0 ∙ e in
          record {
            front = r.front;
            leaf = at.item;
            run = at.rest;
            back = r.back;
            leaves = subst (AreLeaves bytes P m) (with-leaf bytes P m end r.front at.item at.rest r.run r.back at.is) r.leaves;
            slot_is = (cc);
            ends_are = it.1.ends_are;
          }

      the-end : (r : IsRun bytes P m old) → 0 < length (pairs_left m.nodes old) → AtEnd end r.run
      the-end r low = go r.run (run-left old r)
        where
          go : (ys : List (LeafAt K V)) → pairs_left m.nodes old ≡ pairs_of ys → AtEnd end ys
          go [] e = let f = ap length e in absurd (omega (arith, low, f))
          go (y ∷ ys) e = at-end end y ys

      -- one is left, so a leaf is answered
      pub not-none : ∥ IsRun bytes P m old ∥₁ → 0 < length (pairs_left m.nodes old) → result ≡ None → ⊥
      not-none some low none = ∥∥₁_elim some (λ x y. absurd x) (λ r.
          let at = the-end r low in
          let e = sym (next at.item at.rest r.run at.is (run-walk old r)).0 ∙ none in
          absurd (cc))

      pub run-again : ∥ IsRun bytes P m old ∥₁ → 0 < length (pairs_left m.nodes old) → ∥ IsRun bytes P m new ∥₁
      run-again some low = ∥∥₁_map some (λ r.
          let at = the-end r low in
          run-later end at.item.slot new (stepped r at at.item.slot (next at.item at.rest r.run at.is (run-walk old r)).0))

      pub some-step : ∥ IsRun bytes P m old ∥₁ → 0 < length (pairs_left m.nodes old) → (slot : ℕ) → result ≡ Some slot → ∥ IsNextAt bytes P m end slot new ∥₁
      some-step some low slot e = ∥∥₁_map some (λ r. stepped r (the-end r low) slot e)

      taken-at : (r : IsRun bytes P m old) (at : AtEnd end r.run) (slot : ℕ) → result ≡ Some slot → (p : K × V) × HasPairAt m slot p × IsAtEnd end p (pairs_left m.nodes new) (pairs_left m.nodes old)
      unfolding stepped
      taken-at r at slot e =
          let s = stepped r at slot e in
          let it = next at.item at.rest r.run at.is (run-walk old r) in
          let f = sym it.0 ∙ e in
          let same : at.item.slot ≡ slot = cc in (
            leaf_pair at.item,
            subst (λ n. node_at m.nodes (leaf_name n) ≡ Some (pair at.item.key at.item.value)) same (stored-end m end at.item at.rest r.run at.is (run-stored old r)).0,
            ends-at end at.item at.rest r.run at.is (run-left old r) (step-left end slot new s),
          )
        where
          ends-at : (end : End) (l : LeafAt K V) (ys zs : List (LeafAt K V)) → IsAtEnd end l ys zs → pairs_left m.nodes old ≡ pairs_of zs → pairs_left m.nodes new ≡ pairs_of ys
              → IsAtEnd end (leaf_pair l) (pairs_left m.nodes new) (pairs_left m.nodes old)
          ends-at end l ys zs is e f = rw (e, f) (pairs-end end l ys zs is)

      -- the pair of the leaf is at the end, and the others are left
      pub pair-taken : IsSet (List (K × V)) → ∥ IsRun bytes P m old ∥₁ → 0 < length (pairs_left m.nodes old) → (slot : ℕ) → result ≡ Some slot
          → (p : K × V) × HasPairAt m slot p × IsAtEnd end p (pairs_left m.nodes new) (pairs_left m.nodes old)
      pair-taken sets some low slot e =
          the-pair m slot (λ p. IsAtEnd end p (pairs_left m.nodes new) (pairs_left m.nodes old)) (λ p. end-prop sets end p _ _)
          (∥∥₁_map some (λ r. taken-at r (the-end r low) slot e))

      -- where none is left, none is answered, and where a leaf is answered, one was left
      pub leaf-there : EndsWalk m.nodes old new result → IsSet (List (K × V)) → ∥ IsRun bytes P m old ∥₁
          → MatchOption result (pairs_left m.nodes old ≡ []) (λ slot. (p : K × V) × (rest : List (K × V)) × HasPairAt m slot p × IsAtEnd end p rest (pairs_left m.nodes old))
      leaf-there nowhere sets some = go result refl
        where
          empty-run : (r : IsRun bytes P m old) → result ≡ None → pairs_left m.nodes old ≡ []
          empty-run r none = here r.run refl
            where
              here : (ys : List (LeafAt K V)) → r.run ≡ ys → pairs_left m.nodes old ≡ []
              here [] f = run-left old r ∙ ap pairs_of f
              here (y ∷ ys) f =
                  let at = at-end end y ys in
                  let e = sym (next at.item at.rest (y ∷ ys) at.is (subst (IsWalk (links_at m.nodes) old) f (run-walk old r))).0 ∙ none in
                  absurd (cc)

          some-end : (slot : ℕ) → result ≡ Some slot → (r : IsRun bytes P m old) → AtEnd end r.run
          some-end slot e r = here old refl r.ends_are
            where
              here : (o : Ends) → old ≡ o → HasEnds r.run o → AtEnd end r.run
              here None none has = let g = sym e ∙ (nowhere none).0 in absurd (cc)
              here (Some (a, b)) some has = run-end end a b r.run has

          go : (o : Option ℕ) → result ≡ o
              → MatchOption o (pairs_left m.nodes old ≡ []) (λ slot. (p : K × V) × (rest : List (K × V)) × HasPairAt m slot p × IsAtEnd end p rest (pairs_left m.nodes old))
          go None e = ∥∥₁_elim some (sets _ _) (λ r. empty-run r e)
          go (Some slot) e =
              let it = the-pair m slot (λ p. IsAtEnd end p (pairs_left m.nodes new) (pairs_left m.nodes old)) (λ p. end-prop sets end p _ _) (∥∥₁_map some (λ r. taken-at r (some-end slot e r) slot e)) in
              (it.0, pairs_left m.nodes new, it.1, it.2)

  -- once the leaf is taken out of the map
  module _ (m n : Contents K V) (end : End) (slot : ℕ) (ends : Ends) where
    module _ (gone : (ls : List (LeafAt K V)) → AreLeaves bytes P m ls → (there : IsAmong slot ls) → AreLeaves bytes P n (there.front ++ there.back)) where
      run-after : (s : IsNextAt bytes P m end slot ends) → (r : IsRun bytes P n ends) × (r.run ≡ s.run)
      run-after s = go end s.leaves
        where
          go : (e : End) → AreLeaves bytes P m (with_end bytes P m e s.front s.leaf s.run s.back) → (r : IsRun bytes P n ends) × (r.run ≡ s.run)
          go First are = (
            record {
              front = s.front;
              run = s.run;
              back = s.back;
              leaves = gone _ are (record { front = s.front; leaf = s.leaf; back = s.run ++ s.back; is = refl; slot_is = s.slot_is });
              ends_are = s.ends_are;
            },
            refl,
          )
          go Last are = (
            record {
              front = s.front;
              run = s.run;
              back = s.back;
              leaves = subst (AreLeaves bytes P n) (append_assoc s.front s.run s.back)
                  (gone _ are (record { front = s.front ++ s.run; leaf = s.leaf; back = s.back; is = sym (append_assoc s.front s.run (s.leaf ∷ s.back)); slot_is = s.slot_is }));
              ends_are = s.ends_are;
            },
            refl,
          )

      pub after-some : ∥ IsNextAt bytes P m end slot ends ∥₁ → ∥ IsRun bytes P n ends ∥₁
      after-some some = ∥∥₁_map some (λ s. (run-after s).0)

      same-left : IsSet (List (K × V)) → ∥ IsNextAt bytes P m end slot ends ∥₁ → pairs_left n.nodes ends ≡ pairs_left m.nodes ends
      same-left sets some = ∥∥₁_elim some (sets _ _) (λ s.
          let r = run-after s in
          run-left n ends r.0 ∙ ap pairs_of r.1 ∙ sym (step-left m end slot ends s))

      -- the pair that is answered was at the end of those that were left
      pub left-taken : IsSet (List (K × V)) → ∥ IsNextAt bytes P m end slot ends ∥₁ → (was : List (K × V)) → ((p : K × V) × HasPairAt m slot p × IsAtEnd end p (pairs_left m.nodes ends) was) → (q : K × V) → HasPairAt m slot q
          → IsAtEnd end q (pairs_left n.nodes ends) was
      left-taken sets some was (p, has, at) q it =
          rw (same-left sets some) (subst (λ x. IsAtEnd end x (pairs_left m.nodes ends) was) (same-pair-at m slot p q has it) at)

    -- or where it was refused
    module _ (kept : (ls : List (LeafAt K V)) → AreLeaves bytes P m ls → AreLeaves bytes P n ls) where
      pub kept-some : ∥ IsNextAt bytes P m end slot ends ∥₁ → ∥ IsRun bytes P n ends ∥₁
      kept-some some = ∥∥₁_map (later-some m end slot ends some) (λ r. record { front = r.front; run = r.run; back = r.back; leaves = kept _ r.leaves; ends_are = r.ends_are })

    -- whichever came of it
    pub either-some : {T E : Type 0} (r : Result T E) → OnOk r ((ls : List (LeafAt K V)) → AreLeaves bytes P m ls → (there : IsAmong slot ls) → AreLeaves bytes P n (there.front ++ there.back))
        → OnErr r ((ls : List (LeafAt K V)) → AreLeaves bytes P m ls → AreLeaves bytes P n ls) → ∥ IsNextAt bytes P m end slot ends ∥₁ → ∥ IsRun bytes P n ends ∥₁
    either-some (Ok x) gone kept some = after-some gone some
    either-some (Err e) gone kept some = kept-some kept some

    module _ (kept : (ls : List (LeafAt K V)) → AreLeaves bytes P m ls → AreLeaves bytes P n ls) where
      pub empty-some : ∥ IsNextAt bytes P m end slot ends ∥₁ → (nowhere : Ends) → nowhere ≡ None → ∥ IsRun bytes P n nowhere ∥₁
      empty-some some nowhere e = ∥∥₁_map some (λ s.
          let r = run-later m end slot ends s in
          let all = r.front ++ (r.run ++ r.back) in
          subst (IsRun bytes P n) (sym e) (record { front = all; run = []; back = []; leaves = subst (AreLeaves bytes P n) (sym (append-nil all)) (kept all r.leaves); ends_are = refl }))

-- The pair at an end, lent.
module _ {K V : Type 0} (bytes : K → List ℕ) (P : ℕ) (m : Contents K V) where
  unpaired : (end : End) (zs : List (LeafAt K V)) (p : K × V) (rest : List (K × V)) → IsAtEnd end p rest (pairs_of zs) → (l : LeafAt K V) × (ys : List (LeafAt K V)) × IsAtEnd end l ys zs × (leaf_pair l ≡ p) × (pairs_of ys ≡ rest)
  unpaired end [] p rest e = absurd (none-at-end end p rest e)
  unpaired end (z ∷ zs) p rest e =
      let at = at-end end z zs in
      let same = same-end end (leaf_pair at.item) p (pairs_of at.rest) rest (pairs_of (z ∷ zs)) (pairs-end end at.item at.rest (z ∷ zs) at.is) e in
      (at.item, at.rest, at.is, same.0, same.1)

  -- the leaf that is answered is the one at the end of the run
  pub leaf-slot : (end : End) (old new : Ends) (result : Option ℕ)
      → ((l : LeafAt K V) (ys zs : List (LeafAt K V)) → IsAtEnd end l ys zs → IsWalk (links_at m.nodes) old zs → (result ≡ Some l.slot) × IsWalk (links_at m.nodes) new ys)
      → EndsWalk m.nodes old new result → IsSet (Option ℕ) → ∥ IsRun bytes P m old ∥₁ → result ≡ slot_at end old
  leaf-slot First None new result next nowhere sets some = (nowhere refl).0
  leaf-slot Last None new result next nowhere sets some = (nowhere refl).0
  leaf-slot end (Some (a, b)) new result next nowhere sets some = ∥∥₁_elim some (sets _ _) (λ r.
      let at = run-end end a b r.run r.ends_are in
      (next at.item at.rest r.run at.is (run-walk bytes P m (Some (a, b)) r)).0 ∙ sym (slot-end end a b r.run r.ends_are at.item at.rest at.is))

  -- once its value is written, the pair is still there
  pub left-written : IsSet (List (K × V)) → (end : End) (ends : Ends) → ∥ IsRun bytes P m ends ∥₁ → (p : K × V) (rest : List (K × V)) → IsAtEnd end p rest (pairs_left m.nodes ends) → (w : V)
      → IsAtEnd end (p.0, w) rest (pairs_left (with_lent_value m (slot_at end ends) w).nodes ends)
  left-written sets end ends some p rest at w = ∥∥₁_elim some (end-prop sets end (p.0, w) rest _) (λ r. go end ends r (written-run bytes P m end ends r w) at)
    where
      go : (end : End) (ends : Ends) (r : IsRun bytes P m ends) → WrittenRun bytes P m end ends r.run w (slot_at end ends) → IsAtEnd end p rest (pairs_left m.nodes ends)
          → IsAtEnd end (p.0, w) rest (pairs_left (with_lent_value m (slot_at end ends) w).nodes ends)
      go end ends r is at = here end is.now.run is.same r.run at (run-left bytes P m ends r) (run-left bytes P (with_lent_value m (slot_at end ends) w) ends is.now)
        where
          here : (e : End) (now : List (LeafAt K V)) → ((l : LeafAt K V) (ys : List (LeafAt K V)) → IsAtEnd e l ys r.run → IsAtEnd e (record { slot = l.slot; key = l.key; value = w }) ys now)
              → (run : List (LeafAt K V)) → IsAtEnd e p rest (pairs_left m.nodes ends) → pairs_left m.nodes ends ≡ pairs_of r.run → pairs_left (with_lent_value m (slot_at end ends) w).nodes ends ≡ pairs_of now
              → IsAtEnd e (p.0, w) rest (pairs_left (with_lent_value m (slot_at end ends) w).nodes ends)
          here e now same run at f g =
              let it = unpaired e r.run p rest (subst (IsAtEnd e p rest) f at) in
              let written = pairs-end e (record { slot = it.0.slot; key = it.0.key; value = w }) it.1 now (same it.0 it.1 it.2) in
              let whole = pairs_left (with_lent_value m (slot_at end ends) w).nodes ends in
              subst (λ k. IsAtEnd e (k, w) rest whole) (ap (λ (q : K × V). q.0) it.3)
              (subst (λ ys. IsAtEnd e (it.0.key, w) ys whole) it.4 (subst (IsAtEnd e (it.0.key, w) (pairs_of it.1)) (sym g) written))

  -- the run, once the leaf at an end of it is written
  module _ (end : End) (ends : Ends) (slot : ℕ) (at : slot_at end ends ≡ Some slot) where
    pub still-written : ∥ IsRun bytes P m ends ∥₁ → (w : V) → ∥ IsRun bytes P (with_value_at m slot w) ends ∥₁
    still-written some w = subst (λ o. ∥ IsRun bytes P (with_lent_value m o w) ends ∥₁) at (still-run bytes P m end ends some w)

    pub left-still : IsSet (List (K × V)) → ∥ IsRun bytes P m ends ∥₁ → (w : V) (k : K) (v : V) (rest : List (K × V)) → IsAtEnd end (k, v) rest (pairs_left m.nodes ends)
        → IsAtEnd end (k, w) rest (pairs_left (with_value_at m slot w).nodes ends)
    left-still sets some w k v rest is = subst (λ o. IsAtEnd end (k, w) rest (pairs_left (with_lent_value m o w).nodes ends)) at (left-written sets end ends some (k, v) rest is w)

  -- the pair of the leaf is the one at the end, and so is the key
  pub key-at-end : (slot : ℕ) (end : End) (q : K × V) (ps : List (K × V)) → ((p : K × V) × (rest : List (K × V)) × HasPairAt m slot p × IsAtEnd end p rest ps) → HasPairAt m slot q → (rest : List (K × V)) × IsAtEnd end q rest ps
  key-at-end slot end q ps (p, rest, has, at) it = (rest, subst (λ x. IsAtEnd end x rest ps) (same-pair-at m slot p q has it) at)

  pub same-key-at : (end : End) (k l : K) (v w : V) (rest others ps : List (K × V)) → IsAtEnd end (k, v) rest ps → IsAtEnd end (l, w) others ps → k ≡ l
  same-key-at end k l v w rest others ps e f = ap (λ (p : K × V). p.0) (same-end end (k, v) (l, w) rest others ps e f).0

-- the pair that is shown at an end is the first item, or the last
last-is : {X : Type 0} (xs : List X) (x : X) → last_item (xs ++ x ∷ []) ≡ Some x
last-is [] x = refl
last-is (y ∷ []) x = refl
last-is (y ∷ z ∷ ys) x = last-is (z ∷ ys) x

module _ {X Y : Type 0} (shows : Y → X) (xs : List X) where
  pub first-shown : (o : Option Y) → MatchOption o (xs ≡ []) (λ y. (rest : List X) × IsAtEnd First (shows y) rest xs) → option_map shows o ≡ first_item xs
  first-shown None is = sym (ap first_item is)
  first-shown (Some y) (rest, is) = sym (ap first_item is)

  pub last-shown : (o : Option Y) → MatchOption o (xs ≡ []) (λ y. (rest : List X) × IsAtEnd Last (shows y) rest xs) → option_map shows o ≡ last_item xs
  last-shown None is = sym (ap last_item is)
  last-shown (Some y) (rest, is) = sym (ap last_item is ∙ last-is rest (shows y))
