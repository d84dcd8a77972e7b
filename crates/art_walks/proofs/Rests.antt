-- What is left of a run whose leaves are taken out of their arena, from either end.
use Rattle.std.proofs.Common.{◌≡◌, ◌≢◌, ℕ, ◌+◌, ◌-◌, ◌<◌, ◌≤◌, cond, List, [], ◌∷◌, ◌++◌, length, Option, Some, None, IsSome, refl, sym, ap, ap₂, subst, ◌∙◌, inl, inr, arith}
use Rattle.std.proofs.lemmas.Bool.Decides.{eqb_tells}
use Rattle.std.proofs.lemmas.List.{length-map}
use Rattle.art_nodes.proofs.Common.{Name}
use Rattle.art_nodes.specs.declared.leaf.LeafNode.{LeafNode}
use Rattle.art_arena.proofs.Common.{Arena, leaf_held, held_at, node_at, links_at, links_of, cell_of, Cell, UpdatesAt, pair, leaf_name, AreLinked, first_slot, last_slot, times, LeafAt, Links, pairs_of, AreLinked-frame, AreLinked-left, AreLinked-right, ends_with-first, eqb-self}
use Rattle.art_arena.proofs.Common.{times-append, cell_held}
use Rattle.art_arena.specs.declared.ends.End.{End}
use Rattle.art_arena.specs.declared.ends.End.TheVariants.{First, Last}
use Rattle.art_walks.proofs.Terms.{Ends, HasEnds, AreStored, IsCounted, IsRest, pairs_along, start_of}
use Rattle.art_walks.proofs.Counted.{linked-pairs, walk-linked}
use Rattle.art_walks.proofs.RunLengths.{longer, pairs-end, put_at, stored-end}
use Rattle.art_walks.proofs.RunSteps.{ends_there, next_of, once_in, previous_of, some-last}

module _ {K V : Type 0} where
  -- a counted run, of which no leaf is taken yet
  pub whole : (arena : Arena K V) (ends : Ends) (len : ℕ) → IsCounted arena ends len → IsRest arena ends len
  whole arena ends len run = record {
    leaves = run.leaves;
    before = last_slot None run.walk.xs;
    after = first_slot run.walk.zs None;
    linked = walk-linked arena ends run.leaves run.walk;
    once = once_in (links_at arena) run.walk.xs run.leaves run.walk.zs run.walk.list;
    ends_are = run.walk.ends_are;
    stored = run.stored;
    len_is = run.len_is;
  }

  -- the pairs that are seen
  pub rest-pairs : (arena : Arena K V) (ends : Ends) (len : ℕ) (rest : IsRest arena ends len) → pairs_along len arena (start_of ends) ≡ pairs_of rest.leaves
  rest-pairs arena ends len rest =
      ap (λ n. pairs_along n arena (start_of ends)) rest.len_is ∙ linked-pairs arena ends rest.before rest.leaves rest.after rest.linked rest.stored rest.ends_are

  -- they are as many as are counted
  pub rest-length : (arena : Arena K V) (ends : Ends) (len : ℕ) → IsRest arena ends len → length (pairs_along len arena (start_of ends)) ≡ len
  rest-length arena ends len rest = ap length (rest-pairs arena ends len rest) ∙ length-map rest.leaves (λ (l : LeafAt K V). (l.key, l.value)) ∙ sym rest.len_is

  -- a leaf was given up with its pair, and one fewer are left
  pub record Gave (end : End) (old new : Arena K V) (was now : Ends) (len : ℕ) (p : K × V) : Type 0 where
    pub some : 1 ≤ len
    pub rest : IsRest new now (len - 1)
    pub parts : pairs_along len old (start_of was) ≡ put_at end p (pairs_along (len - 1) new (start_of now))

  -- so fewer are left than were
  pub fewer : (end : End) (old new : Arena K V) (was now : Ends) (len : ℕ) (p : K × V) → IsRest old was len → Gave end old new was now len p
      → length (pairs_along (len - 1) new (start_of now)) < length (pairs_along len old (start_of was))
  fewer end old new was now len p rest gave = omega (arith, rest-length old was len rest, rest-length new now (len - 1) gave.rest, gave.some)

  -- what a leaf holds is what is read of it
  same-pair : (arena : Arena K V) (l : LeafAt K V) (slot : ℕ) (leaf : LeafNode K V) → l.slot ≡ slot → node_at arena (leaf_name l.slot) ≡ Some (pair l.key l.value) → held_at arena (leaf_name slot) ≡ Some (leaf_held leaf)
      → ◌≡◌ {A = K × V} (l.key, l.value) (leaf.key, leaf.value)
  same-pair arena l slot leaf is stored there =
      let same : ◌≡◌ {A = Option (Cell K V)} (Some (pair l.key l.value)) (Some (pair leaf.key leaf.value)) = sym stored ∙ ap (λ n. node_at arena (leaf_name n)) is ∙ ap cell_of there in
      let key : l.key ≡ leaf.key = cc in
      let value : l.value ≡ leaf.value = cc in
      ap₂ (λ k v. (k, v)) key value

  -- the others of a run stand where they stood
  module _ (old new : Arena K V) (slot : ℕ) (gone : UpdatesAt (held_at old) (held_at new) (leaf_name slot) None) where
    links-without : UpdatesAt (links_at old) (links_at new) slot None
    links-without = record {
      changed = ap links_of gone.changed;
      others = λ n other. ap links_of (gone.others (leaf_name n) (λ e. other (ap (λ (name : Name). name.slot) e)));
    }

    stored-without : (ls : List (LeafAt K V)) → times slot ls ≡ 0 → AreStored old ls → AreStored new ls
    stored-without [] absent stored = tt
    stored-without (l ∷ ls) absent stored =
        elim (eqb_tells slot l.slot) [
          | inl same ↦ absurd (omega (arith, rw same.0 at absent))
          | inr other ↦
              let none : times slot ls ≡ 0 = omega (arith, absent) in
              (ap cell_of (gone.others (leaf_name l.slot) (λ e. other.1 (sym (ap (λ (name : Name). name.slot) e)))) ∙ stored.0, stored-without ls none stored.1)
        ]

    linked-without : (before : Option ℕ) (ls : List (LeafAt K V)) (after : Option ℕ) → times slot ls ≡ 0 → AreLinked (links_at old) before ls after → AreLinked (links_at new) before ls after
    linked-without before ls after absent linked = AreLinked-frame (links_at old) (links_at new) slot None links-without before ls after absent linked

  here-once : (slot : ℕ) (l : LeafAt K V) → l.slot ≡ slot → times slot (l ∷ []) ≡ 1
  here-once slot l is = rw is (ap {B = ℕ} (λ b. cond b 1 0 + 0) (eqb-self slot))

  -- the leaves beside the one at an end
  times-end : (end : End) (n : ℕ) (l : LeafAt K V) (ls : List (LeafAt K V)) → times n (put_at end l ls) ≡ times n (l ∷ []) + times n ls
  times-end First n l ls = omega arith
  times-end Last n l ls = omega (arith, times-append n ls (l ∷ []))

  linked-end : (links : ℕ → Option Links) (end : End) (l : LeafAt K V) (ls : List (LeafAt K V)) (before after : Option ℕ) → AreLinked links before (put_at end l ls) after
      → (front : Option ℕ) × (back : Option ℕ) × AreLinked links front ls back
  linked-end links First l ls before after linked = (Some l.slot, after, linked.1)
  linked-end links Last l ls before after linked = (before, Some l.slot, AreLinked-left links before ls (l ∷ []) after linked)

  -- the leaf at an end was taken out
  gave : (end : End) (old new : Arena K V) (ends now : Ends) (len slot : ℕ) (leaf : LeafNode K V) → held_at old (leaf_name slot) ≡ Some (leaf_held leaf) → UpdatesAt (held_at old) (held_at new) (leaf_name slot) None
      → (rest : IsRest old ends len) (l : LeafAt K V) (ls : List (LeafAt K V)) → rest.leaves ≡ put_at end l ls → l.slot ≡ slot → (times slot ls ≡ 0 → HasEnds ls now) → Gave end old new ends now len (leaf.key, leaf.value)
  gave end old new ends now len slot leaf there gone rest l ls are is ends_now =
      let once : (n : ℕ) → times n (put_at end l ls) ≤ 1 = subst (λ xs. (n : ℕ) → times n xs ≤ 1) are rest.once in
      let stored = stored-end old end l ls (subst (AreStored old) are rest.stored) in
      let beside = linked-end (links_at old) end l ls rest.before rest.after (subst (λ xs. AreLinked (links_at old) rest.before xs rest.after) are rest.linked) in
      let len_is : len ≡ length (put_at end l ls) = rest.len_is ∙ ap length are in
      let absent : times slot ls ≡ 0 = let o = once slot in omega (arith, o, times-end end slot l ls, here-once slot l is) in
      let left : IsRest new now (len - 1) = record {
        leaves = ls;
        before = beside.0;
        after = beside.1;
        linked = linked-without old new slot gone beside.0 ls beside.1 absent beside.2;
        once = λ n. let o = once n in omega (arith, o, times-end end n l ls);
        ends_are = ends_now absent;
        stored = stored-without old new slot gone ls absent stored.1;
        len_is = omega (arith, len_is, longer end l ls);
      } in
      record {
        some = omega (arith, len_is, longer end l ls);
        rest = left;
        parts = rest-pairs old ends len rest ∙ ap pairs_of are ∙ pairs-end old end l ls
            ∙ ap₂ (λ p ps. put_at end p ps) (same-pair old l slot leaf is stored.0 there) (sym (rest-pairs new now (len - 1) left));
      }

  module _ (old : Arena K V) (ends : Ends) (a b len : ℕ) (is_run : ends ≡ Some (a, b)) (rest : IsRest old ends len) where
    has_ends : HasEnds rest.leaves (Some (a, b))
    has_ends = subst (HasEnds rest.leaves) is_run rest.ends_are

    -- the last is held
    pub back-held : IsSome (held_at old (leaf_name b))
    back-held =
        let e = ends_with-first rest.leaves b has_ends.1 in
        let stored = (stored-end old Last e.1 e.0 (subst (AreStored old) e.2 rest.stored)).0 in
        cell_held (held_at old (leaf_name b)) _ (ap (λ n. node_at old (leaf_name n)) (sym e.3) ∙ stored)

    module _ (new : Arena K V) (now : Ends) (leaf : LeafNode K V) where
      -- the first was taken out
      module _ (there : held_at old (leaf_name a) ≡ Some (leaf_held leaf)) (gone : UpdatesAt (held_at old) (held_at new) (leaf_name a) None) (alone : a ≡ b → now ≡ None)
          (more : a ≢ b → (n : ℕ) → leaf.next ≡ Some n → now ≡ Some (n, b)) where
        front-ends : (l : LeafAt K V) (ls : List (LeafAt K V)) (before after : Option ℕ) → l.slot ≡ a → times a ls ≡ 0 → HasEnds (l ∷ ls) (Some (a, b)) → AreLinked (links_at old) before (l ∷ ls) after → HasEnds ls now
        front-ends l [] before after is absent ends linked =
            let same : a ≡ b = let e = ends.1 in cc in
            subst (HasEnds []) (sym (alone same)) refl
        front-ends l (m ∷ ms) before after is absent ends linked =
            let there_b = ends_there (m ∷ ms) b ends.1 in
            let apart : a ≢ b = λ e. omega (arith, absent, subst (λ n. 1 ≤ times n (m ∷ ms)) (sym e) there_b) in
            let next = next_of (held_at old (leaf_name a)) leaf _ (ap (links_at old) (sym is) ∙ linked.0) there in
            subst (HasEnds (m ∷ ms)) (sym (more apart m.slot next)) (refl, ends.1)

        pub gave-front : Gave First old new ends now len (leaf.key, leaf.value)
        gave-front = go rest.leaves refl
          where
            go : (ls : List (LeafAt K V)) → rest.leaves ≡ ls → Gave First old new ends now len (leaf.key, leaf.value)
            go [] are = let e = (subst (λ xs. HasEnds xs (Some (a, b))) are has_ends).0 in absurd (cc)
            go (l ∷ ls) are =
                let ends_are = subst (λ xs. HasEnds xs (Some (a, b))) are has_ends in
                let is : l.slot ≡ a = let e = ends_are.0 in cc in
                gave First old new ends now len a leaf there gone rest l ls are is
                (λ absent. front-ends l ls rest.before rest.after is absent ends_are (subst (λ xs. AreLinked (links_at old) rest.before xs rest.after) are rest.linked))

      -- the last was taken out
      module _ (there : held_at old (leaf_name b) ≡ Some (leaf_held leaf)) (gone : UpdatesAt (held_at old) (held_at new) (leaf_name b) None) (alone : a ≡ b → now ≡ None)
          (more : a ≢ b → (n : ℕ) → leaf.previous ≡ Some n → now ≡ Some (a, n)) where
        back-ends : (zs : List (LeafAt K V)) (z : LeafAt K V) → z.slot ≡ b → times b zs ≡ 0 → HasEnds (zs ++ z ∷ []) (Some (a, b)) → AreLinked (links_at old) rest.before (zs ++ z ∷ []) rest.after → HasEnds zs now
        back-ends [] z is absent ends linked =
            let same : a ≡ b = let e = ends.0 in cc in
            subst (HasEnds []) (sym (alone same)) refl
        back-ends (y ∷ ys) z is absent ends linked =
            let links = ap (links_at old) (sym is) ∙ (AreLinked-right (links_at old) rest.before (y ∷ ys) (z ∷ []) rest.after linked).0 in
            let first : y.slot ≡ a = let e = ends.0 in cc in
            let apart : a ≢ b = λ e. omega (arith, absent, here-once b y (first ∙ e)) in
            let last = some-last y.slot ys in
            let previous : leaf.previous ≡ Some last.0 = previous_of (held_at old (leaf_name b)) leaf _ links there ∙ last.1 in
            subst (HasEnds (y ∷ ys)) (sym (more apart last.0 previous)) (ends.0, last.1)

        pub gave-back : Gave Last old new ends now len (leaf.key, leaf.value)
        gave-back =
            let e = ends_with-first rest.leaves b has_ends.1 in
            gave Last old new ends now len b leaf there gone rest e.1 e.0 e.2 e.3
            (λ absent. back-ends e.0 e.1 e.3 absent (subst (λ xs. HasEnds xs (Some (a, b))) e.2 has_ends) (subst (λ xs. AreLinked (links_at old) rest.before xs rest.after) e.2 rest.linked))
