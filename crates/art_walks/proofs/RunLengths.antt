-- How many leaves a run has, told by its ends, and what is left after a step at either end.
use Rattle.std.proofs.Common.{◌≡◌, ℕ, zero, suc, ◌+◌, ◌<◌, ◌≤◌, cond, eqb, true, false, List, [], ◌∷◌, ◌++◌, length, Option, Some, None, IsSome, refl, sym, ap, ap₂, subst, ◌∙◌, inl, inr, arith, length-append}
use Rattle.std.proofs.lemmas.Bool.Decides.{eqb_tells}
use Rattle.std.proofs.lemmas.List.{map-append}
use Rattle.art_nodes.proofs.Common.{Name}
use Rattle.art_nodes.specs.declared.kind.NodeType.TheVariants.{Leaf}
use Rattle.art_nodes.specs.declared.leaf.LeafNode.{LeafNode}
use Rattle.art_arena.proofs.Common.{Arena, leaf_held, held_at, node_at, links_at, slots_of, AreHeld, Cell, leaf_name, pair, AreLinked, last_slot, times, LeafAt, pairs_of, AreLinked-right, eqb-self, occurrences, few, slots_as, slots_in, slots_within, all_left, all_right, cell_held, holds_pair}
use Rattle.art_arena.specs.declared.ends.End.{End}
use Rattle.art_arena.specs.declared.ends.End.TheVariants.{First, Last}
use Rattle.art_walks.proofs.Terms.{Ends, IsWalk, AreStored, IsCounted, ends_after, leaves_left, pairs_along, pairs_left, run_length, start_of}
use Rattle.art_walks.proofs.Counted.{EndsWalk, counted-pairs, no-ends}
use Rattle.art_walks.proofs.RunSteps.{ends_there, once_in}

-- an item put to others at an end
abbrev pub put_at : {X : Type 0} → End → X → List X → List X
put_at First x xs = x ∷ xs
put_at Last x xs = xs ++ x ∷ []

-- a list with an item has one at each end
at-end : {X : Type 0} (end : End) (x : X) (xs : List X) → (y : X) × (ys : List X) × (x ∷ xs ≡ put_at end y ys)
at-end First x xs = (x, xs, refl)
at-end Last x [] = (x, [], refl)
at-end Last x (y ∷ ys) = let e = at-end Last y ys in (e.0, x ∷ e.1, ap (λ zs. x ∷ zs) e.2)

pub longer : {X : Type 0} (end : End) (x : X) (xs : List X) → length (put_at end x xs) ≡ length xs + 1
longer First x xs = omega arith
longer Last x xs = length-append xs (x ∷ [])

module _ {K V : Type 0} where
  -- the leaves as cells
  abbrev cells_of_run : List (LeafAt K V) → List (Name × Cell K V)
  cells_of_run [] = []
  cells_of_run (l ∷ ls) = (leaf_name l.slot, pair l.key l.value) ∷ cells_of_run ls

  cells-held : (arena : Arena K V) (ls : List (LeafAt K V)) → AreStored arena ls → AreHeld (node_at arena) (cells_of_run ls)
  cells-held arena [] h = tt
  cells-held arena (l ∷ ls) h = (h.0, cells-held arena ls h.1)

  cells-times : (n : ℕ) (ls : List (LeafAt K V)) → occurrences n (slots_as Leaf (cells_of_run ls)) ≡ times n ls
  cells-times n [] = refl
  cells-times n (l ∷ ls) = ap (λ m. cond (eqb n l.slot) 1 0 + m) (cells-times n ls)

  cells-length : (ls : List (LeafAt K V)) → length (slots_as Leaf (cells_of_run ls)) ≡ length ls
  cells-length [] = refl
  cells-length (l ∷ ls) = ap suc (cells-length ls)

module _ {K V : Type 0} (arena : Arena K V) where
  -- leaves that stand in the arena, each once, are no more than it has slots
  run-few : (ls : List (LeafAt K V)) → AreStored arena ls → ((n : ℕ) → times n ls ≤ 1) → length ls ≤ slots_of arena
  run-few ls stored once =
      let below = few (slots_in arena Leaf) (slots_as Leaf (cells_of_run ls)) (slots_within arena Leaf (cells_of_run ls) (cells-held arena ls stored)) (λ n. rw (cells-times n ls) (once n)) in
      omega (arith, below, cells-length ls)

  none-long : (fuel : ℕ) → run_length fuel arena None ≡ 0
  none-long zero = refl
  none-long (suc fuel) = refl

  -- so many are met from the first to the last
  long : (fuel : ℕ) (before : Option ℕ) (l : LeafAt K V) (ls zs : List (LeafAt K V)) (last : ℕ) → AreLinked (links_at arena) before ((l ∷ ls) ++ zs) None → ((n : ℕ) → times n (l ∷ ls) ≤ 1)
      → last_slot None (l ∷ ls) ≡ Some last → length (l ∷ ls) ≤ fuel → run_length fuel arena (Some (l.slot, last)) ≡ length (l ∷ ls)
  long zero before l ls zs last linked once ends low = absurd (omega (arith, low))
  long (suc fuel) before l [] zs last linked once ends low =
      let same : l.slot ≡ last = cc in
      let met : eqb l.slot last ≡ true = subst (λ n. eqb l.slot n ≡ true) same (eqb-self l.slot) in
      rw met refl
  long (suc fuel) before l (m ∷ ms) zs last linked once ends low =
      let rest = long fuel (Some l.slot) m ms zs last linked.1 (λ n. omega (arith, once n)) ends (omega (arith, low)) in
      let apart : eqb l.slot last ≡ false = differs (ends_there (m ∷ ms) last ends) (once l.slot) in
      let there : ends_after (links_at arena l.slot) last ≡ Some (m.slot, last) = ap (λ o. ends_after o last) linked.0 in
      rw (apart, there) (ap suc rest)
    where
      differs : 1 ≤ times last (m ∷ ms) → times l.slot (l ∷ m ∷ ms) ≤ 1 → eqb l.slot last ≡ false
      differs some one = elim (eqb_tells l.slot last) [
        | inl same ↦ absurd (omega (arith, ap {B = ℕ} (λ b. cond b 1 0) (eqb-self l.slot), one, subst (λ n. 1 ≤ times n (m ∷ ms)) (sym same.1) some))
        | inr other ↦ other.0
      ]

  -- so many leaves has a run
  pub measured : (ends : Ends) (n : ℕ) → IsCounted arena ends n → run_length (slots_of arena) arena ends ≡ n
  measured None n run = none-long (slots_of arena) ∙ sym (run.len_is ∙ ap length run.walk.ends_are)
  measured (Some (first, last)) n run = go run.leaves run.walk run.stored ∙ sym run.len_is
    where
      go : (ls : List (LeafAt K V)) → IsWalk (links_at arena) (Some (first, last)) ls → AreStored arena ls → run_length (slots_of arena) arena (Some (first, last)) ≡ length ls
      go [] walk stored = let e = walk.ends_are.0 in absurd (cc)
      go (l ∷ ls) walk stored =
          let once = once_in (links_at arena) walk.xs (l ∷ ls) walk.zs walk.list in
          let same : l.slot ≡ first = let e = walk.ends_are.0 in cc in
          subst (λ a. run_length (slots_of arena) arena (Some (a, last)) ≡ length (l ∷ ls)) same
          (long (slots_of arena) (last_slot None walk.xs) l ls walk.zs last (AreLinked-right (links_at arena) None walk.xs ((l ∷ ls) ++ walk.zs) None walk.list.linked) once walk.ends_are.1 (run-few (l ∷ ls) stored once))

  pub recounted : (ends : Ends) (n : ℕ) → IsCounted arena ends n → IsCounted arena ends (leaves_left arena ends)
  recounted ends n run = subst (IsCounted arena ends) (sym (measured ends n run)) run

  pub run-pairs : (ends : Ends) (n : ℕ) (run : IsCounted arena ends n) → pairs_left arena ends ≡ pairs_of run.leaves
  run-pairs ends n run = ap (λ m. pairs_along m arena (start_of ends)) (measured ends n run) ∙ counted-pairs arena ends n run

  -- the leaf at an end stands in the arena, beside the others
  pub stored-end : (end : End) (l : LeafAt K V) (ys : List (LeafAt K V)) → AreStored arena (put_at end l ys) → (node_at arena (leaf_name l.slot) ≡ Some (pair l.key l.value)) × AreStored arena ys
  stored-end First l ys stored = stored
  stored-end Last l ys stored =
      let Q = λ (l : LeafAt K V). node_at arena (leaf_name l.slot) ≡ Some (pair l.key l.value) in ((all_right Q ys (l ∷ []) stored).0, all_left Q ys (l ∷ []) stored)

  pub pairs-end : (end : End) (l : LeafAt K V) (ys : List (LeafAt K V)) → pairs_of (put_at end l ys) ≡ put_at end (l.key, l.value) (pairs_of ys)
  pairs-end First l ys = refl
  pairs-end Last l ys = map-append (λ (l : LeafAt K V). (l.key, l.value)) ys (l ∷ [])

  -- what holds after a step that took a leaf at an end
  pub record Stepped (end : End) (old new : Ends) (slot : ℕ) : Type 0 where
    pub held : IsSome (held_at arena (leaf_name slot))
    pub kept : IsCounted arena new (leaves_left arena new)
    pub fewer : length (pairs_left arena new) < length (pairs_left arena old)
    pub read : (k : K) (v : V) → ((l : LeafNode K V) → held_at arena (leaf_name slot) ≡ Some (leaf_held l) → k ≡ l.key) → ((l : LeafNode K V) → held_at arena (leaf_name slot) ≡ Some (leaf_held l) → v ≡ l.value)
        → pairs_left arena old ≡ put_at end (k, v) (pairs_left arena new)

  -- and after one where none was left
  pub record Ended (old new : Ends) : Type 0 where
    pub kept : IsCounted arena new (leaves_left arena new)
    pub was : pairs_left arena old ≡ []
    pub empty : pairs_left arena new ≡ []

  module _ (end : End) (old new : Ends) (run : IsCounted arena old (leaves_left arena old)) where
    -- what a step answers at that end
    abbrev AnswersAt : Option ℕ → Type 0
    AnswersAt result = (l : LeafAt K V) (ys : List (LeafAt K V)) → IsWalk (links_at arena) old (put_at end l ys) → (result ≡ Some l.slot) × IsWalk (links_at arena) new ys

    pub stepped : (slot : ℕ) → AnswersAt (Some slot) → EndsWalk arena old new (Some slot) → Stepped end old new slot
    stepped slot answer end_is = go run.leaves run.walk run.stored run.len_is
      where
        taken : (l : LeafAt K V) (ys : List (LeafAt K V)) → IsWalk (links_at arena) old (put_at end l ys) → AreStored arena (put_at end l ys) → leaves_left arena old ≡ length (put_at end l ys) → Stepped end old new slot
        taken l ys walk stored len_is =
            let step = answer l ys walk in
            let same : l.slot ≡ slot = let e = step.0 in cc in
            let all = stored-end end l ys stored in
            let here : node_at arena (leaf_name slot) ≡ Some (pair l.key l.value) = subst (λ n. node_at arena (leaf_name n) ≡ Some (pair l.key l.value)) same all.0 in
            let rest : IsCounted arena new (length ys) = record { leaves = ys; walk = step.1; stored = all.1; len_is = refl } in
            let parts : pairs_left arena old ≡ put_at end (l.key, l.value) (pairs_left arena new) =
            run-pairs old (leaves_left arena old) (record { leaves = put_at end l ys; walk = walk; stored = stored; len_is = len_is }) ∙ pairs-end end l ys
            ∙ ap (put_at end (l.key, l.value)) (sym (run-pairs new (length ys) rest)) in
            let holds = holds_pair (held_at arena (leaf_name slot)) l.key l.value here in
            record {
              held = cell_held (held_at arena (leaf_name slot)) _ here;
              kept = recounted new (length ys) rest;
              fewer = omega (arith, ap length parts, longer end (l.key, l.value) (pairs_left arena new));
              read = λ k v key value. parts ∙ ap₂ (λ a b. put_at end (a, b) (pairs_left arena new)) (sym (key holds.leaf holds.is ∙ holds.key)) (sym (value holds.leaf holds.is ∙ holds.value));
            }

        go : (ls : List (LeafAt K V)) → IsWalk (links_at arena) old ls → AreStored arena ls → leaves_left arena old ≡ length ls → Stepped end old new slot
        go [] walk stored len_is = let none = (end_is (no-ends arena old walk.ends_are)).0 in absurd (cc)
        go (l ∷ ls) walk stored len_is =
            let e = at-end end l ls in
            taken e.0 e.1 (subst (IsWalk (links_at arena) old) e.2 walk) (subst (AreStored arena) e.2 stored) (len_is ∙ ap length e.2)

    pub ended : AnswersAt None → EndsWalk arena old new None → Ended old new
    ended answer end_is = go run.leaves run.walk
      where
        nothing : pairs_left arena None ≡ []
        nothing = ap (λ n. pairs_along n arena None) (none-long (slots_of arena))

        go : (ls : List (LeafAt K V)) → IsWalk (links_at arena) old ls → Ended old new
        go [] walk =
            let is = no-ends arena old walk.ends_are in
            let now = (end_is is).1 in
            record {
              kept = subst (λ e. IsCounted arena e (leaves_left arena e)) (is ∙ sym now) run;
              was = ap (pairs_left arena) is ∙ nothing;
              empty = ap (pairs_left arena) now ∙ nothing;
            }
        go (l ∷ ls) walk = let e = at-end end l ls in let f = (answer e.0 e.1 (subst (IsWalk (links_at arena) old) e.2 walk)).0 in absurd (cc)
