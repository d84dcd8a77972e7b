-- How a walk along linked leaves steps at either end.
use Rattle.std.proofs.Common.{◌≡◌, ◌≢◌, ℕ, ◌≤◌, cond, eqb, List, [], ◌∷◌, ◌++◌, Option, Some, None, IsSome, false, inl, inr, refl, sym, ap, subst, ◌∙◌, arith, append_assoc}
use Rattle.std.proofs.lemmas.Bool.Decides.{eqb_tells}
use Rattle.std.proofs.Math.Bool.{Bool-set}
use Rattle.std.proofs.Math.Logic.{∥∥₁_elim}
use Rattle.art_nodes.specs.declared.leaf.LeafNode.{LeafNode}
use Rattle.art_arena.proofs.Common.{Arena, Held, leaf_held, links_of, links_at, held_at, leaf_name, LeafAt, Links, first_slot, last_slot, times, IsList, eqb-self, times-append, times-here, ends_with-first, last_slot-append, link_there}
use Rattle.art_walks.proofs.Terms.{IsWalk}

pub eqb-apart : (a b : ℕ) → eqb a b ≡ false → a ≢ b
eqb-apart a b off = elim (eqb_tells a b) [ inl same ↦ absurd (let e = same.0 in cc) | inr other ↦ other.1 ]

module _ {K V : Type 0} where
  -- what has links is held
  pub held_with_links : (o : Option (Held K V)) (links : Links) → links_of o ≡ Some links → IsSome o
  held_with_links None links e = absurd (cc)
  held_with_links (Some held) links e = refl

  pub next_of : (o : Option (Held K V)) (leaf : LeafNode K V) (links : Links) → links_of o ≡ Some links → o ≡ Some (leaf_held leaf) → leaf.next ≡ links.next
  next_of o leaf links e is =
      let there : Some (record { previous = leaf.previous; next = leaf.next }) ≡ Some links = sym (ap links_of is) ∙ e in
      let same : ◌≡◌ {A = Links} (record { previous = leaf.previous; next = leaf.next }) links = cc in
      ap (λ (x : Links). x.next) same

  pub previous_of : (o : Option (Held K V)) (leaf : LeafNode K V) (links : Links) → links_of o ≡ Some links → o ≡ Some (leaf_held leaf) → leaf.previous ≡ links.previous
  previous_of o leaf links e is =
      let there : Some (record { previous = leaf.previous; next = leaf.next }) ≡ Some links = sym (ap links_of is) ∙ e in
      let same : ◌≡◌ {A = Links} (record { previous = leaf.previous; next = leaf.next }) links = cc in
      ap (λ (x : Links). x.previous) same

  -- a leaf that ends a list stands in it
  pub ends_there : (ys : List (LeafAt K V)) (b : ℕ) → last_slot None ys ≡ Some b → 1 ≤ times b ys
  ends_there ys b last =
      let e = ends_with-first ys b last in
      let here = times-here e.0 [] e.1 in
      let same : times b ys ≡ times e.1.slot (e.0 ++ e.1 ∷ []) = ap (times b) e.2 ∙ ap (λ n. times n (e.0 ++ e.1 ∷ [])) (sym e.3) in
      omega (arith, here, same)

  -- a leaf that begins and ends a list in which none stands twice is all of it
  alone : (l : LeafAt K V) (ys : List (LeafAt K V)) → times l.slot (l ∷ ys) ≤ 1 → last_slot None (l ∷ ys) ≡ Some l.slot → ys ≡ []
  alone l [] once last = refl
  alone l (y ∷ ys) once last =
      let more = ends_there (y ∷ ys) l.slot last in
      let one : cond (eqb l.slot l.slot) 1 0 ≡ 1 = ap {B = ℕ} (λ b. cond b 1 0) (eqb-self l.slot) in
      absurd (omega (arith, more, one, once))

  pub once_in : (links : ℕ → Option Links) (xs ys zs : List (LeafAt K V)) → IsList links (xs ++ (ys ++ zs)) → (n : ℕ) → times n ys ≤ 1
  once_in links xs ys zs list n = let o = list.once n in omega (arith, o, times-append n xs (ys ++ zs), times-append n ys zs)

  module _ (links : ℕ → Option Links) (a b : ℕ) (l : LeafAt K V) (ys : List (LeafAt K V)) where
    -- at the front
    module _ (walk : IsWalk links (Some (a, b)) (l ∷ ys)) where
      pub front-is : l.slot ≡ a
      front-is = let e = walk.ends_are.0 in cc

      pub front-alone : a ≡ b → IsWalk links None ys
      front-alone e =
          let once = once_in links walk.xs (l ∷ ys) walk.zs walk.list l.slot in
          let none : ys ≡ [] = alone l ys once (walk.ends_are.1 ∙ ap Some (sym (front-is ∙ e))) in
          rest ys none walk.list
        where
          rest : (ys : List (LeafAt K V)) → ys ≡ [] → IsList links (walk.xs ++ (l ∷ ys ++ walk.zs)) → IsWalk links None ys
          rest ys none list = record { xs = walk.xs ++ l ∷ []; zs = walk.zs; list = subst (IsList links) (sym (append_assoc walk.xs (l ∷ []) (ys ++ walk.zs))) list; ends_are = none }

      pub front-links : links a ≡ Some (record { previous = last_slot None walk.xs; next = first_slot (ys ++ walk.zs) None })
      front-links = link_there links walk.xs l (ys ++ walk.zs) a walk.list.linked front-is

  pub front-step : (links : ℕ → Option Links) (a b : ℕ) (l : LeafAt K V) (ys : List (LeafAt K V)) → IsWalk links (Some (a, b)) (l ∷ ys) → a ≢ b
      → (next : ℕ) × (previous : Option ℕ) × (links a ≡ Some (record { previous = previous; next = Some next })) × IsWalk links (Some (next, b)) ys
  front-step links a b l [] walk apart = let first = walk.ends_are.0 in let last = walk.ends_are.1 in absurd (apart (cc))
  front-step links a b l (y ∷ ys) walk apart = (
    y.slot,
    last_slot None walk.xs,
    front-links links a b l (y ∷ ys) walk,
    record {
      xs = walk.xs ++ l ∷ [];
      zs = walk.zs;
      list = subst (IsList links) (sym (append_assoc walk.xs (l ∷ []) (y ∷ ys ++ walk.zs))) walk.list;
      ends_are = (refl, walk.ends_are.1);
    },
  )

  -- a walk that isn't empty has a last leaf
  pub back-parts : (links : ℕ → Option Links) (a b : ℕ) (ys : List (LeafAt K V)) → IsWalk links (Some (a, b)) ys → (zs : List (LeafAt K V)) × (z : LeafAt K V) × (ys ≡ zs ++ z ∷ []) × (z.slot ≡ b)
  back-parts links a b ys walk = ends_with-first ys b walk.ends_are.1

  back-list : (links : ℕ → Option Links) (xs ys : List (LeafAt K V)) (l : LeafAt K V) (zs : List (LeafAt K V)) → IsList links (xs ++ ((ys ++ l ∷ []) ++ zs)) → IsList links (xs ++ (ys ++ l ∷ zs))
  back-list links xs ys l zs list = subst (λ w. IsList links (xs ++ w)) (append_assoc ys (l ∷ []) zs) list

  pub back-is : (links : ℕ → Option Links) (a b : ℕ) (l : LeafAt K V) (ys : List (LeafAt K V)) → IsWalk links (Some (a, b)) (ys ++ l ∷ []) → l.slot ≡ b
  back-is links a b l ys walk = let e : Some l.slot ≡ Some b = sym (last_slot-append None ys (l ∷ [])) ∙ walk.ends_are.1 in cc

  pub back-links : (links : ℕ → Option Links) (a b : ℕ) (l : LeafAt K V) (ys : List (LeafAt K V)) (walk : IsWalk links (Some (a, b)) (ys ++ l ∷ []))
      → links b ≡ Some (record { previous = last_slot None (walk.xs ++ ys); next = first_slot walk.zs None })
  back-links links a b l ys walk =
      let whole : walk.xs ++ (ys ++ l ∷ walk.zs) ≡ (walk.xs ++ ys) ++ l ∷ walk.zs = sym (append_assoc walk.xs ys (l ∷ walk.zs)) in
      link_there links (walk.xs ++ ys) l walk.zs b (subst (IsList links) whole (back-list links walk.xs ys l walk.zs walk.list)).linked (back-is links a b l ys walk)

  pub back-alone : (links : ℕ → Option Links) (a b : ℕ) (l : LeafAt K V) (ys : List (LeafAt K V)) → IsWalk links (Some (a, b)) (ys ++ l ∷ []) → a ≡ b → IsWalk links None ys
  back-alone links a b l [] walk e = record { xs = walk.xs; zs = l ∷ walk.zs; list = walk.list; ends_are = refl }
  back-alone links a b l (y ∷ ys) walk e =
      let first = front-is links a b y (ys ++ l ∷ []) walk in
      let last = back-is links a b l (y ∷ ys) walk in
      let same : y.slot ≡ l.slot = first ∙ e ∙ sym last in
      let once = once_in links walk.xs (y ∷ ys ++ l ∷ []) walk.zs walk.list l.slot in
      let one : ◌≡◌ {A = ℕ} (cond (eqb l.slot y.slot) 1 0) 1 = rw same (ap {B = ℕ} (λ b. cond b 1 0) (eqb-self l.slot)) in
      absurd (omega (arith, times-here ys [] l, one, once))

  -- there is a last leaf after another
  pub some-last : (slot : ℕ) (ys : List (LeafAt K V)) → (last : ℕ) × (last_slot (Some slot) ys ≡ Some last)
  some-last slot [] = (slot, refl)
  some-last slot (y ∷ ys) = some-last y.slot ys

  pub back-step : (links : ℕ → Option Links) (a b : ℕ) (l : LeafAt K V) (ys : List (LeafAt K V)) → IsWalk links (Some (a, b)) (ys ++ l ∷ []) → a ≢ b
      → (previous : ℕ) × (next : Option ℕ) × (links b ≡ Some (record { previous = Some previous; next = next })) × IsWalk links (Some (a, previous)) ys
  back-step links a b l [] walk apart = let first = walk.ends_are.0 in let last = walk.ends_are.1 in absurd (apart (cc))
  back-step links a b l (y ∷ ys) walk apart =
      let list = back-list links walk.xs (y ∷ ys) l walk.zs walk.list in
      let there = back-links links a b l (y ∷ ys) walk in
      let last = some-last y.slot ys in
      let before : last_slot None (walk.xs ++ y ∷ ys) ≡ Some last.0 = last_slot-append None walk.xs (y ∷ ys) ∙ last.1 in (
        last.0,
        first_slot walk.zs None,
        there ∙ ap (λ p. Some (record { previous = p; next = first_slot walk.zs None })) before,
        record { xs = walk.xs; zs = l ∷ walk.zs; list = list; ends_are = (walk.ends_are.0, last.1) },
      )

  module _ (arena : Arena K V) (ends : Option (ℕ × ℕ)) (a b : ℕ) (is : ends ≡ Some (a, b)) where
    from_ends : (ys : List (LeafAt K V)) → IsWalk (links_at arena) ends ys → IsWalk (links_at arena) (Some (a, b)) ys
    from_ends ys walk = subst (λ e. IsWalk (links_at arena) e ys) is walk

    module _ (walks : ∥ ((ys : List (LeafAt K V)) × IsWalk (links_at arena) ends ys) ∥₁) where
      -- both ends of a walk are held
      pub first-held : IsSome (held_at arena (leaf_name a))
      first-held = ∥∥₁_elim walks (Bool-set _ _) (λ w. here w.0 (from_ends w.0 w.1))
        where
          here : (ys : List (LeafAt K V)) → IsWalk (links_at arena) (Some (a, b)) ys → IsSome (held_at arena (leaf_name a))
          here [] walk = let e = walk.ends_are.0 in absurd (cc)
          here (l ∷ ys) walk = held_with_links (held_at arena (leaf_name a)) _ (front-links (links_at arena) a b l ys walk)

      pub last-held : IsSome (held_at arena (leaf_name b))
      last-held = ∥∥₁_elim walks (Bool-set _ _) (λ w. here w.0 (from_ends w.0 w.1))
        where
          here : (ys : List (LeafAt K V)) → IsWalk (links_at arena) (Some (a, b)) ys → IsSome (held_at arena (leaf_name b))
          here ys walk =
              let e = back-parts (links_at arena) a b ys walk in
              held_with_links (held_at arena (leaf_name b)) _ (back-links (links_at arena) a b e.1 e.0 (subst (IsWalk (links_at arena) (Some (a, b))) e.2 walk))

      -- and where it has more than one leaf, there is one beside each
      pub has_next : a ≢ b → (leaf : LeafNode K V) → held_at arena (leaf_name a) ≡ Some (leaf_held leaf) → leaf.next ≡ None → ⊥
      has_next apart leaf there none = ∥∥₁_elim walks (λ x y. absurd x) (λ w. here w.0 (from_ends w.0 w.1))
        where
          here : (ys : List (LeafAt K V)) → IsWalk (links_at arena) (Some (a, b)) ys → ⊥
          here [] walk = let e = walk.ends_are.0 in cc
          here (l ∷ ys) walk =
              let step = front-step (links_at arena) a b l ys walk apart in
              let e = next_of (held_at arena (leaf_name a)) leaf _ step.2 there in cc

      pub has_previous : a ≢ b → (leaf : LeafNode K V) → held_at arena (leaf_name b) ≡ Some (leaf_held leaf) → leaf.previous ≡ None → ⊥
      has_previous apart leaf there none = ∥∥₁_elim walks (λ x y. absurd x) (λ w. here w.0 (from_ends w.0 w.1))
        where
          here : (ys : List (LeafAt K V)) → IsWalk (links_at arena) (Some (a, b)) ys → ⊥
          here ys walk =
              let parts = back-parts (links_at arena) a b ys walk in
              let step = back-step (links_at arena) a b parts.1 parts.0 (subst (IsWalk (links_at arena) (Some (a, b))) parts.2 walk) apart in
              let e = previous_of (held_at arena (leaf_name b)) leaf _ step.2 there in cc

    -- what a step answers, and where the walk then stands
    pub takes_first-alone : a ≡ b → (l : LeafAt K V) (ys : List (LeafAt K V)) → IsWalk (links_at arena) ends (l ∷ ys) → (Some a ≡ Some l.slot) × IsWalk (links_at arena) None ys
    takes_first-alone e l ys walk =
        let w = from_ends (l ∷ ys) walk in (ap Some (sym (front-is (links_at arena) a b l ys w)), front-alone (links_at arena) a b l ys w e)

    pub takes_first : a ≢ b → (leaf : LeafNode K V) (next : ℕ) → held_at arena (leaf_name a) ≡ Some (leaf_held leaf) → leaf.next ≡ Some next
        → (l : LeafAt K V) (ys : List (LeafAt K V)) → IsWalk (links_at arena) ends (l ∷ ys) → (Some a ≡ Some l.slot) × IsWalk (links_at arena) (Some (next, b)) ys
    takes_first apart leaf next there found l ys walk =
        let w = from_ends (l ∷ ys) walk in
        let step = front-step (links_at arena) a b l ys w apart in
        let e = next_of (held_at arena (leaf_name a)) leaf _ step.2 there in
        let same : step.0 ≡ next = cc in
        (ap Some (sym (front-is (links_at arena) a b l ys w)), subst (λ n. IsWalk (links_at arena) (Some (n, b)) ys) same step.3)

    pub takes_last-alone : a ≡ b → (l : LeafAt K V) (ys : List (LeafAt K V)) → IsWalk (links_at arena) ends (ys ++ l ∷ []) → (Some b ≡ Some l.slot) × IsWalk (links_at arena) None ys
    takes_last-alone e l ys walk =
        let w = from_ends (ys ++ l ∷ []) walk in (ap Some (sym (back-is (links_at arena) a b l ys w)), back-alone (links_at arena) a b l ys w e)

    pub takes_last : a ≢ b → (leaf : LeafNode K V) (previous : ℕ) → held_at arena (leaf_name b) ≡ Some (leaf_held leaf) → leaf.previous ≡ Some previous
        → (l : LeafAt K V) (ys : List (LeafAt K V)) → IsWalk (links_at arena) ends (ys ++ l ∷ []) → (Some b ≡ Some l.slot) × IsWalk (links_at arena) (Some (a, previous)) ys
    takes_last apart leaf previous there found l ys walk =
        let w = from_ends (ys ++ l ∷ []) walk in
        let step = back-step (links_at arena) a b l ys w apart in
        let e = previous_of (held_at arena (leaf_name b)) leaf _ step.2 there in
        let same : step.0 ≡ previous = cc in
        (ap Some (sym (back-is (links_at arena) a b l ys w)), subst (λ n. IsWalk (links_at arena) (Some (a, n)) ys) same step.3)
