-- The leaves as a linked list: a list in two parts, and what a write of one leaf's links leaves.
use Rattle.std.proofs.Common.{◌≡◌, ◌≢◌, ℕ, ◌+◌, ◌≤◌, true, cond, eqb, List, [], ◌∷◌, ◌++◌, map, Option, Some, None, IsSome, refl, sym, ap, ◌∙◌, inl, inr, arith, ap₂, subst, append_assoc}
use Rattle.std.proofs.lemmas.Bool.Decides.{eqb_tells}
use Rattle.art_arena.proofs.Terms.{UpdatesAt, LeafAt, Links, first_slot, last_slot, AreLinked, times, AreHalves, CanLink, IsList, IsBeside, KeepsOtherLinks, KeepsLinksOutside}

pub eqb-self : (n : ℕ) → eqb n n ≡ true
eqb-self n = elim (eqb_tells n n) [ inl y ↦ y.0 | inr o ↦ absurd (o.1 refl) ]

pub some_of : {A : Type 0} (o : Option A) → IsSome o → (x : A) × (o ≡ Some x)
some_of None h = absurd (cc)
some_of (Some x) h = (x, refl)

module _ {K V : Type 0} where
  -- the slab keys of leaves
  abbrev pub slot_list : List (LeafAt K V) → List ℕ
  slot_list ls = map (λ l. l.slot) ls

  pub times-append : (n : ℕ) (xs ys : List (LeafAt K V)) → times n (xs ++ ys) ≡ times n xs + times n ys
  times-append n [] ys = omega arith
  times-append n (x ∷ xs) ys = omega (arith, times-append n xs ys)

  -- a list whose leaves keep their links is linked still
  pub AreLinked-kept : (old new : ℕ → Option Links) (before : Option ℕ) (xs : List (LeafAt K V)) (after : Option ℕ) → ((n : ℕ) → 1 ≤ times n xs → new n ≡ old n) → AreLinked old before xs after → AreLinked new before xs after
  AreLinked-kept old new before [] after same linked = tt
  AreLinked-kept old new before (x ∷ xs) after same linked = (
    same x.slot (omega (arith, ap {B = ℕ} (λ b. cond b 1 0) (eqb-self x.slot))) ∙ linked.0,
    AreLinked-kept old new (Some x.slot) xs after (λ n more. same n (omega (arith, more))) linked.1,
  )

  pub AreLinked-same : (old new : ℕ → Option Links) → ((n : ℕ) → new n ≡ old n) → (before : Option ℕ) (xs : List (LeafAt K V)) (after : Option ℕ) → AreLinked old before xs after → AreLinked new before xs after
  AreLinked-same old new same before xs after linked = AreLinked-kept old new before xs after (λ n some. same n) linked

  pub first_slot-append : (xs ys : List (LeafAt K V)) (after : Option ℕ) → first_slot (xs ++ ys) after ≡ first_slot xs (first_slot ys after)
  first_slot-append [] ys after = refl
  first_slot-append (x ∷ xs) ys after = refl

  pub last_slot-append : (before : Option ℕ) (xs ys : List (LeafAt K V)) → last_slot before (xs ++ ys) ≡ last_slot (last_slot before xs) ys
  last_slot-append before [] ys = refl
  last_slot-append before (x ∷ xs) ys = last_slot-append (Some x.slot) xs ys

  pub AreLinked-frame : (old new : ℕ → Option Links) (p : ℕ) (value : Option Links) → UpdatesAt old new p value → (before : Option ℕ) (xs : List (LeafAt K V)) (after : Option ℕ) → times p xs ≡ 0 → AreLinked old before xs after → AreLinked new before xs after
  AreLinked-frame old new p value updates before xs after absent linked =
      AreLinked-kept old new before xs after (λ n here. updates.others n (λ e. let none = subst (λ m. times m xs ≡ 0) (sym e) absent in omega (arith, here, none))) linked

  pub AreLinked-left : (links : ℕ → Option Links) (before : Option ℕ) (xs ys : List (LeafAt K V)) (after : Option ℕ) → AreLinked links before (xs ++ ys) after → AreLinked links before xs (first_slot ys after)
  AreLinked-left links before [] ys after linked = tt
  AreLinked-left links before (x ∷ xs) ys after linked =
      (linked.0 ∙ ap (λ n. Some (record { previous = before; next = n })) (first_slot-append xs ys after), AreLinked-left links (Some x.slot) xs ys after linked.1)

  pub AreLinked-right : (links : ℕ → Option Links) (before : Option ℕ) (xs ys : List (LeafAt K V)) (after : Option ℕ) → AreLinked links before (xs ++ ys) after → AreLinked links (last_slot before xs) ys after
  AreLinked-right links before [] ys after linked = linked
  AreLinked-right links before (x ∷ xs) ys after linked = AreLinked-right links (Some x.slot) xs ys after linked.1

  pub AreLinked-join : (links : ℕ → Option Links) (before : Option ℕ) (xs ys : List (LeafAt K V)) (after : Option ℕ) → AreLinked links before xs (first_slot ys after) → AreLinked links (last_slot before xs) ys after → AreLinked links before (xs ++ ys) after
  AreLinked-join links before [] ys after left right = right
  AreLinked-join links before (x ∷ xs) ys after left right =
      (left.0 ∙ sym (ap (λ n. Some (record { previous = before; next = n })) (first_slot-append xs ys after)), AreLinked-join links (Some x.slot) xs ys after left.1 right)

  -- a list that ends with this slot
  pub ends_with : (before : Option ℕ) (x : LeafAt K V) (xs : List (LeafAt K V)) (p : ℕ) → last_slot before (x ∷ xs) ≡ Some p → (zs : List (LeafAt K V)) × (z : LeafAt K V) × (x ∷ xs ≡ zs ++ z ∷ []) × (z.slot ≡ p)
  ends_with before x [] p last = ([], x, refl, (cc))
  ends_with before x (y ∷ xs) p last =
      let later = ends_with (Some x.slot) y xs p last in
      (x ∷ later.0, later.1, ap (λ ws. x ∷ ws) later.2, later.3)

  pub ends_with-first : (xs : List (LeafAt K V)) (p : ℕ) → last_slot None xs ≡ Some p → (zs : List (LeafAt K V)) × (z : LeafAt K V) × (xs ≡ zs ++ z ∷ []) × (z.slot ≡ p)
  ends_with-first [] p last = absurd (cc)
  ends_with-first (x ∷ xs) p last = ends_with None x xs p last

  pub empty_of : (xs : List (LeafAt K V)) (before : ℕ) → last_slot (Some before) xs ≡ None → ⊥
  empty_of [] before last = cc
  empty_of (x ∷ xs) before last = empty_of xs x.slot last

  pub empty-first : (xs : List (LeafAt K V)) → last_slot None xs ≡ None → xs ≡ []
  empty-first [] last = refl
  empty-first (x ∷ xs) last = absurd (empty_of xs x.slot last)

  -- a leaf in the list is met there
  pub times-here : (xs ys : List (LeafAt K V)) (l : LeafAt K V) → 1 ≤ times l.slot (xs ++ l ∷ ys)
  times-here xs ys l = omega (arith, times-append l.slot xs (l ∷ ys), ap {B = ℕ} (λ b. cond b 1 0) (eqb-self l.slot))

  -- and so are the one at its end and the one at its start
  times-end : (xs : List (LeafAt K V)) (p : ℕ) → last_slot None xs ≡ Some p → 1 ≤ times p xs
  times-end xs p last =
      let e = ends_with-first xs p last in
      omega (arith, times-here e.0 [] e.1, ap (times p) e.2 ∙ ap (λ n. times n (e.0 ++ e.1 ∷ [])) (sym e.3))

  times-start : (ys : List (LeafAt K V)) (p : ℕ) → first_slot ys None ≡ Some p → 1 ≤ times p ys
  times-start [] p first = absurd (cc)
  times-start (y ∷ ys) p first =
      let is : y.slot ≡ p = cc in
      let one : times p (y ∷ []) ≡ 1 = rw (is, eqb-self p) refl in
      omega (arith, one)

  -- the next slot of the last leaf changes
  pub relink_end : (old new : ℕ → Option Links) (xs : List (LeafAt K V)) (p : ℕ) (was after : Option ℕ) → ((n : ℕ) → times n xs ≤ 1) → last_slot None xs
      ≡ Some p → AreLinked old None xs was → ((links : Links) → old p ≡ Some links → UpdatesAt old new p (Some (record links { next = after })))
      → AreLinked new None xs after
  relink_end old new xs p was after once last linked updates =
      let e = ends_with-first xs p last in
      let zs = e.0 in
      let z = e.1 in
      let parts : AreLinked old None (zs ++ z ∷ []) was = rw e.2 at linked in
      let left = AreLinked-left old None zs (z ∷ []) was parts in
      let right = AreLinked-right old None zs (z ∷ []) was parts in
      let there : old p ≡ Some (record { previous = last_slot None zs; next = was }) = ap old (sym e.3) ∙ right.0 in
      let update = updates _ there in
      let count : times p zs + times p (z ∷ []) ≤ 1 = rw (e.2, times-append p zs (z ∷ [])) at (once p) in
      let one : times p (z ∷ []) ≡ 1 = rw (e.3, eqb-self p) refl in
      let kept = AreLinked-frame old new p _ update None zs (Some z.slot) (omega arith) left in
      rw e.2 (AreLinked-join new None zs (z ∷ []) after kept (ap new e.3 ∙ update.changed, tt))

  -- what the end of a list links to
  pub end_there : (links : ℕ → Option Links) (xs : List (LeafAt K V)) (p : ℕ) (after : Option ℕ) → last_slot None xs ≡ Some p → AreLinked links None xs after → IsSome (links p)
  end_there links xs p after last linked =
      let e = ends_with-first xs p last in
      let right = AreLinked-right links None e.0 (e.1 ∷ []) after (rw e.2 at linked) in
      rw (← e.3, right.0) refl

  -- what the end of the first of two lists links to may change
  pub halves-end : (old new : ℕ → Option Links) (xs : List (LeafAt K V)) (after before : Option ℕ) (ys : List (LeafAt K V)) (p : ℕ) (next : Option ℕ)
      → AreHalves old xs after before ys → last_slot None xs ≡ Some p → ((was : Links) → old p ≡ Some was → UpdatesAt old new p (Some (record was { next = next })))
      → AreHalves new xs next before ys
  halves-end old new xs after before ys p next halves last updates =
      let there = some_of (old p) (end_there old xs p after last halves.left) in
      let update = updates there.0 there.1 in
      let none : times p ys ≡ 0 = omega (arith, halves.once p, times-end xs p last) in
      record {
        left = relink_end old new xs p after next (λ n. let b = halves.once n in omega (arith, b)) last halves.left updates;
        right = AreLinked-frame old new p _ update before ys None none halves.right;
        once = halves.once;
      }

  -- what the start of the second links back to may change
  pub halves-start : (old new : ℕ → Option Links) (xs : List (LeafAt K V)) (after before : Option ℕ) (ys : List (LeafAt K V)) (p : ℕ) (previous : Option ℕ)
      → AreHalves old xs after before ys → first_slot ys None ≡ Some p → ((was : Links) → old p ≡ Some was → UpdatesAt old new p (Some (record was { previous = previous })))
      → AreHalves new xs after previous ys
  halves-start old new xs after before [] p previous halves first updates = absurd (cc)
  halves-start old new xs after before (y ∷ ys) p previous halves first updates =
      let is : y.slot ≡ p = cc in
      let there : old p ≡ Some (record { previous = before; next = first_slot ys None }) = ap old (sym is) ∙ halves.right.0 in
      let update = updates _ there in
      let both = halves.once p in
      let one : times p (y ∷ []) ≡ 1 = rw (is, eqb-self p) refl in
      record {
        left = AreLinked-frame old new p _ update None xs after (omega (arith, both, one)) halves.left;
        right = (ap new is ∙ update.changed, AreLinked-frame old new p _ update (Some y.slot) ys None (omega (arith, both, one)) halves.right.1);
        once = halves.once;
      }

  -- where the first is empty there is no end to change, and so for the start of the second
  pub halves-no_end : (links : ℕ → Option Links) (xs : List (LeafAt K V)) (after before next : Option ℕ) (ys : List (LeafAt K V)) → AreHalves links xs after before ys → last_slot None xs ≡ None → AreHalves links xs next before ys
  halves-no_end links xs after before next ys halves last =
      record { left = rw (empty-first xs last) tt; right = halves.right; once = halves.once }

  pub halves-no_start : (links : ℕ → Option Links) (xs : List (LeafAt K V)) (after before previous : Option ℕ) (ys : List (LeafAt K V)) → AreHalves links xs after before ys → first_slot ys None ≡ None → AreHalves links xs after previous ys
  halves-no_start links xs after before previous [] halves first = record { left = halves.left; right = tt; once = halves.once }
  halves-no_start links xs after before previous (y ∷ ys) halves first = absurd (cc)

  -- a leaf that is in neither list may change its links
  pub halves-apart : (old new : ℕ → Option Links) (p : ℕ) (value : Option Links) (xs : List (LeafAt K V)) (after before : Option ℕ) (ys : List (LeafAt K V))
      → UpdatesAt old new p value → times p xs + times p ys ≡ 0 → AreHalves old xs after before ys → AreHalves new xs after before ys
  halves-apart old new p value xs after before ys update apart halves = record {
    left = AreLinked-frame old new p value update None xs after (omega (arith, apart)) halves.left;
    right = AreLinked-frame old new p value update before ys None (omega (arith, apart)) halves.right;
    once = halves.once;
  }

  -- two lists, each of which links to the other, are one; and a leaf between two lists, linked to by both, makes them one
  pub joined : (links : ℕ → Option Links) (xs ys : List (LeafAt K V)) → AreHalves links xs (first_slot ys None) (last_slot None xs) ys → AreLinked links None (xs ++ ys) None
  joined links xs ys halves = AreLinked-join links None xs ys None halves.left halves.right

  pub linked_in : (links : ℕ → Option Links) (xs ys : List (LeafAt K V)) (m : LeafAt K V) (leaf : ℕ) → m.slot ≡ leaf → AreHalves links xs (Some leaf) (Some leaf) ys
      → links leaf ≡ Some (record { previous = last_slot None xs; next = first_slot ys None }) → AreLinked links None (xs ++ m ∷ ys) None
  linked_in links xs ys m leaf is halves here = AreLinked-join links None xs (m ∷ ys) None (rw is halves.left) (rw is here, rw is halves.right)

  -- one list in two parts
  pub parted : (links : ℕ → Option Links) (xs ys : List (LeafAt K V)) → AreLinked links None (xs ++ ys) None → ((n : ℕ) → times n (xs ++ ys) ≤ 1) → AreHalves links xs (first_slot ys None) (last_slot None xs) ys
  parted links xs ys linked once = record {
    left = AreLinked-left links None xs ys None linked;
    right = AreLinked-right links None xs ys None linked;
    once = λ n. let o = once n in omega (arith, o, times-append n xs ys);
  }

  -- a leaf that is in neither of two lists is no end of them
  pub last-apart : (xs : List (LeafAt K V)) (p : ℕ) → times p xs ≡ 0 → last_slot None xs ≢ Some p
  last-apart xs p none last = omega (arith, times-end xs p last, none)

  pub first-apart : (ys : List (LeafAt K V)) (p : ℕ) → times p ys ≡ 0 → first_slot ys None ≢ Some p
  first-apart ys p none first = omega (arith, times-start ys p first, none)

  -- what the start of a list links back to
  pub start_there : (links : ℕ → Option Links) (before : Option ℕ) (ys : List (LeafAt K V)) (p : ℕ) → first_slot ys None ≡ Some p → AreLinked links before ys None → IsSome (links p)
  start_there links before [] p first linked = absurd (cc)
  start_there links before (y ∷ ys) p first linked = let is : y.slot ≡ p = cc in rw (← is, linked.0) refl

  -- the links of a leaf in a list
  pub link_there : (links : ℕ → Option Links) (xs : List (LeafAt K V)) (l : LeafAt K V) (ys : List (LeafAt K V)) (p : ℕ) → AreLinked links None (xs ++ l ∷ ys) None → l.slot ≡ p
      → links p ≡ Some (record { previous = last_slot None xs; next = first_slot ys None })
  link_there links xs l ys p linked is = ap links (sym is) ∙ (AreLinked-right links None xs (l ∷ ys) None linked).0

  -- a new leaf goes between the parts of a list
  pub can_link : (links : ℕ → Option Links) (xs ys : List (LeafAt K V)) (leaf : ℕ) → IsBeside links (xs ++ ys) leaf → CanLink links xs ys (last_slot None xs) leaf (first_slot ys None)
  can_link links xs ys leaf beside = record {
    after = first_slot ys None;
    before = last_slot None xs;
    halves = parted links xs ys beside.list.linked beside.list.once;
    last = refl;
    first = refl;
    apart = let a = beside.apart in omega (arith, a, times-append leaf xs ys);
    held = beside.held;
  }

  -- the parts of a list around one of its leaves
  pub around_leaf : (links : ℕ → Option Links) (xs : List (LeafAt K V)) (l : LeafAt K V) (ys : List (LeafAt K V)) → IsList links (xs ++ l ∷ ys) → AreHalves links xs (Some l.slot) (Some l.slot) ys
  around_leaf links xs l ys list = record {
    left = AreLinked-left links None xs (l ∷ ys) None list.linked;
    right = (AreLinked-right links None xs (l ∷ ys) None list.linked).1;
    once = λ n. let o = list.once n in omega (arith, o, times-append n xs (l ∷ ys));
  }

  -- or in the place of one of its leaves
  pub can_replace : (links : ℕ → Option Links) (xs : List (LeafAt K V)) (l : LeafAt K V) (ys : List (LeafAt K V)) (leaf : ℕ) → IsBeside links (xs ++ l ∷ ys) leaf → CanLink links xs ys (last_slot None xs) leaf (first_slot ys None)
  can_replace links xs l ys leaf beside =
      let parts = times-append leaf xs (l ∷ ys) in
      let a = beside.apart in
      record { after = Some l.slot; before = Some l.slot; halves = around_leaf links xs l ys beside.list; last = refl; first = refl; apart = omega (arith, a, parts); held = beside.held }

  -- both links of the new leaf are set
  pub both_set : (L0 L1 L2 : ℕ → Option Links) (xs ys : List (LeafAt K V)) (previous : Option ℕ) (leaf : ℕ) (next : Option ℕ) (can : CanLink L0 xs ys previous leaf next)
      → ((was : Links) → L0 leaf ≡ Some was → UpdatesAt L0 L1 leaf (Some (record was { previous = previous })))
      → ((was : Links) → L1 leaf ≡ Some was → UpdatesAt L1 L2 leaf (Some (record was { next = next })))
      → AreHalves L2 xs can.after can.before ys × (L2 leaf ≡ Some (record { previous = last_slot None xs; next = first_slot ys None }))
  both_set L0 L1 L2 xs ys previous leaf next can set1 set2 =
      let w = some_of (L0 leaf) can.held in
      let u1 = set1 w.0 w.1 in
      let u2 = set2 _ u1.changed in (
        halves-apart L1 L2 leaf _ xs can.after can.before ys u2 can.apart (halves-apart L0 L1 leaf _ xs can.after can.before ys u1 can.apart can.halves),
        u2.changed ∙ ap₂ (λ p n. Some (record { previous = p; next = n })) (sym can.last) (sym can.first),
      )

  -- the same place, its parts under other names
  relabel : (links : ℕ → Option Links) (xs ys : List (LeafAt K V)) (p q : Option ℕ) (leaf name : ℕ) (n o : Option ℕ) → p ≡ q → leaf ≡ name → n ≡ o → CanLink links xs ys p leaf n → CanLink links xs ys q name o
  relabel links xs ys p q leaf name n o e f g can = record {
    after = can.after;
    before = can.before;
    halves = can.halves;
    last = can.last ∙ e;
    first = can.first ∙ g;
    apart = subst (λ x. times x xs + times x ys ≡ 0) f can.apart;
    held = subst (λ x. IsSome (links x)) f can.held;
  }

  -- a leaf goes in between two that are told
  pub can_go_between : (links : ℕ → Option Links) (xs ys : List (LeafAt K V)) (p q : Option ℕ) (leaf : ℕ) → IsBeside links (xs ++ ys) leaf → last_slot None xs ≡ p → first_slot ys None ≡ q → CanLink links xs ys p leaf q
  can_go_between links xs ys p q leaf beside last first = relabel links xs ys _ p leaf leaf _ q last refl first (can_link links xs ys leaf beside)

  -- a leaf of a list has links
  pub in_list : (links : ℕ → Option Links) (xs : List (LeafAt K V)) (l : LeafAt K V) (ys : List (LeafAt K V)) (p : ℕ) → AreLinked links None (xs ++ l ∷ ys) None → l.slot ≡ p → IsSome (links p)
  in_list links xs l ys p linked is = rw (link_there links xs l ys p linked is) refl

  module _ (links : ℕ → Option Links) (xs : List (LeafAt K V)) (l : LeafAt K V) (ys : List (LeafAt K V)) (at : ℕ) (is : l.slot ≡ at) where
    -- what a look at the links of a leaf of the list tells
    pub previous_is : AreLinked links None (xs ++ l ∷ ys) None → (p : Option ℕ) → ((was : Links) → links at ≡ Some was → p ≡ was.previous) → last_slot None xs ≡ p
    previous_is linked p tells = sym (tells _ (link_there links xs l ys at linked is))

    pub next_is : AreLinked links None (xs ++ l ∷ ys) None → (n : Option ℕ) → ((was : Links) → links at ≡ Some was → n ≡ was.next) → first_slot ys None ≡ n
    next_is linked n tells = sym (tells _ (link_there links xs l ys at linked is))

    module _ (leaf name : ℕ) (same : leaf ≡ name) (beside : IsBeside links (xs ++ l ∷ ys) leaf) where
      pub can_go_before : (p : Option ℕ) → ((was : Links) → links at ≡ Some was → p ≡ was.previous) → CanLink links xs (l ∷ ys) p name (Some at)
      can_go_before p tells = relabel links xs (l ∷ ys) _ p leaf name _ (Some at) (previous_is beside.list.linked p tells) same (ap Some is) (can_link links xs (l ∷ ys) leaf beside)

      pub can_go_after : (n : Option ℕ) → ((was : Links) → links at ≡ Some was → n ≡ was.next) → CanLink links (xs ++ l ∷ []) ys (Some at) name n
      can_go_after n tells =
          let whole : xs ++ l ∷ ys ≡ (xs ++ l ∷ []) ++ ys = sym (append_assoc xs (l ∷ []) ys) in
          relabel links (xs ++ l ∷ []) ys _ (Some at) leaf name _ n (last_slot-append None xs (l ∷ []) ∙ ap Some is) same (next_is beside.list.linked n tells)
          (can_link links (xs ++ l ∷ []) ys leaf (subst (λ ls. IsBeside links ls leaf) whole beside))

      pub can_take_place : (p n : Option ℕ) → ((was : Links) → links at ≡ Some was → p ≡ was.previous) → ((was : Links) → links at ≡ Some was → n ≡ was.next) → CanLink links xs ys p name n
      can_take_place p n before after =
          relabel links xs ys _ p leaf name _ n (previous_is beside.list.linked p before) same (next_is beside.list.linked n after) (can_replace links xs l ys leaf beside)

-- where a leaf is linked in or taken out, those that aren't in the list keep their links

pub outside-apart : {K V : Type 0} (n : ℕ) (xs : List (LeafAt K V)) (l : LeafAt K V) (ys : List (LeafAt K V)) → times n (xs ++ l ∷ ys) ≡ 0 → n ≢ l.slot
outside-apart n xs l ys none e =
    let here = times-here xs ys l in
    let absent = subst (λ k. times k (xs ++ l ∷ ys) ≡ 0) e none in
    omega (arith, here, absent)

module _ {K V : Type 0} (old new : ℕ → Option Links) where
  pub kept-between : (xs ys : List (LeafAt K V)) (m : LeafAt K V) → KeepsOtherLinks old new (last_slot None xs) m.slot (first_slot ys None) → KeepsLinksOutside old new (xs ++ m ∷ ys)
  kept-between xs ys m kept n none =
      let parts : times n xs + times n (m ∷ ys) ≡ 0 = sym (times-append n xs (m ∷ ys)) ∙ none in
      kept n (outside-apart n xs m ys none) (last-apart xs n (omega (arith, parts))) (first-apart ys n (omega (arith, parts)))

  pub kept-around : (xs : List (LeafAt K V)) (l : LeafAt K V) (ys : List (LeafAt K V)) (p : ℕ) → l.slot ≡ p → AreLinked old None (xs ++ l ∷ ys) None
      → ((was : Links) → old p ≡ Some was → KeepsOtherLinks old new was.previous p was.next) → KeepsLinksOutside old new (xs ++ l ∷ ys)
  kept-around xs l ys p is linked kept = kept-between xs ys l (rw is (kept _ (link_there old xs l ys p linked is)))

  module _ (xs : List (LeafAt K V)) (l m : LeafAt K V) (ys : List (LeafAt K V)) (at leaf : ℕ) (is : l.slot ≡ at) (new_is : m.slot ≡ leaf) (linked : AreLinked old None (xs ++ l ∷ ys) None) where
    pub kept-before : ((was : Links) → old at ≡ Some was → KeepsOtherLinks old new was.previous leaf (Some at)) → KeepsLinksOutside old new (xs ++ m ∷ l ∷ ys)
    kept-before kept = kept-between xs (l ∷ ys) m (rw (is, new_is) (kept _ (link_there old xs l ys at linked is)))

    pub kept-after : ((was : Links) → old at ≡ Some was → KeepsOtherLinks old new (Some at) leaf was.next) → KeepsLinksOutside old new ((xs ++ l ∷ []) ++ m ∷ ys)
    kept-after kept = kept-between (xs ++ l ∷ []) ys m (rw (last_slot-append None xs (l ∷ []), is, new_is) (kept _ (link_there old xs l ys at linked is)))

-- a run of leaves, told by its first and its last one
module _ {K V : Type 0} (links : ℕ → Option Links) (xs run ys : List (LeafAt K V)) (linked : AreLinked links None (xs ++ (run ++ ys)) None) where
  pub run_start : (p : ℕ) → first_slot run None ≡ Some p → (after : Option ℕ) × (links p ≡ Some (record { previous = last_slot None xs; next = after }))
  run_start p first = there run linked first
    where
      there : (ms : List (LeafAt K V)) → AreLinked links None (xs ++ (ms ++ ys)) None → first_slot ms None ≡ Some p → (after : Option ℕ) × (links p ≡ Some (record { previous = last_slot None xs; next = after }))
      there [] in_order e = absurd (cc)
      there (m ∷ ms) in_order e = (_, link_there links xs m (ms ++ ys) p in_order (cc))

  pub run_end : (p : ℕ) → last_slot None run ≡ Some p → (before : Option ℕ) × (links p ≡ Some (record { previous = before; next = first_slot ys None }))
  run_end p last =
      let e = ends_with-first run p last in
      let whole : xs ++ (run ++ ys) ≡ (xs ++ e.0) ++ e.1 ∷ ys = ap (λ ms. xs ++ (ms ++ ys)) e.2 ∙ ap (λ ms. xs ++ ms) (append_assoc e.0 (e.1 ∷ []) ys) ∙ sym (append_assoc xs e.0 (e.1 ∷ ys)) in
      (_, link_there links (xs ++ e.0) e.1 ys p (subst (λ ls. AreLinked links None ls None) whole linked) e.3)

  -- what is around it
  pub around_run : ((n : ℕ) → times n (xs ++ (run ++ ys)) ≤ 1) → AreHalves links xs (first_slot (run ++ ys) None) (last_slot (last_slot None xs) run) ys
  around_run once = record {
    left = AreLinked-left links None xs (run ++ ys) None linked;
    right = AreLinked-right links (last_slot None xs) run ys None (AreLinked-right links None xs (run ++ ys) None linked);
    once = λ m. let o = once m in omega (arith, o, times-append m xs (run ++ ys), times-append m run ys);
  }

  -- what a look at its ends tells
  pub run_previous : (p : ℕ) → first_slot run None ≡ Some p → (was : Option ℕ) → ((start : Links) → links p ≡ Some start → was ≡ start.previous) → last_slot None xs ≡ was
  run_previous p first was tells = sym (tells _ (run_start p first).1)

  pub run_next : (p : ℕ) → last_slot None run ≡ Some p → (was : Option ℕ) → ((end : Links) → links p ≡ Some end → was ≡ end.next) → first_slot ys None ≡ was
  run_next p last was tells = sym (tells _ (run_end p last).1)

-- so the leaves outside keep their links where a leaf takes its place
pub kept-run : {K V : Type 0} (old new : ℕ → Option Links) (xs run ys : List (LeafAt K V)) (m : LeafAt K V) (first last : ℕ) → AreLinked old None (xs ++ (run ++ ys)) None → first_slot run None ≡ Some first → last_slot None run ≡ Some last
    → ((start end : Links) → old first ≡ Some start → old last ≡ Some end → KeepsOtherLinks old new start.previous m.slot end.next) → KeepsLinksOutside old new (xs ++ m ∷ ys)
kept-run old new xs run ys m first last linked starts ends kept =
    kept-between old new xs ys m (kept _ _ (run_start old xs run ys linked first starts).1 (run_end old xs run ys linked last ends).1)

-- and where it goes
pub kept-without_run : {K V : Type 0} (old new : ℕ → Option Links) (xs run ys : List (LeafAt K V)) (first last : ℕ) → AreLinked old None (xs ++ (run ++ ys)) None → first_slot run None ≡ Some first → last_slot None run ≡ Some last
    → ((start end : Links) → old first ≡ Some start → old last ≡ Some end → (n : ℕ) → start.previous ≢ Some n → end.next ≢ Some n → new n ≡ old n) → KeepsLinksOutside old new (xs ++ (run ++ ys))
kept-without_run old new xs run ys first last linked starts ends kept n none =
    let parts = times-append n xs (run ++ ys) in
    let more = times-append n run ys in
    kept _ _ (run_start old xs run ys linked first starts).1 (run_end old xs run ys linked last ends).1 n (last-apart xs n (omega (arith, parts, none))) (first-apart ys n (omega (arith, parts, more, none)))

-- a new leaf goes in its place
pub can_take_run : {K V : Type 0} (links : ℕ → Option Links) (xs run ys : List (LeafAt K V)) (leaf name first last : ℕ) (p n : Option ℕ) → leaf ≡ name → IsBeside links (xs ++ (run ++ ys)) leaf
    → first_slot run None ≡ Some first → last_slot None run ≡ Some last → ((was : Links) → links first ≡ Some was → p ≡ was.previous) → ((was : Links) → links last ≡ Some was → n ≡ was.next)
    → CanLink links xs ys p name n
can_take_run links xs run ys leaf name first last p n same beside starts ends before after =
    let linked = beside.list.linked in
    relabel links xs ys _ p leaf name _ n (run_previous links xs run ys linked first starts p before) same (run_next links xs run ys linked last ends n after)
    (record {
      after = first_slot (run ++ ys) None;
      before = last_slot (last_slot None xs) run;
      halves = around_run links xs run ys linked beside.list.once;
      last = refl;
      first = refl;
      apart = let a = beside.apart in omega (arith, a, times-append leaf xs (run ++ ys), times-append leaf run ys);
      held = beside.held;
    })

-- a leaf that is in a list once isn't beside itself

alone : {K V : Type 0} (xs : List (LeafAt K V)) (l : LeafAt K V) (ys : List (LeafAt K V)) (p : ℕ) → l.slot ≡ p → ((n : ℕ) → times n (xs ++ l ∷ ys) ≤ 1) → times p xs + times p ys ≡ 0
alone xs l ys p is once =
    let one : times p (l ∷ []) ≡ 1 = rw (is, eqb-self p) refl in
    omega (arith, once p, times-append p xs (l ∷ ys), one)

pub not_before : {K V : Type 0} (xs : List (LeafAt K V)) (l : LeafAt K V) (ys : List (LeafAt K V)) (p : ℕ) → l.slot ≡ p → ((n : ℕ) → times n (xs ++ l ∷ ys) ≤ 1) → last_slot None xs ≢ Some p
not_before xs l ys p is once = last-apart xs p (omega (arith, alone xs l ys p is once))

pub not_after : {K V : Type 0} (xs : List (LeafAt K V)) (l : LeafAt K V) (ys : List (LeafAt K V)) (p : ℕ) → l.slot ≡ p → ((n : ℕ) → times n (xs ++ l ∷ ys) ≤ 1) → first_slot ys None ≢ Some p
not_after xs l ys p is once = first-apart ys p (omega (arith, alone xs l ys p is once))
