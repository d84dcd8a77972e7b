-- The walk over the names below a root: what was met, what waits, and which ways lead there.
use Rattle.std.proofs.Common.{◌≡◌, ◌≢◌, ◌⊎◌, ℕ, suc, ◌+◌, ◌-◌, min, ◌<◌, ◌≤◌, Bool, true, false, cond, ◌||◌, List, [], ◌∷◌, ◌++◌, reverse, replicate, length, take, Option, Some, None, IsSome, inl, inr, refl, sym, ap, ap₂, subst, ◌∙◌, arith, length-append}
use Rattle.std.specs.List.{AllByRecursion}
use Rattle.std.proofs.lemmas.Bool.Decides.{eqb_tells, leb_tells}
use Rattle.std.proofs.lemmas.List.{append-nil, length-replicate, reverse-append, reverse-reverse, take_all, take_at}
use Rattle.art_nodes.proofs.Common.{Name, InnerNode, IsInnerNode, IsAscending, IsAscendingFrom, names_of, child_at}
use Rattle.art_nodes.specs.declared.kind.NodeType.TheVariants.{Leaf}
use Rattle.art_arena.proofs.Common.{Arena, node_at, slots_of, Cell, pair, branches, leaf_name, copies, same_name, AreHeld, Links, node_of, same_name_tells, same_name-self, some_of, held_few, all_append}
use Rattle.art_walks.proofs.Terms.{child_in, led_to, HasDeadName, HasLoop, HasWrongCount, has_name, meets, AreOnce, IsOpened, IsMiscounted, cell_names, IsSkeleton}
use Rattle.art_walks.proofs.Skeletons.{Completes, completes-start, completes-end, completes-leaf, completes-inner}
use Rattle.art_walks.proofs.Ways.{led_to-edge, loop_of_edges, loop_of_root}

pub has-meets : (n : Name) (xs : List Name) → ((has_name n xs ≡ true) × (1 ≤ meets n xs)) ⊎ ((has_name n xs ≡ false) × (meets n xs ≡ 0))
has-meets n [] = inr (refl, refl)
has-meets n (x ∷ xs) = elim (same_name_tells n x) [
  | inl same ↦ inl (rw same.0 refl, rw same.0 (omega arith))
  | inr other ↦ elim (has-meets n xs) [
    | inl there ↦ inl (rw other.0 there.0, rw other.0 (omega (arith, there.1)))
    | inr none ↦ inr (rw other.0 none.0, rw other.0 (omega (arith, none.1)))
  ]
]

pub meets-append : (n : Name) (xs ys : List Name) → meets n (xs ++ ys) ≡ meets n xs + meets n ys
meets-append n [] ys = omega arith
meets-append n (x ∷ xs) ys = omega (arith, meets-append n xs ys)

meets-reverse : (n : Name) (xs : List Name) → meets n (reverse xs) ≡ meets n xs
meets-reverse n [] = refl
meets-reverse n (x ∷ xs) =
    let turned : meets n (reverse (x ∷ xs)) ≡ meets n (reverse xs ++ x ∷ []) = ap (meets n) (reverse-append (x ∷ []) xs) in
    omega (arith, turned, meets-append n (reverse xs) (x ∷ []), meets-reverse n xs)

turned : (xs : List Name) (x : Name) → reverse (xs ++ x ∷ []) ≡ x ∷ reverse xs
turned xs x = reverse-append xs (x ∷ [])

among_more : (n : Name) (xs : List Name) (q : Name) → has_name n (xs ++ q ∷ []) ≡ (same_name n q || has_name n xs)
among_more n [] q = refl
among_more n (x ∷ xs) q = ap (λ b. same_name n x || b) (among_more n xs q) ∙ turn (same_name n x) (same_name n q) (has_name n xs)
  where
    turn : (a b c : Bool) → (a || (b || c)) ≡ (b || (a || c))
    turn true true c = refl
    turn true false c = refl
    turn false b c = refl

-- A set of the names that were met stays that set.
pub seen-more : (met more old new : List Name) (q : Name) → more ≡ met ++ q ∷ [] → ((n : Name) → has_name n old ≡ has_name n met)
    → ((n : Name) → has_name n new ≡ (same_name n q || has_name n old)) → (n : Name) → has_name n new ≡ has_name n more
seen-more met more old new q e was now n = now n ∙ ap (λ b. same_name n q || b) (was n) ∙ sym (among_more n met q) ∙ ap (has_name n) (sym e)

pub seen-first : (met seen : List Name) → met ≡ [] → seen ≡ [] → (n : Name) → has_name n seen ≡ has_name n met
seen-first met seen e f n = ap (has_name n) (f ∙ sym e)

pub nearer : (s m n : ℕ) → n ≡ m + 1 → n ≤ s → s - n < s - m
nearer s m n e few = omega (arith, e, few)

meets-self : (n : Name) (xs : List Name) → meets n (n ∷ xs) ≡ 1 + meets n xs
meets-self n xs = ap (λ b. cond b 1 0 + meets n xs) (same_name-self n)

-- a child that stands among those of a node stands under some byte
record FoundUnder (q : Name) (low : ℕ) (cs : List (ℕ × Name)) : Type 0 where
  byte : ℕ
  above : low ≤ byte
  there : child_at cs byte ≡ Some q

record FoundTwice (q : Name) (cs : List (ℕ × Name)) : Type 0 where
  one : ℕ
  two : ℕ
  there : child_at cs one ≡ Some q
  there_too : child_at cs two ≡ Some q
  apart : one ≢ two

later_byte : (c : ℕ × Name) (cs : List (ℕ × Name)) (byte : ℕ) → c.0 + 1 ≤ byte → child_at (c ∷ cs) byte ≡ child_at cs byte
later_byte c cs byte above = elim (eqb_tells c.0 byte) [ inl same ↦ absurd (omega (arith, above, same.1)) | inr other ↦ rw other.0 refl ]

here_byte : (c : ℕ × Name) (cs : List (ℕ × Name)) → child_at (c ∷ cs) c.0 ≡ Some c.1
here_byte c cs = elim (eqb_tells c.0 c.0) [ inl same ↦ rw same.0 refl | inr other ↦ absurd (other.1 refl) ]

found : (q : Name) (low : ℕ) (cs : List (ℕ × Name)) → IsAscendingFrom low cs → 1 ≤ meets q (names_of cs) → FoundUnder q low cs
found q low [] rises h = absurd (omega (arith, h))
found q low (c ∷ cs) rises h = elim (same_name_tells q c.1) [
  | inl same ↦ record { byte = c.0; above = rises.0; there = here_byte c cs ∙ ap Some (sym same.1) }
  | inr other ↦
      let none : ◌≡◌ {A = ℕ} (cond (same_name q c.1) 1 0) 0 = ap (λ b. cond b 1 0) other.0 in
      let later = found q (c.0 + 1) cs rises.2 (omega (arith, h, none)) in
      let above = later.above in
      record { byte = later.byte; above = omega (arith, above, rises.0); there = later_byte c cs later.byte above ∙ later.there }
]

found_twice : (q : Name) (low : ℕ) (cs : List (ℕ × Name)) → IsAscendingFrom low cs → 2 ≤ meets q (names_of cs) → FoundTwice q cs
found_twice q low [] rises h = absurd (omega (arith, h))
found_twice q low (c ∷ cs) rises h = elim (same_name_tells q c.1) [
  | inl same ↦
      let one_here : ◌≡◌ {A = ℕ} (cond (same_name q c.1) 1 0) 1 = ap (λ b. cond b 1 0) same.0 in
      let later = found q (c.0 + 1) cs rises.2 (omega (arith, h, one_here)) in
      let above = later.above in
      record { one = c.0; two = later.byte; there = here_byte c cs ∙ ap Some (sym same.1); there_too = later_byte c cs later.byte above ∙ later.there; apart = λ e. omega (arith, above, e) }
  | inr other ↦
      let none : ◌≡◌ {A = ℕ} (cond (same_name q c.1) 1 0) 0 = ap (λ b. cond b 1 0) other.0 in
      let later = found_twice q (c.0 + 1) cs rises.2 (omega (arith, h, none)) in
      let one_above = at_least q (c.0 + 1) cs later.one rises.2 later.there in
      let two_above = at_least q (c.0 + 1) cs later.two rises.2 later.there_too in
      record { one = later.one; two = later.two; there = later_byte c cs later.one one_above ∙ later.there; there_too = later_byte c cs later.two two_above ∙ later.there_too; apart = later.apart }
]
  where
    at_least : (q : Name) (low : ℕ) (cs : List (ℕ × Name)) (byte : ℕ) → IsAscendingFrom low cs → child_at cs byte ≡ Some q → low ≤ byte
    at_least q low [] byte rises e = absurd (cc)
    at_least q low (c ∷ cs) byte rises e = elim (eqb_tells c.0 byte) [
      | inl same ↦ omega (arith, rises.0, same.1)
      | inr other ↦ let more = at_least q (c.0 + 1) cs byte rises.2 (rw other.0 at e) in omega (arith, more, rises.0)
    ]

module _ {K V : Type 0} where
  pub copies-named : (n : Name) (cs : List (Name × Cell K V)) → copies n cs ≡ meets n (cell_names cs)
  copies-named n [] = refl
  copies-named n (c ∷ cs) = ap (λ m. cond (same_name n c.0) 1 0 + m) (copies-named n cs)

  length-named : (cs : List (Name × Cell K V)) → length (cell_names cs) ≡ length cs
  length-named [] = refl
  length-named (c ∷ cs) = ap suc (length-named cs)

  abbrev children_there : Option (Cell K V) → List (ℕ × Name)
  children_there None = []
  children_there (Some (pair k v)) = []
  children_there (Some (branches node)) = node.children

  child_in-children : (o : Option (Cell K V)) (byte : ℕ) → child_in o byte ≡ child_at (children_there o) byte
  child_in-children None byte = refl
  child_in-children (Some (pair k v)) byte = refl
  child_in-children (Some (branches node)) byte = refl

  make : List (ℕ × Name) → ℕ → ℕ → List ℕ → Cell K V
  make children num len stored = branches (record { header = record { num_children = num; prefix_len = len; stored = stored }; children = children })

  -- a header's stored bytes are the front of some prefix of the length that it tells
  has_prefix : (P room : ℕ) (node : InnerNode) → IsInnerNode P room node → (prefix : List ℕ) × ◌≡◌ {A = Cell K V} (branches node) (node_of P prefix node.children)
  unfolding make
  has_prefix P room node is =
      let stored = node.header.stored in
      let len = node.header.prefix_len in
      let stores = is.header.stores in
      let prefix : List ℕ = stored ++ replicate (len - length stored) 0 in
      let lens : len ≡ length prefix = omega (arith, stores, length-replicate {A = ℕ} (len - length stored) 0, length-append stored (replicate (len - length stored) 0)) in
      (prefix, ap₂ (λ num l. make node.children num l stored) is.counts lens ∙ ap (make node.children (length node.children) (length prefix)) (front stored len stores))
    where
      front : (stored : List ℕ) (len : ℕ) → length stored ≡ min len P → stored ≡ take P (stored ++ replicate (len - length stored) 0)
      front stored len e = elim (leb_tells len P) [
        | inl short ↦
            let none : len - length stored ≡ 0 = omega (arith, e, short.1) in
            sym (take_all P stored (omega (arith, e))) ∙ ap (take P) (sym (append-nil stored)) ∙ ap (λ n. take P (stored ++ replicate n 0)) (sym none)
        | inr long ↦ sym (take_at stored (replicate (len - length stored) 0) P (omega (arith, e, long.1)))
      ]

  module _ (at : Name → Option (Cell K V)) where
    abbrev children : Name → List (ℕ × Name)
    children n = children_there (at n)

    abbrev AreAscending : List Name → Type 0
    AreAscending met = AllByRecursion (λ n. IsAscending (children n)) met

    -- on how many edges from these names one stands
    abbrev edges : Name → List Name → ℕ
    edges q [] = 0
    edges q (n ∷ rest) = meets q (names_of (children n)) + edges q rest

    edges-more : (q : Name) (met : List Name) (n : Name) → edges q (met ++ n ∷ []) ≡ edges q met + meets q (names_of (children n))
    edges-more q [] n = omega arith
    edges-more q (m ∷ met) n = omega (arith, edges-more q met n)

    record Edge (q : Name) (met : List Name) : Type 0 where
      from : Name
      byte : ℕ
      among : 1 ≤ meets from met
      leads : child_in (at from) byte ≡ Some q

    record TwoEdges (q : Name) (met : List Name) : Type 0 where
      one : Edge q met
      two : Edge q met
      apart : (one.from ≢ two.from) ⊎ (one.byte ≢ two.byte)

    among_later : (p n : Name) (met : List Name) → 1 ≤ meets p met → 1 ≤ meets p (n ∷ met)
    among_later p n met h = omega (arith, h)

    later_edge : (q n : Name) (met : List Name) → Edge q met → Edge q (n ∷ met)
    later_edge q n met e = record { from = e.from; byte = e.byte; among = among_later e.from n met e.among; leads = e.leads }

    here_edge : (q n : Name) (met : List Name) (byte : ℕ) → child_at (children n) byte ≡ Some q → Edge q (n ∷ met)
    here_edge q n met byte there = record { from = n; byte = byte; among = (let e = meets-self n met in omega (arith, e)); leads = child_in-children (at n) byte ∙ there }

    an_edge : (q : Name) (met : List Name) → AreAscending met → 1 ≤ edges q met → Edge q met
    an_edge q [] rises h = absurd (omega (arith, h))
    an_edge q (n ∷ met) rises h = elim (leb_tells 1 (meets q (names_of (children n)))) [
      | inl here ↦ let f = found q 0 (children n) rises.0 here.1 in here_edge q n met f.byte f.there
      | inr none ↦ later_edge q n met (an_edge q met rises.1 (omega (arith, h, none.1)))
    ]

    once_later : (n : Name) (met : List Name) → AreOnce (n ∷ met) → AreOnce met
    once_later n met once q = let o = once q in omega (arith, o)

    two_edges : (q : Name) (met : List Name) → AreAscending met → AreOnce met → 2 ≤ edges q met → TwoEdges q met
    unfolding here_edge later_edge
    two_edges q [] rises once h = absurd (omega (arith, h))
    two_edges q (n ∷ met) rises once h = elim (leb_tells 2 (meets q (names_of (children n)))) [
      | inl both ↦
          let f = found_twice q 0 (children n) rises.0 both.1 in
          record { one = here_edge q n met f.one f.there; two = here_edge q n met f.two f.there_too; apart = inr f.apart }
      | inr few ↦ elim (leb_tells 1 (meets q (names_of (children n)))) [
        | inl here ↦
            let f = found q 0 (children n) rises.0 here.1 in
            let e = an_edge q met rises.1 (omega (arith, h, few.1)) in
            let among = e.among in
            let o = once n in
            let self = meets-self n met in
            record {
              one = here_edge q n met f.byte f.there;
              two = later_edge q n met e;
              apart = inl (λ same. let there = subst (λ m. 1 ≤ meets m met) (sym same) among in omega (arith, there, o, self));
            }
        | inr none ↦
            let t = two_edges q met rises.1 (once_later n met once) (omega (arith, h, none.1)) in
            record { one = later_edge q n met t.one; two = later_edge q n met t.two; apart = t.apart }
      ]
    ]

    module _ (P : ℕ) (root : Name) where
      record IsLedTo (q : Name) : Type 0 where
        way : List ℕ
        leads : led_to at root way ≡ Some q

      -- These names were met and opened, each once, and those wait, the next at the end; what stands below the root is made of both.
      pub record IsNameWalk (met waiting : List Name) : Type 0 where
        pub complete : Completes P at root met (reverse waiting)
        pub once : AreOnce met
        rises : AreAscending met
        pub held : AllByRecursion (λ n. IsSome (at n)) met
        led : (q : Name) → 1 ≤ meets q met + meets q waiting → IsLedTo q
        counted : (q : Name) → meets q met + meets q waiting ≡ cond (same_name q root) 1 0 + edges q met

      walk-start : IsNameWalk [] (root ∷ [])
      walk-start = record {
        complete = completes-start P at root;
        once = λ n. omega arith;
        rises = tt;
        held = tt;
        led = λ q h. elim (same_name_tells q root) [
          | inl same ↦ record { way = []; leads = ap Some (sym same.1) }
          | inr other ↦ let none : ◌≡◌ {A = ℕ} (cond (same_name q root) 1 0) 0 = ap (λ b. cond b 1 0) other.0 in absurd (omega (arith, h, none))
        ];
        counted = λ q. omega arith;
      }

      pub walk-begin : (met waiting : List Name) → met ≡ [] → waiting ≡ root ∷ [] → IsNameWalk met waiting
      walk-begin met waiting e f = subst (λ m. IsNameWalk m waiting) (sym e) (subst (IsNameWalk []) (sym f) walk-start)

      pub walk-end : (met waiting : List Name) → IsNameWalk met waiting → waiting ≡ [] → IsSkeleton P at root met
      walk-end met waiting walk none = completes-end P at root met (subst (λ w. Completes P at root met (reverse w)) none walk.complete)

      module _ (met waiting rest : List Name) (q : Name) (walk : IsNameWalk met waiting) (top : waiting ≡ rest ++ q ∷ []) where
        split : (n : Name) → meets n waiting ≡ meets n rest + meets n (q ∷ [])
        split n = ap (meets n) top ∙ meets-append n rest (q ∷ [])

        here : IsLedTo q
        here = walk.led q (let s = split q in let self = meets-self q [] in omega (arith, s, self))

        complete_here : Completes P at root met (q ∷ reverse rest)
        complete_here = subst (Completes P at root met) (turned rest q) (subst (λ w. Completes P at root met (reverse w)) top walk.complete)

        module _ (bytes : K → List ℕ) (links : ℕ → Option Links) where
          pub walk-dead : at q ≡ None → HasDeadName bytes P at links root
          walk-dead dead = record { way = here.way; name = q; leads = here.leads; dead = dead }

          pub walk-miscounted : IsMiscounted at q → HasWrongCount bytes P at links root
          walk-miscounted w = record { way = here.way; name = q; node = w.node; leads = here.leads; held = w.held; wrong = w.wrong }

          way_to : (p : Name) → 1 ≤ meets p met → IsLedTo p
          way_to p h = walk.led p (omega (arith, h))

          pub walk-loop : has_name q met ≡ true → HasLoop bytes P at links root
          walk-loop seen =
              let again : 1 ≤ meets q met = elim (has-meets q met) [ inl there ↦ there.1 | inr none ↦ absurd (let f = sym seen ∙ none.0 in cc) ] in
              let both = walk.counted q in
              let s = split q in
              let self = meets-self q [] in
              elim (same_name_tells q root) [
                | inl same ↦
                    let one : ◌≡◌ {A = ℕ} (cond (same_name q root) 1 0) 1 = ap (λ b. cond b 1 0) same.0 in
                    let e = an_edge q met walk.rises (omega (arith, again, both, s, self, one)) in
                    let w = way_to e.from e.among in
                    loop_of_root bytes P at links root w.way e.from e.byte w.leads (e.leads ∙ ap Some same.1)
                | inr other ↦
                    let none : ◌≡◌ {A = ℕ} (cond (same_name q root) 1 0) 0 = ap (λ b. cond b 1 0) other.0 in
                    let t = two_edges q met walk.rises walk.once (omega (arith, again, both, s, self, none)) in
                    let one = t.one in
                    let two = t.two in
                    let v = way_to one.from one.among in
                    let w = way_to two.from two.among in
                    loop_of_edges bytes P at links root v.way w.way one.from two.from one.byte two.byte q v.leads w.leads one.leads two.leads t.apart
              ]

        module _ (new : has_name q met ≡ false) where
          absent : meets q met ≡ 0
          absent = elim (has-meets q met) [ inl there ↦ absurd (let f = sym new ∙ there.0 in cc) | inr none ↦ none.1 ]

          once_more : AreOnce (met ++ q ∷ [])
          once_more n =
              let parts = meets-append n met (q ∷ []) in
              let o = walk.once n in
              elim (same_name_tells n q) [
                | inl same ↦
                    let one : ◌≡◌ {A = ℕ} (cond (same_name n q) 1 0) 1 = ap (λ b. cond b 1 0) same.0 in
                    let none : meets n met ≡ 0 = ap (λ m. meets m met) same.1 ∙ absent in omega (arith, parts, one, none)
                | inr other ↦ let none : ◌≡◌ {A = ℕ} (cond (same_name n q) 1 0) 0 = ap (λ b. cond b 1 0) other.0 in omega (arith, parts, none, o)
              ]

          held_more : IsSome (at q) → AllByRecursion (λ n. IsSome (at n)) (met ++ q ∷ [])
          held_more there = all_append (λ n. IsSome (at n)) met (q ∷ []) walk.held (there, tt)

          rises_more : IsAscending (children q) → AreAscending (met ++ q ∷ [])
          rises_more there = all_append (λ n. IsAscending (children n)) met (q ∷ []) walk.rises (there, tt)

          -- whatever waits beside those that waited stands under some byte of this name
          led_more : (cs : List Name) → ((n : Name) → meets n cs ≡ meets n (names_of (children q))) → IsAscending (children q) → (n : Name) → 1 ≤ meets n (met ++ q ∷ []) + meets n (rest ++ cs) → IsLedTo n
          led_more cs same rising n h = elim (leb_tells 1 (meets n met + meets n waiting)) [
            | inl old ↦ walk.led n old.1
            | inr none ↦
                let parts = meets-append n met (q ∷ []) in
                let later = meets-append n rest cs in
                let s = split n in
                let c = same n in
                let f = found n 0 (children q) rising (omega (arith, h, none.1, parts, later, s, c)) in
                let w = here in
                record { way = w.way ++ f.byte ∷ []; leads = led_to-edge {V = V} (λ _. []) P at root w.way q f.byte n w.leads (child_in-children (at q) f.byte ∙ f.there) }
          ]

          counted_more : (cs : List Name) → ((n : Name) → meets n cs ≡ meets n (names_of (children q))) → (n : Name) → meets n (met ++ q ∷ []) + meets n (rest ++ cs) ≡ cond (same_name n root) 1 0 + edges n (met ++ q ∷ [])
          counted_more cs same n =
              let parts = meets-append n met (q ∷ []) in
              let later = meets-append n rest cs in
              let s = split n in
              let c = same n in
              let e = edges-more n met q in
              let was = walk.counted n in
              omega (arith, parts, later, s, c, e, was)

          pub walk-leaf : (k : K) (v : V) → at q ≡ Some (pair k v) → q.kind ≡ Leaf → IsNameWalk (met ++ q ∷ []) rest
          walk-leaf k v there kind =
              let named_so : q ≡ leaf_name q.slot = ap (λ x. record { kind = x; slot = q.slot }) kind in
              let childless : children q ≡ [] = ap children_there there in
              let rising : IsAscending (children q) = subst IsAscending (sym childless) tt in
              let none : (n : Name) → meets n [] ≡ meets n (names_of (children q)) = λ n. sym (ap (λ cs. meets n (names_of cs)) childless) in
              let plain : rest ++ [] ≡ rest = append-nil rest in
              record {
                complete = subst (λ x. Completes P at root (met ++ x ∷ []) (reverse rest)) (sym named_so)
                    (completes-leaf P at root met (reverse rest) q.slot k v (ap at (sym named_so) ∙ there) (subst (λ x. Completes P at root met (x ∷ reverse rest)) named_so complete_here));
                once = once_more;
                rises = rises_more rising;
                held = held_more (rw there refl);
                led = λ n h. led_more [] none rising n (subst (λ r. 1 ≤ meets n (met ++ q ∷ []) + meets n r) (sym plain) h);
                counted = λ n. subst (λ r. meets n (met ++ q ∷ []) + meets n r ≡ cond (same_name n root) 1 0 + edges n (met ++ q ∷ [])) plain (counted_more [] none n);
              }

          pub walk-inner : (new_waiting : List Name) → IsOpened at q P rest new_waiting → IsNameWalk (met ++ q ∷ []) new_waiting
          walk-inner new_waiting opened =
              let node = opened.node in
              let inside : children q ≡ node.children = ap children_there opened.held in
              let rising : IsAscending (children q) = subst IsAscending (sym inside) opened.is_inner.ascending in
              let same : (n : Name) → meets n (reverse (names_of node.children)) ≡ meets n (names_of (children q)) =
              λ n. meets-reverse n (names_of node.children) ∙ sym (ap (λ cs. meets n (names_of cs)) inside) in
              let prefixed = has_prefix P _ node opened.is_inner in
              let back : reverse (rest ++ reverse (names_of node.children)) ≡ names_of node.children ++ reverse rest =
              reverse-append rest (reverse (names_of node.children)) ∙ ap (λ xs. xs ++ reverse rest) (reverse-reverse (names_of node.children)) in
              subst (IsNameWalk (met ++ q ∷ [])) (sym opened.wait)
              (record {
                complete = subst (Completes P at root (met ++ q ∷ [])) (sym back)
                    (completes-inner P at root met (reverse rest) q prefixed.0 node.children (opened.held ∙ ap Some prefixed.1) opened.kind complete_here);
                once = once_more;
                rises = rises_more rising;
                held = held_more (rw opened.held refl);
                led = led_more (reverse (names_of node.children)) same rising;
                counted = counted_more (reverse (names_of node.children)) same;
              })

  -- no more names are met than the arena has slots
  module _ (arena : Arena K V) where
    record Cells (met : List Name) : Type 0 where
      list : List (Name × Cell K V)
      names_are : cell_names list ≡ met
      held : AreHeld (node_at arena) list

    cells_of : (met : List Name) → AllByRecursion (λ n. IsSome (node_at arena n)) met → Cells met
    cells_of [] h = record { list = []; names_are = refl; held = tt }
    cells_of (n ∷ met) h =
        let c = some_of (node_at arena n) h.0 in
        let later = cells_of met h.1 in
        record { list = (n, c.0) ∷ later.list; names_are = ap (λ ns. n ∷ ns) later.names_are; held = (c.1, later.held) }

    pub met_few : (met : List Name) → AllByRecursion (λ n. IsSome (node_at arena n)) met → AreOnce met → length met ≤ slots_of arena
    met_few met h once =
        let c = cells_of met h in
        let few = held_few arena c.list c.held (λ n. let e = copies-named n c.list ∙ ap (meets n) c.names_are in let o = once n in omega (arith, e, o)) in
        let long = sym (length-named c.list) ∙ ap length c.names_are in omega (arith, few, long)

    module _ (P : ℕ) (root : Name) where
      pub walk-few : (met waiting : List Name) → IsNameWalk (node_at arena) P root met waiting → length met ≤ slots_of arena
      walk-few met waiting walk = met_few met walk.held walk.once
