-- A list by tenants, of which a test passes all that some tenants have, and of one tenant what passes.
use Rattle.std.proofs.Common.{◌≡◌, ℕ, List, [], ◌∷◌, ◌++◌, refl, ap, sym, ◌∙◌, Bool, true, false, not, append-nil}
use Rattle.std.specs.Prelude.{◌==◌, ◌||◌, ◌&&◌, nat_lt, map, filter}
use Rattle.std.specs.List.{AllByRecursion}
use Rattle.std.proofs.Math.Bool.{and-true, and-false}
use Rattle.std.proofs.lemmas.Bool.{both_ways, eq-eqb, eqb-true, false_from_ne_true, or_left}
use Rattle.std.proofs.lemmas.List.{map-append}
use Rattle.std.proofs.lemmas.List.Elements.{filter-append}
use Rattle.art_arena.proofs.Common.{all_weaker}
use Rattle.art_arena.proofs.tree.Filters.{filter_none}
use Rattle.art_engine.proofs.Filters.{InOrder-filter, filter-both, filter-inside, filter-same, map-filter}
use Rattle.art_engine.proofs.OwnLaws.{Ascends, higher, higher_other, in_place, lower, lower_other, made, mine, not_both, not_lower, part_of}
use Rattle.art_engine.proofs.Terms.{Record, own_part, with_part}

module _ {K : Type 0} (t : ℕ) (S : ℕ → Bool) (T : Record K → Bool) (G : K → Bool) where
  -- it passes what tenants have that pass, and of the tenant's own what has a key that passes
  abbrev pub IsPartTest : Record K → Type 0
  IsPartTest r = T r ≡ (S r.tenant || ((r.tenant == t) && G r.key))

  module _ (others : S t ≡ false) (rs : List (Record K)) (cut : AllByRecursion IsPartTest rs) where
    pub own_cut : own_part t (filter T rs) ≡ filter (λ p. G p.0) (own_part t rs)
    own_cut =
        ap (map part_of)
        (sym (filter-both T (λ r. r.tenant == t) rs) ∙ filter-same (λ r. T r && (r.tenant == t)) (λ r. (r.tenant == t) && G r.key) rs
        (all_weaker IsPartTest (λ r. (T r && (r.tenant == t)) ≡ ((r.tenant == t) && G r.key)) (λ r. alike r (r.tenant == t) refl) rs cut)
        ∙ filter-both (λ r. r.tenant == t) (λ r. G r.key) rs)
        ∙ map-filter part_of (λ p. G p.0) (mine t rs)
      where
        alike : (r : Record K) (b : Bool) → (r.tenant == t) ≡ b → T r ≡ (S r.tenant || (b && G r.key)) → (T r && b) ≡ (b && G r.key)
        alike r true e is = let no : S r.tenant ≡ false = ap S (eqb-true r.tenant t e) ∙ others in and-true (T r) ∙ is ∙ rw no refl
        alike r false e is = and-false (T r)

    -- of tenants that all pass all is there, and of those that don't nothing
    pub kept : (q : ℕ → Bool) → ((u : ℕ) → q u ≡ true → S u ≡ true) → filter (λ r. q r.tenant) (filter T rs) ≡ filter (λ r. q r.tenant) rs
    kept q within = filter-inside (λ r. q r.tenant) T rs (all_weaker IsPartTest (λ r. q r.tenant ≡ true → T r ≡ true) (λ r is e. is ∙ or_left _ _ (within r.tenant e)) rs cut)

    pub gone : (q : ℕ → Bool) → q t ≡ false → ((u : ℕ) → q u ≡ true → S u ≡ false) → filter (λ r. q r.tenant) (filter T rs) ≡ []
    gone q not_own apart =
        sym (filter-both T (λ r. q r.tenant) rs) ∙ filter_none (λ r. T r && q r.tenant) rs (all_weaker IsPartTest (λ r. (T r && q r.tenant) ≡ false) (λ r. none r (q r.tenant) refl) rs cut)
      where
        none : (r : Record K) (b : Bool) → q r.tenant ≡ b → IsPartTest r → (T r && b) ≡ false
        none r true e is =
            let other : (r.tenant == t) ≡ false = false_from_ne_true _ (λ same. both_ways (q t) not_own (sym (ap q (eqb-true r.tenant t same)) ∙ e)) in
            and-true (T r) ∙ is ∙ rw (apart r.tenant e, other) refl
        none r false e is = and-false (T r)

module _ {K : Type 0} (t : ℕ) where
  -- records are told by their parts
  by_parts : (ps : List (K × List ℕ)) (rs new : List (Record K)) → Ascends new → lower t new ≡ lower t rs → own_part t new ≡ ps → higher t new ≡ higher t rs → new ≡ with_part t ps rs
  by_parts ps rs new up low own high = sym (in_place t new up) ∙ rw (low, own, high) refl

  -- without those of the tenant that pass, they are what is left with the tenant's others in place
  pub left_in_place : (T : Record K → Bool) (G : K → Bool) (rs : List (Record K)) → AllByRecursion (IsPartTest t (λ u. false) T G) rs → Ascends rs
      → filter (λ r. not (T r)) rs ≡ with_part t (filter (λ p. not (G p.0)) (own_part t rs)) rs
  left_in_place T G rs cut up =
      let S : ℕ → Bool = λ u. not (u == t) in
      let apart : S t ≡ false = ap not (eq-eqb t t refl) in
      let rest = all_weaker (IsPartTest t (λ u. false) T G) (IsPartTest t S (λ r. not (T r)) (λ k. not (G k))) (λ r is. ap not is ∙ turned (r.tenant == t) (G r.key)) rs cut in
      by_parts _ rs (filter (λ r. not (T r)) rs) (InOrder-filter _ (λ r. not (T r)) rs up)
      (kept t S (λ r. not (T r)) (λ k. not (G k)) apart rs rest (λ u. nat_lt u t) (λ u e. ap not (lower_other t u e)))
      (own_cut t S (λ r. not (T r)) (λ k. not (G k)) apart rs rest)
      (kept t S (λ r. not (T r)) (λ k. not (G k)) apart rs rest (λ u. nat_lt t u) (λ u e. ap not (higher_other t u e)))
    where
      turned : (a b : Bool) → not (a && b) ≡ (not a || (a && not b))
      turned true b = refl
      turned false b = refl

  -- one more part between what of the tenant's own is below it and what is above it
  module _ (T U : Record K → Bool) (G H : K → Bool) (rs : List (Record K)) (below : AllByRecursion (IsPartTest t (λ u. nat_lt u t) T G) rs) (above : AllByRecursion (IsPartTest t (λ u. nat_lt t u) U H) rs) where
    pub put_in_place : (p : K × List ℕ) → Ascends (filter T rs ++ made t p ∷ filter U rs)
        → filter T rs ++ made t p ∷ filter U rs ≡ with_part t (filter (λ q. G q.0) (own_part t rs) ++ p ∷ filter (λ q. H q.0) (own_part t rs)) rs
    put_in_place p up =
        let A : List (Record K) = filter T rs in let B : List (Record K) = filter U rs in let no = not_lower t in
        let mine_is : (t == t) ≡ true = eq-eqb t t refl in
        by_parts _ rs (A ++ made t p ∷ B) up
        (filter-append (λ r. nat_lt r.tenant t) A (made t p ∷ B) ∙ rw (no, kept t (λ u. nat_lt u t) T G no rs below (λ u. nat_lt u t) (λ u e. e), gone t (λ u. nat_lt t u) U H no rs above (λ u. nat_lt u t) no (λ u. not_both u t)) (append-nil (lower t rs)))
        (ap (map part_of) (filter-append (λ r. r.tenant == t) A (made t p ∷ B)) ∙ map-append part_of (mine t A) (mine t (made t p ∷ B))
        ∙ rw (mine_is, own_cut t (λ u. nat_lt u t) T G no rs below, own_cut t (λ u. nat_lt t u) U H no rs above) refl)
        (filter-append (λ r. nat_lt t r.tenant) A (made t p ∷ B) ∙ rw (no, gone t (λ u. nat_lt u t) T G no rs below (λ u. nat_lt t u) no (λ u. not_both t u), kept t (λ u. nat_lt t u) U H no rs above (λ u. nat_lt t u) (λ u e. e)) refl)
