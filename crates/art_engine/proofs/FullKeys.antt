-- Full keys: their order is that of tenants and then keys, and they conflict where one tenant's keys do.
use Rattle.std.proofs.Common.{◌≡◌, ℕ, suc, ◌+◌, ◌*◌, ◌/◌, ◌%◌, ◌^◌, ◌<◌, ◌≤◌, ◌⊎◌, List, length, refl, ap, sym, ◌∙◌, subst, Bool, true, false, arith, inl, inr}
use Rattle.std.specs.List.{starts_with}
use Rattle.std.specs.Prelude.{◌==◌, ◌&&◌, nat_lt, nat_eq}
use Rattle.std.specs.declared.cmp.Ordering.TheVariants.{Less, Equal, Greater}
use Rattle.std.specs.Ordering.{nat_cmp, is_lt, ordering_reverse, ordering_then}
use Rattle.std.proofs.Math.Bool.{and-or_distrib_left}
use Rattle.std.proofs.lemmas.Bool.{and_parts, false_from_ne_true, eq-eqb, ne_eqb, eqb-true, lt-ltb, le-ltb, cases_eq, cases_lt, cases_order, true≢false}
use Rattle.std.proofs.lemmas.Cmp.{nat_list_cmp_total}
use Rattle.art_bytes.proofs.Common.{bytes_cmp, is_proper_front, IsBefore, before_cmp, cmp_before, conflict_told}
use Rattle.art_engine.proofs.Terms.{KeyRecord, KeyComesBefore, FullKeysKeepOrder, FullKeysKeepConflicts}
use Rattle.art_engine.proofs.KeyOrder.{cmp_less}
use Rattle.art_lines.proofs.Common.{full_key}

pub cmp_low : (t u : ℕ) → t < u → nat_cmp t u ≡ Less
cmp_low t u h = rw (lt-ltb t u h) refl

pub cmp_high : (t u : ℕ) → u < t → nat_cmp t u ≡ Greater
cmp_high t u h = let ge : u ≤ t = omega arith in rw (le-ltb t u ge, ne_eqb t u (λ e. omega arith)) refl

pub cmp_itself : (t : ℕ) → nat_cmp t t ≡ Equal
cmp_itself t = let ge : t ≤ t = omega arith in rw (le-ltb t t ge, eq-eqb t t refl) refl

-- a tenant by its four bytes
four : (t : ℕ) → t < 2 ^ 32 → t ≡ ((t / 16777216 % 256 * 256 + t / 65536 % 256) * 256 + t / 256 % 256) * 256 + t % 256
four t small = omega arith

-- one full key is before another one where its tenant is lower, or where it is the same and the key is before the other
pub full_from_parts : (t u : ℕ) (k j : List ℕ) → t < 2 ^ 32 → u < 2 ^ 32 → (t < u) ⊎ ((t ≡ u) × IsBefore k j) → IsBefore (full_key t k) (full_key u j)
full_from_parts t u k j ht hu (inr (same, before)) = subst (λ v. IsBefore (full_key t k) (full_key v j)) same (inr (refl, inr (refl, inr (refl, inr (refl, before)))))
full_from_parts t u k j ht hu (inl low) =
    let whole = four t ht in let other_whole = four u hu in
    elim (cases_lt (t / 16777216 % 256) (u / 16777216 % 256)) [
      | inl lt ↦ inl lt
      | inr a ↦ inr (
        omega arith,
        elim (cases_lt (t / 65536 % 256) (u / 65536 % 256)) [
          | inl lt ↦ inl lt
          | inr b ↦ inr (
            omega arith,
            elim (cases_lt (t / 256 % 256) (u / 256 % 256)) [
              | inl lt ↦ inl lt
              | inr c ↦ inr (omega arith, inl (omega arith))
            ],
          )
        ],
      )
    ]

pub parts_from_full : (t u : ℕ) (k j : List ℕ) → t < 2 ^ 32 → u < 2 ^ 32 → IsBefore (full_key t k) (full_key u j) → (t < u) ⊎ ((t ≡ u) × IsBefore k j)
parts_from_full t u k j ht hu before = let whole = four t ht in let other_whole = four u hu in elim before [
  | inl lt ↦ inl (omega arith)
  | inr (a, inl lt) ↦ inl (omega arith)
  | inr (a, inr (b, inl lt)) ↦ inl (omega arith)
  | inr (a, inr (b, inr (c, inl lt))) ↦ inl (omega arith)
  | inr (a, inr (b, inr (c, inr (d, rest)))) ↦ inr (omega arith, rest)
]

pub cmp-full_key : (t u : ℕ) (k j : List ℕ) → t < 2 ^ 32 → u < 2 ^ 32 → bytes_cmp (full_key t k) (full_key u j) ≡ ordering_then (nat_cmp t u) (bytes_cmp k j)
cmp-full_key t u k j ht hu = elim (cases_order t u) [
  | inl same ↦
      subst (λ v. bytes_cmp (full_key t k) (full_key v j) ≡ ordering_then (nat_cmp t v) (bytes_cmp k j)) same
      (rw (cmp_itself (t / 16777216 % 256), cmp_itself (t / 65536 % 256), cmp_itself (t / 256 % 256), cmp_itself (t % 256), cmp_itself t) refl)
  | inr (inl low) ↦ before_cmp (full_key t k) (full_key u j) (full_from_parts t u k j ht hu (inl low)) ∙ rw (cmp_low t u low) refl
  | inr (inr high) ↦
      nat_list_cmp_total.antisymm (full_key t k) (full_key u j) ∙ ap ordering_reverse (before_cmp (full_key u j) (full_key t k) (full_from_parts u t j k hu ht (inl high)))
      ∙ rw (cmp_high t u high) refl
]

pub full_keys_keep_order : FullKeysKeepOrder
full_keys_keep_order t u k j ht hu = ap is_lt (cmp-full_key t u k j ht hu) ∙ elim (cases_lt t u) [
  | inl low ↦ rw (lt-ltb t u low) refl
  | inr ge ↦ elim (cases_lt u t) [
    | inl high ↦ rw (le-ltb t u ge, ne_eqb t u (λ e. omega arith)) refl
    | inr le ↦ let same : t ≡ u = omega arith in rw (le-ltb t u ge, eq-eqb t u same) refl
  ]
]

-- the tests of four bytes are that of the tenants
pub same_tenants : (t u : ℕ) (r : Bool) → t < 2 ^ 32 → u < 2 ^ 32
    → ((t / 16777216 % 256 == u / 16777216 % 256) && ((t / 65536 % 256 == u / 65536 % 256) && ((t / 256 % 256 == u / 256 % 256) && ((t % 256 == u % 256) && r)))) ≡ ((t == u) && r)
same_tenants t u r ht hu = elim (cases_eq t u) [
  | inl same ↦
      rw (
        eq-eqb (t / 16777216 % 256) (u / 16777216 % 256) (ap (λ n. n / 16777216 % 256) same),
        eq-eqb (t / 65536 % 256) (u / 65536 % 256) (ap (λ n. n / 65536 % 256) same),
        eq-eqb (t / 256 % 256) (u / 256 % 256) (ap (λ n. n / 256 % 256) same),
        eq-eqb (t % 256) (u % 256) (ap (λ n. n % 256) same),
        eq-eqb t u same,
      ) refl
  | inr other ↦ false_from_ne_true _ (λ h. other (same_bytes h)) ∙ sym (ap (λ b. b && r) (ne_eqb t u other))
]
  where
    same_bytes : ((t / 16777216 % 256 == u / 16777216 % 256) && ((t / 65536 % 256 == u / 65536 % 256) && ((t / 256 % 256 == u / 256 % 256) && ((t % 256 == u % 256) && r)))) ≡ true → t ≡ u
    same_bytes h =
        let a = and_parts _ _ h in let b = and_parts _ _ a.1 in let c = and_parts _ _ b.1 in let d = and_parts _ _ c.1 in
        let e : t / 16777216 % 256 ≡ u / 16777216 % 256 = eqb-true _ _ a.0 in let f : t / 65536 % 256 ≡ u / 65536 % 256 = eqb-true _ _ b.0 in
        let g : t / 256 % 256 ≡ u / 256 % 256 = eqb-true _ _ c.0 in let i : t % 256 ≡ u % 256 = eqb-true _ _ d.0 in
        let whole = four t ht in let other_whole = four u hu in omega arith

front-full_key : (t u : ℕ) (k j : List ℕ) → t < 2 ^ 32 → u < 2 ^ 32 → is_proper_front (full_key t k) (full_key u j) ≡ ((t == u) && is_proper_front k j)
front-full_key t u k j ht hu = rw (four_lt (length k) (length j)) (ap (λ b. nat_lt (length k) (length j) && b) (same_tenants t u (starts_with nat_eq j k) ht hu) ∙ turned (nat_lt (length k) (length j)) (t == u) (starts_with nat_eq j k))
  where
    four_lt : (m n : ℕ) → nat_lt (suc (suc (suc (suc m)))) (suc (suc (suc (suc n)))) ≡ nat_lt m n
    four_lt m n = elim (cases_lt m n) [
      | inl low ↦ lt-ltb (suc (suc (suc (suc m)))) (suc (suc (suc (suc n)))) (omega arith) ∙ sym (lt-ltb m n low)
      | inr high ↦ le-ltb (suc (suc (suc (suc m)))) (suc (suc (suc (suc n)))) (omega arith) ∙ sym (le-ltb m n high)
    ]

    turned : (a b c : Bool) → (a && (b && c)) ≡ (b && (a && c))
    turned true b c = refl
    turned false true c = refl
    turned false false c = refl

pub eq_turned : (t u : ℕ) → (t == u) ≡ (u == t)
eq_turned t u = elim (cases_eq t u) [
  | inl same ↦ eq-eqb t u same ∙ sym (eq-eqb u t (sym same))
  | inr other ↦ ne_eqb t u other ∙ sym (ne_eqb u t (λ e. other (sym e)))
]

pub full_keys_keep_conflicts : FullKeysKeepConflicts
full_keys_keep_conflicts t u k j ht hu = rw (front-full_key t u k j ht hu, front-full_key u t j k hu ht, eq_turned u t) (sym (and-or_distrib_left (t == u) (is_proper_front k j) (is_proper_front j k)))

-- keys in order, as they are among full keys
pub key_parts : (r s : KeyRecord) → KeyComesBefore r s → (r.tenant < s.tenant) ⊎ ((r.tenant ≡ s.tenant) × IsBefore r.key s.key)
key_parts r s (inl low) = inl low
key_parts r s (inr up) = inr (up.0, cmp_before r.key s.key (cmp_less r.key s.key up.1) (λ c. true≢false (sym (conflict_told r.key s.key c) ∙ up.2)))
