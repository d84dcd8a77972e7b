-- Tests of full keys: they pass where the tenant is the same and its key passes.
use Rattle.std.proofs.Common.{◌≡◌, ℕ, ◌<◌, ◌^◌, List, refl, ap, ap₂, sym, ◌∙◌, Bool, true, false, not, arith, inl, inr}
use Rattle.std.specs.Prelude.{◌==◌, ◌&&◌}
use Rattle.std.specs.Str.{bytes_eq}
use Rattle.std.specs.declared.cmp.Ordering.{Ordering}
use Rattle.std.specs.declared.cmp.Ordering.TheVariants.{Less, Equal}
use Rattle.std.specs.declared.ops.Bound.TheVariants.{Included, Excluded}
use Rattle.std.specs.Ordering.{nat_cmp, is_le, is_gt, ordering_then}
use Rattle.std.specs.Cmp.Lexicographic.{slice_cmp}
use Rattle.std.specs.BTreeMap.Range.{IsLeBy, range_contains}
use Rattle.std.proofs.Math.Bool.{and-or_distrib_left, not-not}
use Rattle.std.proofs.lemmas.Bool.{eq-eqb, ne_eqb, cases_lt}
use Rattle.std.proofs.lemmas.Cmp.{nat_list_cmp_total}
use Rattle.art_bytes.proofs.Common.{is_below, bytes_cmp}
use Rattle.art_arena.proofs.Common.{begins_with}
use Rattle.art_operations.proofs.Common.{overlaps}
use Rattle.art_lines.proofs.Common.{full_key}
use Rattle.art_engine.proofs.FullKeys.{cmp-full_key, cmp_low, cmp_high, cmp_itself, eq_turned, same_tenants}
use Rattle.art_engine.proofs.KeyOrder.{le-reverse, not_gt-reverse}

-- a front of a full key, with the tenant whole
pub begins_full : (t u : ℕ) (k j : List ℕ) → t < 2 ^ 32 → u < 2 ^ 32 → begins_with (full_key t k) (full_key u j) ≡ ((u == t) && begins_with k j)
begins_full t u k j ht hu = same_tenants t u (begins_with k j) ht hu ∙ ap (λ b. b && begins_with k j) (eq_turned t u)

-- the same full key
pub same_full : (t u : ℕ) (k j : List ℕ) → t < 2 ^ 32 → u < 2 ^ 32 → bytes_eq (full_key u j) (full_key t k) ≡ ((u == t) && bytes_eq j k)
same_full t u k j ht hu = same_tenants u t (bytes_eq j k) hu ht

-- full keys that overlap
pub overlaps_full : (t u : ℕ) (k j : List ℕ) → t < 2 ^ 32 → u < 2 ^ 32 → overlaps (full_key t k) (full_key u j) ≡ ((u == t) && overlaps k j)
overlaps_full t u k j ht hu =
    rw (begins_full t u k j ht hu, begins_full u t j k hu ht, eq_turned t u) (sym (and-or_distrib_left (u == t) (begins_with k j) (begins_with j k)))

pub le_turned : (a b : List ℕ) → is_le (slice_cmp nat_cmp a b) ≡ not (is_below b a)
le_turned a b = ap is_le (nat_list_cmp_total.antisymm a b) ∙ le-reverse (slice_cmp nat_cmp b a)

-- full keys from one on, and not past another one, both of the same tenant
pub within_full : (t u : ℕ) (low high j : List ℕ) (past : Ordering → Bool) → past Less ≡ true → t < 2 ^ 32 → u < 2 ^ 32
    → (is_le (bytes_cmp (full_key t low) (full_key u j)) && not (past (bytes_cmp (full_key t high) (full_key u j)))) ≡ ((u == t) && (is_le (bytes_cmp low j) && not (past (bytes_cmp high j))))
within_full t u low high j past ends ht hu = rw (cmp-full_key t u low j ht hu, cmp-full_key t u high j ht hu) (elim (cases_lt t u) [
  | inl less ↦ rw (cmp_low t u less, ne_eqb u t (λ e. omega arith)) (ap not ends)
  | inr ge ↦ elim (cases_lt u t) [
    | inl more ↦ rw (cmp_high t u more, ne_eqb u t (λ e. omega arith)) refl
    | inr le ↦
        let same : u ≡ t = omega arith in
        let equal : nat_cmp t u ≡ Equal = ap (nat_cmp t) same ∙ cmp_itself t in
        rw (equal, eq-eqb u t same) refl
  ]
])

-- so those from one on and below another one
pub between_full : (t u : ℕ) (low high j : List ℕ) → t < 2 ^ 32 → u < 2 ^ 32
    → range_contains bytes_cmp (Included (full_key t low)) (Excluded (full_key t high)) (full_key u j) ≡ ((u == t) && (not (is_below j low) && is_below j high))
between_full t u low high j ht hu =
    within_full t u low high j is_le refl ht hu
    ∙ ap (λ b. (u == t) && b) (ap₂ (λ a b. a && not b) (le_turned low j) (le_turned high j) ∙ ap (λ b. not (is_below j low) && b) (not-not (is_below j high)))

-- a high key that is not below a low one is so among full keys, too
pub in_order_full : (t : ℕ) (low high : List ℕ) → t < 2 ^ 32 → is_below high low ≡ false → IsLeBy bytes_cmp (full_key t low) (full_key t high)
in_order_full t low high ht h =
    ap is_gt (cmp-full_key t t low high ht ht ∙ ap (λ o. ordering_then o (slice_cmp nat_cmp low high)) (cmp_itself t) ∙ nat_list_cmp_total.antisymm low high)
    ∙ not_gt-reverse (slice_cmp nat_cmp high low) h
