-- What a tenant holds is what the two maps have under its prefix.
use Rattle.std.proofs.Common.{◌≡◌, ℕ, ◌^◌, ◌<◌, List, [], drop, refl, ap, sym, ◌∙◌, Bool, true, false}
use Rattle.std.specs.Prelude.{◌==◌, map}
use Rattle.std.specs.List.{AllByRecursion}
use Rattle.std.proofs.Math.Bool.{and-true}
use Rattle.art_arena.proofs.Common.{all_weaker, begins_with, with_front}
use Rattle.art_lines.proofs.Common.{full_key}
use Rattle.art_engine.proofs.Filters.{All-each, filter-mapped, map-alike}
use Rattle.art_engine.proofs.FullTests.{begins_full}
use Rattle.art_engine.proofs.KeyKinds.{keys_stand, numbers_stand, under_keys, under_numbers}
use Rattle.art_engine.proofs.OwnLaws.{mine, own_from, part_of}
use Rattle.art_engine.proofs.TenantKeys.{HeldPair, IsTest, Kind, StandsUnder, key_in, record_in}
use Rattle.art_engine.proofs.Terms.{own_part, OwnIsUnderPrefix, Record}

module _ {K M : Type 0} {bytes : M → List ℕ} {rest : K → List ℕ} {back : List ℕ → K} {Fits : K → Type 0} {lt same : K → K → Bool} {Before : Record K → Record K → Type 0}
    (kind : Kind bytes rest back Fits lt same Before) (t : ℕ) (small : t < 2 ^ 32) where
  pub front_tests : IsTest kind t (λ u. false) (begins_with (full_key t [])) (λ k. true)
  front_tests u k s f = begins_full t u [] (rest k) small s

  -- a tenant's records are those of the pairs that begin with its front
  pub own_front : (ps : List (HeldPair kind)) → AllByRecursion (StandsUnder kind) ps → map (record_in kind) (with_front (key_in kind) (full_key t []) ps) ≡ mine t (map (record_in kind) ps)
  own_front ps stand =
      filter-mapped (record_in kind) (λ p. begins_with (full_key t []) (key_in kind p)) (λ r. r.tenant == t) ps
      (all_weaker (StandsUnder kind) (λ p. begins_with (full_key t []) (key_in kind p) ≡ ((record_in kind p).tenant == t))
      (λ p s. ap (begins_with (full_key t [])) s.key ∙ front_tests (record_in kind p).tenant (record_in kind p).key s.fits.0 s.fits.1 ∙ and-true ((record_in kind p).tenant == t)) ps stand)

  own_is : (ps : List (HeldPair kind)) → AllByRecursion (StandsUnder kind) ps
      → own_part t (map (record_in kind) ps) ≡ map (λ p. (back (drop 4 (bytes p.0)), p.1.items)) (with_front (key_in kind) (full_key t []) ps)
  own_is ps stand =
      ap (map part_of) (sym (own_front ps stand))
      ∙ map-alike part_of (record_in kind) (λ p. (back (drop 4 (bytes p.0)), p.1.items)) (with_front (key_in kind) (full_key t []) ps) (All-each _ (λ p. refl) (with_front (key_in kind) (full_key t []) ps))

pub own_is_under_prefix : OwnIsUnderPrefix
own_is_under_prefix t ps ns small are_keys are_numbers =
    own_from _ _ _ _ (own_is under_keys t small ps (keys_stand ps are_keys.full are_keys.tenants)) (own_is under_numbers t small ns (numbers_stand ns are_numbers.stand are_numbers.fit))
