-- What is found by a front of a full key.
use Rattle.std.proofs.Common.{◌≡◌, ℕ, ◌<◌, ◌^◌, List, [], ◌∷◌, drop, ap, sym, ◌∙◌, subst, Bool, false, Some}
use Rattle.std.specs.Prelude.{◌&&◌, option_map}
use Rattle.std.proofs.lemmas.Bool.{cond_both}
use Rattle.std.specs.List.{AllByRecursion}
use Rattle.std.specs.Map.{lookup_entry}
use Rattle.art_arena.proofs.Common.{begins_with}
use Rattle.art_lines.proofs.Common.{full_key}
use Rattle.art_engine.proofs.Terms.{own, front_at, Pair, record_of, records_of, AreFull}
use Rattle.art_engine.proofs.Changing.{option_map-map}
use Rattle.art_engine.proofs.FullKeys.{eq_turned}
use Rattle.art_engine.proofs.FullTests.{begins_full}
use Rattle.art_engine.proofs.KeyKinds.{keys_stand, under_keys}
use Rattle.art_engine.proofs.OwnLaws.{key_part}
use Rattle.art_engine.proofs.TenantKeys.{IsTest, first_passing}

-- what holds of all holds of what is found
pub all_found : {K V : Type 0} (P : K × V → Type 0) (T : K → Bool) (ps : List (K × V)) (p : K × V) → Some p ≡ lookup_entry T ps → AllByRecursion P ps → P p
all_found P T [] p e h = cc
all_found P T (x ∷ xs) p e h =
    cond_both (T x.0) (Some x) (lookup_entry T xs) (λ o. Some p ≡ o → P p)
    (λ passes f. let same : x ≡ p = cc in subst P same h.0) (λ fails f. all_found P T xs p f h.1) e

-- the pair whose key is a front of the tenant's key, or equals it
pub front_found : (t : ℕ) (k q : List ℕ) → t < 2 ^ 32 → q ≡ full_key t k → (ps : List Pair) → AreFull ps
    → option_map (λ p. (drop 4 p.0.items, p.1.items)) (lookup_entry (λ j. begins_with j.items q) ps) ≡ front_at k (own t (records_of ps)).keys
front_found t k q small same ps are =
    let T : List ℕ → Bool = λ j. begins_with j (full_key t k) in
    let tests : IsTest under_keys t (λ u. false) T (λ j. begins_with j k) = λ u j s f. begins_full u t j k s small ∙ ap (λ b. b && begins_with j k) (eq_turned t u) in
    ap (λ f. option_map (λ (p : Pair). (drop 4 p.0.items, p.1.items)) (lookup_entry (λ j. begins_with j.items f) ps)) same
    ∙ sym (option_map-map key_part record_of (lookup_entry (λ j. T j.items) ps)) ∙ first_passing under_keys t T (λ j. begins_with j k) tests ps (keys_stand ps are.full are.tenants)
