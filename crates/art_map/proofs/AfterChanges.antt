-- What a look-up finds after a value that is written, after many pairs that are put in, and where pairs are retained.
-- Callers cite these lemmas where a proof of theirs needs a law.
use Rattle.std.proofs.Common.{◌≡◌, ℕ, Bool, true, false, cond, List, [], ◌∷◌, Option, Some, None, bytes_eq}
use Rattle.std.proofs.Common.{refl, sym, ap, subst, ◌∙◌}
use Rattle.std.specs.List.{AllByRecursion}
use Rattle.std.specs.Map.{lookup, set_value}
use Rattle.std.specs.Option.{option_map, option_or}
use Rattle.std.specs.Prelude.{filter}
use Rattle.std.proofs.lemmas.Bool.{cond-true, cond-false}
use Rattle.art_bytes.proofs.Common.{IsBefore, before_not_self}
use Rattle.art_arena.proofs.Common.{key_of, same_key, bytes_from_same, AscendsByKey}
use Rattle.art_map.proofs.FoundAfter.{found-inserted}
use Rattle.art_map.proofs.Terms.{has_bytes, kept_value, last_value, with_pairs_put}
use Rattle.art_operations.proofs.Common.{with_pair_put}

module _ {K V : Type 0} (bytes : K → List ℕ) (query : List ℕ) where
  -- what the query finds
  abbrev seen : List (K × V) → Option V
  seen ps = lookup (has_bytes bytes query) ps

  -- it finds the value that was written under its bytes, if it found one
  pub found-written : (key : List ℕ) (w : V) (ps : List (K × V)) → seen (set_value (has_bytes bytes key) ps w) ≡ cond (bytes_eq key query) (option_map (λ v. w) (seen ps)) (seen ps)
  found-written key w [] = by_test (bytes_eq key query)
    where
      by_test : (b : Bool) → seen [] ≡ cond b (option_map (λ v. w) (seen [])) (seen [])
      by_test true = refl
      by_test false = refl
  found-written key w (p ∷ ps) = by_key (bytes_eq (bytes p.0) key) refl (found-written key w ps)
    where
      here : (c : Bool) (v : V) (s : Option V) → cond c (Some w) s ≡ cond c (option_map (λ x. w) (cond c (Some v) s)) (cond c (Some v) s)
      here true v s = refl
      here false v s = refl

      there : (c d : Bool) (r s : Option V) → (c ≡ true → d ≡ true → ⊥) → r ≡ cond d (option_map (λ x. w) s) s → cond c (Some p.1) r ≡ cond d (option_map (λ x. w) (cond c (Some p.1) s)) (cond c (Some p.1) s)
      there true true r s apart e = absurd (apart refl refl)
      there true false r s apart e = refl
      there false d r s apart e = e

      apart : bytes_eq (bytes p.0) key ≡ false → bytes_eq (bytes p.0) query ≡ true → bytes_eq key query ≡ true → ⊥
      apart off c d =
          let same = bytes_from_same (bytes p.0) query c ∙ sym (bytes_from_same key query d) in
          let e : true ≡ false = sym (same_key (bytes p.0) key same) ∙ off in absurd (cc)

      by_key : (b : Bool) → bytes_eq (bytes p.0) key ≡ b → seen (set_value (has_bytes bytes key) ps w) ≡ cond (bytes_eq key query) (option_map (λ v. w) (seen ps)) (seen ps)
          → seen (cond b ((p.0, w) ∷ ps) (p ∷ set_value (has_bytes bytes key) ps w)) ≡ cond (bytes_eq key query) (option_map (λ v. w) (seen (p ∷ ps))) (seen (p ∷ ps))
      by_key true at later =
          subst (λ k. seen ((p.0, w) ∷ ps) ≡ cond (bytes_eq k query) (option_map (λ v. w) (seen (p ∷ ps))) (seen (p ∷ ps))) (bytes_from_same (bytes p.0) key at) (here (bytes_eq (bytes p.0) query) p.1 (seen ps))
      by_key false at later = there (bytes_eq (bytes p.0) query) (bytes_eq key query) _ (seen ps) (apart at) later

  -- it finds the value of the last pair with its bytes of those that are put in, and else what it found
  pub found-all-put : (xs ps : List (K × V)) → seen (with_pairs_put bytes xs ps) ≡ option_or (last_value bytes query xs) (seen ps)
  found-all-put [] ps = refl
  found-all-put (x ∷ xs) ps =
      found-all-put xs (with_pair_put bytes x.0 x.1 ps) ∙ ap (option_or (last_value bytes query xs)) (found-inserted bytes query x.0 x.1 ps)
      ∙ either (last_value bytes query xs) (bytes_eq (bytes x.0) query)
    where
      either : (o : Option V) (c : Bool) → option_or o (cond c (Some x.1) (seen ps)) ≡ option_or (option_or o (cond c (Some x.1) None)) (seen ps)
      either None true = refl
      either None false = refl
      either (Some y) c = refl

  -- after a key of its bytes there is no other
  none-after : (test : K × V → Bool) (ps : List (K × V)) → AllByRecursion (λ y. IsBefore query (bytes y.0)) ps → seen (filter test ps) ≡ None
  none-after test [] up = refl
  none-after test (p ∷ ps) up = by_test (test p) (bytes_eq (bytes p.0) query) refl (none-after test ps up.1)
    where
      by_test : (t c : Bool) → bytes_eq (bytes p.0) query ≡ c → seen (filter test ps) ≡ None → seen (cond t (p ∷ filter test ps) (filter test ps)) ≡ None
      by_test true true at later = absurd (before_not_self query (subst (IsBefore query) (bytes_from_same (bytes p.0) query at) up.0))
      by_test true false at later = cond-false _ _ _ at ∙ later
      by_test false c at later = later

  -- among the pairs that pass a test it finds the value that it found, if that one passes
  pub found-retained : (keep : List ℕ → V → Bool) (ps : List (K × V)) → AscendsByKey (key_of bytes) ps → seen (filter (λ p. keep (bytes p.0) p.1) ps) ≡ kept_value (keep query) (seen ps)
  found-retained keep [] up = refl
  found-retained keep (p ∷ ps) up = by_key (test p) refl (bytes_eq (bytes p.0) query) refl (found-retained keep ps up.1)
    where
      test : K × V → Bool
      test q = keep (bytes q.0) q.1

      by_key : (t : Bool) → test p ≡ t → (c : Bool) → bytes_eq (bytes p.0) query ≡ c → seen (filter test ps) ≡ kept_value (keep query) (seen ps)
          → seen (cond t (p ∷ filter test ps) (filter test ps)) ≡ kept_value (keep query) (cond c (Some p.1) (seen ps))
      by_key true e true at later = cond-true _ _ _ at ∙ sym (cond-true _ _ _ (ap (λ k. keep k p.1) (sym (bytes_from_same (bytes p.0) query at)) ∙ e))
      by_key true e false at later = cond-false _ _ _ at ∙ later
      by_key false e true at later =
          none-after test ps (subst (λ k. AllByRecursion (λ y. IsBefore k (bytes y.0)) ps) (bytes_from_same (bytes p.0) query at) up.0)
          ∙ sym (cond-false _ _ _ (ap (λ k. keep k p.1) (sym (bytes_from_same (bytes p.0) query at)) ∙ e))
      by_key false e false at later = later

-- what the laws of changes say
pub ruleset change_laws = (found-written, found-all-put, found-retained)
