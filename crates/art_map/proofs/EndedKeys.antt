-- What a look-up finds of keys that end with a zero and have no other: those of `ZeroEnded`. Such a key is seen without
-- its zero.
use Rattle.std.proofs.Common.{◌≡◌, ℕ, Bool, true, false, cond, List, [], ◌∷◌, Some, None, bytes_eq}
use Rattle.std.proofs.Common.{refl, sym, ap, ◌∙◌}
use Rattle.std.specs.Map.{lookup}
use Rattle.art_bytes.proofs.Common.{before_zero}
use Rattle.art_arena.proofs.Common.{key_of, same_key, other_key, bytes_from_same}
use Rattle.art_operations.proofs.Common.{without_key, with_pair_put}
use Rattle.art_map.proofs.Terms.{has_bytes, ended}
use Rattle.art_map.proofs.FoundAfter.{found-inserted, found-removed}

-- with the zero after both, two are the same where they are without it
pub ended-same : (k l : List ℕ) → bytes_eq (ended k) (ended l) ≡ bytes_eq k l
ended-same k l = by_test (bytes_eq k l) refl
  where
    by_test : (c : Bool) → bytes_eq k l ≡ c → bytes_eq (ended k) (ended l) ≡ c
    by_test true at = same_key _ _ (ap ended (bytes_from_same k l at))
    by_test false at = other_key _ _ (λ e. differ (sym (before_zero k _ refl) ∙ before_zero l _ e))
      where
        differ : k ≡ l → ⊥
        differ same = let f : true ≡ false = sym (same_key k l same) ∙ at in cc

module _ {V : Type 0} where
  pub ended-found : (q : List ℕ) (ps : List (List ℕ × V)) → lookup (has_bytes ended (ended q)) ps ≡ lookup (λ k. bytes_eq k q) ps
  ended-found q [] = refl
  ended-found q (p ∷ ps) =
      ap (λ t. cond t (Some p.1) (lookup (has_bytes ended (ended q)) ps)) (ended-same p.0 q)
      ∙ ap (λ r. cond (bytes_eq p.0 q) (Some p.1) r) (ended-found q ps)

  pub ended-inserted : (q k : List ℕ) (v : V) (ps : List (List ℕ × V)) → lookup (λ l. bytes_eq l q) (with_pair_put ended k v ps) ≡ cond (bytes_eq k q) (Some v) (lookup (λ l. bytes_eq l q) ps)
  ended-inserted q k v ps =
      sym (ended-found q (with_pair_put ended k v ps))
      ∙ found-inserted ended (ended q) k v ps
      ∙ ap (λ t. cond t (Some v) (lookup (has_bytes ended (ended q)) ps)) (ended-same k q)
      ∙ ap (cond (bytes_eq k q) (Some v)) (ended-found q ps)

  pub ended-removed : (q k : List ℕ) (ps : List (List ℕ × V)) → lookup (λ l. bytes_eq l q) (without_key (key_of ended) (ended k) ps) ≡ cond (bytes_eq k q) None (lookup (λ l. bytes_eq l q) ps)
  ended-removed q k ps =
      sym (ended-found q (without_key (key_of ended) (ended k) ps))
      ∙ found-removed ended (ended q) (ended k) ps
      ∙ ap (λ t. cond t None (lookup (has_bytes ended (ended q)) ps)) (ended-same k q)
      ∙ ap (cond (bytes_eq k q) None) (ended-found q ps)

-- what the law of such keys says
pub ruleset ended_laws = (ended-found)
