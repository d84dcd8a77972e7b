-- A set's keys beside the unit are the pairs of its map.
use Rattle.std.proofs.Common.{◌≡◌, ℕ, not, List, [], ◌∷◌, length, refl, sym, ap, ◌∙◌}
use Rattle.std.specs.Map.{keys_of}
use Rattle.std.proofs.lemmas.List.{length-map}
use Rattle.art_arena.proofs.Common.{key_of, begins_with, with_front, without_front}
use Rattle.art_set.specs.Pairs.{pairs_of_keys}
use Rattle.art_set.proofs.KeyViews.{keys-filter}

pub with-units : {K : Type 0} (ps : List (K × Unit {0})) → ps ≡ pairs_of_keys (keys_of ps)
with-units [] = refl
with-units (p ∷ ps) = ap (λ qs. p ∷ qs) (with-units ps)

module _ {K V : Type 0} (bytes : K → List ℕ) (front : List ℕ) (ps : List (K × V)) where
  -- the keys with a prefix, how many they are, and the others
  pub keys-after : keys_of (with_front (key_of bytes) front ps) ≡ with_front bytes front (keys_of ps)
  keys-after = keys-filter (λ k. begins_with front (bytes k)) ps

  pub many-after : length (with_front (key_of bytes) front ps) ≡ length (with_front bytes front (keys_of ps))
  many-after = sym (length-map (with_front (key_of bytes) front ps) (λ p. p.0)) ∙ ap length keys-after

  pub keys-beside : keys_of (without_front (key_of bytes) front ps) ≡ without_front bytes front (keys_of ps)
  keys-beside = keys-filter (λ k. not (begins_with front (bytes k))) ps
