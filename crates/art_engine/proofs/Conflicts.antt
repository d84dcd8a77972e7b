-- A full key is blocked among those of an index exactly where its key conflicts with one of its tenant's.
use Rattle.std.proofs.Common.{◌≡◌, ℕ, ◌<◌, ◌^◌, List, [], ◌∷◌, map, filter, refl, ap, sym, ◌∙◌, Bool, true, false, inl, inr}
use Rattle.std.specs.Prelude.{◌||◌, ◌&&◌}
use Rattle.std.specs.List.{list_any}
use Rattle.std.proofs.lemmas.Bool.{cond_both, false_from_ne_true, or_cases, or_left, or_right}
use Rattle.art_bytes.proofs.Common.{conflicts, conflict_told, told_conflict}
use Rattle.art_arena.proofs.Common.{IsIn}
use Rattle.art_operations.proofs.Common.{IsBlocked}
use Rattle.art_lines.proofs.Common.{full_key}
use Rattle.art_engine.proofs.FullKeys.{eq_turned, full_keys_keep_conflicts}
use Rattle.art_engine.proofs.KeyKinds.{keys_stand, under_keys}
use Rattle.art_engine.proofs.OwnLaws.{part_of}
use Rattle.art_engine.proofs.TenantKeys.{IsTest, passing}
use Rattle.art_engine.proofs.Terms.{AreFull, has_conflict, own, Pair, record_of, records_of}
pub use Rattle.art_engine.proofs.KeyKinds.{bytes_of}

module _ {X : Type 0} where
  abbrev pub some : List X → Bool
  some [] = false
  some (x ∷ xs) = true

  -- whether one passes
  pub any-some : (p : X → Bool) (xs : List X) → list_any p xs ≡ some (filter p xs)
  any-some p [] = refl
  any-some p (x ∷ xs) = let ih = any-some p xs in cond_both (p x) (x ∷ filter p xs) (filter p xs) (λ l. (p x || list_any p xs) ≡ some l) (λ e. rw e refl) (λ e. rw e ih)

  any_in : (p : X → Bool) (x : X) (xs : List X) → IsIn x xs → p x ≡ true → list_any p xs ≡ true
  any_in p x [] i h = absurd i
  any_in p x (y ∷ ys) (inl e) h = or_left _ _ (ap p e ∙ h)
  any_in p x (y ∷ ys) (inr i) h = or_right (p y) _ (any_in p x ys i h)

  in_any : (p : X → Bool) (xs : List X) → list_any p xs ≡ true → (x : X) × IsIn x xs × (p x ≡ true)
  in_any p [] h = absurd (cc)
  in_any p (x ∷ xs) h = elim (or_cases _ _ h) [ inl here ↦ (x, inl refl, here) | inr later ↦ let b = in_any p xs later in (b.0, inr b.1, b.2) ]

some-map : {X Y : Type 0} (f : X → Y) (xs : List X) → some (map f xs) ≡ some xs
some-map f [] = refl
some-map f (x ∷ xs) = refl

module _ (t : ℕ) (k : List ℕ) (small : t < 2 ^ 32) (ps : List Pair) (are : AreFull ps) where
  abbrev blocks : Pair → Bool
  blocks p = conflicts (full_key t k) (bytes_of p)

  told : has_conflict k (own t (records_of ps)).keys ≡ list_any blocks ps
  told =
      let tests : IsTest under_keys t (λ u. false) (conflicts (full_key t k)) (conflicts k) = λ u j s f. full_keys_keep_conflicts t u k j small s ∙ ap (λ b. b && conflicts k j) (eq_turned t u) in
      any-some (λ p. conflicts k p.0) (own t (records_of ps)).keys ∙ ap some (sym (passing under_keys t (conflicts (full_key t k)) (conflicts k) tests ps (keys_stand ps are.full are.tenants)))
      ∙ some-map part_of (map record_of (filter blocks ps)) ∙ some-map record_of (filter blocks ps) ∙ sym (any-some blocks ps)

  pub blocked_told : IsBlocked bytes_of (full_key t k) ps → has_conflict k (own t (records_of ps)).keys ≡ true
  blocked_told b = told ∙ any_in blocks b.0 ps b.1 (conflict_told (full_key t k) (bytes_of b.0) b.2)

  pub free_told : (IsBlocked bytes_of (full_key t k) ps → ⊥) → has_conflict k (own t (records_of ps)).keys ≡ false
  free_told free = false_from_ne_true _ (λ e. let i = in_any blocks ps (sym told ∙ e) in free (i.0, i.1, told_conflict (full_key t k) (bytes_of i.0) i.2))
