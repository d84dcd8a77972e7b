-- A pair that is put in the place of all whose keys overlap its key.
use Rattle.std.proofs.Common.{◌≡◌, ℕ, ◌<◌, ◌^◌, List, length, map, refl, ap, sym, ◌∙◌, subst, true, false, not}
use Rattle.std.specs.Prelude.{filter}
use Rattle.std.specs.List.{AllByRecursion}
use Rattle.std.specs.Str.{bytes_eq}
use Rattle.std.proofs.lemmas.Bool.{both_ways, false_from_ne_true, not-true}
use Rattle.std.proofs.lemmas.List.{length-map}
use Rattle.std.proofs.lemmas.Slice.Eq.{bytes_eq-Decides}
use Rattle.art_bytes.proofs.Common.{is_below}
use Rattle.art_arena.proofs.Common.{put_in_order, all_at}
use Rattle.art_arena.proofs.tree.Filters.{all_pass}
use Rattle.art_map.proofs.Common.{ascends-filter}
use Rattle.art_operations.proofs.Common.{IsBlocked, all-but-none, overlaps, overlapping, without_key, without_overlapping, overlaps_same, overlaps_conflict}
use Rattle.art_walks.proofs.Common.{all-filter}
use Rattle.art_lines.proofs.Common.{full_key}
use Rattle.art_engine.proofs.Filters.{All-put, filter-apart}
use Rattle.art_engine.proofs.FullTests.{overlaps_full}
use Rattle.art_engine.proofs.KeyKinds.{are_full, bytes_of, keys_ascend, keys_stand, under_keys}
use Rattle.art_engine.proofs.OwnLaws.{key_part, made, put_back_again, reads_back, records_from_lists}
use Rattle.art_engine.proofs.Placing.{pair_made, put_keeps, records_put}
use Rattle.art_engine.proofs.TenantKeys.{IsTest, StandsUnder, passing, without}
use Rattle.art_engine.proofs.Terms.{KeyFits, KeyRecord, own, own_part, with_own, with_pair, with_part, overlapped, with_value_over, Pair, record_of, records_of, AreFull, ArePairs}

-- what does not overlap a key is not at it, and blocks it not
module _ (k : List ℕ) (ps : List Pair) where
  none_at : without_key bytes_of k (without_overlapping bytes_of k ps) ≡ without_overlapping bytes_of k ps
  none_at = all-but-none (λ p. bytes_eq (bytes_of p) k) (without_overlapping bytes_of k ps) (filter-apart (λ p. bytes_eq (bytes_of p) k) (λ p. not (overlaps k (bytes_of p))) other ps)
    where
      other : (p : Pair) → not (overlaps k (bytes_of p)) ≡ true → bytes_eq (bytes_of p) k ≡ false
      other p h = false_from_ne_true (bytes_eq (bytes_of p) k) (λ e. both_ways _ (not-true _ h) (overlaps_same k (bytes_of p) ((bytes_eq-Decides (bytes_of p) k).0 e)))

  none_blocks : IsBlocked bytes_of k (without_overlapping bytes_of k ps) → ⊥
  none_blocks (p, i, c) =
      both_ways _ (not-true _ (all_at (λ p. not (overlaps k (bytes_of p)) ≡ true) p (without_overlapping bytes_of k ps) (all_pass (λ p. not (overlaps k (bytes_of p))) ps) i))
      (overlaps_conflict k (bytes_of p) c)

module _ (t : ℕ) (k v : List ℕ) (ps new : List Pair) (e : Pair) (are : AreFull ps) (fits : t < 2 ^ 32) (full : bytes_of e ≡ full_key t k) (value : e.1.items ≡ v)
    (is : new ≡ put_in_order bytes_of e (without_overlapping bytes_of (bytes_of e) ps)) where
  abbrev others : List Pair
  others = without_overlapping bytes_of (full_key t k) ps

  tests : IsTest under_keys t (λ u. false) (overlaps (full_key t k)) (overlaps k)
  tests u j small f = overlaps_full t u k j fits small

  stand : AllByRecursion (StandsUnder under_keys) ps
  stand = keys_stand ps are.full are.tenants

  others_are : AreFull others
  others_are = are_full others (all-filter (StandsUnder under_keys) (λ p. not (overlaps (full_key t k) (bytes_of p))) ps stand) (ascends-filter bytes_of (λ p. not (overlaps (full_key t k) (bytes_of p))) ps (keys_ascend ps are))

  new_is : new ≡ put_in_order bytes_of e (without_key bytes_of (bytes_of e) others)
  new_is = is ∙ ap (put_in_order bytes_of e) (ap (λ j. without_overlapping bytes_of j ps) full ∙ sym (none_at (full_key t k) ps) ∙ ap (λ j. without_key bytes_of j others) (sym full))

  pub over_keeps : AllByRecursion KeyFits (map record_of ps) → KeyFits (made t (k, v)) → ArePairs new
  over_keeps fit record_fits = record {
    stand = put_keeps others t k v others_are fits e new full value (none_blocks (full_key t k) ps) new_is;
    fit = subst (λ l. AllByRecursion KeyFits (map record_of l)) (sym is)
        (All-put KeyFits record_of bytes_of (λ p. not (overlaps (bytes_of e) (bytes_of p))) e ps fit
        (subst KeyFits (sym (pair_made others t k v others_are fits e new full value (none_blocks (full_key t k) ps) new_is)) record_fits));
  }

  pub over_records : records_of new
      ≡ with_own t (record { keys = with_value_over k v (own t (records_of ps)).keys; numbers = (own t (records_of ps)).numbers }) (records_of ps)
  over_records =
      let left = filter (λ p. not (overlaps k p.0)) (own t (records_of ps)).keys in
      records_put others t k v others_are fits e new full value (none_blocks (full_key t k) ps) new_is ∙ records_from_lists _ _ _ _
      (ap (λ (l : List KeyRecord). with_part t (with_pair is_below k v (own_part t l)) l) (without under_keys t (overlaps (full_key t k)) (overlaps k) tests ps stand (keys_ascend ps are))
      ∙ ap (λ m. with_part t (with_pair is_below k v m) (with_part t left (map record_of ps))) (reads_back t left (map record_of ps)) ∙ put_back_again t left (with_pair is_below k v left) (map record_of ps)) refl

  pub over_count : length (overlapping bytes_of (bytes_of e) ps) ≡ length (overlapped k (own t (records_of ps)).keys)
  over_count =
      ap (λ j. length (overlapping bytes_of j ps)) full
      ∙ sym (length-map (filter (λ p. overlaps (full_key t k) p.0.items) ps) record_of) ∙ sym (length-map (map record_of (filter (λ p. overlaps (full_key t k) p.0.items) ps)) key_part)
      ∙ ap length (passing under_keys t (overlaps (full_key t k)) (overlaps k) tests ps stand)
