-- How a prefix insertion and a deletion are answered, and what they leave, from what the map says of its pairs.
use Rattle.std.proofs.Common.{◌≡◌, ℕ, ◌<◌, ◌^◌, List, [], ◌∷◌, length, map, refl, ap, sym, ◌∙◌, subst, Bool, Option, Some, None, bytes_eq}
use Rattle.std.specs.Prelude.{option_map, not, codes}
use Rattle.std.specs.Global.{Vec}
use Rattle.std.specs.List.{AllByRecursion}
use Rattle.std.specs.Map.{lookup}
use Rattle.art_arena.proofs.Common.{put_in_order, Shrinks, all_weaker}
use Rattle.art_map.proofs.Common.{ascends-filter}
use Rattle.art_operations.proofs.Common.{HasKey, overlapping, without_key, without_overlapping}
use Rattle.art_walks.proofs.Common.{all-filter}
use Rattle.art_engine.specs.declared.change.Changed.TheVariants as changed
use Rattle.art_lines.proofs.Common.{name, natural, of_tenant, over, del, full_key, found_or}
use Rattle.art_engine.proofs.Filters.{All-left_out, map-alike}
use Rattle.art_engine.proofs.KeyKinds.{are_full, bytes_of, keys_ascend, keys_stand, under_keys}
use Rattle.art_engine.proofs.Overwriting.{over_records, over_count}
use Rattle.art_engine.proofs.OwnLaws.{records_from_lists}
use Rattle.art_engine.proofs.Placing.{is_full_key}
use Rattle.art_engine.proofs.TenantKeys.{StandsUnder, found, refused, removed}
use Rattle.art_engine.proofs.Terms.{full_key_of, KeyFits, own, value_at, Pair, record_of, records_of, IsFull, AreFull, ArePairs, IsChangeDone, changed_words}
pub use Rattle.art_engine.proofs.TenantKeys.{itself}

pub over_done : (t : ℕ) (k v : List ℕ) (ps new : List Pair) (e : Pair) → AreFull ps → t < 2 ^ 32 → bytes_of e ≡ full_key t k → e.1.items ≡ v
    → (n : ℕ) → n ≡ length (overlapping bytes_of (bytes_of e) ps) → new ≡ put_in_order bytes_of e (without_overlapping bytes_of (bytes_of e) ps)
    → IsChangeDone (changed.Over n) (of_tenant t (over k v)) (records_of ps) (records_of new)
over_done t k v ps new e are fits full value n counted is = (
  ap (λ m. (name (codes "over") ∷ natural m ∷ []) ∷ []) (counted ∙ over_count t k v ps new e are fits full value is),
  over_records t k v ps new e are fits full value is,
)

pub option_map-map : {X Y Z : Type 0} (g : Y → Z) (f : X → Y) (o : Option X) → option_map g (option_map f o) ≡ option_map (λ x. g (f x)) o
option_map-map g f None = refl
option_map-map g f (Some x) = refl

-- the full keys of records are those that their pairs stand under
pub keys_are : (ps : List Pair) → AllByRecursion IsFull ps → map bytes_of ps ≡ map full_key_of (map record_of ps)
keys_are ps full = sym (map-alike full_key_of record_of bytes_of ps (all_weaker IsFull (λ p. full_key_of (record_of p) ≡ bytes_of p) (λ p e. sym e) ps full))

pub gone_words : (v : Vec ℕ) (o : Option (List ℕ)) → o ≡ Some v.items → changed_words (changed.Gone v) ∷ [] ≡ found_or o (codes "gone") (codes "none") ∷ []
gone_words v o e = rw e refl

pub absent_words : (o : Option (List ℕ)) → o ≡ None → changed_words changed.Absent ∷ [] ≡ found_or o (codes "gone") (codes "none") ∷ []
absent_words o e = rw e refl

module _ (t : ℕ) (k : List ℕ) (small : t < 2 ^ 32) (ps new : List Pair) (are : AreFull ps) where
  stand : AllByRecursion (StandsUnder under_keys) ps
  stand = keys_stand ps are.full are.tenants

  at_key : option_map (λ w. w.items) (lookup (is_full_key t k) ps) ≡ value_at bytes_eq k (own t (records_of ps)).keys
  at_key = found under_keys t k small tt ps stand

  abbrev other : Pair → Bool
  other p = not (bytes_eq (bytes_of p) (full_key t k))

  pub del_keeps : AllByRecursion KeyFits (map record_of ps) → new ≡ without_key bytes_of (full_key t k) ps → ArePairs new
  del_keeps fit is = subst ArePairs (sym is) (record {
    stand = are_full (without_key bytes_of (full_key t k) ps) (all-filter (StandsUnder under_keys) other ps stand) (ascends-filter bytes_of other ps (keys_ascend ps are));
    fit = All-left_out KeyFits record_of other ps fit;
  })

  pub gone_done : (v : Vec ℕ) → Some v ≡ lookup (is_full_key t k) ps → new ≡ without_key bytes_of (full_key t k) ps → IsChangeDone (changed.Gone v) (of_tenant t (del k)) (records_of ps) (records_of new)
  gone_done v some is = (
    gone_words v (value_at bytes_eq k (own t (records_of ps)).keys) (sym (ap (option_map (λ (w : Vec ℕ). w.items)) some ∙ at_key)),
    records_from_lists _ _ _ _ (ap (map record_of) is ∙ removed under_keys t k small tt ps stand (keys_ascend ps are)) refl,
  )

  pub absent_done : None ≡ lookup (is_full_key t k) ps → new ≡ without_key bytes_of (full_key t k) ps → IsChangeDone changed.Absent (of_tenant t (del k)) (records_of ps) (records_of new)
  absent_done none is = (
    absent_words (value_at bytes_eq k (own t (records_of ps)).keys) (sym (ap (option_map (λ (w : Vec ℕ). w.items)) none ∙ at_key)),
    records_from_lists _ _ _ _ (ap (map record_of) is ∙ removed under_keys t k small tt ps stand (keys_ascend ps are)) refl,
  )

  -- it may find no memory where the loss of the full key makes a node smaller
  pub del_refused : new ≡ ps → HasKey bytes_of (full_key t k) ps × Shrinks bytes_of ps (full_key t k) → IsChangeDone changed.Memory (of_tenant t (del k)) (records_of ps) (records_of new)
  del_refused same h = (ap records_of same, refused under_keys t k small tt ps stand h)
