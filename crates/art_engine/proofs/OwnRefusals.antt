-- Whether a deletion may find no memory goes by the tenant's own keys, or numbers, while it has another one.
use Rattle.std.proofs.Common.{◌≡◌, ◌≢◌, ℕ, ◌<◌, ◌^◌, List, [], drop, map, refl, ap, sym, ◌∙◌, subst, append-nil, Bool}
use Rattle.std.specs.Prelude.{◌↔◌, IsSome}
use Rattle.std.specs.List.{AllByRecursion}
use Rattle.art_bytes.proofs.Common.{BeginsWith}
use Rattle.art_arena.proofs.Common.{IsIn, Shrinks, with_front, all_at, all_weaker}
use Rattle.art_arena.proofs.tree.FrontShrinks.{own_shrinks}
use Rattle.art_lines.proofs.Common.{full_key}
use Rattle.art_engine.proofs.Counting.{own_records}
use Rattle.art_engine.proofs.KeyKinds.{under_keys, under_numbers}
use Rattle.art_engine.proofs.OwnLaws.{made, made_from_mine, reads_back}
use Rattle.art_engine.proofs.TenantKeys.{Kind, RecordFits, whole_of}
use Rattle.art_engine.proofs.Terms.{DeletionsGoByOwnKeys, DeletionsGoByOwnNumbers, KeyFits, NumberFits, Record, own_part, value_at, with_part}

module _ {K M : Type 0} {bytes : M → List ℕ} {rest : K → List ℕ} {back : List ℕ → K} {Fits : K → Type 0} {lt same : K → K → Bool} {Before : Record K → Record K → Type 0}
    (kind : Kind bytes rest back Fits lt same Before) (t : ℕ) (small : t < 2 ^ 32) (k : K) (fits : Fits k) (rs : List (Record K)) (all : AllByRecursion (RecordFits kind) rs) where
  -- the tenant's records, as if there were no others
  abbrev alone : List (Record K)
  alone = with_part t (own_part t rs) []

  alone_is : with_front (whole_of kind) (full_key t []) rs ≡ alone
  alone_is =
      own_records (whole_of kind) (λ r. r.tenant) (λ r. rest r.key) (λ r. refl) t small rs (all_weaker (RecordFits kind) (λ r. r.tenant < 2 ^ 32) (λ r f. f.0) rs all)
      ∙ sym (append-nil (map (made t) (own_part t rs)) ∙ made_from_mine t rs)

  -- the deletion of the key may find no memory at some records
  abbrev MayFail : List (Record K) → Type 0
  MayFail xs = IsSome (value_at same k (own_part t xs)) × Shrinks (whole_of kind) xs (full_key t (rest k))

  goes_by_own : (other : Record K) → IsIn other rs → other.tenant ≡ t → other.key ≢ k → MayFail rs ↔ MayFail alone
  goes_by_own other i mine differs =
      let full : List ℕ = full_key t (rest k) in
      let f = all_at (RecordFits kind) other rs all i in
      let same_front : whole_of kind other ≡ full_key t (rest other.key) = ap (λ u. full_key u (rest other.key)) mine in
      let begins : BeginsWith (full_key t []) (whole_of kind other) = (rest other.key, same_front) in
      let apart : whole_of kind other ≢ full = λ e. differs (sym (kind.back_is other.key f.1) ∙ ap (λ b. back (drop 4 b)) (sym same_front ∙ e) ∙ kind.back_is k fits) in
      let shrinks = own_shrinks (whole_of kind) (full_key t []) full rs (rest k, refl) other i begins apart in
      let reads : own_part t alone ≡ own_part t rs = reads_back t (own_part t rs) [] in (
        λ h. (subst (λ ps. IsSome (value_at same k ps)) (sym reads) h.0, subst (λ xs. Shrinks (whole_of kind) xs full) alone_is (shrinks.0 h.1)),
        λ h. (subst (λ ps. IsSome (value_at same k ps)) reads h.0, shrinks.1 (subst (λ xs. Shrinks (whole_of kind) xs full) (sym alone_is) h.1)),
      )

pub deletions_go_by_own_keys : DeletionsGoByOwnKeys
deletions_go_by_own_keys t key records other small are i mine differs =
    goes_by_own under_keys t small key tt records.keys (all_weaker KeyFits (RecordFits under_keys) (λ r f. (f.tenant_fits, tt)) records.keys are.keys_fit) other i mine differs

pub deletions_go_by_own_numbers : DeletionsGoByOwnNumbers
deletions_go_by_own_numbers t number records other small fits are i mine differs =
    goes_by_own under_numbers t small number fits records.numbers (all_weaker NumberFits (RecordFits under_numbers) (λ r f. (f.tenant_fits, f.number_fits)) records.numbers are.numbers_fit) other i mine differs
