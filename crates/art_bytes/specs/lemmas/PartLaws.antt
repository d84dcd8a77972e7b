-- Bytes that are cut into parts of one width: a list of values has them where each part is a value's. Nothing here is a
-- definition.
use Rattle.std.proofs.Common.{◌≡◌, ℕ, suc, zero, ◌+◌, ◌*◌, ◌<◌, List, [], ◌∷◌, ◌++◌, length, take, drop, refl, sym, ap}
use Rattle.std.proofs.Common.{◌∙◌, arith, get_or}
use Rattle.std.specs.List.{flat_map}
use Rattle.std.proofs.Math.Seq.{drop-append-add}
use Rattle.std.proofs.lemmas.Grind.{common_steps}
use Rattle.std.specs.declared.cmp.Ordering.{Ordering}
use Rattle.art_bytes.specs.Mappings.{HaveFixedBytes}
use Rattle.art_bytes.specs.lemmas.ConcatLaws.{length-list}
use Rattle.art_bytes.specs.Lists.{HaveListBytes, part_at, HasValue}

part_first : (width : ℕ) (a b : List ℕ) → length a ≡ width → part_at width (a ++ b) 0 ≡ a
part_first width a b h = grind (arith, common_steps)

part_later : (width : ℕ) (a b : List ℕ) (k : ℕ) → length a ≡ width → part_at width (a ++ b) (suc k) ≡ part_at width b k
part_later width a b k h =
    let e : suc k * width ≡ length a + k * width = grind arith in
    ap (λ n. take width (drop n (a ++ b))) e ∙ ap (take width) (drop-append-add a b (k * width))

part_rest : (width : ℕ) (bytes : List ℕ) (k : ℕ) → part_at width (drop width bytes) k ≡ part_at width bytes (suc k)
part_rest width bytes k =
    let e : suc k * width ≡ width + k * width = grind arith in
    ap (take width) (twice width (k * width) bytes ∙ ap (λ n. drop n bytes) (sym e))
  where
    twice : (m n : ℕ) (xs : List ℕ) → drop n (drop m xs) ≡ drop (m + n) xs
    twice m n xs = grind (arith, common_steps)

module _ {V : Type 0} (width : ℕ) (P : V → Type 0) (f : V → List ℕ) (cmp : V → V → Ordering)
    (laws : HaveFixedBytes width P f cmp) where
  -- each part of a list's bytes is a value's
  pub parts_of_list : (xs : List V) (bytes : List ℕ) → HaveListBytes P f xs bytes → (k : ℕ) → k < length xs
      → HasValue P f (part_at width bytes k)
  parts_of_list [] bytes h k below = absurd (omega arith)
  parts_of_list (x ∷ xs) bytes h zero below =
      (x, h.0.0, sym (ap (λ b. part_at width b 0) h.1 ∙ part_first width (f x) (flat_map f xs) (laws.long x h.0.0)))
  parts_of_list (x ∷ xs) bytes h (suc k) below =
      let found = parts_of_list xs (flat_map f xs) (h.0.1, refl) k (omega arith) in (
        found.0,
        found.1,
        found.2
            ∙ sym (ap (λ b. part_at width b (suc k)) h.1
            ∙ part_later width (f x) (flat_map f xs) k (laws.long x h.0.0)),
      )

  -- values that have the parts have the bytes
  pub list_of_parts : (xs : List V) (bytes : List ℕ) → length bytes ≡ length xs * width
      → ((k : ℕ) (d : V) → k < length xs → P (get_or xs k d) × (f (get_or xs k d) ≡ part_at width bytes k))
      → HaveListBytes P f xs bytes
  list_of_parts [] [] long parts = (tt, refl)
  list_of_parts [] (b ∷ bytes) long parts = absurd (omega arith)
  list_of_parts (x ∷ xs) bytes long parts =
      let head = parts 0 x (omega arith) in
      let count : suc (length xs) * width ≡ width + length xs * width = grind arith in
      let rest = list_of_parts xs (drop width bytes) (shorter width (length xs) bytes (long ∙ count))
      (λ k d below. let at = parts (suc k) d (omega arith) in (at.0, at.1 ∙ sym (part_rest width bytes k))) in (
        (head.0, rest.0),
        whole width bytes ∙ ap (λ b. b ++ drop width bytes) (first width bytes ∙ sym head.1)
            ∙ ap (λ b. f x ++ b) rest.1,
      )
    where
      shorter : (width m : ℕ) (bytes : List ℕ) → length bytes ≡ width + m * width
          → length (drop width bytes) ≡ m * width
      shorter width m bytes h = grind (arith, common_steps)

      whole : (width : ℕ) (bytes : List ℕ) → bytes ≡ take width bytes ++ drop width bytes
      whole width bytes = grind (arith, common_steps)

      first : (width : ℕ) (bytes : List ℕ) → take width bytes ≡ part_at width bytes 0
      first width bytes = grind (arith, common_steps)

  -- a list of n values has n times the width of bytes
  pub long_list : (n : ℕ) (bytes : List ℕ) → ((xs : List V) × HaveListBytes P f xs bytes × (length xs ≡ n))
      → length bytes ≡ n * width
  long_list n bytes (xs, h, e) = ap length h.1 ∙ length-list width P f cmp laws xs h.0 ∙ ap (λ m. m * width) e

  -- part k of the bytes of n values is a value's
  pub part_of_list : (n : ℕ) (bytes : List ℕ) (k : ℕ) → k < n
      → ((xs : List V) × HaveListBytes P f xs bytes × (length xs ≡ n)) → HasValue P f (part_at width bytes k)
  part_of_list n bytes k below (xs, h, e) = parts_of_list xs bytes h k (omega arith)
