-- Bytes as the full key of the tenant at their front.
use Rattle.std.proofs.Common.{◌≡◌, ℕ, zero, suc, [], ◌∷◌, ◌++◌, drop, get_or, take-append-drop, ◌^◌, ◌<◌, ◌≤◌, List, Some, length, take, refl, ap, sym, ◌∙◌, subst, arith}
use Rattle.std.specs.Int.{from_be_bytes, w32}
use Rattle.std.proofs.lemmas.List.{length-take-le}
use Rattle.std.proofs.lemmas.Nat.{be_bytes_4}
use Rattle.art_lines.proofs.Terms.{full_key}

pub front_small : (n : ℕ) (xs : List ℕ) → ((i : ℕ) → get_or xs i 0 < 256) → (i : ℕ) → get_or (take n xs) i 0 < 256
front_small zero xs h i = omega arith
front_small (suc n) [] h i = omega arith
front_small (suc n) (x ∷ xs) h zero = h zero
front_small (suc n) (x ∷ xs) h (suc i) = front_small n xs (λ j. h (suc j)) i

-- bytes are the full key of the tenant that stands at their front, and of what stands after it
pub full_key_again : (xs : List ℕ) → 4 ≤ length xs → ((i : ℕ) → get_or xs i 0 < 256) → xs ≡ full_key (from_be_bytes w32 (take 4 xs)) (drop 4 xs)
full_key_again xs long small =
    let four_long : length (take 4 xs) ≡ 4 = length-take-le 4 xs long in
    let bytes : (i : ℕ) → get_or (take 4 xs) i 0 < 256 = front_small 4 xs small in
    sym (ap (λ t. t ++ drop 4 xs) (be_bytes_4 (take 4 xs) (from_be_bytes w32 (take 4 xs)) four_long bytes refl) ∙ take-append-drop 4 xs)

-- four bytes are a tenant
pub tenant_small : (xs : List ℕ) → ((i : ℕ) → get_or xs i 0 < 256) → from_be_bytes w32 (take 4 xs) < 2 ^ 32
tenant_small xs small =
    let a = front_small 4 xs small 0 in let b = front_small 4 xs small 1 in let c = front_small 4 xs small 2 in let d = front_small 4 xs small 3 in
    omega arith

-- some bytes that begin so are all that an option has
pub begins_so : {A : Type 0} (bytes : A → List ℕ) (a x : A) (front : List ℕ) → Some a ≡ Some x → 4 ≤ length (bytes a) → take 4 (bytes a) ≡ front → (4 ≤ length (bytes x)) × (take 4 (bytes x) ≡ front)
begins_so bytes a x front is long same = let one : a ≡ x = cc in subst (λ y. (4 ≤ length (bytes y)) × (take 4 (bytes y) ≡ front)) one (long, same)
