-- That addresses have fixed bytes: their octets. Nothing here is a definition.
use Rattle.std.proofs.Common.{◌≡◌, ℕ, zero, suc, ◌+◌, ◌*◌, ◌/◌, ◌%◌, ◌<◌, List, [], ◌∷◌, length, refl, sym, ap, ◌∙◌}
use Rattle.std.proofs.Common.{arith, lit<}
use Rattle.std.proofs.lemmas.List.Elements.{All-head, All-tail}
use Rattle.std.specs.declared.cmp.Ordering.{Ordering}
use Rattle.std.specs.declared.cmp.Ordering.TheVariants.{Less, Equal, Greater}
use Rattle.std.specs.Ordering.{nat_cmp, ordering_then}
use Rattle.std.specs.Cmp.Lexicographic.{slice_cmp}
use Rattle.std.specs.Net.Addr.{ipv4_octets, ipv6_octets, octets_of, segments_of}
use Rattle.art_bytes.specs.Keys.{AreBytes, bytes_cmp}
use Rattle.art_bytes.specs.lemmas.NumberLaws.{digit_first}
use Rattle.art_bytes.specs.Mappings.{HaveFixedBytes}

pub ipv4_bytes : HaveFixedBytes 4 (λ a. AreBytes (ipv4_octets a) × (length (ipv4_octets a) ≡ 4)) ipv4_octets
    (λ a b. slice_cmp nat_cmp a.octets b.octets)
ipv4_bytes = record {
  positive = lit< tt;
  long = λ a h. h.1;
  fit = λ a h. h.0;
  one_value = λ a b ha hb e. λ i. record { octets = e i };
  ordered = λ a b ha hb. refl;
}

then_then : (p q r : Ordering) → ordering_then (ordering_then p q) r ≡ ordering_then p (ordering_then q r)
then_then Less q r = refl
then_then Equal q r = refl
then_then Greater q r = refl

-- the order of two segments is that of their octets
segment_cmp : (s t : ℕ) → nat_cmp s t ≡ ordering_then (nat_cmp (s / 256) (t / 256)) (nat_cmp (s % 256) (t % 256))
segment_cmp s t =
    let at_s : s / 256 * 256 + s % 256 ≡ s = omega arith in
    let at_t : t / 256 * 256 + t % 256 ≡ t = omega arith in
    sym (digit_first (s / 256) (t / 256) 256 (s % 256) (t % 256) (omega arith) (omega arith)
    ∙ ap (λ n. nat_cmp n (t / 256 * 256 + t % 256)) at_s ∙ ap (nat_cmp s) at_t)

octets_cmp : (ss ts : List ℕ) → slice_cmp nat_cmp ss ts ≡ bytes_cmp (octets_of ss) (octets_of ts)
octets_cmp [] [] = refl
octets_cmp [] (t ∷ ts) = refl
octets_cmp (s ∷ ss) [] = refl
octets_cmp (s ∷ ss) (t ∷ ts) =
    ap (λ o. ordering_then (nat_cmp s t) o) (octets_cmp ss ts)
    ∙ ap (λ o. ordering_then o (bytes_cmp (octets_of ss) (octets_of ts))) (segment_cmp s t)
    ∙ then_then (nat_cmp (s / 256) (t / 256)) (nat_cmp (s % 256) (t % 256)) (bytes_cmp (octets_of ss) (octets_of ts))

segments_of-octets_of : (ss : List ℕ) → segments_of (octets_of ss) ≡ ss
segments_of-octets_of [] = refl
segments_of-octets_of (s ∷ ss) = λ i. whole s i ∷ segments_of-octets_of ss i
  where
    whole : (s : ℕ) → s / 256 * 256 + s % 256 ≡ s
    whole s = omega arith

octets_of-segments_of : (n : ℕ) (octets : List ℕ) → length octets ≡ n * 2 → AreBytes octets
    → octets_of (segments_of octets) ≡ octets
octets_of-segments_of n [] e h = refl
octets_of-segments_of n (a ∷ []) e h = absurd (omega arith)
octets_of-segments_of zero (a ∷ b ∷ octets) e h = absurd (omega arith)
octets_of-segments_of (suc n) (a ∷ b ∷ octets) e h =
    let below : b < 256 = All-head (λ c. c < 256) b octets (All-tail (λ c. c < 256) a (b ∷ octets) h) in
    let rest = All-tail (λ c. c < 256) b octets (All-tail (λ c. c < 256) a (b ∷ octets) h) in
    let short : length octets ≡ n * 2 = omega arith in
    λ i. high a b below i ∷ low a b below i ∷ octets_of-segments_of n octets short rest i
  where
    high : (a b : ℕ) → b < 256 → (a * 256 + b) / 256 ≡ a
    high a b h = omega arith

    low : (a b : ℕ) → b < 256 → (a * 256 + b) % 256 ≡ b
    low a b h = omega arith

-- the segments that were read from octets have those octets
pub octets_read : (octets segments : List ℕ) → segments ≡ segments_of octets → length octets ≡ 16 → AreBytes octets
    → octets_of segments ≡ octets
octets_read octets segments is e h = ap octets_of is ∙ octets_of-segments_of 8 octets e h

pub ipv6_bytes : HaveFixedBytes 16 (λ a. AreBytes (ipv6_octets a) × (length (ipv6_octets a) ≡ 16)) ipv6_octets
    (λ a b. slice_cmp nat_cmp a.segments b.segments)
ipv6_bytes = record {
  positive = lit< tt;
  long = λ a h. h.1;
  fit = λ a h. h.0;
  one_value = λ a b ha hb e.
      let same : a.segments ≡ b.segments = sym (segments_of-octets_of a.segments) ∙ ap segments_of e
      ∙ segments_of-octets_of b.segments in
      λ i. record { segments = same i };
  ordered = λ a b ha hb. octets_cmp a.segments b.segments;
}
