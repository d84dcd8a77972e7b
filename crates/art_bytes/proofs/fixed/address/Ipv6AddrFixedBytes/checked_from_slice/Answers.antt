-- The segments that were read from the octets have these octets again.
use Rattle.std.proofs.Common.{rules, ◌≡◌, ◌<◌, ℕ, length, get_or, subst, sym, ◌∙◌}
use Rattle.std.specs.Net.Addr.{ipv6_octets, ipv6_segments}
use Rattle.art_bytes.proofs.Terms.{AreBytes, AreBytes-by_index}
use Rattle.art_bytes.specs.lemmas.AddressLaws.{octets_read}
use Rattle.art_bytes.proofs.fixed.address.Ipv6AddrFixedBytes.checked_from_slice.Goals as goal

pub returns : goal.returns
returns c =
    let fit : (k : ℕ) → get_or c.array_of-octets.result k 0 < 256 = search rules in
    let long : length c.array_of-octets.result ≡ 16 = search rules in
    let bytes = AreBytes-by_index c.array_of-octets.result fit in
    let read : ipv6_octets c.from_octets.result ≡ c.array_of-octets.result = octets_read c.array_of-octets.result (ipv6_segments c.from_octets.result) c.from_octets.ensures long bytes in
    (subst (λ octets. AreBytes octets × (length octets ≡ 16)) (sym read) (bytes, long), read ∙ c.array_of-octets.ensures)
