-- An array of bytes has their number and range; the contract says which octets they are.
use Rattle.std.proofs.Common.{rules, ◌≡◌, ◌<◌, ℕ, length, get_or, subst}
use Rattle.art_bytes.proofs.Terms.{AreBytes, AreBytes-by_index}
use Rattle.art_bytes.proofs.fixed.address.Ipv6AddrFixedBytes.to_array.Goals as goal

are_octets : (c : goal.After-octets-octets) → AreBytes c.octets-octets.result × (length c.octets-octets.result ≡ 16)
are_octets c =
    let fit : (k : ℕ) → get_or c.octets-octets.result k 0 < 256 = search rules in
    (AreBytes-by_index c.octets-octets.result fit, search rules)

pub returns-clause-value : goal.returns-clause-value
returns-clause-value c = subst (λ octets. AreBytes octets × (length octets ≡ 16)) c.octets-octets.ensures (are_octets c)

pub returns-clause-key : goal.returns-clause-key
returns-clause-key c = are_octets c
