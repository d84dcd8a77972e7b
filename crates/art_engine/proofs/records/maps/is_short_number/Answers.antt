use Rattle.std.proofs.Common.{◌≡◌, length, take, drop, ap, ◌∙◌, arith}
use Rattle.std.specs.Prelude.{decimal}
use Rattle.std.specs.Fmt.{signed_decimal}
use Rattle.std.specs.Int.{from_be_bytes, cast_signed, cast_unsigned, w32, w64}
use Rattle.std.proofs.lemmas.Bool.{leb-true, le-leb}
use Rattle.std.proofs.lemmas.Int.{to_z-of_z}
use Rattle.art_engine.proofs.Terms.{number_of_bytes}
use Rattle.art_engine.proofs.HeldMaps.{number_again, number_short_told}
use Rattle.art_engine.proofs.records.maps.is_short_number.Goals as goal

pub returns : goal.returns
returns c =
    let K = c.args.key.now in
    let again = number_again K (let output = c.told-key in omega arith) (λ i. let fits = c.fits-key i in omega arith) in
    let back = ap (λ z. cast_signed w64 (cast_unsigned w64 z)) c.split_number_key-tenant.ensures.number ∙ to_z-of_z w64 (number_of_bytes (drop 4 K)) again.1 in
    let tenant : c.digits_of.result ≡ length (decimal (from_be_bytes w32 (take 4 K))) = c.digits_of.ensures ∙ ap (λ t. length (decimal t)) c.split_number_key-tenant.ensures.tenant in
    let number : c.digits_of_signed.result ≡ length (signed_decimal (number_of_bytes (drop 4 K))) = c.digits_of_signed.ensures ∙ ap (λ n. length (signed_decimal n)) back in
    let first = c.saturating_add-first.ensures in let second = c.saturating_add.ensures in let third = c.saturating_add-2.ensures in
    let output = number_short_told (from_be_bytes w32 (take 4 K)) (number_of_bytes (drop 4 K)) c.args.value.now c.letters_of.result c.saturating_add-2.result c.letters_of.ensures (omega arith) in
    (λ e. output.0 (leb-true _ _ e), λ h. le-leb _ _ (output.1 h))
