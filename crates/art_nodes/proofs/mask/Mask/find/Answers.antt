use Rattle.std.proofs.Common.{◌≡◌, ◌≢◌, ◌==◌, ◌/◌, ◌%◌, ◌^◌, bit_and, true, false, slice_index, sym, ap, ◌∙◌, arith}
use Rattle.std.specs.Int.{bit_at}
use Rattle.std.proofs.lemmas.Nat.Bits.{shr_and_one, bit_at-lt}
use Rattle.art_nodes.proofs.Terms.{is_marked}
use Rattle.art_nodes.proofs.MaskLemmas.{stands, belongs}
use Rattle.art_nodes.proofs.mask.Mask.find.Goals as goal

pub returns-then-word-from-eq0 : goal.returns-then-word-from-eq0
returns-then-word-from-eq0 c =
    let words = c.self.inside.words in
    let byte = c.args.byte in
    let clear : bit_and (slice_index words (byte / 64) / 2 ^ (byte % 64)) 1 ≡ 0 = rw (c.from.ensures, c.from-2.ensures) at c.if-word-from-eq0.true in
    let no_it : is_marked words byte ≡ false = ap (λ d. d == 1) (sym (shr_and_one (slice_index words (byte / 64)) (byte % 64)) ∙ clear) in
    rw (← c.self.view_is) (belongs (is_marked words) byte c.ranges.byte.fits no_it)

pub returns : goal.returns
returns c =
    let words = c.self.inside.words in
    let byte = c.args.byte in
    let set : bit_and (slice_index words (byte / 64) / 2 ^ (byte % 64)) 1 ≢ 0 = rw (c.from.ensures, c.from-2.ensures) at c.if-word-from-eq0.false in
    let bit = shr_and_one (slice_index words (byte / 64)) (byte % 64) in
    let one : bit_at (slice_index words (byte / 64)) (byte % 64) ≡ 1 = omega (arith, set, bit, bit_at-lt (slice_index words (byte / 64)) (byte % 64)) in
    let yes_it : is_marked words byte ≡ true = ap (λ d. d == 1) one in
    rw (c.place.ensures, c.from-3.ensures, ← c.self.view_is) (stands (is_marked words) byte c.ranges.byte.fits yes_it)
