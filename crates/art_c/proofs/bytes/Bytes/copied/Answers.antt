use Rattle.std.proofs.Common.{ℕ, ◌<◌, get_or, subst, sym, arith}
use Rattle.art_bytes.specs.Keys.{AreBytes}
use Rattle.art_bytes.specs.lemmas.KeyLaws.{AreBytes-by_index}
use Rattle.art_c.proofs.Placed.{are-in-place}
use Rattle.art_c.proofs.bytes.Bytes.copied.Goals as goal

pub invariant_of-result : goal.invariant_of-result
invariant_of-result c =
    let fit : (k : ℕ) → get_or c.args.bytes.now k 0 < 256 = λ k. let fits = c.type_inv.bytes k in omega (arith, fits) in
    let are = AreBytes-by_index c.args.bytes.now fit in
    (c.if-bytes-le-SHORT.true, are-in-place c.args.bytes.now c.copy_from_slice.new.self _ c.copy_from_slice.ensures.after are)

pub invariant_of-result-2 : goal.invariant_of-result-2
invariant_of-result-2 c =
    let fit : (k : ℕ) → get_or c.args.bytes.now k 0 < 256 = λ k. let fits = c.type_inv.bytes k in omega (arith, fits) in
    subst AreBytes (sym c.in_ok-held.ensures.items) (AreBytes-by_index c.args.bytes.now fit)
