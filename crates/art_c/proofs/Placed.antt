-- Bytes that were copied to the start of a room.
use Rattle.std.proofs.Common.{◌≡◌, ℕ, List, ◌++◌, length, take, ap, subst, sym, ◌∙◌, arith}
use Rattle.std.proofs.lemmas.List.{take_all, take-append-le}
use Rattle.art_bytes.specs.Keys.{AreBytes}

pub are-in-place : (bytes new rest : List ℕ) → new ≡ bytes → AreBytes bytes → AreBytes (take (length bytes) (new ++ rest))
are-in-place bytes new rest is are =
    let long : length new ≡ length bytes = ap length is in
    let taken = take-append-le (length bytes) new rest (omega (arith, long)) ∙ take_all (length bytes) new (omega (arith, long)) ∙ is in
    subst AreBytes (sym taken) are
