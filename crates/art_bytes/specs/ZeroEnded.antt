-- How bytes are refused as a key with a zero at its end.
use Rattle.std.specs.Prelude.{◌≡◌, ℕ, List}
use Rattle.art_bytes.specs.declared.keys.zero_ended.ZeroEndedError.{ZeroEndedError}
use Rattle.art_bytes.specs.declared.keys.zero_ended.ZeroEndedError.TheVariants.{HoldsZero, Memory}
use Rattle.art_bytes.specs.Keys.{HasNoZero}

-- the refusal hands these bytes back; for want of memory alone where none is zero, and else exactly since one is
abbrev pub HandsBack : ZeroEndedError → List ℕ → Type 0
HandsBack (HoldsZero held) bytes = (held.items ≡ bytes) × (¬ (HasNoZero bytes))
HandsBack (Memory held) bytes = (held.items ≡ bytes) × HasNoZero bytes
