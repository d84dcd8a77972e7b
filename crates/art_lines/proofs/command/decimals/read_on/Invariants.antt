use Rattle.std.proofs.Common.{◌-◌, length}
use Rattle.art_lines.proofs.Terms.{AreFirstDigits}
use Rattle.art_lines.proofs.command.decimals.read_on.Given as goal

-- the digits so far are read
abbrev pub invariant-digits : goal.invariant-digits
invariant-digits l = AreFirstDigits l.text l.len l.number

abbrev pub decreases-digits : goal.decreases-digits
decreases-digits l = length l.text - l.len
