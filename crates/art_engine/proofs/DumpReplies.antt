-- A `dump` needs no memory and changes nothing.
use Rattle.std.proofs.Common.{◌≡◌, refl, subst, Bool, true, false}
use Rattle.std.specs.Prelude.{codes, flat_map, Some}
use Rattle.art_lines.proofs.Common.{line_of, dump, spells, spells_one}
use Rattle.art_lines.specs.Reading.{command_of}
use Rattle.art_engine.proofs.Terms.{Records, LineMayRefuse, MayRefuse, dump_of, answer, left_by}

reads-dump : command_of (codes "dump") ≡ Some dump
unfolding command_of
reads-dump = refl

never_refused : (records : Records) → LineMayRefuse records (codes "dump") → ⊥
never_refused records (c, spelled, may) =
    subst (MayRefuse records) (spells_one (codes "dump") c dump spelled (spells (codes "dump") dump reads-dump)) may

-- it is answered by the lines of all records
pub dump_answer : (memory : Bool) (records : Records) → (memory ≡ true → LineMayRefuse records (codes "dump"))
    → answer memory records (codes "dump") ≡ flat_map line_of (dump_of records)
unfolding command_of
dump_answer true records may = absurd (never_refused records (may refl))
dump_answer false records may = refl

-- and leaves them
pub dump_left : (memory : Bool) (records : Records) → left_by memory records (codes "dump") ≡ records
unfolding command_of
dump_left true records = refl
dump_left false records = refl
