-- The numbers of the codes, as `bindings/c/artmap.h` has them.
use Rattle.std.specs.Prelude.{ℕ}
use Rattle.art_c.specs.declared.code.Code.{Code}
use Rattle.art_c.specs.declared.code.Code.TheVariants.{Done, Replaced, NotFound, Conflict, NoRoom, NoMemory, NoMap}
use Rattle.art_c.specs.declared.code.Code.TheVariants.{NotAbove, CutOff, More, Frozen, Shared}

abbrev pub code_number : Code → ℕ
code_number Done = 0
code_number Replaced = 1
code_number NotFound = 2
code_number Conflict = 3
code_number NoRoom = 4
code_number NoMemory = 5
code_number NoMap = 6
code_number NotAbove = 7
code_number CutOff = 8
code_number More = 9
code_number Frozen = 10
code_number Shared = 11
