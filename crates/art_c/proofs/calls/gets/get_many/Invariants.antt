-- The invariant is what was looked up so far, as `Got` has it.
use Rattle.std.proofs.Common.{drop}
use Rattle.art_c.proofs.Gets.{Got}
use Rattle.art_c.proofs.calls.gets.get_many.Given as goal

abbrev pub invariant-loop-at : goal.invariant-loop-at
invariant-loop-at l =
    Got l.fn.keys l.fn.map.pairs l.fn.pairs l.fn.found l.rest (drop l.at l.fn.pairs) l.pairs l.found l.at
