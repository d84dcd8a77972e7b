use Rattle.std.proofs.Common.{arith}
use Rattle.art_arena.specs.declared.ends.End.TheVariants.{Last}
use Rattle.art_walks.proofs.RunLengths.{ended, stepped}
use Rattle.art_walks.proofs.range.RangeDoubleEndedIterator.next_back.Goals as goal

pub as_key_value_ref-requires : goal.as_key_value_ref-requires
as_key_value_ref-requires g c = (omega arith, (stepped c.self.inside.arena.now Last c.self.inside.leaves c.next_back.new.self c.self.invariant c.in-Some.leaf c.in-Some.ensures.last c.in-Some.ensures.end).held)

pub invariant_of-self-2 : goal.invariant_of-self-2
invariant_of-self-2 g c = (stepped c.self.inside.arena.now Last c.self.inside.leaves c.next_back.new.self c.self.invariant c.in-Some.leaf c.in-Some.ensures.last c.in-Some.ensures.end).kept

pub returns-clause-steps : goal.returns-clause-steps
returns-clause-steps g c =
    rw (← c.self.view_is)
    ((stepped c.self.inside.arena.now Last c.self.inside.leaves c.next_back.new.self c.self.invariant c.in-Some.leaf c.in-Some.ensures.last c.in-Some.ensures.end).read
    c.as_key_value_ref.result.0.now c.as_key_value_ref.result.1.now c.as_key_value_ref.ensures.key c.as_key_value_ref.ensures.value)

pub returns-clause-goes : goal.returns-clause-goes
returns-clause-goes g c = record {
  on = λ fin. (tt, tt, rw (← c.self.view_is) (stepped c.self.inside.arena.now Last c.self.inside.leaves c.next_back.new.self c.self.invariant c.in-Some.leaf c.in-Some.ensures.last c.in-Some.ensures.end).fewer);
  keeps = tt;
  rests = λ fin. tt;
}

pub invariant_of-self : goal.invariant_of-self
invariant_of-self g c = (ended c.self.inside.arena.now Last c.self.inside.leaves c.next_back.new.self c.self.invariant c.in-None.ensures.last c.in-None.ensures.end).kept

pub returns-in-None-clause-steps : goal.returns-in-None-clause-steps
returns-in-None-clause-steps g c = let end = (ended c.self.inside.arena.now Last c.self.inside.leaves c.next_back.new.self c.self.invariant c.in-None.ensures.last c.in-None.ensures.end) in (rw (← c.self.view_is) end.was, end.empty)
