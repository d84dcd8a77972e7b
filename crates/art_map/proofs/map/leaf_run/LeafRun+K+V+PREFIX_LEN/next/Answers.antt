use Rattle.art_arena.specs.declared.ends.End.TheVariants.{First}
use Rattle.art_map.proofs.LeafRuns.{run-reads, run-step}
use Rattle.art_map.proofs.map.leaf_run.LeafRun+K+V+PREFIX_LEN.next.Goals as goal

pub invariant_of-self : goal.invariant_of-self
invariant_of-self g c =
    (run-step c.self.inside.arena.now First c.self.inside.ends c.first_of-left.result.1 c.in_ok-first.first c.in_ok-first.last (cc c.in_ok-first.was) c.self.invariant c.in_ok-first.first c.first_of-left.ensures.left).kept

pub returns : goal.returns
returns g c =
    rw (← c.self.view_is)
    (run-reads c.self.inside.arena.now First c.self.inside.ends c.first_of-left.result.1 c.in_ok-first.first c.in_ok-first.last (cc c.in_ok-first.was) c.self.invariant c.in_ok-first.first c.first_of-left.ensures.left
    c.first_of-left.result.0.now c.first_of-left.ensures.leaf c.entry_ref.result.0.now c.entry_ref.result.1.now c.entry_ref.ensures.key c.entry_ref.ensures.value)
