use Rattle.std.proofs.Common.{rules, subst, sym}
use Rattle.std.specs.Prelude.{OnOk}
use Rattle.std.specs.Map.{values_of}
use Rattle.use_number_index.specs.Entries.{AreEntries, IsEntryAdded, IsKeyed}
use Rattle.use_number_index.proofs.Times.{added, added_keyed}
use Rattle.use_number_index.proofs.ByTime.add.Goals as goal
use Rattle.use_number_index.proofs.ByTime.add.Goals.{in-Ok, in-Err}

pub invariant_of-self : goal.invariant_of-self
invariant_of-self c =
    let had = c.in_ok-key.ensures.value in
    let keyed : IsKeyed (c.in_ok-key.key, c.args.entry) = (had.2, search (rules, had.0)) in
    let pairs = c.self.inside.entries.pairs in
    elim c.match-insert.branch [
      | in-Ok w ↦ subst AreEntries (sym w.in-Ok.ensures.pairs)
          (added_keyed c.in_ok-key.key c.args.entry pairs keyed c.self.invariant)
      | in-Err w ↦ subst AreEntries (sym w.in-Err.ensures.err) c.self.invariant
    ]

pub returns-clause-added : goal.returns-clause-added
returns-clause-added c =
    let had = c.in_ok-key.ensures.value in
    let keyed : IsKeyed (c.in_ok-key.key, c.args.entry) = (had.2, search (rules, had.0)) in
    let pairs = c.self.inside.entries.pairs in
    let new = c.insert.new.self.pairs in
    rw (← c.self.view_is) (elim c.match-insert.branch [
      | in-Ok w ↦ subst (λ r. OnOk r (IsEntryAdded c.args.entry (values_of pairs) (values_of new))) (sym w.result-is)
          (subst (λ new. IsEntryAdded c.args.entry (values_of pairs) (values_of new)) (sym w.in-Ok.ensures.pairs)
          (added c.in_ok-key.key c.args.entry pairs keyed c.self.invariant))
      | in-Err w ↦ subst (λ r. OnOk r (IsEntryAdded c.args.entry (values_of pairs) (values_of new))) (sym w.result-is) tt
    ])
