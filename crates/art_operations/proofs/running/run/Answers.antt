use Rattle.std.proofs.Common.{◌≡◌, ◌+◌, ◌∙◌, [], ◌∷◌, ◌++◌, take, ap, sym, subst, rules, arith}
use Rattle.std.proofs.lemmas.List.{take_more, take_all}
use Rattle.art_operations.proofs.Terms.{clones_in, pairs_after, HoldsClonesOf, IsCloned}
use Rattle.art_operations.proofs.CommandLists.{as-many, run-one-more}
use Rattle.art_operations.proofs.HeldPairs.{pairs-tree}
use Rattle.art_operations.proofs.running.run.Goals as goal

pub push_reserved-requires : goal.push_reserved-requires
push_reserved-requires g c =
    let commands = c.args.commands.now in
    let i = c.loop-command.command-index in
    let inv = c.loop-command.invariant in
    let many = as-many g.K.AsBytes.bytes [] (take i commands) c.loop-command.answers.items inv.0.0 in
    grind (arith, rules, many, inv.1, c.loop-command-test.true, c.loop-command.answers.ok)

pub loop-command-preserved : goal.loop-command-preserved
loop-command-preserved g c =
    let commands = c.args.commands.now in
    let i = c.loop-command.command-index in
    let command = c.command-item.result in
    let inv = c.loop-command.invariant in
    let more : take (i + 1) commands ≡ take i commands ++ command ∷ [] = take_more commands i command (omega (arith, c.loop-command-test.true)) ∙ ap (λ x. take i commands ++ x ∷ []) (sym c.command-item.is) in (
      rw (c.push_reserved.ensures.items)
          (run-one-more g.K.AsBytes.bytes g.row.PREFIX_LEN g.K.Clone.is_clone g.V.Clone.is_clone c.loop-command.arena c.execute-change.new.arena c.loop-command.root (take i commands) (take (i + 1) commands) c.loop-command.answers.items command
          c.execute-change.result more inv.0 c.execute-change.ensures),
      omega (arith, c.push_reserved.ensures.capacity, inv.1),
    )

pub returns-clause-tree : goal.returns-clause-tree
returns-clause-tree g c =
    let commands = c.args.commands.now in
    let inv = c.loop-command.invariant in
    let all : take c.loop-command.command-index commands ≡ commands = take_all c.loop-command.command-index commands c.loop-command-test.false in
    subst (λ done. HoldsClonesOf g.K.AsBytes.bytes g.row.PREFIX_LEN c.loop-command.arena (IsCloned g.K.Clone.is_clone (clones_in done)) (IsCloned g.V.Clone.is_clone (clones_in done)) c.loop-command.root (pairs_after g.K.AsBytes.bytes done c.loop-command.answers.items [])) all
    (inv.0.1.0, inv.0.1.1, pairs-tree g.K.AsBytes.bytes g.row.PREFIX_LEN c.loop-command.arena c.loop-command.root inv.0.1.0 inv.0.1.2)
