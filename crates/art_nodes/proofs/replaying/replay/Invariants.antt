use Rattle.std.proofs.Common.{◌≡◌, [], take}
use Rattle.art_nodes.proofs.Terms.{AreChildAnswers}
use Rattle.art_nodes.specs.inner.Replayed.{replayed_children}
use Rattle.art_nodes.proofs.ReplayLemmas.{children_after_all}
use Rattle.art_nodes.proofs.replaying.replay.Given as goal

abbrev pub invariant-loop-command : goal.invariant-loop-command
invariant-loop-command l =
    AreChildAnswers [] (take l.command-index l.commands) l.answers.items
    × (replayed_children l.node ≡ children_after_all [] (take l.command-index l.commands))
