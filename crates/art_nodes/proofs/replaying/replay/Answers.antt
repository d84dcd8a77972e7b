use Rattle.std.proofs.Common.{rules, ◌≡◌, ◌+◌, [], ◌∷◌, ◌++◌, ◌∙◌, take, ap, sym, arith}
use Rattle.std.proofs.lemmas.List.{take_more}
use Rattle.art_nodes.proofs.Terms.{IsChildAnswer, children_after}
use Rattle.art_nodes.specs.inner.Replayed.{replayed_children}
use Rattle.art_nodes.proofs.ReplayLemmas.{replayed_one_more}
use Rattle.art_nodes.proofs.replaying.replay.Goals as goal

pub loop-command-preserved : goal.loop-command-preserved
loop-command-preserved c =
    let commands = c.args.commands.now in
    let i = c.loop-command.command-index in
    let command = c.command-item.result in
    let more : take (i + 1) commands ≡ take i commands ++ command ∷ [] =
    take_more commands i command (omega (arith, c.loop-command-test.true))
    ∙ ap (λ x. take i commands ++ x ∷ []) (sym c.command-item.is) in
    let answer = c.in_ok-reply.reply.answer in
    let here = replayed_children c.loop-command.node in
    let next : IsChildAnswer here command answer = search (rules, c.execute, c.in_ok-reply, c.branch-reply) in
    let items : c.push.new.self.items ≡ c.loop-command.answers.items ++ answer ∷ [] =
    search (rules, c.push, c.in_ok-push, c.branch-push) in
    let after : replayed_children c.in_ok-reply.reply.node ≡ children_after here command =
    search (rules, c.execute, c.in_ok-reply, c.branch-reply) in
    rw (items, after)
    (replayed_one_more commands i c.loop-command.answers.items here command answer more c.loop-command.invariant next)
