use Rattle.std.proofs.Common.{length, sym, ap, ◌∙◌}
use Rattle.std.proofs.lemmas.List.{length-map}
use Rattle.art_walks.proofs.iter.Iter+K+V+PREFIX_LEN.new.Goals as goal

pub invariant_of-result : goal.invariant_of-result
invariant_of-result g c =
    c.requires.len_is ∙ sym (length-map c.requires.leaves (λ l. (l.key, l.value))) ∙ ap length (sym (c.new.ensures c.args.len c.requires))

pub returns : goal.returns
returns g c run = c.new.ensures c.args.len run
