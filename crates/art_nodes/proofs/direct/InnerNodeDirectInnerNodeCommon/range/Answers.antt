use Rattle.art_nodes.proofs.PlaceLemmas.{children_between-within}
use Rattle.art_nodes.proofs.DirectLemmas.{ascending-table}
use Rattle.art_nodes.proofs.Terms.{children_from}
use Rattle.art_nodes.proofs.direct.InnerNodeDirectInnerNodeCommon.range.Goals as goal

pub returns : goal.returns
returns g c =
    let i = c.self.inside in
    rw (← c.self.view_is, children_between-within 0 c.args.start c.args.end (children_from 0 i.slots) (ascending-table i.slots c.self.invariant.table.whole), ← c.start_of.ensures.value, ← c.end_of.ensures.value) c.direct.ensures
