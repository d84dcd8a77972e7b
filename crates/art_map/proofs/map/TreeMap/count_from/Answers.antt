use Rattle.std.proofs.Common.{sym, ◌∙◌, arith}
use Rattle.std.specs.Map.Iter.{deref_pair}
use Rattle.art_map.proofs.Joins.{parts-long, some-left}
use Rattle.art_map.proofs.map.TreeMap.count_from.Goals as goal

pub overflow_add-count : goal.overflow_add-count
overflow_add-count g c =
    let part = parts-long g.K.AsBytes.bytes c.args.bytes.now c.args.self.now.pairs c.pairs_within-from.ensures.ordered in
    let left = some-left deref_pair c.loop-from.from c.next.new.self c.next.result c.next.ensures.steps (sym c.is_some.ensures ∙ c.loop-from-test.true) in
    let counted = c.loop-from.invariant in
    omega (arith, part, left, counted)
