use Rattle.std.proofs.Common.{arith, refl}
use Rattle.art_map.proofs.PrefixBlocks.{exact-reads, few-reads, found-part, has-pair}
use Rattle.art_map.proofs.map.TreeMap.part_with_prefix.Goals as goal

pub returns-in-Some-clause-part : goal.returns-in-Some-clause-part
returns-in-Some-clause-part g c =
    rw (← c.self.view_is)
    (found-part g.K.AsBytes.bytes g.row.PREFIX_LEN c.args.prefix.now g.K.AsBytes.is_key c.self.inside.arena c.self.inside.root c.self.invariant c.in-Some.root c.in-Some.is c.search_for_subtree_delete_point-found.result
    (rw (c.new-reader.ensures.arena) at c.search_for_subtree_delete_point-found.ensures.value))

pub returns-in-Some-clause-few : goal.returns-in-Some-clause-few
returns-in-Some-clause-few g c =
    rw (← c.self.view_is, c.count.ensures)
    (few-reads g.K.AsBytes.bytes g.row.PREFIX_LEN c.args.prefix.now g.K.AsBytes.is_key c.self.inside.arena c.self.inside.root c.self.invariant c.in-Some.root c.in-Some.is 0 c.search_for_subtree_delete_point-found.new.reader.count
    (rw (c.new-reader.ensures.arena, c.new-reader.ensures.count) at c.search_for_subtree_delete_point-found.ensures.few))

pub returns-in-Some-clause-least : goal.returns-in-Some-clause-least
returns-in-Some-clause-least g c = λ some.
    let read = c.search_for_subtree_delete_point-found.ensures.least in
    omega (arith, read, c.new-reader.ensures.count, c.count.ensures)

pub returns-in-None-clause-least : goal.returns-in-None-clause-least
returns-in-None-clause-least g c = λ some. absurd (some (rw (← c.self.view_is, c.in-None.is) refl))

pub returns-in-Some-clause-none : goal.returns-in-Some-clause-none
returns-in-Some-clause-none g c =
    rw (← c.self.view_is)
    (λ none. absurd (has-pair g.K.AsBytes.bytes g.row.PREFIX_LEN c.args.prefix.now g.K.AsBytes.is_key c.self.inside.arena c.self.inside.root c.self.invariant c.in-Some.root c.in-Some.is none))

pub returns-in-Some-clause-counts : goal.returns-in-Some-clause-counts
returns-in-Some-clause-counts g c =
    rw (← c.self.view_is, c.count.ensures)
    (exact-reads g.K.AsBytes.bytes g.row.PREFIX_LEN c.args.prefix.now g.K.AsBytes.is_key c.self.inside.arena c.self.inside.root c.self.invariant c.in-Some.root c.in-Some.is c.search_for_subtree_delete_point-found.new.reader.count
    (rw (c.new-reader.ensures.arena, c.new-reader.ensures.count) at c.search_for_subtree_delete_point-found.ensures.counts))

pub returns-in-None-clause-counts : goal.returns-in-None-clause-counts
returns-in-None-clause-counts g c = rw (← c.self.view_is, c.in-None.is) (omega arith)
