use Rattle.art_map.proofs.MarkedPairs.{marked-nowhere, marked-up}
use Rattle.art_map.proofs.map.TreeMap.marked_find.Goals as goal

pub returns-in-Some : goal.returns-in-Some
returns-in-Some g c =
    rw (← c.self.view_is)
    (marked-up g.K.AsBytes.bytes g.K.AsBytes.is_key g.row.PREFIX_LEN c.self.inside.arena c.self.inside.root c.in-Some.root c.in-Some.is c.self.invariant c.args.query.now c.args.mark c.marked_search_unchecked.result c.marked_search_unchecked.ensures)

pub returns-in-None : goal.returns-in-None
returns-in-None g c = rw (← c.self.view_is) (marked-nowhere g.K.AsBytes.bytes c.self.inside.arena c.self.inside.root c.in-None.is c.args.query.now c.args.mark)
