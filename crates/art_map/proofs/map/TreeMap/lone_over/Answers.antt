use Rattle.std.proofs.Common.{eqb-true, sym}
use Rattle.std.proofs.lemmas.Bool.{eqb-false}
use Rattle.art_map.proofs.Terms.{overlaps_query}
use Rattle.art_map.proofs.Overlapped.{lone-at, not_lone}
use Rattle.art_map.proofs.map.TreeMap.lone_over.Goals as goal

pub returns-then-eq : goal.returns-then-eq
returns-then-eq g c = lone-at (overlaps_query g.K.AsBytes.bytes c.args.key.now) c.args.self.now c.in_ok-first.first c.in_ok-first.last c.in_ok-first.ensures.walk c.in_ok-first.ensures.first (eqb-true c.in_ok-first.first c.in_ok-first.last (sym c.if-eq.ensures))

pub returns : goal.returns
returns g c = not_lone (overlaps_query g.K.AsBytes.bytes c.args.key.now) c.args.self.now c.in_ok-first.first c.in_ok-first.last c.in_ok-first.ensures.walk (eqb-false c.in_ok-first.first c.in_ok-first.last (sym c.if-eq.ensures))
