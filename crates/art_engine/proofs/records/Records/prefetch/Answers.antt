use Rattle.std.proofs.Common.{refl, subst}
use Rattle.art_engine.specs.OwnAhead.{AreReadAhead}
use Rattle.art_engine.proofs.Terms.{Records, all_records_of, to_come}
use Rattle.art_engine.proofs.OwnAhead.{are_read_ahead}
use Rattle.art_engine.proofs.records.Records.prefetch.Goals as goal

pub returns-clause-ahead : goal.returns-clause-ahead
returns-clause-ahead g c =
    let keys = c.self.inside.keys.pairs in
    let numbers = c.self.inside.numbers.pairs in
    subst (λ (r : Records). AreReadAhead g.row.PREFIX_LEN r (to_come c.read_maps.new.self)) c.self.view_is
    (are_read_ahead g.row.PREFIX_LEN (record { pairs = keys; nodes = c.new-keys.result.arena.now; root = c.new-keys.result.root })
    (record { pairs = numbers; nodes = c.new-numbers.result.arena.now; root = c.new-numbers.result.root }) (all_records_of keys numbers)
    (record { keys_held = c.new-keys.ensures.tree; numbers_held = c.new-numbers.ensures.tree; keys_are = c.self.invariant.0; numbers_are = c.self.invariant.1; records_are = refl })
    (to_come c.read_maps.new.self) c.read_maps.ensures.ways)
