use Rattle.std.proofs.Common.{sym, ap, ◌∙◌}
use Rattle.std.proofs.lemmas.Result.{IfOk-weaker, on_err_weaker}
use Rattle.art_arena.proofs.Common.{key_of}
use Rattle.art_operations.proofs.Common.{without_key}
use Rattle.art_map.proofs.Entries.{key-is, value-is, has-pair, ok-on}
use Rattle.art_map.proofs.map.entry.occupied.OccupiedEntry+K+V+PREFIX_LEN.remove_entry.Goals as goal

pub returns-clause-pair : goal.returns-clause-pair
returns-clause-pair g c = IfOk-weaker c.take_at.result _ _ (λ pair has. (sym (key-is c.args.self pair.0 pair.1 has), value-is c.args.self pair.0 pair.1 has)) c.take_at.ensures.value

pub returns-clause-pairs : goal.returns-clause-pairs
returns-clause-pairs g c =
    ok-on c.take_at.result
    (λ pair has is. is ∙ ap (λ k. without_key (key_of g.K.AsBytes.bytes) (g.K.AsBytes.bytes k) c.args.self.map.now.pairs) (sym (key-is c.args.self pair.0 pair.1 has)))
    c.take_at.ensures.value c.take_at.ensures.pairs

pub returns-clause-shrinks : goal.returns-clause-shrinks
returns-clause-shrinks g c = on_err_weaker c.take_at.result (λ shrinks. shrinks _ (has-pair c.args.self)) c.take_at.ensures.shrinks
