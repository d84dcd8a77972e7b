use Rattle.std.proofs.Common.{ap, ◌∙◌}
use Rattle.std.specs.Map.Iter.{deref_pair}
use Rattle.art_map.proofs.Common.{last_item}
use Rattle.art_c.proofs.Ends.{last-taken}
use Rattle.art_c.proofs.calls.reads.last_with_prefix.Goals as goal

pub returns : goal.returns
returns g c =
    last-taken deref_pair c.prefix.result c.next_back.result c.next_back.new.self c.next_back.ensures.steps
    ∙ ap last_item c.prefix.ensures.rest
