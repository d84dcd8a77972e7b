-- A list that had these bytes would go on with a value that has the next of them.
use Rattle.std.proofs.Common.{◌<◌, ◌≤◌, length, take, ◌∙◌, sym, ap, rules}
use Rattle.art_bytes.specs.lemmas.ConcatLaws.{no_next, too_few}
use Rattle.art_bytes.proofs.mappings.lists.read_list.Goals as goal

pub returns-in-None : goal.returns-in-None
returns-in-None g c =
    let room : g.E.FixedBytes.WIDTH ≤ length c.loop-rest.rest.now = search rules in
    no_next g.E.FixedBytes.WIDTH g.E.FixedBytes.is_value g.E.FixedBytes.fixed_bytes g.E.Ord.cmp g.met.E.FixedBytes.have_bytes c.loop-rest.values.items c.args.bytes.now
    c.loop-rest.rest.now c.loop-rest.invariant.values c.loop-rest.invariant.split room
    (λ h. c.in-None.ensures (h.0, h.1, h.2 ∙ sym (c.split_at.ensures.front ∙ ap (λ n. take n c.loop-rest.rest.now) c.WIDTH-in-loop-rest.ensures)))

pub returns-else-is_empty : goal.returns-else-is_empty
returns-else-is_empty g c =
    let few : length c.loop-rest.rest.now < g.E.FixedBytes.WIDTH = search rules in
    let some : 0 < length c.loop-rest.rest.now = search rules in
    too_few g.E.FixedBytes.WIDTH g.E.FixedBytes.is_value g.E.FixedBytes.fixed_bytes g.E.Ord.cmp g.met.E.FixedBytes.have_bytes c.loop-rest.values.items c.args.bytes.now
    c.loop-rest.rest.now c.loop-rest.invariant.values c.loop-rest.invariant.split few some
