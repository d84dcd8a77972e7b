use Rattle.std.proofs.Common.{sym, ap, ◌∙◌}
use Rattle.std.specs.Range.Bound.{bound_map}
use Rattle.art_map.specs.LeafRuns.{is_inside}
use Rattle.art_map.proofs.LeafRuns.{FailsAt, named-at-bound, some-of}
use Rattle.art_map.proofs.map.TreeMap.is_at_bound.Goals as goal

pub returns : goal.returns
returns g c = λ out ls are.
    let bound = bound_map (λ key. key.now) c.args.bound in
    named-at-bound g.K.AsBytes.bytes c.args.self.now.nodes g.row.PREFIX_LEN c.args.self.now.root c.args.name c.in-Some.leaf.now c.in-Some.ensures c.args.is_start bound
    (ap (is_inside c.args.is_start bound) (sym (c.as_bytes.ensures.value ∙ ap g.K.AsBytes.bytes c.key_ref.ensures)) ∙ sym c.is_inside.ensures ∙ c.if-not-is_inside.false)
    (λ other e. some-of (FailsAt g.K.AsBytes.bytes c.args.self.now.nodes (is_inside c.args.is_start bound)) c.beside.result (c.is_outside.ensures out) other (c.beside.ensures ∙ e))
    ls are.has
