use Rattle.std.proofs.Common.{MatchBool, sym, ap, subst, ◌∙◌}
use Rattle.std.specs.Prelude.{option_map}
use Rattle.std.specs.Map.Iter.{deref_pair}
use Rattle.art_bytes.proofs.Common.{IsBefore}
use Rattle.art_map.proofs.Pushed.{last-tells, none-last}
use Rattle.art_map.proofs.map.TreeMap.ends_below.Goals as goal

pub returns-in-Some : goal.returns-in-Some
returns-in-Some g c =
    let p : g.row.K.Denot × g.row.V.Denot = (c.in-Some.last.now, c.in-Some.field-0-1.now) in
    let key = c.args.key.now in
    last-tells g.K.AsBytes.bytes c.goes_after.result p c.args.self.now.pairs key c.nodes-root.ensures.ordered (sym (ap (option_map deref_pair) c.in-Some.is) ∙ c.last_key_value.ensures)
    (subst (λ k. MatchBool c.goes_after.result (IsBefore k key) (IsBefore k key → ⊥)) c.as_bytes.ensures.value c.goes_after.ensures)

pub returns-in-None : goal.returns-in-None
returns-in-None g c = none-last g.K.AsBytes.bytes c.args.self.now.pairs c.args.key.now (sym (ap (option_map deref_pair) c.in-None.is) ∙ c.last_key_value.ensures)
