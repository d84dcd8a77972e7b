-- What the search for a zero found is what the key keeps or the refusal says.
use Rattle.std.proofs.Common.{refl, subst, sym, ap, ◌∙◌}
use Rattle.std.specs.List.{list_any}
use Rattle.std.specs.Prelude.{nat_eq}
use Rattle.art_bytes.proofs.Terms.{AreBytes, none_is_zero, some_is_zero}
use Rattle.art_bytes.proofs.keys.zero_ended.ZeroEnded.new.Goals as goal

pub returns-then-contains-clause-refused : goal.returns-then-contains-clause-refused
returns-then-contains-clause-refused c =
    (refl, some_is_zero _ (sym (c.contains.ensures.value ∙ ap (list_any (λ b. nat_eq b 0)) (c.bytes_in_range.ensures.value ∙ c.as_slice.ensures.value)) ∙ c.if-contains.true))

pub invariant_of-result : goal.invariant_of-result
invariant_of-result c =
    let none = none_is_zero c.args.bytes.items (sym (c.contains.ensures.value ∙ ap (list_any (λ b. nat_eq b 0)) (c.bytes_in_range.ensures.value ∙ c.as_slice.ensures.value)) ∙ c.if-contains.false) in
    (c.args.bytes.items, none, subst AreBytes c.as_slice.ensures.value c.bytes_in_range.ensures.fit, c.in-Ok.ensures.items)

pub returns-in-Ok-clause-fits : goal.returns-in-Ok-clause-fits
returns-in-Ok-clause-fits c =
    none_is_zero _ (sym (c.contains.ensures.value ∙ ap (list_any (λ b. nat_eq b 0)) (c.bytes_in_range.ensures.value ∙ c.as_slice.ensures.value)) ∙ c.if-contains.false)

pub returns-in-Err-clause-refused : goal.returns-in-Err-clause-refused
returns-in-Err-clause-refused c =
    (c.in-Err.ensures.items, none_is_zero _ (sym (c.contains.ensures.value ∙ ap (list_any (λ b. nat_eq b 0)) (c.bytes_in_range.ensures.value ∙ c.as_slice.ensures.value)) ∙ c.if-contains.false))
