use Rattle.std.proofs.Common.{ap, sym, ◌∙◌, subst}
use Rattle.art_lines.proofs.Common.{of_tenant, over, tenant_in_place, key_in_place, value_in_place}
use Rattle.art_engine.proofs.Terms.{Pair, records_of, ArePairs, IsChangeDone}
use Rattle.art_engine.proofs.Changing.{over_done}
use Rattle.art_engine.proofs.Overwriting.{over_keeps}
use Rattle.art_engine.proofs.records.change.keys.put_over.Goals as goal
use Rattle.art_engine.proofs.records.change.keys.put_over.Goals.{in-Ok-prefix_insert, in-Err}

pub returns-clause-held : goal.returns-clause-held
returns-clause-held g c =
    let F = c.args.fields.now in let ps = c.args.records.now.pairs in
    let e : Pair = (c.in-Ok.key, c.in-Ok-from_slice.value) in
    let full = c.in-Ok.ensures.items ∙ c.full_key.ensures.value in
    let value = c.in-Ok-from_slice.ensures.items ∙ c.value.ensures.value in
    elim c.match-prefix_insert.branch [
      | in-Ok-prefix_insert w ↦
          over_keeps (tenant_in_place F) (key_in_place F) (value_in_place F) ps c.prefix_insert.new.self.pairs e c.requires.held.stand c.requires.fits.tenant_fits
          full value w.in-Ok-prefix_insert.ensures.pairs c.requires.held.fit c.requires.fits
      | in-Err w ↦ subst ArePairs (sym w.in-Err.ensures.err) c.requires.held
    ]

pub returns-clause-done : goal.returns-clause-done
returns-clause-done g c =
    let F = c.args.fields.now in let ps = c.args.records.now.pairs in let new = c.prefix_insert.new.self.pairs in
    let e : Pair = (c.in-Ok.key, c.in-Ok-from_slice.value) in
    let full = c.in-Ok.ensures.items ∙ c.full_key.ensures.value in
    let value = c.in-Ok-from_slice.ensures.items ∙ c.value.ensures.value in
    elim c.match-prefix_insert.branch [
      | in-Ok-prefix_insert w ↦
          subst (λ p. IsChangeDone p (of_tenant (tenant_in_place F) (over (key_in_place F) (value_in_place F))) (records_of ps) (records_of new)) (sym w.result-is)
          (over_done (tenant_in_place F) (key_in_place F) (value_in_place F) ps new e c.requires.held.stand c.requires.fits.tenant_fits full value
          w.in-Ok-prefix_insert.count w.in-Ok-prefix_insert.ensures.count w.in-Ok-prefix_insert.ensures.pairs)
      | in-Err w ↦
          subst (λ p. IsChangeDone p (of_tenant (tenant_in_place F) (over (key_in_place F) (value_in_place F))) (records_of ps) (records_of new)) (sym w.result-is)
          (ap records_of w.in-Err.ensures.err, tt)
    ]
