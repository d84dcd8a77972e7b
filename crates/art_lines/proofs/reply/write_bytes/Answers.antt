use Rattle.std.proofs.Common.{rules, ◌≡◌, ◌<◌, length, arith, ◌∙◌, ap, sym}
use Rattle.std.proofs.lemmas.Bool.{eqb-true, eqb-false}
use Rattle.std.proofs.lemmas.List.{nil_from_length}
use Rattle.hex.specs.Hex.{encode_lower}
use Rattle.art_lines.proofs.Cuts.{taken_none, taken_more, taken_all, taken_cut, taken_from, writes_cut}
use Rattle.art_lines.proofs.HexText.{encode_lower-parts, encode_lower-nil, shown-bytes}
use Rattle.art_lines.proofs.reply.write_bytes.Goals as goal

pub loop-rest-init : goal.loop-rest-init
loop-rest-init g c =
    let some : 0 < length c.args.value.now = let h = eqb-false _ _ (sym c.is_empty.ensures ∙ c.if-is_empty.false) in omega arith in
    record { taken = taken_none (g.W.Sink.taken c.args.sink.now) _ _ (sym (shown-bytes c.args.value.now some)); fine = c.requires }

pub loop-rest-preserved : goal.loop-rest-preserved
loop-rest-preserved g c =
    let parts = encode_lower-parts c.min.result c.loop-rest.rest.now c.split_at.result.0.now c.split_at.result.1.now c.split_at.ensures.front c.split_at.ensures.back in
    record {
      taken = taken_more _ _ _ _ _ _ (taken_from _ _ _ _ _ parts c.loop-rest.invariant.taken) c.in_ok-write_part.ensures.ok;
      fine = sym c.in_ok-write_part.ensures.failed;
    }

pub returns-in_err-write_part : goal.returns-in_err-write_part
returns-in_err-write_part g c =
    let parts = encode_lower-parts c.min.result c.loop-rest.rest.now c.split_at.result.0.now c.split_at.result.1.now c.split_at.ensures.front c.split_at.ensures.back in
    writes_cut _ _ _ _ _ c.from_residual.ensures.0 c.in_err-write_part.ensures.failed
    (taken_cut _ _ _ _ _ _ (taken_from _ _ _ _ _ parts c.loop-rest.invariant.taken) c.in_err-write_part.ensures.cut)

pub returns : goal.returns
returns g c =
    let nothing : length c.loop-rest.rest.now ≡ 0 = eqb-true _ _ (sym c.is_empty-in-loop-rest.ensures ∙ c.loop-rest-test.false) in
    let none = ap encode_lower (nil_from_length c.loop-rest.rest.now nothing) ∙ encode_lower-nil in
    record {
      ok = taken_all _ _ _ (taken_from _ _ _ _ _ none c.loop-rest.invariant.taken);
      cut = search rules;
      failed = search rules;
    }
