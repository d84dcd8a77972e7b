use Rattle.std.proofs.Common.{◌≡◌, ℕ, ◌/◌, ◌<◌, false, List, length, take, drop, ◌∙◌, ap, sym, subst, Some, Ok, arith}
use Rattle.std.specs.Prelude.{is_ok, MatchBool}
use Rattle.std.specs.Str.{bytes_eq}
use Rattle.std.proofs.lemmas.Bool.{eqb-true, eqb-false}
use Rattle.std.proofs.lemmas.List.{length-take-le}
use Rattle.hex.specs.Hex.{decode_of}
use Rattle.art_lines.proofs.Parsing.{bytes_dash, bytes_empty, decoded, drop_taken}
use Rattle.art_lines.proofs.HexText.{read_whole}
use Rattle.art_lines.proofs.command.fields.decode_bytes.Goals as goal

pub returns-then-eq-clause-read : goal.returns-then-eq-clause-read
returns-then-eq-clause-read g c =
    let none = ap (drop c.args.front) c.truncate.ensures.items ∙ drop_taken c.args.front c.args.bytes.now.items in
    ap (λ l. Some l) none ∙ bytes_dash c.args.field.now (c.if-eq.ensures ∙ ap (bytes_eq c.args.field.now) c.as_slice.ensures)

pub returns-then-is_empty-clause-read : goal.returns-then-is_empty-clause-read
returns-then-is_empty-clause-read g c = bytes_empty c.args.field.now (eqb-true (length c.args.field.now) 0 (sym c.is_empty.ensures ∙ c.if-is_empty.true))

pub returns-clause-read : goal.returns-clause-read
returns-clause-read g c =
    let field : List ℕ = c.args.field.now in let front : ℕ = c.args.front in let half : ℕ = length field / 2 in
    let fits = c.requires.fits in let inside = c.requires.front_in in
    let some : 0 < length field = let h = eqb-false (length field) 0 (sym c.is_empty.ensures ∙ c.if-is_empty.false) in omega arith in
    let other = c.if-eq.ensures ∙ ap (bytes_eq field) c.as_slice.ensures in
    let long = c.set_length.ensures.length in
    let lent = ap length c.as_mut_slice.ensures.value in
    let kept : length (take front c.as_mut_slice.result.now) ≡ front = length-take-le front c.as_mut_slice.result.now (omega arith) in
    let all = c.decode_to_slice.auto.out in
    let read = read_whole field c.decode_to_slice.new.out _ c.decode_to_slice.result (omega arith) c.decode_to_slice.ensures.value in
    decoded front c.set_length.new.bytes.items c.as_mut_slice.result.now c.decode_to_slice.new.out _ kept (omega arith)
    field c.is_ok.result (subst (λ b. MatchBool b (decode_of field ≡ Ok c.decode_to_slice.new.out) (is_ok (decode_of field) ≡ false)) (sym c.is_ok.ensures.value) read) other some
