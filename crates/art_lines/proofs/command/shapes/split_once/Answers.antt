use Rattle.std.proofs.Common.{arith}
use Rattle.std.proofs.lemmas.Bool.{eqb-true, eq-eqb}
use Rattle.art_lines.proofs.Parsing.{fields_first, fields_none}
use Rattle.art_lines.proofs.command.shapes.split_once.Goals as goal

pub returns-in-Some-clause-fields : goal.returns-in-Some-clause-fields
returns-in-Some-clause-fields c =
    let found = c.in-Some.ensures in
    fields_first c.args.text.now c.in-Some.i found.0.high (eqb-true _ 32 found.1) (λ k before space. found.0.before k (omega arith) before (eq-eqb _ 32 space))

pub returns-in-None-clause-one : goal.returns-in-None-clause-one
returns-in-None-clause-one c = fields_none c.args.text.now (λ k within space. c.in-None.ensures k (omega arith) within (eq-eqb _ 32 space))
