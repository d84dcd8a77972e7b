use Rattle.std.proofs.Common.{rules, arith}
use Rattle.art_engine.proofs.CarriedOut.{if_ok}
use Rattle.art_engine.proofs.index.Index.handle.Goals as goal

pub execute_parsed-requires : goal.execute_parsed-requires
execute_parsed-requires g c = (search rules, (c.requires, ((c.args.line.now, c.read_line-word.ensures), (omega arith, tt))))

pub returns-clause-output : goal.returns-clause-output
returns-clause-output g c = if_ok c.execute_parsed.result (λ d e. e.output) (c.execute_parsed.ensures.done c.args.line.now c.read_line-word.ensures)

pub returns-clause-left : goal.returns-clause-left
returns-clause-left g c = if_ok c.execute_parsed.result (λ d e. e.left) (c.execute_parsed.ensures.done c.args.line.now c.read_line-word.ensures)

pub returns-clause-lawful : goal.returns-clause-lawful
returns-clause-lawful g c = if_ok c.execute_parsed.result (λ d e. e.lawful) (c.execute_parsed.ensures.done c.args.line.now c.read_line-word.ensures)

pub returns-clause-visits : goal.returns-clause-visits
returns-clause-visits g c = if_ok c.execute_parsed.result (λ d e. e.within) (c.execute_parsed.ensures.done c.args.line.now c.read_line-word.ensures)

pub returns-clause-short : goal.returns-clause-short
returns-clause-short g c = if_ok c.execute_parsed.result (λ d e. e.short) (c.execute_parsed.ensures.done c.args.line.now c.read_line-word.ensures)

pub returns-clause-own_path : goal.returns-clause-own_path
returns-clause-own_path g c = if_ok c.execute_parsed.result (λ d e. e.own_path) (c.execute_parsed.ensures.done c.args.line.now c.read_line-word.ensures)

pub returns-clause-counted : goal.returns-clause-counted
returns-clause-counted g c = if_ok c.execute_parsed.result (λ d e. e.counted) (c.execute_parsed.ensures.done c.args.line.now c.read_line-word.ensures)

pub returns-clause-cut : goal.returns-clause-cut
returns-clause-cut g c = c.execute_parsed.ensures.cut c.args.line.now c.read_line-word.ensures
