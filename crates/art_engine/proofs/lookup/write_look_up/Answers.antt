use Rattle.std.proofs.Common.{rules}
use Rattle.art_engine.proofs.lookup.write_look_up.Goals as goal

pub returns-in-Get-clause-bytes_few : goal.returns-in-Get-clause-bytes_few
returns-in-Get-clause-bytes_few g c = λ ps ns r s. search (rules, c.value_of.ensures.visits ps r)

pub returns-in-Find-clause-bytes_few : goal.returns-in-Find-clause-bytes_few
returns-in-Find-clause-bytes_few g c = λ ps ns r s. search (rules, c.prefix_pair_of.ensures.visits ps r)

pub returns-in-NGet-clause-numbers_few : goal.returns-in-NGet-clause-numbers_few
returns-in-NGet-clause-numbers_few g c = λ ps ns r s. search (rules, c.value_at_number.ensures.visits ns s)
