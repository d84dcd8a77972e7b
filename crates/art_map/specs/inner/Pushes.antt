-- A pair that was not taken after the others.
use Rattle.art_operations.specs.declared.build.PushRefused.{PushRefused}
use Rattle.art_operations.specs.declared.build.PushRefused.TheVariants.{NotAfter, Memory}

-- the pair that a refusal hands back
abbrev pub pair_handed_back : {K V : Type 0} → PushRefused K V → K × V
pair_handed_back (NotAfter key value) = (key, value)
pair_handed_back (Memory key value) = (key, value)
