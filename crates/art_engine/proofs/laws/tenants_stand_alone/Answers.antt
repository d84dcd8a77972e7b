use Rattle.art_engine.proofs.Isolation.{tenants_stand_alone}
use Rattle.art_engine.proofs.laws.tenants_stand_alone.Goals as goal

pub returns : goal.returns
returns c = tenants_stand_alone
