use Rattle.art_arena.proofs.tree.LookUps.{look_up_few, look_up_whole}
use Rattle.art_arena.proofs.laws.look_up_is_path.Goals as goal

pub returns : goal.returns
returns g c = λ P t k. (look_up_few P t k, λ key h x i s. look_up_whole key P t h k x i s)
