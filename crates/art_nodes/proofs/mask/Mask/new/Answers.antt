use Rattle.std.proofs.Common.{[], ◌∷◌}
use Rattle.art_nodes.proofs.Terms.{is_marked}
use Rattle.art_nodes.proofs.PassingLemmas.{passing-none}
use Rattle.art_nodes.proofs.MaskLemmas.{no_words}
use Rattle.art_nodes.proofs.mask.Mask.new.Goals as goal

pub returns : goal.returns
returns c = passing-none (is_marked (0 ∷ 0 ∷ 0 ∷ 0 ∷ [])) 0 256 (λ k from to. no_words k to)
