use Rattle.std.proofs.Common.{ap, ◌∙◌}
use Rattle.art_arena.proofs.Terms.{Arena, leaves_held}
use Rattle.art_arena.proofs.shapes.HeldLeaves.{leaves_of_tree, leaves_of_none}
use Rattle.art_arena.proofs.arena.NodeArena.leaf_count.Goals as goal

pub returns-clause-tree : goal.returns-clause-tree
returns-clause-tree g c = λ bytes root s tree. c.len.ensures ∙ ap (λ (a : Arena g.row.K.Denot g.row.V.Denot). leaves_held a) c.self.view_is ∙ leaves_of_tree bytes g.row.PREFIX_LEN c.args.self.now root s tree

pub returns-clause-none : goal.returns-clause-none
returns-clause-none g c = λ empty. c.len.ensures ∙ ap (λ (a : Arena g.row.K.Denot g.row.V.Denot). leaves_held a) c.self.view_is ∙ leaves_of_none c.args.self.now empty
