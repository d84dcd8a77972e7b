use Rattle.std.proofs.Common.{lit<}
use Rattle.art_arena.proofs.Common.{steps_of}
use Rattle.art_operations.proofs.Edits.{last-is}
use Rattle.art_operations.proofs.Preparing.{parent_inner, parent_node, parent_there, parent_some, parent_shrinks}
use Rattle.art_operations.proofs.Results.{on-err}
use Rattle.art_operations.proofs.delete.subtree.SubtreeDeletePoint.prepare.Goals as goal

pub reserve_smaller-requires : goal.reserve_smaller-requires
reserve_smaller-requires g c =
    let r = c.requires in
    let last = last-is (steps_of c.args.self.path) c.last_step.result c.in-Some.step c.in-Some.is c.last_step.ensures in (
      lit< tt,
      (
        parent_inner g.K.AsBytes.bytes g.row.PREFIX_LEN c.args.arena.now c.args.self.root r.1.0 c.args.self r.0 r.1.2.nodes r.1.3 c.in-Some.step last.0 last.1,
        (
          parent_node g.K.AsBytes.bytes g.row.PREFIX_LEN c.args.arena.now c.args.self.root r.1.0 c.args.self r.0 r.1.2.nodes r.1.3 c.in-Some.step last.0 last.1,
          parent_there g.K.AsBytes.bytes g.row.PREFIX_LEN c.args.arena.now c.args.self.root r.1.0 c.args.self r.0 r.1.2.nodes r.1.3 c.in-Some.step last.0 last.1,
          parent_some g.K.AsBytes.bytes g.row.PREFIX_LEN c.args.arena.now c.args.self.root r.1.0 c.args.self r.0 r.1.2.nodes r.1.3 c.in-Some.step last.0 last.1,
        ),
      ),
    )

pub returns-in_err-reserve_smaller-clause-shrinks : goal.returns-in_err-reserve_smaller-clause-shrinks
returns-in_err-reserve_smaller-clause-shrinks g c =
    on-err c.from_residual.result (λ front s rest tree is.
    let last = last-is (steps_of c.args.self.path) c.last_step.result c.in-Some.step c.in-Some.is c.last_step.ensures in
    parent_shrinks g.K.AsBytes.bytes g.row.PREFIX_LEN c.args.arena.now c.args.self.root s c.args.self front tree.nodes is c.in-Some.step last.0 last.1 c.in_err-reserve_smaller.ensures.shrinks)
