use Rattle.std.proofs.Common.{sym, subst, arith}
use Rattle.std.proofs.lemmas.Bool.{not-false, not-true}
use Rattle.art_operations.proofs.Common.{HasLeavesOf}
use Rattle.art_map.proofs.Built.{in-order, nodes-in-order, nodes-settled, settled}
use Rattle.art_map.proofs.RoomLeft.{left-of-map, left-of-tree}
use Rattle.art_map.proofs.map.builder.TreeMapBuilder.finish.Goals as goal

pub returns-then-not-self-clause-pairs : goal.returns-then-not-self-clause-pairs
returns-then-not-self-clause-pairs g c = λ pairs taken. settled g.K.AsBytes.bytes g.K.AsBytes.is_key c.args.self pairs (not-true c.args.self.in_order c.if-not-self.true) taken

pub returns-then-not-self-clause-names : goal.returns-then-not-self-clause-names
returns-then-not-self-clause-names g c =
    subst (HasLeavesOf g.K.AsBytes.bytes c.args.self.map.nodes) (sym (nodes-settled g.K.AsBytes.bytes c.args.self (not-true c.args.self.in_order c.if-not-self.true))) (λ slot key has. has)

pub of_tree-requires : goal.of_tree-requires
of_tree-requires g c =
    let r = c.requires.taken in
    let taken = in-order g.K.AsBytes.bytes g.K.AsBytes.is_key c.args.self r.0 (not-false c.args.self.in_order c.if-not-self.false) r.1 in
    (omega arith, (omega arith, (c.requires.fits_in_memory, (r.0, taken.0, taken.1))))

pub returns-clause-pairs : goal.returns-clause-pairs
returns-clause-pairs g c = λ pairs taken. c.of_tree.ensures.pairs pairs (in-order g.K.AsBytes.bytes g.K.AsBytes.is_key c.args.self pairs (not-false c.args.self.in_order c.if-not-self.false) taken).0

pub returns-clause-names : goal.returns-clause-names
returns-clause-names g c =
    subst (HasLeavesOf g.K.AsBytes.bytes c.of_tree.result.nodes) (sym (nodes-in-order g.K.AsBytes.bytes c.args.self (not-false c.args.self.in_order c.if-not-self.false))) c.of_tree.ensures.names

pub returns-then-not-self-clause-room : goal.returns-then-not-self-clause-room
returns-then-not-self-clause-room g c = λ n left. left-of-map c.args.self n (not-true c.args.self.in_order c.if-not-self.true) left

pub returns-clause-room : goal.returns-clause-room
returns-clause-room g c = λ n left. c.of_tree.ensures.room n (left-of-tree c.args.self n (not-false c.args.self.in_order c.if-not-self.false) left)
