use Rattle.std.proofs.Common.{◌≡◌, suc, Some, sym, ap₂, subst, arith, lit<}
use Rattle.art_nodes.specs.declared.kind.NodeType.TheVariants.{Leaf}
use Rattle.art_operations.proofs.Terms.{HasRemoved}
use Rattle.art_operations.proofs.LeafListsParted.{before-held, ends, none-removed, removed, removed-parted}
use Rattle.art_operations.proofs.leaf_list.LeafCursor.remove.Goals as goal

pub returns-in_err-leaf-clause-value : goal.returns-in_err-leaf-clause-value
returns-in_err-leaf-clause-value g c = λ front back stands.
    subst (λ o. HasRemoved c.args.arena.now c.args.self.now o front back) (sym c.from_residual.ensures)
    (none-removed c.args.arena.now c.args.self.now front back (cc c.in_err-leaf.was) stands)

pub deallocate_node_ptr-node-requires : goal.deallocate_node_ptr-node-requires
deallocate_node_ptr-node-requires g c =
    let r = c.requires in
    (lit< tt, before-held c.args.arena.now c.args.self.now r.0 r.1 r.2 c.in_ok-leaf.leaf (cc c.in_ok-leaf.was))

pub set_next_of_before-requires : goal.set_next_of_before-requires
set_next_of_before-requires g c =
    let r = c.requires in
    let node = c.deallocate_node_ptr-node in
    let at : c.args.self.now.before ≡ Some c.in_ok-leaf.leaf = cc c.in_ok-leaf.was in
    let front = (ends c.args.arena.now node.new.self c.args.self.now c.in_ok-leaf.leaf at node.result node.ensures.value node.ensures.updates c.previous-previous.result c.previous-previous.ensures r.0 r.1 r.2).rest in
    (omega arith, (front, _, _, r.1, removed-parted c.args.arena.now node.new.self c.args.self.now c.in_ok-leaf.leaf at node.result node.ensures.value node.ensures.updates c.previous-previous.result c.previous-previous.ensures r.0 r.1 r.2))

pub set_previous_of_after-requires : goal.set_previous_of_after-requires
set_previous_of_after-requires g c =
    let r = c.requires in
    let node = c.deallocate_node_ptr-node in
    let at : c.args.self.now.before ≡ Some c.in_ok-leaf.leaf = cc c.in_ok-leaf.was in
    let front = (ends c.args.arena.now node.new.self c.args.self.now c.in_ok-leaf.leaf at node.result node.ensures.value node.ensures.updates c.previous-previous.result c.previous-previous.ensures r.0 r.1 r.2).rest in
    let parted = removed-parted c.args.arena.now node.new.self c.args.self.now c.in_ok-leaf.leaf at node.result node.ensures.value node.ensures.updates c.previous-previous.result c.previous-previous.ensures r.0 r.1 r.2 in
    (omega arith, (front, _, _, r.1, c.set_next_of_before.ensures.parted front _ _ r.1 parted))

pub returns-clause-value : goal.returns-clause-value
returns-clause-value g c = λ front back stands.
    let node = c.deallocate_node_ptr-node in
    let at : c.args.self.now.before ≡ Some c.in_ok-leaf.leaf = cc c.in_ok-leaf.was in
    let left = (ends c.args.arena.now node.new.self c.args.self.now c.in_ok-leaf.leaf at node.result node.ensures.value node.ensures.updates c.previous-previous.result c.previous-previous.ensures front back stands).rest in
    let parted = removed-parted c.args.arena.now node.new.self c.args.self.now c.in_ok-leaf.leaf at node.result node.ensures.value node.ensures.updates c.previous-previous.result c.previous-previous.ensures front back stands in
    let led = c.set_previous_of_after.ensures.parted left _ _ back (c.set_next_of_before.ensures.parted left _ _ back parted) in
    let is = removed c.args.arena.now node.new.self c.args.self.now c.in_ok-leaf.leaf at node.result node.ensures.value node.ensures.updates c.previous-previous.result c.previous-previous.ensures front back stands
    c.set_next_of_before.new.arena c.set_previous_of_after.new.arena c.set_next_of_before.new.self c.set_next_of_before.ensures.cells c.set_previous_of_after.ensures.cells led in
    let pair_is : ◌≡◌ {A = g.row.K.Denot × g.row.V.Denot} (node.result.key, node.result.value) c.into_entry.result = ap₂ (λ k v. (k, v)) (sym c.into_entry.ensures.key) (sym c.into_entry.ensures.value) in
    subst (λ p. HasRemoved c.set_previous_of_after.new.arena c.set_next_of_before.new.self (Some p) front back) pair_is is

pub returns-clause-leaf_room : goal.returns-clause-leaf_room
returns-clause-leaf_room g c = λ n room. c.set_previous_of_after.ensures.room_of Leaf (suc n) (c.set_next_of_before.ensures.room_of Leaf (suc n) (c.deallocate_node_ptr-node.ensures.frees n room))
