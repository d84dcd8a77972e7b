use Rattle.std.proofs.Common.{◌≡◌, ◌≢◌, ℕ, suc, ◌+◌, List, length, refl, sym, ◌∙◌, subst, lit<, arith}
use Rattle.art_nodes.proofs.Common.{Name, CanShrink}
use Rattle.art_nodes.specs.declared.kind.NodeType.TheVariants.{Leaf}
use Rattle.art_arena.proofs.Common.{links_at, Cell, name_of, links-same}
use Rattle.art_operations.proofs.Terms.{IsChildPart, StandsFor}
use Rattle.art_operations.proofs.NodesRead.{read_at}
use Rattle.art_operations.proofs.Merges.{other_path, other_subtree, other_apart}
use Rattle.art_operations.proofs.Results.{both_ok, from_err, either_way}
use Rattle.art_operations.proofs.NewNodes.{fewer}
use Rattle.art_operations.proofs.TakenOut.{node, others, node_there, node_inner, node_count, puts_part_back, has_room_for_part, taken_out, taken_links, limit_kind, one_less, one, one_other, shorter, merged_out, merged_links}
use Rattle.art_operations.proofs.delete.detach.take_out.Goals as goal
use Rattle.art_operations.proofs.delete.detach.take_out.Goals.{After-num_children}

pub inner-requires : goal.inner-requires
inner-requires g c = (lit< tt, (lit< tt, (rw (node_there c.requires.1) refl, node_inner c.requires.1)))

-- how many children the node was seen to have
count : (g : _) (c : After-num_children g) {rest : List (Name × Cell g.row.K.Denot g.row.V.Denot)}
    (t : IsChildPart g.K.AsBytes.bytes g.row.PREFIX_LEN c.args.arena.now rest c.args.parent c.args.byte c.args.child) → c.num_children.result ≡ suc (others t)
count g c t = read_at (λ m. length m.children) _ (node t) _ (node_there t) c.inner.ensures.value _ c.num_children.ensures ∙ node_count t

pub merge-requires : goal.merge-requires
merge-requires g c =
    let t = c.requires.1 in
    let two : suc (others t) ≡ 2 = sym (count g ((goal.at.merge-requires g c).After-num_children) t) ∙ c.if-num_children-eq2.true in
    let o = one t two in
    (lit< tt, (node_inner t, (node t, (o.edge, name_of o.here), node_there t, one_other t two, other_path t.held o, o.here, other_subtree t.held o, shorter t two, λ e. other_apart t.held o (e ∙ sym t.named))))

pub returns-then-num_children-eq2-clause-ok : goal.returns-then-num_children-eq2-clause-ok
returns-then-num_children-eq2-clause-ok g c = λ rest t.
    let two : suc (others t) ≡ 2 = sym (count g ((goal.at.returns-then-num_children-eq2-clause-ok g c).After-num_children) t) ∙ c.if-num_children-eq2.true in
    let o = one t two in
    let m = c.merge.ensures.merges (node t) (o.edge, name_of o.here) (node_there t) (one_other t two) in
    let is = c.merge.ensures.value (node t) (o.edge, name_of o.here) (node_there t) (one_other t two) in
    subst (λ n. StandsFor g.K.AsBytes.bytes g.row.PREFIX_LEN c.merge.new.arena rest t.frame t.outer t.part n) (sym is) (merged_out t two m.0 c.merge.new.arena m.1 m.2)

pub returns-then-num_children-eq2-clause-links : goal.returns-then-num_children-eq2-clause-links
returns-then-num_children-eq2-clause-links g c =
    let t = c.requires.1 in
    let two : suc (others t) ≡ 2 = sym (count g ((goal.at.returns-then-num_children-eq2-clause-links g c).After-num_children) t) ∙ c.if-num_children-eq2.true in
    let o = one t two in
    let m = c.merge.ensures.merges (node t) (o.edge, name_of o.here) (node_there t) (one_other t two) in
    merged_links t two m.0 c.merge.new.arena m.1 m.2

pub returns-then-num_children-eq2-clause-room : goal.returns-then-num_children-eq2-clause-room
returns-then-num_children-eq2-clause-room g c = λ n room. c.merge.ensures.room n (fewer c.args.arena.now n (n + 1) (omega arith) room)

pub take_child-requires : goal.take_child-requires
take_child-requires g c = let t = c.requires.1 in (lit< tt, (node_inner t, (node t, node_there t, puts_part_back t, has_room_for_part t)))

pub returns-clause-ok : goal.returns-clause-ok
returns-clause-ok g c =
    both_ok c.take_child.result _ _ _ c.take_child.ensures.ok c.take_child.ensures.kind (λ other moves kind rest t.
    let more : suc (others t) ≢ 2 = λ e. c.if-num_children-eq2.false (count g ((goal.at.returns-clause-ok g c).After-num_children) t ∙ e) in
    taken_out t c.take_child.new.arena other (moves (node t) (node_there t)) (kind (node t) (node_there t)) more)

pub returns-clause-links : goal.returns-clause-links
returns-clause-links g c =
    let t = c.requires.1 in
    let more : suc (others t) ≢ 2 = λ e. c.if-num_children-eq2.false (count g ((goal.at.returns-clause-links g c).After-num_children) t ∙ e) in
    either_way c.take_child.result _ _ _ ((slot : ℕ) → links_at c.take_child.new.arena slot ≡ links_at c.args.arena.now slot) c.take_child.ensures.ok c.take_child.ensures.kind c.take_child.ensures.err
    (λ other moves kind. taken_links t c.take_child.new.arena other (moves (node t) (node_there t)) (kind (node t) (node_there t)) more)
    (λ same. links-same c.args.arena.now c.take_child.new.arena same)

pub returns-clause-shrinks : goal.returns-clause-shrinks
returns-clause-shrinks g c = from_err c.take_child.result (λ can rest t. limit_kind t (can (node t) (node_there t))) c.take_child.ensures.shrinks

pub returns-clause-has_room : goal.returns-clause-has_room
returns-clause-has_room g c = λ room.
    let t = c.requires.1 in
    c.take_child.ensures.has_room (λ n there can. room n there (subst (CanShrink c.args.parent.kind) (one_less t n there) can))

pub returns-then-num_children-eq2-clause-leaf_room : goal.returns-then-num_children-eq2-clause-leaf_room
returns-then-num_children-eq2-clause-leaf_room g c = λ n room. c.merge.ensures.room_of Leaf n room
