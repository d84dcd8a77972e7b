use Rattle.std.proofs.Common.{◌≡◌, ◌<◌, ◌∷◌, ◌++◌, length, Some, ◌∙◌, ap, subst, inl, arith}
use Rattle.art_nodes.proofs.Common.{row_of, with_child, with_children}
use Rattle.art_arena.proofs.Common.{inner_held, held_at, links_at, cell_of, UpdatesAt, leaves_before, leaves_after, IsBeside, inner_of, links-kept}
use Rattle.art_operations.proofs.Waiting.{open_node, node-held, node-inner, as_many, child_was_put}
use Rattle.art_operations.proofs.insert.into_existing.insert_leaf.Goals as goal

pub link_in-requires : goal.link_in-requires
link_in-requires g c =
    let r = c.requires in (
      omega arith,
      (
        leaves_before (r.1 ∷ r.2),
        leaves_after (r.1 ∷ r.2),
        subst (IsBeside (links_at c.args.arena.now) (leaves_before (r.1 ∷ r.2) ++ leaves_after (r.1 ∷ r.2))) r.5.leaf_is r.5.beside,
        c.neighbours_at-neighbours.ensures _ _ _ _ _ _ r.5,
      ),
    )

pub edit_inner-requires : goal.edit_inner-requires
edit_inner-requires g c =
    let r = c.requires in
    let there : held_at c.link_in.new.arena c.args.node ≡ Some (inner_held (open_node g.row.PREFIX_LEN r.1)) = inner_of _ (open_node g.row.PREFIX_LEN r.1) (c.link_in.ensures.nodes c.args.node ∙ ap cell_of (node-held _ _ _ _ _ _ _ _ _ _ r.5)) in
    let most = r.6.most in
    let few : length (open_node g.row.PREFIX_LEN r.1).children < (row_of c.args.node.kind).most = omega (arith, most, as_many _ _ _ _ _ _ _ _ _ _ r.5) in
    (omega arith, (omega arith, ((open_node g.row.PREFIX_LEN r.1, there, inl few), node-inner _ _ _ _ _ _ _ _ _ _ r.5)))

pub returns-clause-room_of : goal.returns-clause-room_of
returns-clause-room_of g c = λ kind n room. c.edit_inner.ensures.room_of kind n (c.link_in.ensures.room_of kind n room)

pub returns-clause-put : goal.returns-clause-put
returns-clause-put g c = λ root f outer l rest awaits kind.
    let there = inner_of _ (open_node g.row.PREFIX_LEN f) (c.link_in.ensures.nodes c.args.node ∙ ap cell_of (node-held _ _ _ _ _ _ _ _ _ _ awaits)) in
    let update = subst (λ n. UpdatesAt (held_at c.link_in.new.arena) (held_at c.edit_inner.new.self) c.args.node
    (Some (inner_held (with_children (open_node g.row.PREFIX_LEN f) (with_child (open_node g.row.PREFIX_LEN f).children c.args.byte n)))))
    c.to_opaque.ensures (c.edit_inner.ensures.updates _ there) in
    let beside = subst (IsBeside (links_at c.args.arena.now) (leaves_before (f ∷ outer) ++ leaves_after (f ∷ outer))) awaits.leaf_is awaits.beside in
    let list = c.link_in.ensures.linked (leaves_before (f ∷ outer)) (leaves_after (f ∷ outer)) l beside (c.neighbours_at-neighbours.ensures _ _ _ _ _ _ awaits) awaits.leaf_is in
    child_was_put _ _ _ _ _ _ _ _ _ _ awaits c.link_in.new.arena c.edit_inner.new.self c.link_in.ensures.nodes list update kind

pub returns-clause-others : goal.returns-clause-others
returns-clause-others g c = λ root f outer l rest awaits n none.
    let there = inner_of _ (open_node g.row.PREFIX_LEN f) (c.link_in.ensures.nodes c.args.node ∙ ap cell_of (node-held _ _ _ _ _ _ _ _ _ _ awaits)) in
    let beside = subst (IsBeside (links_at c.args.arena.now) (leaves_before (f ∷ outer) ++ leaves_after (f ∷ outer))) awaits.leaf_is awaits.beside in
    links-kept c.link_in.new.arena c.edit_inner.new.self c.args.node _ (c.edit_inner.ensures.updates _ there) (node-inner _ _ _ _ _ _ _ _ _ _ awaits) n
    ∙ c.link_in.ensures.others (leaves_before (f ∷ outer)) (leaves_after (f ∷ outer)) l beside (c.neighbours_at-neighbours.ensures _ _ _ _ _ _ awaits) awaits.leaf_is n none
