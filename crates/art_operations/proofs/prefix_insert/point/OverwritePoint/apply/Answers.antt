use Rattle.std.proofs.Common.{◌≡◌, List, ◌∷◌, ◌++◌, refl, subst, arith}
use Rattle.art_nodes.proofs.Common.{Name}
use Rattle.art_nodes.specs.declared.kind.NodeType.TheVariants.{Leaf}
use Rattle.art_arena.proofs.Common.{node_at, links_at, Cell, pair, leaf_name, Holds, IsTreeBeside, steps_of, path_to, root_of, leaves_before, leaves_after, cells_before, cells_after, Shape, cells, leaves, kept-run}
use Rattle.art_operations.proofs.Terms.{IsInTheWay}
use Rattle.art_operations.proofs.NewNodes.{all_room}
use Rattle.art_operations.proofs.Overwrites.{part_stands, stands_beside, part_left, part_apart, overwritten, others_stay}
use Rattle.art_operations.proofs.prefix_insert.point.OverwritePoint.apply.Goals as goal
use Rattle.art_operations.proofs.prefix_insert.point.OverwritePoint.apply.Goals.{After-repoint-new_root}

pub first_leaf-first-requires : goal.first_leaf-first-requires
first_leaf-first-requires g c =
    let r = c.requires in
    (omega arith, (path_to r.3.ctx, r.3.part, part_stands g.K.AsBytes.bytes g.row.PREFIX_LEN c.args.arena.now c.args.self.root r.0 r.2 c.args.key c.args.value c.args.self.overwrite_point (steps_of c.args.self.path) r.3))

pub last_leaf-last-requires : goal.last_leaf-last-requires
last_leaf-last-requires g c =
    let r = c.requires in
    (omega arith, (path_to r.3.ctx, r.3.part, part_stands g.K.AsBytes.bytes g.row.PREFIX_LEN c.args.arena.now c.args.self.root r.0 r.2 c.args.key c.args.value c.args.self.overwrite_point (steps_of c.args.self.path) r.3))

pub replace_run-requires : goal.replace_run-requires
replace_run-requires g c =
    let r = c.requires in
    let stands = part_stands g.K.AsBytes.bytes g.row.PREFIX_LEN c.args.arena.now c.args.self.root r.0 r.2 c.args.key c.args.value c.args.self.overwrite_point (steps_of c.args.self.path) r.3 in (
      omega arith,
      (
        leaves_before r.3.ctx,
        leaves r.3.part,
        leaves_after r.3.ctx,
        stands_beside g.K.AsBytes.bytes g.row.PREFIX_LEN c.args.arena.now c.args.self.root r.0 r.2 c.args.key c.args.value c.args.self.overwrite_point (steps_of c.args.self.path) r.3 c.in_ok-leaf.leaf c.store_leaf.new.arena c.in_ok-leaf.ensures.ok,
        c.first_leaf-first.ensures (path_to r.3.ctx) r.3.part stands,
        c.last_leaf-last.ensures (path_to r.3.ctx) r.3.part stands,
      ),
    )

pub repoint-new_root-requires : goal.repoint-new_root-requires
repoint-new_root-requires g c =
    let r = c.requires in (
      omega arith,
      (
        r.3.ctx,
        c.args.self.overwrite_point,
        _,
        part_left g.K.AsBytes.bytes g.row.PREFIX_LEN c.args.arena.now c.args.self.root r.0 r.2 c.args.key c.args.value c.args.self.overwrite_point
            (steps_of c.args.self.path) r.3 c.in_ok-leaf.leaf c.store_leaf.new.arena c.in_ok-leaf.ensures.ok c.replace_run.new.arena c.replace_run.ensures.nodes,
      ),
    )

-- what stands around the part has the new leaf in its place
there : (g : _) (c : After-repoint-new_root g) {rest : List (Name × Cell g.row.K.Denot g.row.V.Denot)} (s : Shape g.row.K.Denot g.row.V.Denot)
    (tree : IsTreeBeside g.K.AsBytes.bytes g.row.PREFIX_LEN (node_at c.args.arena.now) c.args.self.root (links_at c.args.arena.now) rest s)
    (way : IsInTheWay g.K.AsBytes.bytes (g.K.AsBytes.bytes c.args.key) s c.args.self.root c.args.self.overwrite_point (steps_of c.args.self.path))
    → Holds (node_at c.repoint-new_root.new.arena) (cells_before g.row.PREFIX_LEN way.ctx (leaf_name c.in_ok-leaf.leaf) ++ (cells g.row.PREFIX_LEN way.part ++ (leaf_name c.in_ok-leaf.leaf, pair c.args.key c.args.value) ∷ (cells_after g.row.PREFIX_LEN way.ctx ++ rest)))
there g c {rest} s tree way =
    subst (λ n. Holds (node_at c.repoint-new_root.new.arena) (cells_before g.row.PREFIX_LEN way.ctx n ++ (cells g.row.PREFIX_LEN way.part ++ (leaf_name c.in_ok-leaf.leaf, pair c.args.key c.args.value) ∷ (cells_after g.row.PREFIX_LEN way.ctx ++ rest)))) c.to_opaque.ensures
    (c.repoint-new_root.ensures.holds way.ctx c.args.self.overwrite_point _
    (part_left g.K.AsBytes.bytes g.row.PREFIX_LEN c.args.arena.now c.args.self.root s tree c.args.key c.args.value c.args.self.overwrite_point (steps_of c.args.self.path) way c.in_ok-leaf.leaf c.store_leaf.new.arena c.in_ok-leaf.ensures.ok c.replace_run.new.arena c.replace_run.ensures.nodes))

pub remove_part-removed-requires : goal.remove_part-removed-requires
remove_part-removed-requires g c =
    let r = c.requires in
    let d = (goal.at.remove_part-removed-requires g c).After-repoint-new_root in (
      omega arith,
      (
        path_to r.3.ctx,
        r.3.part,
        _,
        r.3.toward.place.under,
        part_apart g.K.AsBytes.bytes g.row.PREFIX_LEN c.args.arena.now c.args.self.root r.0 r.2 c.args.key c.args.value c.args.self.overwrite_point
            (steps_of c.args.self.path) r.3 c.in_ok-leaf.leaf c.repoint-new_root.new.arena (there g d r.0 r.2 r.3),
      ),
    )

pub returns-clause-ok : goal.returns-clause-ok
returns-clause-ok g c = λ s rest tree way.
    let d = (goal.at.returns-clause-ok g c).After-repoint-new_root in
    let held = there g d s tree way in
    let apart = part_apart g.K.AsBytes.bytes g.row.PREFIX_LEN c.args.arena.now c.args.self.root s tree c.args.key c.args.value c.args.self.overwrite_point (steps_of c.args.self.path) way c.in_ok-leaf.leaf c.repoint-new_root.new.arena held in
    let stands = part_stands g.K.AsBytes.bytes g.row.PREFIX_LEN c.args.arena.now c.args.self.root s tree c.args.key c.args.value c.args.self.overwrite_point (steps_of c.args.self.path) way in
    let under = way.toward.place.under in
    overwritten g.K.AsBytes.bytes g.row.PREFIX_LEN c.args.arena.now c.args.self.root s tree c.args.key c.args.value c.args.self.overwrite_point
    (steps_of c.args.self.path) way c.in_ok-leaf.leaf c.repoint-new_root.new.arena held c.replace_run.new.arena c.remove_part-removed.new.arena
    c.repoint-new_root.result
    c.remove_part-removed.result.leaf c.remove_part-removed.result.count
    (subst (λ n. root_of way.ctx n ≡ c.repoint-new_root.result) c.to_opaque.ensures
    (c.repoint-new_root.ensures.root way.ctx c.args.self.overwrite_point _
    (part_left g.K.AsBytes.bytes g.row.PREFIX_LEN c.args.arena.now c.args.self.root s tree c.args.key c.args.value c.args.self.overwrite_point (steps_of c.args.self.path) way c.in_ok-leaf.leaf c.store_leaf.new.arena c.in_ok-leaf.ensures.ok c.replace_run.new.arena c.replace_run.ensures.nodes)))
    (c.replace_run.ensures.linked (leaves_before way.ctx) (leaves way.part) (leaves_after way.ctx) _
    (stands_beside g.K.AsBytes.bytes g.row.PREFIX_LEN c.args.arena.now c.args.self.root s tree c.args.key c.args.value c.args.self.overwrite_point (steps_of c.args.self.path) way c.in_ok-leaf.leaf c.store_leaf.new.arena c.in_ok-leaf.ensures.ok)
    (c.first_leaf-first.ensures (path_to way.ctx) way.part stands) (c.last_leaf-last.ensures (path_to way.ctx) way.part stands) refl)
    c.repoint-new_root.ensures.links
    (c.remove_part-removed.ensures.freed (path_to way.ctx) way.part _ under apart)
    (c.remove_part-removed.ensures.kept (path_to way.ctx) way.part _ under apart)
    (c.remove_part-removed.ensures.removed (path_to way.ctx) way.part _ under apart)

pub returns-clause-others : goal.returns-clause-others
returns-clause-others g c = λ s rest tree way.
    let d = (goal.at.returns-clause-others g c).After-repoint-new_root in
    let held = there g d s tree way in
    let apart = part_apart g.K.AsBytes.bytes g.row.PREFIX_LEN c.args.arena.now c.args.self.root s tree c.args.key c.args.value c.args.self.overwrite_point (steps_of c.args.self.path) way c.in_ok-leaf.leaf c.repoint-new_root.new.arena held in
    let stands = part_stands g.K.AsBytes.bytes g.row.PREFIX_LEN c.args.arena.now c.args.self.root s tree c.args.key c.args.value c.args.self.overwrite_point (steps_of c.args.self.path) way in
    let beside = stands_beside g.K.AsBytes.bytes g.row.PREFIX_LEN c.args.arena.now c.args.self.root s tree c.args.key c.args.value c.args.self.overwrite_point (steps_of c.args.self.path) way c.in_ok-leaf.leaf c.store_leaf.new.arena c.in_ok-leaf.ensures.ok in
    let under = way.toward.place.under in
    others_stay g.K.AsBytes.bytes g.row.PREFIX_LEN c.args.arena.now c.args.self.root s tree c.args.key c.args.value c.args.self.overwrite_point (steps_of c.args.self.path) way c.in_ok-leaf.leaf c.repoint-new_root.new.arena held
    c.store_leaf.new.arena c.replace_run.new.arena c.remove_part-removed.new.arena c.in_ok-leaf.ensures.ok
    (kept-run (links_at c.store_leaf.new.arena) (links_at c.replace_run.new.arena) (leaves_before way.ctx) (leaves way.part) (leaves_after way.ctx) (record { slot = c.in_ok-leaf.leaf; key = c.args.key; value = c.args.value }) _ _ beside.list.linked
    (c.first_leaf-first.ensures (path_to way.ctx) way.part stands) (c.last_leaf-last.ensures (path_to way.ctx) way.part stands) c.replace_run.ensures.others)
    c.repoint-new_root.ensures.links
    (c.remove_part-removed.ensures.freed (path_to way.ctx) way.part _ under apart)
    (c.remove_part-removed.ensures.kept (path_to way.ctx) way.part _ under apart)

pub returns-clause-room : goal.returns-clause-room
returns-clause-room g c = λ n room.
    all_room c.repoint-new_root.new.arena c.remove_part-removed.new.arena c.remove_part-removed.ensures.room_of n
    (all_room c.replace_run.new.arena c.repoint-new_root.new.arena c.repoint-new_root.ensures.room_of n (c.replace_run.ensures.room n (c.store_leaf.ensures.room n room)))

pub returns-clause-leaf_room : goal.returns-clause-leaf_room
returns-clause-leaf_room g c = λ n room.
    c.remove_part-removed.ensures.leaf_room n (c.repoint-new_root.ensures.room_of Leaf n (c.replace_run.ensures.room_of Leaf n (c.in_ok-leaf.ensures.room_of.own n room)))

pub returns-clause-inner_room : goal.returns-clause-inner_room
returns-clause-inner_room g c = λ kind other n room.
    c.remove_part-removed.ensures.room_of kind n (c.repoint-new_root.ensures.room_of kind n (c.replace_run.ensures.room_of kind n (c.in_ok-leaf.ensures.room_of.others kind other n room)))
