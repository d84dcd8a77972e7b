use Rattle.std.proofs.Common.{rules, ◌≡◌, ◌+◌, ◌<◌, ◌^◌, ◌∷◌, ◌++◌, ◌∙◌, List, ltb, Some, refl, subst, arith}
use Rattle.art_arena.proofs.Common.{node_at, links_at, Cell, UpdatesAt, path_to, leaves_before, leaves_after, IsBeside, IsTreeBeside, Shape, steps_of, links-update, links-kept}
use Rattle.art_nodes.proofs.Common.{Name}
use Rattle.art_nodes.specs.declared.kind.NodeType.TheVariants.{Leaf}
use Rattle.art_operations.proofs.Terms.{StandsAround, trimmed, root_cell, with_prefix, IsBetween, IsPoint}
use Rattle.art_operations.proofs.Splits.{SplitPlace, split_place}
use Rattle.art_operations.proofs.SplitTrees.{part_subtree, part_at_depth, part_cell, part_held, split_frame, split_leaves, end_between, split_cells, split_beside, split_stands, split, split_name, not_leaf}
use Rattle.art_operations.proofs.Inserted.{put_keeps}
use Rattle.art_operations.proofs.NewNodes.{all_room}
use Rattle.art_operations.proofs.insert.split.split.Goals as goal
use Rattle.art_operations.proofs.insert.split.split.Goals.{In_ok-made, After-trim, After-link_between}

pub leaf_at_end-neighbour-requires : goal.leaf_at_end-neighbour-requires
leaf_at_end-neighbour-requires g c =
    let r = c.requires.tree in
    let at = split_place g.K.AsBytes.bytes (g.K.AsBytes.bytes c.args.key) r.0 c.args.point c.args.old c.args.parted r.3 c.requires.kind in
    (omega arith, (path_to at.ctx, at.part, part_subtree g.K.AsBytes.bytes g.row.PREFIX_LEN r.0 c.args.old c.args.parted c.args.point.key_bytes_used (steps_of c.args.point.path) c.args.key c.args.value at c.args.point.root c.args.arena.now r.2))

pub rest_of_prefix-rest-requires : goal.rest_of_prefix-rest-requires
rest_of_prefix-rest-requires g c =
    let r = c.requires.tree in
    let at = split_place g.K.AsBytes.bytes (g.K.AsBytes.bytes c.args.key) r.0 c.args.point c.args.old c.args.parted r.3 c.requires.kind in
    let stands = part_at_depth g.K.AsBytes.bytes g.row.PREFIX_LEN r.0 c.args.old c.args.parted c.args.point.key_bytes_used (steps_of c.args.point.path) c.args.key c.args.value at c.args.point.root c.args.arena.now r.2 in
    let fits : g.row.PREFIX_LEN < 2 ^ 62 = c.if-not-fits_in_memory.ensures.value refl in
    (omega arith, (search (rules, fits), ((path_to at.ctx, at.part, stands, λ other. let inside = at.inside other in omega (arith, inside)), fits)))

pub store_nodes-requires : goal.store_nodes-requires
store_nodes-requires g c =
    let r = c.requires.tree in
    let at = split_place g.K.AsBytes.bytes (g.K.AsBytes.bytes c.args.key) r.0 c.args.point c.args.old c.args.parted r.3 c.requires.kind in
    (omega arith, (at.within, (at.differs, c.if-not-fits_in_memory.ensures.value refl)))

module _ (g : _) (c : In_ok-made g) {rest : List (Name × Cell g.row.K.Denot g.row.V.Denot)} (s : Shape g.row.K.Denot g.row.V.Denot) (tree : IsTreeBeside g.K.AsBytes.bytes g.row.PREFIX_LEN (node_at c.args.arena.now) c.args.point.root (links_at c.args.arena.now) rest s)
    (point : IsPoint g.K.AsBytes.bytes (g.K.AsBytes.bytes c.args.key) s c.args.point) where
  at : SplitPlace g.K.AsBytes.bytes (g.K.AsBytes.bytes c.args.key) s c.args.old c.args.parted c.args.point.key_bytes_used (steps_of c.args.point.path)
  at = split_place g.K.AsBytes.bytes (g.K.AsBytes.bytes c.args.key) s c.args.point c.args.old c.args.parted point c.requires.kind

  -- the rest of the prefix is that of the part below the split
  rest_is : with_prefix c.rest_of_prefix-rest.result (root_cell g.row.PREFIX_LEN at.part) ≡ root_cell g.row.PREFIX_LEN (trimmed (c.args.parted.matched + 1) at.part)
  rest_is = c.rest_of_prefix-rest.ensures.cell (path_to at.ctx) at.part
      (part_at_depth g.K.AsBytes.bytes g.row.PREFIX_LEN s c.args.old c.args.parted c.args.point.key_bytes_used (steps_of c.args.point.path) c.args.key c.args.value at c.args.point.root c.args.arena.now tree)

pub trim-requires : goal.trim-requires
trim-requires g c =
    let d = (goal.at.trim-requires g c).In_ok-made in
    let r = c.requires.tree in
    let held = part_held g.K.AsBytes.bytes g.row.PREFIX_LEN r.0 c.args.old c.args.parted c.args.point.key_bytes_used (steps_of c.args.point.path) c.args.key c.args.value (at g d r.0 r.2 r.3) c.args.point.root c.args.arena.now r.2
    c.in_ok-made.made.leaf c.in_ok-made.made.inner c.store_nodes.new.arena c.in_ok-made.ensures.ok in
    let fits : g.row.PREFIX_LEN < 2 ^ 62 = c.if-not-fits_in_memory.ensures.value refl in
    (omega arith, (search (rules, fits), (held, c.rest_of_prefix-rest.ensures.inner)))

-- the node from which the key parts is trimmed
cut : (g : _) (c : After-trim g) {rest : List (Name × Cell g.row.K.Denot g.row.V.Denot)} (s : Shape g.row.K.Denot g.row.V.Denot) (tree : IsTreeBeside g.K.AsBytes.bytes g.row.PREFIX_LEN (node_at c.args.arena.now) c.args.point.root (links_at c.args.arena.now) rest s)
    (point : IsPoint g.K.AsBytes.bytes (g.K.AsBytes.bytes c.args.key) s c.args.point) (here : SplitPlace g.K.AsBytes.bytes (g.K.AsBytes.bytes c.args.key) s c.args.old c.args.parted c.args.point.key_bytes_used (steps_of c.args.point.path))
    → with_prefix c.rest_of_prefix-rest.result (root_cell g.row.PREFIX_LEN here.part) ≡ root_cell g.row.PREFIX_LEN (trimmed (c.args.parted.matched + 1) here.part)
    → UpdatesAt (node_at c.store_nodes.new.arena) (node_at c.trim.new.arena) c.args.old (Some (root_cell g.row.PREFIX_LEN (trimmed (c.args.parted.matched + 1) here.part)))
cut g c s tree point here rest =
    subst (λ cell. UpdatesAt (node_at c.store_nodes.new.arena) (node_at c.trim.new.arena) c.args.old (Some cell)) rest
    (c.trim.ensures.cell (root_cell g.row.PREFIX_LEN here.part)
    (part_cell g.K.AsBytes.bytes g.row.PREFIX_LEN s c.args.old c.args.parted c.args.point.key_bytes_used (steps_of c.args.point.path) c.args.key c.args.value here c.args.point.root c.args.arena.now tree
    c.in_ok-made.made.leaf c.in_ok-made.made.inner c.store_nodes.new.arena c.in_ok-made.ensures.ok))

-- the new leaf goes between the leaves on both sides of its place
goes_between : (g : _) (c : After-trim g) {rest : List (Name × Cell g.row.K.Denot g.row.V.Denot)} (s : Shape g.row.K.Denot g.row.V.Denot) (tree : IsTreeBeside g.K.AsBytes.bytes g.row.PREFIX_LEN (node_at c.args.arena.now) c.args.point.root (links_at c.args.arena.now) rest s)
    (here : SplitPlace g.K.AsBytes.bytes (g.K.AsBytes.bytes c.args.key) s c.args.old c.args.parted c.args.point.key_bytes_used (steps_of c.args.point.path))
    → UpdatesAt (node_at c.store_nodes.new.arena) (node_at c.trim.new.arena) c.args.old (Some (root_cell g.row.PREFIX_LEN (trimmed (c.args.parted.matched + 1) here.part)))
    → (let frame = split_frame g.K.AsBytes.bytes g.row.PREFIX_LEN s c.args.old c.args.parted c.args.point.key_bytes_used (steps_of c.args.point.path) c.args.key c.args.value here (ltb c.args.parted.new_byte c.args.parted.old_byte) c.in_ok-made.made.inner in
    IsBeside (links_at c.trim.new.arena) (leaves_before (frame ∷ here.ctx) ++ leaves_after (frame ∷ here.ctx)) c.in_ok-made.made.leaf
    × IsBetween (ltb c.args.parted.new_byte c.args.parted.old_byte) c.leaf_at_end-neighbour.result (leaves_before (frame ∷ here.ctx)) (leaves_after (frame ∷ here.ctx)))
goes_between g c s tree here cell =
    let is_before = ltb c.args.parted.new_byte c.args.parted.old_byte in
    let end = c.leaf_at_end-neighbour.ensures (path_to here.ctx) here.part
    (part_subtree g.K.AsBytes.bytes g.row.PREFIX_LEN s c.args.old c.args.parted c.args.point.key_bytes_used (steps_of c.args.point.path) c.args.key c.args.value here c.args.point.root c.args.arena.now tree) in
    let beside = split_beside g.K.AsBytes.bytes g.row.PREFIX_LEN s c.args.old c.args.parted c.args.point.key_bytes_used (steps_of c.args.point.path) c.args.key c.args.value here c.args.point.root c.args.arena.now tree
    c.in_ok-made.made.leaf c.in_ok-made.made.inner c.store_nodes.new.arena c.in_ok-made.ensures.ok c.trim.new.arena cell c.trim.ensures.links in (
      subst (λ ls. IsBeside (links_at c.trim.new.arena) ls c.in_ok-made.made.leaf)
          (split_leaves g.K.AsBytes.bytes g.row.PREFIX_LEN s c.args.old c.args.parted c.args.point.key_bytes_used (steps_of c.args.point.path) c.args.key c.args.value here is_before c.in_ok-made.made.inner) beside,
      end_between g.K.AsBytes.bytes g.row.PREFIX_LEN s c.args.old c.args.parted c.args.point.key_bytes_used (steps_of c.args.point.path) c.args.key c.args.value here is_before c.in_ok-made.made.inner c.leaf_at_end-neighbour.result end,
    )

pub link_between-requires : goal.link_between-requires
link_between-requires g c =
    let d = (goal.at.link_between-requires g c).In_ok-made in
    let e = (goal.at.link_between-requires g c).After-trim in
    let r = c.requires.tree in
    let here = at g d r.0 r.2 r.3 in
    let goes = goes_between g e r.0 r.2 here (cut g e r.0 r.2 r.3 here (rest_is g d r.0 r.2 r.3)) in
    (omega arith, (_, _, goes.0, goes.1))

-- and stands yet where it stood
stands : (g : _) (c : After-link_between g) {rest : List (Name × Cell g.row.K.Denot g.row.V.Denot)} (s : Shape g.row.K.Denot g.row.V.Denot) (tree : IsTreeBeside g.K.AsBytes.bytes g.row.PREFIX_LEN (node_at c.args.arena.now) c.args.point.root (links_at c.args.arena.now) rest s)
    (here : SplitPlace g.K.AsBytes.bytes (g.K.AsBytes.bytes c.args.key) s c.args.old c.args.parted c.args.point.key_bytes_used (steps_of c.args.point.path))
    → UpdatesAt (node_at c.store_nodes.new.arena) (node_at c.trim.new.arena) c.args.old (Some (root_cell g.row.PREFIX_LEN (trimmed (c.args.parted.matched + 1) here.part)))
    → StandsAround g.K.AsBytes.bytes g.row.PREFIX_LEN (node_at c.link_between.new.arena) c.args.point.root here.ctx c.args.old
    (split_cells g.K.AsBytes.bytes g.row.PREFIX_LEN s c.args.old c.args.parted c.args.point.key_bytes_used (steps_of c.args.point.path) c.args.key c.args.value here c.args.point.root c.args.arena.now tree c.in_ok-made.made.leaf c.in_ok-made.made.inner)
    (steps_of c.args.point.path)
stands g c s tree here cell =
    split_stands g.K.AsBytes.bytes g.row.PREFIX_LEN s c.args.old c.args.parted c.args.point.key_bytes_used (steps_of c.args.point.path) c.args.key c.args.value here c.args.point.root c.args.arena.now tree
    c.in_ok-made.made.leaf c.in_ok-made.made.inner c.store_nodes.new.arena c.in_ok-made.ensures.ok c.trim.new.arena cell c.trim.ensures.links c.link_between.new.arena c.link_between.ensures.nodes

pub repoint-new_root-requires : goal.repoint-new_root-requires
repoint-new_root-requires g c =
    let d = (goal.at.repoint-new_root-requires g c).In_ok-made in
    let e = (goal.at.repoint-new_root-requires g c).After-trim in
    let f = (goal.at.repoint-new_root-requires g c).After-link_between in
    let r = c.requires.tree in
    let here = at g d r.0 r.2 r.3 in
    (omega arith, (here.ctx, c.args.old, _, stands g f r.0 r.2 here (cut g e r.0 r.2 r.3 here (rest_is g d r.0 r.2 r.3))))

pub returns-clause-ok : goal.returns-clause-ok
returns-clause-ok g c = λ s rest tree point.
    let d = (goal.at.returns-clause-ok g c).In_ok-made in
    let e = (goal.at.returns-clause-ok g c).After-trim in
    let f = (goal.at.returns-clause-ok g c).After-link_between in
    let here = at g d s tree point in
    let cell = cut g e s tree point here (rest_is g d s tree point) in
    let standing = stands g f s tree here cell in
    let is_before = ltb c.args.parted.new_byte c.args.parted.old_byte in
    let holds = rw c.to_opaque.ensures at (c.repoint-new_root.ensures.holds here.ctx c.args.old _ standing) in
    let named = rw c.to_opaque.ensures at (c.repoint-new_root.ensures.root here.ctx c.args.old _ standing) in
    let goes = goes_between g e s tree here cell in
    let linked = c.link_between.ensures.linked _ _ (record { slot = c.in_ok-made.made.leaf; key = c.args.key; value = c.args.value }) goes.0 goes.1 refl in
    split g.K.AsBytes.bytes g.row.PREFIX_LEN s c.args.old c.args.parted c.args.point.key_bytes_used (steps_of c.args.point.path) c.args.key c.args.value here c.args.point.root c.args.arena.now tree
    c.in_ok-made.made.leaf c.in_ok-made.made.inner is_before refl c.link_between.new.arena c.repoint-new_root.new.arena c.repoint-new_root.result holds named c.repoint-new_root.ensures.links linked

pub returns-clause-others : goal.returns-clause-others
returns-clause-others g c = λ s rest tree point.
    let d = (goal.at.returns-clause-others g c).In_ok-made in
    let e = (goal.at.returns-clause-others g c).After-trim in
    let here = at g d s tree point in
    let goes = goes_between g e s tree here (cut g e s tree point here (rest_is g d s tree point)) in
    let both = c.in_ok-made.ensures.ok in
    put_keeps g.K.AsBytes.bytes g.row.PREFIX_LEN c.args.arena.now c.trim.new.arena c.link_between.new.arena c.repoint-new_root.new.arena c.args.point.root _ s _ c.in_ok-made.made.leaf c.args.key c.args.value _ _ _ tree (returns-clause-ok g c s rest tree point)
    (split_leaves g.K.AsBytes.bytes g.row.PREFIX_LEN s c.args.old c.args.parted c.args.point.key_bytes_used (steps_of c.args.point.path) c.args.key c.args.value here (ltb c.args.parted.new_byte c.args.parted.old_byte) c.in_ok-made.made.inner)
    (λ n other. c.trim.ensures.links n ∙ links-kept both.between c.store_nodes.new.arena (split_name c.in_ok-made.made.inner) _ both.second.updates (not_leaf c.in_ok-made.made.inner) n ∙ (links-update c.args.arena.now both.between c.in_ok-made.made.leaf _ both.first.updates).others n other)
    (c.link_between.ensures.others _ _ (record { slot = c.in_ok-made.made.leaf; key = c.args.key; value = c.args.value }) goes.0 goes.1 refl) c.repoint-new_root.ensures.links

pub returns-clause-room : goal.returns-clause-room
returns-clause-room g c = λ n room.
    all_room c.link_between.new.arena c.repoint-new_root.new.arena c.repoint-new_root.ensures.room_of n
    (all_room c.trim.new.arena c.link_between.new.arena c.link_between.ensures.room_of n
    (all_room c.store_nodes.new.arena c.trim.new.arena c.trim.ensures.room_of n (c.in_ok-made.ensures.room n room)))

pub returns-clause-leaf_room : goal.returns-clause-leaf_room
returns-clause-leaf_room g c = λ n room.
    c.repoint-new_root.ensures.room_of Leaf _ (c.link_between.ensures.room_of Leaf _ (c.trim.ensures.room_of Leaf _ (c.in_ok-made.ensures.leaf_room n room)))
