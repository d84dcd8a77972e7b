use Rattle.std.proofs.Common.{◌≢◌, [], sym, ◌∙◌, refl, lit<}
use Rattle.art_nodes.proofs.Common.{first_child}
use Rattle.art_nodes.specs.declared.kind.NodeType.TheVariants.{Leaf}
use Rattle.art_operations.proofs.NodesRead.{read_at}
use Rattle.art_operations.proofs.FreeSteps.{first-step}
use Rattle.art_operations.proofs.deallocate.find_bottom.Goals as goal

pub down-init : goal.down-init
down-init g c = λ w s rest part. record { ctx = []; part = s; whole = refl; first = tt; holds = part; place_is = refl }

pub down-smaller : goal.down-smaller
down-smaller g c =
    let r = c.requires in
    let other : c.down.node.kind ≢ Leaf = λ e. let h = c.is.ensures.1 e in cc in
    let step = first-step g.row.PREFIX_LEN r.0 c.args.arena.now r.1 r.2 c.down.node c.down.place (c.down.invariant r.0 r.1 r.2 r.3) other in
    (step.goes_on c.in-Some.child (sym (read_at (λ m. first_child m.children) _ step.node _ step.there c.inner.ensures.value _ c.first_child.ensures) ∙ c.in-Some.is)).1

pub down-preserved : goal.down-preserved
down-preserved g c = λ w s rest part.
    let other : c.down.node.kind ≢ Leaf = λ e. let h = c.is.ensures.1 e in cc in
    let step = first-step g.row.PREFIX_LEN w c.args.arena.now s rest c.down.node c.down.place (c.down.invariant w s rest part) other in
    (step.goes_on c.in-Some.child (sym (read_at (λ m. first_child m.children) _ step.node _ step.there c.inner.ensures.value _ c.first_child.ensures) ∙ c.in-Some.is)).0

pub inner-requires : goal.inner-requires
inner-requires g c =
    let r = c.requires in
    let other : c.down.node.kind ≢ Leaf = λ e. let h = c.is.ensures.1 e in cc in
    let step = first-step g.row.PREFIX_LEN r.0 c.args.arena.now r.1 r.2 c.down.node c.down.place (c.down.invariant r.0 r.1 r.2 r.3) other in
    (lit< tt, (lit< tt, (rw step.there refl, other)))
