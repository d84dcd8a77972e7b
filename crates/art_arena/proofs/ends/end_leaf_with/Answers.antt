use Rattle.std.proofs.Common.{◌≡◌, ◌≢◌, lit<, sym, ap, ◌∙◌, refl, ℕ, List, [], Some, drop, length}
use Rattle.art_nodes.proofs.Common.{InnerNode}
use Rattle.art_nodes.specs.declared.kind.NodeType.TheVariants.{Leaf}
use Rattle.art_arena.proofs.Terms.{held_at, inner_held, node_at, leaf_name, end_child, IsSubtree, Shape, erase, held_of}
use Rattle.art_arena.proofs.shapes.LinkedLists.{some_of}
use Rattle.art_arena.proofs.shapes.Reads.{reads_some}
use Rattle.art_arena.proofs.shapes.EndWalks.{EndsAtLeaf, EndStep, end_at, end_step, on_end-start, same_inner}
use Rattle.art_arena.proofs.shapes.Subtrees.{subtree-held}
use Rattle.art_arena.proofs.shapes.Walking.{lent-leaf, node-there}
use Rattle.art_arena.proofs.ends.end_leaf_with.Goals as goal
use Rattle.art_arena.proofs.ends.end_leaf_with.Goals.{After-end_child, After-finish}

pub down-init : goal.down-init
down-init g c = record {
  kept = refl;
  way = λ path s tree. rw c.default-search.ensures (on_end-start g.K.AsBytes.bytes g.row.PREFIX_LEN c.args.reader.now.arena.now c.args.end path s c.args.reader.now.count c.args.root tree);
}

pub visit-requires : goal.visit-requires
visit-requires g c =
    let on = c.down.invariant.way c.requires.0 c.requires.1 c.requires.2 in
    (lit< tt, (lit< tt, node-there c.args.reader.now.arena.now c.down.reader.arena.now c.down.current c.down.invariant.kept (subtree-held g.K.AsBytes.bytes g.row.PREFIX_LEN (node_at c.args.reader.now.arena.now) c.down.current on.below on.part on.subtree)))

-- the leaf at which it ends
at_end : (g : _) (c : After-finish g) (path : List ℕ) (s : Shape g.row.K.Denot g.row.V.Denot) → IsSubtree g.K.AsBytes.bytes g.row.PREFIX_LEN (node_at c.args.reader.now.arena.now) c.args.root path s
    → EndsAtLeaf g.K.AsBytes.bytes g.row.PREFIX_LEN c.args.reader.now.arena.now c.args.end path s c.args.reader.now.count c.down.current c.down.search c.down.reader.count c.in-Ok.leaf.now.key
at_end g c path s tree =
    let there = lent-leaf c.args.reader.now.arena.now c.down.reader.arena.now c.down.current (held_of c.visit.result) c.in-Ok.leaf.now c.down.invariant.kept c.visit.ensures.value c.in-Ok.ensures in
    end_at g.K.AsBytes.bytes g.row.PREFIX_LEN c.args.reader.now.arena.now c.args.end path s c.args.reader.now.count c.down.current c.down.search c.down.reader.count (c.down.invariant.way path s tree) c.in-Ok.leaf.now.key c.in-Ok.leaf.now.value there

pub returns-in-Ok-clause-value : goal.returns-in-Ok-clause-value
returns-in-Ok-clause-value g c = λ path s tree. (at_end g c path s tree).slot_is ∙ ap Some (sym c.with_kind.ensures)

pub returns-in-Ok-clause-leaf : goal.returns-in-Ok-clause-leaf
returns-in-Ok-clause-leaf g c =
    let named = (at_end g c c.requires.0 c.requires.1 c.requires.2).named in
    ap (λ m. held_at c.args.reader.now.arena.now (leaf_name m)) c.with_kind.ensures ∙ ap (held_at c.args.reader.now.arena.now) (sym named)
    ∙ ap (λ a. held_at a c.down.current) (sym c.down.invariant.kept) ∙ c.visit.ensures.value ∙ ap Some c.in-Ok.ensures

pub returns-in-Ok-clause-place : goal.returns-in-Ok-clause-place
returns-in-Ok-clause-place g c = λ s tree.
    rw (c.with_kind.ensures, c.finish.ensures) ((at_end g c [] s tree).place refl)

pub returns-in-Ok-clause-counts : goal.returns-in-Ok-clause-counts
returns-in-Ok-clause-counts g c = λ path s tree. c.visit.ensures.counts ∙ (at_end g c path s tree).reads

pub returns-in-Ok-clause-exact : goal.returns-in-Ok-clause-exact
returns-in-Ok-clause-exact g c = λ path s tree. c.visit.ensures.counts ∙ (at_end g c path s tree).exact

pub returns-in-Ok-clause-least : goal.returns-in-Ok-clause-least
returns-in-Ok-clause-least g c =
    let r = c.requires in
    reads_some (erase r.1) (drop (length r.0) (g.K.AsBytes.bytes c.in-Ok.leaf.now.key)) c.args.reader.now.count c.visit.new.self.count (c.visit.ensures.counts ∙ (at_end g c r.0 r.1 r.2).reads)

pub returns-in-Ok-clause-few : goal.returns-in-Ok-clause-few
returns-in-Ok-clause-few g c = λ path s tree longest short. rw c.visit.ensures.counts ((at_end g c path s tree).few longest short)

-- the step from an inner node
step : (g : _) (c : After-end_child g) (path : List ℕ) (s : Shape g.row.K.Denot g.row.V.Denot) → IsSubtree g.K.AsBytes.bytes g.row.PREFIX_LEN (node_at c.args.reader.now.arena.now) c.args.root path s
    → EndStep g.K.AsBytes.bytes g.row.PREFIX_LEN c.args.reader.now.arena.now c.args.end path s c.args.reader.now.count c.down.current c.down.search c.down.reader.count
step g c path s tree =
    let other : c.down.current.kind ≢ Leaf = λ e. c.in-Err.ensures.2 (sym c.in-Err.ensures.1 ∙ c.visit.ensures.kind ∙ e) in
    end_step g.K.AsBytes.bytes g.row.PREFIX_LEN c.args.reader.now.arena.now c.args.end path s c.args.reader.now.count c.down.current c.down.search c.down.reader.count (c.down.invariant.way path s tree) other

-- the node that was read is the one there
same : (g : _) (c : After-end_child g) (node : InnerNode) → held_at c.args.reader.now.arena.now c.down.current ≡ Some (inner_held node) → node ≡ c.in-Err.inner.node
same g c node there =
    same_inner _ _ _ there (ap (λ a. held_at a c.down.current) (sym c.down.invariant.kept) ∙ c.visit.ensures.value ∙ ap Some c.in-Err.ensures.0)

pub down-smaller : goal.down-smaller
down-smaller g c =
    let d = (goal.at.down-smaller g c).After-end_child in
    let at = step g d c.requires.0 c.requires.1 c.requires.2 in
    (at.goes_on c.in-Some.child (ap (λ (n : InnerNode). end_child c.args.end n.children) (same g d at.node at.there) ∙ sym c.end_child.ensures ∙ c.in-Some.is)).1

pub down-preserved : goal.down-preserved
down-preserved g c =
    let d = (goal.at.down-preserved g c).After-end_child in
    record {
      kept = c.visit.ensures.kept ∙ c.down.invariant.kept;
      way = λ path s tree.
          let at = step g d path s tree in
          rw (c.go_down.ensures, c.visit.ensures.counts)
          (at.goes_on c.in-Some.child (ap (λ (n : InnerNode). end_child c.args.end n.children) (same g d at.node at.there) ∙ sym c.end_child.ensures ∙ c.in-Some.is)).0;
    }

pub assume_proved-requires : goal.assume_proved-requires
assume_proved-requires g c =
    let d = (goal.at.assume_proved-requires g c).After-end_child in
    let at = step g d c.requires.0 c.requires.1 c.requires.2 in
    let child = some_of _ at.some in
    let e = sym child.1 ∙ ap (λ (n : InnerNode). end_child c.args.end n.children) (same g d at.node at.there) ∙ sym c.end_child.ensures ∙ c.in-None.is in cc
