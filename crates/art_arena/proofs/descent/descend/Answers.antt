use Rattle.std.proofs.Common.{◌≡◌, ◌+◌, ◌-◌, ◌^◌, [], ℕ, List, IfSome, drop, Some, min, sym, ap, subst, ◌∙◌, refl, arith, lit<}
use Rattle.art_bytes.proofs.Common.{BeginsWith}
use Rattle.art_arena.proofs.Terms.{held_at, node_at, path_to, IsAtDepth, IsGuide, IsSubtree, IsReadAt, Shape, held_of}
use Rattle.art_arena.proofs.shapes.Guides.{guide_any}
use Rattle.art_arena.proofs.shapes.Passing.{leaf-stops}
use Rattle.art_arena.proofs.shapes.Reads.{part_within, some_weaker}
use Rattle.art_arena.proofs.shapes.Walking.{IsOnWay, way-starts, way-there, way-subtree, on-way-to, way-steps, way-ends, way-lands, agrees-leaf, compared-leaf, reads-leaf, lent-leaf, lent-inner, node-there}
use Rattle.art_arena.proofs.descent.descend.Goals as goal
use Rattle.art_arena.specs.declared.descent.Passing.TheVariants.{ByBytes}
use Rattle.art_arena.proofs.shapes.WayEnds.{leaf_cost, way-begins, way-ended, way-on}
use Rattle.art_arena.proofs.descent.descend.Goals.{In-Err}

pub down-init : goal.down-init
down-init g c = record {
  room = omega arith;
  kept = refl;
  way = λ s tree. (_, rw c.requires.fresh (way-starts g.K.AsBytes.bytes c.args.key.now s c.args.reader.now.count g.row.PREFIX_LEN (node_at c.args.reader.now.arena.now) c.args.root tree _ _), λ mode. refl);
  left = λ mode s tree. way-begins g.K.AsBytes.bytes g.row.PREFIX_LEN (node_at c.args.reader.now.arena.now) c.args.key.now s c.args.reader.now.count c.args.root tree;
  least = omega arith;
  reads = λ s tree longest short. omega arith;
}

pub visit-requires : goal.visit-requires
visit-requires g c =
    let way = c.down.invariant.way c.requires.tree.0 c.requires.tree.1 in
    let there = way-there g.K.AsBytes.bytes c.args.key.now c.requires.tree.0 c.args.reader.now.count g.row.PREFIX_LEN (node_at c.args.reader.now.arena.now) c.args.root c.requires.tree.1
    c.down.current c.down.search c.down.depth way.0 way.1.0 in
    (lit< tt, (lit< tt, node-there c.args.reader.now.arena.now c.down.reader.arena.now c.down.current c.down.invariant.kept there))

pub returns-in-Ok-clause-lands : goal.returns-in-Ok-clause-lands
returns-in-Ok-clause-lands g c = λ mode s tree.
    let way = c.down.invariant.way s tree in
    let there = lent-leaf c.args.reader.now.arena.now c.down.reader.arena.now c.down.current (held_of c.visit.result) c.in-Ok.leaf.now c.down.invariant.kept c.visit.ensures.value c.in-Ok.ensures in
    way-lands g.K.AsBytes.bytes c.args.key.now s c.args.reader.now.count g.row.PREFIX_LEN (node_at c.args.reader.now.arena.now) c.args.root tree
    c.down.current c.down.search c.down.depth way.0 way.1.0 c.in-Ok.leaf.now.key c.in-Ok.leaf.now.value there c.in-Ok.leaf.now refl refl

pub returns-in-Ok-clause-agrees : goal.returns-in-Ok-clause-agrees
returns-in-Ok-clause-agrees g c = λ mode.
    let way = c.down.invariant.way c.requires.tree.0 c.requires.tree.1 in
    let there = lent-leaf c.args.reader.now.arena.now c.down.reader.arena.now c.down.current (held_of c.visit.result) c.in-Ok.leaf.now c.down.invariant.kept c.visit.ensures.value c.in-Ok.ensures in
    agrees-leaf g.K.AsBytes.bytes c.args.key.now c.requires.tree.0 c.args.reader.now.count g.row.PREFIX_LEN (node_at c.args.reader.now.arena.now) c.args.root c.requires.tree.1
    c.down.current c.down.search c.down.depth way.0 way.1.0 c.in-Ok.leaf.now.key c.in-Ok.leaf.now.value there c.down.compared (way.1.3 mode).1

pub returns-in-Ok-clause-compared : goal.returns-in-Ok-clause-compared
returns-in-Ok-clause-compared g c = λ mode s tree.
    let way = c.down.invariant.way s tree in
    let there = lent-leaf c.args.reader.now.arena.now c.down.reader.arena.now c.down.current (held_of c.visit.result) c.in-Ok.leaf.now c.down.invariant.kept c.visit.ensures.value c.in-Ok.ensures in
    compared-leaf g.K.AsBytes.bytes c.args.key.now s c.args.reader.now.count g.row.PREFIX_LEN (node_at c.args.reader.now.arena.now) c.args.root tree
    c.down.current c.down.search c.down.depth way.0 way.1.0 c.in-Ok.leaf.now.key c.in-Ok.leaf.now.value there c.down.compared (way.1.3 mode).2

pub returns-in-Ok-clause-counts : goal.returns-in-Ok-clause-counts
returns-in-Ok-clause-counts g c = λ mode s tree.
    let way = c.down.invariant.way s tree in
    let there = lent-leaf c.args.reader.now.arena.now c.down.reader.arena.now c.down.current (held_of c.visit.result) c.in-Ok.leaf.now c.down.invariant.kept c.visit.ensures.value c.in-Ok.ensures in
    c.visit.ensures.counts ∙ ap (λ m. min (m + 1) (2 ^ 64 - 1)) (way.2 mode) ∙ reads-leaf g.K.AsBytes.bytes c.args.key.now s c.args.reader.now.count g.row.PREFIX_LEN (node_at c.args.reader.now.arena.now) c.args.root tree
    c.down.current c.down.search c.down.depth way.0 way.1.0 c.in-Ok.leaf.now.key c.in-Ok.leaf.now.value there (way.1.3 mode).0

pub returns-in-Ok-clause-way : goal.returns-in-Ok-clause-way
returns-in-Ok-clause-way g c = λ mode s tree.
    let way = c.down.invariant.way s tree in
    on-way-to g.K.AsBytes.bytes c.args.key.now s c.args.reader.now.count g.row.PREFIX_LEN (node_at c.args.reader.now.arena.now) c.args.root tree
    c.down.current c.down.search c.down.depth way.0 way.1.0 _ refl (way.1.1 mode)

pub returns-in-Ok-clause-stops : goal.returns-in-Ok-clause-stops
returns-in-Ok-clause-stops g c = λ mode path s at begins.
    let there = lent-leaf c.args.reader.now.arena.now c.down.reader.arena.now c.down.current (held_of c.visit.result) c.in-Ok.leaf.now c.down.invariant.kept c.visit.ensures.value c.in-Ok.ensures in
    leaf-stops g.K.AsBytes.bytes g.row.PREFIX_LEN (node_at c.args.reader.now.arena.now) c.down.current c.args.key.now path s c.in-Ok.leaf.now.key c.in-Ok.leaf.now.value there at.subtree

pub returns-in-Ok-clause-few : goal.returns-in-Ok-clause-few
returns-in-Ok-clause-few g c = λ s tree longest short.
    omega (arith, c.down.invariant.reads s tree longest short, c.visit.ensures.counts)

-- the inner node that was read, in the part where it stands
is_read : (g : _) (c : In-Err g) (s : Shape g.row.K.Denot g.row.V.Denot) → IsSubtree g.K.AsBytes.bytes g.row.PREFIX_LEN (node_at c.args.reader.now.arena.now) c.args.root [] s
    → (count : ℕ) (way : IsOnWay g.K.AsBytes.bytes c.args.key.now s c.args.reader.now.count c.down.current c.down.search c.down.depth count)
    → IsReadAt g.K.AsBytes.bytes g.row.PREFIX_LEN c.visit.new.self.arena.now c.in-Err.inner.node c.down.current c.down.depth (path_to way.ctx) way.part
is_read g c s tree count way =
    let sub = way-subtree g.K.AsBytes.bytes c.args.key.now s c.args.reader.now.count g.row.PREFIX_LEN (node_at c.args.reader.now.arena.now) c.args.root tree c.down.current c.down.search c.down.depth count way in
    record {
      stands = subst (λ a. IsAtDepth g.K.AsBytes.bytes g.row.PREFIX_LEN (node_at a) c.down.current c.down.depth (path_to way.ctx) way.part) (sym (c.visit.ensures.kept ∙ c.down.invariant.kept)) (record { subtree = sub; path_len = way.depth_is });
      held = ap (λ a. held_at a c.down.current) c.visit.ensures.kept ∙ c.visit.ensures.value ∙ ap Some c.in-Err.ensures.0;
    }

pub step_at-requires : goal.step_at-requires
step_at-requires g c =
    let d = (goal.at.step_at-requires g c).In-Err in
    let way = c.down.invariant.way c.requires.tree.0 c.requires.tree.1 in
    (lit< tt, (lit< tt, ((c.down.current, path_to way.1.0.ctx, way.1.0.part, is_read g d c.requires.tree.0 c.requires.tree.1 way.0 way.1.0, way.1.2), c.down.invariant.room)))

pub returns-in-None-clause-lands : goal.returns-in-None-clause-lands
returns-in-None-clause-lands g c = λ mode s tree.
    let way = c.down.invariant.way s tree in
    let there = lent-inner c.args.reader.now.arena.now c.down.reader.arena.now c.down.current (held_of c.visit.result) c.in-Err.inner.node c.down.invariant.kept c.visit.ensures.value c.in-Err.ensures.0 in
    (way-ends g.K.AsBytes.bytes c.args.key.now s c.args.reader.now.count g.row.PREFIX_LEN (node_at c.args.reader.now.arena.now) c.args.root tree
    c.down.current c.down.search c.down.depth way.0 way.1.0 c.in-Err.inner.node there (c.in-None.ensures.goes mode)).none

pub returns-in-None-clause-counts : goal.returns-in-None-clause-counts
returns-in-None-clause-counts g c = λ mode s tree.
    let way = c.down.invariant.way s tree in
    let there = lent-inner c.args.reader.now.arena.now c.down.reader.arena.now c.down.current (held_of c.visit.result) c.in-Err.inner.node c.down.invariant.kept c.visit.ensures.value c.in-Err.ensures.0 in
    c.in-None.ensures.by_stored mode ∙ c.visit.ensures.counts ∙ ap (λ m. min (m + 1) (2 ^ 64 - 1)) (way.2 mode)
    ∙ (way-ends g.K.AsBytes.bytes c.args.key.now s c.args.reader.now.count g.row.PREFIX_LEN (node_at c.args.reader.now.arena.now) c.args.root tree
    c.down.current c.down.search c.down.depth way.0 way.1.0 c.in-Err.inner.node there (c.in-None.ensures.goes mode)).reads (way.1.3 mode).0

pub returns-in-None-clause-way : goal.returns-in-None-clause-way
returns-in-None-clause-way g c = λ mode s tree.
    let way = c.down.invariant.way s tree in
    on-way-to g.K.AsBytes.bytes c.args.key.now s c.args.reader.now.count g.row.PREFIX_LEN (node_at c.args.reader.now.arena.now) c.args.root tree
    c.down.current c.down.search c.down.depth way.0 way.1.0 _ refl (way.1.1 mode)

pub returns-in-None-clause-stops : goal.returns-in-None-clause-stops
returns-in-None-clause-stops g c = λ mode path s at begins.
    let arena_is = c.visit.ensures.kept ∙ c.down.invariant.kept in
    let way = c.down.invariant.way c.requires.tree.0 c.requires.tree.1 in
    let sub = way-subtree g.K.AsBytes.bytes c.args.key.now c.requires.tree.0 c.args.reader.now.count g.row.PREFIX_LEN (node_at c.args.reader.now.arena.now) c.args.root c.requires.tree.1 c.down.current c.down.search c.down.depth way.0 way.1.0 in
    ((c.in-None.ensures.steps c.down.current path s (record {
      stands = subst (λ a. IsAtDepth g.K.AsBytes.bytes g.row.PREFIX_LEN (node_at a) c.down.current c.down.depth path s) (sym arena_is) at;
      held = ap (λ a. held_at a c.down.current) c.visit.ensures.kept ∙ c.visit.ensures.value ∙ ap Some c.in-Err.ensures.0;
    })).by_bytes mode).goes (some_weaker c.down.guide _ _ (λ leaf. guide_any g.K.AsBytes.bytes g.row.PREFIX_LEN (node_at c.args.reader.now.arena.now) c.args.key.now c.down.current c.down.depth (path_to way.1.0.ctx) path way.1.0.part s
    (record { subtree = sub; path_len = way.1.0.depth_is }) at (way.1.1 mode) begins (g.K.AsBytes.bytes leaf.now.key)) (way.1.2 mode)) begins

-- what was found stands for this part too
guided : (g : _) (c : In-Err g) (mode : c.args.passing ≡ ByBytes) (path : List ℕ) (part : Shape g.row.K.Denot g.row.V.Denot) → IsAtDepth g.K.AsBytes.bytes g.row.PREFIX_LEN (node_at c.args.reader.now.arena.now) c.down.current c.down.depth path part
    → BeginsWith path c.args.key.now → IfSome c.down.guide (λ leaf. IsGuide c.args.key.now (g.K.AsBytes.bytes leaf.now.key) path part)
guided g c mode path part at begins =
    let way = c.down.invariant.way c.requires.tree.0 c.requires.tree.1 in
    let sub = way-subtree g.K.AsBytes.bytes c.args.key.now c.requires.tree.0 c.args.reader.now.count g.row.PREFIX_LEN (node_at c.args.reader.now.arena.now) c.args.root c.requires.tree.1 c.down.current c.down.search c.down.depth way.0 way.1.0 in
    some_weaker c.down.guide _ _ (λ leaf. guide_any g.K.AsBytes.bytes g.row.PREFIX_LEN (node_at c.args.reader.now.arena.now) c.args.key.now c.down.current c.down.depth (path_to way.1.0.ctx) path way.1.0.part part
    (record { subtree = sub; path_len = way.1.0.depth_is }) at (way.1.1 mode) begins (g.K.AsBytes.bytes leaf.now.key)) (way.1.2 mode)

-- the inner node that was read, in a part that stands there
read_along : (g : _) (c : In-Err g) (path : List ℕ) (part : Shape g.row.K.Denot g.row.V.Denot) → IsAtDepth g.K.AsBytes.bytes g.row.PREFIX_LEN (node_at c.args.reader.now.arena.now) c.down.current c.down.depth path part
    → IsReadAt g.K.AsBytes.bytes g.row.PREFIX_LEN c.visit.new.self.arena.now c.in-Err.inner.node c.down.current c.down.depth path part
read_along g c path part at = record {
  stands = subst (λ a. IsAtDepth g.K.AsBytes.bytes g.row.PREFIX_LEN (node_at a) c.down.current c.down.depth path part) (sym (c.visit.ensures.kept ∙ c.down.invariant.kept)) at;
  held = ap (λ a. held_at a c.down.current) c.visit.ensures.kept ∙ c.visit.ensures.value ∙ ap Some c.in-Err.ensures.0;
}

pub returns-in-None-clause-reads : goal.returns-in-None-clause-reads
returns-in-None-clause-reads g c = λ mode s tree.
    let d = (goal.at.returns-in-None-clause-reads g c).In-Err in
    let left = c.down.invariant.left mode s tree in
    let step = (c.in-None.ensures.steps c.down.current left.path left.part (read_along g d left.path left.part left.stands)).by_bytes mode in
    (way-ended g.K.AsBytes.bytes g.row.PREFIX_LEN (node_at c.args.reader.now.arena.now) c.args.key.now s c.args.reader.now.count c.down.guide c.down.current c.down.depth c.down.reader.count left
    c.visit.new.self.count c.step_at.new.reader.count c.visit.ensures.counts (step.counts (omega arith))
    (step.goes (guided g d mode left.path left.part left.stands left.begins) left.begins))

pub returns-in-Ok-clause-reads : goal.returns-in-Ok-clause-reads
returns-in-Ok-clause-reads g c = λ mode s tree.
    let left = c.down.invariant.left mode s tree in
    let there = lent-leaf c.args.reader.now.arena.now c.down.reader.arena.now c.down.current (held_of c.visit.result) c.in-Ok.leaf.now c.down.invariant.kept c.visit.ensures.value c.in-Ok.ensures in
    way-ended g.K.AsBytes.bytes g.row.PREFIX_LEN (node_at c.args.reader.now.arena.now) c.args.key.now s c.args.reader.now.count c.down.guide c.down.current c.down.depth c.down.reader.count left
    c.visit.new.self.count c.visit.new.self.count c.visit.ensures.counts
    (leaf_cost g.K.AsBytes.bytes g.row.PREFIX_LEN (node_at c.args.reader.now.arena.now) c.down.guide c.down.current left.path left.part left.stands.subtree c.in-Ok.leaf.now.key c.in-Ok.leaf.now.value there (drop c.down.depth c.args.key.now) c.visit.new.self.count (omega arith))
    (leaf-stops g.K.AsBytes.bytes g.row.PREFIX_LEN (node_at c.args.reader.now.arena.now) c.down.current c.args.key.now left.path left.part c.in-Ok.leaf.now.key c.in-Ok.leaf.now.value there left.stands.subtree)

pub returns-in-None-clause-few : goal.returns-in-None-clause-few
returns-in-None-clause-few g c = λ s tree longest short.
    let d = (goal.at.returns-in-None-clause-few g c).In-Err in
    let way = c.down.invariant.way s tree in
    let within = part_within g.K.AsBytes.bytes longest s way.1.0.ctx way.1.0.part way.1.0.place.is short in
    let more = (c.in-None.ensures.steps c.down.current (path_to way.1.0.ctx) way.1.0.part (is_read g d s tree way.0 way.1.0)).few longest within in
    omega (arith, c.down.invariant.reads s tree longest short, more, c.visit.ensures.counts)

pub down-preserved : goal.down-preserved
down-preserved g c =
    let d = (goal.at.down-preserved g c).In-Err in
    let there = lent-inner c.args.reader.now.arena.now c.down.reader.arena.now c.down.current (held_of c.visit.result) c.in-Err.inner.node c.down.invariant.kept c.visit.ensures.value c.in-Err.ensures.0 in
    let goes = c.in-Some.ensures.goes.0 in
    record {
      room = goes.within;
      kept = c.in-Some.ensures.kept ∙ c.visit.ensures.kept ∙ c.down.invariant.kept;
      way = λ s tree.
          let way = c.down.invariant.way s tree in
          let steps = c.in-Some.ensures.steps c.down.current (path_to way.1.0.ctx) way.1.0.part (is_read g d s tree way.0 way.1.0) in (
            _,
            rw c.go_down.ensures
                (way-steps g.K.AsBytes.bytes c.args.key.now s c.args.reader.now.count g.row.PREFIX_LEN (node_at c.args.reader.now.arena.now) c.args.root tree
                c.down.current c.down.search c.down.depth way.0 way.1.0 c.in-Err.inner.node there _ _ _ _ c.in-Some.step.byte c.in-Some.step.child c.in-Some.step.depth goes
                (λ mode. (steps.by_bytes mode).goes (way.1.2 mode) (way.1.1 mode))
                (λ mode. (steps.by_bytes mode).keeps (way.1.2 mode))
                c.in-Some.ensures.goes.1 c.down.compared c.compared_after-compared.result c.compared_after-compared.ensures way.1.3),
            λ mode. c.in-Some.ensures.by_stored mode ∙ c.visit.ensures.counts ∙ ap (λ m. min (m + 1) (2 ^ 64 - 1)) (way.2 mode),
          );
      left = λ mode s tree.
          let left = c.down.invariant.left mode s tree in
          let step = (c.in-Some.ensures.steps c.down.current left.path left.part (read_along g d left.path left.part left.stands)).by_bytes mode in
          way-on g.K.AsBytes.bytes g.row.PREFIX_LEN (node_at c.args.reader.now.arena.now) c.args.key.now s c.args.reader.now.count c.down.guide c.down.current c.down.depth c.down.reader.count left
          c.visit.new.self.count c.step_at.new.reader.count c.visit.ensures.counts (step.counts (omega arith)) c.step_at.new.guide c.in-Err.inner.node there c.in-Some.step.byte c.in-Some.step.child c.in-Some.step.depth goes
          (step.goes (guided g d mode left.path left.part left.stands left.begins) left.begins)
          step.found;
      least = omega (arith, c.in-Some.ensures.least, c.visit.ensures.counts, c.down.invariant.least);
      reads = λ s tree longest short.
          let way = c.down.invariant.way s tree in
          let within = part_within g.K.AsBytes.bytes longest s way.1.0.ctx way.1.0.part way.1.0.place.is short in
          let step = (c.in-Some.ensures.steps c.down.current (path_to way.1.0.ctx) way.1.0.part (is_read g d s tree way.0 way.1.0)).few longest within in
          omega (arith, c.down.invariant.reads s tree longest short, c.visit.ensures.counts, step, goes.next_is);
    }

pub returns-in-Ok-clause-least : goal.returns-in-Ok-clause-least
returns-in-Ok-clause-least g c = omega (arith, c.visit.ensures.counts, c.down.invariant.least)

pub returns-in-None-clause-least : goal.returns-in-None-clause-least
returns-in-None-clause-least g c = omega (arith, c.in-None.ensures.least, c.visit.ensures.counts, c.down.invariant.least)
