use Rattle.std.proofs.Common.{ap, [], ◌∷◌, ◌++◌, sym, subst, ◌∙◌, arith}
use Rattle.std.specs.declared.ops.Bound.TheVariants.{Excluded, Unbounded}
use Rattle.art_nodes.proofs.Common.{first_child, children_between}
use Rattle.art_arena.proofs.Common.{node_at, IsSubtree, erase, inner_at, root_held, subtree-branch}
use Rattle.art_arena.proofs.shapes.EndWalks.{within_branch}
use Rattle.art_operations.proofs.NodesRead.{read_at}
use Rattle.art_operations.proofs.Nearest.{child_after, no_child_after, none_above}
use Rattle.art_operations.proofs.Terms.{beside_reads}
use Rattle.art_operations.proofs.bounds.nearest_child.Goals as goal

pub minimum_with-requires : goal.minimum_with-requires
minimum_with-requires g c =
    let r = c.requires in
    let found = sym (read_at (λ m. first_child (children_between (Excluded c.args.byte) Unbounded m.children)) _ _ _ (root_held g.K.AsBytes.bytes g.row.PREFIX_LEN c.args.reader.now.arena.now c.args.node r.0 r.1 r.2 r.3) c.visit_inner.ensures.value _ c.child_after.ensures) ∙ c.in-Some.is in
    let n = child_after g.K.AsBytes.bytes [] r.0 r.1 r.2 c.args.byte r.3.under.1 r.4 c.in-Some.next found in
    let below = subtree-branch g.K.AsBytes.bytes g.row.PREFIX_LEN (node_at c.args.reader.now.arena.now) c.args.node r.0 r.1 r.2 n.before c.in-Some.next.0 n.here n.after r.3 n.whole in (
      omega arith,
      (
        (r.0 ++ r.1) ++ c.in-Some.next.0 ∷ [],
        n.here,
        subst (λ a. IsSubtree g.K.AsBytes.bytes g.row.PREFIX_LEN (node_at a) c.in-Some.next.1 ((r.0 ++ r.1) ++ c.in-Some.next.0 ∷ []) n.here)
            (sym c.visit_inner.ensures.kept) (subst (λ m. IsSubtree g.K.AsBytes.bytes g.row.PREFIX_LEN (node_at c.args.reader.now.arena.now) m
            ((r.0 ++ r.1) ++ c.in-Some.next.0 ∷ []) n.here) n.named below.subtree),
      ),
    )

pub returns-in-Some-clause-nearest : goal.returns-in-Some-clause-nearest
returns-in-Some-clause-nearest g c = λ key path prefix kids sub missing on.
    let found = sym (read_at (λ m. first_child (children_between (Excluded c.args.byte) Unbounded m.children)) _ _ _ (root_held g.K.AsBytes.bytes g.row.PREFIX_LEN c.args.reader.now.arena.now c.args.node path prefix kids sub) c.visit_inner.ensures.value _ c.child_after.ensures) ∙ c.in-Some.is in
    let n = child_after g.K.AsBytes.bytes key path prefix kids c.args.byte sub.under.1 missing c.in-Some.next found in
    let below = subtree-branch g.K.AsBytes.bytes g.row.PREFIX_LEN (node_at c.args.reader.now.arena.now) c.args.node path prefix kids n.before c.in-Some.next.0 n.here n.after sub n.whole in
    n.nearest on _ (c.minimum_with.ensures.value ((path ++ prefix) ++ c.in-Some.next.0 ∷ []) n.here
    (subst (λ a. IsSubtree g.K.AsBytes.bytes g.row.PREFIX_LEN (node_at a) c.in-Some.next.1 ((path ++ prefix) ++ c.in-Some.next.0 ∷ []) n.here)
    (sym c.visit_inner.ensures.kept) (subst (λ m. IsSubtree g.K.AsBytes.bytes g.row.PREFIX_LEN (node_at c.args.reader.now.arena.now) m
    ((path ++ prefix) ++ c.in-Some.next.0 ∷ []) n.here) n.named below.subtree)))

pub returns-in-None-clause-nearest : goal.returns-in-None-clause-nearest
returns-in-None-clause-nearest g c = λ key path prefix kids sub missing on.
    let missed = sym (read_at (λ m. first_child (children_between (Excluded c.args.byte) Unbounded m.children)) _ _ _ (root_held g.K.AsBytes.bytes g.row.PREFIX_LEN c.args.reader.now.arena.now c.args.node path prefix kids sub) c.visit_inner.ensures.value _ c.child_after.ensures) ∙ c.in-None.is in
    no_child_after g.K.AsBytes.bytes key path prefix kids c.args.byte sub.under.1 missing missed on _ (c.maximum_with.ensures.value path _ (subst (λ a. IsSubtree g.K.AsBytes.bytes g.row.PREFIX_LEN (node_at a) c.args.node path (inner_at c.args.node prefix kids)) (sym c.visit_inner.ensures.kept) sub))

pub returns-in-Some-clause-few : goal.returns-in-Some-clause-few
returns-in-Some-clause-few g c = λ path prefix kids sub missing longest short.
    let found = sym (read_at (λ m. first_child (children_between (Excluded c.args.byte) Unbounded m.children)) _ _ _ (root_held g.K.AsBytes.bytes g.row.PREFIX_LEN c.args.reader.now.arena.now c.args.node path prefix kids sub) c.visit_inner.ensures.value _ c.child_after.ensures) ∙ c.in-Some.is in
    let n = child_after g.K.AsBytes.bytes [] path prefix kids c.args.byte sub.under.1 missing c.in-Some.next found in
    let below = subtree-branch g.K.AsBytes.bytes g.row.PREFIX_LEN (node_at c.args.reader.now.arena.now) c.args.node path prefix kids n.before c.in-Some.next.0 n.here n.after sub n.whole in
    let few = c.minimum_with.ensures.few ((path ++ prefix) ++ c.in-Some.next.0 ∷ []) n.here
    (subst (λ a. IsSubtree g.K.AsBytes.bytes g.row.PREFIX_LEN (node_at a) c.in-Some.next.1 ((path ++ prefix) ++ c.in-Some.next.0 ∷ []) n.here)
    (sym c.visit_inner.ensures.kept) (subst (λ m. IsSubtree g.K.AsBytes.bytes g.row.PREFIX_LEN (node_at c.args.reader.now.arena.now) m
    ((path ++ prefix) ++ c.in-Some.next.0 ∷ []) n.here) n.named below.subtree)) longest
    (within_branch g.K.AsBytes.bytes longest kids n.before c.in-Some.next.0 n.here n.after n.whole short) in
    omega (arith, few, c.visit_inner.ensures.counts)

pub returns-in-None-clause-few : goal.returns-in-None-clause-few
returns-in-None-clause-few g c = λ path prefix kids sub missing longest short.
    let few = c.maximum_with.ensures.few path _ (subst (λ a. IsSubtree g.K.AsBytes.bytes g.row.PREFIX_LEN (node_at a) c.args.node path (inner_at c.args.node prefix kids)) (sym c.visit_inner.ensures.kept) sub) longest short in
    omega (arith, few, c.visit_inner.ensures.counts)

pub maximum_with-requires : goal.maximum_with-requires
maximum_with-requires g c =
    let r = c.requires in
    (omega arith, (r.0, inner_at c.args.node r.1 r.2, subst (λ a. IsSubtree g.K.AsBytes.bytes g.row.PREFIX_LEN (node_at a) c.args.node r.0 (inner_at c.args.node r.1 r.2)) (sym c.visit_inner.ensures.kept) r.3))

pub returns-in-Some-clause-counts : goal.returns-in-Some-clause-counts
returns-in-Some-clause-counts g c = λ path prefix kids sub missing.
    let found = sym (read_at (λ m. first_child (children_between (Excluded c.args.byte) Unbounded m.children)) _ _ _ (root_held g.K.AsBytes.bytes g.row.PREFIX_LEN c.args.reader.now.arena.now c.args.node path prefix kids sub) c.visit_inner.ensures.value _ c.child_after.ensures) ∙ c.in-Some.is in
    let n = child_after g.K.AsBytes.bytes [] path prefix kids c.args.byte sub.under.1 missing c.in-Some.next found in
    let below = subtree-branch g.K.AsBytes.bytes g.row.PREFIX_LEN (node_at c.args.reader.now.arena.now) c.args.node path prefix kids n.before c.in-Some.next.0 n.here n.after sub n.whole in
    let exact = c.minimum_with.ensures.exact ((path ++ prefix) ++ c.in-Some.next.0 ∷ []) n.here
    (subst (λ a. IsSubtree g.K.AsBytes.bytes g.row.PREFIX_LEN (node_at a) c.in-Some.next.1 ((path ++ prefix) ++ c.in-Some.next.0 ∷ []) n.here)
    (sym c.visit_inner.ensures.kept) (subst (λ m. IsSubtree g.K.AsBytes.bytes g.row.PREFIX_LEN (node_at c.args.reader.now.arena.now) m
    ((path ++ prefix) ++ c.in-Some.next.0 ∷ []) n.here) n.named below.subtree)) in
    omega (arith, exact, c.visit_inner.ensures.counts, ap (beside_reads (erase (inner_at c.args.node prefix kids))) n.above)

pub returns-in-None-clause-counts : goal.returns-in-None-clause-counts
returns-in-None-clause-counts g c = λ path prefix kids sub missing.
    let missed = sym (read_at (λ m. first_child (children_between (Excluded c.args.byte) Unbounded m.children)) _ _ _ (root_held g.K.AsBytes.bytes g.row.PREFIX_LEN c.args.reader.now.arena.now c.args.node path prefix kids sub) c.visit_inner.ensures.value _ c.child_after.ensures) ∙ c.in-None.is in
    let exact = c.maximum_with.ensures.exact path _ (subst (λ a. IsSubtree g.K.AsBytes.bytes g.row.PREFIX_LEN (node_at a) c.args.node path (inner_at c.args.node prefix kids)) (sym c.visit_inner.ensures.kept) sub) in
    omega (arith, exact, c.visit_inner.ensures.counts, ap (beside_reads (erase (inner_at c.args.node prefix kids))) (none_above g.K.AsBytes.bytes [] path prefix kids c.args.byte sub.under.1 missing missed))
