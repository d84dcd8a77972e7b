use Rattle.std.proofs.Common.{None, sym, ap, subst, ◌∙◌, arith}
use Rattle.std.specs.List.{AllByRecursion}
use Rattle.std.specs.Option.{IsSome}
use Rattle.art_nodes.proofs.Common.{Name}
use Rattle.art_nodes.specs.declared.kind.NodeType.TheVariants.{Node4, Node16, Node32, Node48, Node256, Leaf}
use Rattle.art_arena.proofs.Common.{held_at, links_at, node_at}
use Rattle.art_walks.proofs.Terms.{Stands, count_kind, AreLinkedSlots, leaf_slots, Fits}
use Rattle.art_walks.proofs.KeyWalks.{fits-below, no_of, yes_of}
use Rattle.art_walks.proofs.Verdicts.{passed, names-held, skeleton-part, keys-fault, links-fault, canonical}
use Rattle.art_walks.proofs.checker.WellFormedChecker.check_tree.Goals as goal

pub returns-in_err-met-clause-err : goal.returns-in_err-met-clause-err
returns-in_err-met-clause-err g c =
    passed _ _ (Stands g.K.AsBytes.bytes g.row.PREFIX_LEN (node_at c.args.arena.now) (links_at c.args.arena.now) c.args.root) c.from_residual.ensures.1
    (c.in_err-met.ensures.err g.K.AsBytes.bytes)

pub keys_fit-requires : goal.keys_fit-requires
keys_fit-requires g c =
    let s = c.in_ok-met.ensures.shape in (
      omega arith,
      record {
        shape = s.shape;
        part = skeleton-part g.K.AsBytes.bytes g.row.PREFIX_LEN (node_at c.args.arena.now) (links_at c.args.arena.now) c.args.root c.in_ok-met.met.items s c.in_ok-met.ensures.once;
        kinds = s.kinds;
      },
    )

pub returns-then-not-branch-clause-err : goal.returns-then-not-branch-clause-err
returns-then-not-branch-clause-err g c =
    let s = c.in_ok-met.ensures.shape in
    let part = skeleton-part g.K.AsBytes.bytes g.row.PREFIX_LEN (node_at c.args.arena.now) (links_at c.args.arena.now) c.args.root c.in_ok-met.met.items s c.in_ok-met.ensures.once in
    keys-fault g.K.AsBytes.bytes g.row.PREFIX_LEN (node_at c.args.arena.now) (links_at c.args.arena.now) c.args.root c.in_ok-met.met.items s c.in_ok-met.ensures.once
    (λ fits. no_of c.in_ok-keys_fit.field-0 _ _ c.if-not-branch.true c.in_ok-keys_fit.ensures
    (fits-below g.K.AsBytes.bytes g.row.PREFIX_LEN (node_at c.args.arena.now) 0 c.args.root s.shape part fits))

pub leaves_linked-requires : goal.leaves_linked-requires
leaves_linked-requires g c = (
  omega arith,
  subst (AllByRecursion (λ (n : Name). IsSome (held_at c.args.arena.now n))) (sym c.as_slice.ensures.value)
      (names-held c.args.arena.now g.row.PREFIX_LEN c.args.root c.in_ok-met.met.items c.in_ok-met.ensures.shape),
)

pub returns-then-not-leaves_linked-clause-err : goal.returns-then-not-leaves_linked-clause-err
returns-then-not-leaves_linked-clause-err g c =
    let s = c.in_ok-met.ensures.shape in
    let part = skeleton-part g.K.AsBytes.bytes g.row.PREFIX_LEN (node_at c.args.arena.now) (links_at c.args.arena.now) c.args.root c.in_ok-met.met.items s c.in_ok-met.ensures.once in
    let fits : Fits g.K.AsBytes.bytes g.row.PREFIX_LEN 0 s.shape = yes_of c.in_ok-keys_fit.field-0 _ _ c.if-not-branch.false c.in_ok-keys_fit.ensures s.shape part in
    links-fault g.K.AsBytes.bytes g.row.PREFIX_LEN (node_at c.args.arena.now) (links_at c.args.arena.now) c.args.root c.in_ok-met.met.items s c.in_ok-met.ensures.once fits
    (λ linked. no_of c.leaves_linked.result _ _ c.if-not-leaves_linked.true c.leaves_linked.ensures
    (subst (λ names. AreLinkedSlots (links_at c.args.arena.now) None (leaf_slots names) None) (sym c.as_slice.ensures.value) linked))

pub returns-clause-ok : goal.returns-clause-ok
returns-clause-ok g c =
    let s = c.in_ok-met.ensures.shape in
    let part = skeleton-part g.K.AsBytes.bytes g.row.PREFIX_LEN (node_at c.args.arena.now) (links_at c.args.arena.now) c.args.root c.in_ok-met.met.items s c.in_ok-met.ensures.once in
    let fits : Fits g.K.AsBytes.bytes g.row.PREFIX_LEN 0 s.shape = yes_of c.in_ok-keys_fit.field-0 _ _ c.if-not-branch.false c.in_ok-keys_fit.ensures s.shape part in
    let linked : AreLinkedSlots (links_at c.args.arena.now) None (leaf_slots c.in_ok-met.met.items) None =
    subst (λ names. AreLinkedSlots (links_at c.args.arena.now) None (leaf_slots names) None) c.as_slice.ensures.value
    (yes_of c.leaves_linked.result _ _ c.if-not-leaves_linked.false c.leaves_linked.ensures) in
    let is = canonical g.K.AsBytes.bytes g.row.PREFIX_LEN (node_at c.args.arena.now) (links_at c.args.arena.now) c.args.root c.in_ok-met.met.items s c.in_ok-met.ensures.once fits linked in
    let counts = c.counts_of.ensures in
    let names = c.as_slice-2.ensures.value in (
      is.tree,
      is.means,
      record {
        nodes4 = counts.nodes4 ∙ ap (count_kind Node4) names ∙ is.inner_nodes Node4 (λ e. cc);
        nodes16 = counts.nodes16 ∙ ap (count_kind Node16) names ∙ is.inner_nodes Node16 (λ e. cc);
        nodes32 = counts.nodes32 ∙ ap (count_kind Node32) names ∙ is.inner_nodes Node32 (λ e. cc);
        nodes48 = counts.nodes48 ∙ ap (count_kind Node48) names ∙ is.inner_nodes Node48 (λ e. cc);
        nodes256 = counts.nodes256 ∙ ap (count_kind Node256) names ∙ is.inner_nodes Node256 (λ e. cc);
        leaves = counts.leaves ∙ ap (count_kind Leaf) names ∙ is.all_leaves;
      },
    )
