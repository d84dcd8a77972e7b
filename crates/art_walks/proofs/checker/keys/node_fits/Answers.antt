use Rattle.std.proofs.Common.{◌+◌, ℕ, List, drop, length, take, refl, sym, ap, subst, ◌∙◌, arith}
use Rattle.std.specs.List.{AllByRecursion}
use Rattle.art_nodes.proofs.Common.{Name, IsAscending}
use Rattle.art_arena.proofs.Common.{cell_of, node_at}
use Rattle.art_walks.proofs.Terms.{Await, ChildFits, first_key, LeafHasKey, HasShape}
use Rattle.art_walks.proofs.KeyWalks.{children-stand, first-child-key, opens, unfit-short, unfit-stored, unfit-children, other_words}
use Rattle.art_walks.proofs.checker.keys.node_fits.Goals as goal

pub overflow_sub-key : goal.overflow_sub-key
overflow_sub-key g c =
    let same = ap length (c.key_at-key.ensures (first_key g.K.AsBytes.bytes c.requires.stands.below.shape) c.requires.stands.first) in
    let deep = c.requires.stands.deep in omega (arith, same, deep)

pub returns-then-key-place : goal.returns-then-key-place
returns-then-key-place g c =
    let st = c.requires.stands in
    let is_key = c.key_at-key.ensures (first_key g.K.AsBytes.bytes st.below.shape) st.first in
    let short = c.if-key-place.true in
    let len = c.prefix_len-prefix_len.ensures in
    unfit-short g.K.AsBytes.bytes g.row.PREFIX_LEN (node_at c.args.arena.now) c.args.place st c.requires.inner c.inner-inner.result.node (ap cell_of c.inner-inner.ensures.value) c.key_at-key.result.now is_key
    (λ long. omega (arith, long, short, len))

pub begins_at-requires : goal.begins_at-requires
begins_at-requires g c =
    let same = ap length (c.key_at-key.ensures (first_key g.K.AsBytes.bytes c.requires.stands.below.shape) c.requires.stands.first) in
    let deep = c.requires.stands.deep in omega (arith, same, deep)

pub returns-then-not-begins_at : goal.returns-then-not-begins_at
returns-then-not-begins_at g c =
    let st = c.requires.stands in
    let is_key = c.key_at-key.ensures (first_key g.K.AsBytes.bytes st.below.shape) st.first in
    let read = c.read_prefix.ensures in
    unfit-stored g.K.AsBytes.bytes g.row.PREFIX_LEN (node_at c.args.arena.now) c.args.place st c.requires.inner c.inner-inner.result.node (ap cell_of c.inner-inner.ensures.value) c.key_at-key.result.now is_key
    (λ e. let h = c.if-not-begins_at.ensures.1 (read ∙ e ∙ ap (λ (s : List ℕ). take (length s) (drop c.args.place.depth c.key_at-key.result.now)) (sym read)) in cc)

pub children_fit-requires : goal.children_fit-requires
children_fit-requires g c =
    let bytes = g.K.AsBytes.bytes in
    let at = node_at c.args.arena.now in
    let st = c.requires.stands in
    let there = ap cell_of c.inner-inner.ensures.value in
    let is_key = c.key_at-key.ensures (first_key bytes st.below.shape) st.first in
    let same = ap length is_key in
    let deep = st.deep in
    let short = c.if-key-place.false in
    let are = c.children.ensures.value in (
      omega arith,
      (
        subst (AllByRecursion (λ (x : ℕ × Name). HasShape bytes g.row.PREFIX_LEN at x.1)) (sym are) (children-stand bytes g.row.PREFIX_LEN at c.args.place.name st.below c.requires.inner c.inner-inner.result.node there),
        (
          omega (arith, same, deep, short),
          (
            subst (LeafHasKey bytes g.row.PREFIX_LEN at c.args.place.first) (sym is_key) st.first,
            λ x rest s e part. first-child-key bytes g.row.PREFIX_LEN at c.args.place.name st.below c.requires.inner c.inner-inner.result.node there x rest s (sym are ∙ e) part ∙ sym is_key,
          ),
        ),
      ),
    )

pub returns : goal.returns
returns g c =
    let bytes = g.K.AsBytes.bytes in
    let at = node_at c.args.arena.now in
    let st = c.requires.stands in
    let there = ap cell_of c.inner-inner.ensures.value in
    let is_key = c.key_at-key.ensures (first_key bytes st.below.shape) st.first in
    let same = ap length is_key in
    let deep = st.deep in
    let short = c.if-key-place.false in
    let len = c.prefix_len-prefix_len.ensures in
    let are = c.children.ensures.value in
    let read = c.read_prefix.ensures in
    let stored = sym read ∙ c.if-not-begins_at.ensures.0 refl ∙ ap (λ (s : List ℕ). take (length s) (drop c.args.place.depth c.key_at-key.result.now)) read in
    other_words c.children_fit.result _ _ _ _
    (λ w. opens bytes g.row.PREFIX_LEN at c.args.place st c.requires.inner c.inner-inner.result.node there c.key_at-key.result.now is_key
    (subst IsAscending are c.children.ensures.ascending) (omega (arith, same, deep, short, len)) stored c.args.waiting.now.items _ w.0 w.1
    (subst (λ n. Await bytes g.row.PREFIX_LEN at (c.args.place.depth + n) c.key_at-key.result.now c.inner-inner.result.node.children w.0) len
    (subst (λ cs. Await bytes g.row.PREFIX_LEN at (c.args.place.depth + c.prefix_len-prefix_len.result) c.key_at-key.result.now cs w.0) are w.2)))
    (λ unfit. unfit-children bytes g.row.PREFIX_LEN at c.args.place st c.requires.inner c.inner-inner.result.node there c.key_at-key.result.now is_key
    (λ all. unfit (subst (λ n. AllByRecursion (ChildFits bytes g.row.PREFIX_LEN at (c.args.place.depth + n) c.key_at-key.result.now) c.children.result) (sym len)
    (subst (AllByRecursion (ChildFits bytes g.row.PREFIX_LEN at (c.args.place.depth + c.inner-inner.result.node.header.prefix_len) c.key_at-key.result.now)) (sym are) all))))
    c.children_fit.ensures
