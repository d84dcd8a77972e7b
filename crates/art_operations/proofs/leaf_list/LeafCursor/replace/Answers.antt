use Rattle.std.proofs.Common.{◌≡◌, Some, sym, ap, ap₂, subst, ◌∙◌, arith}
use Rattle.art_nodes.specs.declared.leaf.LeafNode.{LeafNode}
use Rattle.art_arena.proofs.Common.{leaf_held, held_at, with_leaf, leaf_name, UpdatesAt, nodes-update}
use Rattle.art_arena.specs.lemmas.WrittenNodes.{written_leaf}
use Rattle.art_operations.proofs.Terms.{HasReplaced}
use Rattle.art_operations.proofs.LeafListsParted.{after-held, leaf-made, replaced}
use Rattle.art_operations.proofs.leaf_list.LeafCursor.replace.Goals as goal
use Rattle.art_operations.proofs.leaf_list.LeafCursor.replace.Goals.{After-into_entry}

pub as_ref-requires : goal.as_ref-requires
as_ref-requires g c =
    let r = c.requires.list in
    (omega arith, after-held c.args.arena.now c.args.self.now r.0 r.1 r.2 c.args.leaf c.requires.after)

module _ (g : _) (c : After-into_entry g) where
  -- the leaf as it was, and as it is written
  abbrev was : LeafNode g.row.K.Denot g.row.V.Denot
  was = c.as_ref.result.now

  abbrev made : LeafNode g.row.K.Denot g.row.V.Denot
  made = record { key = c.args.key; value = c.args.value; previous = c.args.self.now.before; next = was.next }

  made-is : c.replace-old.new.dest ≡ made
  made-is =
      c.replace-old.ensures.after ∙ c.set_next.ensures ∙ ap (λ (n : LeafNode g.row.K.Denot g.row.V.Denot). record n { next = c.next-after.result }) c.set_previous.ensures
      ∙ leaf-made c.with_no_siblings-node.result c.args.key c.args.value c.args.self.now.before c.next-after.result was.next c.with_no_siblings-node.ensures.key c.with_no_siblings-node.ensures.value c.next-after.ensures

  updates : UpdatesAt (held_at c.args.arena.now) (held_at (with_leaf c.args.arena.now c.args.leaf c.replace-old.new.dest)) (leaf_name c.args.leaf) (Some (leaf_held made))
  updates =
      let r = c.requires.list in
      let there = after-held c.args.arena.now c.args.self.now r.0 r.1 r.2 c.args.leaf c.requires.after in
      subst (λ (n : LeafNode g.row.K.Denot g.row.V.Denot). UpdatesAt (held_at c.args.arena.now) (held_at (with_leaf c.args.arena.now c.args.leaf c.replace-old.new.dest)) (leaf_name c.args.leaf) (Some (leaf_held n))) made-is
      (written_leaf c.args.arena.now c.args.leaf c.replace-old.new.dest there)

  same-leaf : c.replace-old.result ≡ was
  same-leaf = let one = c.as_mut.ensures.value in let other = c.as_ref.ensures in let same : c.as_mut.result.now ≡ was = cc in c.replace-old.ensures.value ∙ same

  pair-is : ◌≡◌ {A = g.row.K.Denot × g.row.V.Denot} (was.key, was.value) c.into_entry.result
  pair-is =
      ap₂ (λ k v. (k, v)) (sym (c.into_entry.ensures.key ∙ ap (λ (n : LeafNode g.row.K.Denot g.row.V.Denot). n.key) same-leaf)) (sym (c.into_entry.ensures.value ∙ ap (λ (n : LeafNode g.row.K.Denot g.row.V.Denot). n.value) same-leaf))

pub returns-clause-replaced : goal.returns-clause-replaced
returns-clause-replaced g c = λ front back stands.
    let d = (goal.at.returns-clause-replaced g c).After-into_entry in
    let new = with_leaf c.args.arena.now c.args.leaf c.replace-old.new.dest in
    let is = replaced c.args.arena.now new c.args.self.now c.args.leaf c.requires.after (was g d) c.as_ref.ensures c.args.key c.args.value (updates g d) front back stands in
    subst (λ p. HasReplaced new (record { first = c.args.self.now.first; before = Some c.args.leaf; after = c.next-after.result }) c.args.leaf c.args.key c.args.value p front back) (pair-is g d)
    (subst (λ n. HasReplaced new (record { first = c.args.self.now.first; before = Some c.args.leaf; after = n }) c.args.leaf c.args.key c.args.value ((was g d).key, (was g d).value) front back) (sym c.next-after.ensures) is)

pub returns-clause-updates : goal.returns-clause-updates
returns-clause-updates g c =
    let d = (goal.at.returns-clause-updates g c).After-into_entry in
    nodes-update c.args.arena.now (with_leaf c.args.arena.now c.args.leaf c.replace-old.new.dest) (leaf_name c.args.leaf) _ (updates g d)
