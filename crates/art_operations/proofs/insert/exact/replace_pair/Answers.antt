use Rattle.std.proofs.Common.{◌≡◌, refl, sym, ap, ◌∙◌, arith}
use Rattle.art_nodes.specs.declared.leaf.LeafNode.{LeafNode}
use Rattle.art_arena.proofs.Common.{steps_of}
use Rattle.art_operations.proofs.Inserted.{exact_place, exact_there, replaced, kept_links, inserted_keeps}
use Rattle.art_operations.proofs.insert.exact.replace_pair.Goals as goal

pub as_ref-old-requires : goal.as_ref-old-requires
as_ref-old-requires g c =
    let r = c.requires.tree in
    let at = exact_place g.K.AsBytes.bytes g.row.PREFIX_LEN (g.K.AsBytes.bytes c.args.key) r.0 c.args.point c.args.leaf r.3 c.requires.kind in
    let there = exact_there g.K.AsBytes.bytes g.row.PREFIX_LEN c.args.arena.now c.args.point.root r.0 r.2 c.args.leaf (g.K.AsBytes.bytes c.args.key) (steps_of c.args.point.path) at in
    (omega arith, rw there.is refl)

pub returns-clause-inserted : goal.returns-clause-inserted
returns-clause-inserted g c = λ s rest tree point.
    let at = exact_place g.K.AsBytes.bytes g.row.PREFIX_LEN (g.K.AsBytes.bytes c.args.key) s c.args.point c.args.leaf point c.requires.kind in
    let key : c.set_next.new.self.key ≡ c.args.key = ap (λ (l : LeafNode g.row.K.Denot g.row.V.Denot). l.key) c.set_next.ensures ∙ ap (λ (l : LeafNode g.row.K.Denot g.row.V.Denot). l.key) c.set_previous.ensures ∙ c.with_no_siblings-node.ensures.key in
    let value : c.set_next.new.self.value ≡ c.args.value = ap (λ (l : LeafNode g.row.K.Denot g.row.V.Denot). l.value) c.set_next.ensures ∙ ap (λ (l : LeafNode g.row.K.Denot g.row.V.Denot). l.value) c.set_previous.ensures ∙ c.with_no_siblings-node.ensures.value in
    let was : c.as_ref-old.result.now ≡ c.replace-existing.result = let e = sym c.as_ref-old.ensures ∙ c.replace-existing.ensures.value in cc in
    let previous : c.set_next.new.self.previous ≡ c.replace-existing.result.previous =
    ap (λ (l : LeafNode g.row.K.Denot g.row.V.Denot). l.previous) c.set_next.ensures ∙ ap (λ (l : LeafNode g.row.K.Denot g.row.V.Denot). l.previous) c.set_previous.ensures ∙ c.previous.ensures ∙ ap (λ (l : LeafNode g.row.K.Denot g.row.V.Denot). l.previous) was in
    let next : c.set_next.new.self.next ≡ c.replace-existing.result.next = ap (λ (l : LeafNode g.row.K.Denot g.row.V.Denot). l.next) c.set_next.ensures ∙ c.next.ensures ∙ ap (λ (l : LeafNode g.row.K.Denot g.row.V.Denot). l.next) was in
    rw (c.set_next-2.ensures, c.set_previous-2.ensures)
    (replaced g.K.AsBytes.bytes g.row.PREFIX_LEN c.args.arena.now c.args.point.root s tree c.args.leaf c.replace-existing.new.self c.args.key c.args.value (steps_of c.args.point.path) at
    c.replace-existing.result c.set_next.new.self c.replace-existing.ensures.value c.replace-existing.ensures.updates key value previous next)

pub returns-clause-others : goal.returns-clause-others
returns-clause-others g c = λ s rest tree point.
    let is = returns-clause-inserted g c s rest tree point in
    let was : c.as_ref-old.result.now ≡ c.replace-existing.result = let e = sym c.as_ref-old.ensures ∙ c.replace-existing.ensures.value in cc in
    let previous : c.set_next.new.self.previous ≡ c.replace-existing.result.previous =
    ap (λ (l : LeafNode g.row.K.Denot g.row.V.Denot). l.previous) c.set_next.ensures ∙ ap (λ (l : LeafNode g.row.K.Denot g.row.V.Denot). l.previous) c.set_previous.ensures ∙ c.previous.ensures ∙ ap (λ (l : LeafNode g.row.K.Denot g.row.V.Denot). l.previous) was in
    let next : c.set_next.new.self.next ≡ c.replace-existing.result.next = ap (λ (l : LeafNode g.row.K.Denot g.row.V.Denot). l.next) c.set_next.ensures ∙ c.next.ensures ∙ ap (λ (l : LeafNode g.row.K.Denot g.row.V.Denot). l.next) was in
    inserted_keeps g.K.AsBytes.bytes g.row.PREFIX_LEN c.args.arena.now c.replace-existing.new.self c.args.point.root _ s is.shape tree is.is_tree
    (λ n none. kept_links c.args.arena.now c.args.leaf c.replace-existing.new.self c.replace-existing.result c.set_next.new.self c.replace-existing.ensures.value c.replace-existing.ensures.updates previous next n)
