use Rattle.std.proofs.Common.{◌≡◌, ℕ, List, length, Some, refl, ap, sym, subst, ◌∙◌, inl, inr, arith}
use Rattle.std.proofs.lemmas.Bool.Decides.{leb_tells}
use Rattle.art_arena.proofs.Terms.{held_at, leaf_held, leaf_name, IsReadAt, Shape, StoresAt, First, end_path, erase, prefix_of, prefix_reads}
use Rattle.art_arena.proofs.shapes.Guides.{some_end}
use Rattle.art_arena.proofs.shapes.Reads.{cut_if, cut_not}
use Rattle.art_arena.proofs.prefix.read_full_prefix_with.Goals as goal
use Rattle.art_arena.proofs.prefix.read_full_prefix_with.Goals.{After-visit_inner-inner}

pub returns-clause-few : goal.returns-clause-few
returns-clause-few g c = λ path s at longest short.
    let few = c.full_prefix_of.ensures.few c.args.node path s (record {
      stands = subst (λ a. StoresAt g.K.AsBytes.bytes g.row.PREFIX_LEN a c.args.node c.args.depth path s) (sym c.visit_inner-inner.ensures.kept) at;
      held = ap (λ a. held_at a c.args.node) c.visit_inner-inner.ensures.kept ∙ c.visit_inner-inner.ensures.value;
    }) longest short in
    omega (arith, few, c.visit_inner-inner.ensures.counts)

-- the node that was read
is_read : (g : _) (c : After-visit_inner-inner g) (path : List ℕ) (s : Shape g.row.K.Denot g.row.V.Denot) → StoresAt g.K.AsBytes.bytes g.row.PREFIX_LEN c.args.reader.now.arena.now c.args.node c.args.depth path s
    → IsReadAt g.K.AsBytes.bytes g.row.PREFIX_LEN c.visit_inner-inner.new.self.arena.now c.visit_inner-inner.result.node c.args.node c.args.depth path s
is_read g c path s at = record {
  stands = subst (λ a. StoresAt g.K.AsBytes.bytes g.row.PREFIX_LEN a c.args.node c.args.depth path s) (sym c.visit_inner-inner.ensures.kept) at;
  held = ap (λ a. held_at a c.args.node) c.visit_inner-inner.ensures.kept ∙ c.visit_inner-inner.ensures.value;
}

pub returns-clause-stored : goal.returns-clause-stored
returns-clause-stored g c = λ path s at stored.
    let d = (goal.at.returns-clause-stored g c).After-visit_inner-inner in
    c.full_prefix_of.ensures.stored c.args.node path s (is_read g d path s at) stored ∙ c.visit_inner-inner.ensures.counts

pub returns-clause-lent : goal.returns-clause-lent
returns-clause-lent g c = λ path s at more slot leaf first held.
    let d = (goal.at.returns-clause-lent g c).After-visit_inner-inner in
    let reads = c.full_prefix_of.ensures.lent c.args.node path s (is_read g d path s at) more slot leaf first (subst (λ a. held_at a (leaf_name slot) ≡ Some (leaf_held leaf)) (sym c.visit_inner-inner.ensures.kept) held) in
    omega (arith, reads, c.visit_inner-inner.ensures.counts)

pub returns-clause-least : goal.returns-clause-least
returns-clause-least g c = omega (arith, c.full_prefix_of.ensures.least, c.visit_inner-inner.ensures.counts)

pub returns-clause-exact : goal.returns-clause-exact
returns-clause-exact g c = λ path s at.
    let d = (goal.at.returns-clause-exact g c).After-visit_inner-inner in
    let read = is_read g d path s at in
    elim (leb_tells (length (prefix_of s)) g.row.PREFIX_LEN) [
      | inl stored ↦
          let one : prefix_reads g.row.PREFIX_LEN (erase s) ≡ 1 = rw (cut_not g.row.PREFIX_LEN s stored.1) refl in
          omega (arith, one, c.full_prefix_of.ensures.stored c.args.node path s read stored.1, c.visit_inner-inner.ensures.counts)
      | inr more ↦
          let all : prefix_reads g.row.PREFIX_LEN (erase s) ≡ length (end_path First (erase s)) = rw (cut_if g.row.PREFIX_LEN s more.1) refl in
          omega (arith, all, some_end First (erase s), c.full_prefix_of.ensures.lent_exact c.args.node path s read more.1, c.visit_inner-inner.ensures.counts)
    ]
