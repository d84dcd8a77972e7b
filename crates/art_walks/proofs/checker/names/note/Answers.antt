use Rattle.std.proofs.Common.{◌≡◌, ◌||◌, ◌&&◌, not, ℕ, Bool, true, false, cond, nat_eq, List, [], ◌∷◌, refl, sym, ap, ap₂, ◌∙◌, inl, inr}
use Rattle.std.specs.List.{list_any}
use Rattle.art_walks.proofs.Terms.{has_name}
use Rattle.art_arena.proofs.Common.{same_kind, same_name, same_name_tells}
use Rattle.art_nodes.proofs.Common.{Name}
use Rattle.art_nodes.specs.declared.kind.NodeType.{NodeType}
use Rattle.art_walks.proofs.KindTests.{kinds_told}
use Rattle.art_nodes.specs.contracts.names.OpaqueNodePtrPartialEq.TheImpl.{eq-value}
use Rattle.art_walks.proofs.checker.names.note.Goals as goal

turned : (a b : Bool) → (a && b) ≡ (b && a)
turned true true = refl
turned true false = refl
turned false true = refl
turned false false = refl

-- the equality of names tells them apart: it looks at the slab keys first
same : (k l : NodeType) (x y : ℕ) → eq-value.it (record { kind = k; slot = x }) (record { kind = l; slot = y }) ≡ same_name (record { kind = k; slot = x }) (record { kind = l; slot = y })
same k l x y = ap (λ b. nat_eq x y && b) (kinds_told k l) ∙ turned (nat_eq x y) (same_kind k l)

swapped : (a b : Name) → same_name a b ≡ same_name b a
swapped a b = elim (same_name_tells a b) [
  | inl one ↦ elim (same_name_tells b a) [ inl two ↦ one.0 ∙ sym two.0 | inr other ↦ absurd (other.1 (sym one.1)) ]
  | inr one ↦ elim (same_name_tells b a) [ inl two ↦ absurd (one.1 (sym two.1)) | inr other ↦ one.0 ∙ sym other.0 ]
]

among : (n : Name) (xs : List Name) → list_any (eq-value.it n) xs ≡ has_name n xs
among n [] = refl
among n (x ∷ xs) = ap₂ (λ a b. a || b) (same n.kind x.kind n.slot x.slot) (among n xs)

either : (a b : Bool) → cond a true b ≡ (a || b)
either true b = refl
either false b = refl

pub returns-in-Ok-clause-new : goal.returns-in-Ok-clause-new
returns-in-Ok-clause-new c = c.in-Ok.ensures.added ∙ ap not (among c.args.name c.args.seen.now.keys)

pub returns-in-Ok-clause-noted : goal.returns-in-Ok-clause-noted
returns-in-Ok-clause-noted c = λ q.
    sym (among q c.insert.new.self.keys) ∙ c.in-Ok.ensures.updates.0 q
    ∙ ap₂ (λ a b. cond a true b) (same c.args.name.kind q.kind c.args.name.slot q.slot ∙ swapped c.args.name q) (among q c.args.seen.now.keys)
    ∙ either (same_name q c.args.name) (has_name q c.args.seen.now.keys)
