use Rattle.std.proofs.Common.{◌≡◌, ◌+◌, ℕ, cond, [], ◌∷◌, ◌++◌, take, sym, ap, ◌∙◌, arith}
use Rattle.std.proofs.lemmas.List.{take_more}
use Rattle.art_arena.proofs.Common.{same_kind}
use Rattle.art_walks.proofs.KindTests.{kinds_told}
use Rattle.art_walks.proofs.Terms.{count_kind}
use Rattle.art_walks.proofs.KindCounts.{count_kind-append}
use Rattle.art_walks.proofs.checker.counts.count_of.Goals.{then-eq, else-eq}
use Rattle.art_walks.proofs.checker.counts.count_of.Goals as goal

pub loop-name-preserved : goal.loop-name-preserved
loop-name-preserved c =
    let kind = c.args.kind in
    let front = take c.loop-name.name-index c.args.names.now in
    let more = take_more c.args.names.now c.loop-name.name-index c.name-item.result c.loop-name-test.true ∙ ap (λ x. front ++ x ∷ []) (sym c.name-item.is) in
    let parts : count_kind kind (take (c.loop-name.name-index + 1) c.args.names.now) ≡ count_kind kind front + (cond (same_kind kind c.name-item.result.kind) 1 0 + 0) =
    ap (count_kind kind) more ∙ count_kind-append kind front (c.name-item.result ∷ []) in
    let was = c.loop-name.invariant.0 in
    let few = c.loop-name.invariant.1 in
    let type = ap (λ k. same_kind kind k) c.node_type.ensures in
    elim c.if-eq.branch [
      | then-eq w ↦
          let count = w.count-is in
          let one : ◌≡◌ {A = ℕ} (cond (same_kind kind c.name-item.result.kind) 1 0) 1 = ap (λ b. cond b 1 0) (sym type ∙ sym (kinds_told kind c.node_type.result) ∙ sym c.eq.ensures ∙ w.if-eq.true) in
          (omega (arith, parts, was, count, one), omega (arith, few, count))
      | else-eq w ↦
          let count = w.count-is in
          let none : ◌≡◌ {A = ℕ} (cond (same_kind kind c.name-item.result.kind) 1 0) 0 = ap (λ b. cond b 1 0) (sym type ∙ sym (kinds_told kind c.node_type.result) ∙ sym c.eq.ensures ∙ w.if-eq.false) in
          (omega (arith, parts, was, count, none), omega (arith, few, count))
    ]
