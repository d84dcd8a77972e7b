use Rattle.std.proofs.Common.{◌≡◌, ◌++◌, ◌∷◌, ◌+◌, ℕ, [], take, length, refl, sym, ap, subst, ◌∙◌, arith, append_assoc}
use Rattle.std.specs.List.{AllByRecursion}
use Rattle.art_nodes.proofs.Common.{Name}
use Rattle.art_arena.proofs.Common.{node_at}
use Rattle.art_walks.proofs.Terms.{Place, HasShape, LeafHasKey, ChildFits, Await, first_key}
use Rattle.art_walks.proofs.KeyWalks.{await-join, await-one, other_words}
use Rattle.art_walks.proofs.checker.keys.children_fit.Goals as goal

pub returns-in_ok-push-in-Some : goal.returns-in_ok-push-in-Some
returns-in_ok-push-in-Some g c =
    let bytes = g.K.AsBytes.bytes in
    let at = node_at c.args.arena.now in
    let child = c.in-Some.child in
    let are : c.args.children ≡ child ∷ c.next.new.self = c.in-Some.ensures.steps in
    let below : HasShape bytes g.row.PREFIX_LEN at c.in-Some.child.1 = (subst (AllByRecursion (λ (x : ℕ × Name). HasShape bytes g.row.PREFIX_LEN at x.1)) are c.requires.stand).0 in
    let is_key : first_key bytes below.shape ≡ c.args.key.now = c.requires.is_first child c.next.new.self below.shape are below.part in
    let told = c.if-not-goes_on.ensures in
    let deep = told.within refl in
    let same = ap length is_key in
    let place : Place = record { name = c.in-Some.child.1; depth = c.args.end + 1; first = c.args.first } in
    let one = await-one bytes g.row.PREFIX_LEN at c.args.end c.args.key.now child c.args.first below (subst (LeafHasKey bytes g.row.PREFIX_LEN at c.args.first) (sym is_key) c.requires.is_key)
    (ap (take (c.args.end + 1)) is_key ∙ told.value.0 refl) (omega (arith, deep, same)) in
    other_words c.others_fit.result _ _ _ _
    (λ w. (
      place ∷ w.0,
      w.1 ∙ ap (λ xs. xs ++ w.0) c.in_ok-push-in-Some.ensures.items ∙ append_assoc c.args.waiting.now.items (place ∷ []) w.0,
      subst (λ cs. Await bytes g.row.PREFIX_LEN at c.args.end c.args.key.now cs (place ∷ w.0)) (sym are) (await-join bytes g.row.PREFIX_LEN at c.args.end c.args.key.now (child ∷ []) c.next.new.self (place ∷ []) w.0 one w.2),
    ))
    (λ unfit all. unfit (subst (AllByRecursion (ChildFits bytes g.row.PREFIX_LEN at c.args.end c.args.key.now)) are all).1)
    c.others_fit.ensures
