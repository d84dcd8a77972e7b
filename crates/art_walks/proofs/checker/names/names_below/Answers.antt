use Rattle.std.proofs.Common.{◌≡◌, ℕ, Bool, true, false, not, List, [], ◌∷◌, ◌++◌, length, ◌-◌, take, length-append, sym, ap, subst, ◌∙◌, refl, inl, inr}
use Rattle.art_arena.proofs.Common.{links_at, node_at, slots_of, pair_there, nothing_there}
use Rattle.art_walks.proofs.Terms.{MalformedTreeError, WrongChildrenCount, Memory, HasWrongCount, Stands}
use Rattle.art_walks.proofs.NameWalks.{seen-more, seen-first, nearer, walk-begin, walk-end, walk-dead, walk-loop, walk-miscounted, walk-leaf, walk-inner, walk-few, IsNameWalk}
use Rattle.art_walks.proofs.Verdicts.{passed}
use Rattle.art_walks.proofs.checker.names.names_below.Goals as goal

negated : (b x : Bool) → x ≡ not b → x ≡ false → b ≡ true
negated true x e f = refl
negated false x e f = absurd (cc)

unseen : (b x : Bool) → x ≡ not b → x ≡ true → b ≡ false
unseen true x e f = absurd (cc)
unseen false x e f = refl

pub loop-name-init : goal.loop-name-init
loop-name-init g c =
    let first : c.push.new.self.items ≡ c.args.root ∷ [] = c.in_ok-push.ensures.items ∙ ap (λ w. w ++ c.args.root ∷ []) c.new-waiting.ensures.items in (
      walk-begin _ _ _ _ _ c.new-met.ensures.items first,
      seen-first _ _ c.new-met.ensures.items c.new-seen.ensures.empty,
    )

pub returns-then-not-holds-clause-err : goal.returns-then-not-holds-clause-err
returns-then-not-holds-clause-err g c = λ bytes.
    walk-dead _ _ _ _ _ _ _ c.loop-name.invariant.0 c.in-Some.ensures.items bytes _ (nothing_there c.args.arena.now c.in-Some.name (λ h. let f = c.if-not-holds.ensures.1 h in cc))

pub returns-then-not-branch-clause-err : goal.returns-then-not-branch-clause-err
returns-then-not-branch-clause-err g c = λ bytes.
    walk-loop _ _ _ _ _ _ _ c.loop-name.invariant.0 c.in-Some.ensures.items bytes _
    (sym (c.loop-name.invariant.1 c.in-Some.name) ∙ negated _ _ c.in_ok-note.ensures.new c.if-not-branch.true)

pub loop-name-preserved-in_ok-open : goal.loop-name-preserved-in_ok-open
loop-name-preserved-in_ok-open g c =
    let new = sym (c.loop-name.invariant.1 c.in-Some.name) ∙ unseen _ _ c.in_ok-note.ensures.new c.if-not-branch.false in (
      subst (λ met. IsNameWalk (node_at c.args.arena.now) g.row.PREFIX_LEN c.args.root met c.open.new.waiting.items) (sym c.in_ok-push-2.ensures.items)
          (walk-inner _ _ _ _ _ _ _ c.loop-name.invariant.0 c.in-Some.ensures.items new c.open.new.waiting.items c.in_ok-open.ensures.ok),
      seen-more _ _ _ _ _ c.in_ok-push-2.ensures.items c.loop-name.invariant.1 c.in_ok-note.ensures.noted,
    )

pub loop-name-smaller-in_ok-open : goal.loop-name-smaller-in_ok-open
loop-name-smaller-in_ok-open g c =
    nearer (slots_of c.args.arena.now) (length c.loop-name.met.items) (length c.push-in-Some.new.self.items)
    (ap length c.in_ok-push-2.ensures.items ∙ length-append c.loop-name.met.items (c.in-Some.name ∷ []))
    (walk-few c.args.arena.now g.row.PREFIX_LEN c.args.root _ c.open.new.waiting.items (loop-name-preserved-in_ok-open g c).0)

pub returns-in_err-open-clause-err : goal.returns-in_err-open-clause-err
returns-in_err-open-clause-err g c = λ bytes.
    passed _ _ (Stands bytes g.row.PREFIX_LEN (node_at c.args.arena.now) (links_at c.args.arena.now) c.args.root) c.from_residual-in_err-open.ensures.1
    (elim c.in_err-open.ensures.err [
      | inl refused ↦ stands_memory bytes _ refused
      | inr wrong ↦ stands_wrong bytes _ wrong.0 (walk-miscounted _ _ _ _ _ _ _ c.loop-name.invariant.0 c.in-Some.ensures.items bytes _ wrong.1)
    ])
  where
    stands_memory : (bytes : g.row.K.Denot → List ℕ) (fault : MalformedTreeError) → fault ≡ Memory → Stands bytes g.row.PREFIX_LEN (node_at c.args.arena.now) (links_at c.args.arena.now) c.args.root fault
    stands_memory bytes fault e = rw e tt

    stands_wrong : (bytes : g.row.K.Denot → List ℕ) (fault : MalformedTreeError) → fault ≡ WrongChildrenCount → HasWrongCount bytes g.row.PREFIX_LEN (node_at c.args.arena.now) (links_at c.args.arena.now) c.args.root
        → Stands bytes g.row.PREFIX_LEN (node_at c.args.arena.now) (links_at c.args.arena.now) c.args.root fault
    stands_wrong bytes fault e h = rw e h

pub loop-name-preserved : goal.loop-name-preserved
loop-name-preserved g c =
    let new = sym (c.loop-name.invariant.1 c.in-Some.name) ∙ unseen _ _ c.in_ok-note.ensures.new c.if-not-branch.false in
    let kind = c.if-not-is.ensures.0 refl in
    let there = pair_there c.args.arena.now c.in-Some.name (c.holds.ensures.0 c.if-not-holds.false) kind in (
      subst (λ met. IsNameWalk (node_at c.args.arena.now) g.row.PREFIX_LEN c.args.root met c.pop.new.self.items) (sym c.in_ok-push-2.ensures.items)
          (walk-leaf _ _ _ _ _ _ _ c.loop-name.invariant.0 c.in-Some.ensures.items new there.0 there.1 there.2 kind),
      seen-more _ _ _ _ _ c.in_ok-push-2.ensures.items c.loop-name.invariant.1 c.in_ok-note.ensures.noted,
    )

pub loop-name-smaller : goal.loop-name-smaller
loop-name-smaller g c =
    nearer (slots_of c.args.arena.now) (length c.loop-name.met.items) (length c.push-in-Some.new.self.items)
    (ap length c.in_ok-push-2.ensures.items ∙ length-append c.loop-name.met.items (c.in-Some.name ∷ []))
    (walk-few c.args.arena.now g.row.PREFIX_LEN c.args.root _ c.pop.new.self.items (loop-name-preserved g c).0)

pub returns-clause-shape : goal.returns-clause-shape
returns-clause-shape g c =
    let none : c.pop.new.self.items ≡ [] = c.in_default.ensures.rest ∙ ap (λ n. take (n - 1) c.loop-name.waiting.items) c.in_default.ensures.cases.0 in
    walk-end _ _ _ _ _ c.loop-name.invariant.0 (c.in_default.ensures.items ∙ ap (λ xs. xs ++ []) none)
