use Rattle.std.proofs.Common.{◌∷◌, refl, sym, ap, ◌∙◌}
use Rattle.art_set.proofs.Comparisons.{left-both, left-first, left-second, no-first, no-second}
use Rattle.art_set.proofs.MergeLemmas.{above-next, above-next-turned, above-none, step-both, step-first, step-second, compared, not-compared, one-less, one-less-after, both-less}
use Rattle.art_set.proofs.merges.sides.Sides+K+PREFIX_LEN.advance.Goals as goal

pub returns-in-Some-peek-clause-met : goal.returns-in-Some-peek-clause-met
returns-in-Some-peek-clause-met g c = λ w.
    rw (← c.self.view_is)
    (step-second g.K.AsBytes.bytes w c.in-Some-peek.y.now _ _ _ (c.in-Some-peek.ensures ∙ ap (λ ys. c.in-Some-peek.y.now ∷ ys) (sym c.advance.ensures)) c.self.invariant.1
    (above-none g.K.AsBytes.bytes c.in-Some-peek.y.now _ c.in-None.ensures.0))

pub returns-in-Less-clause-met : goal.returns-in-Less-clause-met
returns-in-Less-clause-met g c = λ w.
    rw (← c.self.view_is)
    (step-first g.K.AsBytes.bytes w c.in-Some.x.now _ _ _ (c.in-Some.ensures ∙ ap (λ xs. c.in-Some.x.now ∷ xs) (sym c.advance-in-Less.ensures)) c.self.invariant.0
    (above-next g.K.AsBytes.bytes c.in-Some.x.now c.in-Some-peek-2.y.now _ _ c.in-Some-peek-2.ensures c.self.invariant.1 (sym c.in-Less.ensures.bytes)))

pub returns-in-Less-clause-compared : goal.returns-in-Less-clause-compared
returns-in-Less-clause-compared g c =
    rw (← c.self.view_is)
    (compared g.K.AsBytes.bytes _ _ c.one_more-self-inside.ensures
    (left-first g.K.AsBytes.bytes c.in-Some.x.now c.in-Some-peek-2.y.now _ _ _ _ (c.in-Some.ensures ∙ ap (λ xs. c.in-Some.x.now ∷ xs) (sym c.advance-in-Less.ensures)) c.in-Some-peek-2.ensures c.self.invariant.0 c.self.invariant.1 (sym c.in-Less.ensures.bytes))
    (one-less c.in-Some.x.now _ _ _ (c.in-Some.ensures ∙ ap (λ xs. c.in-Some.x.now ∷ xs) (sym c.advance-in-Less.ensures))))

pub returns-in-Equal-clause-met : goal.returns-in-Equal-clause-met
returns-in-Equal-clause-met g c = λ w.
    rw (← c.self.view_is)
    (step-both g.K.AsBytes.bytes w c.in-Some.x.now c.in-Some-peek-2.y.now _ _ _ _ (c.in-Some.ensures ∙ ap (λ xs. c.in-Some.x.now ∷ xs) (sym c.advance-in-Equal.ensures)) (c.in-Some-peek-2.ensures ∙ ap (λ ys. c.in-Some-peek-2.y.now ∷ ys) (sym c.advance-in-Equal-2.ensures))
    c.self.invariant.0 c.self.invariant.1 (sym c.in-Equal.ensures.bytes))

pub returns-in-Equal-clause-compared : goal.returns-in-Equal-clause-compared
returns-in-Equal-clause-compared g c =
    rw (← c.self.view_is)
    (compared g.K.AsBytes.bytes _ _ c.one_more-self-inside.ensures
    (left-both g.K.AsBytes.bytes c.in-Some.x.now c.in-Some-peek-2.y.now _ _ _ _
    (c.in-Some.ensures ∙ ap (λ xs. c.in-Some.x.now ∷ xs) (sym c.advance-in-Equal.ensures))
    (c.in-Some-peek-2.ensures ∙ ap (λ ys. c.in-Some-peek-2.y.now ∷ ys) (sym c.advance-in-Equal-2.ensures)) c.self.invariant.0 c.self.invariant.1
    (sym c.in-Equal.ensures.bytes))
    (both-less c.in-Some.x.now c.in-Some-peek-2.y.now _ _ _ _ (c.in-Some.ensures ∙ ap (λ xs. c.in-Some.x.now ∷ xs) (sym c.advance-in-Equal.ensures)) (c.in-Some-peek-2.ensures ∙ ap (λ ys. c.in-Some-peek-2.y.now ∷ ys) (sym c.advance-in-Equal-2.ensures))))

pub returns-in-Greater-clause-met : goal.returns-in-Greater-clause-met
returns-in-Greater-clause-met g c = λ w.
    rw (← c.self.view_is)
    (step-second g.K.AsBytes.bytes w c.in-Some-peek-2.y.now _ _ _ (c.in-Some-peek-2.ensures ∙ ap (λ ys. c.in-Some-peek-2.y.now ∷ ys) (sym c.advance-in-Greater.ensures)) c.self.invariant.1
    (above-next-turned g.K.AsBytes.bytes c.in-Some.x.now c.in-Some-peek-2.y.now _ _ c.in-Some.ensures c.self.invariant.0 (sym c.in-Greater.ensures.bytes)))

pub returns-in-Greater-clause-compared : goal.returns-in-Greater-clause-compared
returns-in-Greater-clause-compared g c =
    rw (← c.self.view_is)
    (compared g.K.AsBytes.bytes _ _ c.one_more-self-inside.ensures
    (left-second g.K.AsBytes.bytes c.in-Some.x.now c.in-Some-peek-2.y.now _ _ _ _ c.in-Some.ensures (c.in-Some-peek-2.ensures ∙ ap (λ ys. c.in-Some-peek-2.y.now ∷ ys) (sym c.advance-in-Greater.ensures)) c.self.invariant.0 c.self.invariant.1 (sym c.in-Greater.ensures.bytes))
    (one-less-after c.in-Some-peek-2.y.now _ _ _ (c.in-Some-peek-2.ensures ∙ ap (λ ys. c.in-Some-peek-2.y.now ∷ ys) (sym c.advance-in-Greater.ensures))))

pub returns-in-Some-peek-clause-compared : goal.returns-in-Some-peek-clause-compared
returns-in-Some-peek-clause-compared g c =
    rw (← c.self.view_is)
    (not-compared g.K.AsBytes.bytes _ _ refl (no-first g.K.AsBytes.bytes _ _ c.in-None.ensures.0) (no-first g.K.AsBytes.bytes _ _ c.in-None.ensures.0)
    (one-less-after c.in-Some-peek.y.now _ _ _ (c.in-Some-peek.ensures ∙ ap (λ ys. c.in-Some-peek.y.now ∷ ys) (sym c.advance.ensures))))

pub returns-in-None-peek-2-clause-compared : goal.returns-in-None-peek-2-clause-compared
returns-in-None-peek-2-clause-compared g c =
    rw (← c.self.view_is)
    (not-compared g.K.AsBytes.bytes _ _ refl (no-second g.K.AsBytes.bytes _ _ c.in-None-peek-2.ensures.0) (no-second g.K.AsBytes.bytes _ _ c.in-None-peek-2.ensures.0)
    (one-less c.in-Some.x.now _ _ _ (c.in-Some.ensures ∙ ap (λ xs. c.in-Some.x.now ∷ xs) (sym c.advance-in-None-peek-2.ensures))))
