use Rattle.std.proofs.Common.{◌∷◌, refl, arith}
use Rattle.art_arena.proofs.Common.{leaves_before, leaves_after}
use Rattle.art_operations.proofs.NewLeaves.{neighbours_of_longer}
use Rattle.art_operations.proofs.Waiting.{node-held, node-inner, next, previous, some_child}
use Rattle.art_operations.proofs.insert.into_existing.neighbours_at.Goals as goal

pub inner-inner-requires : goal.inner-inner-requires
inner-inner-requires g c =
    let r = c.requires in
    (omega arith, (omega arith, (rw (node-held _ _ _ _ _ _ _ _ _ _ r.6) refl, node-inner _ _ _ _ _ _ _ _ _ _ r.6)))

pub neighbours_between-requires : goal.neighbours_between-requires
neighbours_between-requires g c =
    let awaits = c.requires.6 in
    let p = previous _ _ _ _ _ _ _ _ _ _ awaits _ c.inner-inner.ensures.value _ c.child_before-before.ensures c.in-Some-Some.previous c.in-Some-Some.is-0 in
    let n = next _ _ _ _ _ _ _ _ _ _ awaits _ c.inner-inner.ensures.value _ c.child_after-following.ensures c.in-Some-Some.next c.in-Some-Some.is-1 in
    (omega arith, ((p.path, p.part, p.subtree), (n.path, n.part, n.subtree)))

pub leaf_at_end-requires : goal.leaf_at_end-requires
leaf_at_end-requires g c =
    let p = previous _ _ _ _ _ _ _ _ _ _ c.requires.6 _ c.inner-inner.ensures.value _ c.child_before-before.ensures c.in-Some-None.previous c.in-Some-None.is-0 in
    (omega arith, (p.path, p.part, p.subtree))

pub leaf_at_end-requires-in-None-Some : goal.leaf_at_end-requires-in-None-Some
leaf_at_end-requires-in-None-Some g c =
    let n = next _ _ _ _ _ _ _ _ _ _ c.requires.6 _ c.inner-inner.ensures.value _ c.child_after-following.ensures c.in-None-Some.next c.in-None-Some.is-1 in
    (omega arith, (n.path, n.part, n.subtree))

pub assume_proved-requires : goal.assume_proved-requires
assume_proved-requires g c =
    absurd (some_child _ _ _ _ _ _ _ _ _ _ c.requires.6 _ c.inner-inner.ensures.value _ _ c.child_before-before.ensures c.child_after-following.ensures c.in-None-None.is-0 c.in-None-None.is-1)

pub returns-in-Some-Some : goal.returns-in-Some-Some
returns-in-Some-Some g c = λ root leaf f outer l rest awaits.
    let p = previous _ _ _ _ _ _ _ _ _ _ awaits _ c.inner-inner.ensures.value _ c.child_before-before.ensures c.in-Some-Some.previous c.in-Some-Some.is-0 in
    let n = next _ _ _ _ _ _ _ _ _ _ awaits _ c.inner-inner.ensures.value _ c.child_after-following.ensures c.in-Some-Some.next c.in-Some-Some.is-1 in
    neighbours_of_longer c.neighbours_between.result _ _ (leaves_before (f ∷ outer)) (leaves_after (f ∷ outer)) p.last n.first
    (c.neighbours_between.ensures p.path p.part p.subtree n.path n.part n.subtree)

pub returns-in-Some-None : goal.returns-in-Some-None
returns-in-Some-None g c = λ root leaf f outer l rest awaits.
    let p = previous _ _ _ _ _ _ _ _ _ _ awaits _ c.inner-inner.ensures.value _ c.child_before-before.ensures c.in-Some-None.previous c.in-Some-None.is-0 in
    p.last _ (c.leaf_at_end.ensures p.path p.part p.subtree)

pub returns-in-None-Some : goal.returns-in-None-Some
returns-in-None-Some g c = λ root leaf f outer l rest awaits.
    let n = next _ _ _ _ _ _ _ _ _ _ awaits _ c.inner-inner.ensures.value _ c.child_after-following.ensures c.in-None-Some.next c.in-None-Some.is-1 in
    n.first _ (c.leaf_at_end-in-None-Some.ensures n.path n.part n.subtree)
