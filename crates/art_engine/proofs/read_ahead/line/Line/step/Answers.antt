use Rattle.std.proofs.Common.{◌≡◌, ◌<◌, Some, ap, refl, subst, sym, ◌∙◌, inl, arith}
use Rattle.art_arena.proofs.Common.{held_at}
use Rattle.art_arena.specs.arena.Descents.{GoesOn, MeetsStored}
use Rattle.art_engine.specs.Ahead.{IsDeadEnd}
use Rattle.art_engine.specs.declared.read_ahead.landing.Landing.{Landing}
use Rattle.art_engine.specs.declared.read_ahead.landing.Landing.TheVariants.{Open}
use Rattle.art_engine.proofs.WaysAhead.{still_open, visited_once, whole_once}
use Rattle.art_engine.proofs.read_ahead.line.Line.step.Goals as goal
use Rattle.art_engine.proofs.read_ahead.line.Line.step.Goals.{in-Some-next_of, in-None}

pub returns-in-Ok-clause-way : goal.returns-in-Ok-clause-way
returns-in-Ok-clause-way g c = λ root way.
    let s = c.args.self.now in
    let low : 0 < s.left = let other = c.if-self-eq0.false in omega arith in
    let a = c.args.reader.now.arena.now in let b = c.visit.new.self.arena.now in
    record {
      ahead = visited_once a s.key.items b root s.visited.items c.then-self.result.items s.left 0 (s.node, s.depth) (s.node, s.depth) _
          c.in-Some.ensures.kept.0 c.then-self.ensures low c.in-Some.ensures.value (λ none. absurd (omega (arith, none))) way.ahead;
      whole = whole_once a s.key.items b root s.visited.items c.then-self.result.items s.left (s.node, s.depth) c.in-Some.ensures.kept.0 c.then-self.ensures low way.ahead;
      ends = (c.in-Ok.leaf.now, ap (λ x. held_at x s.node) c.in-Some.ensures.kept.0 ∙ c.in-Some.ensures.value ∙ ap Some c.in-Ok.ensures);
    }

pub returns-after-next_of-clause-way : goal.returns-after-next_of-clause-way
returns-after-next_of-clause-way g c =
    let s = c.args.self.now in
    let low : 0 < s.left = let other = c.if-self-eq0.false in omega arith in
    let a = c.args.reader.now.arena.now in let b = c.visit.new.self.arena.now in
    let same : c.as_slice.result.now ≡ s.key.items = (let is = c.as_slice.ensures.value in cc) in
    elim c.match-next_of.branch [
      | in-Some-next_of w ↦
          let n = w.in-Some-next_of in
          let goes = subst (λ k. GoesOn k s.depth c.in-Err.inner.node n.next.byte n.next.child n.next.depth) same n.ensures.goes in
          let meets = subst (λ k. MeetsStored k s.depth c.in-Err.inner.node) same n.ensures.meets in
          rw (w.self-is) (λ root way.
          still_open g.K.AsBytes.bytes b root _ (s.unlanded low)
          (visited_once a s.key.items b root s.visited.items c.then-self.result.items s.left _ (s.node, s.depth) (n.next.child, n.next.depth) _
          c.in-Some.ensures.kept.0 c.then-self.ensures low c.in-Some.ensures.value (λ more. (c.in-Err.inner.node, n.next.byte, c.in-Some.ensures.value ∙ ap Some c.in-Err.ensures.0, goes, meets)) way.ahead))
      | in-None w ↦
          let stops = subst (λ k. IsDeadEnd k s.depth c.in-Err.inner.node) same (w.in-None.ensures.stops refl) in
          rw (w.self-is) (λ root way. record {
            ahead = visited_once a s.key.items b root s.visited.items c.then-self.result.items s.left 0 (s.node, s.depth) (s.node, s.depth) _
                c.in-Some.ensures.kept.0 c.then-self.ensures low c.in-Some.ensures.value (λ none. absurd (omega (arith, none))) way.ahead;
            whole = whole_once a s.key.items b root s.visited.items c.then-self.result.items s.left (s.node, s.depth) c.in-Some.ensures.kept.0 c.then-self.ensures low way.ahead;
            ends = inl (c.in-Err.inner.node, ap (λ x. held_at x s.node) c.in-Some.ensures.kept.0 ∙ c.in-Some.ensures.value ∙ ap Some c.in-Err.ensures.0, stops);
          })
    ]

pub returns-in-Ok-clause-leaf : goal.returns-in-Ok-clause-leaf
returns-in-Ok-clause-leaf g c = (c.in-Ok.leaf.now, c.in-Some.ensures.value ∙ ap Some c.in-Ok.ensures, c.early_of.ensures.key, c.early_of.ensures.value)
