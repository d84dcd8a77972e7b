use Rattle.std.proofs.Common.{◌≡◌, ℕ, List, Option, Some, None, MatchOption, inl, inr, arith}
use Rattle.art_nodes.proofs.Common.{InnerNode}
use Rattle.art_arena.proofs.Terms.{GoesNoFurther, GoesOn, MeetsStored}
use Rattle.art_arena.specs.declared.descent.Passing.{Passing}
use Rattle.art_arena.specs.declared.descent.Passing.TheVariants.{ByBytes}
use Rattle.art_arena.specs.declared.inner_ref.NextStep.{NextStep}
use Rattle.art_arena.specs.inner.Stepping.{TakesStep}
use Rattle.art_arena.proofs.shapes.Passing.{passed, mismatch_stops}
use Rattle.art_arena.proofs.descent.step_at.Goals as goal

-- the step, where what is stored agrees
by_stored : (passing : Passing) (key : List ℕ) (depth : ℕ) (node : InnerNode) (r : Option NextStep) → MeetsStored key depth node
    → MatchOption r (GoesNoFurther key depth node) (λ step. GoesOn key depth node step.byte step.child step.depth) → TakesStep passing key depth node r
by_stored passing key depth node None meets is = λ _. inr is
by_stored passing key depth node (Some step) meets is = (is, λ _. meets)

-- and where the prefix is passed by all its bytes
by_bytes : (passing : Passing) (key : List ℕ) (depth : ℕ) (node : InnerNode) (r : Option NextStep) → passing ≡ ByBytes
    → MatchOption r (GoesNoFurther key depth node) (λ step. GoesOn key depth node step.byte step.child step.depth) → TakesStep passing key depth node r
by_bytes passing key depth node None mode is = λ other. absurd (cc)
by_bytes passing key depth node (Some step) mode is = (is, λ other. absurd (cc))

pub returns-then-meets_stored-clause-goes : goal.returns-then-meets_stored-clause-goes
returns-then-meets_stored-clause-goes g c =
    by_stored _ c.args.key.now c.args.depth c.args.inner.now.node c.next_step.result (c.meets_stored.ensures.0 c.if-meets_stored.true) c.next_step.ensures

pub returns-else-meets_stored-clause-goes : goal.returns-else-meets_stored-clause-goes
returns-else-meets_stored-clause-goes g c = λ _. inl (λ meets. let yes = c.meets_stored.ensures.1 meets in let no = c.if-meets_stored.false in cc)

pub returns-then-meets_stored-clause-steps : goal.returns-then-meets_stored-clause-steps
returns-then-meets_stored-clause-steps g c = λ root path s at. record { by_bytes = λ mode. absurd (cc); few = λ longest short. omega (arith) }

pub returns-else-meets_stored-clause-steps : goal.returns-else-meets_stored-clause-steps
returns-else-meets_stored-clause-steps g c = λ root path s at. record { by_bytes = λ mode. absurd (cc); few = λ longest short. omega (arith) }

pub returns-then-passes_prefix-clause-goes : goal.returns-then-passes_prefix-clause-goes
returns-then-passes_prefix-clause-goes g c = by_bytes c.args.passing c.args.key.now c.args.depth c.args.inner.now.node c.next_step-then-passes_prefix.result (cc) c.next_step-then-passes_prefix.ensures

pub returns-else-passes_prefix-clause-goes : goal.returns-else-passes_prefix-clause-goes
returns-else-passes_prefix-clause-goes g c = λ mode. absurd (cc)

pub returns-then-passes_prefix-clause-steps : goal.returns-then-passes_prefix-clause-steps
returns-then-passes_prefix-clause-steps g c = λ root path s at.
    let p = c.passes_prefix.ensures in
    record {
      by_bytes = λ mode. record {
        goes = λ guided begins.
            passed g.K.AsBytes.bytes g.row.PREFIX_LEN c.args.reader.now.arena.now root c.args.inner.now.node at.held path c.args.key.now c.args.depth s at.stands begins
            ((p.passes root path s at guided).0 c.if-passes_prefix.true)
            c.next_step-then-passes_prefix.result (λ (step : NextStep). step.byte) (λ (step : NextStep). step.depth) (λ (step : NextStep). step.child) c.next_step-then-passes_prefix.ensures;
        keeps = p.keeps root path s at;
        found = p.found root path s at;
        counts = p.counts root path s at;
      };
      few = p.few root path s at;
    }

pub returns-else-passes_prefix-clause-steps : goal.returns-else-passes_prefix-clause-steps
returns-else-passes_prefix-clause-steps g c = λ root path s at.
    let p = c.passes_prefix.ensures in
    record {
      by_bytes = λ mode. record {
        goes = λ guided begins.
            mismatch_stops g.K.AsBytes.bytes g.row.PREFIX_LEN c.args.reader.now.arena.now root c.args.inner.now.node at.held path c.args.key.now c.args.depth s at.stands begins
            (λ front. let yes = (p.passes root path s at guided).1 front in let no = c.if-passes_prefix.false in cc);
        keeps = p.keeps root path s at;
        found = p.found root path s at;
        counts = p.counts root path s at;
      };
      few = p.few root path s at;
    }
