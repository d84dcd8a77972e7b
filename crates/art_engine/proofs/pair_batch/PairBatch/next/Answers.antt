use Rattle.std.proofs.Common.{rules, ◌≡◌, ◌+◌, ◌≤◌, [], drop, take, length, ap, sym, subst, ◌∙◌, arith}
use Rattle.std.proofs.lemmas.List.{drop_all, length-take}
use Rattle.std.specs.Map.Iter.{deref_pair}
use Rattle.art_engine.proofs.Terms.{pending_all}
use Rattle.art_engine.proofs.pair_batch.PairBatch.next.Goals as goal

pub returns-then-self-clause-gives : goal.returns-then-self-clause-gives
returns-then-self-clause-gives g c =
    let past : c.args.self.now.len ≤ c.args.self.now.at = search rules in
    let few = length-take c.args.self.now.len c.args.self.now.pairs in
    let none : drop c.args.self.now.at (take c.args.self.now.len c.args.self.now.pairs) ≡ [] = drop_all c.args.self.now.at (take c.args.self.now.len c.args.self.now.pairs) (omega arith) in
    let rest = g.R.PairSource.left c.fill.new.records c.fill.new.place in
    ap (λ os. pending_all deref_pair os (g.R.PairSource.left c.args.records.now c.args.place.now)) none ∙ c.fill.ensures.gives
    ∙ sym (ap (λ n. pending_all deref_pair (drop n (take c.fill.new.self.len c.fill.new.self.pairs)) rest) c.fill.ensures.at) ∙ c.take_next.ensures.gives rest

pub returns-then-self-clause-counts : goal.returns-then-self-clause-counts
returns-then-self-clause-counts g c = λ given first is.
    let past : c.args.self.now.len ≤ c.args.self.now.at = search rules in
    let few = length-take c.args.self.now.len c.args.self.now.pairs in
    let none = ap (λ os. length (pending_all deref_pair os [])) (drop_all c.args.self.now.at (take c.args.self.now.len c.args.self.now.pairs) (omega arith)) in
    let start : given + length (pending_all deref_pair (drop c.args.self.now.at (take c.args.self.now.len c.args.self.now.pairs)) []) ≡ given = omega arith in
    let grew = c.fill.ensures.counts given first (subst (λ n. g.R.PairSource.has_grown n first c.args.records.now) start is) in
    let all = ap (λ n. length (pending_all deref_pair (drop n (take c.fill.new.self.len c.fill.new.self.pairs)) [])) c.fill.ensures.at in
    let gives = ap length (c.take_next.ensures.gives []) in
    subst (λ n. g.R.PairSource.has_grown (given + n) first c.fill.new.records) (sym all ∙ gives) grew
