use Rattle.std.proofs.Common.{arith, rules, ◌≡◌, ◌+◌, ◌++◌, ◌≤◌, ◌∷◌, ℕ, [], length, take, drop, refl, ap, sym, ◌∙◌, subst}
use Rattle.std.specs.List.{AllByRecursion}
use Rattle.std.specs.Prelude.{option_map}
use Rattle.std.proofs.lemmas.List.{take-set-le}
use Rattle.std.specs.Map.Iter.{deref_pair}
use Rattle.std.specs.Global.{Vec}
use Rattle.art_lines.proofs.Common.{taken_none, taken_from, taken_through, taken_cut, writes_cut, writes_rest}
use Rattle.art_engine.proofs.Terms.{pending, pending_all, IsClosed, span_pairs}
use Rattle.art_engine.proofs.ListedLines.{lines_from, lines_next, list_end}
use Rattle.art_engine.proofs.ReadBatches.{length_all}
use Rattle.art_engine.proofs.SpanLemmas.{when_ok}
use Rattle.art_engine.proofs.listing.write_pairs.Goals as goal

pub pairs-init : goal.pairs-init
pairs-init g c =
    let words = g.K.ListedKey.words in
    let L = span_pairs c.args.records.now.nodes c.args.span.now in
    let none = c.new-batch.ensures.none in
    let start = ap (λ os. pending_all deref_pair os L) none in
    let few = ap length start in
    let read = ap (λ os. length (pending_all deref_pair os [])) none in
    let zero : 0 + length L ≡ length L = omega arith in
    record {
      taken = taken_none _ _ _ (ap (λ l. lines_from words (list_end (0 + length l)) l) start ∙ ap (λ n. lines_from words (list_end n) L) zero);
      fine = c.requires.open;
      listed = subst (AllByRecursion g.K.ListedKey.is_listed) (sym start) c.requires.listed;
      held = omega arith;
      within = c.new-batch.ensures.within;
      span = c.requires.span;
      closed = subst (λ os. IsClosed deref_pair os L) (sym none) tt;
      counted = omega arith;
      same = (refl, refl);
      visits = λ fits. omega arith;
    }

pub gather-requires-clause-listed : goal.gather-requires-clause-listed
gather-requires-clause-listed g c = (subst (AllByRecursion g.K.ListedKey.is_listed) c.in-Some.ensures.gives c.pairs.invariant.listed).0

pub returns-in_err-next-clause-written : goal.returns-in_err-next-clause-written
returns-in_err-next-clause-written g c =
    let p : g.row.K.Denot × Vec ℕ = (c.in-Some.key.now, c.in-Some.value.now) in
    let left = pending_all deref_pair (drop c.pairs.batch.at (take c.pairs.batch.len c.pairs.batch.pairs)) (span_pairs c.pairs.records.nodes c.pairs.span) in
    let rest = pending_all deref_pair (drop c.next.new.self.at (take c.next.new.self.len c.next.new.self.pairs)) (span_pairs c.next.new.records.nodes c.next.new.place) in
    let kept = take-set-le c.pairs.held c.pairs.room 1023 c.checksum.result c.pairs.invariant.held in
    let output = lines_next g.K.ListedKey.words (list_end (c.pairs.count + length left)) p rest left _ (take c.pairs.held c.pairs.room) c.in-Some.ensures.gives refl in
    writes_cut _ _ _ _ _ c.from_residual.ensures.0 c.in_err-next.ensures.failed
    (taken_cut _ _ _ _ _ _ (taken_from _ _ _ _ _ output c.pairs.invariant.taken) (rw kept at c.in_err-next.ensures.cut))

pub overflow_add-count : goal.overflow_add-count
overflow_add-count g c =
    let step = ap length c.in-Some.ensures.gives in
    let counted = c.pairs.invariant.counted in
    let few = c.requires.few in
    let fits : c.pairs.count + 1 ≤ 18446744073709551615 = omega arith in
    search rules

pub pairs-smaller : goal.pairs-smaller
pairs-smaller g c =
    let step = ap length c.in-Some.ensures.gives in
    omega arith

pub pairs-preserved : goal.pairs-preserved
pairs-preserved g c =
    let p : g.row.K.Denot × Vec ℕ = (c.in-Some.key.now, c.in-Some.value.now) in
    let read = drop c.next.new.self.at (take c.next.new.self.len c.next.new.self.pairs) in
    let left = pending_all deref_pair (drop c.pairs.batch.at (take c.pairs.batch.len c.pairs.batch.pairs)) (span_pairs c.pairs.records.nodes c.pairs.span) in
    let rest = pending_all deref_pair read (span_pairs c.next.new.records.nodes c.next.new.place) in
    let step : left ≡ p ∷ rest = c.in-Some.ensures.gives in
    let listed = subst (AllByRecursion g.K.ListedKey.is_listed) step c.pairs.invariant.listed in
    let one = ap length step in
    let counted = c.pairs.invariant.counted in
    let total : c.pairs.count + 1 + length rest ≡ c.pairs.count + length left = omega arith in
    let last = list_end (c.pairs.count + length left) in
    let kept = take-set-le c.pairs.held c.pairs.room 1023 c.checksum.result c.pairs.invariant.held in
    let output = lines_next g.K.ListedKey.words last p rest left _ (take c.pairs.held c.pairs.room) step refl in
    let taken = taken_through _ _ _ _ _ _ _ (taken_from _ _ _ _ _ output c.pairs.invariant.taken) (rw kept at c.in_ok-next.ensures.taken) in
    let visits = c.in-Some.ensures.counts c.pairs.count c.args.records.now.count c.pairs.invariant.visits in
    record {
      taken = taken_from _ _ _ _ _ (ap (λ n. take c.in_ok-next.next c.gather.new.room ++ lines_from g.K.ListedKey.words (list_end n) rest) (sym total)) taken;
      fine = sym c.in_ok-next.ensures.failed;
      listed = listed.1;
      held = search rules;
      within = c.next.ensures.within;
      span = c.next.ensures.place;
      closed = c.next.ensures.closed;
      counted = omega arith;
      same = c.next.ensures.kept c.args.records.now c.pairs.invariant.same;
      visits = λ fits. let is = visits fits in omega arith;
    }

pub returns-clause-written : goal.returns-clause-written
returns-clause-written g c =
    let left = pending_all deref_pair (drop c.pairs.batch.at (take c.pairs.batch.len c.pairs.batch.pairs)) (span_pairs c.pairs.records.nodes c.pairs.span) in
    let rest = pending_all deref_pair (drop c.next.new.self.at (take c.next.new.self.len c.next.new.self.pairs)) (span_pairs c.next.new.records.nodes c.next.new.place) in
    let none : left ≡ [] = c.next.ensures.gives ∙ ap (λ o. pending (option_map deref_pair o) rest) c.in_default.is ∙ c.next.ensures.ended c.in_default.is in
    let few = ap length none in
    let all : c.pairs.count + length left ≡ c.pairs.count = omega arith in
    let last = ap (λ d. take c.pairs.held c.pairs.room ++ lines_from g.K.ListedKey.words (list_end (c.pairs.count + length left)) d) none
    ∙ ap (λ n. take c.pairs.held c.pairs.room ++ list_end n) all in
    writes_rest _ _ _ _ _ _ _ (taken_from _ _ _ _ _ last c.pairs.invariant.taken) c.write_end.ensures

pub returns-clause-counts : goal.returns-clause-counts
returns-clause-counts g c =
    let read = drop c.next.new.self.at (take c.next.new.self.len c.next.new.self.pairs) in
    let left = pending_all deref_pair (drop c.pairs.batch.at (take c.pairs.batch.len c.pairs.batch.pairs)) (span_pairs c.pairs.records.nodes c.pairs.span) in
    let rest = pending_all deref_pair read (span_pairs c.next.new.records.nodes c.next.new.place) in
    let ended : rest ≡ [] = c.next.ensures.ended c.in_default.is in
    let few = ap length (c.next.ensures.gives ∙ ap (λ o. pending (option_map deref_pair o) rest) c.in_default.is ∙ ended) in
    let no = ap length ended in
    let parts = length_all deref_pair read (span_pairs c.next.new.records.nodes c.next.new.place) in
    let given = ap (λ o. length (pending (option_map deref_pair o) (pending_all deref_pair read []))) c.in_default.is in
    let counted = c.pairs.invariant.counted in
    let visits = c.next.ensures.counts c.pairs.count c.args.records.now.count c.pairs.invariant.visits in
    when_ok c.write_end.result (λ fits. let is = visits fits in omega arith)

pub returns-in_err-next-clause-kept : goal.returns-in_err-next-clause-kept
returns-in_err-next-clause-kept g c = c.next.ensures.kept c.args.records.now c.pairs.invariant.same

pub returns-clause-kept : goal.returns-clause-kept
returns-clause-kept g c = c.next.ensures.kept c.args.records.now c.pairs.invariant.same

pub returns-in_err-next-clause-few : goal.returns-in_err-next-clause-few
returns-in_err-next-clause-few g c =
    let read = drop c.next.new.self.at (take c.next.new.self.len c.next.new.self.pairs) in
    let parts = length_all deref_pair read (span_pairs c.next.new.records.nodes c.next.new.place) in
    let step = ap length c.in-Some.ensures.gives in
    let counted = c.pairs.invariant.counted in
    let visits = c.in-Some.ensures.counts c.pairs.count c.args.records.now.count c.pairs.invariant.visits in
    (c.pairs.count + 1 + length (pending_all deref_pair read []), omega arith, λ fits. let is = visits fits in omega arith)

pub returns-clause-few : goal.returns-clause-few
returns-clause-few g c =
    let read = drop c.next.new.self.at (take c.next.new.self.len c.next.new.self.pairs) in
    let rest = pending_all deref_pair read (span_pairs c.next.new.records.nodes c.next.new.place) in
    let ended : rest ≡ [] = c.next.ensures.ended c.in_default.is in
    let few = ap length (c.next.ensures.gives ∙ ap (λ o. pending (option_map deref_pair o) rest) c.in_default.is ∙ ended) in
    let no = ap length ended in
    let parts = length_all deref_pair read (span_pairs c.next.new.records.nodes c.next.new.place) in
    let given = ap (λ o. length (pending (option_map deref_pair o) (pending_all deref_pair read []))) c.in_default.is in
    let counted = c.pairs.invariant.counted in
    let visits = c.next.ensures.counts c.pairs.count c.args.records.now.count c.pairs.invariant.visits in
    (c.pairs.count + length (pending_all deref_pair read []), omega arith, λ fits. let is = visits fits in omega arith)
