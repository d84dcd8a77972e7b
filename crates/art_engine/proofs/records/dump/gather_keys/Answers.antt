use Rattle.std.proofs.Common.{arith, rules, ◌≡◌, ◌++◌, length-set, take, drop, map, append-nil, ap, sym, ◌∙◌, subst, refl, List, [], length}
use Rattle.std.specs.Int.{from_be_bytes, w32}
use Rattle.std.specs.List.{AllByRecursion}
use Rattle.std.specs.Map.Iter.{deref_pair}
use Rattle.std.specs.Prelude.{option_map}
use Rattle.std.proofs.lemmas.List.{take-set-le}
use Rattle.art_lines.proofs.Common.{line_of, put_words, taken_none, taken_from, taken_through, taken_cut, when_err}
use Rattle.art_engine.proofs.Terms.{KeyFits, pending, pending_all, IsClosed, Pair, record_of, IsFull}
use Rattle.art_engine.proofs.Dumping.{dumped, gathered_next, line_fits, words_put}
use Rattle.art_engine.proofs.records.dump.gather_keys.Goals as goal

pub pairs-init : goal.pairs-init
pairs-init g c =
    let none = c.new-batch.ensures.none in
    let all = ap (λ os. pending_all deref_pair os c.iter-pairs.result) none ∙ c.iter-pairs.ensures.rest in
    record {
      taken = taken_none _ _ _ (ap (dumped record_of words_put) all);
      fine = c.requires.open;
      full = subst (AllByRecursion IsFull) (sym all) c.requires.held.stand.full;
      fit = subst (λ ps. AllByRecursion KeyFits (map record_of ps)) (sym all) c.requires.held.fit;
      held = omega arith;
      whole = c.requires.whole;
      within = c.new-batch.ensures.within;
      closed = subst (λ os. IsClosed deref_pair os c.iter-pairs.result) (sym none) tt;
    }

pub put_record-held-requires-clause-line : goal.put_record-held-requires-clause-line
put_record-held-requires-clause-line g c =
    let p : Pair = (c.in-Some.full.now, c.in-Some.value.now) in
    let tenant = c.set_tenant.ensures ∙ c.split_full_key-tenant.ensures.tenant ∙ ap (λ xs. from_be_bytes w32 (take 4 xs)) c.as_slice.ensures.value in
    let key = c.split_full_key-tenant.ensures.key ∙ ap (drop 4) c.as_slice.ensures.value in
    let line : line_of (put_words c.set_tenant.new.self.tenant c.split_full_key-tenant.result.1.now c.as_slice-in-Some.result.now) ≡ line_of (words_put (record_of p)) =
    rw (tenant, key, c.as_slice-in-Some.ensures.value) refl in
    let fits = (subst (λ ps. AllByRecursion KeyFits (map record_of ps)) c.in-Some.ensures.gives c.pairs.invariant.fit).0 in
    let long = line_fits (record_of p) _ line fits in
    let left = c.in_ok-at.ensures.fits in let whole = c.pairs.invariant.whole in let same = length-set c.pairs.room 8191 c.checksum.result in
    omega arith

pub pairs-preserved : goal.pairs-preserved
pairs-preserved g c =
    let p : Pair = (c.in-Some.full.now, c.in-Some.value.now) in
    let tenant = c.set_tenant.ensures ∙ c.split_full_key-tenant.ensures.tenant ∙ ap (λ xs. from_be_bytes w32 (take 4 xs)) c.as_slice.ensures.value in
    let key = c.split_full_key-tenant.ensures.key ∙ ap (drop 4) c.as_slice.ensures.value in
    let line : line_of (put_words c.set_tenant.new.self.tenant c.split_full_key-tenant.result.1.now c.as_slice-in-Some.result.now) ≡ line_of (words_put (record_of p)) =
    rw (tenant, key, c.as_slice-in-Some.ensures.value) refl in
    let fits = subst (λ ps. AllByRecursion KeyFits (map record_of ps)) c.in-Some.ensures.gives c.pairs.invariant.fit in
    let long = line_fits (record_of p) _ line fits.0 in
    let left = c.in_ok-at.ensures.fits in
    let kept = take-set-le c.in_ok-at.at c.pairs.room 8191 c.checksum.result (omega arith) in
    let output = c.put_record-held.ensures.output ∙ ap (λ t. t ++ line_of (put_words c.set_tenant.new.self.tenant c.split_full_key-tenant.result.1.now c.as_slice-in-Some.result.now)) kept in
    let rest : List Pair = pending_all deref_pair (drop c.next.new.self.at (take c.next.new.self.len c.next.new.self.pairs)) c.next.new.records in
    let next = gathered_next record_of words_put p rest _ _ _ _ c.in-Some.ensures.gives line output in
    record {
      taken = taken_from _ _ _ _ _ next (taken_through _ _ _ _ _ _ _ c.pairs.invariant.taken c.in_ok-at.ensures.taken);
      fine = sym c.in_ok-at.ensures.failed;
      full = (subst (AllByRecursion IsFull) c.in-Some.ensures.gives c.pairs.invariant.full).1;
      fit = fits.1;
      held = omega arith;
      whole = search rules;
      within = c.next.ensures.within;
      closed = c.next.ensures.closed;
    }

pub returns-in_err-at-clause-cut : goal.returns-in_err-at-clause-cut
returns-in_err-at-clause-cut g c = when_err _ (taken_cut _ _ _ _ _ _ c.pairs.invariant.taken c.in_err-at.ensures.cut)

pub returns-clause-taken : goal.returns-clause-taken
returns-clause-taken g c =
    let front = take c.pairs.held c.pairs.room in
    let left : List Pair = pending_all deref_pair (drop c.pairs.batch.at (take c.pairs.batch.len c.pairs.batch.pairs)) c.pairs.pairs in
    let rest : List Pair = pending_all deref_pair (drop c.next.new.self.at (take c.next.new.self.len c.next.new.self.pairs)) c.next.new.records in
    let none : left ≡ [] = c.next.ensures.gives ∙ ap (λ o. pending (option_map deref_pair o) rest) c.in_default.is ∙ c.next.ensures.ended c.in_default.is in
    taken_from _ _ _ _ _ (ap (λ l. front ++ dumped record_of words_put l) none ∙ append-nil front) c.pairs.invariant.taken

pub pairs-smaller : goal.pairs-smaller
pairs-smaller g c =
    let step = ap length c.in-Some.ensures.gives in
    omega arith
