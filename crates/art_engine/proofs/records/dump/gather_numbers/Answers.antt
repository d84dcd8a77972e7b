use Rattle.std.proofs.Common.{arith, rules, length-set, ◌≡◌, ◌++◌, take, map, append-nil, ap, sym, ◌∙◌, subst, refl, List, [], length, drop}
use Rattle.std.specs.Int.{cast_signed, cast_unsigned, w64}
use Rattle.std.specs.List.{AllByRecursion}
use Rattle.std.specs.Map.Iter.{deref_pair}
use Rattle.std.specs.Prelude.{option_map}
use Rattle.std.proofs.lemmas.Int.{to_z-of_z}
use Rattle.std.proofs.lemmas.List.{take-set-le}
use Rattle.art_lines.proofs.Common.{line_of, nput_words, taken_none, taken_from, taken_through, taken_cut, when_err}
use Rattle.art_engine.proofs.Terms.{NumberFits, pending, pending_all, IsClosed, NumberPair, number_record_of}
use Rattle.art_engine.proofs.Dumping.{dumped, gathered_next, number_line_fits, words_nput}
use Rattle.art_engine.proofs.records.dump.gather_numbers.Goals as goal

pub pairs-init : goal.pairs-init
pairs-init g c =
    let none = c.new-batch.ensures.none in
    let all = ap (λ os. pending_all deref_pair os c.iter-pairs.result) none ∙ c.iter-pairs.ensures.rest in
    record {
      taken = taken_none _ _ _ (ap (λ l. take c.args.before c.args.room.now ++ dumped number_record_of words_nput l) all);
      fine = c.requires.open;
      fit = subst (λ ps. AllByRecursion NumberFits (map number_record_of ps)) (sym all) c.requires.numbers.fit;
      held = c.requires.held;
      whole = c.requires.whole;
      within = c.new-batch.ensures.within;
      closed = subst (λ os. IsClosed deref_pair os c.iter-pairs.result) (sym none) tt;
    }

pub put_number_record-held-requires : goal.put_number_record-held-requires
put_number_record-held-requires g c =
    let p : NumberPair = (c.in-Some.key.now, c.in-Some.value.now) in
    let fits = (subst (λ ps. AllByRecursion NumberFits (map number_record_of ps)) c.in-Some.ensures.gives c.pairs.invariant.fit).0 in
    let back = ap (λ z. cast_signed w64 (cast_unsigned w64 z)) c.split_number_key-tenant.ensures.number ∙ to_z-of_z w64 (number_record_of p).key fits.number_fits in
    let line : line_of (nput_words c.split_number_key-tenant.result.0 (cast_signed w64 (cast_unsigned w64 c.split_number_key-tenant.result.1)) c.as_slice.result.now) ≡ line_of (words_nput (number_record_of p)) =
    rw (c.split_number_key-tenant.ensures.tenant, back, c.as_slice.ensures.value) refl in
    let long = number_line_fits (number_record_of p) _ line fits in
    let left = c.in_ok-at.ensures.fits in let whole = c.pairs.invariant.whole in let same = length-set c.pairs.room 8191 c.checksum.result in
    omega arith

pub pairs-preserved : goal.pairs-preserved
pairs-preserved g c =
    let p : NumberPair = (c.in-Some.key.now, c.in-Some.value.now) in
    let fits = subst (λ ps. AllByRecursion NumberFits (map number_record_of ps)) c.in-Some.ensures.gives c.pairs.invariant.fit in
    let back = ap (λ z. cast_signed w64 (cast_unsigned w64 z)) c.split_number_key-tenant.ensures.number ∙ to_z-of_z w64 (number_record_of p).key fits.0.number_fits in
    let line : line_of (nput_words c.split_number_key-tenant.result.0 (cast_signed w64 (cast_unsigned w64 c.split_number_key-tenant.result.1)) c.as_slice.result.now) ≡ line_of (words_nput (number_record_of p)) =
    rw (c.split_number_key-tenant.ensures.tenant, back, c.as_slice.ensures.value) refl in
    let long = number_line_fits (number_record_of p) _ line fits.0 in
    let left = c.in_ok-at.ensures.fits in
    let kept = take-set-le c.in_ok-at.at c.pairs.room 8191 c.checksum.result (omega arith) in
    let output = c.put_number_record-held.ensures.output ∙ ap (λ t. t ++ line_of (nput_words c.split_number_key-tenant.result.0 (cast_signed w64 (cast_unsigned w64 c.split_number_key-tenant.result.1)) c.as_slice.result.now)) kept in
    let rest : List NumberPair = pending_all deref_pair (drop c.next.new.self.at (take c.next.new.self.len c.next.new.self.pairs)) c.next.new.records in
    let next = gathered_next number_record_of words_nput p rest _ _ _ _ c.in-Some.ensures.gives line output in
    record {
      taken = taken_from _ _ _ _ _ next (taken_through _ _ _ _ _ _ _ c.pairs.invariant.taken c.in_ok-at.ensures.taken);
      fine = sym c.in_ok-at.ensures.failed;
      fit = fits.1;
      held = omega arith;
      whole = search rules;
      within = c.next.ensures.within;
      closed = c.next.ensures.closed;
    }

pub returns-in_err-at-clause-cut : goal.returns-in_err-at-clause-cut
returns-in_err-at-clause-cut g c = when_err _ (taken_cut _ _ _ _ _ _ c.pairs.invariant.taken c.in_err-at.ensures.cut)

pub returns-clause-taken : goal.returns-clause-taken
returns-clause-taken g c =
    let front = take c.pairs.held c.pairs.room in
    let left : List NumberPair = pending_all deref_pair (drop c.pairs.batch.at (take c.pairs.batch.len c.pairs.batch.pairs)) c.pairs.pairs in
    let rest : List NumberPair = pending_all deref_pair (drop c.next.new.self.at (take c.next.new.self.len c.next.new.self.pairs)) c.next.new.records in
    let none : left ≡ [] = c.next.ensures.gives ∙ ap (λ o. pending (option_map deref_pair o) rest) c.in_default.is ∙ c.next.ensures.ended c.in_default.is in
    taken_from _ _ _ _ _ (ap (λ l. front ++ dumped number_record_of words_nput l) none ∙ append-nil front) c.pairs.invariant.taken

pub pairs-smaller : goal.pairs-smaller
pairs-smaller g c =
    let step = ap length c.in-Some.ensures.gives in
    omega arith
