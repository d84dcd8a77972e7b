use Rattle.std.proofs.Common.{◌≡◌, ◌+◌, [], length, take, set, ap, sym, subst, ◌∙◌, arith}
use Rattle.std.specs.Prelude.{option_map}
use Rattle.std.proofs.lemmas.List.{take_more_set, length-set}
use Rattle.std.specs.Map.Iter.{deref_pair}
use Rattle.art_engine.proofs.Terms.{pending, pending_all, IsClosed}
use Rattle.art_engine.proofs.ReadBatches.{pending_more, closed_more, length_more}
use Rattle.art_engine.proofs.pair_batch.read_batch.Goals as goal

pub pairs-preserved : goal.pairs-preserved
pairs-preserved g c =
    let next = c.next_pair-pair.ensures in
    let inv = c.pairs.invariant in
    let o = c.next_pair-pair.result in
    let more = take_more_set c.pairs.pairs c.pairs.len o (omega arith) in
    let rest = g.R.PairSource.left c.next_pair-pair.new.self c.next_pair-pair.new.place in
    record {
      long = length-set c.pairs.pairs c.pairs.len o ∙ inv.long;
      few = omega arith;
      end = let same = length-set c.pairs.pairs c.pairs.len o in omega arith;
      some = omega arith;
      gives = inv.gives ∙ ap (pending_all deref_pair (take c.pairs.len c.pairs.pairs)) next.gives
          ∙ sym (pending_more deref_pair (take c.pairs.len c.pairs.pairs) o rest) ∙ ap (λ os. pending_all deref_pair os rest) (sym more);
      place = next.place;
      closed = subst (λ os. IsClosed deref_pair os rest) (sym more) (closed_more deref_pair (take c.pairs.len c.pairs.pairs) o _ _ next.gives next.ended inv.closed);
      kept = λ first is. next.kept first (inv.kept first is);
      counts = λ given first is.
          let read = take c.pairs.len c.pairs.pairs in
          let longer = ap (λ os. length (pending_all deref_pair os [])) more ∙ length_more deref_pair read o in
          let total : given + length (pending_all deref_pair read []) + length (pending (option_map deref_pair o) []) ≡ given + length (pending_all deref_pair (take (c.pairs.len + 1) (set c.pairs.pairs c.pairs.len o)) []) = omega arith in
          subst (λ n. g.R.PairSource.has_grown n first c.next_pair-pair.new.self) total (next.counts (given + length (pending_all deref_pair read [])) first (inv.counts given first is));
    }
