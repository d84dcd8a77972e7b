use Rattle.std.proofs.Common.{not, sym}
use Rattle.std.proofs.Math.Bool.{not-not}
use Rattle.art_set.proofs.Terms.{is_member}
use Rattle.art_set.proofs.MergeLemmas.{none-came}
use Rattle.art_set.proofs.set.TreeSet.is_subset.Goals as goal

pub returns : goal.returns
returns g c =
    let p = λ (x : g.row.K.Denot). is_member g.K.AsBytes.bytes (g.K.AsBytes.bytes x) c.args.other.now.keys in
    none-came (λ x. not (p x)) p (λ x. sym (not-not (p x))) c.args.self.now.keys c.difference.result.rest c.next.new.self.rest c.next.result c.is_none.result c.difference.ensures.rest c.next.ensures.steps.first c.is_none.ensures
