use Rattle.std.proofs.Common.{not, refl}
use Rattle.art_set.proofs.Terms.{is_member}
use Rattle.art_set.proofs.MergeLemmas.{none-came}
use Rattle.art_set.proofs.set.TreeSet.is_disjoint.Goals as goal

pub returns : goal.returns
returns g c =
    let p = λ (x : g.row.K.Denot). is_member g.K.AsBytes.bytes (g.K.AsBytes.bytes x) c.args.other.now.keys in
    none-came p (λ x. not (p x)) (λ x. refl) c.args.self.now.keys c.intersection.result.rest c.next.new.self.rest c.next.result c.is_none.result c.intersection.ensures.rest c.next.ensures.steps.first c.is_none.ensures
