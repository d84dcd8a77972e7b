use Rattle.std.proofs.Common.{refl}
use Rattle.art_map.proofs.Entries.{found-entry, absent-entry}
use Rattle.art_map.proofs.map.TreeMap.entry.Goals as goal

pub returns-in-Some-clause-entry : goal.returns-in-Some-clause-entry
returns-in-Some-clause-entry g c =
    let known = ∣ c.place_free-place.ensures.place ∣₁ in
    found-entry c.args.self.now c.args.key (g.K.AsBytes.bytes c.args.key) refl c.new.result c.in-Some.leaf (c.in-Some.ensures (g.K.AsBytes.bytes c.args.key) known) c.new.ensures.pair

pub returns-clause-entry : goal.returns-clause-entry
returns-clause-entry g c =
    let known = ∣ c.place_free-place.ensures.place ∣₁ in
    absent-entry c.args.self.now c.args.key (g.K.AsBytes.bytes c.args.key) refl _ refl (c.in-None.ensures (g.K.AsBytes.bytes c.args.key) known)
