use Rattle.std.proofs.Common.{refl}
use Rattle.art_map.proofs.Entries.{absent-entry}
use Rattle.art_map.proofs.PrefixEntries.{stored-entry}
use Rattle.art_map.proofs.map.TreeMap.prefix_entry.Goals as goal

pub returns-in-Some-clause-entry : goal.returns-in-Some-clause-entry
returns-in-Some-clause-entry g c = stored-entry c.args.key _ (c.in-Some.ensures (g.K.AsBytes.bytes c.args.key) ∣ c.in-Ok.ensures.place ∣₁)

pub returns-in-Ok-clause-entry : goal.returns-in-Ok-clause-entry
returns-in-Ok-clause-entry g c =
    let key = g.K.AsBytes.bytes c.args.key in
    (absent-entry c.args.self.now c.args.key key refl _ refl (c.in-None.ensures key ∣ c.in-Ok.ensures.place ∣₁), c.in-Ok.ensures.placed.1)
