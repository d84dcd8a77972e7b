use Rattle.std.proofs.Common.{◌≡◌, refl, sym, ap, subst, ◌∙◌, Option}
use Rattle.std.specs.Map.Calls.{MayWrite, ModifiesValue}
use Rattle.art_map.specs.Entries.{Occupied}
use Rattle.art_map.proofs.Terms.{entry_pairs, entry_value, pairs_without}
use Rattle.art_map.proofs.Entries.{written-without}
use Rattle.art_map.proofs.map.entry.methods.Entry+K+V+PREFIX_LEN.and_modify.Goals as goal

pub returns-in-Occupied-clause-update : goal.returns-in-Occupied-clause-update
returns-in-Occupied-clause-update g c =
    let u = c.f.new.arg2 in
    let old = ap entry_value c.in-Occupied.is ∙ c.get_mut.ensures.value in
    let new = (c.get_mut.ensures.written u).value in
    let did : MayWrite g.F.FnOnce c.args.f c.get_mut.result.now u = record { lent = c.get_mut.result; result = c.f.result; left = _; before = refl; met = c.f.ensures; after = refl } in
    subst (λ (p : Option g.row.V.Denot × Option g.row.V.Denot). ModifiesValue g.F.FnOnce c.args.f p.0 p.1) (λ i. (sym old i, sym new i)) did

pub returns-in-Occupied-clause-same_removal : goal.returns-in-Occupied-clause-same_removal
returns-in-Occupied-clause-same_removal g c = written-without c.in-Occupied.entry _ _ (c.get_mut.ensures.written c.f.new.arg2) ∙ sym (ap pairs_without c.in-Occupied.is)

pub returns-in-Occupied-clause-pairs : goal.returns-in-Occupied-clause-pairs
returns-in-Occupied-clause-pairs g c w shown =
    let did = c.get_mut.ensures.written c.f.new.arg2 in
    let value = did.value in
    let same : c.f.new.arg2 ≡ w = cc in
    did.pairs ∙ ap (entry_pairs (Occupied c.in-Occupied.entry)) same ∙ sym (ap (λ e. entry_pairs e w) c.in-Occupied.is)

pub returns-in-Occupied-clause-room : goal.returns-in-Occupied-clause-room
returns-in-Occupied-clause-room g c = rw c.in-Occupied.is (c.get_mut.ensures.written c.f.new.arg2).room

pub returns-in-Occupied-clause-names : goal.returns-in-Occupied-clause-names
returns-in-Occupied-clause-names g c = rw c.in-Occupied.is (c.get_mut.ensures.written c.f.new.arg2).names
