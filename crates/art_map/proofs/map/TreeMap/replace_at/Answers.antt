use Rattle.std.proofs.Common.{Some, refl, sym, ap, ◌∙◌, arith}
use Rattle.art_arena.proofs.Common.{held_at, leaf_name}
use Rattle.art_operations.proofs.Common.{held-some}
use Rattle.art_map.proofs.LeafNames.{written-all}
use Rattle.art_map.proofs.LookedUp.{lookup-value}
use Rattle.art_map.proofs.RoomKept.{pair-room}
use Rattle.art_map.proofs.Written.{one-pair}
use Rattle.art_map.proofs.map.TreeMap.replace_at.Goals as goal

pub pair_mut_at-stored-requires : goal.pair_mut_at-stored-requires
pair_mut_at-stored-requires g c =
    let found = c.in-Some.ensures c.requires.0 ∣ c.requires.1 ∣₁ in
    (omega arith, held-some (held_at c.args.self.now.nodes (leaf_name c.in-Some.leaf)) _ found.1)

pub returns-in-Some-clause-value : goal.returns-in-Some-clause-value
returns-in-Some-clause-value g c = λ key is.
    let found = c.in-Some.ensures key ∣ is ∣₁ in
    let lent = c.pair_mut_at-stored in
    lookup-value _ c.args.self.now.pairs (Some found.0) found.2
    ∙ ap Some (sym (one-pair c.args.self.now c.in-Some.leaf found.0 (lent.result.0.now, lent.result.1.now) found.1 lent.ensures.value).1 ∙ sym c.replace.ensures.value)

pub returns-in-Some-clause-pairs : goal.returns-in-Some-clause-pairs
returns-in-Some-clause-pairs g c = λ key is. rw c.replace.ensures.after ((c.in-Some.ensures key ∣ is ∣₁).3 c.args.value)

pub returns-in-Some-clause-names : goal.returns-in-Some-clause-names
returns-in-Some-clause-names g c = let lent = c.pair_mut_at-stored in rw c.replace.ensures.after (written-all g.K.AsBytes.bytes c.args.self.now c.in-Some.leaf (lent.result.0.now, lent.result.1.now) lent.ensures.value c.args.value)

pub returns-in-Some-clause-room : goal.returns-in-Some-clause-room
returns-in-Some-clause-room g c = let lent = c.pair_mut_at-stored in rw c.replace.ensures.after (pair-room c.args.self.now c.in-Some.leaf (lent.result.0.now, lent.result.1.now) lent.ensures.value c.args.value)

pub returns-in-None-clause-value : goal.returns-in-None-clause-value
returns-in-None-clause-value g c = λ key is. (lookup-value _ c.args.self.now.pairs _ (c.in-None.ensures key ∣ is ∣₁), refl)
