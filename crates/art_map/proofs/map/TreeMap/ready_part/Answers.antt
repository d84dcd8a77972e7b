use Rattle.std.proofs.Common.{arith, ℕ, List, Some, sym, subst}
use Rattle.std.proofs.lemmas.Result.{on_err_weaker}
use Rattle.std.specs.Prelude.{IfOk, OnErr}
use Rattle.art_map.proofs.Terms.{IsFoundPart, IsReadyPart, ShrinksAtCut, contents}
use Rattle.art_map.proofs.Maps.{same-map, same-pairs}
use Rattle.art_map.proofs.PrefixBlocks.{cut-shrinks, place-there, ready-same}
use Rattle.art_map.proofs.map.TreeMap.ready_part.Goals as goal

pub prepare-requires : goal.prepare-requires
prepare-requires g c =
    let r = subst (λ m. (front : List ℕ) × IsFoundPart g.K.AsBytes.bytes g.row.PREFIX_LEN m front (Some c.args.part)) (sym c.self.view_is) c.requires in
    (omega arith, place-there g.K.AsBytes.bytes g.row.PREFIX_LEN r.0 g.K.AsBytes.is_key c.self.inside.arena c.self.inside.root c.self.invariant c.args.part ∣ r.1 ∣₁)

pub invariant_of-self : goal.invariant_of-self
invariant_of-self g c = same-map g.K.AsBytes.bytes g.K.AsBytes.is_key g.row.PREFIX_LEN c.self.inside.arena c.self.inside.root c.self.invariant c.prepare.new.arena c.prepare.ensures.kept

pub returns-clause-ready : goal.returns-clause-ready
returns-clause-ready g c =
    subst
    (λ m. IfOk c.prepare.result (λ ready. (front : List ℕ) → IsFoundPart g.K.AsBytes.bytes g.row.PREFIX_LEN m front (Some c.args.part) → IsReadyPart g.K.AsBytes.bytes g.row.PREFIX_LEN (contents c.prepare.new.arena c.self.inside.root) front (Some ready)))
    c.self.view_is
    (ready-same g.K.AsBytes.bytes g.row.PREFIX_LEN c.self.inside.arena c.prepare.new.arena c.prepare.ensures.kept c.self.inside.root c.args.part c.prepare.result c.prepare.ensures.point c.prepare.ensures.ready)

pub returns-clause-pairs : goal.returns-clause-pairs
returns-clause-pairs g c = rw (← c.self.view_is) (same-pairs g.K.AsBytes.bytes g.K.AsBytes.is_key g.row.PREFIX_LEN c.self.inside.arena c.self.inside.root c.self.invariant c.prepare.new.arena c.prepare.ensures.kept)

pub returns-clause-shrinks : goal.returns-clause-shrinks
returns-clause-shrinks g c =
    subst (λ m. OnErr c.prepare.result ((front : List ℕ) → IsFoundPart g.K.AsBytes.bytes g.row.PREFIX_LEN m front (Some c.args.part) → ShrinksAtCut g.K.AsBytes.bytes front m.pairs)) c.self.view_is
    (on_err_weaker c.prepare.result (λ shrinks front part. cut-shrinks g.K.AsBytes.bytes g.row.PREFIX_LEN front g.K.AsBytes.is_key c.self.inside.arena c.self.inside.root c.self.invariant c.args.part ∣ part ∣₁ shrinks) c.prepare.ensures.shrinks)

pub returns-clause-kept_room : goal.returns-clause-kept_room
returns-clause-kept_room g c = rw (← c.self.view_is) c.prepare.ensures.kept_room

pub returns-clause-room_of : goal.returns-clause-room_of
returns-clause-room_of g c = rw (← c.self.view_is) c.prepare.ensures.room_of
