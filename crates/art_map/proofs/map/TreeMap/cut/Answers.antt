use Rattle.std.proofs.Common.{arith, ◌≡◌, ℕ, List, length, Some, sym, subst}
use Rattle.std.proofs.Math.Logic.{∥∥₁_map}
use Rattle.art_arena.proofs.Common.{key_of, steps_of, with_front, without_front}
use Rattle.art_operations.proofs.KnownRooms.{known-room}
use Rattle.art_map.proofs.Terms.{pairs_from, cut_visits, IsReadyPart}
use Rattle.art_map.proofs.LeafNames.{names-between}
use Rattle.art_map.proofs.PrefixBlocks.{cut-count, cut-left, cut-map, cut-visits, place-there}
use Rattle.art_map.proofs.map.TreeMap.cut.Goals as goal

pub apply-cut-requires : goal.apply-cut-requires
apply-cut-requires g c =
    let r = subst (λ m. (front : List ℕ) × ∥ IsReadyPart g.K.AsBytes.bytes g.row.PREFIX_LEN m front (Some c.args.ready) ∥₁) (sym c.self.view_is) c.requires in (
      omega arith,
      (
        place-there g.K.AsBytes.bytes g.row.PREFIX_LEN r.0 g.K.AsBytes.is_key c.self.inside.arena c.self.inside.root c.self.invariant c.args.ready.point (∥∥₁_map r.1 (λ ready. ready.0)),
        known-room c.self.inside.arena (steps_of c.args.ready.point.path) (∥∥₁_map r.1 (λ ready. ready.1)),
      ),
    )

pub invariant_of-self : goal.invariant_of-self
invariant_of-self g c =
    let r = subst (λ m. (front : List ℕ) × ∥ IsReadyPart g.K.AsBytes.bytes g.row.PREFIX_LEN m front (Some c.args.ready) ∥₁) (sym c.self.view_is) c.requires in
    cut-map g.K.AsBytes.bytes g.row.PREFIX_LEN r.0 g.K.AsBytes.is_key c.self.inside.arena c.self.inside.root c.self.invariant c.args.ready.point (∥∥₁_map r.1 (λ ready. ready.0)) c.apply-cut.new.arena c.apply-cut.result c.apply-cut.ensures.cut

pub returns-clause-pairs : goal.returns-clause-pairs
returns-clause-pairs g c =
    subst
    (λ m. (front : List ℕ) → ∥ IsReadyPart g.K.AsBytes.bytes g.row.PREFIX_LEN m front (Some c.args.ready) ∥₁ → pairs_from c.apply-cut.new.arena c.apply-cut.result.new_root ≡ without_front (key_of g.K.AsBytes.bytes) front m.pairs)
    c.self.view_is
    (λ front known. cut-left g.K.AsBytes.bytes g.row.PREFIX_LEN front g.K.AsBytes.is_key c.self.inside.arena c.self.inside.root c.self.invariant c.args.ready.point (∥∥₁_map known (λ ready. ready.0)) c.apply-cut.new.arena c.apply-cut.result c.apply-cut.ensures.cut)

pub returns-clause-count : goal.returns-clause-count
returns-clause-count g c =
    subst (λ m. (front : List ℕ) → ∥ IsReadyPart g.K.AsBytes.bytes g.row.PREFIX_LEN m front (Some c.args.ready) ∥₁ → c.apply-cut.result.leafs_removed ≡ length (with_front (key_of g.K.AsBytes.bytes) front m.pairs)) c.self.view_is
    (λ front known. cut-count g.K.AsBytes.bytes g.row.PREFIX_LEN front g.K.AsBytes.is_key c.self.inside.arena c.self.inside.root c.self.invariant c.args.ready.point (∥∥₁_map known (λ ready. ready.0)) c.apply-cut.new.arena c.apply-cut.result c.apply-cut.ensures.cut)

pub returns-clause-visits : goal.returns-clause-visits
returns-clause-visits g c =
    subst (λ m. (front : List ℕ) → ∥ IsReadyPart g.K.AsBytes.bytes g.row.PREFIX_LEN m front (Some c.args.ready) ∥₁ → c.saturating_add.result ≡ cut_visits g.K.AsBytes.bytes front m.pairs c.args.visits) c.self.view_is
    (λ front known. cut-visits g.K.AsBytes.bytes g.row.PREFIX_LEN front g.K.AsBytes.is_key c.self.inside.arena c.self.inside.root c.self.invariant
    c.args.ready.point (∥∥₁_map known (λ ready. ready.0)) c.apply-cut.new.arena c.apply-cut.result c.apply-cut.ensures.cut c.args.visits
    c.saturating_add.result c.saturating_add.ensures)

pub returns-clause-names : goal.returns-clause-names
returns-clause-names g c =
    rw (← c.self.view_is) (names-between g.K.AsBytes.bytes g.row.PREFIX_LEN g.K.AsBytes.is_key c.self.inside.arena c.apply-cut.new.arena c.self.inside.root c.apply-cut.result.new_root c.self.invariant (invariant_of-self g c) c.apply-cut.ensures.names)

pub returns-clause-room : goal.returns-clause-room
returns-clause-room g c = rw (← c.self.view_is) c.apply-cut.ensures.room

pub returns-clause-leaf_room : goal.returns-clause-leaf_room
returns-clause-leaf_room g c = rw (← c.self.view_is) c.apply-cut.ensures.leaf_room
