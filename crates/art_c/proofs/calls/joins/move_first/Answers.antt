use Rattle.std.proofs.Common.{◌≡◌, ◌∷◌, refl, ap, subst, ◌∙◌}
use Rattle.std.specs.Prelude.{[], MatchOption}
use Rattle.art_arena.proofs.Common.{key_of}
use Rattle.art_map.proofs.RoomKept.{kinds-kept, then-uses}
use Rattle.art_operations.proofs.Common.{IsBlocked, with_pair_put}
use Rattle.art_c.specs.Calls.{whole}
use Rattle.art_c.specs.declared.code.Code.TheVariants.{Conflict, NoMemory}
use Rattle.art_c.proofs.Joins.{first-leaves, first-stays}
use Rattle.art_c.proofs.calls.joins.move_first.Goals as goal

pub returns-in_default-find_place-clause-moves : goal.returns-in_default-find_place-clause-moves
returns-in_default-find_place-clause-moves g c = (
  first-stays c.args.other.now.pairs c.args.map.now.pairs (c.in-Some.key.now, c.in-Some._value.now) Conflict c.in-Some.ensures
      (c.in_default-find_place.ensures.placed, refl),
  refl,
  refl,
)

pub returns-in_default-reserve-clause-moves : goal.returns-in_default-reserve-clause-moves
returns-in_default-reserve-clause-moves g c = (
  first-stays c.args.other.now.pairs c.args.map.now.pairs (c.in-Some.key.now, c.in-Some._value.now) NoMemory c.in-Some.ensures
      (c.in-Ok.ensures.placed.1, refl),
  refl,
  c.reserve.ensures.pairs,
)

pub unreachable-requires : goal.unreachable-requires
unreachable-requires g c =
    let left = subst (λ o. MatchOption o (c.args.other.now.pairs ≡ []) (λ pair. c.args.other.now.pairs ≡ pair ∷ c.pop_first.new.self.pairs))
    c.in-Ok-Some.field-0-is c.in-Ok-Some.ensures.value in
    let same = first-leaves c.args.other.now.pairs c.pop_first.new.self.pairs (c.in-Some.key.now, c.in-Some._value.now)
    (c.in-Ok-Some.key, c.in-Ok-Some.value) c.in-Some.ensures left in
    c.in-Ok.ensures.placed.1
    (subst (λ k. IsBlocked (key_of whole) k c.args.map.now.pairs) same
    (subst (IsBlocked (key_of whole) c.in-Ok-Some.key) c.reserve.ensures.pairs (c.in-Err-try_insert.ensures.succeeds c.in-Ok-reserve.ensures.room)))

pub returns-in-Ok-try_insert-clause-moves : goal.returns-in-Ok-try_insert-clause-moves
returns-in-Ok-try_insert-clause-moves g c = (
  (c.in-Ok-Some.key, c.in-Ok-Some.value),
  subst (λ o. MatchOption o (c.args.other.now.pairs ≡ []) (λ pair. c.args.other.now.pairs ≡ pair ∷ c.pop_first.new.self.pairs))
      c.in-Ok-Some.field-0-is c.in-Ok-Some.ensures.value,
  c.in-Ok-try_insert.ensures.pairs ∙ ap (with_pair_put whole c.in-Ok-Some.key c.in-Ok-Some.value) c.reserve.ensures.pairs,
)

pub returns-in-Err-clause-moves : goal.returns-in-Err-clause-moves
returns-in-Err-clause-moves g c = (
  first-stays c.args.other.now.pairs c.args.map.now.pairs (c.in-Some.key.now, c.in-Some._value.now) NoMemory c.in-Some.ensures
      (c.in-Ok.ensures.placed.1, refl),
  c.in-Err.ensures.err,
  c.reserve.ensures.pairs,
)

pub returns-in_default-reserve-clause-room : goal.returns-in_default-reserve-clause-room
returns-in_default-reserve-clause-room g c =
    (kinds-kept c.args.map.now.nodes c.reserve.new.self.nodes c.reserve.ensures.kept.2, λ n room. room)

pub returns-in-Ok-try_insert-clause-room : goal.returns-in-Ok-try_insert-clause-room
returns-in-Ok-try_insert-clause-room g c = (
  then-uses c.args.map.now.nodes c.reserve.new.self.nodes c.try_insert.new.self.nodes 2 c.reserve.ensures.kept.2 c.try_insert.ensures.room,
  c.pop_first.ensures.room,
)

pub returns-in-Err-clause-room : goal.returns-in-Err-clause-room
returns-in-Err-clause-room g c = (
  kinds-kept c.args.map.now.nodes c.reserve.new.self.nodes c.reserve.ensures.kept.2,
  kinds-kept c.args.other.now.nodes c.pop_first.new.self.nodes c.in-Err.ensures.kept.2,
)
