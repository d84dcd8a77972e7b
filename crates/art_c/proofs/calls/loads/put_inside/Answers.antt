use Rattle.std.proofs.Common.{subst}
use Rattle.art_arena.specs.arena.Shapes.{key_of}
use Rattle.art_bytes.specs.Keys.{AreBytes}
use Rattle.art_map.specs.Builders.{HasGathered, HasRoomLeft}
use Rattle.art_operations.specs.KeyedLists.{IsBlocked}
use Rattle.art_c.specs.Calls.{whole}
use Rattle.art_c.proofs.Loads.{put_blocked, put_room, put_told}
use Rattle.art_c.proofs.calls.loads.put_inside.Goals as goal

pub returns-in_default-clause-refused : goal.returns-in_default-clause-refused
returns-in_default-clause-refused g c = λ _ pairs had room short_key short. absurd (short_key c.in_default.ensures.long)

pub returns-in_default-made-clause-refused : goal.returns-in_default-made-clause-refused
returns-in_default-made-clause-refused g c = λ _ pairs had room short_key short. absurd (short c.in_default-made.ensures.long)

pub returns-clause-pairs : goal.returns-clause-pairs
returns-clause-pairs g c =
    put_told c.in-Ok.key c.args.key.now c.in-Ok-made.value (g.V.Value.value_of c.args.item c.args.text.now)
    (HasGathered whole AreBytes c.args.builder.now) (HasGathered whole AreBytes c.try_put.new.self) c.try_put.result
    c.is_ok.result c.in-Ok.ensures.copy c.in-Ok-made.ensures.value c.is_ok.ensures.value c.try_put.ensures.ok c.try_put.ensures.kept

pub returns-clause-room : goal.returns-clause-room
returns-clause-room g c =
    put_room c.try_put.result c.is_ok.result c.is_ok.ensures.value (HasRoomLeft c.args.builder.now) (HasRoomLeft c.try_put.new.self)
    c.try_put.ensures.room c.try_put.ensures.kept_room

pub returns-clause-refused : goal.returns-clause-refused
returns-clause-refused g c = λ out pairs had room _ _.
    subst (λ k. IsBlocked (key_of whole) k pairs) c.in-Ok.ensures.copy
    (put_blocked c.try_put.result c.is_ok.result c.is_ok.ensures.value c.in-Ok.key c.in-Ok-made.value
    (HasGathered whole AreBytes c.args.builder.now) (IsBlocked (key_of whole) c.in-Ok.key) (HasRoomLeft c.args.builder.now 2)
    c.try_put.ensures.refused c.try_put.ensures.succeeds out pairs had room)
