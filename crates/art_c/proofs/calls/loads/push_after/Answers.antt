use Rattle.std.proofs.Common.{subst}
use Rattle.art_bytes.specs.Keys.{AreBytes}
use Rattle.art_map.specs.Builders.{HasGathered, HasRoomLeft}
use Rattle.art_operations.specs.Builders.{IsAfterAll}
use Rattle.art_c.specs.Calls.{whole}
use Rattle.art_c.proofs.Loads.{put_room, put_so, put_told}
use Rattle.art_c.proofs.calls.loads.push_after.Goals as goal

pub returns-clause-pairs : goal.returns-clause-pairs
returns-clause-pairs g c =
    put_told c.in-Ok.key c.args.key.now c.in-Ok-made.value (g.V.Value.value_of c.args.item c.args.text.now)
    (HasGathered whole AreBytes c.args.builder.now) (HasGathered whole AreBytes c.push.new.self) c.push.result
    c.is_ok.result c.in-Ok.ensures.copy c.in-Ok-made.ensures.value c.is_ok.ensures.value c.push.ensures.ok c.push.ensures.kept

pub returns-clause-after : goal.returns-clause-after
returns-clause-after g c = λ passed pairs had.
    subst (λ k. IsAfterAll whole k pairs) c.in-Ok.ensures.copy
    (put_so c.push.result c.is_ok.result c.is_ok.ensures.value c.push.ensures.after passed pairs had)

pub returns-clause-room : goal.returns-clause-room
returns-clause-room g c =
    put_room c.push.result c.is_ok.result c.is_ok.ensures.value (HasRoomLeft c.args.builder.now) (HasRoomLeft c.push.new.self)
    c.push.ensures.room c.push.ensures.kept_room
