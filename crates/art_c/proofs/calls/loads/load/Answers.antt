use Rattle.std.proofs.Common.{◌+◌, ◌*◌, suc, subst, sym, arith}
use Rattle.art_arena.specs.arena.Arena.{HasRoom}
use Rattle.art_bytes.specs.Keys.{AreBytes}
use Rattle.art_map.specs.Builders.{HasGathered}
use Rattle.art_c.specs.Calls.{IsPutRefused, whole}
use Rattle.art_c.specs.Loads.{IsLoaded}
use Rattle.art_c.proofs.calls.loads.load.Goals as goal

pub finish-requires : goal.finish-requires
finish-requires g c =
    let had = subst (λ m. HasGathered whole AreBytes c.from_map-builder.result m.pairs) c.replace.ensures.value c.from_map-builder.ensures.pairs in
    let r = c.put_rising-ended.ensures.loaded c.args.map.now.pairs had in
    (omega arith, (omega arith, (omega arith, (r.0, r.1))))

pub returns-in-Ok : goal.returns-in-Ok
returns-in-Ok g c =
    let had = subst (λ m. HasGathered whole AreBytes c.from_map-builder.result m.pairs) c.replace.ensures.value c.from_map-builder.ensures.pairs in
    let r = c.in-Ok.ensures.loaded c.args.map.now.pairs had in (
      subst (λ ps. IsLoaded g.V.Value.text_of g.V.Value.item_of g.V.Value.key_len_of g.V.Value.text_len_of c.args.bytes.now c.args.items.now c.args.map.now.pairs c.args.taken.now c.in-Ok.code ps c.put_rising-ended.new.taken)
          (sym (c.finish.ensures.pairs r.0 r.1)) r.2,
      λ n one has.
          let had_room = subst (λ m. HasRoom m.nodes (n + 2 * c.put_rising-ended.new.taken)) (sym c.replace.ensures.value) has in
          c.finish.ensures.room n (c.in-Ok.ensures.room n one (c.from_map-builder.ensures.room _ had_room)),
      λ is room short. c.in-Ok.ensures.ended is,
    )

pub returns-in-Err : goal.returns-in-Err
returns-in-Err g c =
    let had = subst (λ m. HasGathered whole AreBytes c.from_map-builder.result m.pairs) c.replace.ensures.value c.from_map-builder.ensures.pairs in
    let r = c.in-Err.ensures.loaded c.args.map.now.pairs had in
    let same = c.finish.ensures.pairs r.0 r.1 in
    let why = subst (λ ps. IsPutRefused c.in-Err.key.now ps c.refusal.result ps) same c.refusal.ensures in (
      subst (λ ps. IsLoaded g.V.Value.text_of g.V.Value.item_of g.V.Value.key_len_of g.V.Value.text_len_of c.args.bytes.now c.args.items.now c.args.map.now.pairs c.args.taken.now c.refusal.result ps c.put_rising-ended.new.taken)
          (sym same) (r.2.0 c.refusal.result why),
      λ n one has.
          let had_room = subst (λ m. HasRoom m.nodes (n + 2 * c.put_rising-ended.new.taken)) (sym c.replace.ensures.value) has in
          c.finish.ensures.room n (c.in-Err.ensures.room n one (c.from_map-builder.ensures.room _ had_room)),
      λ is room short.
          let had_room = subst (λ m. HasRoom m.nodes (2 * suc c.put_rising-ended.new.taken)) (sym c.replace.ensures.value) room in
          (subst (λ code. IsPutRefused c.in-Err.key.now r.0 code r.0) is why).0
          (r.2.1 (c.from_map-builder.ensures.room _ had_room) short),
    )
