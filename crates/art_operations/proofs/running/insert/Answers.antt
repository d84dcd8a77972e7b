use Rattle.std.proofs.Common.{[], ◌∙◌, refl, sym, subst, arith}
use Rattle.art_arena.proofs.Common.{key_of}
use Rattle.art_operations.proofs.Terms.{IsBlocked, CanPut, Prefix, IsCloned}
use Rattle.art_operations.specs.declared.running.Answer.TheVariants.{Memory}
use Rattle.art_operations.proofs.Clones.{insert-clones, insert-stays}
use Rattle.art_operations.proofs.RepeatedClones.{cloned-once, cloned-keeps}
use Rattle.art_operations.proofs.running.insert.Goals as goal

pub returns-in-Err : goal.returns-in-Err
returns-in-Err g c n pairs has =
    insert-stays g.K.AsBytes.bytes (IsCloned g.K.Clone.is_clone n) (IsCloned g.V.Clone.is_clone n) (cloned-keeps g.K.Clone.is_clone g.K.AsBytes.bytes c.requires.keys n) g.row.PREFIX_LEN c.args.arena.now c.args.root pairs c.args.key.now c.args.value.now Prefix (λ ps. refl)
    (λ stored there. rw c.as_bytes.ensures.value at (c.in-Err.ensures.placed stored [] there)) has

pub insert_at_place-requires : goal.insert_at_place-requires
insert_at_place-requires g c =
    let same = c.as_bytes.ensures.value ∙ sym (c.requires.keys c.args.key.now c.in-Ok-cloned.key c.in-Ok-cloned.ensures.0) in (
      omega arith,
      (c.requires.pairs.2.0, subst (λ k. CanPut g.K.AsBytes.bytes g.row.PREFIX_LEN c.args.arena.now c.in-Ok.place k c.requires.pairs.2.0 []) same (c.in-Ok.ensures.placed c.requires.pairs.2.0 [] c.requires.pairs.2.2).0),
    )

pub returns-in-Ok-cloned : goal.returns-in-Ok-cloned
returns-in-Ok-cloned g c n pairs has =
    let same = c.as_bytes.ensures.value ∙ sym (c.requires.keys c.args.key.now c.in-Ok-cloned.key c.in-Ok-cloned.ensures.0) in
    insert-clones g.K.AsBytes.bytes (IsCloned g.K.Clone.is_clone n) (IsCloned g.V.Clone.is_clone n) (cloned-keeps g.K.Clone.is_clone g.K.AsBytes.bytes c.requires.keys n) g.row.PREFIX_LEN c.args.arena.now c.insert_at_place.new.arena c.args.root pairs
    c.args.key.now c.in-Ok-cloned.key c.args.value.now c.in-Ok-cloned.value c.insert_at_place.result (cloned-once g.K.Clone.is_clone n c.args.key.now c.in-Ok-cloned.key c.in-Ok-cloned.ensures.0) (cloned-once g.V.Clone.is_clone n c.args.value.now c.in-Ok-cloned.value c.in-Ok-cloned.ensures.1)
    (λ stored there.
    let placed = c.in-Ok.ensures.placed stored [] there in
    c.insert_at_place.ensures stored there
    (subst (λ k. CanPut g.K.AsBytes.bytes g.row.PREFIX_LEN c.args.arena.now c.in-Ok.place k stored []) same placed.0)
    (subst (λ k. IsBlocked (key_of g.K.AsBytes.bytes) k stored → ⊥) same placed.1))
    has

pub returns-in-Err-cloned : goal.returns-in-Err-cloned
returns-in-Err-cloned g c n pairs has =
    insert-stays g.K.AsBytes.bytes (IsCloned g.K.Clone.is_clone n) (IsCloned g.V.Clone.is_clone n) (cloned-keeps g.K.Clone.is_clone g.K.AsBytes.bytes c.requires.keys n) g.row.PREFIX_LEN c.args.arena.now c.args.root pairs c.args.key.now c.args.value.now Memory (λ ps. refl)
    (λ stored there. rw c.as_bytes.ensures.value at ((c.in-Ok.ensures.placed stored [] there).1)) has
