use Rattle.std.proofs.Common.{refl, subst, arith}
use Rattle.art_arena.proofs.Common.{key_of}
use Rattle.art_operations.proofs.Terms.{IsBlocked}
use Rattle.art_operations.proofs.HeldPairs.{memory-refused, not-blocked, place-for}
use Rattle.art_operations.proofs.pairs.insert_pair.Goals as goal

pub insert_at-requires : goal.insert_at-requires
insert_at-requires g c =
    let pairs = c.requires.0 in
    let rest = c.requires.1 in
    let has = c.requires.2 in
    (omega arith, (pairs, rest, (place-for g.K.AsBytes.bytes g.row.PREFIX_LEN rest c.args.arena.now c.in-Ok.place c.as_bytes.result.now (g.K.AsBytes.bytes c.args.key) c.as_bytes.ensures.value pairs (c.in-Ok.ensures.placed pairs rest has)).0))

pub returns-in-Ok-insert_at-clause-ok : goal.returns-in-Ok-insert_at-clause-ok
returns-in-Ok-insert_at-clause-ok g c = λ pairs rest has.
    c.in-Ok-insert_at.ensures.ok pairs rest (place-for g.K.AsBytes.bytes g.row.PREFIX_LEN rest c.args.arena.now c.in-Ok.place c.as_bytes.result.now (g.K.AsBytes.bytes c.args.key) c.as_bytes.ensures.value pairs (c.in-Ok.ensures.placed pairs rest has)).0

pub returns-in-Ok-insert_at-clause-others : goal.returns-in-Ok-insert_at-clause-others
returns-in-Ok-insert_at-clause-others g c = λ pairs rest has.
    c.in-Ok-insert_at.ensures.others pairs rest (place-for g.K.AsBytes.bytes g.row.PREFIX_LEN rest c.args.arena.now c.in-Ok.place c.as_bytes.result.now (g.K.AsBytes.bytes c.args.key) c.as_bytes.ensures.value pairs (c.in-Ok.ensures.placed pairs rest has)).0

pub returns-in-Ok-insert_at-clause-free : goal.returns-in-Ok-insert_at-clause-free
returns-in-Ok-insert_at-clause-free g c = λ pairs rest has.
    (place-for g.K.AsBytes.bytes g.row.PREFIX_LEN rest c.args.arena.now c.in-Ok.place c.as_bytes.result.now (g.K.AsBytes.bytes c.args.key) c.as_bytes.ensures.value pairs (c.in-Ok.ensures.placed pairs rest has)).1

pub returns-in-Ok-insert_at-clause-stored_room : goal.returns-in-Ok-insert_at-clause-stored_room
returns-in-Ok-insert_at-clause-stored_room g c = λ pairs rest has there.
    c.in-Ok-insert_at.ensures.stored_room pairs rest (place-for g.K.AsBytes.bytes g.row.PREFIX_LEN rest c.args.arena.now c.in-Ok.place c.as_bytes.result.now (g.K.AsBytes.bytes c.args.key) c.as_bytes.ensures.value pairs (c.in-Ok.ensures.placed pairs rest has)).0 there

pub returns-in-Err-insert_at-clause-stored : goal.returns-in-Err-insert_at-clause-stored
returns-in-Err-insert_at-clause-stored g c = λ pairs rest has there.
    c.in-Err-insert_at.ensures.stored pairs rest (place-for g.K.AsBytes.bytes g.row.PREFIX_LEN rest c.args.arena.now c.in-Ok.place c.as_bytes.result.now (g.K.AsBytes.bytes c.args.key) c.as_bytes.ensures.value pairs (c.in-Ok.ensures.placed pairs rest has)).0 there

pub returns-in-Err-clause-refused : goal.returns-in-Err-clause-refused
returns-in-Err-clause-refused g c = λ pairs rest has. (refl, refl, subst (λ k. IsBlocked (key_of g.K.AsBytes.bytes) k pairs) c.as_bytes.ensures.value (c.in-Err.ensures.placed pairs rest has))

pub returns-in-Err-clause-stored : goal.returns-in-Err-clause-stored
returns-in-Err-clause-stored g c = λ pairs rest has there.
    absurd (not-blocked g.K.AsBytes.bytes g.row.PREFIX_LEN rest c.args.arena.now c.args.root pairs has (g.K.AsBytes.bytes c.args.key) there (subst (λ k. IsBlocked (key_of g.K.AsBytes.bytes) k pairs) c.as_bytes.ensures.value (c.in-Err.ensures.placed pairs rest has)))

pub returns-in-Err-insert_at-clause-refused : goal.returns-in-Err-insert_at-clause-refused
returns-in-Err-insert_at-clause-refused g c = λ pairs rest has.
    memory-refused c.args.key c.in-Err-insert_at.refused.key c.args.value c.in-Err-insert_at.refused.value c.memory_refusal.result c.memory_refusal.ensures.0 c.memory_refusal.ensures.1 c.in-Err-insert_at.ensures.handed_back
    (place-for g.K.AsBytes.bytes g.row.PREFIX_LEN rest c.args.arena.now c.in-Ok.place c.as_bytes.result.now (g.K.AsBytes.bytes c.args.key) c.as_bytes.ensures.value pairs (c.in-Ok.ensures.placed pairs rest has)).1
