use Rattle.std.proofs.Common.{◌≡◌, [], None, sym, subst, inl}
use Rattle.std.specs.Prelude.{IfErr, MatchResult}
use Rattle.art_arena.specs.arena.Arena.{KeepsRoomOf}
use Rattle.art_operations.specs.Pairs.{CanPut}
use Rattle.art_c.specs.Calls.{stored_value, whole}
use Rattle.art_c.specs.NodeRoom.{NeedsMemory, PutLeavesRoom}
use Rattle.art_c.specs.declared.code.Code.TheVariants.{NoMemory}
use Rattle.art_c.proofs.Lookups.{needs_memory, put_stored}
use Rattle.art_c.proofs.calls.changes.put.Goals as goal

pub returns-in-Ok-replace_at-clause-put : goal.returns-in-Ok-replace_at-clause-put
returns-in-Ok-replace_at-clause-put g c =
    let key = c.args.key.now in
    let place = c.in-Ok.ensures.place in
    let put = c.in-Ok-replace_at.ensures in
    put_stored key c.in-Ok-made.value _ c.args.map.now.pairs c.replace_at.new.self.pairs c.in-Ok-replace_at.was c.in-Ok-made.ensures.value c.in-Ok.ensures.placed.1 (put.value key place) (put.pairs key place) c.nodes-root.ensures.ordered

pub returns-in_default-made-clause-memory : goal.returns-in_default-made-clause-memory
returns-in_default-made-clause-memory g c = λ _. inl c.in_default-made.ensures.long

pub put_new-requires : goal.put_new-requires
put_new-requires g c =
    let key = c.args.key.now in let same = sym c.in-Err.ensures.same in
    record {
      place = subst (λ m. CanPut whole 16 m.nodes c.in-Ok.place key m.pairs []) same c.in-Ok.ensures.placed.0;
      new = subst (λ m. stored_value key m.pairs ≡ None) same (c.in-Err.ensures.value key c.in-Ok.ensures.place).0;
    }

pub returns-in-Err-clause-room : goal.returns-in-Err-clause-room
returns-in-Err-clause-room g c =
    let new = c.put_new.new.map in
    subst (λ m. MatchResult c.put_new.result (λ was. PutLeavesRoom was m new) (λ code. KeepsRoomOf m.nodes new.nodes))
    c.in-Err.ensures.same c.put_new.ensures.room

pub returns-in-Err-clause-memory : goal.returns-in-Err-clause-memory
returns-in-Err-clause-memory g c =
    let key = c.args.key.now in let text = c.args.text.now in
    let none = subst (λ m. stored_value key m.pairs ≡ None) (sym c.in-Err.ensures.same) (c.in-Err.ensures.value key c.in-Ok.ensures.place).0 in
    subst (λ m. IfErr c.put_new.result (λ code. code ≡ NoMemory → NeedsMemory key text m)) c.in-Err.ensures.same
    (needs_memory key text c.replace_at.new.self c.put_new.result none c.put_new.ensures.long)
