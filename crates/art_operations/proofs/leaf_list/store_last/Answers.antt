use Rattle.std.proofs.Common.{arith}
use Rattle.art_nodes.specs.declared.kind.NodeType.TheVariants.{Leaf}
use Rattle.art_operations.proofs.Pushed.{end-held, stored-after, stored-first}
use Rattle.art_operations.proofs.leaf_list.store_last.Goals as goal

pub set_next-requires : goal.set_next-requires
set_next-requires g c =
    let r = c.requires in
    (omega arith, end-held c.args.arena.now c.store.new.arena c.args.last c.in_ok-leaf.leaf c.args.key c.args.value r.0 r.1 c.in_ok-leaf.ensures.ok c.in-Some.end c.in-Some.is)

pub returns-in_default-clause-ok : goal.returns-in_default-clause-ok
returns-in_default-clause-ok g c = λ ls to. stored-first c.args.arena.now c.store.new.arena c.args.last c.in_ok-leaf.leaf c.args.key c.args.value ls to c.in_ok-leaf.ensures.ok c.in_default.is

pub returns-clause-ok : goal.returns-clause-ok
returns-clause-ok g c = λ ls to. stored-after c.args.arena.now c.store.new.arena c.args.last c.in_ok-leaf.leaf c.args.key c.args.value ls to c.in_ok-leaf.ensures.ok c.in-Some.end c.in-Some.is c.set_next.new.arena c.set_next.ensures.links

pub returns-clause-room_of : goal.returns-clause-room_of
returns-clause-room_of g c = record {
  own = λ n room. c.set_next.ensures.room_of Leaf n (c.in_ok-leaf.ensures.room_of.own n room);
  others = λ kind other n room. c.set_next.ensures.room_of kind n (c.in_ok-leaf.ensures.room_of.others kind other n room);
}
