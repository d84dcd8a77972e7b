use Rattle.std.proofs.Common.{refl, sym, ap, subst, length, ◌∙◌, ◌+◌, ◌*◌, ◌≤◌, arith}
use Rattle.art_arena.proofs.Common.{HasRoom}
use Rattle.art_operations.proofs.NewNodes.{fewer}
use Rattle.art_map.proofs.Terms.{with_pairs_put}
use Rattle.art_map.proofs.LeafNames.{then-names}
use Rattle.art_map.proofs.RoomUsed.{none-used, put-grows, then-used}
use Rattle.art_map.proofs.map.TreeMap.put_pairs.Goals as goal

pub unreachable-requires : goal.unreachable-requires
unreachable-requires g c =
    let long = ap length c.in-Some.ensures.steps in
    let never = c.in-Err.ensures.succeeds (fewer c.loop-key.self.nodes 2 (2 * length c.loop-key.pairs) (omega (arith, long)) c.loop-key.invariant.room) in
    absurd (cc)

pub loop-key-preserved : goal.loop-key-preserved
loop-key-preserved g c =
    let long = ap length c.in-Some.ensures.steps in record {
      put = ap (with_pairs_put g.K.AsBytes.bytes c.next.new.self) c.in-Ok.ensures.pairs ∙ ap (λ ps. with_pairs_put g.K.AsBytes.bytes ps c.loop-key.self.pairs) (sym c.in-Some.ensures.steps) ∙ c.loop-key.invariant.put;
      names = then-names g.K.AsBytes.bytes c.replace_entry.new.self.nodes c.loop-key.self.nodes c.args.self.now.nodes c.in-Ok.ensures.names c.loop-key.invariant.names;
      room = c.replace_entry.ensures.room _ (subst (HasRoom c.loop-key.self.nodes) (omega (arith, long)) c.loop-key.invariant.room);
      used = then-used _ _ _ c.args.self.now.nodes c.loop-key.self.nodes c.replace_entry.new.self.nodes c.loop-key.invariant.used (record {
        more = subst (λ ps. length c.loop-key.self.pairs ≤ length ps) (sym c.in-Ok.ensures.pairs) (put-grows g.K.AsBytes.bytes c.in-Some.key c.in-Some.value c.loop-key.self.pairs c.nodes-root.ensures.ordered);
        room = c.replace_entry.ensures.leaf_room;
      });
      uses = λ n room. c.replace_entry.ensures.room _ (subst (HasRoom c.loop-key.self.nodes) (omega (arith, long)) (c.loop-key.invariant.uses n room));
    }

pub loop-key-preserved-in-Ok : goal.loop-key-preserved-in-Ok
loop-key-preserved-in-Ok g c =
    let long = ap length c.in-Some.ensures.steps in record {
      put = ap (with_pairs_put g.K.AsBytes.bytes c.next.new.self) c.in-Ok.ensures.pairs ∙ ap (λ ps. with_pairs_put g.K.AsBytes.bytes ps c.loop-key.self.pairs) (sym c.in-Some.ensures.steps) ∙ c.loop-key.invariant.put;
      names = then-names g.K.AsBytes.bytes c.replace_entry.new.self.nodes c.loop-key.self.nodes c.args.self.now.nodes c.in-Ok.ensures.names c.loop-key.invariant.names;
      room = c.replace_entry.ensures.room _ (subst (HasRoom c.loop-key.self.nodes) (omega (arith, long)) c.loop-key.invariant.room);
      used = then-used _ _ _ c.args.self.now.nodes c.loop-key.self.nodes c.replace_entry.new.self.nodes c.loop-key.invariant.used (record {
        more = subst (λ ps. length c.loop-key.self.pairs ≤ length ps) (sym c.in-Ok.ensures.pairs) (put-grows g.K.AsBytes.bytes c.in-Some.key c.in-Some.value c.loop-key.self.pairs c.nodes-root.ensures.ordered);
        room = c.replace_entry.ensures.leaf_room;
      });
      uses = λ n room. c.replace_entry.ensures.room _ (subst (HasRoom c.loop-key.self.nodes) (omega (arith, long)) (c.loop-key.invariant.uses n room));
    }

pub loop-key-init : goal.loop-key-init
loop-key-init g c = record { put = refl; names = λ slot key has. has; room = c.requires.room; used = none-used _ c.args.self.now.nodes; uses = λ n room. room }

pub returns-clause-leaf_room : goal.returns-clause-leaf_room
returns-clause-leaf_room g c = c.loop-key.invariant.used.room

pub returns-clause-room : goal.returns-clause-room
returns-clause-room g c = λ n room. fewer c.loop-key.self.nodes n (n + 2 * length c.loop-key.pairs) (omega arith) (c.loop-key.invariant.uses n room)
