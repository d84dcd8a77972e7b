use Rattle.std.proofs.Common.{refl, sym, ◌∙◌, lit<, arith}
use Rattle.art_nodes.proofs.Common.{is_true-eq}
use Rattle.art_operations.proofs.FreedRuns.{run-held, run-less, run-over, run-next, run-goes-on, run-end}
use Rattle.art_operations.proofs.deallocate.free_run.Goals as goal

pub run-init : goal.run-init
run-init g c = record {
  left = λ ls rest run. record { left = ls; run = run; names = λ n. omega arith; kept = λ n none. refl };
  room_of = λ kind n room. room;
  capacity = refl;
}

pub deallocate_node_ptr-leaf-requires : goal.deallocate_node_ptr-leaf-requires
deallocate_node_ptr-leaf-requires g c =
    let r = c.requires in
    let left = c.run.invariant.left r.0 r.1 r.2 in
    (lit< tt, run-held c.run.arena c.run.current c.args.last left.left r.1 left.run)

pub returns-then-eq-clause-freed : goal.returns-then-eq-clause-freed
returns-then-eq-clause-freed g c = λ ls rest run.
    let left = c.run.invariant.left ls rest run in
    run-over c.run.arena c.deallocate_node_ptr-leaf.new.self c.run.current c.args.last left.left rest left.run c.deallocate_node_ptr-leaf.result
    (c.deallocate_node_ptr-leaf.ensures.value) c.deallocate_node_ptr-leaf.ensures.updates
    ((is_true-eq c.run.current c.args.last).0 (sym c.eq.ensures ∙ c.if-eq.true))

pub returns-then-eq-clause-kept : goal.returns-then-eq-clause-kept
returns-then-eq-clause-kept g c = λ ls rest run.
    let left = c.run.invariant.left ls rest run in
    run-end c.run.arena c.deallocate_node_ptr-leaf.new.self c.run.current c.args.last left.left rest left.run c.deallocate_node_ptr-leaf.result (c.deallocate_node_ptr-leaf.ensures.value) c.deallocate_node_ptr-leaf.ensures.updates ls c.args.arena.now left.names left.kept

pub returns-then-eq-clause-room_of : goal.returns-then-eq-clause-room_of
returns-then-eq-clause-room_of g c = λ kind n room. c.deallocate_node_ptr-leaf.ensures.room_of kind n (c.run.invariant.room_of kind n room)

pub returns-then-eq-clause-capacity : goal.returns-then-eq-clause-capacity
returns-then-eq-clause-capacity g c = c.deallocate_node_ptr-leaf.ensures.capacity ∙ c.run.invariant.capacity

pub unreachable-requires : goal.unreachable-requires
unreachable-requires g c =
    let r = c.requires in
    let left = c.run.invariant.left r.0 r.1 r.2 in
    run-goes-on c.run.arena c.deallocate_node_ptr-leaf.new.self c.run.current c.args.last left.left r.1 left.run c.deallocate_node_ptr-leaf.result
    (c.deallocate_node_ptr-leaf.ensures.value) c.deallocate_node_ptr-leaf.ensures.updates
    (λ e. let h = sym c.if-eq.false ∙ c.eq.ensures ∙ (is_true-eq c.run.current c.args.last).1 e in absurd (cc)) (sym c.next.ensures ∙ c.in-None.is)

pub run-smaller : goal.run-smaller
run-smaller g c =
    let r = c.requires in
    let left = c.run.invariant.left r.0 r.1 r.2 in
    run-less c.run.arena c.deallocate_node_ptr-leaf.new.self c.run.current c.args.last left.left r.1 left.run c.deallocate_node_ptr-leaf.result (c.deallocate_node_ptr-leaf.ensures.value) c.deallocate_node_ptr-leaf.ensures.updates

pub run-preserved : goal.run-preserved
run-preserved g c = record {
  left = λ ls rest run.
      let left = c.run.invariant.left ls rest run in
      run-next c.run.arena c.deallocate_node_ptr-leaf.new.self c.run.current c.args.last left.left rest left.run c.deallocate_node_ptr-leaf.result
      (c.deallocate_node_ptr-leaf.ensures.value) c.deallocate_node_ptr-leaf.ensures.updates ls c.args.arena.now
      (λ e. let h = sym c.if-eq.false ∙ c.eq.ensures ∙ (is_true-eq c.run.current c.args.last).1 e in absurd (cc)) left.names left.kept c.in-Some.next
      (sym c.next.ensures ∙ c.in-Some.is);
  room_of = λ kind n room. c.deallocate_node_ptr-leaf.ensures.room_of kind n (c.run.invariant.room_of kind n room);
  capacity = c.deallocate_node_ptr-leaf.ensures.capacity ∙ c.run.invariant.capacity;
}
