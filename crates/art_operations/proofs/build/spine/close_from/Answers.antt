use Rattle.std.proofs.Common.{◌∙◌, arith}
use Rattle.art_operations.proofs.Spines.{begin-from}
use Rattle.art_operations.proofs.build.spine.close_from.Goals as goal

pub returns-then-begin-low-clause-closed : goal.returns-then-begin-low-clause-closed
returns-then-begin-low-clause-closed g c =
    let e = c.begin.ensures in
    let least = begin-from c.args.low c.close.spine.stack.items in
    omega (arith, e, least)

pub close_top-requires : goal.close_top-requires
close_top-requires g c =
    let r = c.requires in
    let e = c.begin.ensures in
    (omega arith, (omega (arith, e), (r.0, (r.1.0, r.1.1, c.close.invariant.stands r.0 r.1.0 r.1.1 r.1.2))))

pub close-preserved : goal.close-preserved
close-preserved g c = record {
  stands = λ rest key ls has. c.in_ok-part.ensures.ok rest key ls (c.close.invariant.stands rest key ls has);
  room = record {
    spine = λ more room. c.in_ok-part.ensures.room.spine more (c.close.invariant.room.spine more room);
    around = λ n room. c.in_ok-part.ensures.room.around n (c.close.invariant.room.around n room);
    nodes = λ more room. c.in_ok-part.ensures.room.nodes more (c.close.invariant.room.nodes more room);
    leaves = λ n room. c.in_ok-part.ensures.room.leaves n (c.close.invariant.room.leaves n room);
  };
  leaves = λ slot. c.in_ok-part.ensures.leaves slot ∙ c.close.invariant.leaves slot;
}

pub returns-in_err-part-clause-succeeds : goal.returns-in_err-part-clause-succeeds
returns-in_err-part-clause-succeeds g c = λ more room.
    let ok = c.in_err-part.ensures.succeeds more (c.close.invariant.room.spine more room) in
    absurd (cc)
