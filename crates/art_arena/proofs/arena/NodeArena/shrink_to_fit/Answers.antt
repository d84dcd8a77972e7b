use Rattle.std.proofs.Common.{lit<}
use Rattle.art_arena.proofs.Terms.{Arena}
use Rattle.art_arena.proofs.shapes.TrimmedArenas.{all-trimmed, no-more-room}
use Rattle.art_arena.proofs.shapes.UnusedRooms.{no_unused, unused}
use Rattle.art_arena.proofs.arena.NodeArena.shrink_to_fit.Goals as goal

pub returns-clause-no_more : goal.returns-clause-no_more
returns-clause-no_more g c =
    let a = c.self.inside in
    let old : Arena g.row.K.Denot g.row.V.Denot = record { leaves = a.leaves; nodes4 = a.nodes4; nodes16 = a.nodes16; nodes32 = a.nodes32; nodes48 = a.nodes48; nodes256 = a.nodes256 } in
    let new : Arena g.row.K.Denot g.row.V.Denot = record {
      leaves = c.shrink_to_fit.new.self;
      nodes4 = c.shrink_to_fit-2.new.self;
      nodes16 = c.shrink_to_fit-3.new.self;
      nodes32 = c.shrink_to_fit-4.new.self;
      nodes48 = c.shrink_to_fit-5.new.self;
      nodes256 = c.shrink_to_fit-6.new.self;
    } in
    rw (← c.self.view_is)
    (no-more-room old new c.shrink_to_fit.ensures.capacity c.shrink_to_fit-2.ensures.capacity c.shrink_to_fit-3.ensures.capacity c.shrink_to_fit-4.ensures.capacity c.shrink_to_fit-5.ensures.capacity c.shrink_to_fit-6.ensures.capacity)

pub returns-clause-trimmed : goal.returns-clause-trimmed
returns-clause-trimmed g c = λ fits.
    let new : Arena g.row.K.Denot g.row.V.Denot = record {
      leaves = c.shrink_to_fit.new.self;
      nodes4 = c.shrink_to_fit-2.new.self;
      nodes16 = c.shrink_to_fit-3.new.self;
      nodes32 = c.shrink_to_fit-4.new.self;
      nodes48 = c.shrink_to_fit-5.new.self;
      nodes256 = c.shrink_to_fit-6.new.self;
    } in
    all-trimmed new (c.shrink_to_fit.ensures.trimmed (lit< tt)) (c.shrink_to_fit-2.ensures.trimmed fits) (c.shrink_to_fit-3.ensures.trimmed fits) (c.shrink_to_fit-4.ensures.trimmed fits) (c.shrink_to_fit-5.ensures.trimmed fits) (c.shrink_to_fit-6.ensures.trimmed fits)

pub returns-clause-frees : goal.returns-clause-frees
returns-clause-frees g c =
    let a = c.self.inside in
    let l = c.shrink_to_fit in
    let n4 = c.shrink_to_fit-2 in
    let n16 = c.shrink_to_fit-3 in
    let n32 = c.shrink_to_fit-4 in
    let n48 = c.shrink_to_fit-5 in
    let n256 = c.shrink_to_fit-6 in
    let new : Arena g.row.K.Denot g.row.V.Denot = record { leaves = l.new.self; nodes4 = n4.new.self; nodes16 = n16.new.self; nodes32 = n32.new.self; nodes48 = n48.new.self; nodes256 = n256.new.self } in
    no_unused new (unused a.leaves l.new.self l.ensures.values l.ensures.frees) (unused a.nodes4 n4.new.self n4.ensures.values n4.ensures.frees) (unused a.nodes16 n16.new.self n16.ensures.values n16.ensures.frees)
    (unused a.nodes32 n32.new.self n32.ensures.values n32.ensures.frees) (unused a.nodes48 n48.new.self n48.ensures.values n48.ensures.frees) (unused a.nodes256 n256.new.self n256.ensures.values n256.ensures.frees)
