use Rattle.std.proofs.Common.{[], ◌-◌, Some, refl, subst, ap, sym, arith}
use Rattle.art_arena.proofs.Common.{leaf_name}
use Rattle.art_operations.proofs.Terms.{HasPairs, HasSpineRoom, begin_of}
use Rattle.art_operations.proofs.Building.{builds-none, builds-some, finished, none-held, spine-of}
use Rattle.art_operations.proofs.Results.{never}
use Rattle.art_operations.proofs.Unmade.{around-room}
use Rattle.art_operations.proofs.build.TreeBuilder.finish.Goals as goal

pub returns-then-self-eq0-clause-tree : goal.returns-then-self-eq0-clause-tree
returns-then-self-eq0-clause-tree g c = λ pairs builds.
    let is = builds-some g.K.AsBytes.bytes g.row.PREFIX_LEN c.args.arena.now c.args.self pairs builds c.in-Some.last c.in-Some.is in
    subst (λ n. HasPairs g.K.AsBytes.bytes g.row.PREFIX_LEN c.args.arena.now (Some n) pairs) (sym c.to_opaque.ensures)
    (finished g.K.AsBytes.bytes g.row.PREFIX_LEN c.args.arena.now c.args.self.spine c.in-Some.last pairs is c.args.arena.now c.args.self.spine (leaf_name c.in-Some.last)
    (spine-of g.K.AsBytes.bytes g.row.PREFIX_LEN c.args.arena.now c.args.self.spine c.in-Some.last pairs is 0) (ap (begin_of 0) (builds.closed c.if-self-eq0.true)) (λ n. refl))

pub close-requires : goal.close-requires
close-requires g c =
    let r = c.requires in
    let is = builds-some g.K.AsBytes.bytes g.row.PREFIX_LEN c.args.arena.now c.args.self r.0 r.1 c.in-Some.last c.in-Some.is in
    (omega arith, ([], (_, _, spine-of g.K.AsBytes.bytes g.row.PREFIX_LEN c.args.arena.now c.args.self.spine c.in-Some.last r.0 is 0)))

pub unreachable-requires : goal.unreachable-requires
unreachable-requires g c =
    let r = c.requires in
    let some = c.if-self-eq0.false in
    never c.close.result (c.close.ensures.succeeds (c.args.self.room - 1) (subst (HasSpineRoom c.args.arena.now c.args.self.spine) (omega (arith, some)) r.1.room)) (λ x e. c.in_default-close.not-Ok x e)

pub returns-clause-tree : goal.returns-clause-tree
returns-clause-tree g c = λ pairs builds.
    let is = builds-some g.K.AsBytes.bytes g.row.PREFIX_LEN c.args.arena.now c.args.self pairs builds c.in-Some.last c.in-Some.is in
    finished g.K.AsBytes.bytes g.row.PREFIX_LEN c.args.arena.now c.args.self.spine c.in-Some.last pairs is c.close.new.arena c.close.new.spine c.in-Ok.root
    (c.in-Ok.ensures.ok [] _ _ (spine-of g.K.AsBytes.bytes g.row.PREFIX_LEN c.args.arena.now c.args.self.spine c.in-Some.last pairs is 0)) c.in-Ok.ensures.closed c.in-Ok.ensures.leaves

pub returns-in_default-clause-tree : goal.returns-in_default-clause-tree
returns-in_default-clause-tree g c = λ pairs builds. none-held g.K.AsBytes.bytes g.row.PREFIX_LEN c.args.arena.now c.args.self.spine pairs (builds-none g.K.AsBytes.bytes g.row.PREFIX_LEN c.args.arena.now c.args.self pairs builds c.in_default.is)

pub returns-in_default-clause-room : goal.returns-in_default-clause-room
returns-in_default-clause-room g c = around-room c.args.arena.now c.args.self.spine

pub returns-then-self-eq0-clause-room : goal.returns-then-self-eq0-clause-room
returns-then-self-eq0-clause-room g c = around-room c.args.arena.now c.args.self.spine

pub returns-clause-room : goal.returns-clause-room
returns-clause-room g c = λ n room. around-room c.close.new.arena c.close.new.spine n (c.in-Ok.ensures.room.around n room)
