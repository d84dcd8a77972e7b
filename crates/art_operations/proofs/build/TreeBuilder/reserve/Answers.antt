use Rattle.std.proofs.Common.{◌∙◌, arith}
use Rattle.art_operations.proofs.Pushed.{built-same}
use Rattle.art_operations.proofs.Unmade.{around-same}
use Rattle.art_operations.proofs.build.TreeBuilder.reserve.Goals as goal

pub returns-clause-left : goal.returns-clause-left
returns-clause-left g c = λ pairs builds. record {
  built = built-same g.K.AsBytes.bytes g.row.PREFIX_LEN c.args.arena.now c.reserve.new.arena c.args.self.now.spine c.reserve.new.self c.args.self.now.last pairs c.reserve.ensures.kept c.reserve.ensures.stack c.reserve.ensures.children builds.built;
  room = c.in_ok-reserve.ensures.room;
  closed = λ none. absurd (omega (arith, none));
}

pub returns-in_err-reserve-clause-left : goal.returns-in_err-reserve-clause-left
returns-in_err-reserve-clause-left g c = λ pairs builds. record {
  built = built-same g.K.AsBytes.bytes g.row.PREFIX_LEN c.args.arena.now c.reserve.new.arena c.args.self.now.spine c.reserve.new.self c.args.self.now.last pairs c.reserve.ensures.kept c.reserve.ensures.stack c.reserve.ensures.children builds.built;
  room = c.reserve.ensures.kept_room c.args.self.now.room builds.room;
  closed = λ none. c.reserve.ensures.stack ∙ builds.closed none;
}

pub returns-clause-beside : goal.returns-clause-beside
returns-clause-beside g c = λ n room. around-same c.args.arena.now c.reserve.new.arena c.args.self.now.spine c.reserve.new.self n c.reserve.ensures.room_of c.reserve.ensures.stack c.reserve.ensures.children room

pub returns-in_err-reserve-clause-beside : goal.returns-in_err-reserve-clause-beside
returns-in_err-reserve-clause-beside g c = λ n room. around-same c.args.arena.now c.reserve.new.arena c.args.self.now.spine c.reserve.new.self n c.reserve.ensures.room_of c.reserve.ensures.stack c.reserve.ensures.children room
