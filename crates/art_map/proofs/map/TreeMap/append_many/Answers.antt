use Rattle.std.proofs.Common.{◌*◌, ◌+◌, ◌-◌, length, sym, ap₂, subst, ◌∙◌, arith}
use Rattle.std.proofs.lemmas.Result.{on_err_weaker, on_ok_weaker}
use Rattle.art_arena.proofs.Common.{HasRoom}
use Rattle.art_arena.specs.arena.Arena.{UsesRoom}
use Rattle.art_operations.proofs.Common.{same-names}
use Rattle.art_map.proofs.RoomKept.{kinds-kept, then-uses}
use Rattle.art_map.proofs.RoomUsed.{kept-then, still-untouched, uses-more}
use Rattle.art_map.proofs.Terms.{with_pairs_put}
use Rattle.art_map.specs.Room.{UsesLeafRoom}
use Rattle.art_map.proofs.map.TreeMap.append_many.Goals as goal

pub append_by_search-requires : goal.append_by_search-requires
append_by_search-requires g c = (omega arith, c.requires.fits)

pub returns-in-Ok-clause-room : goal.returns-in-Ok-clause-room
returns-in-Ok-clause-room g c =
    let many = c.requires.many in
    uses-more (length c.args.self.now.pairs - 1 + 2 * length c.args.other.now.pairs) (4 * length c.args.other.now.pairs) c.args.self.now.nodes c.append_at_once.new.self.nodes (omega (arith, many)) c.in-Ok.ensures.room

pub returns-in-Err-clause-pairs : goal.returns-in-Err-clause-pairs
returns-in-Err-clause-pairs g c =
    on_ok_weaker c.append_by_search.result (λ e. e ∙ ap₂ (with_pairs_put g.K.AsBytes.bytes) c.in-Err.ensures.err.1 c.in-Err.ensures.err.0) c.append_by_search.ensures.pairs

pub returns-in-Err-clause-names : goal.returns-in-Err-clause-names
returns-in-Err-clause-names g c =
    on_ok_weaker c.append_by_search.result (λ names slot key has. names slot key (same-names g.K.AsBytes.bytes c.args.self.now.nodes c.append_at_once.new.self.nodes c.in-Err.ensures.kept.0.0 slot key has)) c.append_by_search.ensures.names

pub returns-in-Err-clause-err : goal.returns-in-Err-clause-err
returns-in-Err-clause-err g c =
    on_err_weaker c.append_by_search.result (λ same. (same.0 ∙ c.in-Err.ensures.err.0, same.1 ∙ c.in-Err.ensures.err.1)) c.append_by_search.ensures.err

pub returns-in-Err-clause-kept : goal.returns-in-Err-clause-kept
returns-in-Err-clause-kept g c =
    on_err_weaker c.append_by_search.result
    (λ kept.
    (still-untouched c.args.self.now c.append_at_once.new.self c.append_by_search.new.self c.in-Err.ensures.kept.0 kept.0, still-untouched c.args.other.now c.append_at_once.new.other c.append_by_search.new.other c.in-Err.ensures.kept.1 kept.1))
    c.append_by_search.ensures.kept

pub returns-in-Err-clause-succeeds : goal.returns-in-Err-clause-succeeds
returns-in-Err-clause-succeeds g c = λ room.
    c.append_by_search.ensures.succeeds
    (subst (λ ps. HasRoom c.append_at_once.new.self.nodes (2 * length ps)) (sym c.in-Err.ensures.err.1) (kinds-kept c.args.self.now.nodes c.append_at_once.new.self.nodes c.in-Err.ensures.kept.0.2 _ room))

pub returns-in-Err-clause-leaf_room : goal.returns-in-Err-clause-leaf_room
returns-in-Err-clause-leaf_room g c =
    on_ok_weaker c.append_by_search.result
    (λ uses.
    kept-then c.args.self.now.nodes c.append_at_once.new.self.nodes c.append_by_search.new.self.nodes _ c.in-Err.ensures.kept.0.2
    (subst (λ ps. UsesLeafRoom (length c.append_by_search.new.self.pairs - length ps) c.append_at_once.new.self.nodes c.append_by_search.new.self.nodes) c.in-Err.ensures.err.0 uses))
    c.append_by_search.ensures.leaf_room

pub returns-in-Err-clause-room : goal.returns-in-Err-clause-room
returns-in-Err-clause-room g c =
    on_ok_weaker c.append_by_search.result
    (λ uses.
    uses-more (2 * length c.args.other.now.pairs) (4 * length c.args.other.now.pairs) c.args.self.now.nodes c.append_by_search.new.self.nodes (omega arith)
    (then-uses c.args.self.now.nodes c.append_at_once.new.self.nodes c.append_by_search.new.self.nodes _ c.in-Err.ensures.kept.0.2
    (subst (λ ps. UsesRoom (2 * length ps) c.append_at_once.new.self.nodes c.append_by_search.new.self.nodes) c.in-Err.ensures.err.1 uses)))
    c.append_by_search.ensures.room
