use Rattle.std.proofs.Common.{Some, sym, ap, subst, arith}
use Rattle.std.specs.List.{AllByRecursion}
use Rattle.art_arena.proofs.Common.{HasRoom}
use Rattle.art_operations.proofs.Common.{HasLeavesOf, HasPairs, fresh-around}
use Rattle.art_operations.proofs.Pushed.{same-leaves-names}
use Rattle.art_map.proofs.Below.{has-seen}
use Rattle.art_map.proofs.Built.{none-built}
use Rattle.art_map.proofs.Maps.{make}
use Rattle.art_map.proofs.map.TreeMap.into_tree.Goals as goal

pub returns-in_default-clause-ok : goal.returns-in_default-clause-ok
returns-in_default-clause-ok g c =
    let seen = ap (λ m. m.pairs) c.self.view_is in
    let has = subst (HasPairs g.K.AsBytes.bytes g.row.PREFIX_LEN c.self.inside.arena c.self.inside.root) seen c.self.invariant.has in (
      (none-built g.K.AsBytes.bytes g.row.PREFIX_LEN c.self.inside.arena c.new.result c.self.inside.root c.args.self.pairs c.in_default.is has c.new.ensures.last c.new.ensures.spine c.new.ensures.room).1,
      subst (AllByRecursion (λ p. g.K.AsBytes.is_key p.0)) seen c.self.invariant.keys,
    )

pub reopen-requires : goal.reopen-requires
reopen-requires g c =
    let seen = ap (λ m. m.pairs) c.self.view_is in
    let has = subst (HasPairs g.K.AsBytes.bytes g.row.PREFIX_LEN c.self.inside.arena c.self.inside.root) seen c.self.invariant.has in
    (omega arith, (c.args.self.pairs, subst (λ r. HasPairs g.K.AsBytes.bytes g.row.PREFIX_LEN c.self.inside.arena r c.args.self.pairs) c.in-Some.is has))

pub invariant_of-result : goal.invariant_of-result
invariant_of-result g c =
    let seen = ap (λ m. m.pairs) c.self.view_is in
    let has = subst (HasPairs g.K.AsBytes.bytes g.row.PREFIX_LEN c.self.inside.arena c.self.inside.root) seen c.self.invariant.has in
    make g.K.AsBytes.bytes g.K.AsBytes.is_key g.row.PREFIX_LEN c.reopen.new.arena (Some c.in-Err.node) c.args.self.pairs
    (c.in-Err.ensures.err c.args.self.pairs (subst (λ r. HasPairs g.K.AsBytes.bytes g.row.PREFIX_LEN c.self.inside.arena r c.args.self.pairs) c.in-Some.is has))
    (subst (AllByRecursion (λ p. g.K.AsBytes.is_key p.0)) seen c.self.invariant.keys)

pub returns-in-Ok-clause-ok : goal.returns-in-Ok-clause-ok
returns-in-Ok-clause-ok g c =
    let seen = ap (λ m. m.pairs) c.self.view_is in
    let has = subst (HasPairs g.K.AsBytes.bytes g.row.PREFIX_LEN c.self.inside.arena c.self.inside.root) seen c.self.invariant.has in (
      c.in-Ok.ensures.ok c.args.self.pairs (subst (λ r. HasPairs g.K.AsBytes.bytes g.row.PREFIX_LEN c.self.inside.arena r c.args.self.pairs) c.in-Some.is has),
      subst (AllByRecursion (λ p. g.K.AsBytes.is_key p.0)) seen c.self.invariant.keys,
    )

pub returns-in-Ok-clause-names : goal.returns-in-Ok-clause-names
returns-in-Ok-clause-names g c =
    subst (HasLeavesOf g.K.AsBytes.bytes c.reopen.new.arena) (ap (λ m. m.nodes) c.self.view_is) (same-leaves-names g.K.AsBytes.bytes c.self.inside.arena c.reopen.new.arena c.in-Ok.ensures.leaves)

pub returns-in-Err-clause-err : goal.returns-in-Err-clause-err
returns-in-Err-clause-err g c =
    let seen = ap (λ m. m.pairs) c.self.view_is in
    let has = subst (HasPairs g.K.AsBytes.bytes g.row.PREFIX_LEN c.self.inside.arena c.self.inside.root) seen c.self.invariant.has in
    has-seen g.K.AsBytes.bytes g.row.PREFIX_LEN c.reopen.new.arena (Some c.in-Err.node) c.args.self.pairs
    (c.in-Err.ensures.err c.args.self.pairs (subst (λ r. HasPairs g.K.AsBytes.bytes g.row.PREFIX_LEN c.self.inside.arena r c.args.self.pairs) c.in-Some.is has))

pub returns-in-Err-clause-names : goal.returns-in-Err-clause-names
returns-in-Err-clause-names g c =
    subst (HasLeavesOf g.K.AsBytes.bytes c.reopen.new.arena) (ap (λ m. m.nodes) c.self.view_is) (same-leaves-names g.K.AsBytes.bytes c.self.inside.arena c.reopen.new.arena c.in-Err.ensures.leaves)

pub returns-in_default-clause-room : goal.returns-in_default-clause-room
returns-in_default-clause-room g c = λ n room. fresh-around c.self.inside.arena c.new.result.spine n c.new.ensures.spine (subst (λ m. HasRoom m.nodes n) (sym c.self.view_is) room)

pub returns-in-Ok-clause-room : goal.returns-in-Ok-clause-room
returns-in-Ok-clause-room g c = λ n room. c.in-Ok.ensures.room n (subst (λ m. HasRoom m.nodes n) (sym c.self.view_is) room)

pub returns-in-Err-clause-room : goal.returns-in-Err-clause-room
returns-in-Err-clause-room g c = λ n room. c.in-Err.ensures.room n (subst (λ m. HasRoom m.nodes n) (sym c.self.view_is) room)
