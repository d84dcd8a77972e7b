use Rattle.std.proofs.Common.{◌+◌, MatchBool, refl, sym, subst, arith}
use Rattle.std.proofs.lemmas.Result.{on_err_weaker, on_ok_weaker}
use Rattle.art_operations.proofs.Common.{HasLeavesOf}
use Rattle.art_operations.proofs.NewNodes.{fewer as more-room}
use Rattle.art_operations.specs.Builders.{IsAfterAll}
use Rattle.art_map.proofs.Built.{has-settled, nodes-settled}
use Rattle.art_map.proofs.LeafNames.{then-names}
use Rattle.art_map.proofs.Pushed.{err-after, ok-so, told-false, told-true}
use Rattle.art_map.proofs.RoomLeft.{map-left}
use Rattle.art_map.proofs.Terms.{nodes_of}
use Rattle.art_map.proofs.map.builder.TreeMapBuilder.push_onto_map.Goals as goal
use Rattle.art_map.proofs.map.builder.TreeMapBuilder.push_onto_map.Goals.{After-ends_below}

-- whether the key goes after all
module _ (g : _) (c : After-ends_below g) where
  abbrev IsAfter : Type 0
  IsAfter = IsAfterAll g.K.AsBytes.bytes (g.K.AsBytes.bytes c.args.key) c.args.self.now.map.pairs

  told : MatchBool c.ends_below.result IsAfter (IsAfter → ⊥)
  told = subst (λ k. MatchBool c.ends_below.result (IsAfterAll g.K.AsBytes.bytes k c.args.self.now.map.pairs) (IsAfterAll g.K.AsBytes.bytes k c.args.self.now.map.pairs → ⊥)) c.as_bytes.ensures.value c.ends_below.ensures

pub returns-then-not-ends_below-clause-refused : goal.returns-then-not-ends_below-clause-refused
returns-then-not-ends_below-clause-refused g c = (refl, refl, told-false _ _ _ c.if-not-ends_below.true (told g (goal.at.returns-then-not-ends_below-clause-refused g c).After-ends_below))

pub returns-then-not-ends_below-clause-kept : goal.returns-then-not-ends_below-clause-kept
returns-then-not-ends_below-clause-kept g c = has-settled g.K.AsBytes.bytes g.K.AsBytes.is_key c.args.self.now c.args.self.now.map.pairs c.requires.settled refl

pub returns-then-not-ends_below-clause-names : goal.returns-then-not-ends_below-clause-names
returns-then-not-ends_below-clause-names g c =
    let old = c.args.self.now in
    subst (λ a. HasLeavesOf g.K.AsBytes.bytes a old.map.nodes) (sym (nodes-settled g.K.AsBytes.bytes old c.requires.settled)) (λ slot key has. has)

pub returns-then-not-ends_below-clause-room : goal.returns-then-not-ends_below-clause-room
returns-then-not-ends_below-clause-room g c = λ n room. map-left c.args.self.now n c.requires.settled (more-room c.args.self.now.map.nodes n (n + 2) (omega arith) room)

pub returns-then-not-ends_below-clause-kept_room : goal.returns-then-not-ends_below-clause-kept_room
returns-then-not-ends_below-clause-kept_room g c = λ n some room. map-left c.args.self.now n c.requires.settled room

pub returns-then-not-ends_below-clause-succeeds : goal.returns-then-not-ends_below-clause-succeeds
returns-then-not-ends_below-clause-succeeds g c = λ room following. absurd (told-false _ _ _ c.if-not-ends_below.true (told g (goal.at.returns-then-not-ends_below-clause-succeeds g c).After-ends_below) following)

pub put_last-requires : goal.put_last-requires
put_last-requires g c =
    let old = c.args.self.now in
    (omega arith, (c.requires.fits_in_memory, (old.map.pairs, c.reopen.ensures.pairs old.map.pairs refl, told-true _ _ _ c.if-not-ends_below.false (told g (goal.at.put_last-requires g c).After-ends_below))))

pub returns-clause-ok : goal.returns-clause-ok
returns-clause-ok g c = on_ok_weaker c.put_last.result (λ put. put c.args.self.now.map.pairs (c.reopen.ensures.pairs c.args.self.now.map.pairs refl)) c.put_last.ensures.ok

pub returns-clause-after : goal.returns-clause-after
returns-clause-after g c = ok-so c.put_last.result (told-true _ _ _ c.if-not-ends_below.false (told g (goal.at.returns-clause-after g c).After-ends_below))

pub returns-clause-refused : goal.returns-clause-refused
returns-clause-refused g c = err-after c.args.key c.args.value _ c.put_last.result (told-true _ _ _ c.if-not-ends_below.false (told g (goal.at.returns-clause-refused g c).After-ends_below)) c.put_last.ensures.refused

pub returns-clause-kept : goal.returns-clause-kept
returns-clause-kept g c = on_err_weaker c.put_last.result (λ kept. kept c.args.self.now.map.pairs (c.reopen.ensures.pairs c.args.self.now.map.pairs refl)) c.put_last.ensures.kept

pub returns-clause-names : goal.returns-clause-names
returns-clause-names g c = then-names g.K.AsBytes.bytes (nodes_of c.put_last.new.self) (nodes_of c.reopen.new.self) c.args.self.now.map.nodes c.put_last.ensures.names c.reopen.ensures.names

pub returns-clause-succeeds : goal.returns-clause-succeeds
returns-clause-succeeds g c = λ room following. c.put_last.ensures.succeeds (c.reopen.ensures.room 2 room)

pub returns-clause-room : goal.returns-clause-room
returns-clause-room g c = λ n room. c.put_last.ensures.room n (c.reopen.ensures.room (n + 2) room)

pub returns-clause-kept_room : goal.returns-clause-kept_room
returns-clause-kept_room g c = on_err_weaker c.put_last.result (λ kept n some room. kept n some (c.reopen.ensures.room n room)) c.put_last.ensures.kept_room
