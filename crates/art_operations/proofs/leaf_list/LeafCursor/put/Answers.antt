use Rattle.std.proofs.Common.{◌+◌, ◌++◌, List, None, Some, refl, sym, subst, arith}
use Rattle.art_arena.proofs.Common.{key_of}
use Rattle.art_nodes.specs.declared.kind.NodeType.TheVariants.{Leaf}
use Rattle.art_operations.proofs.Terms.{HasKey, HasPassed, StandsAtPlace, StandsBelow}
use Rattle.art_operations.proofs.KeyedLists.{stored-free}
use Rattle.art_operations.proofs.LeafListsPut.{found-after, found-key, kept-names, none-has, put-inserted, put-replaced, replaced-names, still-at}
use Rattle.art_operations.proofs.leaf_list.LeafCursor.put.Goals as goal
use Rattle.art_operations.proofs.leaf_list.LeafCursor.put.Goals.{In-None}

pub pass-requires : goal.pass-requires
pass-requires g c =
    let among = c.requires.1.among in
    (omega arith, (among.front, among.back, among.stands))

pub replace-requires : goal.replace-requires
replace-requires g c =
    let among = c.requires.1.among in
    let pass = c.in-Some.ensures.passed among.front among.back among.stands in
    (omega arith, ((among.front ++ pass.passed, pass.rest, pass.stands), found-after g.K.AsBytes.bytes c.args.arena.now c.pass.new.self c.as_bytes.result.now c.in-Some.leaf among.front among.back pass))

pub returns-in-Some-clause-ok : goal.returns-in-Some-clause-ok
returns-in-Some-clause-ok g c = λ pairs below free.
    let among = below.among in
    let pass = subst (λ b. HasPassed g.K.AsBytes.bytes b c.args.arena.now c.pass.new.self (Some c.in-Some.leaf) among.front among.back) c.as_bytes.ensures.value (c.in-Some.ensures.passed among.front among.back among.stands) in
    put-replaced g.K.AsBytes.bytes c.args.arena.now c.args.self.now c.pass.new.self (g.K.AsBytes.bytes c.args.key) pairs among below.passed free (Some c.in-Some.leaf) pass
    c.replace.new.arena c.replace.new.self c.args.key c.args.value refl c.in-Some.leaf refl c.replace.result (c.replace.ensures.replaced (among.front ++ pass.passed) pass.rest pass.stands)

pub returns-in-Some-clause-names : goal.returns-in-Some-clause-names
returns-in-Some-clause-names g c =
    let among = c.requires.1.among in
    let pass = subst (λ b. HasPassed g.K.AsBytes.bytes b c.args.arena.now c.pass.new.self (Some c.in-Some.leaf) among.front among.back) c.as_bytes.ensures.value (c.in-Some.ensures.passed among.front among.back among.stands) in
    let has = c.replace.ensures.replaced (among.front ++ pass.passed) pass.rest pass.stands in
    replaced-names g.K.AsBytes.bytes c.args.arena.now c.replace.new.arena c.in-Some.leaf c.args.key c.args.value c.replace.result c.replace.ensures.was c.replace.ensures.updates
    (found-key g.K.AsBytes.bytes (g.K.AsBytes.bytes c.args.key) c.in-Some.leaf pass.rest c.replace.result has.rest has.had pass.stops)

pub insert-requires : goal.insert-requires
insert-requires g c =
    let among = c.requires.1.among in
    let pass = c.in-None.ensures.passed among.front among.back among.stands in
    (omega arith, (among.front ++ pass.passed, pass.rest, pass.stands))

pub returns-in-Ok-clause-ok : goal.returns-in-Ok-clause-ok
returns-in-Ok-clause-ok g c = λ pairs below free.
    let among = below.among in
    let pass = subst (λ b. HasPassed g.K.AsBytes.bytes b c.args.arena.now c.pass.new.self None among.front among.back) c.as_bytes.ensures.value (c.in-None.ensures.passed among.front among.back among.stands) in
    put-inserted g.K.AsBytes.bytes c.args.arena.now c.args.self.now c.pass.new.self (g.K.AsBytes.bytes c.args.key) pairs among below.passed free None pass
    c.insert.new.arena c.insert.new.self c.args.key c.args.value refl refl (c.in-Ok.ensures.ok (among.front ++ pass.passed) pass.rest pass.stands)

pub returns-in-Ok-clause-names : goal.returns-in-Ok-clause-names
returns-in-Ok-clause-names g c = kept-names g.K.AsBytes.bytes c.args.arena.now c.insert.new.arena c.in-Ok.ensures.kept

pub returns-in-Some-clause-room_of : goal.returns-in-Some-clause-room_of
returns-in-Some-clause-room_of g c = record {
  own = λ n room. let kept = c.replace.ensures.room_of Leaf (n + 1) room in omega (arith, kept);
  others = λ kind other n room. c.replace.ensures.room_of kind n room;
}

-- a refusal leaves the cursor where it would have put the pair, and is for a key that isn't stored
pub returns-in-Err-clause-left : goal.returns-in-Err-clause-left
returns-in-Err-clause-left g c = λ pairs below free.
    let among = below.among in
    let pass = subst (λ b. HasPassed g.K.AsBytes.bytes b c.args.arena.now c.pass.new.self None among.front among.back) c.as_bytes.ensures.value (c.in-None.ensures.passed among.front among.back among.stands) in
    let err = c.in-Err.ensures.err in
    subst (λ s. StandsAtPlace c.insert.new.arena s g.K.AsBytes.bytes pairs (g.K.AsBytes.bytes c.args.key)) (sym err.1)
    (still-at g.K.AsBytes.bytes c.args.arena.now c.args.self.now c.pass.new.self (g.K.AsBytes.bytes c.args.key) pairs among below.passed free None pass refl c.args.key c.args.value refl c.insert.new.arena err.0)

module _ (g : _) (c : In-None g) where
  not-stored : (pairs : List (g.row.K.Denot × g.row.V.Denot)) → StandsBelow c.args.arena.now c.args.self.now g.K.AsBytes.bytes pairs (g.K.AsBytes.bytes c.args.key) → HasKey (key_of g.K.AsBytes.bytes) (g.K.AsBytes.bytes c.args.key) pairs → ⊥
  not-stored pairs below has =
      let among = below.among in
      let key = g.K.AsBytes.bytes c.args.key in
      let pass = subst (λ b. HasPassed g.K.AsBytes.bytes b c.args.arena.now c.pass.new.self None among.front among.back) c.as_bytes.ensures.value (c.in-None.ensures.passed among.front among.back among.stands) in
      let free = stored-free (key_of g.K.AsBytes.bytes) pairs among.ascends key has in
      none-has g.K.AsBytes.bytes c.args.arena.now c.args.self.now c.pass.new.self key pairs among below.passed free None pass refl has

pub returns-in-Err-clause-stored : goal.returns-in-Err-clause-stored
returns-in-Err-clause-stored g c = λ pairs below has. absurd (not-stored g (goal.at.returns-in-Err-clause-stored g c).In-None pairs below has)

pub returns-in-Err-clause-stored_room : goal.returns-in-Err-clause-stored_room
returns-in-Err-clause-stored_room g c = λ pairs below has. absurd (not-stored g (goal.at.returns-in-Err-clause-stored_room g c).In-None pairs below has)

pub returns-in-Ok-clause-stored_room : goal.returns-in-Ok-clause-stored_room
returns-in-Ok-clause-stored_room g c = λ pairs below has. absurd (not-stored g (goal.at.returns-in-Ok-clause-stored_room g c).In-None pairs below has)

pub returns-in-Some-clause-stored_room : goal.returns-in-Some-clause-stored_room
returns-in-Some-clause-stored_room g c = λ pairs below has. c.replace.ensures.room_of
