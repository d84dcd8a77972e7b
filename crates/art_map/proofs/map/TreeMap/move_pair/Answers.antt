use Rattle.std.proofs.Common.{◌≡◌, ◌++◌, ◌∷◌, [], MatchOption, ap, subst, ◌∙◌}
use Rattle.art_map.proofs.Joins.{blocked, free-joined, put-joined}
use Rattle.art_map.proofs.map.TreeMap.move_pair.Goals as goal

pub unreachable-requires : goal.unreachable-requires
unreachable-requires g c =
    let at = subst (λ o. MatchOption o (c.args.self.now.pairs ≡ []) (λ pair. c.args.self.now.pairs ≡ c.pop.new.self.pairs ++ pair ∷ [])) c.in-Ok-Some.field-0-is c.in-Ok-Some.ensures.value in
    free-joined g.K.AsBytes.bytes (c.in-Ok-Some.key, c.in-Ok-Some.value) c.pop.new.self.pairs c.args.self.now.pairs c.args.to.now.pairs at c.requires.ordered
    (blocked c.in-Ok-Some.key c.in-Ok-Some.value c.in-Err.field-0 c.in-Err.ensures.refused c.in-Err.ensures.succeeds c.requires.to_room)

pub returns-clause-joined : goal.returns-clause-joined
returns-clause-joined g c =
    let at = subst (λ o. MatchOption o (c.args.self.now.pairs ≡ []) (λ pair. c.args.self.now.pairs ≡ c.pop.new.self.pairs ++ pair ∷ [])) c.in-Ok-Some.field-0-is c.in-Ok-Some.ensures.value in
    ap (λ ps. c.pop.new.self.pairs ++ ps) c.in-Ok.ensures.pairs
    ∙ put-joined g.K.AsBytes.bytes (c.in-Ok-Some.key, c.in-Ok-Some.value) c.pop.new.self.pairs c.args.self.now.pairs c.args.to.now.pairs at c.requires.ordered

pub returns-clause-leaf_room : goal.returns-clause-leaf_room
returns-clause-leaf_room g c = rw c.in-Ok-Some.field-0-is at c.in-Ok-Some.ensures.leaf_room
