use Rattle.std.proofs.Common.{ap, ◌∙◌, ◌*◌, sym, subst}
use Rattle.std.proofs.lemmas.List.{length-map}
use Rattle.std.proofs.lemmas.Result.{on_ok_weaker}
use Rattle.std.specs.Map.{keys_of}
use Rattle.art_arena.proofs.Common.{HasRoom}
use Rattle.art_arena.specs.arena.Arena.{UsesRoom}
use Rattle.art_set.proofs.KeyViews.{keys-put-all, leaf-room, no-pair, no-pair-either}
use Rattle.art_set.specs.Members.{members}
use Rattle.art_set.proofs.set.TreeSet.append.Goals as goal

pub returns-clause-keys : goal.returns-clause-keys
returns-clause-keys g c = rw (← c.self.view_is, ← c.other.view_is)
    (on_ok_weaker c.append.result (λ e. ap keys_of e ∙ keys-put-all g.K.AsBytes.bytes c.other.inside.map.pairs c.self.inside.map.pairs) c.append.ensures.pairs)

pub returns-clause-free : goal.returns-clause-free
returns-clause-free g c = rw (← c.self.view_is, ← c.other.view_is) (λ h. c.append.ensures.free (no-pair-either c.self.inside.map.pairs c.other.inside.map.pairs h))

pub returns-clause-nothing : goal.returns-clause-nothing
returns-clause-nothing g c = rw (← c.self.view_is, ← c.other.view_is)
    (λ none. let same = c.append.ensures.nothing (no-pair c.other.inside.map.pairs none) in (ap members same.0, ap members same.1))

pub returns-clause-swapped : goal.returns-clause-swapped
returns-clause-swapped g c = rw (← c.self.view_is, ← c.other.view_is)
    (λ none some. let swapped = c.append.ensures.swapped (no-pair c.self.inside.map.pairs none) (λ e. some (ap keys_of e)) in (ap members swapped.0, ap members swapped.1))

pub returns-clause-succeeds : goal.returns-clause-succeeds
returns-clause-succeeds g c = rw (← c.self.view_is, ← c.other.view_is)
    (λ room. c.append.ensures.succeeds (subst (λ n. HasRoom c.self.inside.map.nodes (2 * n)) (length-map c.other.inside.map.pairs (λ p. p.0)) room))

pub returns-clause-leaf_room : goal.returns-clause-leaf_room
returns-clause-leaf_room g c = rw (← c.self.view_is)
    (on_ok_weaker c.append.result (λ uses some. leaf-room c.self.inside.map.pairs c.append.new.self.pairs c.self.inside.map.nodes c.append.new.self.nodes (uses (λ e. some (ap keys_of e)))) c.append.ensures.leaf_room)

pub returns-clause-room : goal.returns-clause-room
returns-clause-room g c = rw (← c.self.view_is, ← c.other.view_is)
    (on_ok_weaker c.append.result (λ uses some. subst (λ n. UsesRoom (4 * n) c.self.inside.map.nodes c.append.new.self.nodes)
    (sym (length-map c.other.inside.map.pairs (λ p. p.0))) (uses (λ e. some (ap keys_of e)))) c.append.ensures.room)

pub returns-clause-freed : goal.returns-clause-freed
returns-clause-freed g c = rw (← c.self.view_is, ← c.other.view_is)
    (on_ok_weaker c.append.result (λ freed some others. freed (λ e. some (ap keys_of e)) (λ e. others (ap keys_of e))) c.append.ensures.freed)
