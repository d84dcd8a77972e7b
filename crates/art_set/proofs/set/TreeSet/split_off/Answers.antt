use Rattle.std.proofs.Common.{◌≡◌, ◌⊎◌, ◌*◌, [], IsOk, true, false, ap, subst, sym, ◌∙◌}
use Rattle.std.proofs.lemmas.List.{length-map}
use Rattle.std.specs.Map.{keys_of}
use Rattle.std.specs.declared.ops.Bound.TheVariants.{Included, Excluded, Unbounded}
use Rattle.art_arena.specs.arena.Arena.{UsesRoom}
use Rattle.art_operations.specs.Frees.{FreesLeaves}
use Rattle.art_set.proofs.KeyViews.{between, kept-names, no-pair, no-pair-either}
use Rattle.art_map.proofs.Common.{pairs_between}
use Rattle.art_set.proofs.Terms.{keys_between}
use Rattle.art_set.specs.Members.{members}
use Rattle.art_set.proofs.set.TreeSet.split_off.Goals as goal

pub returns-clause-off : goal.returns-clause-off
returns-clause-off g c = rw (← c.self.view_is) (ap keys_of c.in_ok-map.ensures.off ∙ between g.K.AsBytes.bytes (Included (g.Q.AsBytes.bytes c.args.key.now)) Unbounded c.self.inside.map.pairs)

pub returns-clause-keys : goal.returns-clause-keys
returns-clause-keys g c = rw (← c.self.view_is) (ap keys_of c.in_ok-map.ensures.pairs ∙ between g.K.AsBytes.bytes Unbounded (Excluded (g.Q.AsBytes.bytes c.args.key.now)) c.self.inside.map.pairs)

pub returns-clause-names : goal.returns-clause-names
returns-clause-names g c = rw (← c.self.view_is) (kept-names g.K.AsBytes.bytes c.split_off.new.self.pairs c.self.inside.map.nodes c.split_off.new.self.nodes c.in_ok-map.ensures.names)

pub returns-clause-leaf_room : goal.returns-clause-leaf_room
returns-clause-leaf_room g c = rw (← c.self.view_is)
    (λ some. subst (λ n. FreesLeaves n c.self.inside.map.nodes c.split_off.new.self.nodes) (sym (length-map c.in_ok-map.map.pairs (λ p. p.0))) (c.in_ok-map.ensures.leaf_room (λ e. some (ap keys_of e))))

pub returns-clause-room : goal.returns-clause-room
returns-clause-room g c = rw (← c.self.view_is)
    (λ some. subst (λ n. UsesRoom (4 * n) c.self.inside.map.nodes c.split_off.new.self.nodes) (sym (length-map c.in_ok-map.map.pairs (λ p. p.0))) (c.in_ok-map.ensures.room (λ e. some (ap keys_of e))))

pub returns-clause-nothing : goal.returns-clause-nothing
returns-clause-nothing g c = rw (← c.self.view_is) (λ none. let left = c.in_ok-map.ensures.nothing (no-pair c.in_ok-map.map.pairs none) in (ap members left.0, left.1))

pub returns-clause-swapped : goal.returns-clause-swapped
returns-clause-swapped g c = rw (← c.self.view_is) (λ none some. let swapped = c.in_ok-map.ensures.swapped (no-pair c.split_off.new.self.pairs none) (λ e. some (ap keys_of e)) in (ap members swapped.0, swapped.1))

pub returns-in_err-map-clause-free : goal.returns-in_err-map-clause-free
returns-in_err-map-clause-free g c = rw (← c.self.view_is)
    (λ fits some.
    let bytes = g.K.AsBytes.bytes in
    let start = Included (g.Q.AsBytes.bytes c.args.key.now) in
    let end = Excluded (g.Q.AsBytes.bytes c.args.key.now) in
    let pairs = c.self.inside.map.pairs in
    let with-pairs = subst (λ xs. (xs ≡ []) ⊎ (keys_between bytes Unbounded end (keys_of pairs) ≡ [])) (sym (between bytes start Unbounded pairs)) some in
    let both = subst (λ ys. (keys_of (pairs_between bytes start Unbounded pairs) ≡ []) ⊎ (ys ≡ [])) (sym (between bytes Unbounded end pairs)) with-pairs in
    let no : false ≡ true = subst IsOk c.in_err-map.was (c.split_off.ensures.free fits (no-pair-either (pairs_between bytes start Unbounded pairs) (pairs_between bytes Unbounded end pairs) both)) in
    absurd (cc))
