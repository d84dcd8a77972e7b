use Rattle.std.proofs.Common.{ℕ, ◌*◌, length, ap, subst, ◌∙◌}
use Rattle.std.specs.Prelude.{IfOk, OnErr}
use Rattle.std.specs.Map.{keys_of}
use Rattle.std.proofs.lemmas.Result.{IfOk-weaker, on_ok_weaker}
use Rattle.art_operations.proofs.Common.{OpeningReads}
use Rattle.art_walks.proofs.Common.{PairsWithin}
use Rattle.art_map.proofs.Common.{AreCutVisits, ShrinksAtCut}
use Rattle.art_set.proofs.KeyPairs.{keys-beside, many-after, with-units}
use Rattle.art_set.proofs.KeyViews.{kept-names}
use Rattle.art_set.proofs.set.TreeSet.remove_prefix.Goals as goal

pub returns-clause-keys : goal.returns-clause-keys
returns-clause-keys g c =
    rw (← c.self.view_is)
    (on_ok_weaker c.remove_prefix.result (λ e. ap keys_of e ∙ keys-beside g.K.AsBytes.bytes c.args.prefix.now c.self.inside.map.pairs) c.remove_prefix.ensures.pairs)

pub returns-clause-count : goal.returns-clause-count
returns-clause-count g c =
    rw (← c.self.view_is)
    (IfOk-weaker c.remove_prefix.result _ _ (λ done e. e ∙ many-after g.K.AsBytes.bytes c.args.prefix.now c.self.inside.map.pairs) c.remove_prefix.ensures.count)

pub returns-clause-visits : goal.returns-clause-visits
returns-clause-visits g c =
    rw (← c.self.view_is)
    (subst (λ ps. IfOk c.remove_prefix.result (λ done. AreCutVisits g.K.AsBytes.bytes g.row.PREFIX_LEN c.args.prefix.now ps done.visits)) (with-units c.self.inside.map.pairs) c.remove_prefix.ensures.visits)

pub returns-clause-few : goal.returns-clause-few
returns-clause-few g c =
    rw (← c.self.view_is)
    (subst (λ ps. IfOk c.remove_prefix.result (λ done. (longest : ℕ) → PairsWithin g.K.AsBytes.bytes longest ps → OpeningReads longest (length c.args.prefix.now) (2 * done.pairs) done.visits)) (with-units c.self.inside.map.pairs) c.remove_prefix.ensures.few)

pub returns-clause-shrinks : goal.returns-clause-shrinks
returns-clause-shrinks g c =
    rw (← c.self.view_is)
    (subst (λ ps. OnErr c.remove_prefix.result (ShrinksAtCut g.K.AsBytes.bytes c.args.prefix.now ps)) (with-units c.self.inside.map.pairs) c.remove_prefix.ensures.shrinks)

pub returns-clause-names : goal.returns-clause-names
returns-clause-names g c =
    rw (← c.self.view_is)
    (on_ok_weaker c.remove_prefix.result (kept-names g.K.AsBytes.bytes c.remove_prefix.new.self.pairs c.self.inside.map.nodes c.remove_prefix.new.self.nodes) c.remove_prefix.ensures.names)

pub returns-clause-kept_room : goal.returns-clause-kept_room
returns-clause-kept_room g c = rw (← c.self.view_is) c.remove_prefix.ensures.kept_room

pub returns-clause-room : goal.returns-clause-room
returns-clause-room g c = rw (← c.self.view_is) c.remove_prefix.ensures.room

pub returns-clause-leaf_room : goal.returns-clause-leaf_room
returns-clause-leaf_room g c = rw (← c.self.view_is) c.remove_prefix.ensures.leaf_room
