use Rattle.std.proofs.Common.{[], ap, ap₂, arith, refl, subst, ◌∙◌}
use Rattle.std.specs.Map.{keys_of}
use Rattle.art_operations.proofs.Common.{with_pair_put}
use Rattle.art_set.proofs.MergeOrder.{all-cloned, ascending-merged, collected}
use Rattle.art_set.proofs.KeyViews.{keys-put}
use Rattle.art_set.proofs.Terms.{AscendsInBytes, merging}
use Rattle.art_set.proofs.operators.collected.Goals as goal

pub loop-key-init : goal.loop-key-init
loop-key-init g c =
    let bytes = g.K.AsBytes.bytes in
    let sides = c.beside-sides in
    let comes = ap (λ w. merging bytes w sides.result) c.wanted-wanted.ensures ∙ g.met.W.Kind.same sides.result.first sides.result.second ∙ ap₂ g.W.Kind.keys sides.ensures.first sides.ensures.second in
    ([], c.new-builder.ensures, λ same. record { came = []; keys = tt; clones = tt; whole = comes })

pub put-requires : goal.put-requires
put-requires g c = (omega arith, (c.if-not-nodes_fit.ensures.0 refl, (c.loop-key.invariant.0, c.loop-key.invariant.1)))

pub loop-key-preserved : goal.loop-key-preserved
loop-key-preserved g c =
    let inv = c.loop-key.invariant in
    let clone = c.in_ok-clone.clone in
    let bytes = g.K.AsBytes.bytes in (
      with_pair_put bytes clone tt inv.0,
      c.in-Ok.ensures.ok inv.0 inv.1,
      λ same.
          let w = c.wanted-wanted.result in
          let all = g.W.Kind.keys c.args.first.now.keys c.args.second.now.keys in
          let are = c.beside-sides.result in
          let kinds = g.W.Kind.of_lists in
          let up = subst (AscendsInBytes bytes) (g.met.W.Kind.same are.first are.second ∙ ap₂ g.W.Kind.keys c.beside-sides.ensures.first c.beside-sides.ensures.second)
          (ascending-merged bytes kinds.first kinds.both kinds.second are.first are.second c.beside-sides.ensures.ordered.0 c.beside-sides.ensures.ordered.1) in
          collected bytes g.K.Clone.is_clone same g.K.AsBytes.is_key g.met.K.NoPrefixesBytes.no_prefixes all (merging bytes w c.loop-key.sides) (merging bytes w c.next_wanted.new.self) (keys_of inv.0) c.in-Some.key.now clone
          (keys_of (with_pair_put bytes clone tt inv.0)) up (inv.2 same) c.in-Some.ensures.takes c.as_bytes-key_bytes.ensures.key c.in_ok-clone.ensures.cases (keys-put bytes clone tt inv.0),
    )

pub finish-requires : goal.finish-requires
finish-requires g c = (omega arith, (omega arith, (c.if-not-nodes_fit.ensures.0 refl, (c.loop-key.invariant.0, c.loop-key.invariant.1))))

pub returns : goal.returns
returns g c = λ same.
    let inv = c.loop-key.invariant in
    all-cloned g.K.AsBytes.bytes g.K.AsBytes.is_key g.K.Clone.is_clone (g.W.Kind.keys c.args.first.now.keys c.args.second.now.keys) _ (keys_of inv.0) (keys_of c.finish.result.pairs) (inv.2 same) c.in_default.ensures.takes.0 (ap keys_of (c.finish.ensures.pairs inv.0 inv.1))
