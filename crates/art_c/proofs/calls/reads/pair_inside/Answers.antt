use Rattle.std.proofs.Common.{sym, subst, ◌∙◌, arith}
use Rattle.std.specs.Range.Bound.{bound_map}
use Rattle.art_operations.proofs.Common.{HoldsTreeOf}
use Rattle.art_c.proofs.Beside.{found-held, found-pair, none-found, stored}
use Rattle.art_c.specs.Calls.{whole}
use Rattle.art_c.proofs.calls.reads.pair_inside.Goals as goal

pub find_leaf_pointer_for_bound-requires : goal.find_leaf_pointer_for_bound-requires
find_leaf_pointer_for_bound-requires g c =
    let holds = subst (λ r. HoldsTreeOf whole 16 c.nodes-root.result.0.now r c.args.map.now.pairs) c.in-Some.is c.nodes-root.ensures.tree in
    (omega arith, stored 16 c.nodes-root.result.0.now c.in-Some.root c.args.map.now.pairs holds)

pub as_key_value_ref-requires : goal.as_key_value_ref-requires
as_key_value_ref-requires g c =
    let holds = subst (λ r. HoldsTreeOf whole 16 c.nodes-root.result.0.now r c.args.map.now.pairs) c.in-Some.is c.nodes-root.ensures.tree in
    let at = stored 16 c.nodes-root.result.0.now c.in-Some.root c.args.map.now.pairs holds in (
      omega arith,
      found-held 16 c.nodes-root.result.0.now c.in-Some.root c.args.map.now.pairs holds c.nodes-root.ensures.ordered c.args.is_start (bound_map (λ key. key.now) c.args.bound) c.in-Some-find_leaf_pointer_for_bound.leaf
          (sym c.in-Some-find_leaf_pointer_for_bound.is ∙ c.find_leaf_pointer_for_bound.ensures at.0 at.1 at.2),
    )

pub returns : goal.returns
returns g c =
    let holds = subst (λ r. HoldsTreeOf whole 16 c.nodes-root.result.0.now r c.args.map.now.pairs) c.in-Some.is c.nodes-root.ensures.tree in
    let at = stored 16 c.nodes-root.result.0.now c.in-Some.root c.args.map.now.pairs holds in
    found-pair 16 c.nodes-root.result.0.now c.in-Some.root c.args.map.now.pairs holds c.nodes-root.ensures.ordered c.args.is_start (bound_map (λ key. key.now) c.args.bound) c.in-Some-find_leaf_pointer_for_bound.leaf
    (sym c.in-Some-find_leaf_pointer_for_bound.is ∙ c.find_leaf_pointer_for_bound.ensures at.0 at.1 at.2) _ _ c.as_key_value_ref.ensures.key c.as_key_value_ref.ensures.value

pub returns-in_default-find_leaf_pointer_for_bound : goal.returns-in_default-find_leaf_pointer_for_bound
returns-in_default-find_leaf_pointer_for_bound g c =
    let holds = subst (λ r. HoldsTreeOf whole 16 c.nodes-root.result.0.now r c.args.map.now.pairs) c.in-Some.is c.nodes-root.ensures.tree in
    let at = stored 16 c.nodes-root.result.0.now c.in-Some.root c.args.map.now.pairs holds in
    none-found 16 c.nodes-root.result.0.now c.in-Some.root c.args.map.now.pairs holds c.nodes-root.ensures.ordered c.args.is_start (bound_map (λ key. key.now) c.args.bound)
    (sym c.in_default-find_leaf_pointer_for_bound.is ∙ c.find_leaf_pointer_for_bound.ensures at.0 at.1 at.2)
