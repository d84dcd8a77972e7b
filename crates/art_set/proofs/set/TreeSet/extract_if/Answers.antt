use Rattle.std.proofs.Common.{refl, sym, ap, subst, ◌∙◌, arith}
use Rattle.std.specs.Fn.{CalledAt, TakesAt}
use Rattle.std.specs.Map.{keys_of}
use Rattle.art_set.proofs.Terms.{CallableOnEachKey, keys_between}
use Rattle.art_set.proofs.KeyViews.{between, no-pair-or}
use Rattle.art_set.proofs.set.TreeSet.extract_if.Goals as goal

pub extraction-requires : goal.extraction-requires
extraction-requires g c = (omega arith, (omega arith, no-pair-or c.map_mut-map.result.now.pairs (rw (← c.map_mut-map.ensures.keys) at c.requires.valid)))

pub returns : goal.returns
returns g c =
    let made = c.extraction.ensures in
    let keys = c.map_mut-map.ensures.keys in
    let left = ap keys_of made.left ∙ between g.K.AsBytes.bytes _ _ c.map_mut-map.result.now.pairs ∙ ap (keys_between g.K.AsBytes.bytes _ _) keys in (
      (sym made.same_map.0, (λ w. refl)),
      record {
        writes_back = tt;
        keys = ap (λ m. keys_of m.pairs) made.same_map.1 ∙ keys;
        nodes = ap (λ m. m.nodes) made.same_map.1 ∙ c.map_mut-map.ensures.nodes;
        left = left;
        asks = refl;
        callable = subst (CallableOnEachKey (CalledAt g.F.FnMut) (TakesAt g.F.FnMut) c.args.pred) (sym left) c.requires.callable;
      },
    )
