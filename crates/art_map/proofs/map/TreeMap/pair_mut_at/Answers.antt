use Rattle.std.proofs.Common.{refl}
use Rattle.art_map.proofs.Written.{pair-at, written-pairs}
use Rattle.art_map.proofs.Maps.{written-map}
use Rattle.art_map.proofs.map.TreeMap.pair_mut_at.Goals as goal

pub invariant_of-self-lent : goal.invariant_of-self-lent
invariant_of-self-lent g c = λ w. written-map g.K.AsBytes.bytes g.K.AsBytes.is_key g.row.PREFIX_LEN c.self.inside.arena c.self.inside.root c.self.invariant c.args.leaf (rw (← c.self.view_is) at c.requires) w

pub returns : goal.returns
returns g c =
    let there = rw (← c.self.view_is) at c.requires in
    let has = pair-at c.self.inside.arena c.args.leaf there _ _ c.as_key_ref_value_mut.ensures.key c.as_key_ref_value_mut.ensures.value in (
      (refl, λ w. rw (← c.self.view_is) refl),
      record {
        writes_back = tt;
        value = rw (← c.self.view_is) has;
        pairs = λ w.
            rw (← c.self.view_is)
            (written-pairs g.K.AsBytes.bytes g.K.AsBytes.is_key g.row.PREFIX_LEN c.self.inside.arena c.self.inside.root c.self.invariant c.args.leaf there _ _ has w);
      },
    )
