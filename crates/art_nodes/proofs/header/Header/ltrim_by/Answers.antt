use Rattle.std.proofs.Common.{◌≤◌, length, arith, refl, inl, inr}
use Rattle.art_nodes.proofs.PrefixLemmas.{take-copy_within}
use Rattle.art_nodes.proofs.header.Header.ltrim_by.Goals as goal

pub returns : goal.returns
returns g c =
    let asked = rw (← c.self.view_is) at c.requires in
    let within : c.self.inside.prefix_len ≤ length c.self.inside.prefix = elim asked.stored [ inl whole ↦ omega (arith, whole, c.self.told) | inr none ↦ absurd (c.if-n-eq0.false none) ] in
    rw (← c.self.view_is, c.copy_within.ensures.after, take-copy_within c.args.n c.self.inside.prefix_len c.self.inside.prefix asked.within within) refl
