-- An array that had these bytes would have their number, and each part of them would be its element's.
use Rattle.std.proofs.Common.{◌≡◌, ◌<◌, ◌*◌, length, arith, ◌^◌, ◌∙◌, sym, ap, subst, rules, true≢false, eq-eqb}
use Rattle.std.proofs.lemmas.Grind.{common_steps}
use Rattle.art_bytes.specs.lemmas.PartLaws.{long_list, part_of_list, list_of_parts}
use Rattle.art_bytes.proofs.mappings.arrays.read_array.Goals as goal
use Rattle.art_bytes.proofs.mappings.arrays.read_array.Goals.{in-Some, in-None}

pub returns-then-not-fits : goal.returns-then-not-fits
returns-then-not-fits g c = λ h.
    let e : length c.args.bytes.now ≡ g.row.N * g.E.FixedBytes.WIDTH =
    long_list g.E.FixedBytes.WIDTH g.E.FixedBytes.is_value g.E.FixedBytes.fixed_bytes g.E.Ord.cmp g.met.E.FixedBytes.have_bytes g.row.N c.args.bytes.now h in
    let small : length c.args.bytes.now < 2 ^ 64 = search rules in
    elim c.match-checked_mul.branch [
      | in-Some w ↦
          let same : w.in-Some.len ≡ length c.args.bytes.now = w.in-Some.ensures.1 ∙ ap (λ n. g.row.N * n) c.WIDTH.ensures ∙ sym e in
          true≢false (sym (w.fits-is ∙ eq-eqb w.in-Some.len (length c.args.bytes.now) same) ∙ c.if-not-fits.true)
      | in-None w ↦ w.in-None.ensures (subst (λ n. n < 2 ^ 64) (e ∙ ap (λ n. g.row.N * n) (sym c.WIDTH.ensures)) small)
    ]

pub returns-in-None-checked_from_slice : goal.returns-in-None-checked_from_slice
returns-in-None-checked_from_slice g c = λ h.
    let below : c.loop-index.index < g.row.N = search rules in
    let found = part_of_list g.E.FixedBytes.WIDTH g.E.FixedBytes.is_value g.E.FixedBytes.fixed_bytes g.E.Ord.cmp g.met.E.FixedBytes.have_bytes g.row.N c.args.bytes.now c.loop-index.index below h in
    c.in-None-checked_from_slice.ensures (found.0, found.1, found.2 ∙ sym c.part.ensures)

pub returns : goal.returns
returns g c =
    let long : length c.args.bytes.now ≡ g.row.N * g.E.FixedBytes.WIDTH = grind (arith, common_steps) in
    let count = c.loop-index.invariant.count in (
      list_of_parts g.E.FixedBytes.WIDTH g.E.FixedBytes.is_value g.E.FixedBytes.fixed_bytes g.E.Ord.cmp g.met.E.FixedBytes.have_bytes c.loop-index.array c.args.bytes.now
          (long ∙ ap (λ n. n * g.E.FixedBytes.WIDTH) (sym count))
          (λ k d below. c.loop-index.invariant.parts k d (omega (arith, count, c.loop-index-test.false))),
      count,
    )
