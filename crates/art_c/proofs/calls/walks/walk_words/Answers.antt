use Rattle.std.proofs.Common.{[], false, refl, ap, arith}
use Rattle.art_c.specs.Spans.{met_of, reach_of}
use Rattle.art_c.proofs.calls.walks.walk_words.Goals as goal

pub returns-in_default : goal.returns-in_default
returns-in_default c =
    ([], false, ((λ f. absurd (c.in_default.ensures f)), (λ _. refl)), ([], [], refl, omega arith, refl, refl, refl), refl)

pub returns : goal.returns
returns c =
    let r = reach_of c.args.span in (
      met_of r c.in-Some.pairs,
      c.words_out-copied.result.1,
      ((λ _. ap (met_of r) c.in-Some.ensures.1), (λ no. absurd (no c.in-Some.ensures.0))),
      c.words_out-copied.ensures,
      c.words_code.ensures,
    )
