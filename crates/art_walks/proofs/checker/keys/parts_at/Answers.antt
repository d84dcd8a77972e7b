use Rattle.std.proofs.Common.{◌++◌, ◌∷◌, ◌+◌, [], take, sym, ap, ap₂, ◌∙◌, arith}
use Rattle.std.proofs.lemmas.Bool.Decides.{Decides-eqb}
use Rattle.std.proofs.lemmas.List.{take_more, take-take, take_at, length-take-le}
use Rattle.std.proofs.lemmas.Slice.Eq.{slice_eq-Decides}
use Rattle.art_walks.proofs.checker.keys.parts_at.Goals as goal

pub returns-clause-value : goal.returns-clause-value
returns-clause-value c =
    let tells = slice_eq-Decides Decides-eqb (take c.args.end c.args.other.now) (take c.args.end c.args.key.now) c.eq.result c.eq.ensures in
    let more = take_more c.args.other.now c.args.end 0 c.if-other-end.false in (
      λ yes. more ∙ ap₂ (λ xs b. xs ++ b ∷ []) (tells.0 yes) c.if-other-end-2.false,
      λ e. tells.1 (
          sym (take-take c.args.end (c.args.end + 1) c.args.other.now (omega arith)) ∙ ap (take c.args.end) e
          ∙ take_at (take c.args.end c.args.key.now) (c.args.byte ∷ []) c.args.end (length-take-le c.args.end c.args.key.now c.requires)
          ),
    )
