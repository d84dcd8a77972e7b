use Rattle.std.proofs.Common.{[], ◌∷◌, ◌++◌, ◌∙◌, sym, ap, append-nil, get_or, length}
use Rattle.art_arena.proofs.Common.{byte_following}
use Rattle.art_operations.proofs.insert.point.end_at_inner.Goals as goal

pub returns-in-Same : goal.returns-in-Same
returns-in-Same c = ([], c.in-Same.ensures ∙ sym (append-nil c.args.rest.now))

pub returns-in-NewEnds : goal.returns-in-NewEnds
returns-in-NewEnds c = let e = c.in-NewEnds.ensures in (e.0 ∷ e.1, e.2)

pub returns-in-OldEnds : goal.returns-in-OldEnds
returns-in-OldEnds c = let e = c.in-OldEnds.ensures in (e.1, e.2 ∙ ap (λ b. c.args.prefix.now ++ b ∷ e.1) (sym (ap (λ k. get_or k (length c.args.prefix.now) 0) e.2 ∙ byte_following c.args.prefix.now e.1 e.0)))
