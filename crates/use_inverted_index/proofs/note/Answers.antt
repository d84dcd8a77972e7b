use Rattle.std.proofs.Common.{ap, bytes_eq, cond, refl, subst, sym, ◌∙◌}
use Rattle.std.specs.Result.{IsOk}
use Rattle.art_operations.proofs.Common.{with_pair_put}
use Rattle.art_map.proofs.Common.{entry_key, ended}
use Rattle.art_set.proofs.Common.{with_key_put}
use Rattle.use_inverted_index.specs.Notes.{number_bytes, numbers_of}
use Rattle.use_inverted_index.proofs.Noted.{lent-numbers, put-noted, still-noted}
use Rattle.use_inverted_index.proofs.note.Goals as goal

pub returns-in-Err-insert-clause-err : goal.returns-in-Err-insert-clause-err
returns-in-Err-insert-clause-err c =
    let old = c.args.index.now.pairs in
    let w = c.insert.new.self in
    still-noted c.args.word (entry_key c.entry.result) old _ w c.entry.ensures.entry.same_key
    (ap (λ m. m.pairs) (c.index-3-1.given.1 (sym c.entry.ensures.same_map)) ∙ (c.or_insert.follows.holds w (subst (λ r. IsOk r) (sym c.in-Ok.is) refl)).0 ∙ ap (λ m. with_pair_put ended (entry_key c.entry.result) w m.pairs) c.entry.ensures.unchanged)
    (c.in-Err-insert.ensures.err ∙ ap (λ s. s.keys) c.in-Ok.ensures.value ∙ lent-numbers c.args.word old _ c.new.result c.entry.ensures.entry.value c.new.ensures.keys)

pub returns-clause-found : goal.returns-clause-found
returns-clause-found c =
    let old = c.args.index.now.pairs in
    let w = c.insert.new.self in λ other.
    put-noted c.args.word (entry_key c.entry.result) old _ w c.entry.ensures.entry.same_key
    (ap (λ m. m.pairs) (c.index-3-1.given.1 (sym c.entry.ensures.same_map)) ∙ (c.or_insert.follows.holds w (subst (λ r. IsOk r) (sym c.in-Ok.is) refl)).0 ∙ ap (λ m. with_pair_put ended (entry_key c.entry.result) w m.pairs) c.entry.ensures.unchanged) other
    ∙ ap (λ v. cond (bytes_eq c.args.word other) v (numbers_of other old)) (c.in-Ok-insert.ensures.keys ∙ ap (with_key_put number_bytes c.args.number) (ap (λ s. s.keys) c.in-Ok.ensures.value ∙ lent-numbers c.args.word old _ c.new.result c.entry.ensures.entry.value c.new.ensures.keys))
