use Rattle.std.proofs.Common.{ap, length, rules, ◌+◌, ◌∙◌}
use Rattle.std.specs.Prelude.{filter, nat_le, not}
use Rattle.std.proofs.lemmas.Map.Made.{filter_same_pairs}
use Rattle.std.proofs.lemmas.Result.{on_ok_weaker}
use Rattle.art_map.proofs.Common.{found-retained, long-retained}
use Rattle.use_logins.specs.Logins.{last_seen}
use Rattle.use_logins.proofs.expire.Goals as goal

pub returns-clause-seen : goal.returns-clause-seen
returns-clause-seen c =
    let oldest = c.args.oldest in
    let old = c.args.logins.now.pairs in
    let new = c.retain.new.self.pairs in
    on_ok_weaker c.retain.result
    (λ retained other. ap (last_seen other) (filter_same_pairs _ (λ p. nat_le oldest p.1) _ (λ k v b w f' t. search rules) old new retained)
    ∙ found-retained (λ k. k) other (λ k. nat_le oldest) old c.keys_ascend.ensures)
    c.retain.ensures.retained

pub returns-clause-many : goal.returns-clause-many
returns-clause-many c =
    let oldest = c.args.oldest in
    let old = c.args.logins.now.pairs in
    let new = c.retain.new.self.pairs in
    on_ok_weaker c.retain.result
    (λ retained. ap (λ ps. length ps + length (filter (λ p. not (nat_le oldest p.1)) old)) (filter_same_pairs _ (λ p. nat_le oldest p.1) _ (λ k v b w f' t. search rules) old new retained)
    ∙ long-retained (λ p. nat_le oldest p.1) old)
    c.retain.ensures.retained
