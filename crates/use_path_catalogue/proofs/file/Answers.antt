use Rattle.std.proofs.Common.{ℕ, List, sym, subst, ap, ◌∙◌}
use Rattle.std.proofs.Common.{◌≡◌, cond, bytes_eq}
use Rattle.std.specs.Prelude.{IfOk, OnOk, Some}
use Rattle.art_map.proofs.Common.{ended-found, ended-inserted}
use Rattle.use_path_catalogue.specs.Catalogue.{size_at}
use Rattle.use_path_catalogue.proofs.file.Goals as goal
use Rattle.use_path_catalogue.proofs.file.Goals.{in-Ok, in-Err}

pub returns-clause-old : goal.returns-clause-old
returns-clause-old c = elim c.match-insert.branch [
  | in-Ok w ↦ subst (λ r. IfOk r (λ old. old ≡ size_at c.args.path c.args.catalogue.now.pairs)) (sym w.result-is)
      (w.in-Ok.ensures.value ∙ ended-found c.args.path c.args.catalogue.now.pairs)
  | in-Err w ↦ subst (λ r. IfOk r (λ old. old ≡ size_at c.args.path c.args.catalogue.now.pairs)) (sym w.result-is) tt
]

pub returns-clause-found : goal.returns-clause-found
returns-clause-found c = elim c.match-insert.branch [
  | in-Ok w ↦ subst (λ r. OnOk r ((other : List ℕ) → size_at other c.insert.new.self.pairs
      ≡ cond (bytes_eq c.args.path other) (Some c.args.size) (size_at other c.args.catalogue.now.pairs))) (sym w.result-is)
      (λ other. ap (size_at other) w.in-Ok.ensures.pairs
      ∙ ended-inserted other c.args.path c.args.size c.args.catalogue.now.pairs)
  | in-Err w ↦ subst (λ r. OnOk r ((other : List ℕ) → size_at other c.insert.new.self.pairs
      ≡ cond (bytes_eq c.args.path other) (Some c.args.size) (size_at other c.args.catalogue.now.pairs))) (sym w.result-is) tt
]
