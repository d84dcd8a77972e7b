use Rattle.std.proofs.Common.{rules, ◌≡◌, ℕ, ◌≤◌, List, refl, ap, ap₂, sym, ◌∙◌, subst, arith}
use Rattle.std.specs.Prelude.{option_map}
use Rattle.std.proofs.lemmas.List.Sums.{sum_by-append}
use Rattle.art_lines.specs.Reading.{command_of}
use Rattle.art_lines.proofs.Common.{command_with}
use Rattle.art_engine.specs.Landed.{IsLandingOf}
use Rattle.std.specs.List.{AllByRecursion}
use Rattle.art_engine.specs.Done.{records_left}
use Rattle.art_engine.specs.ReadAhead.{IsLandedLine, ahead_now, command_now, landing_now, to_come, value_now}
use Rattle.art_engine.proofs.Terms.{most_ahead, read_of, total}
use Rattle.art_engine.proofs.CutRuns.{told_unused}
use Rattle.art_engine.proofs.LinesAhead.{landed_forgotten, told_cut, told_more}
use Rattle.art_engine.proofs.running.execute_current.Goals as goal

pub execute_parsed-requires : goal.execute_parsed-requires
execute_parsed-requires g c =
    let p = c.parsed-parsed.ensures in let r = c.parsed-parsed.result in
    let same : option_map (λ w. command_with w r.fields.now) r.word ≡ command_now c.args.read_ahead.now = ap₂ (λ f o. option_map (λ w. command_with w f) o) p.fields p.word in
    let few : r.ahead ≤ most_ahead (option_map (λ w. command_with w r.fields.now) r.word) =
    subst (λ n. n ≤ most_ahead (option_map (λ w. command_with w r.fields.now) r.word)) (sym p.ahead) (subst (λ o. ahead_now c.args.read_ahead.now ≤ most_ahead o) (sym same) c.requires.few) in
    let R = c.args.index.now.records in
    let landed : IsLandingOf g.row.PREFIX_LEN R (option_map (λ w. command_with w r.fields.now) r.word) r.landing r.value.now r.ahead =
    subst (λ o. IsLandingOf g.row.PREFIX_LEN R o r.landing r.value.now r.ahead) (sym same)
    (subst (λ l. IsLandingOf g.row.PREFIX_LEN R (command_now c.args.read_ahead.now) l r.value.now r.ahead) (sym p.landing)
    (subst (λ v. IsLandingOf g.row.PREFIX_LEN R (command_now c.args.read_ahead.now) (landing_now c.args.read_ahead.now) v r.ahead) (sym p.value)
    (subst (λ n. IsLandingOf g.row.PREFIX_LEN R (command_now c.args.read_ahead.now) (landing_now c.args.read_ahead.now) (value_now c.args.read_ahead.now) n) (sym p.ahead) c.requires.now))) in
    (search rules, (c.requires.open, ((c.requires.read.0, same ∙ c.requires.read.1), (few, landed))))

pub returns-then-not-keeps-clause-done : goal.returns-then-not-keeps-clause-done
returns-then-not-keeps-clause-done g c = λ line is.
    let p = c.parsed-parsed.ensures in let r = c.parsed-parsed.result in
    let same : option_map (λ w. command_with w r.fields.now) r.word ≡ command_now c.args.read_ahead.now = ap₂ (λ f o. option_map (λ w. command_with w f) o) p.fields p.word in
    let e = c.in-Ok.ensures.done line (same ∙ is) in (
      c.in-Ok._handled.memory,
      record {
        lawful = e.lawful;
        left = e.left;
        are = c.holds_records.ensures;
        visits = c.in-Ok._handled.visits;
        within = e.within;
        short = e.short;
        own_path = e.own_path;
        counted = e.counted;
        visits_ahead = r.ahead;
        few = subst (λ n. n ≤ most_ahead (command_of line)) (sym p.ahead) (subst (λ o. ahead_now c.args.read_ahead.now ≤ most_ahead o) is c.requires.few);
        counted_ahead = c.in-Ok.ensures.ahead;
      },
      e.output,
      omega (arith, c.parsed-parsed.ensures.ahead),
    )

pub returns-then-not-keeps-clause-counted : goal.returns-then-not-keeps-clause-counted
returns-then-not-keeps-clause-counted g c =
    let more = told_more c.args.index.now.ahead c.parsed-parsed.result.ahead c.execute_parsed.new.self.ahead c.in-Ok.ensures.ahead in
    let is = c.parsed-parsed.ensures.ahead in
    let kept = ap read_of c.forget_landings.ensures.0 in
    omega arith

pub returns-else-not-keeps-clause-done : goal.returns-else-not-keeps-clause-done
returns-else-not-keeps-clause-done g c = λ line is.
    let p = c.parsed-parsed.ensures in let r = c.parsed-parsed.result in
    let same : option_map (λ w. command_with w r.fields.now) r.word ≡ command_now c.args.read_ahead.now = ap₂ (λ f o. option_map (λ w. command_with w f) o) p.fields p.word in
    let e = c.in-Ok.ensures.done line (same ∙ is) in (
      c.in-Ok._handled.memory,
      record {
        lawful = e.lawful;
        left = e.left;
        are = c.holds_records.ensures;
        visits = c.in-Ok._handled.visits;
        within = e.within;
        short = e.short;
        own_path = e.own_path;
        counted = e.counted;
        visits_ahead = r.ahead;
        few = subst (λ n. n ≤ most_ahead (command_of line)) (sym p.ahead) (subst (λ o. ahead_now c.args.read_ahead.now ≤ most_ahead o) is c.requires.few);
        counted_ahead = c.in-Ok.ensures.ahead;
      },
      e.output,
      omega (arith, c.parsed-parsed.ensures.ahead),
    )

pub returns-else-not-keeps-clause-counted : goal.returns-else-not-keeps-clause-counted
returns-else-not-keeps-clause-counted g c =
    let more = told_more c.args.index.now.ahead c.parsed-parsed.result.ahead c.execute_parsed.new.self.ahead c.in-Ok.ensures.ahead in
    let is = c.parsed-parsed.ensures.ahead in
    omega arith

pub returns-then-not-keeps-clause-landed : goal.returns-then-not-keeps-clause-landed
returns-then-not-keeps-clause-landed g c = landed_forgotten g.row.PREFIX_LEN c.execute_parsed.new.self.records c.forget_landings.new.self c.forget_landings.ensures.1

pub returns-else-not-keeps-clause-landed : goal.returns-else-not-keeps-clause-landed
returns-else-not-keeps-clause-landed g c = λ now.
    let p = c.parsed-parsed.ensures in let r = c.parsed-parsed.result in let R = c.args.index.now.records in
    let same : option_map (λ w. command_with w r.fields.now) r.word ≡ command_now c.args.read_ahead.now = ap₂ (λ f o. option_map (λ w. command_with w f) o) p.fields p.word in
    let line : List ℕ = c.requires.read.0 in let is = same ∙ c.requires.read.1 in let memory = c.in-Ok._handled.memory in
    let stays : c.execute_parsed.new.self.records ≡ R =
    (c.in-Ok.ensures.done line is).left ∙ ap (λ o. records_left memory o R) (sym is) ∙ c.if-not-keeps.ensures refl r.fields.now memory R in
    subst (λ x. AllByRecursion (IsLandedLine g.row.PREFIX_LEN x) (to_come c.args.read_ahead.now)) (sym stays) (c.requires.landed now)

pub returns-in-Err-clause-counted : goal.returns-in-Err-clause-counted
returns-in-Err-clause-counted g c =
    let more = told_more c.args.index.now.ahead c.parsed-parsed.result.ahead c.execute_parsed.new.self.ahead c.in-Err.ensures.ahead in
    let is = c.parsed-parsed.ensures.ahead in
    let told = c.count_unused.ensures.told in let unused : List ℕ = told.0 in let all = told.2 in
    let last = ap total told.1 ∙ sum_by-append (λ (n : ℕ). n) c.execute_parsed.new.self.ahead unused in
    let none = ap read_of c.count_unused.ensures.used_up in
    omega arith

pub returns-in-Err-clause-cut : goal.returns-in-Err-clause-cut
unfolding told_unused
returns-in-Err-clause-cut g c = λ line now_is.
    let u = c.count_unused.ensures in let p = c.parsed-parsed.ensures in let r = c.parsed-parsed.result in
    let same : option_map (λ w. command_with w r.fields.now) r.word ≡ command_now c.args.read_ahead.now = ap₂ (λ f o. option_map (λ w. command_with w f) o) p.fields p.word in
    let l = c.in-Err.ensures.cut line (same ∙ now_is) in
    let one = told_more c.args.index.now.ahead r.ahead c.execute_parsed.new.self.ahead c.in-Err.ensures.ahead in
    let all = told_cut c.args.index.now.ahead c.execute_parsed.new.self.ahead l.unused l.visits_ahead l.counted_ahead in
    let is = p.ahead in
    let few : l.visits_ahead ≤ ahead_now c.args.read_ahead.now = omega arith in (
      told_unused c.args.index.now c.execute_parsed.new.self c.count_unused.new.index line _ _ u.told.0 l u.kept.0 u.kept.1 u.told.1,
      few,
    )
