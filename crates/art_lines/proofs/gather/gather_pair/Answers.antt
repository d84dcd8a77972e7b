use Rattle.std.proofs.Common.{◌≤◌, length, subst, sym}
use Rattle.art_lines.proofs.Terms.{line_of, pair_words}
use Rattle.art_lines.proofs.gather.gather_pair.Goals as goal

pub gather_key_and_value-requires : goal.gather_key_and_value-requires
gather_key_and_value-requires g c = record {
  «open» = c.requires.open;
  held = c.requires.held;
  line = subst (λ k. length (line_of (pair_words (k, c.args.value.now))) ≤ 4097) (sym c.key_of.ensures) c.requires.line;
}

pub returns-clause-taken : goal.returns-clause-taken
returns-clause-taken g c = rw c.key_of.ensures at c.gather_key_and_value.ensures.taken

pub returns-clause-cut : goal.returns-clause-cut
returns-clause-cut g c = rw c.key_of.ensures at c.gather_key_and_value.ensures.cut
