use Rattle.std.proofs.Common.{◌≤◌, ℕ, List, length, drop, ap, ap₂, sym, subst, arith}
use Rattle.art_lines.proofs.Common.{line_of, pair_words}
use Rattle.art_engine.proofs.Terms.{own_pair}
use Rattle.art_engine.proofs.listing.VecU8ListedKey.gather.Goals as goal

pub gather_pair-requires-clause-front : goal.gather_pair-requires-clause-front
gather_pair-requires-clause-front g c = subst (λ (bytes : List ℕ). 4 ≤ length bytes) (sym c.as_slice-key.ensures.value) c.requires.listed.0

pub gather_pair-requires-clause-line : goal.gather_pair-requires-clause-line
gather_pair-requires-clause-line g c =
    let short = c.requires.listed.1 in
    let few : length (line_of (pair_words (own_pair (c.args.self.now, c.args.value.now)))) ≤ 4097 = omega arith in
    let parts = ap₂ (λ (a : List ℕ) (b : List ℕ). (a, b)) (ap (drop 4) c.as_slice-key.ensures.value) c.as_slice.ensures.value in
    subst (λ (q : List ℕ × List ℕ). length (line_of (pair_words q)) ≤ 4097) (sym parts) few
