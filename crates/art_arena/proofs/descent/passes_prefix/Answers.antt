use Rattle.std.proofs.Common.{◌≡◌, arith, drop, length, refl, sym, ◌∙◌}
use Rattle.art_arena.proofs.Terms.{erase, prefix_of}
use Rattle.art_arena.proofs.shapes.Prefixes.{tail}
use Rattle.art_arena.proofs.shapes.Reads.{cost_none, cut_not, read_len}
use Rattle.art_arena.proofs.Words.{begins_empty}
use Rattle.art_arena.proofs.descent.passes_prefix.Goals as goal

pub returns-then-prefix_len-eq0-clause-passes : goal.returns-then-prefix_len-eq0-clause-passes
returns-then-prefix_len-eq0-clause-passes g c = λ root path s at guided.
    let len = read_len g.K.AsBytes.bytes g.row.PREFIX_LEN c.args.reader.now.arena.now c.args.inner.now.node root c.args.depth path s at in
    let none : length (prefix_of s) ≡ 0 = sym len ∙ sym c.prefix_len.ensures ∙ c.if-prefix_len-eq0.true in
    (λ _. begins_empty (prefix_of s) none _, λ _. refl)

pub returns-clause-passes : goal.returns-clause-passes
returns-clause-passes g c = λ root path s at guided.
    let same = c.guided_prefix-prefix.ensures.prefix root path s at guided in
    rw (← same, ← tail c.args.depth c.args.key.now) c.begins_with.ensures

pub returns-then-prefix_len-eq0-clause-counts : goal.returns-then-prefix_len-eq0-clause-counts
returns-then-prefix_len-eq0-clause-counts g c = λ root path s at most.
    let len = read_len g.K.AsBytes.bytes g.row.PREFIX_LEN c.args.reader.now.arena.now c.args.inner.now.node root c.args.depth path s at in
    let none = cost_none c.args.guide.now g.row.PREFIX_LEN (erase s) (drop c.args.depth c.args.key.now) (cut_not g.row.PREFIX_LEN s (omega (arith, len, c.prefix_len.ensures, c.if-prefix_len-eq0.true))) in
    omega (arith, none, most)
