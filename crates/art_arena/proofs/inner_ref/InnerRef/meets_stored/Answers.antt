use Rattle.std.proofs.Common.{sym, ap, ◌∙◌, eqb-true, length, drop}
use Rattle.art_arena.proofs.shapes.Prefixes.{tail}
use Rattle.art_arena.proofs.Words.{begins_empty}
use Rattle.art_arena.proofs.inner_ref.InnerRef.meets_stored.Goals as goal

pub returns-then-is_empty : goal.returns-then-is_empty
returns-then-is_empty g c =
    let none = eqb-true (length c.read_prefix-stored.result.now) 0 (sym c.is_empty.ensures ∙ c.if-is_empty.true) in
    (λ _. begins_empty c.args.self.now.node.header.stored (sym (ap length c.read_prefix-stored.ensures) ∙ none) (drop c.args.depth c.args.key.now), λ _. c.if-is_empty.true)

pub returns-else-is_empty : goal.returns-else-is_empty
returns-else-is_empty g c = rw (← c.read_prefix-stored.ensures, ← tail c.args.depth c.args.key.now) c.begins_with_short.ensures
