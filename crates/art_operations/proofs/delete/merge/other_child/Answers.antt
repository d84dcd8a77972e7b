use Rattle.std.proofs.Common.{sym, ◌∙◌}
use Rattle.art_nodes.proofs.Common.{first_child, last_child}
use Rattle.art_operations.proofs.NodesRead.{read_at}
use Rattle.art_operations.proofs.OtherChild.{first-other, last-other, has_first, has_last}
use Rattle.art_operations.proofs.delete.merge.other_child.Goals as goal

pub returns-then-first-byte : goal.returns-then-first-byte
returns-then-first-byte g c = λ n other there two. first-other n.children c.args.byte other two c.in-Some.first (sym (read_at (λ m. first_child m.children) _ n _ there c.inner-inner.ensures.value _ c.first_child.ensures) ∙ c.in-Some.is) c.if-first-byte.true

pub unreachable-requires : goal.unreachable-requires
unreachable-requires g c = let t = c.requires.two in has_first t.0.children c.args.byte t.1 t.3 (sym (read_at (λ m. first_child m.children) _ t.0 _ t.2 c.inner-inner.ensures.value _ c.first_child.ensures) ∙ c.in-None.is)

pub unreachable-requires-in-None-last_child : goal.unreachable-requires-in-None-last_child
unreachable-requires-in-None-last_child g c = let t = c.requires.two in has_last t.0.children c.args.byte t.1 t.3 (sym (read_at (λ m. last_child m.children) _ t.0 _ t.2 c.inner-inner.ensures.value _ c.last_child.ensures) ∙ c.in-None-last_child.is)

pub returns : goal.returns
returns g c = λ n other there two.
    last-other n.children c.args.byte other two c.in-Some.first
    (sym (read_at (λ m. first_child m.children) _ n _ there c.inner-inner.ensures.value _ c.first_child.ensures) ∙ c.in-Some.is) c.if-first-byte.false
    c.in-Some-last_child.last (sym (read_at (λ m. last_child m.children) _ n _ there c.inner-inner.ensures.value _ c.last_child.ensures)
    ∙ c.in-Some-last_child.is)
