use Rattle.std.proofs.Common.{◌≡◌, ◌-◌, length, Some, slice_get, sym, subst, ◌∙◌}
use Rattle.art_operations.proofs.Spines.{begin-last}
use Rattle.art_operations.proofs.build.spine.Spine.begin.Goals as goal

pub returns-in-Some : goal.returns-in-Some
returns-in-Some c =
    let at : Some c.in-Some.top.now ≡ slice_get c.args.self.now.stack.items (length c.args.self.now.stack.items - 1) =
    subst (λ xs. Some c.in-Some.top.now ≡ slice_get xs (length xs - 1)) c.deref.ensures.value c.in-Some.ensures.value in
    c.max.ensures ∙ sym (begin-last c.args.low c.args.self.now.stack.items c.in-Some.top.now at)
