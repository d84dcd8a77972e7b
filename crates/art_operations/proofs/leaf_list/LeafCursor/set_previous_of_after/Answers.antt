use Rattle.std.proofs.Common.{Some, refl, ap, sym, subst, ◌∙◌, IsSome, arith}
use Rattle.art_operations.proofs.LeafListsParted.{led-back, start-there}
use Rattle.art_operations.proofs.leaf_list.LeafCursor.set_previous_of_after.Goals as goal

pub set_previous-requires : goal.set_previous-requires
set_previous-requires g c =
    let r = c.requires in
    let there = start-there c.args.arena.now c.args.self.now r.0 r.1 r.2 r.3 r.4 c.in-Some.after c.in-Some.is in
    (omega arith, subst IsSome (sym there.1) refl)

pub returns-in-Some-clause-parted : goal.returns-in-Some-clause-parted
returns-in-Some-clause-parted g c = λ front next previous back is.
    led-back c.args.arena.now c.set_previous.new.arena c.args.self.now front next previous back c.args.leaf is c.in-Some.after c.in-Some.is c.set_previous.ensures.links

pub returns-in-Some-clause-cells : goal.returns-in-Some-clause-cells
returns-in-Some-clause-cells g c = λ n.
    let r = c.requires in
    let there = start-there c.args.arena.now c.args.self.now r.0 r.1 r.2 r.3 r.4 c.in-Some.after c.in-Some.is in
    (c.set_previous.ensures.links there.0 there.1).nodes n

pub returns-in-Some-clause-others : goal.returns-in-Some-clause-others
returns-in-Some-clause-others g c = λ n apart.
    let r = c.requires in
    let there = start-there c.args.arena.now c.args.self.now r.0 r.1 r.2 r.3 r.4 c.in-Some.after c.in-Some.is in
    (c.set_previous.ensures.links there.0 there.1).links.others n (λ e. apart (c.in-Some.is ∙ ap Some (sym e)))
