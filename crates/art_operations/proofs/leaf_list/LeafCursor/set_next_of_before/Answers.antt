use Rattle.std.proofs.Common.{Some, refl, ap, sym, subst, ◌∙◌, IsSome, arith}
use Rattle.art_operations.proofs.LeafListsParted.{end-there, led-none, led-to}
use Rattle.art_operations.proofs.leaf_list.LeafCursor.set_next_of_before.Goals as goal

pub set_next-requires : goal.set_next-requires
set_next-requires g c =
    let r = c.requires in
    let there = end-there c.args.arena.now c.args.self.now r.0 r.1 r.2 r.3 r.4 c.in-Some.before c.in-Some.is in
    (omega arith, subst IsSome (sym there.1) refl)

pub returns-in-Some-clause-parted : goal.returns-in-Some-clause-parted
returns-in-Some-clause-parted g c = λ front next previous back is.
    led-to c.args.arena.now c.set_next.new.arena c.args.self.now front next previous back c.args.leaf is c.in-Some.before c.in-Some.is c.set_next.ensures.links

pub returns-in-Some-clause-cells : goal.returns-in-Some-clause-cells
returns-in-Some-clause-cells g c = λ n.
    let r = c.requires in
    let there = end-there c.args.arena.now c.args.self.now r.0 r.1 r.2 r.3 r.4 c.in-Some.before c.in-Some.is in
    (c.set_next.ensures.links there.0 there.1).nodes n

pub returns-in-Some-clause-others : goal.returns-in-Some-clause-others
returns-in-Some-clause-others g c = λ n apart.
    let r = c.requires in
    let there = end-there c.args.arena.now c.args.self.now r.0 r.1 r.2 r.3 r.4 c.in-Some.before c.in-Some.is in
    (c.set_next.ensures.links there.0 there.1).links.others n (λ e. apart (c.in-Some.is ∙ ap Some (sym e)))

pub returns-in-None-clause-parted : goal.returns-in-None-clause-parted
returns-in-None-clause-parted g c = λ front next previous back is. led-none c.args.arena.now c.args.self.now front next previous back c.args.leaf c.in-None.is is
