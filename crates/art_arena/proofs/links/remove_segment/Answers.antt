use Rattle.std.proofs.Common.{None, sym, ◌∙◌, subst, refl, arith}
use Rattle.art_arena.proofs.Terms.{links_at, AreHalves, last_slot}
use Rattle.art_arena.proofs.shapes.LinkedLists.{run_start, run_end, run_previous, run_next, around_run, joined}
use Rattle.art_arena.proofs.links.remove_segment.Goals as goal

pub previous-previous-requires : goal.previous-previous-requires
previous-previous-requires g c =
    let r = c.requires in
    (omega arith, rw ((run_start _ r.0 r.1 r.2 r.3.linked _ r.4).1) refl)

pub next-following-requires : goal.next-following-requires
next-following-requires g c =
    let r = c.requires in
    (omega arith, rw ((run_end _ r.0 r.1 r.2 r.3.linked _ r.5).1) refl)

pub link_end-requires : goal.link_end-requires
link_end-requires g c =
    let r = c.requires in
    (omega arith, (r.0, r.2, _, _, around_run _ r.0 r.1 r.2 r.3.linked r.3.once, run_previous _ r.0 r.1 r.2 r.3.linked _ r.4 _ c.previous-previous.ensures))

pub link_start-requires : goal.link_start-requires
link_start-requires g c =
    let r = c.requires in
    let last = run_previous _ r.0 r.1 r.2 r.3.linked _ r.4 _ c.previous-previous.ensures in
    let first = run_next _ r.0 r.1 r.2 r.3.linked _ r.5 _ c.next-following.ensures in
    (omega arith, (r.0, r.2, _, _, c.link_end.ensures.halves _ _ _ _ (around_run _ r.0 r.1 r.2 r.3.linked r.3.once) last, first))

pub returns-clause-linked : goal.returns-clause-linked
returns-clause-linked g c = λ xs run ys list starts ends.
    let last = run_previous _ xs run ys list.linked _ starts _ c.previous-previous.ensures in
    let first = run_next _ xs run ys list.linked _ ends _ c.next-following.ensures in
    let end = c.link_end.ensures.halves xs ys _ _ (around_run _ xs run ys list.linked list.once) last in
    let both = c.link_start.ensures.halves xs ys _ _ end first in
    joined _ xs ys (subst (λ a. AreHalves (links_at c.link_start.new.arena) xs a (last_slot None xs) ys) (sym first)
    (subst (λ b. AreHalves (links_at c.link_start.new.arena) xs c.next-following.result b ys) (sym last) both))

pub returns-clause-room : goal.returns-clause-room
returns-clause-room g c = λ n room. c.link_start.ensures.room n (c.link_end.ensures.room n room)

pub returns-clause-others : goal.returns-clause-others
returns-clause-others g c = λ start end there ends n before after.
    c.link_start.ensures.others n (λ e. after (sym (c.next-following.ensures end ends) ∙ e)) ∙ c.link_end.ensures.others n (λ e. before (sym (c.previous-previous.ensures start there) ∙ e))
