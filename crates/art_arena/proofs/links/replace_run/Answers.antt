use Rattle.std.proofs.Common.{refl, sym, ◌∙◌, arith}
use Rattle.art_arena.proofs.shapes.LinkedLists.{run_start, run_end, can_take_run}
use Rattle.art_arena.proofs.links.replace_run.Goals as goal

pub previous-previous-requires : goal.previous-previous-requires
previous-previous-requires g c =
    let r = c.requires in
    (omega arith, rw ((run_start _ r.0 r.1 r.2 r.3.list.linked _ r.4).1) refl)

pub next-next-requires : goal.next-next-requires
next-next-requires g c =
    let r = c.requires in
    (omega arith, rw ((run_end _ r.0 r.1 r.2 r.3.list.linked _ r.5).1) refl)

pub link_between-requires : goal.link_between-requires
link_between-requires g c =
    let r = c.requires in (
      omega arith,
      (r.0, r.2, can_take_run _ r.0 r.1 r.2 _ _ _ _ _ _ refl r.3 r.4 r.5 c.previous-previous.ensures c.next-next.ensures),
    )

pub returns-clause-linked : goal.returns-clause-linked
returns-clause-linked g c = λ xs run ys m beside first last m_is.
    c.link_between.ensures.linked xs ys m
    (can_take_run _ xs run ys _ _ _ _ _ _ refl beside first last c.previous-previous.ensures c.next-next.ensures)
    m_is

pub returns-clause-others : goal.returns-clause-others
returns-clause-others g c = λ start end there ends n apart before after.
    c.link_between.ensures.others n apart (λ e. before (sym (c.previous-previous.ensures start there) ∙ e)) (λ e. after (sym (c.next-next.ensures end ends) ∙ e))
