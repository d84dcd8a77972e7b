use Rattle.std.proofs.Common.{◌∷◌, ◌++◌, None, sym, ap, subst, ◌∙◌, arith}
use Rattle.art_arena.proofs.Common.{links_at, AreLinked, IsBeside, KeepsLinksOutside, kept-before, kept-after}
use Rattle.art_operations.proofs.NewLeaves.{goes_before, goes_after, after_last}
use Rattle.art_operations.proofs.insert.split.link_between.Goals as goal

pub insert_before-requires : goal.insert_before-requires
insert_before-requires g c =
    let r = c.requires in
    let b = goes_before c.args.is_before c.args.neighbour r.0 r.1 c.if-is_before.true r.3 in
    (omega arith, (r.0, b.first, b.more, subst (λ ys. IsBeside (links_at c.args.arena.now) (r.0 ++ ys) c.args.leaf) b.is r.2, b.named))

pub insert_after-requires : goal.insert_after-requires
insert_after-requires g c =
    let r = c.requires in
    let a = goes_after c.args.is_before c.args.neighbour r.0 r.1 c.if-is_before.false r.3 in
    (omega arith, (a.more, a.last, r.1, subst (λ xs. IsBeside (links_at c.args.arena.now) xs c.args.leaf) (ap (λ xs. xs ++ r.1) a.is ∙ after_last a.more a.last r.1) r.2, a.named))

pub returns-then-is_before-clause-linked : goal.returns-then-is_before-clause-linked
returns-then-is_before-clause-linked g c = λ xs ys m beside between m_is.
    let b = goes_before c.args.is_before c.args.neighbour xs ys c.if-is_before.true between in
    subst (λ zs. AreLinked (links_at c.insert_before.new.arena) None (xs ++ m ∷ zs) None) (sym b.is)
    (c.insert_before.ensures.linked xs b.first m b.more (subst (λ zs. IsBeside (links_at c.args.arena.now) (xs ++ zs) c.args.leaf) b.is beside) b.named m_is)

pub returns-else-is_before-clause-linked : goal.returns-else-is_before-clause-linked
returns-else-is_before-clause-linked g c = λ xs ys m beside between m_is.
    let a = goes_after c.args.is_before c.args.neighbour xs ys c.if-is_before.false between in
    subst (λ zs. AreLinked (links_at c.insert_after.new.arena) None zs None) (sym (ap (λ zs. zs ++ m ∷ ys) a.is ∙ after_last a.more a.last (m ∷ ys)))
    (c.insert_after.ensures.linked a.more a.last m ys (subst (λ zs. IsBeside (links_at c.args.arena.now) zs c.args.leaf) (ap (λ zs. zs ++ ys) a.is ∙ after_last a.more a.last ys) beside) a.named m_is)

pub returns-then-is_before-clause-others : goal.returns-then-is_before-clause-others
returns-then-is_before-clause-others g c = λ xs ys m beside between m_is.
    let b = goes_before c.args.is_before c.args.neighbour xs ys c.if-is_before.true between in
    let list = subst (λ zs. IsBeside (links_at c.args.arena.now) (xs ++ zs) c.args.leaf) b.is beside in
    subst (λ zs. KeepsLinksOutside (links_at c.args.arena.now) (links_at c.insert_before.new.arena) (xs ++ m ∷ zs)) (sym b.is)
    (kept-before (links_at c.args.arena.now) (links_at c.insert_before.new.arena) xs b.first m b.more c.args.neighbour c.args.leaf b.named m_is list.list.linked c.insert_before.ensures.others)

pub returns-else-is_before-clause-others : goal.returns-else-is_before-clause-others
returns-else-is_before-clause-others g c = λ xs ys m beside between m_is.
    let a = goes_after c.args.is_before c.args.neighbour xs ys c.if-is_before.false between in
    let list = subst (λ zs. IsBeside (links_at c.args.arena.now) zs c.args.leaf) (ap (λ zs. zs ++ ys) a.is ∙ after_last a.more a.last ys) beside in
    subst (λ zs. KeepsLinksOutside (links_at c.args.arena.now) (links_at c.insert_after.new.arena) (zs ++ m ∷ ys)) (sym a.is)
    (kept-after (links_at c.args.arena.now) (links_at c.insert_after.new.arena) a.more a.last m ys c.args.neighbour c.args.leaf a.named m_is list.list.linked c.insert_after.ensures.others)
