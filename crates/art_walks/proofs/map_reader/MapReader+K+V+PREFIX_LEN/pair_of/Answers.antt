use Rattle.std.proofs.Common.{Some, [], ◌∷◌, ap₂, arith, subst, ◌∙◌}
use Rattle.art_operations.proofs.Common.{takes_key}
use Rattle.art_walks.proofs.Terms.{ReadsPairs, look_up_reads}
use Rattle.art_walks.proofs.MapReads.{pair-found, the-shape, the-stores, tree-read}
use Rattle.art_walks.proofs.map_reader.MapReader+K+V+PREFIX_LEN.pair_of.Goals as goal

pub search_leaf_with-requires : goal.search_leaf_with-requires
search_leaf_with-requires g c =
    let pairs = c.self.invariant.0 in
    let has = subst (λ r. ReadsPairs g.K.AsBytes.bytes g.row.PREFIX_LEN c.self.inside.reader.arena.now r pairs) c.in-Some.is c.self.invariant.1 in
    (omega arith, (the-shape g.K.AsBytes.bytes g.row.PREFIX_LEN c.self.inside.reader.arena.now c.in-Some.root pairs has, the-stores g.K.AsBytes.bytes g.row.PREFIX_LEN c.self.inside.reader.arena.now c.in-Some.root pairs has))

pub returns-clause-value : goal.returns-clause-value
returns-clause-value g c = rw (← c.self.view_is) (λ pairs has.
    let there = (subst (λ r. ReadsPairs g.K.AsBytes.bytes g.row.PREFIX_LEN c.self.inside.reader.arena.now r pairs) c.in-Some.is has) in
    ap₂ (λ k v. Some (k, v)) c.entry_ref.ensures.key c.entry_ref.ensures.value
    ∙ pair-found g.K.AsBytes.bytes g.row.PREFIX_LEN c.self.inside.reader.arena.now c.in-Some.root pairs there (takes_key c.args.of_fronts c.args.query.now)
    (record { slot = c.in-Some-search_leaf_with.found.name; key = c.in-Some-search_leaf_with.found.leaf.now.key; value = c.in-Some-search_leaf_with.found.leaf.now.value } ∷ [])
    (c.in-Some-search_leaf_with.ensures.value (the-shape g.K.AsBytes.bytes g.row.PREFIX_LEN c.self.inside.reader.arena.now c.in-Some.root pairs there) (the-stores g.K.AsBytes.bytes g.row.PREFIX_LEN c.self.inside.reader.arena.now c.in-Some.root pairs there)))

pub returns-in-None-search_leaf_with-clause-value : goal.returns-in-None-search_leaf_with-clause-value
returns-in-None-search_leaf_with-clause-value g c = rw (← c.self.view_is) (λ pairs has.
    let there = (subst (λ r. ReadsPairs g.K.AsBytes.bytes g.row.PREFIX_LEN c.self.inside.reader.arena.now r pairs) c.in-Some.is has) in
    pair-found g.K.AsBytes.bytes g.row.PREFIX_LEN c.self.inside.reader.arena.now c.in-Some.root pairs there (takes_key c.args.of_fronts c.args.query.now) []
    (c.in-None-search_leaf_with.ensures.value (the-shape g.K.AsBytes.bytes g.row.PREFIX_LEN c.self.inside.reader.arena.now c.in-Some.root pairs there) (the-stores g.K.AsBytes.bytes g.row.PREFIX_LEN c.self.inside.reader.arena.now c.in-Some.root pairs there)))

pub returns-clause-counts : goal.returns-clause-counts
returns-clause-counts g c = rw (← c.self.view_is) (λ pairs has.
    let there = subst (λ r. ReadsPairs g.K.AsBytes.bytes g.row.PREFIX_LEN c.self.inside.reader.arena.now r pairs) c.in-Some.is has in
    tree-read g.K.AsBytes.bytes g.row.PREFIX_LEN c.self.inside.reader.arena.now c.in-Some.root pairs there (look_up_reads g.row.PREFIX_LEN c.args.query.now) c.self.inside.reader.count c.search_leaf_with.new.reader.count
    (c.in-Some-search_leaf_with.ensures.counts (the-shape g.K.AsBytes.bytes g.row.PREFIX_LEN c.self.inside.reader.arena.now c.in-Some.root pairs there) (the-stores g.K.AsBytes.bytes g.row.PREFIX_LEN c.self.inside.reader.arena.now c.in-Some.root pairs there)))

pub returns-in-None-search_leaf_with-clause-counts : goal.returns-in-None-search_leaf_with-clause-counts
returns-in-None-search_leaf_with-clause-counts g c = rw (← c.self.view_is) (λ pairs has.
    let there = subst (λ r. ReadsPairs g.K.AsBytes.bytes g.row.PREFIX_LEN c.self.inside.reader.arena.now r pairs) c.in-Some.is has in
    tree-read g.K.AsBytes.bytes g.row.PREFIX_LEN c.self.inside.reader.arena.now c.in-Some.root pairs there (look_up_reads g.row.PREFIX_LEN c.args.query.now) c.self.inside.reader.count c.search_leaf_with.new.reader.count
    (c.in-None-search_leaf_with.ensures.counts (the-shape g.K.AsBytes.bytes g.row.PREFIX_LEN c.self.inside.reader.arena.now c.in-Some.root pairs there) (the-stores g.K.AsBytes.bytes g.row.PREFIX_LEN c.self.inside.reader.arena.now c.in-Some.root pairs there)))
