use Rattle.std.proofs.Common.{ℕ, List, arith, filter, subst, sym, refl}
use Rattle.std.specs.BTreeMap.Range.{range_contains}
use Rattle.std.specs.Range.Bound.{bound_map}
use Rattle.art_bytes.proofs.Common.{bytes_cmp}
use Rattle.art_operations.proofs.Common.{between_convex, SpanReads}
use Rattle.art_operations.proofs.Openings.{opening_of}
use Rattle.art_walks.proofs.Terms.{IsSpanOf, PairsWithin, ReadsPairs}
use Rattle.art_walks.proofs.MapReads.{keys-within, no-span, span-of, the-links, the-shape, the-stores, tree-read, where_none, where_some}
use Rattle.art_arena.proofs.Common.{key_of}
use Rattle.art_operations.specs.Openings.{range_reads}
use Rattle.art_walks.proofs.map_reader.MapReader+K+V+PREFIX_LEN.range.Goals as goal
use Rattle.art_walks.proofs.map_reader.MapReader+K+V+PREFIX_LEN.range.Goals.{After-find_range_segment_with}

pub find_range_segment_with-requires : goal.find_range_segment_with-requires
find_range_segment_with-requires g c = (
  omega arith,
  (
    the-shape g.K.AsBytes.bytes g.row.PREFIX_LEN c.self.inside.reader.arena.now c.in-Some.root
        c.self.invariant.0 (subst (λ r. ReadsPairs g.K.AsBytes.bytes g.row.PREFIX_LEN c.self.inside.reader.arena.now r c.self.invariant.0) c.in-Some.is
        c.self.invariant.1),
    the-stores g.K.AsBytes.bytes g.row.PREFIX_LEN c.self.inside.reader.arena.now c.in-Some.root c.self.invariant.0
        (subst (λ r. ReadsPairs g.K.AsBytes.bytes g.row.PREFIX_LEN c.self.inside.reader.arena.now r c.self.invariant.0) c.in-Some.is c.self.invariant.1),
    the-links g.K.AsBytes.bytes g.row.PREFIX_LEN c.self.inside.reader.arena.now c.in-Some.root c.self.invariant.0
        (subst (λ r. ReadsPairs g.K.AsBytes.bytes g.row.PREFIX_LEN c.self.inside.reader.arena.now r c.self.invariant.0) c.in-Some.is c.self.invariant.1),
  ),
)

pub returns-in-Some-clause-value : goal.returns-in-Some-clause-value
returns-in-Some-clause-value g c = rw (← c.self.view_is, ← c.bytes_of.ensures, ← c.bytes_of-in-Some.ensures) (λ pairs has.
    subst (λ a. IsSpanOf a pairs c.of.result (filter (λ p. range_contains bytes_cmp (bound_map (λ key. key.now) c.bytes_of.result) (bound_map (λ key. key.now) c.bytes_of-in-Some.result) (g.K.AsBytes.bytes p.0)) pairs)) (sym c.find_range_segment_with.ensures.kept)
    (subst (λ ends. IsSpanOf c.self.inside.reader.arena.now pairs ends (filter (λ p. range_contains bytes_cmp (bound_map (λ key. key.now) c.bytes_of.result) (bound_map (λ key. key.now) c.bytes_of-in-Some.result) (g.K.AsBytes.bytes p.0)) pairs)) (sym c.of.ensures)
    (span-of g.K.AsBytes.bytes g.row.PREFIX_LEN c.self.inside.reader.arena.now c.in-Some.root pairs
    (subst (λ r. ReadsPairs g.K.AsBytes.bytes g.row.PREFIX_LEN c.self.inside.reader.arena.now r pairs) c.in-Some.is has)
    (λ k. range_contains bytes_cmp (bound_map (λ key. key.now) c.bytes_of.result) (bound_map (λ key. key.now) c.bytes_of-in-Some.result) k)
    (between_convex (bound_map (λ key. key.now) c.bytes_of.result) (bound_map (λ key. key.now) c.bytes_of-in-Some.result)) c.find_range_segment_with.result
    (c.find_range_segment_with.ensures.value (the-shape g.K.AsBytes.bytes g.row.PREFIX_LEN c.self.inside.reader.arena.now c.in-Some.root pairs
    (subst (λ r. ReadsPairs g.K.AsBytes.bytes g.row.PREFIX_LEN c.self.inside.reader.arena.now r pairs) c.in-Some.is has))
    (the-stores g.K.AsBytes.bytes g.row.PREFIX_LEN c.self.inside.reader.arena.now c.in-Some.root pairs
    (subst (λ r. ReadsPairs g.K.AsBytes.bytes g.row.PREFIX_LEN c.self.inside.reader.arena.now r pairs) c.in-Some.is has))
    (the-links g.K.AsBytes.bytes g.row.PREFIX_LEN c.self.inside.reader.arena.now c.in-Some.root pairs
    (subst (λ r. ReadsPairs g.K.AsBytes.bytes g.row.PREFIX_LEN c.self.inside.reader.arena.now r pairs) c.in-Some.is has))))))

-- how much was read
reads : (g : _) (c : After-find_range_segment_with g) (pairs : List (g.row.K.Denot × g.row.V.Denot)) → ReadsPairs g.K.AsBytes.bytes g.row.PREFIX_LEN c.self.inside.reader.arena.now c.self.inside.root pairs
    → (longest : ℕ) → PairsWithin g.K.AsBytes.bytes longest pairs → SpanReads longest c.self.inside.reader.count c.find_range_segment_with.new.reader.count
reads g c pairs has longest short =
    c.find_range_segment_with.ensures.few (the-shape g.K.AsBytes.bytes g.row.PREFIX_LEN c.self.inside.reader.arena.now c.in-Some.root pairs
    (subst (λ r. ReadsPairs g.K.AsBytes.bytes g.row.PREFIX_LEN c.self.inside.reader.arena.now r pairs) c.in-Some.is has))
    (the-stores g.K.AsBytes.bytes g.row.PREFIX_LEN c.self.inside.reader.arena.now c.in-Some.root pairs
    (subst (λ r. ReadsPairs g.K.AsBytes.bytes g.row.PREFIX_LEN c.self.inside.reader.arena.now r pairs) c.in-Some.is has)) longest
    (keys-within g.K.AsBytes.bytes g.row.PREFIX_LEN c.self.inside.reader.arena.now c.in-Some.root pairs
    (subst (λ r. ReadsPairs g.K.AsBytes.bytes g.row.PREFIX_LEN c.self.inside.reader.arena.now r pairs) c.in-Some.is has) longest short)

pub returns-in-Some-clause-few : goal.returns-in-Some-clause-few
returns-in-Some-clause-few g c = rw (← c.self.view_is, ← c.bytes_of.ensures, ← c.bytes_of-in-Some.ensures) (λ pairs has longest most short within within_too. opening_of longest most _ _ (reads g (goal.at.returns-in-Some-clause-few g c).After-find_range_segment_with pairs has longest short))

pub returns-in-Some-clause-linear : goal.returns-in-Some-clause-linear
returns-in-Some-clause-linear g c = rw (← c.self.view_is) (reads g (goal.at.returns-in-Some-clause-linear g c).After-find_range_segment_with)

pub returns-in-None-clause-value : goal.returns-in-None-clause-value
returns-in-None-clause-value g c = rw (← c.self.view_is)
    (λ pairs has. (subst (λ ends. IsSpanOf c.self.inside.reader.arena.now pairs ends
    (filter (λ p. range_contains bytes_cmp (bound_map (λ key. g.Q.AsBytes.bytes key.now) c.args.start) (bound_map (λ key. g.Q.AsBytes.bytes key.now) c.args.end)
    (g.K.AsBytes.bytes p.0)) pairs)) (sym c.of-in-None.ensures)
    (no-span c.self.inside.reader.arena.now pairs (subst (λ r. ReadsPairs g.K.AsBytes.bytes g.row.PREFIX_LEN c.self.inside.reader.arena.now r pairs)
    c.in-None.is has).1.0 (λ p. range_contains bytes_cmp (bound_map (λ key. g.Q.AsBytes.bytes key.now) c.args.start)
    (bound_map (λ key. g.Q.AsBytes.bytes key.now) c.args.end) (g.K.AsBytes.bytes p.0)))))

pub returns-in-Some-clause-span : goal.returns-in-Some-clause-span
returns-in-Some-clause-span g c = (
  c.self.invariant.0,
  _,
  subst (λ a. IsSpanOf a c.self.invariant.0 c.of.result (filter (λ p. range_contains bytes_cmp (bound_map (λ key. key.now) c.bytes_of.result) (bound_map (λ key. key.now) c.bytes_of-in-Some.result) (g.K.AsBytes.bytes p.0)) c.self.invariant.0)) (sym c.find_range_segment_with.ensures.kept)
      (subst (λ ends. IsSpanOf c.self.inside.reader.arena.now c.self.invariant.0 ends (filter (λ p. range_contains bytes_cmp (bound_map (λ key. key.now) c.bytes_of.result) (bound_map (λ key. key.now) c.bytes_of-in-Some.result) (g.K.AsBytes.bytes p.0)) c.self.invariant.0)) (sym c.of.ensures)
      (span-of g.K.AsBytes.bytes g.row.PREFIX_LEN c.self.inside.reader.arena.now c.in-Some.root c.self.invariant.0
      (subst (λ r. ReadsPairs g.K.AsBytes.bytes g.row.PREFIX_LEN c.self.inside.reader.arena.now r c.self.invariant.0) c.in-Some.is c.self.invariant.1)
      (λ k. range_contains bytes_cmp (bound_map (λ key. key.now) c.bytes_of.result) (bound_map (λ key. key.now) c.bytes_of-in-Some.result) k)
      (between_convex (bound_map (λ key. key.now) c.bytes_of.result) (bound_map (λ key. key.now) c.bytes_of-in-Some.result))
      c.find_range_segment_with.result (c.find_range_segment_with.ensures.value
      (the-shape g.K.AsBytes.bytes g.row.PREFIX_LEN c.self.inside.reader.arena.now c.in-Some.root c.self.invariant.0
      (subst (λ r. ReadsPairs g.K.AsBytes.bytes g.row.PREFIX_LEN c.self.inside.reader.arena.now r c.self.invariant.0) c.in-Some.is c.self.invariant.1))
      (the-stores g.K.AsBytes.bytes g.row.PREFIX_LEN c.self.inside.reader.arena.now c.in-Some.root c.self.invariant.0
      (subst (λ r. ReadsPairs g.K.AsBytes.bytes g.row.PREFIX_LEN c.self.inside.reader.arena.now r c.self.invariant.0) c.in-Some.is c.self.invariant.1))
      (the-links g.K.AsBytes.bytes g.row.PREFIX_LEN c.self.inside.reader.arena.now c.in-Some.root c.self.invariant.0
      (subst (λ r. ReadsPairs g.K.AsBytes.bytes g.row.PREFIX_LEN c.self.inside.reader.arena.now r c.self.invariant.0) c.in-Some.is c.self.invariant.1))))),
)

pub returns-in-None-clause-span : goal.returns-in-None-clause-span
returns-in-None-clause-span g c = rw (← c.self.view_is) (
  c.self.invariant.0,
  _,
  (subst (λ ends. IsSpanOf c.self.inside.reader.arena.now c.self.invariant.0 ends
      (filter (λ p. range_contains bytes_cmp (bound_map (λ key. g.Q.AsBytes.bytes key.now) c.args.start) (bound_map (λ key. g.Q.AsBytes.bytes key.now) c.args.end)
      (g.K.AsBytes.bytes p.0)) c.self.invariant.0)) (sym c.of-in-None.ensures)
      (no-span c.self.inside.reader.arena.now c.self.invariant.0
      (subst (λ r. ReadsPairs g.K.AsBytes.bytes g.row.PREFIX_LEN c.self.inside.reader.arena.now r c.self.invariant.0) c.in-None.is c.self.invariant.1).1.0
      (λ p. range_contains bytes_cmp (bound_map (λ key. g.Q.AsBytes.bytes key.now) c.args.start) (bound_map (λ key. g.Q.AsBytes.bytes key.now) c.args.end)
      (g.K.AsBytes.bytes p.0)))),
)

pub returns-in-Some-clause-least : goal.returns-in-Some-clause-least
returns-in-Some-clause-least g c = rw (← c.self.view_is) (where_some _ c.in-Some.is c.find_range_segment_with.ensures.least)

pub returns-in-None-clause-least : goal.returns-in-None-clause-least
returns-in-None-clause-least g c = rw (← c.self.view_is) (where_none _ c.in-None.is refl)

pub returns-in-Some-clause-counts : goal.returns-in-Some-clause-counts
returns-in-Some-clause-counts g c = rw (← c.self.view_is, ← c.bytes_of.ensures, ← c.bytes_of-in-Some.ensures) (λ pairs has.
    tree-read g.K.AsBytes.bytes g.row.PREFIX_LEN c.self.inside.reader.arena.now c.in-Some.root pairs (subst (λ r. ReadsPairs g.K.AsBytes.bytes g.row.PREFIX_LEN c.self.inside.reader.arena.now r pairs) c.in-Some.is has)
    (λ t. range_reads (key_of g.K.AsBytes.bytes) g.row.PREFIX_LEN t (bound_map (λ key. key.now) c.bytes_of.result) (bound_map (λ key. key.now) c.bytes_of-in-Some.result)) _ _
    (c.find_range_segment_with.ensures.counts (the-shape g.K.AsBytes.bytes g.row.PREFIX_LEN c.self.inside.reader.arena.now c.in-Some.root pairs
    (subst (λ r. ReadsPairs g.K.AsBytes.bytes g.row.PREFIX_LEN c.self.inside.reader.arena.now r pairs) c.in-Some.is has))
    (the-stores g.K.AsBytes.bytes g.row.PREFIX_LEN c.self.inside.reader.arena.now c.in-Some.root pairs
    (subst (λ r. ReadsPairs g.K.AsBytes.bytes g.row.PREFIX_LEN c.self.inside.reader.arena.now r pairs) c.in-Some.is has))
    (the-links g.K.AsBytes.bytes g.row.PREFIX_LEN c.self.inside.reader.arena.now c.in-Some.root pairs
    (subst (λ r. ReadsPairs g.K.AsBytes.bytes g.row.PREFIX_LEN c.self.inside.reader.arena.now r pairs) c.in-Some.is has))))

pub returns-in-None-clause-counts : goal.returns-in-None-clause-counts
returns-in-None-clause-counts g c = rw (← c.self.view_is) (λ pairs has.
    let none = (subst (λ r. ReadsPairs g.K.AsBytes.bytes g.row.PREFIX_LEN c.self.inside.reader.arena.now r pairs) c.in-None.is has).1.0 in
    rw none (omega arith))
