use Rattle.std.proofs.Common.{◌∙◌, Some, ap, drop, length, List, ℕ, lit<}
use Rattle.art_nodes.proofs.Common.{Name}
use Rattle.art_arena.proofs.Terms.{prefix_of, IsReadAt, IsVisitedAt, Shape, held_of}
use Rattle.art_arena.proofs.shapes.Subtrees.{leaves_begin_prefix}
use Rattle.art_arena.proofs.shapes.Prefixes.{tail, begins_of, begins_not, mismatches}
use Rattle.art_arena.proofs.reader.VisitedNode.match_full_prefix_with.Goals as goal
use Rattle.art_arena.proofs.reader.VisitedNode.match_full_prefix_with.Goals.{After-inner-inner}

-- the node that was read
is_read : (g : _) (c : After-inner-inner g) (root : Name) (path : List ℕ) (s : Shape g.row.K.Denot g.row.V.Denot)
    → IsVisitedAt g.K.AsBytes.bytes g.row.PREFIX_LEN c.args.reader.now.arena.now (held_of c.args.self.now) root c.args.depth path s
    → IsReadAt g.K.AsBytes.bytes g.row.PREFIX_LEN c.args.reader.now.arena.now c.inner-inner.result.node root c.args.depth path s
is_read g c root path s at = record { stands = at.stands; held = at.held ∙ ap Some c.inner-inner.ensures.value }

pub full_prefix_of-requires : goal.full_prefix_of-requires
full_prefix_of-requires g c =
    let d = (goal.at.full_prefix_of-requires g c).After-inner-inner in
    let r = c.requires.stands in
    (lit< tt, (lit< tt, (r.0, r.1, r.2, is_read g d r.0 r.1 r.2 r.3)))

pub returns-then-starts_with-clause-matches : goal.returns-then-starts_with-clause-matches
returns-then-starts_with-clause-matches g c = λ root path s at.
    let d = (goal.at.returns-then-starts_with-clause-matches g c).After-inner-inner in
    let read = is_read g d root path s at in
    let p = c.full_prefix_of.ensures in
    let is = p.prefix root path s read in
    record {
      ok = (ap length is, begins_of c.starts_with.result _ (drop c.args.depth c.args.key.now) _ (prefix_of s) (tail c.args.depth c.args.key.now) is c.starts_with.ensures.value c.if-starts_with.true);
      err = tt;
      stored = p.stored root path s read;
      lent = p.lent root path s read;
      few = p.few root path s read;
    }

pub returns-clause-matches : goal.returns-clause-matches
returns-clause-matches g c = λ root path s at.
    let d = (goal.at.returns-clause-matches g c).After-inner-inner in
    let read = is_read g d root path s at in
    let p = c.full_prefix_of.ensures in
    let is = p.prefix root path s read in
    let rest = tail c.args.depth c.args.key.now in
    record {
      ok = tt;
      err =
          mismatches g.K.AsBytes.bytes c.args.key.now path c.args.depth s c.count_agreeing.result c.cmp.result at.stands.path_len
          (leaves_begin_prefix g.K.AsBytes.bytes path s at.stands.subtree.under)
          (begins_not c.starts_with.result _ (drop c.args.depth c.args.key.now) _ (prefix_of s) rest is c.starts_with.ensures.value c.if-starts_with.false)
          (rw (is, rest) at c.count_agreeing.ensures.value) (rw (is, rest) at c.cmp.ensures);
      stored = p.stored root path s read;
      lent = p.lent root path s read;
      few = p.few root path s read;
    }
