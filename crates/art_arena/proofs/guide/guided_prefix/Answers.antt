use Rattle.std.proofs.Common.{◌≡◌, ◌+◌, ◌≤◌, ◌-◌, drop, length, true, ap, ◌∙◌, arith, List, ℕ, IfSome}
use Rattle.art_nodes.proofs.Common.{Name}
use Rattle.art_arena.proofs.Terms.{IsGuide, Shape, erase, is_cut, prefix_of, IsReadAt}
use Rattle.art_arena.proofs.shapes.Guides.{read_begins}
use Rattle.art_arena.proofs.shapes.Prefixes.{read, Read}
use Rattle.art_arena.proofs.shapes.Reads.{cost_none, cost_once, cut_if, cut_not, found_if, found_not, read_len}
use Rattle.art_arena.proofs.guide.guided_prefix.Goals as goal
use Rattle.art_arena.proofs.guide.guided_prefix.Goals.{After-as_bytes-bytes}

-- what is read of the guide's key
is_read : (g : _) (c : After-as_bytes-bytes g) (root : Name) (path : List ℕ) (s : Shape g.row.K.Denot g.row.V.Denot)
    → IsReadAt g.K.AsBytes.bytes g.row.PREFIX_LEN c.args.reader.now.arena.now c.args.inner.now.node root c.args.depth path s
    → IfSome c.args.guide.now (λ leaf. IsGuide c.args.key.now (g.K.AsBytes.bytes leaf.now.key) path s)
    → Read c.args.depth c.prefix_len-len.result (prefix_of s) c.as_bytes-bytes.result.now
is_read g c root path s at guided =
    let len : c.prefix_len-len.result ≡ length (prefix_of s) = c.prefix_len-len.ensures ∙ read_len g.K.AsBytes.bytes g.row.PREFIX_LEN c.args.reader.now.arena.now c.args.inner.now.node root c.args.depth path s at in
    let begins = read_begins g.K.AsBytes.bytes g.row.PREFIX_LEN c.args.reader.now.arena.now c.args.inner.now.node root c.args.depth path s at c.args.key.now (g.K.AsBytes.bytes c.guide_at-leaf.result.now.key) (c.guide_at-leaf.ensures.guide root path s at guided) in
    let key = c.as_bytes-bytes.ensures.value ∙ ap g.K.AsBytes.bytes c.key_ref.ensures in
    rw key (read path (prefix_of s) (g.K.AsBytes.bytes c.guide_at-leaf.result.now.key) c.args.depth c.prefix_len-len.result at.stands.path_len len begins)

pub overflow_add-result : goal.overflow_add-result
overflow_add-result g c =
    let d = (goal.at.overflow_add-result g c).After-as_bytes-bytes in
    let r = c.requires.stands in
    let known : c.args.depth + c.prefix_len-len.result ≤ length c.as_bytes-bytes.result.now = (is_read g d r.0 r.1 r.2 r.3 r.4).within in
    omega arith

pub slice_bounds-result-end : goal.slice_bounds-result-end
slice_bounds-result-end g c =
    let d = (goal.at.slice_bounds-result-end g c).After-as_bytes-bytes in
    let r = c.requires.stands in
    let known : c.args.depth + c.prefix_len-len.result ≤ length c.as_bytes-bytes.result.now = (is_read g d r.0 r.1 r.2 r.3 r.4).within in
    omega arith

pub returns-clause-prefix : goal.returns-clause-prefix
returns-clause-prefix g c = λ root path s at guided.
    let d = (goal.at.returns-clause-prefix g c).After-as_bytes-bytes in
    let known = is_read g d root path s at guided in
    let n : c.args.depth + c.prefix_len-len.result - c.args.depth ≡ c.prefix_len-len.result = omega arith in
    rw n known.part

-- the prefix isn't wholly stored
cut : (g : _) (c : After-as_bytes-bytes g) (root : Name) (path : List ℕ) (s : Shape g.row.K.Denot g.row.V.Denot)
    → IsReadAt g.K.AsBytes.bytes g.row.PREFIX_LEN c.args.reader.now.arena.now c.args.inner.now.node root c.args.depth path s → is_cut g.row.PREFIX_LEN (erase s) ≡ true
cut g c root path s at =
    cut_if g.row.PREFIX_LEN s (omega (arith, c.prefix_len-len.ensures, read_len g.K.AsBytes.bytes g.row.PREFIX_LEN c.args.reader.now.arena.now c.args.inner.now.node root c.args.depth path s at, c.if-len.false))

pub returns-clause-found : goal.returns-clause-found
returns-clause-found g c = λ root path s at.
    let d = (goal.at.returns-clause-found g c).After-as_bytes-bytes in
    found_if c.args.guide.now c.guide_at-leaf.new.guide (is_cut g.row.PREFIX_LEN (erase s)) (cut g d root path s at) c.guide_at-leaf.ensures.found

pub returns-clause-counts : goal.returns-clause-counts
returns-clause-counts g c = λ root path s at.
    let d = (goal.at.returns-clause-counts g c).After-as_bytes-bytes in
    cost_once c.args.guide.now g.row.PREFIX_LEN (erase s) (drop c.args.depth c.args.key.now) _ _ (cut g d root path s at) (omega arith) (c.guide_at-leaf.ensures.counts root path s at)

pub returns-then-len-clause-found : goal.returns-then-len-clause-found
returns-then-len-clause-found g c = λ root path s at.
    let len = read_len g.K.AsBytes.bytes g.row.PREFIX_LEN c.args.reader.now.arena.now c.args.inner.now.node root c.args.depth path s at in
    found_not c.args.guide.now (is_cut g.row.PREFIX_LEN (erase s)) (cut_not g.row.PREFIX_LEN s (omega (arith, len, c.prefix_len-len.ensures, c.if-len.true)))

pub returns-then-len-clause-counts : goal.returns-then-len-clause-counts
returns-then-len-clause-counts g c = λ root path s at.
    let len = read_len g.K.AsBytes.bytes g.row.PREFIX_LEN c.args.reader.now.arena.now c.args.inner.now.node root c.args.depth path s at in
    let none = cost_none c.args.guide.now g.row.PREFIX_LEN (erase s) (drop c.args.depth c.args.key.now) (cut_not g.row.PREFIX_LEN s (omega (arith, len, c.prefix_len-len.ensures, c.if-len.true))) in
    omega (arith, none)
