use Rattle.std.proofs.Common.{arith, ap, sym, subst, ◌∙◌}
use Rattle.art_arena.proofs.Common.{node_at, path_to, steps_of, StoresAt, part_within}
use Rattle.art_operations.proofs.Terms.{met_by}
use Rattle.art_operations.proofs.Points.{way_at_depth}
use Rattle.art_operations.proofs.Stops.{answered, conflicts, EndsThere, inside, refused}
use Rattle.art_arena.proofs.Terms.{prefix_reads}
use Rattle.art_operations.proofs.WayParts.{way-at, way-stop}
use Rattle.art_operations.proofs.insert.point.find_insert_point_with.Goals as goal
use Rattle.art_operations.proofs.insert.point.find_insert_point_with.Goals.{After-search_end_with-way}

pub search_end_with-way-requires : goal.search_end_with-way-requires
search_end_with-way-requires g c =
    let stop = c.find_stop_with-stop.result in
    let kept = c.find_stop_with-stop.ensures.kept in
    let way = c.find_stop_with-stop.ensures.way c.requires.0 c.requires.1 in
    let at = way_at_depth g.K.AsBytes.bytes g.row.PREFIX_LEN (node_at c.args.reader.now.arena.now) c.args.key.now c.requires.0 stop.node (steps_of stop.path) stop.depth way in (
      omega arith,
      (
        (path_to way.ctx, way.part, subst (λ a. StoresAt g.K.AsBytes.bytes g.row.PREFIX_LEN a stop.node stop.depth (path_to way.ctx) way.part) (sym kept) at, way.toward.begins),
        λ path s there. c.find_stop_with-stop.ensures.stops path s (subst (λ a. StoresAt g.K.AsBytes.bytes g.row.PREFIX_LEN a stop.node stop.depth path s) kept there),
      ),
    )

-- what stands where it ended stands there now
ends : (g : _) (c : After-search_end_with-way g) → EndsThere g.K.AsBytes.bytes g.row.PREFIX_LEN c.args.reader.now.arena.now c.args.root c.args.key.now c.find_stop_with-stop.result c.find_stop_with-stop.ensures.way (met_by c.find_stop_with-stop.result.node c.search_end_with-way.result)
ends g c path s at = c.search_end_with-way.ensures.way path s (subst (λ a. StoresAt g.K.AsBytes.bytes g.row.PREFIX_LEN a c.find_stop_with-stop.result.node c.find_stop_with-stop.result.depth path s) (sym c.find_stop_with-stop.ensures.kept) at)

pub returns-clause-value : goal.returns-clause-value
returns-clause-value g c =
    rw c.point_or_conflict.ensures (answered g.K.AsBytes.bytes g.row.PREFIX_LEN c.args.reader.now.arena.now c.args.root c.args.key.now c.find_stop_with-stop.result c.find_stop_with-stop.ensures.way _ (ends g (goal.at.returns-clause-value g c).After-search_end_with-way))

pub returns-clause-few : goal.returns-clause-few
returns-clause-few g c = λ s tree longest short.
    let stop = c.find_stop_with-stop.result in
    let way = c.find_stop_with-stop.ensures.way s tree in
    let at = way_at_depth g.K.AsBytes.bytes g.row.PREFIX_LEN (node_at c.args.reader.now.arena.now) c.args.key.now s stop.node (steps_of stop.path) stop.depth way in
    let few = c.search_end_with-way.ensures.few (path_to way.ctx) way.part (subst (λ a. StoresAt g.K.AsBytes.bytes g.row.PREFIX_LEN a stop.node stop.depth (path_to way.ctx) way.part) (sym c.find_stop_with-stop.ensures.kept) at) longest
    (part_within g.K.AsBytes.bytes longest s way.ctx way.part way.toward.place.is short) in
    omega (arith, few, c.find_stop_with-stop.ensures.few s tree longest short)

pub returns-clause-counts : goal.returns-clause-counts
returns-clause-counts g c = λ s tree.
    let stop = c.find_stop_with-stop.result in
    let way = c.find_stop_with-stop.ensures.way s tree in
    let at = way_at_depth g.K.AsBytes.bytes g.row.PREFIX_LEN (node_at c.args.reader.now.arena.now) c.args.key.now s stop.node (steps_of stop.path) stop.depth way in
    let counts = c.search_end_with-way.ensures.counts (path_to way.ctx) way.part (subst (λ a. StoresAt g.K.AsBytes.bytes g.row.PREFIX_LEN a stop.node stop.depth (path_to way.ctx) way.part) (sym c.find_stop_with-stop.ensures.kept) at) in
    let e = way-at g.K.AsBytes.bytes c.args.key.now s way.ctx way.part way.toward.place way.toward.begins ∙ way-stop g.K.AsBytes.bytes c.args.key.now (path_to way.ctx) way.part way.toward.begins (c.find_stop_with-stop.ensures.stops (path_to way.ctx) way.part at way.toward.begins) in
    omega (arith, counts, c.find_stop_with-stop.ensures.counts s tree, ap (λ p. prefix_reads g.row.PREFIX_LEN p.0) e)

pub returns-clause-inside : goal.returns-clause-inside
returns-clause-inside g c =
    let d = (goal.at.returns-clause-inside g c).After-search_end_with-way in
    let stop = c.find_stop_with-stop.result in
    rw c.point_or_conflict.ensures (inside g.K.AsBytes.bytes g.row.PREFIX_LEN c.args.reader.now.arena.now c.args.root c.args.key.now stop c.find_stop_with-stop.ensures.way (met_by stop.node c.search_end_with-way.result) (ends g d)
    (λ none path part at. c.search_end_with-way.ensures.inside (conflicts stop.node c.search_end_with-way.result none) path part (subst (λ a. StoresAt g.K.AsBytes.bytes g.row.PREFIX_LEN a stop.node stop.depth path part) (sym c.find_stop_with-stop.ensures.kept) at)))

pub returns-clause-part : goal.returns-clause-part
returns-clause-part g c =
    let d = (goal.at.returns-clause-part g c).After-search_end_with-way in
    rw c.point_or_conflict.ensures (refused g.K.AsBytes.bytes g.row.PREFIX_LEN c.args.reader.now.arena.now c.args.root c.args.key.now c.find_stop_with-stop.result c.find_stop_with-stop.ensures.way (met_by c.find_stop_with-stop.result.node c.search_end_with-way.result) (ends g d))
