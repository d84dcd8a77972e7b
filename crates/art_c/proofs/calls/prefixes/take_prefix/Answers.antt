use Rattle.std.proofs.Common.{ap, subst, sym, ◌∙◌}
use Rattle.art_map.specs.Extractions.{left_of, map_of}
use Rattle.art_arena.proofs.Common.{key_of, with_front}
use Rattle.art_c.specs.Calls.{whole}
use Rattle.art_c.specs.Prefixes.{AreTakenOut, TakingLeavesRoom}
use Rattle.art_c.specs.Spans.{while_so}
use Rattle.art_c.proofs.Prefixes.{first-have, has-it}
use Rattle.art_c.proofs.calls.prefixes.take_prefix.Goals as goal

pub returns : goal.returns
returns c =
    let prefix = c.args.prefix.now in let r = c.take_first-taken.result in let words = c.args.words.now in
    let start = c.extraction-pairs.ensures in let end = c.map-1.given in
    let same = sym (c.take_first-taken.ensures.same_map ∙ start.same_map.0) in
    let have = ap (while_so (has-it prefix)) start.left ∙ first-have prefix c.args.map.now.pairs c.nodes-root.ensures.ordered in
    let new = (map_of c.take_first-taken.new.pairs).now.pairs in let told = c.take_first-taken.new.words in
    let made = (map_of c.take_first-taken.new.pairs).now in (
      subst (λ ps. AreTakenOut (with_front (key_of whole) prefix c.args.map.now.pairs) c.args.map.now.pairs words r ps told)
          (sym (ap (λ m. m.pairs) (end.1 same)))
          (subst (λ ps. AreTakenOut ps c.args.map.now.pairs words r new told) have
          (subst (λ m. AreTakenOut (while_so (has-it prefix) (left_of c.extraction-pairs.result)) m.pairs words r new told) start.same_map.1
          c.take_first-taken.ensures.taken)),
      subst (λ m. TakingLeavesRoom r.0 r.1 c.args.map.now.nodes m.nodes) (sym (end.1 same))
          (subst (λ m. TakingLeavesRoom r.0 r.1 m.nodes made.nodes) start.same_map.1 c.take_first-taken.ensures.room),
    )
