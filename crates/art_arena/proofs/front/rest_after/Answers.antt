use Rattle.std.proofs.Common.{length, sym, ◌∙◌, arith}
use Rattle.std.proofs.lemmas.List.{drop_all}
use Rattle.art_arena.proofs.shapes.Prefixes.{tail}
use Rattle.art_arena.proofs.front.rest_after.Goals as goal

pub returns-then-depth-bytes : goal.returns-then-depth-bytes
returns-then-depth-bytes c = tail c.args.depth c.args.bytes.now

pub returns : goal.returns
returns c = tail (length c.args.bytes.now) c.args.bytes.now ∙ drop_all (length c.args.bytes.now) c.args.bytes.now (omega arith) ∙ sym (drop_all c.args.depth c.args.bytes.now (omega arith))
