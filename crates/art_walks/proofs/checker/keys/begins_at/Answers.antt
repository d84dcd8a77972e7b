use Rattle.std.proofs.Common.{length, take, drop}
use Rattle.std.proofs.lemmas.Bool.Decides.{Decides-eqb}
use Rattle.std.proofs.lemmas.Slice.Eq.{slice_eq-Decides}
use Rattle.art_arena.proofs.Common.{tail}
use Rattle.art_walks.proofs.checker.keys.begins_at.Goals as goal

pub returns : goal.returns
returns c =
    let rest = tail c.args.depth c.args.key.now in
    let told = c.starts_with.ensures.value in
    slice_eq-Decides Decides-eqb c.args.bytes.now (take (length c.args.bytes.now) (drop c.args.depth c.args.key.now)) c.starts_with.result (rw rest at told)
