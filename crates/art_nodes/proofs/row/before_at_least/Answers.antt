use Rattle.std.proofs.Common.{◌≡◌, ℕ, List, leb, min, take, w8, w64, arith, ap, ◌∙◌}
use Rattle.std.specs.Int.{trailing_zeros}
use Rattle.art_nodes.proofs.Terms.{place}
use Rattle.std.proofs.lemmas.Simd.{length-chunk}
use Rattle.std.proofs.lemmas.List.{take_all}
use lib.Lanes.{chunk}
use Rattle.art_nodes.proofs.RowLemmas.{before_lowest, bitmask_of_splat, place_is}
use Rattle.art_nodes.proofs.row.before_at_least.Goals as goal

pub returns : goal.returns
returns g c =
    let keys = c.args.keys.now in
    let n = g.row.N in
    let all : chunk 0 n keys ≡ keys = take_all n keys (omega (arith, c.requires.lanes)) in
    let long = length-chunk 0 n keys (omega (arith, c.requires.lanes)) in
    let marks = bitmask_of_splat w8 leb (chunk 0 n keys) n c.args.byte long (omega (arith, c.requires.lanes)) in
    let first = before_lowest (leb c.args.byte) (chunk 0 n keys) c.args.used (omega (arith, long, c.requires.lanes)) (omega (arith, long, c.requires.used)) in
    c.min.ensures ∙ ap (λ m. min (trailing_zeros w64 m) c.args.used) marks ∙ first ∙ place_is c.args.byte (take c.args.used (chunk 0 n keys)) ∙ ap (λ (xs : List ℕ). place (take c.args.used xs) c.args.byte) all
