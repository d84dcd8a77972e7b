use Rattle.std.proofs.Common.{refl, sym, ap, ◌∙◌, arith}
use Rattle.art_arena.proofs.Common.{key_of}
use Rattle.art_operations.proofs.Common.{overlapping}
use Rattle.art_walks.proofs.Common.{recounted, run-pairs}
use Rattle.art_map.proofs.map.prefix_entry.inner.InnerOccupiedEntry+K+V+PREFIX_LEN.iter_mut.Goals as goal

pub run_mut-requires : goal.run_mut-requires
run_mut-requires g c = (omega arith, (omega arith, ∣ recounted c.args.self.now.map.now.nodes c.walk_over-leaves.result _ c.walk_over-leaves.ensures.run ∣₁))

pub returns : goal.returns
returns g c = (
  (sym c.run_mut.ensures.same_map.0, λ w. refl),
  record {
    writes_back = tt;
    unchanged = c.run_mut.ensures.same_map.1;
    rest =
        c.run_mut.ensures.rest
        ∙ run-pairs c.args.self.now.map.now.nodes c.walk_over-leaves.result _ c.walk_over-leaves.ensures.run
        ∙ c.walk_over-leaves.ensures.pairs_are
        ∙ ap (λ k. overlapping (key_of g.K.AsBytes.bytes) k c.args.self.now.map.now.pairs) c.as_bytes.ensures.value;
  },
)
