use Rattle.std.proofs.Common.{ap}
use Rattle.std.specs.Cmp.Lexicographic.{nat_list_cmp_total}
use Rattle.std.specs.Ordering.{is_lt}
use Rattle.std.proofs.lemmas.List.MinMax.{ranks_by}
use Rattle.std.proofs.lemmas.List.Sorted.{answers_always}
use Rattle.art_map.proofs.SortedItems.{by-bytes, kept-in-order}
use Rattle.art_set.proofs.set.bulk.sort_by_bytes.Goals as goal

pub returns : goal.returns
returns g c =
    kept-in-order g.K.AsBytes.bytes c.args.keys.now.items c.sort_by-sorted.new.self.items
    (c.sort_by-sorted.ensures.stable (by-bytes g.K.AsBytes.bytes) (ranks_by nat_list_cmp_total g.K.AsBytes.bytes) (answers_always _ _ _ (λ f a r f' k. ap is_lt k.met)))
