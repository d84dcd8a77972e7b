use Rattle.std.proofs.Common.{◌≡◌, ◌+◌, arith, refl}
use Rattle.art_operations.proofs.JoinedPrefixes.{covered}
use Rattle.art_operations.proofs.delete.merge.joined_prefix.Goals as goal

pub push_prefix-requires-2 : goal.push_prefix-requires-2
push_prefix-requires-2 g c =
    let len : c.push_prefix.new.self.prefix_len ≡ c.args.above.now.prefix_len + 1 = rw (c.push_prefix.ensures, c.without_children-prefix.ensures) refl in (
      omega arith,
      (
        covered g.row.PREFIX_LEN c.args.above.now c.args.below.now c.without_children-prefix.result c.push_prefix.new.self c.args.byte c.prefix_len.result c.read_prefix.result.now
            c.num_children-above.ensures.is_header.stores c.num_children-below.ensures.is_header.stores c.without_children-prefix.ensures c.push_prefix.ensures c.read_prefix.ensures c.prefix_len.ensures,
        omega (arith, len, c.prefix_len.ensures, c.requires.fits),
      ),
    )
