use Rattle.std.proofs.Common.{subst, sym}
use Rattle.use_address_blocks.specs.Blocks.{IsBlockOf}
use Rattle.use_address_blocks.proofs.Apart.{found_is_block}
use Rattle.use_address_blocks.proofs.block_of.Goals as goal

pub returns : goal.returns
returns c =
    subst (IsBlockOf c.args.address.now c.args.blocks.now.pairs) (sym c.prefix_get_key_value.ensures)
    (found_is_block c.args.blocks.now.pairs c.nodes.ensures.ordered c.args.address.now)
