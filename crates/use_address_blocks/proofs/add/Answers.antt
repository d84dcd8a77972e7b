use Rattle.std.proofs.Common.{ℕ}
use Rattle.std.specs.Global.{Vec}
use Rattle.use_address_blocks.proofs.Apart.{put_is_block, blocked_by}
use Rattle.use_address_blocks.proofs.add.Goals as goal

pub returns-in-Ok-clause-added : goal.returns-in-Ok-clause-added
returns-in-Ok-clause-added c =
    let pairs = c.in-Ok.ensures.pairs in (
      pairs,
      λ a h. put_is_block (c.args.octets, c.args.owner) _ c.try_insert.new.self.pairs pairs
          c.nodes.ensures.ordered a h,
    )

pub returns-in-Prefix-clause-added : goal.returns-in-Prefix-clause-added
returns-in-Prefix-clause-added c =
    let p = c.in-Prefix in
    let why = blocked_by (λ (k : Vec ℕ). k.items) c.args.blocks.now.pairs c.args.octets c.args.owner c.in-Err.refused
    p.key p.value p.error p.is c.in-Err.ensures.refused in
    (c.in-Err.ensures.err, why.0, why.1, why.2)
