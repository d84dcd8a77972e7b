use Rattle.art_operations.proofs.NewNodes.{fewer}
use Rattle.std.proofs.Common.{◌+◌, arith, length, sym, ap, subst, ◌∙◌}
use Rattle.art_nodes.specs.declared.kind.NodeType.TheVariants.{Leaf}
use Rattle.art_arena.proofs.Common.{key_of, begins_with}
use Rattle.art_arena.specs.arena.Arena.{HasRoomOf}
use Rattle.art_operations.proofs.Common.{all-but-none}
use Rattle.art_map.proofs.Terms.{Block}
use Rattle.art_map.proofs.PrefixBlocks.{none-ready, none-visits}
use Rattle.art_map.proofs.map.TreeMap.cut_block.Goals as goal

pub returns-in-None-clause-pairs : goal.returns-in-None-clause-pairs
returns-in-None-clause-pairs g c = λ front known.
    sym (all-but-none (λ p. begins_with front (key_of g.K.AsBytes.bytes p)) c.args.self.now.pairs (none-ready g.K.AsBytes.bytes g.row.PREFIX_LEN c.args.self.now front c.args.block.part (ap (λ (b : Block). b.part) (sym c.block.view_is) ∙ c.in-None.is) known))

pub returns-in-None-clause-count : goal.returns-in-None-clause-count
returns-in-None-clause-count g c = λ front known.
    sym (ap length (none-ready g.K.AsBytes.bytes g.row.PREFIX_LEN c.args.self.now front c.args.block.part (ap (λ (b : Block). b.part) (sym c.block.view_is) ∙ c.in-None.is) known))

pub returns-in-None-clause-visits : goal.returns-in-None-clause-visits
returns-in-None-clause-visits g c = λ front known.
    ap (λ (b : Block). b.reads) c.block.view_is
    ∙ none-visits g.K.AsBytes.bytes front c.args.self.now.pairs (none-ready g.K.AsBytes.bytes g.row.PREFIX_LEN c.args.self.now front c.args.block.part (ap (λ (b : Block). b.part) (sym c.block.view_is) ∙ c.in-None.is) known) c.args.block.reads (omega arith)

pub returns-in-None-clause-names : goal.returns-in-None-clause-names
returns-in-None-clause-names g c = λ slot key has still. has

pub returns-in-None-clause-room : goal.returns-in-None-clause-room
returns-in-None-clause-room g c = λ n room. fewer c.args.self.now.nodes n (n + 1) (omega arith) room

pub returns-in-None-clause-leaf_room : goal.returns-in-None-clause-leaf_room
returns-in-None-clause-leaf_room g c = λ n room. subst (HasRoomOf c.args.self.now.nodes Leaf) (omega arith) room
