use Rattle.std.proofs.Common.{sym, ap, subst, ◌∙◌}
use Rattle.std.specs.List.{AllByRecursion}
use Rattle.art_operations.proofs.Common.{Builds, HasLeavesOf}
use Rattle.art_arena.proofs.Common.{HasRoom}
use Rattle.art_map.proofs.Built.{nodes-settled}
use Rattle.art_map.proofs.RoomLeft.{map-left}
use Rattle.art_map.proofs.map.builder.TreeMapBuilder.reopen.Goals as goal

pub returns-in-Ok-clause-pairs : goal.returns-in-Ok-clause-pairs
returns-in-Ok-clause-pairs g c = λ pairs has.
    let same = ap (λ m. m.pairs) c.replace.ensures.value ∙ has in
    let tree = c.in-Ok.ensures.ok in (
      subst (Builds g.K.AsBytes.bytes g.row.PREFIX_LEN c.in-Ok.arena c.in-Ok.builder) same tree.0,
      subst (AllByRecursion (λ p. g.K.AsBytes.is_key p.0)) same tree.1,
      ap (λ m. m.pairs) c.replace.ensures.after ∙ c.with_prefix_len-empty.ensures.pairs,
    )

pub returns-in-Ok-clause-names : goal.returns-in-Ok-clause-names
returns-in-Ok-clause-names g c = subst (HasLeavesOf g.K.AsBytes.bytes c.in-Ok.arena) (ap (λ m. m.nodes) c.replace.ensures.value) c.in-Ok.ensures.names

pub returns-in-Err-clause-names : goal.returns-in-Err-clause-names
returns-in-Err-clause-names g c =
    let old = c.args.self.now in
    let names = subst (HasLeavesOf g.K.AsBytes.bytes c.in-Err.map.nodes) (ap (λ m. m.nodes) c.replace.ensures.value) c.in-Err.ensures.names in
    subst (λ a. HasLeavesOf g.K.AsBytes.bytes a old.map.nodes)
    (sym (nodes-settled {P = g.row.PREFIX_LEN} g.K.AsBytes.bytes (record { alloc = old.alloc; in_order = old.in_order; wait = old.wait; pause = old.pause; arena = old.arena; builder = old.builder; map = c.in-Err.map }) c.requires.settled)) names

pub returns-in-Ok-clause-room : goal.returns-in-Ok-clause-room
returns-in-Ok-clause-room g c = λ n room. c.in-Ok.ensures.room n (subst (λ m. HasRoom m.nodes n) (sym c.replace.ensures.value) room)

pub returns-in-Err-clause-room : goal.returns-in-Err-clause-room
returns-in-Err-clause-room g c = λ n room.
    let old = c.args.self.now in
    map-left {P = g.row.PREFIX_LEN} (record { alloc = old.alloc; in_order = old.in_order; wait = old.wait; pause = old.pause; arena = old.arena; builder = old.builder; map = c.in-Err.map }) n c.requires.settled
    (c.in-Err.ensures.room n (subst (λ m. HasRoom m.nodes n) (sym c.replace.ensures.value) room))
