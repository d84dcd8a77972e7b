use Rattle.art_operations.proofs.Terms.{IsCloned}
use Rattle.art_operations.proofs.Clones.{delete-clones}
use Rattle.art_operations.proofs.RepeatedClones.{cloned-keeps}
use Rattle.art_operations.proofs.running.execute.Goals as goal

pub returns-in-Insert : goal.returns-in-Insert
returns-in-Insert g c n pairs has = rw (c.in-Insert.is) (c.insert.ensures n pairs has)

pub returns-in-PrefixInsert : goal.returns-in-PrefixInsert
returns-in-PrefixInsert g c n pairs has = rw (c.in-PrefixInsert.is) (c.prefix_insert.ensures n pairs has)

pub returns-in-Delete : goal.returns-in-Delete
returns-in-Delete g c n pairs has =
    rw (c.in-Delete.is)
    (delete-clones g.K.AsBytes.bytes (IsCloned g.K.Clone.is_clone n) (IsCloned g.V.Clone.is_clone n) (cloned-keeps g.K.Clone.is_clone g.K.AsBytes.bytes c.requires.keys n)
    g.row.PREFIX_LEN c.args.arena.now c.delete.new.arena c.args.root pairs c.in-Delete.key c.delete.result c.delete.ensures has)

pub returns-in-Clone : goal.returns-in-Clone
returns-in-Clone g c n pairs has = rw (c.in-Clone.is) (c.clone_tree.ensures n pairs has)
