-- The order of keys. A key is a list of bytes; an item of any type has a key, by a function `key`.
pub mod Order
-- What an insertion and a removal do to an ascending list of items.
pub mod Changes
-- Trees over items that have keys, and which of them are canonical.
pub mod Trees
-- The tree of an ascending list of items, built from the list at once.
pub mod TreeOf
-- The kinds of inner nodes, told by the number of children. The table of kinds is that of the nodes.
pub mod Kinds
-- The nodes on the way to a key.
pub mod Paths
-- Where the descent of a key ends, by its bytes and those of the prefixes.
pub mod Landing
-- The fronts that keys share, and how wide they are: what the inner nodes are, told without any tree.
pub mod Fronts
-- A part of the keys: those that begin with a front, as those of one tenant do.
pub mod Tenants
-- The part of a tree whose keys begin with a front.
pub mod Parts
-- When a removal makes a node smaller, by the keys alone.
pub mod Shrinks
-- The nodes that are read where the place of a key is looked for by all its bytes.
pub mod Ways
