-- What stands under the names of an arena: finite maps from names, and the lists of what they hold.
pub mod Cells
-- A tree with the names of its nodes and whole prefixes: what a name in an arena stands for.
pub mod Shapes
-- The leaves of an arena as a doubly linked list.
pub mod Linked
-- What a name means: which tree stands under it in an arena.
pub mod Meaning
-- A shape with a place for a part: what stands around the place.
pub mod Context
-- The whole prefix of a node, and how a key meets it.
pub mod Prefixes
-- The way down to a place in a tree, as the steps that lead there.
pub mod Steps
-- A place in a tree, and a place on the way to a key. Look-up, insertion and deletion stand on these.
pub mod Places
-- The ends of what stands in order: of the leaves of a tree, and of the children of a node.
pub mod EndLeaves
-- What the search for a key answers: the filter of all leaves by equal key.
pub mod Found
-- The way of a key down a tree: where it turns at a node, and the one leaf at which it can end.
pub mod Descents
-- What a contract sees of an arena: the nodes of each kind under their slab keys, and so one map from names to nodes.
pub mod Arena
-- What a change of inner nodes leaves of an arena: its leaves, and room by kind.
pub mod Rooms
-- What an arena stores below a name: the words of contracts, over the arena itself.
pub mod Stores
-- How many nodes a walk reads at most, told by the keys.
pub mod Reads
-- What an edit makes of an inner node.
pub mod NodeEdits
-- What an arena ends as, where a `&mut` to one of its nodes, or to the value of one of its leaves, is returned.
pub mod Lends
-- What a contract sees of an inner node that an arena lends.
pub mod InnerRef
-- What a contract sees of a reader, and of a node that it lends.
pub mod Visited
pub mod ArenaClones
