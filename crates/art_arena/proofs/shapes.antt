-- Finite maps from names, and the lists of what they hold: no shapes here.
pub mod CellLists
-- A shape with a place: what stands around the place depends on the name there alone.
pub mod Contexts
-- Places in a tree: what an arena holds there, and the step down to a child.
pub mod Places
-- The way of a key: what one step down finds, and where it ends.
pub mod Finding
-- How a key passes over the prefix of an inner node by its bytes, and where it goes no further.
pub mod Passing
-- The last two steps of a way, with one more.
pub mod LastSteps
-- The walk of a descent from the root to a leaf.
pub mod Walking
-- What is left of a key's way by all its bytes, and how much of it is read.
pub mod WayReads
-- Where a key's way by all its bytes stands, and where it ends.
pub mod WayEnds
-- What the leaf at which a descent ended tells of the leaves with the key, and of those whose keys are a front of it.
pub mod FoundLeaves
-- The leaves as a linked list: a list in two parts, and what a write of one leaf's links leaves.
pub mod LinkedLists
-- A shape, its names put aside, is the canonical tree of its pairs.
pub mod Erased
-- A name in an arena means one tree, though a header stores but the front of a prefix: the leaves have the rest.
pub mod OneMeaning
-- From what a name means to what is held below it, and back.
pub mod Meanings
-- What an edit of an arena does to its cells and to the links of its leaves.
pub mod Updates
-- How many nodes stand below a name, told by the arena alone: the measure of a walk down.
pub mod Measures
-- A subtree: what the arena has at its root, its children, and its leaves.
pub mod Subtrees
-- The child at the end of the branches: the first or the last leaf stands there.
pub mod EndBranches
-- The way down to the first or the last leaf below a node.
pub mod EndWalks
-- What is read of an inner node, and on a way down from it to a first or last leaf.
pub mod Reads
-- A guide: how it is found by a way down, and what it tells at each node on the key's way.
pub mod Guides
-- The whole prefix of a node stands in its header or in the key of its first leaf, and orders all keys below.
pub mod Prefixes
-- The parent of a place is pointed at another node: the one write that every edit of a part's root makes.
pub mod Repoint
-- The leaves around a place, and a key that goes there.
pub mod Surroundings
-- What stands beside a tree, and stays where only the tree changes.
pub mod Besides
-- Another tree of an arena: where its nodes are kept, its root means what it meant.
pub mod KeptTrees
-- The branches around the place of a byte that none has: where a new child goes.
pub mod Openings
-- An edit below one child leaves every other child as it was.
pub mod OtherChildren
-- A node of the largest kind has room under each byte.
pub mod FullNodes
-- The leaves that an arena has are those of the cells that it holds.
pub mod HeldLeaves
-- Each leaf of a tree stands at a place.
pub mod LeafPlaces
-- A leaf that has another value.
pub mod LeafValues
-- The clones of the slabs of an arena are a clone of the arena.
pub mod ClonedArenas
-- An arena whose slabs end with a node has as few slots as its nodes allow.
pub mod TrimmedArenas
pub mod UnusedRooms
