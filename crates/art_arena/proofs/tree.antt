-- Lemmas on keys, fronts and ascending lists.
pub mod Order
-- What holds of the items of a canonical tree.
pub mod Canonical
-- A canonical tree is the tree that is built from its items.
pub mod Unique
-- Insertion into a canonical tree.
pub mod Insert
-- Each ascending list has a canonical tree.
pub mod Exists
-- Removal from a canonical tree.
pub mod Delete
-- An item is put into a canonical tree, or taken out of it.
pub mod Edits
-- How long a path is, and how many inner nodes there are.
pub mod Sizes
-- What a filter keeps.
pub mod Filters
-- Sums over the distinct elements of a list.
pub mod Distinct
-- The fronts of neighbours are those of the inner nodes.
pub mod Fronts
-- How long the path to a stored key is.
pub mod Paths
-- Paths in a tree of the keys that begin with a front, and in the tree of all keys.
pub mod Tenants
-- The table of kinds: which kind a number of children tells, and where the loss of one changes it.
pub mod Limits
-- The node above a leaf, by the keys alone.
pub mod Shrinks
-- Where a key's descent ends, and the items.
pub mod Landing
-- The part of a tree below a front holds the items that begin with it.
pub mod Parts
-- What a look-up reads of a key's path.
pub mod LookUps
-- The items whose keys pass a test stand together, if the test holds between two keys for which it holds.
pub mod Blocks
-- All keys with a front taken out of a canonical tree.
pub mod Cuts
-- How many children a node of a canonical tree may have.
pub mod ChildCounts
-- Whether a removal shrinks a node is told by the keys with the front alone, where another of them is stored.
pub mod FrontShrinks
-- The order of keys is the order of bytes, conflicts aside.
pub mod Lexicographic
-- The definitions at work, as the checker computes them.
pub mod Examples
