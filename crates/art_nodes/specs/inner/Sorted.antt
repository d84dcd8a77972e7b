-- How a sorted node holds its children.
use Rattle.std.specs.Prelude.{◌≡◌, ℕ, ◌≤◌, List, length, take}
use Rattle.std.specs.List.{zip}
use Rattle.art_nodes.specs.Header.{Header}
use Rattle.art_nodes.specs.InnerNode.{IsAscending}
use Rattle.art_nodes.specs.Name.{Name}

-- a byte for each name and a name for each byte, ascending, counted by the header, within the room
pub record IsSideBySide (room : ℕ) (header : Header) (keys : List ℕ) (names : List Name) : Type 0 where
  pub same_length : length keys ≡ length names
  pub counts : header.num_children ≡ length keys
  pub ascending : IsAscending (zip keys names)
  pub fits : length keys ≤ room

-- the items of a row that are in use: as many as the header counts
abbrev pub in_use : {X : Type 0} → Header → List X → List X
in_use header row = take header.num_children row

-- a row of bytes over the whole room, of which those in use stand side by side with the names
pub record InUse (room : ℕ) (header : Header) (keys : List ℕ) (names : List Name) : Type 0 where
  pub keys_fill : length keys ≡ room
  pub within : header.num_children ≤ room
  pub side : IsSideBySide room header (in_use header keys) names
