-- What a contract sees of a node's name, and how a place for a name keeps it.
use Rattle.std.specs.Prelude.{◌≡◌, ℕ, suc, zero, ◌+◌, ◌-◌, ◌<◌, ◌^◌, Option, Some, None}
use Rattle.art_nodes.specs.declared.kind.NodeType.{NodeType}
use Rattle.art_nodes.specs.declared.kind.NodeType.TheVariants.{Node4, Node16, Node32, Node48, Node256, Leaf}

-- the kind of the node, and its key in the slab of that kind
pub record Name : Type 0 where
  pub kind : NodeType
  pub slot : ℕ

-- the code of a kind: none has zero
abbrev pub code_of : NodeType → ℕ
code_of Node4 = 1
code_of Node16 = 2
code_of Node32 = 3
code_of Node48 = 4
code_of Node256 = 5
code_of Leaf = 6

-- the kind of a code
abbrev pub kind_coded : ℕ → NodeType
kind_coded (suc zero) = Node4
kind_coded (suc (suc zero)) = Node16
kind_coded (suc (suc (suc zero))) = Node32
kind_coded (suc (suc (suc (suc zero)))) = Node48
kind_coded (suc (suc (suc (suc (suc zero))))) = Node256
kind_coded code = Leaf

-- what stands in a place for a name, by its code and slab key: none where the code is zero
abbrev pub name_in_place : ℕ → ℕ → Option Name
name_in_place zero slot = None
name_in_place (suc rest) slot = Some (record { kind = kind_coded (suc rest); slot = slot })

-- the code that a place keeps for a name, or for none
abbrev pub place_code : Option Name → ℕ
place_code None = 0
place_code (Some n) = code_of n.kind

-- the slab key that a place keeps for a name, or for none
abbrev pub place_slot : Option Name → ℕ
place_slot None = 0
place_slot (Some n) = n.slot

-- a place has the code of a kind with a slab key, or zero twice
pub record IsCodedPlace (code slot : ℕ) : Type 0 where
  pub below : code < 7
  pub fits : slot < 2 ^ 64 - 1
  pub unnamed : code ≡ 0 → slot ≡ 0

-- the slab key that a number is one more than; at zero there is none
abbrev pub linked_by : ℕ → Option ℕ
linked_by zero = None
linked_by (suc slot) = Some slot

-- one more than a slab key, or zero for none
abbrev pub above_of : Option ℕ → ℕ
above_of None = 0
above_of (Some slot) = slot + 1
