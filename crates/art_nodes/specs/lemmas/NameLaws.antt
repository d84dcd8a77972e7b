-- Names, places and links: each tells what the other does. Nothing here is a definition.
use Rattle.std.proofs.Common.{◌≡◌, ℕ, zero, suc, ◌<◌, refl, sym, arith}
use Rattle.art_nodes.specs.declared.kind.NodeType.{NodeType}
use Rattle.art_nodes.specs.declared.kind.NodeType.TheVariants.{Node4, Node16, Node32, Node48, Node256, Leaf}
use Rattle.art_nodes.specs.Name.{code_of, kind_coded, IsCodedPlace}
use Rattle.art_nodes.specs.Name.{name_in_place, place_code, place_slot, linked_by, above_of}

pub code_of-kind_coded : (code : ℕ) → 0 < code → code < 7 → code_of (kind_coded code) ≡ code
code_of-kind_coded zero coded below = absurd (omega arith)
code_of-kind_coded (suc zero) coded below = refl
code_of-kind_coded (suc (suc zero)) coded below = refl
code_of-kind_coded (suc (suc (suc zero))) coded below = refl
code_of-kind_coded (suc (suc (suc (suc zero)))) coded below = refl
code_of-kind_coded (suc (suc (suc (suc (suc zero))))) coded below = refl
code_of-kind_coded (suc (suc (suc (suc (suc (suc zero)))))) coded below = refl
code_of-kind_coded (suc (suc (suc (suc (suc (suc (suc code))))))) coded below = absurd (omega arith)

pub kind_coded-code_of : (kind : NodeType) → kind_coded (code_of kind) ≡ kind
kind_coded-code_of Node4 = refl
kind_coded-code_of Node16 = refl
kind_coded-code_of Node32 = refl
kind_coded-code_of Node48 = refl
kind_coded-code_of Node256 = refl
kind_coded-code_of Leaf = refl

pub code_below : (kind : NodeType) → code_of kind < 7
code_below Node4 = omega arith
code_below Node16 = omega arith
code_below Node32 = omega arith
code_below Node48 = omega arith
code_below Node256 = omega arith
code_below Leaf = omega arith

-- what was put in a place stands there
pub place_code-name_in_place : (code slot : ℕ) → IsCodedPlace code slot → place_code (name_in_place code slot) ≡ code
place_code-name_in_place zero slot is = refl
place_code-name_in_place (suc rest) slot is = code_of-kind_coded (suc rest) (omega arith) is.below

pub place_slot-name_in_place : (code slot : ℕ) → IsCodedPlace code slot → place_slot (name_in_place code slot) ≡ slot
place_slot-name_in_place zero slot is = sym (is.unnamed refl)
place_slot-name_in_place (suc rest) slot is = refl

pub above_of-linked_by : (above : ℕ) → above_of (linked_by above) ≡ above
above_of-linked_by zero = refl
above_of-linked_by (suc slot) = omega arith
