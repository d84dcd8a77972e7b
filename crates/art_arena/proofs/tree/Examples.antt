-- The definitions at work, as the checker computes them.
use Rattle.std.proofs.Common.{◌≡◌, ℕ, zero, suc, List, [], ◌∷◌, ◌++◌, length, refl, Option, Some, None, Bool, true, map, flat_map, nat_eq, nat_le, ◌&&◌, arith}
use Rattle.art_arena.proofs.Terms.{Tree, leaf, inner, no_child, child, items, nodes_with, tree_of, IsLimit, ChangesKind, path_of, Landing, on_leaf, begins_all, splits_prefix, lacks_child, landing, fronts_of, fronts_with, width_of, with_front, crossings}
use Rattle.art_nodes.specs.declared.kind.NodeType.TheVariants.{Node4, Node16, Node32, Node48, Node256}

-- the numbers below n
abbrev upto : ℕ → List ℕ
upto zero = []
upto (suc n) = upto n ++ n ∷ []

-- each key is its own item
abbrev itself : List ℕ → List ℕ
itself k = k

-- how many leaves and inner nodes the tree of the keys has, and how many of these have so many children
abbrev leaves : List (List ℕ) → ℕ
leaves keys = go (tree_of itself keys)
  where
    go : Option (Tree (List ℕ)) → ℕ
    go None = 0
    go (Some t) = length (items t)

abbrev inner_nodes : (ℕ → Bool) → List (List ℕ) → ℕ
inner_nodes test keys = go (tree_of itself keys)
  where
    go : Option (Tree (List ℕ)) → ℕ
    go None = 0
    go (Some t) = nodes_with test t

abbrev any : ℕ → Bool
any n = true

abbrev from : ℕ → ℕ → ℕ → Bool
from fewest most n = nat_le fewest n && nat_le n most

-- one key has a leaf and nothing else; no key has no tree
no_key : tree_of itself [] ≡ None
no_key = refl

one_key : tree_of itself ((1 ∷ 2 ∷ []) ∷ []) ≡ Some (leaf (1 ∷ 2 ∷ []))
one_key = refl

-- a shared front is the root's prefix
three_keys : tree_of itself ((1 ∷ 2 ∷ 3 ∷ []) ∷ (1 ∷ 2 ∷ 5 ∷ []) ∷ (1 ∷ 4 ∷ []) ∷ [])
    ≡ Some (inner (1 ∷ []) (child 2 (inner [] (child 3 (leaf (1 ∷ 2 ∷ 3 ∷ [])) (child 5 (leaf (1 ∷ 2 ∷ 5 ∷ [])) no_child))) (child 4 (leaf (1 ∷ 4 ∷ [])) no_child)))
three_keys = refl

-- the 24 keys of a byte 0 to 3, a byte 0 to 2 and a byte 0 or 1: 41 nodes, 24 leaves and 17 inner nodes, of which 1 has
-- four children, 4 have three and 12 have two
abbrev cube : List (List ℕ)
cube = flat_map (λ a. flat_map (λ b. map (λ c. a ∷ b ∷ c ∷ []) (upto 2)) (upto 3)) (upto 4)

cube_leaves : leaves cube ≡ 24
cube_leaves = refl

cube_inner : inner_nodes any cube ≡ 17
cube_inner = refl

cube_root : inner_nodes (nat_eq 4) cube ≡ 1
cube_root = refl

cube_middle : inner_nodes (nat_eq 3) cube ≡ 4
cube_middle = refl

cube_low : inner_nodes (nat_eq 2) cube ≡ 12
cube_low = refl

-- the same, told from the keys alone
cube_fronts : fronts_with any itself cube ≡ 17
cube_fronts = refl

cube_widths : (width_of itself cube [] ≡ 4) × ((width_of itself cube (2 ∷ []) ≡ 3) × (width_of itself cube (2 ∷ 1 ∷ []) ≡ 2))
cube_widths = (refl, (refl, refl))

-- the path to a stored key has the root, two inner nodes and the leaf
abbrev steps : Option (Tree (List ℕ)) → List ℕ → ℕ
steps None k = 0
steps (Some t) k = length (path_of t k)

abbrev lands : Option (Tree (List ℕ)) → List ℕ → Option (Landing (List ℕ))
lands None k = None
lands (Some t) k = Some (landing t k)

cube_path : steps (tree_of itself cube) (3 ∷ 2 ∷ 1 ∷ []) ≡ 4
cube_path = refl

-- where keys land that aren't stored
cube_lands : (lands (tree_of itself cube) (3 ∷ 2 ∷ []) ≡ Some begins_all)
    × ((lands (tree_of itself cube) (3 ∷ 7 ∷ []) ≡ Some (lacks_child 7))
    × (lands (tree_of itself cube) (3 ∷ 2 ∷ 1 ∷ 0 ∷ []) ≡ Some (on_leaf (3 ∷ 2 ∷ 1 ∷ []))))
cube_lands = (refl, (refl, refl))

-- The tenants' keys: four bytes of the tenant, then the key.

-- keys of tenant 1, and without the last: the node above them changes its kind
abbrev tenant_1 : List ℕ → List ℕ
tenant_1 key = 0 ∷ 0 ∷ 0 ∷ 1 ∷ key

abbrev single : ℕ → List (List ℕ)
single n = map (λ b. tenant_1 (b ∷ [])) (upto n)

five : (inner_nodes (from 5 16) (single 5) ≡ 1) × ((inner_nodes any (single 5) ≡ 1) × (width_of itself (single 5) (tenant_1 []) ≡ 5))
five = (refl, (refl, refl))

four : (inner_nodes (from 2 4) (single 4) ≡ 1) × (inner_nodes any (single 4) ≡ 1)
four = (refl, refl)

seventeen : (inner_nodes (from 17 32) (single 17) ≡ 1) × ((inner_nodes any (single 17) ≡ 1) × (width_of itself (single 17) (tenant_1 []) ≡ 17))
seventeen = (refl, (refl, refl))

sixteen : (inner_nodes (from 5 16) (single 16) ≡ 1) × (inner_nodes any (single 16) ≡ 1)
sixteen = (refl, refl)

thirty_three : (inner_nodes (from 33 48) (single 33) ≡ 1) × ((inner_nodes any (single 33) ≡ 1) × (width_of itself (single 33) (tenant_1 []) ≡ 33))
thirty_three = (refl, (refl, refl))

thirty_two : (inner_nodes (from 17 32) (single 32) ≡ 1) × (inner_nodes any (single 32) ≡ 1)
thirty_two = (refl, refl)

forty_nine : (inner_nodes (from 49 256) (single 49) ≡ 1) × ((inner_nodes any (single 49) ≡ 1) × (width_of itself (single 49) (tenant_1 []) ≡ 49))
forty_nine = (refl, (refl, refl))

forty_eight : (inner_nodes (from 33 48) (single 48) ≡ 1) × (inner_nodes any (single 48) ≡ 1)
forty_eight = (refl, refl)

-- so the loss of the fifth child, the seventeenth, the thirty-third and the forty-ninth changes the kind
fifth : ChangesKind 5
fifth = (Node16, Node4, record { two = omega arith; fewest = omega arith; most = omega arith }, record { two = omega arith; fewest = omega arith; most = omega arith }, λ e. absurd (cc))

seventeenth : IsLimit 17
seventeenth = (Node32, refl, refl)

thirty_third : IsLimit 33
thirty_third = (Node48, refl, refl)

forty_ninth : IsLimit 49
forty_ninth = (Node256, refl, refl)

-- tenant 1 has aa and bb, tenant 2 has aa: two fronts, of two bytes each
abbrev two_tenants : List (List ℕ)
two_tenants = tenant_1 (170 ∷ []) ∷ tenant_1 (187 ∷ []) ∷ (0 ∷ 0 ∷ 0 ∷ 2 ∷ 170 ∷ []) ∷ []

two_fronts : fronts_of itself two_tenants ≡ (0 ∷ 0 ∷ 0 ∷ 1 ∷ []) ∷ (0 ∷ 0 ∷ 0 ∷ []) ∷ []
two_fronts = refl

two_audit : (leaves two_tenants ≡ 3) × ((inner_nodes (from 2 4) two_tenants ≡ 2) × (inner_nodes any two_tenants ≡ 2))
two_audit = (refl, (refl, refl))

-- tenant 1 reads two inner nodes and a leaf: one front more than in the tree of its own keys
two_steps : (steps (tree_of itself two_tenants) (tenant_1 (170 ∷ [])) ≡ 3)
    × ((steps (tree_of itself (with_front itself (tenant_1 []) two_tenants)) (tenant_1 (170 ∷ [])) ≡ 2)
    × (crossings itself (tenant_1 []) two_tenants ≡ 1))
two_steps = (refl, (refl, refl))

-- forty bytes aa and then 01, the same and then 02, twenty bytes aa and then bb: no stored prefix is as long as these fronts
abbrev after_many : ℕ → ℕ → List ℕ → List ℕ
after_many zero byte key = key
after_many (suc n) byte key = byte ∷ after_many n byte key

abbrev long_keys : List (List ℕ)
long_keys = tenant_1 (after_many 40 170 (1 ∷ [])) ∷ tenant_1 (after_many 40 170 (2 ∷ [])) ∷ tenant_1 (after_many 20 170 (187 ∷ [])) ∷ []

long_audit : (leaves long_keys ≡ 3) × ((inner_nodes (from 2 4) long_keys ≡ 2) × (inner_nodes any long_keys ≡ 2))
long_audit = (refl, (refl, refl))

-- keys that differ from stored ones within a front only
long_lands : (lands (tree_of itself long_keys) (tenant_1 (after_many 25 170 (204 ∷ after_many 14 170 (1 ∷ [])))) ≡ Some splits_prefix)
    × (lands (tree_of itself long_keys) (tenant_1 (after_many 20 170 (204 ∷ after_many 19 170 (1 ∷ [])))) ≡ Some (lacks_child 204))
long_lands = (refl, refl)

-- all 256 bytes
all_bytes : inner_nodes (from 49 256) (map (λ b. b ∷ []) (upto 256)) ≡ 1
all_bytes = refl
