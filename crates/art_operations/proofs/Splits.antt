-- A split in the place of a part of a tree: its cells, its leaves and their links.
use Rattle.std.proofs.Common.{◌≡◌, ◌≢◌, ℕ, ◌+◌, ◌≤◌, List, [], ◌∷◌, ◌++◌, length, take, drop, refl, sym, ap, ap₂, subst, ◌∙◌, arith, append_assoc, append-nil, length-append}
use Rattle.art_bytes.proofs.Common.{BeginsWith}
use Rattle.art_nodes.proofs.Common.{Name}
use Rattle.art_nodes.specs.declared.kind.NodeType.TheVariants.{Leaf}
use Rattle.art_arena.proofs.Common.{Cell, leaf_name, Frame, path_to, IsPlace, prefix_of, Shape, Branches, leaf_at, inner_at, name_of, leaves, cells, cells_in, IsUnder, AreUnder, Step, steps_to, steps_of, drop-front, take-front, following}
use Rattle.art_operations.proofs.Terms.{PartsFrom, trimmed, root_cell, PartAt, IsPoint, MeetsAt, InsertPoint, InsertKind, Parted}
use Rattle.art_operations.specs.declared.insert.point.InsertKind.TheVariants as kind
use Rattle.art_operations.proofs.Points.{part_new, part_old}

module _ {K V : Type 0} where
  -- what a part has below its root
  abbrev pub below_root : ℕ → Shape K V → List (Name × Cell K V)
  below_root P (leaf_at slot k v) = []
  below_root P (inner_at name prefix kids) = cells_in P kids

  pub cells-root : (P : ℕ) (s : Shape K V) → cells P s ≡ (name_of s, root_cell P s) ∷ below_root P s
  cells-root P (leaf_at slot k v) = refl
  cells-root P (inner_at name prefix kids) = refl

  pub below-trimmed : (P n : ℕ) (s : Shape K V) → below_root P (trimmed n s) ≡ below_root P s
  below-trimmed P n (leaf_at slot k v) = refl
  below-trimmed P n (inner_at name prefix kids) = refl

  pub name_of-trimmed : (n : ℕ) (s : Shape K V) → name_of (trimmed n s) ≡ name_of s
  name_of-trimmed n (leaf_at slot k v) = refl
  name_of-trimmed n (inner_at name prefix kids) = refl

  pub leaves-trimmed : (n : ℕ) (s : Shape K V) → leaves (trimmed n s) ≡ leaves s
  leaves-trimmed n (leaf_at slot k v) = refl
  leaves-trimmed n (inner_at name prefix kids) = refl

-- what a list that parts from the rest of a key has
module _ (key : List ℕ) (path : List ℕ) (depth : ℕ) (len : length path ≡ depth) (begins : BeginsWith path key) (stored : List ℕ) (p : Parted) (part : PartAt stored (drop depth key) p) where
  front_taken : take p.matched (drop depth key) ≡ part.front
  front_taken = ap (take p.matched) part.new_is ∙ ap (λ n. take n (part.front ++ p.new_byte ∷ part.new_rest)) (sym part.len) ∙ take-front part.front (p.new_byte ∷ part.new_rest)

  front_within : depth + p.matched ≤ length key
  front_within =
      let whole = ap length (following path key depth len begins) ∙ length-append path (drop depth key) in
      let rest = ap length part.new_is ∙ length-append part.front (p.new_byte ∷ part.new_rest) in
      let front = part.len in
      omega (arith, whole, rest, front, len)

  rest_dropped : drop (p.matched + 1) stored ≡ part.old_rest
  rest_dropped =
      let regrouped : part.front ++ p.old_byte ∷ part.old_rest ≡ (part.front ++ p.old_byte ∷ []) ++ part.old_rest = sym (append_assoc part.front (p.old_byte ∷ []) part.old_rest) in
      let count : p.matched + 1 ≡ length (part.front ++ p.old_byte ∷ []) = let l = part.len in omega (arith, l, length-append part.front (p.old_byte ∷ [])) in
      ap₂ drop count (part.old_is ∙ regrouped) ∙ drop-front (part.front ++ p.old_byte ∷ []) part.old_rest

  prefix_inside : p.matched + 1 ≤ length stored
  prefix_inside =
      let whole = ap length part.old_is ∙ length-append part.front (p.old_byte ∷ part.old_rest) in
      let l = part.len in
      omega (arith, whole, l)

  prefix_regrouped : path ++ stored ≡ ((path ++ part.front) ++ p.old_byte ∷ []) ++ drop (p.matched + 1) stored
  prefix_regrouped =
      let moved : path ++ (part.front ++ p.old_byte ∷ part.old_rest) ≡ ((path ++ part.front) ++ p.old_byte ∷ []) ++ part.old_rest = simp append_assoc in
      ap (λ x. path ++ x) part.old_is ∙ moved ∙ ap (λ x. ((path ++ part.front) ++ p.old_byte ∷ []) ++ x) (sym rest_dropped)

module _ {K V : Type 0} (bytes : K → List ℕ) where
  -- where a key parts from a part of a tree
  pub record SplitPlace (key : List ℕ) (s : Shape K V) (old : Name) (parted : Parted) (depth : ℕ) (last : List Step) : Type 0 where
    pub ctx : List (Frame K V)
    pub part : Shape K V
    pub place : IsPlace bytes s ctx part
    pub steps : take 2 (steps_to ctx) ≡ last
    pub depth_is : length (path_to ctx) ≡ depth
    pub named : name_of part ≡ old
    pub front : List ℕ
    pub front_is : take parted.matched (drop depth key) ≡ front
    pub within : depth + parted.matched ≤ length key
    pub begins : BeginsWith ((path_to ctx ++ front) ++ parted.new_byte ∷ []) key
    pub differs : parted.old_byte ≢ parted.new_byte
    pub lower : IsUnder bytes ((path_to ctx ++ front) ++ parted.old_byte ∷ []) (trimmed (parted.matched + 1) part)
    pub inside : old.kind ≢ Leaf → parted.matched + 1 ≤ length (prefix_of part)

  module _ (key : List ℕ) (s : Shape K V) (ctx : List (Frame K V)) (depth : ℕ) (last : List Step) (steps : take 2 (steps_to ctx) ≡ last) (len : length (path_to ctx) ≡ depth) (begins : BeginsWith (path_to ctx) key) (p : Parted) where
    split_at : (t : Shape K V) (stored : List ℕ) → IsPlace bytes s ctx t → (part : PartAt stored (drop depth key) p) → IsUnder bytes ((path_to ctx ++ part.front) ++ p.old_byte ∷ []) (trimmed (p.matched + 1) t)
        → ((name_of t).kind ≢ Leaf → p.matched + 1 ≤ length (prefix_of t)) → SplitPlace key s (name_of t) p depth last
    split_at t stored place part lower inside = record {
      ctx = ctx;
      part = t;
      place = place;
      steps = steps;
      depth_is = len;
      named = refl;
      front = part.front;
      front_is = front_taken key (path_to ctx) depth len begins stored p part;
      within = front_within key (path_to ctx) depth len begins stored p part;
      begins = part_new (path_to ctx) (drop depth key) key stored p (following (path_to ctx) key depth len begins) part;
      differs = part.differs;
      lower = lower;
      inside = inside;
    }

    split_at_leaf : (slot : ℕ) (k : K) (v : V) → IsPlace bytes s ctx (leaf_at slot k v) → PartAt (drop depth (bytes k)) (drop depth key) p → SplitPlace key s (leaf_name slot) p depth last
    split_at_leaf slot k v place part =
        let stored = drop depth (bytes k) in
        let whole = following (path_to ctx) (bytes k) depth len place.under ∙ sym (append-nil (path_to ctx ++ stored)) in
        split_at (leaf_at slot k v) stored place part (part_old (path_to ctx) (drop depth key) stored (bytes k) [] p whole part) (λ other. absurd (other refl))

    split_at_inner : (n : Name) (prefix : List ℕ) (kids : Branches K V) → IsPlace bytes s ctx (inner_at n prefix kids) → PartAt prefix (drop depth key) p → SplitPlace key s n p depth last
    split_at_inner n prefix kids place part =
        let regrouped = prefix_regrouped key (path_to ctx) depth len begins prefix p part in
        split_at (inner_at n prefix kids) prefix place part (place.under.0, subst (λ q. AreUnder bytes q 0 kids) regrouped place.under.1) (λ other. prefix_inside key (path_to ctx) depth len begins prefix p part)

  -- the place at which a point splits
  pub split_place : (key : List ℕ) (s : Shape K V) (point : InsertPoint) (old : Name) (parted : Parted) → IsPoint bytes key s point → PartsFrom point.insert_kind old parted → SplitPlace key s old parted point.key_bytes_used (steps_of point.path)
  split_place key s point old parted is_point parts = of_kind point.insert_kind is_point.meets parts
    where
      of_kind : (found : InsertKind) → MeetsAt bytes key (path_to is_point.ctx) is_point.part found → PartsFrom found old parted → SplitPlace key s old parted point.key_bytes_used (steps_of point.path)
      of_kind (kind.MismatchPrefix n p) (prefix, kids, is, part) (named, same) =
          let here : PartAt prefix (drop point.key_bytes_used key) parted = subst (λ d. PartAt prefix (drop d key) parted) is_point.toward.depth_is (subst (λ q. PartAt prefix (drop (length (path_to is_point.ctx)) key) q) same part) in
          subst (λ m. SplitPlace key s m parted point.key_bytes_used (steps_of point.path)) named
          (split_at_inner key s is_point.ctx point.key_bytes_used (steps_of point.path) is_point.toward.steps is_point.toward.depth_is is_point.toward.begins parted n prefix kids (subst (IsPlace bytes s is_point.ctx) is is_point.toward.place) here)
      of_kind (kind.SplitLeaf slot p) (k, v, is, part) (named, same) =
          let here : PartAt (drop point.key_bytes_used (bytes k)) (drop point.key_bytes_used key) parted =
          subst (λ d. PartAt (drop d (bytes k)) (drop d key) parted) is_point.toward.depth_is (subst (λ q. PartAt (drop (length (path_to is_point.ctx)) (bytes k)) (drop (length (path_to is_point.ctx)) key) q) same part) in
          subst (λ m. SplitPlace key s m parted point.key_bytes_used (steps_of point.path)) named
          (split_at_leaf key s is_point.ctx point.key_bytes_used (steps_of point.path) is_point.toward.steps is_point.toward.depth_is is_point.toward.begins parted slot k v (subst (IsPlace bytes s is_point.ctx) is is_point.toward.place) here)
      of_kind (kind.IntoExisting n byte) meets parts = absurd parts
      of_kind (kind.Exact slot) meets parts = absurd parts
