-- A clone of an arena holds a clone of its tree.
use Rattle.std.proofs.Common.{◌≡◌, ℕ, ◌+◌, cond, List, [], ◌∷◌, ◌++◌, length, take, Option, Some, None, is_some, refl, sym, ap, ap₂, subst, ◌∙◌, arith}
use Rattle.art_bytes.proofs.Common.{BeginsWith}
use Rattle.art_nodes.proofs.Common.{Name, InnerNode}
use Rattle.art_arena.proofs.Common.{IsKindOf, Arena, Held, leaf_held, inner_held, held_at, cell_of, links_of, node_at, links_at, IsHeldClone, IsArenaClone, Cell, leaf_name, copies, AreHeld, Links, AreLinked, first_slot, Shape, Branches, leaf_at, inner_at, no_branch, branch, LeafAt}
use Rattle.art_arena.proofs.Common.{name_of, width, children_at, node_of, leaves, leaves_in, cells, cells_in, IsUnder, AreUnder, StoresOnly, all_append, all_left, all_right, copies-append, inner_of, holds_pair, HoldsPair, slot_list}
use Rattle.art_operations.specs.Clones.{IsShapeClone, AreBranchClones}
use Rattle.std.proofs.lemmas.List.{map-append}

module _ {K V : Type 0} where
  first-same : (xs ys : List (LeafAt K V)) (after : Option ℕ) → slot_list ys ≡ slot_list xs → first_slot ys after ≡ first_slot xs after
  first-same [] [] after e = refl
  first-same [] (y ∷ ys) after e = absurd (cc)
  first-same (x ∷ xs) [] after e = absurd (cc)
  first-same (x ∷ xs) (y ∷ ys) after e = let same : y.slot ≡ x.slot = cc in ap Some same

  -- leaves with the same slab keys and links are linked alike
  linked-same : (old new : ℕ → Option Links) → ((n : ℕ) → new n ≡ old n) → (before : Option ℕ) (xs ys : List (LeafAt K V)) (after : Option ℕ) → slot_list ys ≡ slot_list xs → AreLinked old before xs after → AreLinked new before ys after
  linked-same old new links before [] [] after e linked = tt
  linked-same old new links before [] (y ∷ ys) after e linked = absurd (cc)
  linked-same old new links before (x ∷ xs) [] after e linked = absurd (cc)
  linked-same old new links before (x ∷ xs) (y ∷ ys) after e linked =
      let same : y.slot ≡ x.slot = cc in
      let rest : slot_list ys ≡ slot_list xs = cc in (
        links y.slot ∙ ap old same ∙ linked.0 ∙ ap (λ n. Some (record { previous = before; next = n })) (sym (first-same xs ys after rest)),
        linked-same old new links (Some y.slot) xs ys after rest (subst (λ n. AreLinked old (Some n) xs after) (sym same) linked.1),
      )

module _ {K V : Type 0} (KeyClone : K → K → Type 0) (ValueClone : V → V → Type 0) (bytes : K → List ℕ) (keys : (k c : K) → KeyClone k c → bytes c ≡ bytes k) (P : ℕ) (arena copy : Arena K V) (is_clone : IsArenaClone KeyClone ValueClone arena copy) where
  links-held : (o c : Option (Held K V)) → IsHeldClone KeyClone ValueClone o c → links_of c ≡ links_of o
  links-held None c h = ap links_of h
  links-held (Some (leaf_held leaf)) c h = ap links_of h.1 ∙ ap₂ (λ p n. Some (record { previous = p; next = n })) h.2.previous h.2.next
  links-held (Some (inner_held node)) c h = ap links_of h

  some-held : (o c : Option (Held K V)) → IsHeldClone KeyClone ValueClone o c → ◌≡◌ {A = ℕ} (cond (is_some (cell_of c)) 1 0) (cond (is_some (cell_of o)) 1 0)
  some-held None c h = ap (λ x. cond (is_some (cell_of x)) 1 0) h
  some-held (Some (leaf_held leaf)) c h = ap (λ x. cond (is_some (cell_of x)) 1 0) h.1
  some-held (Some (inner_held node)) c h = ap (λ x. cond (is_some (cell_of x)) 1 0) h

  -- a clone of a shape that is held
  record Cloned (s : Shape K V) : Type 0 where
    pub twin : Shape K V
    pub clone : IsShapeClone KeyClone ValueClone s twin
    pub named : name_of twin ≡ name_of s
    pub held : AreHeld (node_at copy) (cells P twin)
    pub names : (n : Name) → copies n (cells P twin) ≡ copies n (cells P s)
    pub slots : slot_list (leaves twin) ≡ slot_list (leaves s)
    pub under : (path : List ℕ) → IsUnder bytes path s → IsUnder bytes path twin

  record ClonedIn (f : Branches K V) : Type 0 where
    pub twins : Branches K V
    pub clones : AreBranchClones KeyClone ValueClone f twins
    pub children : children_at twins ≡ children_at f
    pub wide : width twins ≡ width f
    pub held : AreHeld (node_at copy) (cells_in P twins)
    pub names : (n : Name) → copies n (cells_in P twins) ≡ copies n (cells_in P f)
    pub slots : slot_list (leaves_in twins) ≡ slot_list (leaves_in f)
    pub under : (path : List ℕ) (low : ℕ) → AreUnder bytes path low f → AreUnder bytes path low twins

  cloned-leaf : (slot : ℕ) (k : K) (v : V) → HoldsPair (held_at arena (leaf_name slot)) k v → Cloned (leaf_at slot k v)
  cloned-leaf slot k v there =
      let h = subst (λ o. IsHeldClone KeyClone ValueClone o (held_at copy (leaf_name slot))) there.is (is_clone (leaf_name slot)) in
      let key_clone : KeyClone k h.0.key = subst (λ x. KeyClone x h.0.key) there.key h.2.key in
      record {
        twin = leaf_at slot h.0.key h.0.value;
        clone = (refl, key_clone, subst (λ x. ValueClone x h.0.value) there.value h.2.value);
        named = refl;
        held = (ap cell_of h.1, tt);
        names = λ n. refl;
        slots = refl;
        under = λ path under. subst (BeginsWith path) (sym (keys k h.0.key key_clone)) under;
      }

  cloned-inner : (n : Name) (prefix : List ℕ) (kids : Branches K V) → node_at arena n ≡ Some (node_of P prefix (children_at kids)) → ClonedIn kids → Cloned (inner_at n prefix kids)
  cloned-inner n prefix kids there below =
      let node : InnerNode = record { header = record { num_children = length (children_at kids); prefix_len = length prefix; stored = take P prefix }; children = children_at kids } in
      let h = subst (λ o. IsHeldClone KeyClone ValueClone o (held_at copy n)) (inner_of (held_at arena n) node there) (is_clone n) in
      record {
        twin = inner_at n prefix below.twins;
        clone = (refl, refl, below.clones);
        named = refl;
        held = (ap cell_of h ∙ ap (λ xs. Some (node_of {K = K} {V = V} P prefix xs)) (sym below.children), below.held);
        names = λ m. let later = below.names m in omega (arith, later);
        slots = below.slots;
        under = λ path under. (subst (IsKindOf n.kind) (sym below.wide) under.0, below.under (path ++ prefix) 0 under.1);
      }

  cloned-branch : (b : ℕ) (s : Shape K V) (rest : Branches K V) → Cloned s → ClonedIn rest → ClonedIn (branch b s rest)
  cloned-branch b s rest here later = record {
    twins = branch b here.twin later.twins;
    clones = (refl, here.clone, later.clones);
    children = ap₂ (λ n ns. (b, n) ∷ ns) here.named later.children;
    wide = (let w = later.wide in omega (arith, w));
    held = all_append (λ (c : Name × Cell K V). node_at copy c.0 ≡ Some c.1) (cells P here.twin) (cells_in P later.twins) here.held later.held;
    names = λ n. omega (arith, here.names n, later.names n, copies-append n (cells P here.twin) (cells_in P later.twins), copies-append n (cells P s) (cells_in P rest));
    slots = map-append (λ l. l.slot) (leaves here.twin) (leaves_in later.twins) ∙ ap₂ (λ xs ys. xs ++ ys) here.slots later.slots ∙ sym (map-append (λ l. l.slot) (leaves s) (leaves_in rest));
    under = λ path low under. (under.0, here.under (path ++ b ∷ []) under.1, later.under path (b + 1) under.2);
  }

  mutual
    cloned : (s : Shape K V) → AreHeld (node_at arena) (cells P s) → Cloned s
    cloned (leaf_at slot k v) held = cloned-leaf slot k v (holds_pair (held_at arena (leaf_name slot)) k v held.0)
    cloned (inner_at n prefix kids) held = cloned-inner n prefix kids held.0 (cloned-in kids held.1)

    cloned-in : (f : Branches K V) → AreHeld (node_at arena) (cells_in P f) → ClonedIn f
    cloned-in no_branch held = record { twins = no_branch; clones = tt; children = refl; wide = refl; held = tt; names = λ n. refl; slots = refl; under = λ path low under. tt }
    cloned-in (branch b s rest) held =
        cloned-branch b s rest (cloned s (all_left (λ (c : Name × Cell K V). node_at arena c.0 ≡ Some c.1) (cells P s) (cells_in P rest) held)) (cloned-in rest (all_right (λ (c : Name × Cell K V). node_at arena c.0 ≡ Some c.1) (cells P s) (cells_in P rest) held))

  pub record HasClone (root : Name) (s : Shape K V) : Type 0 where
    pub shape : Shape K V
    pub is_tree : StoresOnly bytes P copy root shape
    pub clone : IsShapeClone KeyClone ValueClone s shape

  pub cloned-tree : (root : Name) (s : Shape K V) → StoresOnly bytes P arena root s → HasClone root s
  cloned-tree root s tree =
      let c = cloned s tree.nodes.holds.held in
      record {
        shape = c.twin;
        is_tree = record {
          nodes = record {
            named = c.named ∙ tree.nodes.named;
            holds = record { held = c.held; once = λ n. c.names n ∙ tree.nodes.holds.once n ∙ sym (some-held (held_at arena n) (held_at copy n) (is_clone n)) };
            under = c.under [] tree.nodes.under;
          };
          linked = linked-same (links_at arena) (links_at copy) (λ slot. links-held (held_at arena (leaf_name slot)) (held_at copy (leaf_name slot)) (is_clone (leaf_name slot))) None (leaves s) (leaves c.twin) None c.slots tree.linked;
        };
        clone = c.clone;
      }
