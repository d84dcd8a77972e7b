-- The walk that tells whether each node fits: what waits, and that all fits if it does at what waits.
use Rattle.std.proofs.Common.{◌≡◌, ◌≢◌, ℕ, suc, ◌+◌, ◌<◌, ◌≤◌, Bool, true, false, List, [], ◌∷◌, ◌++◌, length, take, drop, Option, Some, None, Result, Ok, Err, IfOk, inl, inr, refl, sym, ap, ap₂, subst, ◌∙◌, arith, length-append}
use Rattle.std.specs.Bool.{MatchBool}
use Rattle.std.specs.List.{AllByRecursion}
use Rattle.std.proofs.lemmas.Bool.Decides.{leb_tells}
use Rattle.std.proofs.lemmas.List.{map-append, take-take, take_all, length-take-le, length-drop}
use Rattle.art_nodes.proofs.Common.{Name, InnerNode, IsAscendingFrom, names_of, first_child}
use Rattle.art_nodes.specs.declared.kind.NodeType.TheVariants.{Leaf}
use Rattle.art_nodes.specs.declared.leaf.LeafNode.{LeafNode}
use Rattle.art_arena.proofs.Common.{Arena, Held, leaf_held, inner_held, held_at, cell_of, node_at, slots_of, Cell, pair, branches, leaf_name, copies, AreHeld, IsPart, Shape, Branches, leaf_at, inner_at, no_branch, branch, name_of, children_at, width, cells, cells_in, node_of, IsKindOf}
use Rattle.art_arena.proofs.Common.{copies-append, cell_children, same_cell, cells_few, nodes_below, nodes_below-held, total, all_left, all_right, all_append}
use Rattle.art_walks.proofs.Terms.{Place, HasKinds, HaveKinds, placed, first_key, first_key_in, Fits, FitIn, HasShape, LeafHasKey, StandsAsTold, FitBelow, FitAt, ChildFits, Await, Opens}
use Rattle.art_walks.proofs.Fillings.{first_key-same, fits-same, prefix_len_of, stored_of}

-- two sides of an answer, each said in other words
pub other_words : {E : Type 0} (r : Result Bool E) (A B C D : Type 0) → (A → C) → (B → D) → IfOk r (λ fit. MatchBool fit A B) → IfOk r (λ fit. MatchBool fit C D)
other_words (Ok true) A B C D f g h = f h
other_words (Ok false) A B C D f g h = g h
other_words (Err e) A B C D f g h = tt

pub yes_of : (b : Bool) (A B : Type 0) → b ≡ true → MatchBool b A B → A
yes_of true A B e h = h
yes_of false A B e h = absurd (cc)

pub no_of : (b : Bool) (A B : Type 0) → b ≡ false → MatchBool b A B → B
no_of true A B e h = absurd (cc)
no_of false A B e h = h

-- a number for each name, in sum
abbrev pub sum_of : (Name → ℕ) → List Name → ℕ
sum_of f [] = 0
sum_of f (n ∷ rest) = f n + sum_of f rest

sum-append : (f : Name → ℕ) (xs ys : List Name) → sum_of f (xs ++ ys) ≡ sum_of f xs + sum_of f ys
sum-append f [] ys = omega arith
sum-append f (x ∷ xs) ys = omega (arith, sum-append f xs ys)

total-names : (f : Name → ℕ) (cs : List (ℕ × Name)) → total f cs ≡ sum_of f (names_of cs)
total-names f [] = refl
total-names f (c ∷ cs) = ap (λ m. f c.1 + m) (total-names f cs)

module _ {K V : Type 0} (bytes : K → List ℕ) (P : ℕ) (at : Name → Option (Cell K V)) where
  abbrev held_cell : Name × Cell K V → Type 0
  held_cell c = at c.0 ≡ Some c.1

  -- the arena has what these branches have, no name twice
  record ArePart (f : Branches K V) : Type 0 where
    held : AreHeld at (cells_in P f)
    once : (n : Name) → copies n (cells_in P f) ≤ 1

  below_part : (n m : Name) (prefix : List ℕ) (kids : Branches K V) → IsPart P at n (inner_at m prefix kids) → ArePart kids
  below_part n m prefix kids part = record { held = part.held.1; once = λ q. let o = part.once q in omega (arith, o) }

  part_here : (b : ℕ) (t : Shape K V) (rest : Branches K V) → ArePart (branch b t rest) → IsPart P at (name_of t) t
  part_here b t rest parts = record {
    named = refl;
    held = all_left held_cell (cells P t) (cells_in P rest) parts.held;
    once = λ q. let o = parts.once q in omega (arith, o, copies-append q (cells P t) (cells_in P rest));
  }

  part_later : (b : ℕ) (t : Shape K V) (rest : Branches K V) → ArePart (branch b t rest) → ArePart rest
  part_later b t rest parts = record {
    held = all_right held_cell (cells P t) (cells_in P rest) parts.held;
    once = λ q. let o = parts.once q in omega (arith, o, copies-append q (cells P t) (cells_in P rest));
  }

  -- which shape stands below a name of a kind
  leaf_shape : (s : Shape K V) → HasKinds s → (name_of s).kind ≡ Leaf → (slot : ℕ) × (k : K) × (v : V) × (s ≡ leaf_at slot k v)
  leaf_shape (leaf_at slot k v) kinds e = (slot, k, v, refl)
  leaf_shape (inner_at n prefix kids) kinds e =
      let is : IsKindOf Leaf (width kids) = subst (λ k. IsKindOf k (width kids)) e kinds.0 in
      let two = is.two in
      let most = is.most in absurd (omega (arith, two, most))

  inner_shape : (s : Shape K V) → (name_of s).kind ≢ Leaf → (prefix : List ℕ) × (kids : Branches K V) × (s ≡ inner_at (name_of s) prefix kids)
  inner_shape (leaf_at slot k v) other = absurd (other refl)
  inner_shape (inner_at n prefix kids) other = (prefix, kids, refl)

  -- all that fits at one shape below a name fits at each
  pub fits-below : (d : ℕ) (n : Name) (s : Shape K V) → IsPart P at n s → Fits bytes P d s → FitBelow bytes P at d n
  fits-below d n s part fits t other = fits-same bytes P at d t s other.held part.held (other.named ∙ sym part.named) fits

  pub key-below : (n : Name) (s t : Shape K V) → IsPart P at n s → IsPart P at n t → first_key bytes s ≡ first_key bytes t
  key-below n s t one other = first_key-same bytes P at s t one.held other.held (one.named ∙ sym other.named)

  -- at a leaf: its key
  pub leaf-key : (n : Name) (below : HasShape bytes P at n) → n.kind ≡ Leaf → LeafHasKey bytes P at n.slot (first_key bytes below.shape)
  leaf-key n below kind =
      let is = leaf_shape below.shape below.kinds (ap (λ (m : Name). m.kind) below.part.named ∙ kind) in
      let named : leaf_name is.0 ≡ n = sym (ap name_of is.3) ∙ below.part.named in
      let held : AreHeld at (cells P (leaf_at is.0 is.1 is.2)) = subst (λ s. AreHeld at (cells P s)) is.3 below.part.held in
      let slot : is.0 ≡ n.slot = ap (λ (m : Name). m.slot) named in
      (is.1, is.2, ap (λ m. at (leaf_name m)) (sym slot) ∙ held.0, sym (ap (first_key bytes) is.3))

  -- an inner node at a shape's root, with its prefix and its children
  record Root (s : Shape K V) (node : InnerNode) : Type 0 where
    prefix : List ℕ
    kids : Branches K V
    is : s ≡ inner_at (name_of s) prefix kids
    node_is : ◌≡◌ {A = Cell K V} (branches node) (node_of P prefix (children_at kids))
    children_are : children_at kids ≡ node.children
    parts : ArePart kids
    kinds : IsKindOf (name_of s).kind (width kids) × HaveKinds kids

  root-is : (n : Name) (below : HasShape bytes P at n) → n.kind ≢ Leaf → (node : InnerNode) → at n ≡ Some (branches node) → Root below.shape node
  root-is n below other node there =
      let named = below.part.named in
      let is = inner_shape below.shape (λ e. other (sym (ap (λ (m : Name). m.kind) named) ∙ e)) in
      let part : IsPart P at n (inner_at (name_of below.shape) is.0 is.1) = subst (IsPart P at n) is.2 below.part in
      let held : at (name_of below.shape) ≡ Some (node_of P is.0 (children_at is.1)) = part.held.0 in
      let node_is : branches node ≡ node_of P is.0 (children_at is.1) = same_cell at n n (branches node) (node_of P is.0 (children_at is.1)) refl there (ap at (sym named) ∙ held) in
      record {
        prefix = is.0;
        kids = is.1;
        is = is.2;
        node_is = node_is;
        children_are = sym (ap cell_children node_is);
        parts = below_part n (name_of below.shape) is.0 is.1 part;
        kinds = subst HasKinds is.2 below.kinds;
      }

  -- the children of a node have shapes
  child_shapes : (f : Branches K V) → ArePart f → HaveKinds f → AllByRecursion (λ c. HasShape bytes P at c.1) (children_at f)
  child_shapes no_branch parts kinds = tt
  child_shapes (branch b t rest) parts kinds =
      (record { shape = t; part = part_here b t rest parts; kinds = kinds.0 }, child_shapes rest (part_later b t rest parts) kinds.1)

  pub children-stand : (n : Name) (below : HasShape bytes P at n) → n.kind ≢ Leaf → (node : InnerNode) → at n ≡ Some (branches node) → AllByRecursion (λ c. HasShape bytes P at c.1) node.children
  children-stand n below other node there =
      let root = root-is n below other node there in
      subst (AllByRecursion (λ (c : ℕ × Name). HasShape bytes P at c.1)) root.children_are (child_shapes root.kids root.parts root.kinds.1)

  -- the first child, below which the first key stays
  pub record First (n : Name) (below : HasShape bytes P at n) (children : List (ℕ × Name)) : Type 0 where
    pub child : ℕ × Name
    pub rest : List (ℕ × Name)
    pub is : children ≡ child ∷ rest
    pub next : HasShape bytes P at child.1
    pub same_key : first_key bytes next.shape ≡ first_key bytes below.shape
    pub fewer : length (cells P next.shape) < length (cells P below.shape)

  pub first-child : (n : Name) (below : HasShape bytes P at n) → n.kind ≢ Leaf → (node : InnerNode) → at n ≡ Some (branches node) → First n below node.children
  first-child n below other node there =
      let root = root-is n below other node there in
      first root.kids root.kinds root.parts root.children_are root.is
    where
      first : (kids : Branches K V) → IsKindOf (name_of below.shape).kind (width kids) × HaveKinds kids → ArePart kids → children_at kids ≡ node.children
          → {prefix : List ℕ} → below.shape ≡ inner_at (name_of below.shape) prefix kids → First n below node.children
      first no_branch kinds parts e is = let two = kinds.0.two in absurd (omega (arith, two))
      first (branch b t rest) kinds parts e {prefix} is = record {
        child = (b, name_of t);
        rest = children_at rest;
        is = sym e;
        next = record { shape = t; part = part_here b t rest parts; kinds = kinds.1.0 };
        same_key = sym (ap (first_key bytes) is);
        fewer = (let l = ap (λ s. length (cells P s)) is in omega (arith, l, length-append (cells P t) (cells_in P rest)));
      }

  -- the first key below the first child is that of the node
  pub first-child-key : (n : Name) (below : HasShape bytes P at n) → n.kind ≢ Leaf → (node : InnerNode) → at n ≡ Some (branches node)
      → (c : ℕ × Name) (rest : List (ℕ × Name)) (s : Shape K V) → node.children ≡ c ∷ rest → IsPart P at c.1 s → first_key bytes s ≡ first_key bytes below.shape
  first-child-key n below other node there c rest s e part =
      let f = first-child n below other node there in
      let h : f.child ∷ f.rest ≡ c ∷ rest = sym f.is ∙ e in
      let same : c ≡ f.child = cc in
      key-below f.child.1 s f.next.shape (subst (λ (x : ℕ × Name). IsPart P at x.1 s) same part) f.next.part ∙ f.same_key

  -- a child whose first key goes on as it must: its place waits
  module _ (e : ℕ) (key : List ℕ) where
    pub await-join : (cs ds : List (ℕ × Name)) (ps qs : List Place) → Await bytes P at e key cs ps → Await bytes P at e key ds qs → Await bytes P at e key (cs ++ ds) (ps ++ qs)
    await-join cs ds ps qs one two = record {
      stand = all_append (StandsAsTold bytes P at) ps qs one.stand two.stand;
      names = map-append (λ (p : Place). p.name) ps qs ∙ ap₂ (λ xs ys. xs ++ ys) one.names two.names ∙ sym (map-append (λ (c : ℕ × Name). c.1) cs ds);
      enough = λ h. all_append (ChildFits bytes P at e key) cs ds (one.enough (all_left (FitAt bytes P at) ps qs h)) (two.enough (all_right (FitAt bytes P at) ps qs h));
      needed = λ h. all_append (FitAt bytes P at) ps qs (one.needed (all_left (ChildFits bytes P at e key) cs ds h)) (two.needed (all_right (ChildFits bytes P at e key) cs ds h));
    }

    pub await-one : (c : ℕ × Name) (first : ℕ) (below : HasShape bytes P at c.1) → LeafHasKey bytes P at first (first_key bytes below.shape)
        → take (e + 1) (first_key bytes below.shape) ≡ take e key ++ c.0 ∷ [] → e < length (first_key bytes below.shape)
        → Await bytes P at e key (c ∷ []) (record { name = c.1; depth = e + 1; first = first } ∷ [])
    await-one c first below has goes_on deep = record {
      stand = (record { below = below; first = has; deep = omega (arith, deep) }, tt);
      names = refl;
      enough = λ h. (λ s part. (ap (take (e + 1)) (key-below c.1 s below.shape part below.part) ∙ goes_on, h.0 s part), tt);
      needed = λ h. (λ s part. (h.0 s part).1, tt);
    }

    -- one that doesn't go on so
    pub child-unfit : (done : List (ℕ × Name)) (c : ℕ × Name) (rest : List (ℕ × Name)) (below : HasShape bytes P at c.1)
        → (take (e + 1) (first_key bytes below.shape) ≡ take e key ++ c.0 ∷ [] → ⊥) → AllByRecursion (ChildFits bytes P at e key) (done ++ c ∷ rest) → ⊥
    child-unfit done c rest below other all =
        let here = (all_right (ChildFits bytes P at e key) done (c ∷ rest) all).0 in other (here below.shape below.part).0

    -- from the children to the branches, and back
    fit-in : (low : ℕ) (f : Branches K V) → ArePart f → IsAscendingFrom low (children_at f) → AllByRecursion (ChildFits bytes P at e key) (children_at f) → FitIn bytes P e key low f
    fit-in low no_branch parts rises all = tt
    fit-in low (branch b t rest) parts rises all =
        let here = all.0 t (part_here b t rest parts) in (rises.0, here.0, here.1, fit-in (b + 1) rest (part_later b t rest parts) rises.2 all.1)

    fit-out : (low : ℕ) (f : Branches K V) → ArePart f → FitIn bytes P e key low f → AllByRecursion (ChildFits bytes P at e key) (children_at f)
    fit-out low no_branch parts fit = tt
    fit-out low (branch b t rest) parts fit =
        let part = part_here b t rest parts in (
          λ s other. (ap (take (e + 1)) (key-below (name_of t) s t other part) ∙ fit.1, fits-below (e + 1) (name_of t) t part fit.2 s other),
          fit-out (b + 1) rest (part_later b t rest parts) fit.3,
        )

  pub of_one : (Q : ℕ × Name → Type 0) (children done left rest : List (ℕ × Name)) (c : ℕ × Name) → children ≡ done ++ left → left ≡ c ∷ rest → AllByRecursion Q children → Q c
  of_one Q children done left rest c e f all =
      (all_right Q done (c ∷ rest) (subst (AllByRecursion Q) (e ∙ ap (λ xs. done ++ xs) f) all)).0

  -- the stored front of a prefix against a key
  front-stored : (prefix rest : List ℕ) → length prefix ≤ length rest → take P (take (length prefix) rest) ≡ take (length (take P prefix)) rest
  front-stored prefix rest long = elim (leb_tells P (length prefix)) [
    | inl short ↦ take-take P (length prefix) rest short.1 ∙ ap (λ n. take n rest) (sym (length-take-le P prefix short.1))
    | inr whole ↦
        let len : length (take (length prefix) rest) ≡ length prefix = length-take-le (length prefix) rest long in
        take_all P (take (length prefix) rest) (omega (arith, len, whole.1))
        ∙ ap (λ (xs : List ℕ). take (length xs) rest) (sym (take_all P prefix (omega (arith, whole.1))))
  ]

  -- what the code reads of a node at a place, and what it tells
  module _ (place : Place) (stands : StandsAsTold bytes P at place) (other : place.name.kind ≢ Leaf) (node : InnerNode) (there : at place.name ≡ Some (branches node))
      (key : List ℕ) (is_key : key ≡ first_key bytes stands.below.shape) where
    abbrev root : Root stands.below.shape node
    root = root-is place.name stands.below other node there

    key-in : key ≡ first_key_in bytes root.kids
    key-in = is_key ∙ ap (first_key bytes) root.is

    len-is : node.header.prefix_len ≡ length root.prefix
    len-is = ap prefix_len_of root.node_is

    stored-is : node.header.stored ≡ take P root.prefix
    stored-is = ap stored_of root.node_is

    fits-root : FitAt bytes P at place → Fits bytes P place.depth (inner_at (name_of stands.below.shape) root.prefix root.kids)
    fits-root fit = subst (Fits bytes P place.depth) root.is (fit stands.below.shape stands.below.part)

    pub unfit-short : (place.depth + node.header.prefix_len ≤ length key → ⊥) → FitAt bytes P at place → ⊥
    unfit-short short fit =
        let fits = fits-root fit in
        let long = fits.1 in
        short (let l = len-is in let k = ap length key-in in omega (arith, long, l, k))

    pub unfit-stored : (node.header.stored ≡ take (length node.header.stored) (drop place.depth key) → ⊥) → FitAt bytes P at place → ⊥
    unfit-stored apart fit =
        let fits = fits-root fit in
        let long = fits.1 in
        apart (
        stored-is ∙ fits.2
        ∙ front-stored root.prefix (drop place.depth (first_key_in bytes root.kids)) (omega (arith, long, length-drop place.depth (first_key_in bytes root.kids)))
        ∙ ap₂ (λ n (k : List ℕ). take n (drop place.depth k)) (ap length (sym stored-is)) (sym key-in)
        )

    all-fit : FitAt bytes P at place → AllByRecursion (ChildFits bytes P at (place.depth + node.header.prefix_len) key) node.children
    all-fit fit =
        let fits = fits-root fit in
        subst (AllByRecursion (ChildFits bytes P at (place.depth + node.header.prefix_len) key)) root.children_are (
        subst (λ k. AllByRecursion (ChildFits bytes P at (place.depth + node.header.prefix_len) k) (children_at root.kids)) (sym key-in) (
        subst (λ n. AllByRecursion (ChildFits bytes P at (place.depth + n) (first_key_in bytes root.kids)) (children_at root.kids)) (sym len-is)
        (fit-out (place.depth + length root.prefix) (first_key_in bytes root.kids) 0 root.kids root.parts fits.3)
        )
        )

    pub unfit-children : (AllByRecursion (ChildFits bytes P at (place.depth + node.header.prefix_len) key) node.children → ⊥) → FitAt bytes P at place → ⊥
    unfit-children unfit fit = unfit (all-fit fit)

    pub opens : IsAscendingFrom 0 node.children → place.depth + node.header.prefix_len ≤ length key → node.header.stored ≡ take (length node.header.stored) (drop place.depth key)
        → (old new places : List Place) → new ≡ old ++ places → Await bytes P at (place.depth + node.header.prefix_len) key node.children places → Opens bytes P at place old new
    opens rises long stored old new places wait await = record {
      node = node;
      held = there;
      places = places;
      wait = wait;
      stand = await.stand;
      names = await.names;
      enough = λ h. fits-below place.depth place.name stands.below.shape stands.below.part (subst (Fits bytes P place.depth) (sym root.is) (here (await.enough h)));
      needed = λ fit. await.needed (all-fit fit);
    }
      where
        here : AllByRecursion (ChildFits bytes P at (place.depth + node.header.prefix_len) key) node.children → Fits bytes P place.depth (inner_at (name_of stands.below.shape) root.prefix root.kids)
        here all =
            let l = len-is in
            let k = ap length key-in in
            let deep : place.depth + length root.prefix ≤ length (first_key_in bytes root.kids) = omega (arith, long, l, k) in
            let rest = length-drop place.depth (first_key_in bytes root.kids) in (
              root.kinds.0,
              deep,
              sym stored-is ∙ stored ∙ ap₂ (λ n (j : List ℕ). take n (drop place.depth j)) (ap length stored-is) key-in
                  ∙ sym (front-stored root.prefix (drop place.depth (first_key_in bytes root.kids)) (omega (arith, deep, rest))),
              fit-in (place.depth + length root.prefix) (first_key_in bytes root.kids) 0 root.kids root.parts (subst (IsAscendingFrom 0) (sym root.children_are) rises) (
                  subst (λ n. AllByRecursion (ChildFits bytes P at (place.depth + n) (first_key_in bytes root.kids)) (children_at root.kids)) len-is (
                  subst (λ j. AllByRecursion (ChildFits bytes P at (place.depth + node.header.prefix_len) j) (children_at root.kids)) key-in
                  (subst (AllByRecursion (ChildFits bytes P at (place.depth + node.header.prefix_len) key)) (sym root.children_are) all)
                  )
                  ),
            )

  -- where a leaf stands, all fits
  leaf-fits : (place : Place) (stands : StandsAsTold bytes P at place) → place.name.kind ≡ Leaf → FitAt bytes P at place
  leaf-fits place stands kind =
      let below = stands.below in
      let is = leaf_shape below.shape below.kinds (ap (λ (m : Name). m.kind) below.part.named ∙ kind) in
      let deep : place.depth ≤ length (first_key bytes (leaf_at is.0 is.1 is.2)) = subst (λ s. place.depth ≤ length (first_key bytes s)) is.3 stands.deep in
      fits-below place.depth place.name below.shape below.part (subst (Fits bytes P place.depth) (sym is.3) deep)

  -- All below the root fits if it does at what waits, and only then.
  pub record RestsOn (root : Name) (waiting : List Place) : Type 0 where
    pub stand : AllByRecursion (StandsAsTold bytes P at) waiting
    enough : AllByRecursion (FitAt bytes P at) waiting → FitBelow bytes P at 0 root
    needed : FitBelow bytes P at 0 root → AllByRecursion (FitAt bytes P at) waiting

  pub left-start : (top : Name) (waiting : List Place) (first : ℕ) (below : HasShape bytes P at top) → LeafHasKey bytes P at first (first_key bytes below.shape)
      → waiting ≡ record { name = top; depth = 0; first = first } ∷ [] → RestsOn top waiting
  left-start top waiting first below has e = subst (RestsOn top) (sym e) (record {
    stand = (record { below = below; first = has; deep = omega arith }, tt);
    enough = λ h. h.0;
    needed = λ f. (f, tt);
  })

  pub left-end : (top : Name) (waiting : List Place) → RestsOn top waiting → waiting ≡ [] → FitBelow bytes P at 0 top
  left-end top waiting left e = left.enough (subst (AllByRecursion (FitAt bytes P at)) (sym e) tt)

  module _ (root : Name) (waiting rest : List Place) (place : Place) (left : RestsOn root waiting) (top : waiting ≡ rest ++ place ∷ []) where
    all_stand : AllByRecursion (StandsAsTold bytes P at) (rest ++ place ∷ [])
    all_stand = subst (AllByRecursion (StandsAsTold bytes P at)) top left.stand

    pub stands-here : StandsAsTold bytes P at place
    stands-here = (all_right (StandsAsTold bytes P at) rest (place ∷ []) all_stand).0

    enough-here : AllByRecursion (FitAt bytes P at) rest → FitAt bytes P at place → FitBelow bytes P at 0 root
    enough-here h f = left.enough (subst (AllByRecursion (FitAt bytes P at)) (sym top) (all_append (FitAt bytes P at) rest (place ∷ []) h (f, tt)))

    needed-here : FitBelow bytes P at 0 root → AllByRecursion (FitAt bytes P at) (rest ++ place ∷ [])
    needed-here fit = subst (AllByRecursion (FitAt bytes P at)) top (left.needed fit)

    pub left-unfit : (FitAt bytes P at place → ⊥) → FitBelow bytes P at 0 root → ⊥
    left-unfit unfit fit = unfit (all_right (FitAt bytes P at) rest (place ∷ []) (needed-here fit)).0

    pub left-leaf : place.name.kind ≡ Leaf → RestsOn root rest
    left-leaf kind = record {
      stand = all_left (StandsAsTold bytes P at) rest (place ∷ []) all_stand;
      enough = λ h. enough-here h (leaf-fits place stands-here kind);
      needed = λ fit. all_left (FitAt bytes P at) rest (place ∷ []) (needed-here fit);
    }

    pub left-inner : (new : List Place) → Opens bytes P at place rest new → RestsOn root new
    left-inner new opened = subst (RestsOn root) (sym opened.wait) (record {
      stand = all_append (StandsAsTold bytes P at) rest opened.places (all_left (StandsAsTold bytes P at) rest (place ∷ []) all_stand) opened.stand;
      enough = λ h. enough-here (all_left (FitAt bytes P at) rest opened.places h) (opened.enough (all_right (FitAt bytes P at) rest opened.places h));
      needed = λ fit.
          let all = needed-here fit in
          all_append (FitAt bytes P at) rest opened.places (all_left (FitAt bytes P at) rest (place ∷ []) all) (opened.needed (all_right (FitAt bytes P at) rest (place ∷ []) all).0);
    })

module _ {K V : Type 0} (bytes : K → List ℕ) (P : ℕ) (arena : Arena K V) where
  -- as many nodes stand below a name as its shape has
  below-size : (n : Name) (below : HasShape bytes P (node_at arena) n) → nodes_below (slots_of arena) (node_at arena) n ≡ length (cells P below.shape)
  below-size n below =
      let part = below.part in
      ap (nodes_below (slots_of arena) (node_at arena)) (sym part.named) ∙ nodes_below-held P (node_at arena) (slots_of arena) below.shape part.held (cells_few P arena n below.shape part)

  -- from an inner node to its first child
  pub record StepToFirst (n : Name) (below : HasShape bytes P (node_at arena) n) (child : ℕ × Name) : Type 0 where
    pub next : HasShape bytes P (node_at arena) child.1
    pub same_key : first_key bytes next.shape ≡ first_key bytes below.shape
    pub nearer : nodes_below (slots_of arena) (node_at arena) child.1 < nodes_below (slots_of arena) (node_at arena) n

  pub step : (n : Name) (below : HasShape bytes P (node_at arena) n) → n.kind ≢ Leaf → (node : InnerNode) → node_at arena n ≡ Some (branches node)
      → (child : ℕ × Name) → first_child node.children ≡ Some child → StepToFirst n below child
  step n below other node there child e =
      let f = first-child bytes P (node_at arena) n below other node there in
      let h : Some f.child ≡ Some child = sym (ap first_child f.is) ∙ e in
      let same : f.child ≡ child = cc in
      let fewer = f.fewer in
      let here = below-size n below in
      let later = below-size f.child.1 f.next in
      subst (λ c. StepToFirst n below c) same (record { next = f.next; same_key = f.same_key; nearer = omega (arith, fewer, here, later) })

  pub no-child : (n : Name) (below : HasShape bytes P (node_at arena) n) → n.kind ≢ Leaf → (node : InnerNode) → node_at arena n ≡ Some (branches node) → first_child node.children ≡ None → ⊥
  no-child n below other node there e =
      let f = first-child bytes P (node_at arena) n below other node there in
      let h : Some f.child ≡ None = sym (ap first_child f.is) ∙ e in cc

  -- the number of nodes below a name, and below its children
  pub node-size : (n : Name) (below : HasShape bytes P (node_at arena) n) (node : InnerNode) → node_at arena n ≡ Some (branches node)
      → nodes_below (slots_of arena) (node_at arena) n ≡ suc (sum_of (nodes_below (slots_of arena) (node_at arena)) (names_of node.children))
  node-size n below node there =
      let part = below.part in
      let few = cells_few P arena n below.shape part in
      let more : nodes_below (suc (slots_of arena)) (node_at arena) (name_of below.shape) ≡ length (cells P below.shape) =
      nodes_below-held P (node_at arena) (suc (slots_of arena)) below.shape part.held (omega (arith, few)) in
      let there_too : node_at arena (name_of below.shape) ≡ Some (branches node) = ap (node_at arena) part.named ∙ there in
      below-size n below ∙ sym more ∙ ap (in_all (nodes_below (slots_of arena) (node_at arena))) there_too
      ∙ ap suc (total-names (nodes_below (slots_of arena) (node_at arena)) node.children)
    where
      in_all : (Name → ℕ) → Option (Cell K V) → ℕ
      in_all f None = 0
      in_all f (Some (pair k v)) = 1
      in_all f (Some (branches node)) = suc (total f node.children)

  -- the leaf of a key
  pub leaf_held_at : (slot : ℕ) (key : List ℕ) (has : LeafHasKey bytes P (node_at arena) slot key) → (l : LeafNode K V) × (held_at arena (leaf_name slot) ≡ Some (leaf_held l)) × (bytes l.key ≡ key)
  leaf_held_at slot key has =
      let there = a_leaf (held_at arena (leaf_name slot)) has.0 has.1 has.2 in (there.0, there.1, ap bytes there.2 ∙ has.3)
    where
      a_leaf : (o : Option (Held K V)) (k : K) (v : V) → cell_of o ≡ Some (pair k v) → (l : LeafNode K V) × (o ≡ Some (leaf_held l)) × (l.key ≡ k)
      a_leaf None k v e = absurd (cc)
      a_leaf (Some (leaf_held l)) k v e = (l, refl, cc)
      a_leaf (Some (inner_held node)) k v e = absurd (cc)

  -- the nodes below what waits, in sum
  abbrev pub nodes_waiting : List Place → ℕ
  nodes_waiting waiting = sum_of (nodes_below (slots_of arena) (node_at arena)) (placed waiting)

  waiting-top : (waiting rest : List Place) (place : Place) → waiting ≡ rest ++ place ∷ [] → nodes_waiting waiting ≡ nodes_waiting rest + nodes_below (slots_of arena) (node_at arena) place.name
  waiting-top waiting rest place top =
      let f = nodes_below (slots_of arena) (node_at arena) in
      let e = ap (λ ps. sum_of f (placed ps)) top ∙ ap (sum_of f) (map-append (λ (p : Place). p.name) rest (place ∷ [])) in
      omega (arith, e, sum-append f (placed rest) (place.name ∷ []))

  some-cells : (s : Shape K V) → 1 ≤ length (cells P s)
  some-cells (leaf_at slot k v) = omega arith
  some-cells (inner_at n prefix kids) = omega arith

  pub fewer-leaf : (waiting rest : List Place) (place : Place) → waiting ≡ rest ++ place ∷ [] → StandsAsTold bytes P (node_at arena) place → nodes_waiting rest < nodes_waiting waiting
  fewer-leaf waiting rest place top stands =
      let t = waiting-top waiting rest place top in
      let here = below-size place.name stands.below in
      omega (arith, t, here, some-cells stands.below.shape)

  pub fewer-inner : (waiting rest new : List Place) (place : Place) → waiting ≡ rest ++ place ∷ [] → StandsAsTold bytes P (node_at arena) place → Opens bytes P (node_at arena) place rest new → nodes_waiting new < nodes_waiting waiting
  fewer-inner waiting rest new place top stands opened =
      let f = nodes_below (slots_of arena) (node_at arena) in
      let t = waiting-top waiting rest place top in
      let here = node-size place.name stands.below opened.node opened.held in
      let now = ap (λ ps. sum_of f (placed ps)) opened.wait ∙ ap (sum_of f) (map-append (λ (p : Place). p.name) rest opened.places) ∙ sum-append f (placed rest) (placed opened.places) in
      let names = ap (sum_of f) opened.names in
      omega (arith, t, here, now, names)
