-- The nodes of a shape are freed one at a time: what the arena holds after each step.
use Rattle.std.proofs.Common.{◌≡◌, ◌≢◌, ℕ, ◌+◌, ◌≤◌, Bool, true, false, cond, List, [], ◌∷◌, ◌++◌, filter, length, Option, Some, None, refl, sym, ap, ◌∙◌, inl, inr, arith, append_assoc}
use Rattle.std.proofs.lemmas.Bool.Decides.{eqb_tells}
use Rattle.std.proofs.lemmas.List.{append-nil}
use Rattle.art_nodes.proofs.Common.{IsAscendingFrom, last_child, without_child, Name}
use Rattle.art_arena.proofs.Common.{Arena, node_at, Cell, pair, leaf_name, copies, Holds, Frame, fill, plug, frame_cell, cells_before, Shape, Branches, leaf_at, inner_at, no_branch, branch, name_of, children_at, join, node_of, cells, cells_in, same_name_tells, Holds-remove, Holds-same}
use Rattle.art_arena.proofs.Common.{nodes-update, nodes-same}
use Rattle.art_operations.proofs.Terms.{cells_with, cells_with_in, KeepsAllBut, IsChildIn, IsChildless, AreFirst, FreesRoot}

-- one of the children that pass a test is one of all, and so is the last of all
pub among-passing : {A : Type 0} (test : A → Bool) (xs ys : List A) (c : A) → filter test xs ≡ ys ++ c ∷ [] → (before : List A) × (after : List A) × (xs ≡ before ++ c ∷ after)
among-passing test [] [] c e = absurd (cc)
among-passing test [] (y ∷ ys) c e = absurd (cc)
among-passing {A} test (x ∷ xs) ys c e = here (λ zs rest. among-passing test xs zs c rest) (test x) refl
  where
    later : ((before : List A) × (after : List A) × (xs ≡ before ++ c ∷ after)) → (before : List A) × (after : List A) × (x ∷ xs ≡ before ++ c ∷ after)
    later found = (x ∷ found.0, found.1, ap (λ ws. x ∷ ws) found.2)

    first : ((zs : List A) → filter test xs ≡ zs ++ c ∷ [] → (before : List A) × (after : List A) × (xs ≡ before ++ c ∷ after)) → (zs : List A) → x ∷ filter test xs ≡ zs ++ c ∷ [] → (before : List A) × (after : List A) × (x ∷ xs ≡ before ++ c ∷ after)
    first again [] whole = let same : x ≡ c = cc in ([], xs, ap (λ y. y ∷ xs) same)
    first again (z ∷ zs) whole = later (again zs (cc))

    here : ((zs : List A) → filter test xs ≡ zs ++ c ∷ [] → (before : List A) × (after : List A) × (xs ≡ before ++ c ∷ after)) → (b : Bool) → test x ≡ b → (before : List A) × (after : List A) × (x ∷ xs ≡ before ++ c ∷ after)
    here again true passes = first again ys (rw passes at e)
    here again false fails = later (again ys (rw fails at e))

pub among-last : (xs : List (ℕ × Name)) (last : Option (ℕ × Name)) → last ≡ last_child xs → IsChildIn xs last
among-last [] last e = rw e refl
among-last (x ∷ []) last e = rw e ([], [], refl)
among-last (x ∷ y ∷ xs) last e = onto last (among-last (y ∷ xs) last e)
  where
    onto : (l : Option (ℕ × Name)) → IsChildIn (y ∷ xs) l → IsChildIn (x ∷ y ∷ xs) l
    onto None none = absurd (cc)
    onto (Some c) found = (x ∷ found.0, found.1, ap (λ ws. x ∷ ws) found.2)

-- of children by ascending byte one is taken out
pub without-among : {N : Type 0} (low : ℕ) (xs : List (ℕ × N)) (b : ℕ) (m : N) (ys : List (ℕ × N)) → IsAscendingFrom low (xs ++ (b, m) ∷ ys) → (low ≤ b) × (without_child (xs ++ (b, m) ∷ ys) b ≡ xs ++ ys)
without-among low [] b m ys up = (up.0, elim (eqb_tells b b) [ inl same ↦ rw same.0 refl | inr other ↦ absurd (other.1 refl) ])
without-among low (x ∷ xs) b m ys up =
    let later = without-among (x.0 + 1) xs b m ys up.2 in
    let above = later.0 in (
      omega (arith, up.0, above),
      elim (eqb_tells x.0 b) [
        | inl same ↦ absurd (omega (arith, same.1, above))
        | inr other ↦ rw other.0 (ap (λ zs. x ∷ zs) later.1)
      ],
    )

-- the branch of a child, and those beside it
pub branch-among : {K V : Type 0} (kids : Branches K V) (before : List (ℕ × Name)) (c : ℕ × Name) (after : List (ℕ × Name)) → children_at kids ≡ before ++ c ∷ after
    → (f : Branches K V) × (t : Shape K V) × (g : Branches K V) × (kids ≡ join f (branch c.0 t g)) × (name_of t ≡ c.1)
branch-among no_branch [] c after e = absurd (cc)
branch-among no_branch (x ∷ before) c after e = absurd (cc)
branch-among (branch b t rest) [] c after e =
    let same : (b, name_of t) ≡ c = cc in
    (no_branch, t, rest, ap (λ (p : ℕ × Name). branch p.0 t rest) same, ap (λ (p : ℕ × Name). p.1) same)
branch-among (branch b t rest) (x ∷ before) c after e =
    let later = branch-among rest before c after (cc) in
    (branch b t later.0, later.1, later.2, ap (λ g. branch b t g) later.3, later.4)

module _ {K V : Type 0} (P : ℕ) (w : Bool) where
  pub with-join : (f g : Branches K V) → cells_with_in P w (join f g) ≡ cells_with_in P w f ++ cells_with_in P w g
  with-join no_branch g = refl
  with-join (branch b s f) g = ap (λ xs. cells_with P w s ++ xs) (with-join f g) ∙ sym (append_assoc (cells_with P w s) (cells_with_in P w f) (cells_with_in P w g))

  -- the cells after a place
  abbrev pub after_with : List (Frame K V) → List (Name × Cell K V)
  after_with [] = []
  after_with (f ∷ outer) = cells_with_in P w f.after ++ after_with outer

  with-fill : (f : Frame K V) (s : Shape K V) → f.before ≡ no_branch → cells_with P w (fill f s) ≡ frame_cell P f (name_of s) ∷ (cells_with P w s ++ cells_with_in P w f.after)
  with-fill f s e =
      ap (λ before. cells_with P w (inner_at f.name f.prefix (join before (branch f.byte s f.after)))) e
      ∙ ap (λ before. (f.name, node_of P f.prefix (children_at before ++ (f.byte, name_of s) ∷ children_at f.after)) ∷ (cells_with P w s ++ cells_with_in P w f.after)) (sym e)

  -- the cells of a shape with a place that is the first below each node above it
  pub with-plug : (ctx : List (Frame K V)) (s : Shape K V) → AreFirst ctx → cells_with P w (plug ctx s) ≡ cells_before P ctx (name_of s) ++ (cells_with P w s ++ after_with ctx)
  with-plug [] s first = sym (append-nil (cells_with P w s))
  with-plug (f ∷ outer) s first =
      with-plug outer (fill f s) first.1
      ∙ ap (λ xs. cells_before P outer f.name ++ (xs ++ after_with outer)) (with-fill f s first.0)
      ∙ ap (λ xs. cells_before P outer f.name ++ (frame_cell P f (name_of s) ∷ xs)) (append_assoc (cells_with P w s) (cells_with_in P w f.after) (after_with outer))
      ∙ sym (append_assoc (cells_before P outer f.name) (frame_cell P f (name_of s) ∷ []) (cells_with P w s ++ (cells_with_in P w f.after ++ after_with outer)))
      ∙ ap (λ before. (cells_before P outer f.name ++ frame_cell P f (name_of s) ∷ cells_in P before) ++ (cells_with P w s ++ (cells_with_in P w f.after ++ after_with outer))) (sym first.0)

  -- the cell of the root, where it is freed
  abbrev pub root_cells : Shape K V → List (Name × Cell K V)
  root_cells (leaf_at slot k v) = cond w ((leaf_name slot, pair k v) ∷ []) []
  root_cells (inner_at n prefix kids) = (n, node_of P prefix (children_at kids)) ∷ []

  pub childless-cells : (s : Shape K V) → IsChildless s → cells_with P w s ≡ root_cells s
  childless-cells (leaf_at slot k v) none = refl
  childless-cells (inner_at n prefix no_branch) none = refl
  childless-cells (inner_at n prefix (branch b t rest)) none = absurd none

  pub childless-one : (s : Shape K V) → IsChildless s → length (cells P s) ≡ 1
  childless-one (leaf_at slot k v) none = refl
  childless-one (inner_at n prefix no_branch) none = refl
  childless-one (inner_at n prefix (branch b t rest)) none = absurd none

-- where the root was freed its cell is gone, and nothing else
freed_leaf : {K V : Type 0} (P : ℕ) (w : Bool) (old new : Arena K V) (slot : ℕ) (k : K) (v : V) (xs ys : List (Name × Cell K V)) → FreesRoot w old new (leaf_at slot k v)
    → Holds (node_at old) (xs ++ (root_cells P w (leaf_at slot k v) ++ ys)) → Holds (node_at new) (xs ++ ys)
freed_leaf P true old new slot k v xs ys frees holds = Holds-remove (node_at old) (node_at new) (leaf_name slot) (pair k v) xs ys (nodes-update old new (leaf_name slot) None frees) holds
freed_leaf P false old new slot k v xs ys frees holds = Holds-same (node_at old) (node_at new) (nodes-same old new frees) (xs ++ ys) holds

pub freed_root : {K V : Type 0} (P : ℕ) (w : Bool) (old new : Arena K V) (s : Shape K V) (xs ys : List (Name × Cell K V)) → FreesRoot w old new s
    → Holds (node_at old) (xs ++ (root_cells P w s ++ ys)) → Holds (node_at new) (xs ++ ys)
freed_root P w old new (leaf_at slot k v) xs ys frees holds = freed_leaf P w old new slot k v xs ys frees holds
freed_root P w old new (inner_at n prefix kids) xs ys frees holds = Holds-remove (node_at old) (node_at new) n _ xs ys (nodes-update old new n None frees) holds

-- a write of one name leaves the others
pub apart-from : {C : Type 0} (n m : Name) (c : C) (xs : List (Name × C)) → copies n ((m, c) ∷ xs) ≡ 0 → n ≢ m
apart-from n m c xs none e = elim (same_name_tells n m) [
  | inl same ↦ absurd (omega (arith, rw same.0 at none))
  | inr other ↦ other.1 e
]

kept_lone_leaf : {K V : Type 0} (P : ℕ) (w : Bool) (old new : Arena K V) (slot : ℕ) (k : K) (v : V) → FreesRoot w old new (leaf_at slot k v) → KeepsAllBut (root_cells P w (leaf_at slot k v)) old new
kept_lone_leaf P true old new slot k v frees n none = frees.others n (apart-from n (leaf_name slot) (pair k v) [] none)
kept_lone_leaf P false old new slot k v frees n none = frees n

pub kept_root : {K V : Type 0} (P : ℕ) (w : Bool) (old new : Arena K V) (s : Shape K V) → FreesRoot w old new s → KeepsAllBut (root_cells P w s) old new
kept_root {K} {V} P w old new (leaf_at slot k v) frees = kept_lone_leaf P w old new slot k v frees
kept_root {K} {V} P w old new (inner_at n prefix kids) frees = λ m none. frees.others m (apart-from m n (node_of {K = K} {V = V} P prefix (children_at kids)) [] none)
