-- Removal from a canonical tree.
use Rattle.std.proofs.Common.{◌≡◌, ℕ, suc, ◌+◌, ◌≤◌, ◌⊎◌, List, [], ◌∷◌, ◌++◌, length, drop, drop_at, Bool, true, false, bytes_eq, cond, eqb, eq-eqb, ne_eqb, refl, sym, ap, ap₂, ◌∙◌, subst, inl, inr, append_assoc, append-nil, arith}
use Rattle.std.proofs.lemmas.Bool.{cases_Bool, cases_eq, cond-true, cond-false}
use Rattle.std.proofs.lemmas.Slice.Eq.{bytes_eq-Decides}
use Rattle.art_bytes.proofs.Common.{BeginsWith, begins_append, begins_step}
use Rattle.art_arena.proofs.Terms.{IsIn, IsPutIn, Tree, Forest, leaf, inner, no_child, child, items, items_in, count, IsBelow, IsCanonical, AreCanonical, nodes_with, nodes_in, one_if, one_fewer}
use Rattle.art_arena.proofs.tree.Canonical.{begin}
use Rattle.art_arena.proofs.tree.Insert.{all_at, put_left, put_right, put_first}
use Rattle.art_arena.proofs.tree.Fronts.{cancel_front}
use Rattle.art_arena.proofs.tree.Paths.{deeper, in_cases}

-- A child that is left alone takes the node's place: its prefix becomes the node's, the byte, and its own.
abbrev pub merged : {X : Type 0} → List ℕ → ℕ → Tree X → Tree X
merged prefix byte (leaf y) = leaf y
merged prefix byte (inner p cs) = inner (prefix ++ byte ∷ p) cs

-- a node after one of its children is removed
abbrev pub settled : {X : Type 0} → List ℕ → Forest X → Tree X
settled prefix no_child = inner prefix no_child
settled prefix (child b t no_child) = merged prefix b t
settled prefix (child b t (child c u cs)) = inner prefix (child b t (child c u cs))

-- how many children the last inner node on the way to a key has, n where there is none
abbrev mutual
  pub last_count : {X : Type 0} → ℕ → Tree X → List ℕ → ℕ
  last_count n (leaf x) k = n
  last_count n (inner prefix cs) k = last_in (count cs) cs (drop (length prefix) k)

  pub last_in : {X : Type 0} → ℕ → Forest X → List ℕ → ℕ
  last_in n no_child k = n
  last_in n (child c t cs) [] = n
  last_in n (child c t cs) (b ∷ k) = cond (eqb b c) (last_count n t k) (last_in n cs (b ∷ k))

-- a node of n children among the first number has one child less in the second, or is gone
abbrev pub Loses : (ℕ → Bool) → ℕ → ℕ → ℕ → Type 0
Loses test before after n = after + one_if (test n) ≡ before + one_fewer test n

pub list_cases : (k l : List ℕ) → (k ≡ l) ⊎ (k ≡ l → ⊥)
list_cases k l = elim (cases_Bool (bytes_eq k l)) [
  | inl t ↦ inl ((bytes_eq-Decides k l).0 t)
  | inr f ↦ inr (λ e. let g : true ≡ false = sym ((bytes_eq-Decides k l).1 e) ∙ f in cc)
]

-- whether k goes on after the prefix
pub goes_past : (prefix k : List ℕ) → ((b : ℕ) × (r : List ℕ) × (k ≡ prefix ++ b ∷ r)) ⊎ ((b : ℕ) (r : List ℕ) → k ≡ prefix ++ b ∷ r → ⊥)
goes_past [] [] = inr (λ b r e. cc)
goes_past [] (b ∷ k) = inl (b, k, refl)
goes_past (a ∷ p) [] = inr (λ b r e. cc)
goes_past (a ∷ p) (c ∷ k) =
    let rest = goes_past p k in
    elim (cases_eq c a) [
      | inl e ↦ elim rest [ inl f ↦ inl (f.0, f.1, ap₂ (λ x l. x ∷ l) e f.2) | inr g ↦ inr (λ b r f. let h : k ≡ p ++ b ∷ r = cc in g b r h) ]
      | inr g ↦ inr (λ b r f. let h : c ≡ a = cc in g h)
    ]

module _ {X : Type 0} (key : X → List ℕ) where
  pub merged_canonical : (path prefix : List ℕ) (b : ℕ) (t : Tree X) → IsCanonical key ((path ++ prefix) ++ b ∷ []) t → IsCanonical key path (merged prefix b t)
  merged_canonical path prefix b (leaf y) h = begins_append path (prefix ++ b ∷ []) (key y) (subst (λ q. BeginsWith q (key y)) (append_assoc path prefix (b ∷ [])) h)
  merged_canonical path prefix b (inner p cs) h =
      (h.0, subst (λ q. AreCanonical key q cs) (append_assoc (path ++ prefix) (b ∷ []) p ∙ append_assoc path prefix (b ∷ p)) h.1)

  pub merged_items : (prefix : List ℕ) (b : ℕ) (t : Tree X) → items (merged prefix b t) ≡ items t
  merged_items prefix b (leaf y) = refl
  merged_items prefix b (inner p cs) = refl

  pub settled_canonical : (path prefix : List ℕ) (cs : Forest X) → 1 ≤ count cs → AreCanonical key (path ++ prefix) cs → IsCanonical key path (settled prefix cs)
  settled_canonical path prefix no_child n h = absurd (omega arith)
  settled_canonical path prefix (child b t no_child) n h = merged_canonical path prefix b t h.0
  settled_canonical path prefix (child b t (child c u cs)) n h = (omega arith, h)

  pub settled_items : (prefix : List ℕ) (cs : Forest X) → items (settled prefix cs) ≡ items_in cs
  settled_items prefix no_child = refl
  settled_items prefix (child b t no_child) = merged_items prefix b t ∙ sym (append-nil (items t))
  settled_items prefix (child b t (child c u cs)) = refl

  pub merged_nodes : (test : ℕ → Bool) (prefix : List ℕ) (b : ℕ) (t : Tree X) → nodes_with test (merged prefix b t) ≡ nodes_with test t
  merged_nodes test prefix b (leaf y) = refl
  merged_nodes test prefix b (inner p cs) = refl

  pub settled_nodes : (test : ℕ → Bool) (prefix : List ℕ) (cs : Forest X) → 1 ≤ count cs → nodes_with test (settled prefix cs) ≡ one_fewer test (suc (count cs)) + nodes_in test cs
  settled_nodes test prefix no_child n = absurd (omega arith)
  settled_nodes test prefix (child b t no_child) n = merged_nodes test prefix b t ∙ omega arith
  settled_nodes test prefix (child b t (child c u cs)) n = refl

  -- no item has the key
  abbrev pub IsAbsent : List ℕ → List X → Type 0
  IsAbsent k xs = (y : X) → IsIn y xs → key y ≡ k → ⊥

  pub data Removal (path k rest : List ℕ) (t : Tree X) : Type 0 where
    absent : IsAbsent k (items t) → Removal path k rest t
    whole : (y : X) → t ≡ leaf y → key y ≡ k → Removal path k rest t
    removed : (y : X) → key y ≡ k → (u : Tree X) → IsCanonical key path u → IsPutIn y (items u) (items t)
        → ((test : ℕ → Bool) (n : ℕ) → Loses test (nodes_with test t) (nodes_with test u) (last_count n t rest)) → Removal path k rest t

  pub data RemovalIn (path k : List ℕ) (b : ℕ) (r : List ℕ) (cs : Forest X) : Type 0 where
    absent_in : IsAbsent k (items_in cs) → RemovalIn path k b r cs
    -- a child is gone
    gone_in : (y : X) → key y ≡ k → (ds : Forest X) → AreCanonical key path ds → count cs ≡ suc (count ds) → ((a : ℕ) → IsBelow a cs → IsBelow a ds)
        → IsPutIn y (items_in ds) (items_in cs) → ((test : ℕ → Bool) → nodes_in test ds ≡ nodes_in test cs) → ((n : ℕ) → last_in n cs (b ∷ r) ≡ n) → RemovalIn path k b r cs
    -- a child has lost the item
    changed_in : (y : X) → key y ≡ k → (ds : Forest X) → AreCanonical key path ds → count cs ≡ count ds → ((a : ℕ) → IsBelow a cs → IsBelow a ds)
        → IsPutIn y (items_in ds) (items_in cs) → ((test : ℕ → Bool) (n : ℕ) → Loses test (nodes_in test cs) (nodes_in test ds) (last_in n cs (b ∷ r))) → RemovalIn path k b r cs

  -- a key that doesn't go on by the byte isn't below the child
  apart_from : (q : List ℕ) (b : ℕ) (t : Tree X) → IsCanonical key (q ++ b ∷ []) t → (k : List ℕ) → ((r : List ℕ) → k ≡ q ++ b ∷ r → ⊥) → IsAbsent k (items t)
  apart_from q b t h k never y i e = let s = begins_step q b (key y) (all_at _ y (items t) (begin key (q ++ b ∷ []) t h) i) in never s.0 (sym e ∙ s.1)

  up : (path prefix k : List ℕ) (b : ℕ) (r rest : List ℕ) (cs : Forest X) → rest ≡ prefix ++ b ∷ r → 2 ≤ count cs → RemovalIn (path ++ prefix) k b r cs → Removal path k rest (inner prefix cs)
  up path prefix k b r rest cs f n (absent_in never) = absent never
  up path prefix k b r rest cs f n (gone_in y e ds h m low put nodes last) =
      removed y e (settled prefix ds) (settled_canonical path prefix ds (omega arith) h) (subst (λ l. IsPutIn y l (items_in cs)) (sym (settled_items prefix ds)) put)
      (λ test a.
      let d = ap (drop (length prefix)) f ∙ drop_at prefix (b ∷ r) (length prefix) refl in
      let l : last_in (count cs) cs (drop (length prefix) rest) ≡ suc (count ds) = ap (last_in (count cs) cs) d ∙ last (count cs) ∙ m in
      let s = settled_nodes test prefix ds (omega arith) in
      let v = nodes test in
      let w = ap (λ i. one_if (test i)) m in
      subst (λ i. Loses test (nodes_with test (inner prefix cs)) (nodes_with test (settled prefix ds)) i) (sym l) (omega (arith, s, v, w)))
  up path prefix k b r rest cs f n (changed_in y e ds h m low put nodes) =
      removed y e (inner prefix ds) (omega arith, h) put
      (λ test a.
      let d = ap (drop (length prefix)) f ∙ drop_at prefix (b ∷ r) (length prefix) refl in
      let v = nodes test (count cs) in
      let w = ap (λ i. one_if (test i)) m in
      subst (λ l. Loses test (nodes_with test (inner prefix cs)) (nodes_with test (inner prefix ds)) (last_in (count cs) cs l)) (sym d) (omega (arith, v, w)))

  from_first : (q k : List ℕ) (c : ℕ) (r : List ℕ) (t : Tree X) (cs : Forest X) → AreCanonical key q (child c t cs) → IsAbsent k (items_in cs)
      → Removal (q ++ c ∷ []) k r t → RemovalIn q k c r (child c t cs)
  from_first q k c r t cs h none (absent never) = absent_in (λ y i e. elim (in_cases y (items t) (items_in cs) i) [ inl j ↦ never y j e | inr j ↦ none y j e ])
  from_first q k c r t cs h none (whole y e f) =
      gone_in y f cs h.2 refl (λ a low. low.1) (subst (λ u. IsPutIn y (items_in cs) (items u ++ items_in cs)) (sym e) (put_first y (items_in cs)))
      (λ test. sym (ap (λ u. nodes_with test u + nodes_in test cs) e ∙ omega arith))
      (λ n. cond-true (eqb c c) (last_count n t r) (last_in n cs (c ∷ r)) (eq-eqb c c refl) ∙ ap (λ u. last_count n u r) e)
  from_first q k c r t cs h none (removed y f u g put nodes) =
      changed_in y f (child c u cs) (g, h.1, h.2) refl (λ a low. low) (put_left y (items u) (items t) (items_in cs) put)
      (λ test n.
      let l = cond-true (eqb c c) (last_count n t r) (last_in n cs (c ∷ r)) (eq-eqb c c refl) in
      let v = nodes test n in
      subst (λ i. Loses test (nodes_in test (child c t cs)) (nodes_in test (child c u cs)) i) (sym l) (omega (arith, v)))

  from_others : (q k : List ℕ) (b : ℕ) (r : List ℕ) (c : ℕ) (t : Tree X) (cs : Forest X) → (b ≡ c → ⊥) → AreCanonical key q (child c t cs) → IsAbsent k (items t)
      → RemovalIn q k b r cs → RemovalIn q k b r (child c t cs)
  from_others q k b r c t cs apart h none (absent_in never) = absent_in (λ y i e. elim (in_cases y (items t) (items_in cs) i) [ inl j ↦ none y j e | inr j ↦ never y j e ])
  from_others q k b r c t cs apart h none (gone_in y f ds g n low put nodes last) =
      gone_in y f (child c t ds) (h.0, low c h.1, g) (ap suc n) (λ a l. (l.0, low a l.1)) (put_right y (items_in ds) (items_in cs) (items t) put)
      (λ test. ap (λ m. nodes_with test t + m) (nodes test))
      (λ m. cond-false (eqb b c) (last_count m t r) (last_in m cs (b ∷ r)) (ne_eqb b c apart) ∙ last m)
  from_others q k b r c t cs apart h none (changed_in y f ds g n low put nodes) =
      changed_in y f (child c t ds) (h.0, low c h.1, g) (ap suc n) (λ a l. (l.0, low a l.1)) (put_right y (items_in ds) (items_in cs) (items t) put)
      (λ test m.
      let l = cond-false (eqb b c) (last_count m t r) (last_in m cs (b ∷ r)) (ne_eqb b c apart) in
      let v = nodes test m in
      subst (λ i. Loses test (nodes_in test (child c t cs)) (nodes_in test (child c t ds)) i) (sym l) (omega (arith, v)))

  -- a key that goes on by b isn't below children with greater bytes
  absent_above : (q : List ℕ) (b : ℕ) (r k : List ℕ) (cs : Forest X) → k ≡ q ++ b ∷ r → IsBelow b cs → AreCanonical key q cs → IsAbsent k (items_in cs)
  absent_above q b r k no_child e low h y i f = absurd i
  absent_above q b r k (child c t cs) e low h y i f =
      elim (in_cases y (items t) (items_in cs) i) [
        | inl j ↦ apart_from q c t h.0 k (λ s g. let m : b ∷ r ≡ c ∷ s = cancel_front q (b ∷ r) (c ∷ s) (sym e ∙ g) in let n : b ≡ c = cc in let l = low.0 in omega arith) y j f
        | inr j ↦ absent_above q b r k cs e low.1 h.2 y j f
      ]

  at_leaf : (path : List ℕ) (y : X) (s k rest : List ℕ) → key y ≡ path ++ s → k ≡ path ++ rest → (rest ≡ s) ⊎ (rest ≡ s → ⊥) → Removal path k rest (leaf y)
  at_leaf path y s k rest f e (inl g) = whole y refl (f ∙ ap (λ m. path ++ m) (sym g) ∙ sym e)
  at_leaf path y s k rest f e (inr g) = absent other
    where
      other : IsAbsent k (y ∷ [])
      other z (inl h) i = g (sym (cancel_front path s rest (sym f ∙ ap key h ∙ i ∙ e)))
      other z (inr h) i = h

  mutual
    pub delete : (path : List ℕ) (t : Tree X) → IsCanonical key path t → (k rest : List ℕ) → k ≡ path ++ rest → Removal path k rest t
    delete path (leaf y) h k rest e = at_leaf path y h.0 k rest h.1 e (list_cases rest h.0)
    delete path (inner prefix cs) h k rest e =
        elim (goes_past prefix rest) [
          | inl s ↦ up path prefix k s.0 s.1 rest cs s.2 h.0 (delete_in (path ++ prefix) cs h.1 k s.0 s.1 (e ∙ ap (λ m. path ++ m) s.2 ∙ sym (append_assoc path prefix (s.0 ∷ s.1))))
          | inr never ↦ absent (λ y i f. let d = deeper key (key y) (path ++ prefix) cs h.1 (y, i, refl) in
              never d.0 d.1 (cancel_front path rest (prefix ++ d.0 ∷ d.1) (sym e ∙ sym f ∙ d.2 ∙ append_assoc path prefix (d.0 ∷ d.1))))
        ]

    pub delete_in : (q : List ℕ) (cs : Forest X) → AreCanonical key q cs → (k : List ℕ) (b : ℕ) (r : List ℕ) → k ≡ q ++ b ∷ r → RemovalIn q k b r cs
    delete_in q no_child h k b r e = absent_in (λ y i f. i)
    delete_in q (child c t cs) h k b r e =
        let here = λ (f : b ≡ c). subst (λ a. RemovalIn q k a r (child c t cs)) (sym f) (from_first q k c r t cs h (absent_above q c r k cs (e ∙ ap (λ m. q ++ m ∷ r) f) h.1 h.2)
        (delete (q ++ c ∷ []) t h.0 k r (e ∙ ap (λ m. q ++ m ∷ r) f ∙ sym (append_assoc q (c ∷ []) r)))) in
        let later = delete_in q cs h.2 k b r e in
        elim (cases_eq b c) [
          | inl f ↦ here f
          | inr g ↦ from_others q k b r c t cs g h (apart_from q c t h.0 k (λ s f. let m : b ∷ r ≡ c ∷ s = cancel_front q (b ∷ r) (c ∷ s) (sym e ∙ f) in let n : b ≡ c = cc in g n)) later
        ]
