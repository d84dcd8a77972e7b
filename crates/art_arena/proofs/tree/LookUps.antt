-- What a look-up reads of a key's path.
use Rattle.std.proofs.Common.{◌≡◌, ℕ, zero, suc, ◌≤◌, List, [], ◌∷◌, ◌++◌, length, take, drop, drop_at, refl, sym, ap, ap₂, subst, ◌∙◌, inl, inr, append_assoc, arith, eqb, eq-eqb, ne_eqb}
use Rattle.std.proofs.lemmas.List.{take-append-drop}
use Rattle.std.proofs.lemmas.Bool.{cond-true, cond-false, cond_both, cases_eq}
use Rattle.art_bytes.proofs.Common.{BeginsWith, begins_from_step}
use Rattle.art_arena.proofs.Terms.{IsIn, Tree, Forest, leaf, inner, no_child, child, items, items_in, IsCanonical, AreCanonical, begins_with, path_of, path_in, look_up_path, look_up_in}
use Rattle.art_arena.proofs.tree.Canonical.{begin}
use Rattle.art_arena.proofs.tree.Fronts.{begins_trans, cancel_front, not_among_others, one_byte}
use Rattle.art_arena.proofs.tree.Insert.{all_at}
use Rattle.art_arena.proofs.tree.Parts.{begins_same}
use Rattle.art_arena.proofs.tree.Paths.{deeper, in_cases}

-- the first bytes of a prefix begin what begins with it
pub begins_taken : (P : ℕ) (prefix more : List ℕ) → BeginsWith (take P prefix) (prefix ++ more)
begins_taken zero prefix more = (prefix ++ more, refl)
begins_taken (suc P) [] more = (more, refl)
begins_taken (suc P) (x ∷ prefix) more = let rest = begins_taken P prefix more in (rest.0, ap (λ l. x ∷ l) rest.1)

-- where two keys have the same first bytes, they are compared by what follows
pub same_rest : (n : ℕ) (a b : List ℕ) → take n a ≡ take n b → drop n a ≡ drop n b → a ≡ b
same_rest n a b front rest = sym (take-append-drop n a) ∙ ap₂ (λ x y. x ++ y) front rest ∙ take-append-drop n b

pub begins_rest : (n : ℕ) (a b : List ℕ) → take n a ≡ take n b → BeginsWith (drop n a) (drop n b) → BeginsWith a b
begins_rest n a b front (rest, is) = (
  rest,
  sym (take-append-drop n b) ∙ ap₂ (λ x y. x ++ y) (sym front) is ∙ sym (append_assoc (take n a) (drop n a) rest) ∙ ap (λ x. x ++ rest) (take-append-drop n a),
)

pub rest_begins : (n : ℕ) (a b : List ℕ) → take n a ≡ take n b → BeginsWith a b → BeginsWith (drop n a) (drop n b)
rest_begins n a b front (rest, is) = (
  rest,
  cancel_front (take n a) (drop n b) (drop n a ++ rest)
      (ap (λ x. x ++ drop n b) front ∙ take-append-drop n b ∙ is ∙ ap (λ x. x ++ rest) (sym (take-append-drop n a)) ∙ append_assoc (take n a) (drop n a) rest),
)

-- it reads no more nodes than the path has
mutual
  pub look_up_few : {X : Type 0} (P : ℕ) (t : Tree X) (k : List ℕ) → length (look_up_path P t k) ≤ length (path_of t k)
  look_up_few P (leaf x) k = omega arith
  look_up_few P (inner prefix cs) k =
      let below = look_up_few_in P cs (drop (length prefix) k) in
      cond_both (begins_with (take P prefix) k) (look_up_in P cs (drop (length prefix) k)) [] (λ nodes. suc (length nodes) ≤ suc (length (path_in cs (drop (length prefix) k)))) (λ _. omega (arith, below)) (λ _. omega arith)

  look_up_few_in : {X : Type 0} (P : ℕ) (cs : Forest X) (k : List ℕ) → length (look_up_in P cs k) ≤ length (path_in cs k)
  look_up_few_in P no_child k = omega arith
  look_up_few_in P (child c t cs) [] = omega arith
  look_up_few_in P (child c t cs) (b ∷ k) = elim (cases_eq b c) [
    | inl same ↦
        let here = look_up_few P t k in
        omega (arith, here, ap length (cond-true (eqb b c) (look_up_path P t k) (look_up_in P cs (b ∷ k)) (eq-eqb b c same)), ap length (cond-true (eqb b c) (path_of t k) (path_in cs (b ∷ k)) (eq-eqb b c same)))
    | inr apart ↦
        let there = look_up_few_in P cs (b ∷ k) in
        omega (arith, there, ap length (cond-false (eqb b c) (look_up_path P t k) (look_up_in P cs (b ∷ k)) (ne_eqb b c apart)), ap length (cond-false (eqb b c) (path_of t k) (path_in cs (b ∷ k)) (ne_eqb b c apart)))
  ]

-- and reads the whole path where a stored key is a front of the key
module _ {X : Type 0} (key : X → List ℕ) (P : ℕ) where
  mutual
    reads : (k p : List ℕ) (t : Tree X) → IsCanonical key p t → (y : X) → IsIn y (items t) → BeginsWith (key y) k → (rest : List ℕ) → k ≡ p ++ rest → look_up_path P t rest ≡ path_of t rest
    reads k p (leaf x) h y i s rest e = refl
    reads k p (inner prefix cs) h y i s rest e =
        let d = deeper key (key y) (p ++ prefix) cs h.1 (y, i, refl) in
        let g : k ≡ (p ++ prefix) ++ d.0 ∷ (d.1 ++ s.0) = s.1 ∙ ap (λ m. m ++ s.0) d.2 ∙ append_assoc (p ++ prefix) (d.0 ∷ d.1) s.0 in
        let f : rest ≡ prefix ++ d.0 ∷ (d.1 ++ s.0) = cancel_front p rest (prefix ++ d.0 ∷ (d.1 ++ s.0)) (sym e ∙ g ∙ append_assoc p prefix (d.0 ∷ (d.1 ++ s.0))) in
        let after : drop (length prefix) rest ≡ d.0 ∷ (d.1 ++ s.0) = ap (drop (length prefix)) f ∙ drop_at prefix (d.0 ∷ (d.1 ++ s.0)) (length prefix) refl in
        let meets = begins_same (take P prefix) rest (subst (BeginsWith (take P prefix)) (sym f) (begins_taken P prefix (d.0 ∷ (d.1 ++ s.0)))) in
        ap (λ nodes. inner prefix cs ∷ nodes)
        (cond-true (begins_with (take P prefix) rest) (look_up_in P cs (drop (length prefix) rest)) [] meets
        ∙ ap (look_up_in P cs) after ∙ reads_in k (p ++ prefix) cs h.1 y i s d.0 (d.1 ++ s.0) g ∙ sym (ap (path_in cs) after))

    reads_in : (k q : List ℕ) (cs : Forest X) → AreCanonical key q cs → (y : X) → IsIn y (items_in cs) → BeginsWith (key y) k → (b : ℕ) (r : List ℕ) → k ≡ q ++ b ∷ r
        → look_up_in P cs (b ∷ r) ≡ path_in cs (b ∷ r)
    reads_in k q no_child h y i s b r e = absurd i
    reads_in k q (child c t cs) h y i s b r e =
        let here = λ (f : b ≡ c) (j : IsIn y (items t)). cond-true (eqb b c) (look_up_path P t r) (look_up_in P cs (b ∷ r)) (eq-eqb b c f)
        ∙ reads k (q ++ c ∷ []) t h.0 y j s r (e ∙ ap (λ a. q ++ a ∷ r) f ∙ sym (append_assoc q (c ∷ []) r))
        ∙ sym (cond-true (eqb b c) (path_of t r) (path_in cs (b ∷ r)) (eq-eqb b c f)) in
        let there = λ (n : b ≡ c → ⊥) (j : IsIn y (items_in cs)). cond-false (eqb b c) (look_up_path P t r) (look_up_in P cs (b ∷ r)) (ne_eqb b c n)
        ∙ reads_in k q cs h.2 y j s b r e ∙ sym (cond-false (eqb b c) (path_of t r) (path_in cs (b ∷ r)) (ne_eqb b c n)) in
        elim (in_cases y (items t) (items_in cs) i) [
          | inl j ↦ here (one_byte q b c k (begins_from_step q b r k e)
              (begins_trans (q ++ c ∷ []) (key y) k (all_at (λ x. BeginsWith (q ++ c ∷ []) (key x)) y (items t) (begin key (q ++ c ∷ []) t h.0) j) s)) j
          | inr j ↦ there (λ f.
              let d = deeper key (key y) q cs h.2 (y, j, refl) in
              let g : c ≡ d.0 = sym f ∙ one_byte q b d.0 k (begins_from_step q b r k e) (begins_trans (q ++ d.0 ∷ []) (key y) k (begins_from_step q d.0 d.1 (key y) d.2) s) in
              all_at (λ x. BeginsWith (q ++ c ∷ []) (key x) → ⊥) y (items_in cs) (not_among_others key q c cs h.1 h.2) j
              (subst (λ a. BeginsWith (q ++ a ∷ []) (key y)) (sym g) (begins_from_step q d.0 d.1 (key y) d.2))) j
        ]

  pub look_up_whole : (t : Tree X) → IsCanonical key [] t → (k : List ℕ) (y : X) → IsIn y (items t) → BeginsWith (key y) k → look_up_path P t k ≡ path_of t k
  look_up_whole t h k y i s = reads k [] t h y i s k refl
