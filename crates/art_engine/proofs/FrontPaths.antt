-- The path of any key that begins with a front: in the tree of all items, and in that of those whose keys begin with it.
use Rattle.std.proofs.Common.{◌≡◌, ℕ, suc, ◌+◌, List, [], ◌∷◌, ◌++◌, length, drop, refl, sym, ap, ◌∙◌, subst, inl, inr, append_assoc, arith, Some, None, Option, eqb, eq-eqb, ne_eqb}
use Rattle.std.proofs.lemmas.Bool.{cond-true, cond-false, cases_eq, cases_Bool}
use Rattle.std.proofs.lemmas.List.{length-append}
use Rattle.art_arena.proofs.Common.{IsIn, Tree, Forest, leaf, inner, no_child, child, items, IsCanonical, path_of, path_in, tree_of, begins_with, with_front, crossings, begins_true, tenant_path}
use Rattle.art_arena.specs.tree.Trees.{AreCanonical}
use Rattle.art_arena.specs.tree.Landing.{Passing, ends, differs, passes}
use Rattle.art_arena.specs.tree.Parts.{part_with_front, part_in, items_of}
use Rattle.art_arena.proofs.tree.Landing.{Passed, end, other, on, pass_says}
use Rattle.art_arena.proofs.tree.Parts.{part_is_own}
use Rattle.art_arena.proofs.tree.Tenants.{own_in}
use Rattle.art_arena.proofs.tree.Unique.{tree_of_items}

-- a tree below a path, as one from the root on
raised : {X : Type 0} → List ℕ → Tree X → Tree X
raised path (leaf x) = leaf x
raised path (inner prefix children) = inner (path ++ prefix) children

module _ {X : Type 0} (key : X → List ℕ) where
  raised_stands : (path : List ℕ) (t : Tree X) → IsCanonical key path t → IsCanonical key [] (raised path t)
  unfolding raised
  raised_stands path (leaf x) h = (key x, refl)
  raised_stands path (inner prefix children) h = h

  raised_items : (path : List ℕ) (t : Tree X) → items (raised path t) ≡ items t
  unfolding raised
  raised_items path (leaf x) = refl
  raised_items path (inner prefix children) = refl

-- past a beginning
past : (path : List ℕ) (n : ℕ) (k : List ℕ) → drop (length path + n) (path ++ k) ≡ drop n k
past [] n k = ap (λ m. drop m k) (let same : 0 + n ≡ n = omega arith in same)
past (b ∷ path) n k = ap (λ m. drop m (b ∷ path ++ k)) (let same : suc (length path) + n ≡ suc (length path + n) = omega arith in same) ∙ past path n k

at_end : (path k : List ℕ) → drop (length path) (path ++ k) ≡ k
at_end [] k = refl
at_end (b ∷ path) k = at_end path k

raised_path : {X : Type 0} (path : List ℕ) (t : Tree X) (k : List ℕ) → length (path_of (raised path t) (path ++ k)) ≡ length (path_of t k)
unfolding raised
raised_path path (leaf x) k = refl
raised_path path (inner prefix children) k = ap (λ r. suc (length (path_in children r))) (ap (λ n. drop n (path ++ k)) (length-append path prefix) ∙ past path (length prefix) k)

module _ {X : Type 0} (key : X → List ℕ) (front : List ℕ) where
  -- the part of a tree below the front, which stands under a path; so many nodes lead to it on each way by the front
  record IsPart (o : Option (Tree X)) (long : List ℕ → ℕ) : Type 0 where
    part : Tree X
    path : List ℕ
    left : List ℕ
    front_is : front ≡ path ++ left
    canonical : IsCanonical key path part
    is : o ≡ Some part
    above : ℕ
    paths : (z : List ℕ) → long z ≡ above + length (path_of part (left ++ z))

  -- the part among the children, by how the front passes the prefix
  abbrev chosen : List ℕ → Forest X → Passing → Option (Tree X)
  chosen prefix children w = elim w as (λ _. Option (Tree X)) [ ends ↦ Some (inner prefix children) | differs ↦ None | passes b r ↦ part_in key front children b r ]

  -- a tree is its own part
  itself : (p : List ℕ) (t : Tree X) → IsCanonical key p t → (rest : List ℕ) → front ≡ p ++ rest → (o : Option (Tree X)) → o ≡ Some t → IsPart o (λ z. length (path_of t (rest ++ z)))
  itself p t h rest e o is = record { part = t; path = p; left = rest; front_is = e; canonical = h; is = is; above = 0; paths = λ z. omega arith }

  at_prefix : (p prefix : List ℕ) (children : Forest X) → IsCanonical key p (inner prefix children) → (rest : List ℕ) → front ≡ p ++ rest → (s : Tree X)
      → part_with_front key front (inner prefix children) rest ≡ Some s
      → ((b : ℕ) (r : List ℕ) → rest ≡ prefix ++ b ∷ r → part_in key front children b r ≡ Some s → IsPart (part_in key front children b r) (λ z. length (path_in children (b ∷ r ++ z))))
      → Passed prefix rest → IsPart (part_with_front key front (inner prefix children) rest) (λ z. length (path_of (inner prefix children) (rest ++ z)))
  at_prefix p prefix children h rest e s is down (end f g i) = itself p (inner prefix children) h rest e _ (ap (chosen prefix children) f)
  at_prefix p prefix children h rest e s is down (other f z a r b u g i apart) = let none = sym (ap (chosen prefix children) f) ∙ is in absurd (cc)
  at_prefix p prefix children h rest e s is down (on b r f g) =
      let below = down b r g (sym (ap (chosen prefix children) f) ∙ is) in
      record {
        part = below.part;
        path = below.path;
        left = below.left;
        front_is = below.front_is;
        canonical = below.canonical;
        is = ap (chosen prefix children) f ∙ below.is;
        above = suc below.above;
        paths = λ z.
            let long : length (path_in children (drop (length prefix) (rest ++ z))) ≡ length (path_in children (b ∷ r ++ z)) =
            ap (λ k. length (path_in children k)) (ap (λ k. drop (length prefix) (k ++ z)) g ∙ ap (drop (length prefix)) (append_assoc prefix (b ∷ r) z) ∙ at_end prefix (b ∷ r ++ z)) in
            let on = below.paths z in
            omega (arith, long, on);
      }

  mutual
    part_at : (p : List ℕ) (t : Tree X) → IsCanonical key p t → (rest : List ℕ) → front ≡ p ++ rest → (s : Tree X) → part_with_front key front t rest ≡ Some s
        → IsPart (part_with_front key front t rest) (λ z. length (path_of t (rest ++ z)))
    part_at p (leaf x) h rest e s is = elim (cases_Bool (begins_with front (key x))) [
      | inl t ↦ itself p (leaf x) h rest e _ (cond-true (begins_with front (key x)) (Some (leaf x)) None t)
      | inr f ↦ let none = sym (cond-false (begins_with front (key x)) (Some (leaf x)) None f) ∙ is in absurd (cc)
    ]
    part_at p (inner prefix children) h rest e s is =
        at_prefix p prefix children h rest e s is (λ b r g. part_among (p ++ prefix) children h.1 b r (e ∙ ap (λ k. p ++ k) g ∙ sym (append_assoc p prefix (b ∷ r))) s) (pass_says prefix rest)

    part_among : (q : List ℕ) (children : Forest X) → AreCanonical key q children → (b : ℕ) (r : List ℕ) → front ≡ q ++ b ∷ r → (s : Tree X) → part_in key front children b r ≡ Some s
        → IsPart (part_in key front children b r) (λ z. length (path_in children (b ∷ r ++ z)))
    part_among q no_child h b r e s is = absurd (cc)
    part_among q (child c t others) h b r e s is = elim (cases_eq b c) [
      | inl same ↦
          let first = cond-true (eqb b c) (part_with_front key front t r) (part_in key front others b r) (eq-eqb b c same) in
          let own = part_at (q ++ c ∷ []) t h.0 r (e ∙ ap (λ d. q ++ d ∷ r) same ∙ sym (append_assoc q (c ∷ []) r)) s (sym first ∙ is) in
          record {
            part = own.part;
            path = own.path;
            left = own.left;
            front_is = own.front_is;
            canonical = own.canonical;
            is = first ∙ own.is;
            above = own.above;
            paths = λ z. ap length (cond-true (eqb b c) (path_of t (r ++ z)) (path_in others (b ∷ r ++ z)) (eq-eqb b c same)) ∙ own.paths z;
          }
      | inr apart ↦
          let later = cond-false (eqb b c) (part_with_front key front t r) (part_in key front others b r) (ne_eqb b c apart) in
          let own = part_among q others h.2 b r e s (sym later ∙ is) in
          record {
            part = own.part;
            path = own.path;
            left = own.left;
            front_is = own.front_is;
            canonical = own.canonical;
            is = later ∙ own.is;
            above = own.above;
            paths = λ z. ap length (cond-false (eqb b c) (path_of t (r ++ z)) (path_in others (b ∷ r ++ z)) (ne_eqb b c apart)) ∙ own.paths z;
          }
    ]

  -- The path of a key that begins with the front is longer in the tree of all keys, by the number of crossings.
  pub front_path : (t u : Tree X) → IsCanonical key [] t → IsCanonical key [] u → items u ≡ with_front key front (items t) → (x : X) → IsIn x (items u) → (z : List ℕ)
      → length (path_of t (front ++ z)) ≡ length (path_of u (front ++ z)) + crossings key front (items t)
  front_path t u h j e x i z = go (part_with_front key front t front) refl
    where
      own : with_front key front (items t) ≡ items_of (part_with_front key front t front)
      own = part_is_own key front t h

      go : (o : Option (Tree X)) → part_with_front key front t front ≡ o → length (path_of t (front ++ z)) ≡ length (path_of u (front ++ z)) + crossings key front (items t)
      go None is = absurd (let none = e ∙ own ∙ ap items_of is in subst (IsIn x) none i)
      go (Some s) is =
          let part = part_at [] t h front refl s is in
          let up : Tree X = raised part.path part.part in
          let same_items : items u ≡ items up = e ∙ own ∙ ap items_of part.is ∙ sym (raised_items key part.path part.part) in
          let same : Some u ≡ Some up = sym (tree_of_items key u j) ∙ ap (tree_of key) same_items ∙ tree_of_items key up (raised_stands key part.path part.part part.canonical) in
          let tree : u ≡ up = cc in
          let in_own = λ (k : List ℕ). ap (λ v. length (path_of v (front ++ k))) tree ∙ ap (λ f. length (path_of up (f ++ k))) part.front_is ∙ ap (λ f. length (path_of up f)) (append_assoc part.path part.left k)
          ∙ raised_path part.path part.part (part.left ++ k) in
          let mine = own_in key front x (items t) (subst (IsIn x) e i) in
          let at = begins_true front (key x) mine.1 in
          let split = tenant_path key front t u h j e x i in
          let whole = ap (λ k. length (path_of t k)) at.1 in let its = ap (λ k. length (path_of u k)) at.1 in
          let a = part.paths z in let b = in_own z in let c = part.paths at.0 in let d = in_own at.0 in
          omega (arith, split, whole, its, a, b, c, d)
