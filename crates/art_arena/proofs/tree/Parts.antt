-- The part of a tree below a front holds the items that begin with it.
use Rattle.std.proofs.Common.{◌≡◌, ◌≢◌, ℕ, List, [], ◌∷◌, ◌++◌, refl, sym, ap, ◌∙◌, subst, inl, inr, append_assoc, append-nil, true, false, eqb, eqb-true, Some, None, Option}
use Rattle.std.specs.List.{AllByRecursion}
use Rattle.std.proofs.lemmas.Bool.{cond-true, cond-false, cond_both, cases_Bool, eqb-false, false_from_ne_true, true_from_ne_false}
use Rattle.std.proofs.lemmas.List.Elements.{filter-append}
use Rattle.art_bytes.proofs.Common.{BeginsWith, begins_from_step}
use Rattle.art_arena.proofs.Terms.{Tree, Forest, leaf, inner, no_child, child, items, items_in, IsCanonical, AreCanonical, ends, differs, passes, begins_with, with_front}
use Rattle.art_arena.specs.tree.Parts.{part_with_front, part_in, items_of}
use Rattle.art_arena.proofs.tree.Order.{all_weaker}
use Rattle.art_arena.proofs.tree.Canonical.{begin, begin_in}
use Rattle.art_arena.proofs.tree.Filters.{filter_all, filter_none}
use Rattle.art_arena.proofs.tree.Fronts.{one_byte, not_among_others, begins_trans}
use Rattle.art_arena.proofs.tree.Tenants.{begins_true, begins_false}
use Rattle.art_arena.proofs.tree.Landing.{Passed, end, other, on, pass_says}

pub begins_same : (front k : List ℕ) → BeginsWith front k → begins_with front k ≡ true
begins_same front k h = true_from_ne_false _ (λ e. begins_false front k e h)

pub begins_not : (front k : List ℕ) → (BeginsWith front k → ⊥) → begins_with front k ≡ false
begins_not front k h = false_from_ne_true _ (λ e. h (begins_true front k e))

module _ {X : Type 0} (key : X → List ℕ) (front : List ℕ) where
  pub own_all : (xs : List X) → AllByRecursion (λ x. BeginsWith front (key x)) xs → with_front key front xs ≡ xs
  own_all xs h = filter_all (λ x. begins_with front (key x)) xs (all_weaker _ _ (λ x b. begins_same front (key x) b) xs h)

  pub own_none : (xs : List X) → AllByRecursion (λ x. BeginsWith front (key x) → ⊥) xs → with_front key front xs ≡ []
  own_none xs h = filter_none (λ x. begins_with front (key x)) xs (all_weaker _ _ (λ x n. begins_not front (key x) n) xs h)

  pub own_append : (xs ys : List X) → with_front key front (xs ++ ys) ≡ with_front key front xs ++ with_front key front ys
  own_append xs ys = filter-append (λ x. begins_with front (key x)) xs ys

  -- keys that go on by another byte than the front
  pub elsewhere : (q : List ℕ) (b : ℕ) (r : List ℕ) → front ≡ q ++ b ∷ r → (c : ℕ) → b ≢ c → (k : List ℕ) → BeginsWith (q ++ c ∷ []) k → BeginsWith front k → ⊥
  elsewhere q b r e c n k h j = n (one_byte q b c k (begins_trans (q ++ b ∷ []) front k (begins_from_step q b r front e) j) h)

  at_prefix : (p prefix : List ℕ) (cs : Forest X) → IsCanonical key p (inner prefix cs) → (rest : List ℕ) → front ≡ p ++ rest
      → ((b : ℕ) (r : List ℕ) → rest ≡ prefix ++ b ∷ r → with_front key front (items_in cs) ≡ items_of (part_in key front cs b r)) → Passed prefix rest
      → with_front key front (items_in cs) ≡ items_of (part_with_front key front (inner prefix cs) rest)
  at_prefix p prefix cs h rest e down (end f s g) =
      subst (λ w. with_front key front (items_in cs) ≡ items_of (elim w as (λ _. Option (Tree X)) [ ends ↦ Some (inner prefix cs) | differs ↦ None | passes b r ↦ part_in key front cs b r ])) (sym f)
      (own_all (items_in cs) (all_weaker _ _ (λ x j. begins_trans front (p ++ prefix) (key x) (s, ap (λ m. p ++ m) g ∙ sym (append_assoc p rest s) ∙ ap (λ m. m ++ s) (sym e)) j) _ (begin_in key (p ++ prefix) cs h.1)))
  at_prefix p prefix cs h rest e down (other f z a r b s g j apart) =
      subst (λ w. with_front key front (items_in cs) ≡ items_of (elim w as (λ _. Option (Tree X)) [ ends ↦ Some (inner prefix cs) | differs ↦ None | passes b r ↦ part_in key front cs b r ])) (sym f)
      (own_none (items_in cs) (all_weaker _ _ (λ x i. elsewhere (p ++ z) a r (e ∙ ap (λ m. p ++ m) g ∙ sym (append_assoc p z (a ∷ r))) b apart (key x)
      (begins_trans ((p ++ z) ++ b ∷ []) (p ++ prefix) (key x) (s, ap (λ m. p ++ m) j ∙ sym (append_assoc p z (b ∷ s)) ∙ sym (append_assoc (p ++ z) (b ∷ []) s)) i)) _ (begin_in key (p ++ prefix) cs h.1)))
  at_prefix p prefix cs h rest e down (on b r f g) =
      subst (λ w. with_front key front (items_in cs) ≡ items_of (elim w as (λ _. Option (Tree X)) [ ends ↦ Some (inner prefix cs) | differs ↦ None | passes b r ↦ part_in key front cs b r ])) (sym f) (down b r g)

  mutual
    part_is : (p : List ℕ) (t : Tree X) → IsCanonical key p t → (rest : List ℕ) → front ≡ p ++ rest → with_front key front (items t) ≡ items_of (part_with_front key front t rest)
    part_is p (leaf x) h rest e =
        elim (cases_Bool (begins_with front (key x))) [
          | inl t ↦ cond-true _ (x ∷ []) [] t ∙ sym (ap items_of (cond-true _ (Some (leaf x)) None t))
          | inr f ↦ cond-false _ (x ∷ []) [] f ∙ sym (ap items_of (cond-false _ (Some (leaf x)) None f))
        ]
    part_is p (inner prefix cs) h rest e =
        at_prefix p prefix cs h rest e (λ b r g. part_in_is (p ++ prefix) cs h.1 b r (e ∙ ap (λ m. p ++ m) g ∙ sym (append_assoc p prefix (b ∷ r)))) (pass_says prefix rest)

    part_in_is : (q : List ℕ) (cs : Forest X) → AreCanonical key q cs → (b : ℕ) (r : List ℕ) → front ≡ q ++ b ∷ r → with_front key front (items_in cs) ≡ items_of (part_in key front cs b r)
    part_in_is q no_child h b r e = refl
    part_in_is q (child c t cs) h b r e =
        let here = λ (f : b ≡ c). own_append (items t) (items_in cs)
        ∙ ap (λ l. with_front key front (items t) ++ l) (own_none (items_in cs) (all_weaker _ _ (λ x n j. n (begins_trans (q ++ c ∷ []) front (key x) (begins_from_step q c r front (e ∙ ap (λ a. q ++ a ∷ r) f)) j)) _ (not_among_others key q c cs h.1 h.2)))
        ∙ append-nil (with_front key front (items t))
        ∙ part_is (q ++ c ∷ []) t h.0 r (e ∙ ap (λ a. q ++ a ∷ r) f ∙ sym (append_assoc q (c ∷ []) r)) in
        let there = λ (n : b ≡ c → ⊥). own_append (items t) (items_in cs)
        ∙ ap (λ l. l ++ with_front key front (items_in cs)) (own_none (items t) (all_weaker _ _ (λ x i. elsewhere q b r e c n (key x) i) _ (begin key (q ++ c ∷ []) t h.0)))
        ∙ part_in_is q cs h.2 b r e in
        cond_both (eqb b c) (part_with_front key front t r) (part_in key front cs b r) (λ o. with_front key front (items t ++ items_in cs) ≡ items_of o)
        (λ e. here (eqb-true b c e)) (λ e. there (eqb-false b c e))

  pub part_is_own : (t : Tree X) → IsCanonical key [] t → with_front key front (items t) ≡ items_of (part_with_front key front t front)
  part_is_own t h = part_is [] t h front refl
