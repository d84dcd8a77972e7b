-- An ascending list into which an item is put, in which one is replaced, or from which one is taken, and the list without its key.
use Rattle.std.proofs.Common.{◌≡◌, ℕ, not, true, false, Bool, cond, filter, List, [], ◌∷◌, ◌++◌, bytes_eq, refl, sym, ap, ap₂, subst, ◌∙◌, inl, inr}
use Rattle.std.specs.List.{AllByRecursion}
use Rattle.std.proofs.lemmas.Bool.{cases_Bool}
use Rattle.std.proofs.lemmas.List.Elements.{filter-append}
use Rattle.art_bytes.proofs.Common.{Conflict, IsBefore, before_not_self, conflict_not_before, conflict_turned}
use Rattle.art_arena.proofs.Common.{AscendsByKey, IsIn, put_in_order, all_append, all_weaker, all_at, in_middle, put_is, same_key, other_key}
use Rattle.art_operations.proofs.Terms.{HasKey, with_key, without_key, IsBlocked}

-- where all items pass a test a filter keeps them, and where none does it keeps none
pub all-pass : {X : Type 0} (test : X → Bool) (xs : List X) → AllByRecursion (λ x. test x ≡ true) xs → filter test xs ≡ xs
all-pass test [] h = refl
all-pass test (x ∷ xs) h = rw h.0 (ap (λ ys. x ∷ ys) (all-pass test xs h.1))

pub none-pass : {X : Type 0} (test : X → Bool) (xs : List X) → AllByRecursion (λ x. test x ≡ false) xs → filter test xs ≡ []
none-pass test [] h = refl
none-pass test (x ∷ xs) h = rw h.0 (none-pass test xs h.1)

-- what a filter keeps passes
pub passes : {X : Type 0} (test : X → Bool) (xs : List X) → AllByRecursion (λ x. test x ≡ true) (filter test xs)
passes test [] = tt
passes test (x ∷ xs) = let h = passes test xs in elim (cases_Bool (test x)) [ inl t ↦ rw t (t, h) | inr f ↦ rw f h ]

-- where no item passes a test, those that don't are all
pub all-but-none : {X : Type 0} (test : X → Bool) (xs : List X) → filter test xs ≡ [] → filter (λ x. not (test x)) xs ≡ xs
all-but-none test [] none = refl
all-but-none test (x ∷ xs) none = step (test x) (all-but-none test xs) none
  where
    step : (b : Bool) → (filter test xs ≡ [] → filter (λ y. not (test y)) xs ≡ xs) → cond b (x ∷ filter test xs) (filter test xs) ≡ [] → cond (not b) (x ∷ filter (λ y. not (test y)) xs) (filter (λ y. not (test y)) xs) ≡ x ∷ xs
    step true later none = absurd (cc)
    step false later none = ap (λ ys. x ∷ ys) (later none)

module _ {X : Type 0} (key : X → List ℕ) where
  -- new is old with x in the place of those that had its key, which were these; none is in conflict with it
  pub record IsPut (x : X) (old new was : List X) : Type 0 where
    pub new_is : new ≡ put_in_order key x (without_key key (key x) old)
    pub were : was ≡ with_key key (key x) old
    pub free : IsBlocked key (key x) old → ⊥

  -- new is old without x, which alone had its key
  pub record IsTaken (k : List ℕ) (x : X) (old new : List X) : Type 0 where
    pub new_is : new ≡ without_key key k old
    pub had : with_key key k old ≡ x ∷ []

  -- where none has the key, nothing is taken out
  pub nothing_taken : (k : List ℕ) (xs : List X) → with_key key k xs ≡ [] → without_key key k xs ≡ xs
  nothing_taken k xs h = all-but-none (λ x. bytes_eq (key x) k) xs h

  -- of two items in ascending order none is in conflict with the other
  apart : (xs : List X) → AscendsByKey key xs → (x y : X) → IsIn x xs → IsIn y xs → Conflict (key x) (key y) → ⊥
  apart [] up x y i j c = i
  apart (r ∷ rs) up x y (inl e) (inl f) c = c.0 (ap key (sym e ∙ f))
  apart (r ∷ rs) up x y (inl e) (inr j) c =
      conflict_not_before (key x) (key y) c (subst (λ z. IsBefore (key z) (key y)) e (all_at (λ z. IsBefore (key r) (key z)) y rs up.0 j))
  apart (r ∷ rs) up x y (inr i) (inl f) c =
      conflict_not_before (key y) (key x) (conflict_turned (key x) (key y) c) (subst (λ z. IsBefore (key z) (key x)) f (all_at (λ z. IsBefore (key r) (key z)) x rs up.0 i))
  apart (r ∷ rs) up x y (inr i) (inr j) c = apart rs up.1 x y i j c

  -- so none blocks a key that another has
  pub stored-free : (xs : List X) → AscendsByKey key xs → (k : List ℕ) → HasKey key k xs → IsBlocked key k xs → ⊥
  stored-free xs up k (x, i, same) (y, j, c) = apart xs up x y i j (subst (λ l. Conflict l (key y)) (sym same) c)

  module _ (k : List ℕ) where
    -- all have other keys
    abbrev AreOthers : List X → Type 0
    AreOthers xs = AllByRecursion (λ x. bytes_eq (key x) k ≡ false) xs

    -- none is in conflict with the key
    abbrev AreFree : List X → Type 0
    AreFree xs = AllByRecursion (λ x. Conflict k (key x) → ⊥) xs

    with_none : (xs : List X) → AreOthers xs → with_key key k xs ≡ []
    with_none = none-pass (λ x. bytes_eq (key x) k)

    without_none : (xs : List X) → AreOthers xs → without_key key k xs ≡ xs
    without_none xs h = all-pass (λ x. not (bytes_eq (key x) k)) xs (all_weaker _ _ (λ x e. ap not e) xs h)

    with_one : (front : List X) (x : X) (back : List X) → key x ≡ k → AreOthers front → AreOthers back → with_key key k (front ++ x ∷ back) ≡ x ∷ []
    with_one front x back same before following =
        filter-append (λ y. bytes_eq (key y) k) front (x ∷ back)
        ∙ ap₂ (λ xs ys. xs ++ ys) (with_none front before) (rw (same_key (key x) k same) (ap (λ ys. x ∷ ys) (with_none back following)))

    without_one : (front : List X) (x : X) (back : List X) → key x ≡ k → AreOthers front → AreOthers back → without_key key k (front ++ x ∷ back) ≡ front ++ back
    without_one front x back same before following =
        filter-append (λ y. not (bytes_eq (key y) k)) front (x ∷ back)
        ∙ ap₂ (λ xs ys. xs ++ ys) (without_none front before) (rw (same_key (key x) k same) (without_none back following))

    not_blocked : (xs : List X) → AreFree xs → IsBlocked key k xs → ⊥
    not_blocked xs free (x, i, c) = all_at (λ y. Conflict k (key y) → ⊥) x xs free i c

  module _ (x : X) where
    pub before : (front back : List X) → AscendsByKey key (front ++ x ∷ back) → AllByRecursion (λ y. IsBefore (key y) (key x)) front
    before [] back h = tt
    before (z ∷ front) back h = (all_at (λ y. IsBefore (key z) (key y)) x (front ++ x ∷ back) h.0 (in_middle key front x back), before front back h.1)

    pub following : (front back : List X) → AscendsByKey key (front ++ x ∷ back) → AllByRecursion (λ y. IsBefore (key x) (key y)) back
    following [] back h = h.0
    following (z ∷ front) back h = following front back h.1

    others_before : (front back : List X) → AscendsByKey key (front ++ x ∷ back) → AreOthers (key x) front
    others_before front back h = all_weaker _ _ (λ y b. other_key (key y) (key x) (λ e. before_not_self (key x) (subst (λ k. IsBefore k (key x)) e b))) front (before front back h)

    others_after : (front back : List X) → AscendsByKey key (front ++ x ∷ back) → AreOthers (key x) back
    others_after front back h = all_weaker _ _ (λ y b. other_key (key y) (key x) (λ e. before_not_self (key x) (subst (λ k. IsBefore (key x) k) e b))) back (following front back h)

    free_before : (front back : List X) → AscendsByKey key (front ++ x ∷ back) → AreFree (key x) front
    free_before front back h = all_weaker _ _ (λ y b c. conflict_not_before (key y) (key x) (conflict_turned (key x) (key y) c) b) front (before front back h)

    free_after : (front back : List X) → AscendsByKey key (front ++ x ∷ back) → AreFree (key x) back
    free_after front back h = all_weaker _ _ (λ y b c. conflict_not_before (key x) (key y) c b) back (following front back h)

    -- an item that was put in is put at the place of its key
    pub put_new : (front back : List X) → AscendsByKey key (front ++ x ∷ back) → IsPut x (front ++ back) (front ++ x ∷ back) []
    put_new front back h =
        let others = all_append _ front back (others_before front back h) (others_after front back h) in
        record {
          new_is = sym (put_is key x front back h) ∙ ap (put_in_order key x) (sym (without_none (key x) (front ++ back) others));
          were = sym (with_none (key x) (front ++ back) others);
          free = not_blocked (key x) (front ++ back) (all_append _ front back (free_before front back h) (free_after front back h));
        }

    -- and so is one that took the place of an item with its key
    pub put_replaced : (front : List X) (was : X) (back : List X) → key was ≡ key x → AscendsByKey key (front ++ x ∷ back) → IsPut x (front ++ was ∷ back) (front ++ x ∷ back) (was ∷ [])
    put_replaced front was back same h = record {
      new_is = sym (put_is key x front back h) ∙ ap (put_in_order key x) (sym (without_one (key x) front was back same (others_before front back h) (others_after front back h)));
      were = sym (with_one (key x) front was back same (others_before front back h) (others_after front back h));
      free = not_blocked (key x) (front ++ was ∷ back) (all_append _ front (was ∷ back) (free_before front back h) ((λ c. c.0 (sym same)), free_after front back h));
    }

    -- an item that was taken out had its key alone
    pub taken : (front back : List X) → AscendsByKey key (front ++ x ∷ back) → IsTaken (key x) x (front ++ x ∷ back) (front ++ back)
    taken front back h = record {
      new_is = sym (without_one (key x) front x back refl (others_before front back h) (others_after front back h));
      had = with_one (key x) front x back refl (others_before front back h) (others_after front back h);
    }
