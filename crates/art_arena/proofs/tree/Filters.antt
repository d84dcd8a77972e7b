-- What a filter keeps, by recursion on the list.
use Rattle.std.proofs.Common.{◌≡◌, List, [], ◌∷◌, map, filter, refl, sym, ap, ap₂, ◌∙◌, subst, inl, inr, Bool, true, false, cond}
use Rattle.std.specs.List.{AllByRecursion}
use Rattle.std.proofs.lemmas.Bool.{cond-true, cond-false, cond_both}
use Rattle.art_arena.proofs.Terms.{IsIn}

module _ {X : Type 0} (p : X → Bool) where
  pub filter_all : (xs : List X) → AllByRecursion (λ x. p x ≡ true) xs → filter p xs ≡ xs
  filter_all [] h = refl
  filter_all (x ∷ xs) h = cond-true _ _ _ h.0 ∙ ap (λ l. x ∷ l) (filter_all xs h.1)

  pub filter_none : (xs : List X) → AllByRecursion (λ x. p x ≡ false) xs → filter p xs ≡ []
  filter_none [] h = refl
  filter_none (x ∷ xs) h = cond-false _ _ _ h.0 ∙ filter_none xs h.1

  -- what is kept passes
  pub all_pass : (xs : List X) → AllByRecursion (λ x. p x ≡ true) (filter p xs)
  all_pass [] = tt
  all_pass (x ∷ xs) =
      let rest = all_pass xs in
      cond_both (p x) (x ∷ filter p xs) (filter p xs) (AllByRecursion (λ y. p y ≡ true)) (λ t. (t, rest)) (λ f. rest)

  -- what holds of all holds of what is kept
  pub all_kept : (P : X → Type 0) (xs : List X) → AllByRecursion P xs → AllByRecursion P (filter p xs)
  all_kept P [] h = tt
  all_kept P (x ∷ xs) h =
      let rest = all_kept P xs h.1 in
      cond_both (p x) (x ∷ filter p xs) (filter p xs) (AllByRecursion P) (λ t. (h.0, rest)) (λ f. rest)

  pub in_kept : (x : X) (xs : List X) → IsIn x xs → p x ≡ true → IsIn x (filter p xs)
  in_kept x [] i h = i
  in_kept x (y ∷ ys) (inl e) h = subst (IsIn x) (sym (cond-true _ (y ∷ filter p ys) (filter p ys) (ap p e ∙ h))) (inl e)
  in_kept x (y ∷ ys) (inr i) h =
      let rest = in_kept x ys i h in
      cond_both (p y) (y ∷ filter p ys) (filter p ys) (IsIn x) (λ t. inr rest) (λ f. rest)

  pub from_kept : (x : X) (xs : List X) → IsIn x (filter p xs) → IsIn x xs × (p x ≡ true)
  from_kept x [] i = absurd i
  from_kept x (y ∷ ys) i =
      let rest = from_kept x ys in
      let other : IsIn x (filter p ys) → IsIn x (y ∷ ys) × (p x ≡ true) = λ j. let r = rest j in (inr r.0, r.1) in
      cond_both (p y) (y ∷ filter p ys) (filter p ys) (λ l. IsIn x l → IsIn x (y ∷ ys) × (p x ≡ true))
      (λ t j. elim j [ inl e ↦ (inl e, ap p (sym e) ∙ t) | inr k ↦ other k ]) (λ f. other) i

pub map_same : {X Y : Type 0} (f g : X → Y) (xs : List X) → AllByRecursion (λ x. f x ≡ g x) xs → map f xs ≡ map g xs
map_same f g [] h = refl
map_same f g (x ∷ xs) h = ap₂ (λ y ys. y ∷ ys) h.0 (map_same f g xs h.1)

pub filter-map : {X Y : Type 0} (p : Y → Bool) (f : X → Y) (xs : List X) → filter p (map f xs) ≡ map f (filter (λ x. p (f x)) xs)
filter-map p f [] = refl
filter-map p f (x ∷ xs) =
    let rest = filter-map p f xs in
    elim (p (f x)) as (λ b. cond b (f x ∷ filter p (map f xs)) (filter p (map f xs)) ≡ map f (cond b (x ∷ filter (λ y. p (f y)) xs) (filter (λ y. p (f y)) xs))) [
      | true ↦ ap (λ ys. f x ∷ ys) rest
      | false ↦ rest
    ]
