-- A walk over three linked leaves, at each of its steps.
use Rattle.std.proofs.Common.{◌≡◌, ℕ, [], ◌∷◌, Option, Some, None, refl, sym, ap₂, ◌∙◌, subst}
use Rattle.art_arena.proofs.Common.{LeafAt, Links, IsList}
use Rattle.art_walks.proofs.Common.{Ends, IsWalk}

-- the walk over a list of three
pub whole : {K V : Type 0} (links : ℕ → Option Links) (ends : Ends) (a c : ℕ) (x y z : LeafAt K V) → IsList links (x ∷ y ∷ z ∷ []) → x.slot ≡ a → z.slot ≡ c → ends ≡ Some (a, c)
    → IsWalk links ends (x ∷ y ∷ z ∷ [])
whole links ends a c x y z list first last is =
    let ends_are : ends ≡ Some (x.slot, z.slot) = is ∙ ap₂ (λ (m n : ℕ). Some (m, n)) (sym first) (sym last) in
    subst (λ e. IsWalk links e (x ∷ y ∷ z ∷ [])) (sym ends_are) (record { xs = []; zs = []; list = list; ends_are = (refl, refl) })

-- a walk over no leaf has no ends
pub no_ends : {K V : Type 0} (links : ℕ → Option Links) (ends : Ends) → IsWalk {K = K} {V = V} links ends [] → ends ≡ None
no_ends links None walk = refl
no_ends links (Some ends) walk = let e = walk.ends_are.0 in absurd (cc)

-- and stays so
pub still : {K V : Type 0} (links : ℕ → Option Links) (old new : Ends) → IsWalk {K = K} {V = V} links old [] → new ≡ None → IsWalk {K = K} {V = V} links new []
still {K} {V} links old new walk none = subst (λ e. IsWalk {K = K} {V = V} links e []) (no_ends links old walk ∙ sym none) walk
