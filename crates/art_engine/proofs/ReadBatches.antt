-- What was read ahead, each pair if there is one: what one more adds.
use Rattle.std.proofs.Common.{◌≡◌, ◌+◌, ◌++◌, List, [], ◌∷◌, length, Option, Some, None, refl, ap, sym, ◌∙◌, arith}
use Rattle.std.specs.Prelude.{option_map}
use Rattle.art_engine.proofs.Terms.{pending, pending_all, IsClosed}

module _ {R X : Type 0} (read : R → X) where
  -- one more stands before the rest
  pub pending_more : (os : List (Option R)) (o : Option R) (rest : List X) → pending_all read (os ++ o ∷ []) rest ≡ pending_all read os (pending (option_map read o) rest)
  pending_more [] o rest = refl
  pending_more (x ∷ os) o rest = ap (pending (option_map read x)) (pending_more os o rest)

  -- and where it is none, none is after it
  pub closed_more : (os : List (Option R)) (o : Option R) (old new : List X) → old ≡ pending (option_map read o) new → (o ≡ None → new ≡ [])
      → IsClosed read os old → IsClosed read (os ++ o ∷ []) new
  closed_more [] None old new is ended closed = ended refl
  closed_more [] (Some r) old new is ended closed = tt
  closed_more (None ∷ os) o old new is ended closed = pending_more os o new ∙ ap (pending_all read os) (sym is) ∙ closed
  closed_more (Some r ∷ os) o old new is ended closed = closed_more os o old new is ended closed

  -- how many there are
  pub length_all : (os : List (Option R)) (rest : List X) → length (pending_all read os rest) ≡ length (pending_all read os []) + length rest
  length_all [] rest = omega arith
  length_all (None ∷ os) rest = length_all os rest
  length_all (Some r ∷ os) rest = let more = length_all os rest in omega arith

  pub length_more : (os : List (Option R)) (o : Option R) → length (pending_all read (os ++ o ∷ []) []) ≡ length (pending_all read os []) + length (pending (option_map read o) [])
  length_more os o = ap length (pending_more os o []) ∙ length_all os (pending (option_map read o) [])
