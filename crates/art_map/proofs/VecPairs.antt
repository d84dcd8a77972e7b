-- Maps that are made of the pairs of a vector.
use Rattle.std.proofs.Common.{◌≡◌, ℕ, List, [], ◌∷◌, ◌++◌, map, IfErr, IfOk, MatchResult, Some, Ok, Err, Result, sym, ap, subst, ◌∙◌, map-id}
use Rattle.std.specs.Iterator.{Drains, Yields, YieldsThen}
use Rattle.std.specs.Result.{IsErrAnd}
use Rattle.std.specs.Vec.Iter.{into_iter_items, into_iter_steps}
use Rattle.std.specs.declared.vec.IntoIter.{IntoIter}
use Rattle.std.proofs.IntoIterSteps.{All-taken}
use Rattle.art_arena.proofs.Common.{AscendsByKey, key_of}
use Rattle.art_operations.proofs.Common.{HasKey, with_key}
use Rattle.art_operations.specs.declared.insert.result.InsertRefused.{InsertRefused}
use Rattle.art_map.proofs.Terms.{with_pairs_put, IsFirstOfList, Contents}
use Rattle.art_map.proofs.PairChanges.{all-put}
use Rattle.art_map.proofs.SortedItems.{same-first, same-made}
use Rattle.art_map.proofs.StoredKeys.{puts-have}

-- what the iterator of a vector has given is a front of its items
pub taken-front : {X Z : Type 0} (s : IntoIter X Z) (xs : List X) (t : IntoIter X Z) → Yields into_iter_steps s xs t → into_iter_items s ≡ xs ++ into_iter_items t
taken-front s [] t y = ap into_iter_items y
taken-front s (x ∷ xs) t y = y.1.0 ∙ ap (λ ys. x ∷ ys) (taken-front y.0 xs t y.2)

module _ {K V Z : Type 0} (bytes : K → List ℕ) (it : IntoIter (K × V) Z) (given items : List (K × V)) (has : into_iter_items it ≡ items) where
  -- what comes of a map that is made of the vector's pairs
  abbrev IsMade : Result (Contents K V) (InsertRefused K V) → Type 0
  IsMade r =
      MatchResult r (λ made. Drains into_iter_steps it given × (made.pairs ≡ with_pairs_put bytes (map (λ p. p) given) []))
      (λ e. ((item : K × V) × (rest : IntoIter (K × V) Z) × YieldsThen into_iter_steps it given (Some item) rest × (item ≡ (e.key, e.value)))
      × (HasKey (key_of bytes) (bytes e.key) (with_pairs_put bytes (map (λ p. p) given) []) → ⊥))

  pub vec-made : (r : Result (Contents K V) (InsertRefused K V)) → IsMade r → IfOk r (λ made. made.pairs ≡ with_pairs_put bytes items [])
  vec-made (Ok made) (drains, put) = put ∙ ap (λ ps. with_pairs_put bytes ps []) (map-id given ∙ (All-taken it given drains ∙ has))
  vec-made (Err e) is = tt

  pub vec-refused : (r : Result (Contents K V) (InsertRefused K V)) → IsMade r → IfErr r (IsFirstOfList bytes items)
  vec-refused (Ok made) is = tt
  vec-refused (Err e) ((item, rest, yielded, told), new) = (
    given,
    into_iter_items rest,
    sym has ∙ taken-front it given yielded.0 yielded.1 ∙ ap (λ ps. given ++ ps) (yielded.2.0 ∙ ap (λ p. p ∷ into_iter_items rest) told),
    λ stored. new (puts-have bytes (bytes e.key) (map (λ p. p) given) [] (subst (HasKey (key_of bytes) (bytes e.key)) (sym (map-id given)) stored)),
  )

-- the same where the pairs were sorted before, and those with the same key have kept their order
module _ {K V : Type 0} (bytes : K → List ℕ) (old new : List (K × V)) (kept : (p : K × V) → with_key (key_of bytes) (bytes p.0) new ≡ with_key (key_of bytes) (bytes p.0) old) where
  pub made-sorted : (made : List (K × V)) → made ≡ with_pairs_put bytes new [] → AscendsByKey (key_of bytes) made → made ≡ with_pairs_put bytes old []
  made-sorted made put up =
      let is = put ∙ all-put bytes new [] in
      is ∙ same-made (key_of bytes) old new kept (subst (AscendsByKey (key_of bytes)) is up) ∙ sym (all-put bytes old [])

  pub refused-sorted : (e : InsertRefused K V) → IsFirstOfList bytes new e → IsFirstOfList bytes old e
  refused-sorted e (front, back, is, none) = same-first (key_of bytes) old new kept (e.key, e.value) front back is none

-- what holds of an error holds of a result that hands it on
pub handed-on : {A E : Type 0} (P : E → Type 0) (r : Result A E) (e : E) → P e → IsErrAnd r (λ x. x ≡ e) → IfErr r P
handed-on P (Ok a) e h same = absurd same
handed-on P (Err x) e h same = subst P (sym same) h
