-- What a cut leaves, told by the pairs.
use Rattle.std.proofs.Common.{◌≡◌, ℕ, List, [], ◌∷◌, length, map, refl, sym, ap, ◌∙◌, inl, inr}
use Rattle.std.proofs.lemmas.Bool.{cases_Bool}
use Rattle.std.proofs.lemmas.List.{length-map}
use Rattle.art_nodes.proofs.Common.{Name}
use Rattle.art_arena.proofs.Common.{Arena, Cell, Shape, leaves, pairs_of, key_of, begins_with, with_front, without_front}
use Rattle.art_operations.proofs.Terms.{nodes_counted, HasCut, leaves_with, leaves_without, IsCutBeside, SubtreeDeleteResult}
use Rattle.art_operations.proofs.HeldPairs.{leaves-pairs}
use Rattle.art_operations.proofs.LeafPairs.{leaf_pair}

module _ {X Y : Type 0} (f : X → Y) (key : Y → List ℕ) (front : List ℕ) where
  pub with-map : (xs : List X) → with_front key front (map f xs) ≡ map f (with_front (λ x. key (f x)) front xs)
  with-map [] = refl
  with-map (x ∷ xs) =
      let h = with-map xs in
      elim (cases_Bool (begins_with front (key (f x)))) [ inl t ↦ rw t (ap (λ ys. f x ∷ ys) h) | inr n ↦ rw n h ]

  pub without-map : (xs : List X) → without_front key front (map f xs) ≡ map f (without_front (λ x. key (f x)) front xs)
  without-map [] = refl
  without-map (x ∷ xs) =
      let h = without-map xs in
      elim (cases_Bool (begins_with front (key (f x)))) [ inl t ↦ rw t h | inr n ↦ rw n (ap (λ ys. f x ∷ ys) h) ]

module _ {K V : Type 0} (bytes : K → List ℕ) (P : ℕ) where
  -- the pairs whose keys don't begin with the prefix are left
  pub cut-pairs : (new : Arena K V) (rest : List (Name × Cell K V)) (s : Shape K V) (pairs : List (K × V)) → pairs_of (leaves s) ≡ pairs → (front : List ℕ) (result : SubtreeDeleteResult)
      → IsCutBeside bytes front P new rest s result → HasCut bytes P new front result pairs rest
  cut-pairs new rest s pairs are front result cut =
      let gone : pairs_of (leaves_with bytes front (leaves s)) ≡ with_front (key_of bytes) front pairs = sym (with-map leaf_pair (key_of bytes) front (leaves s)) ∙ ap (with_front (key_of bytes) front) are in
      record {
        removed = cut.removed ∙ sym (length-map (leaves_with bytes front (leaves s)) leaf_pair) ∙ ap length gone;
        freed = cut.freed ∙ ap (nodes_counted (key_of bytes)) gone;
        left = leaves-pairs bytes P new rest result.new_root (leaves_without bytes front (leaves s)) (without_front (key_of bytes) front pairs)
            (sym (without-map leaf_pair (key_of bytes) front (leaves s)) ∙ ap (without_front (key_of bytes) front) are) cut.left;
      }
