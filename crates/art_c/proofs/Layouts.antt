-- Pairs in one buffer, and one more after them.
use Rattle.std.proofs.Common.{◌≡◌, ℕ, ◌+◌, ◌<◌, suc, List, [], ◌∷◌, ◌++◌, length, take, drop, get_or, sym, ap, ap₂, ◌∙◌, append_assoc, arith}
use Rattle.std.proofs.Math.ListN.{set}
use Rattle.std.proofs.Math.Seq.{drop-append_seam, drop-cons, set-append_seam, take-append_seam}
use Rattle.std.proofs.lemmas.List.{append-nil, drop-drop, length-append, map-append}
use Rattle.art_c.specs.Handles.{Pairs}
use Rattle.art_c.specs.Copies.{written}
use Rattle.art_c.specs.Layouts.{end_to_end, items_of_pairs}

-- a room whose start is written, and then more
module _ {X : Type 0} where
  pub then-written : (a b r : List X) → a ++ written b (drop (length a) r) ≡ written (a ++ b) r
  then-written a b r =
      ap (λ z. a ++ (b ++ z)) (drop-drop (length b) (length a) r)
      ∙ sym (append_assoc a b (drop (length a + length b) r))
      ∙ ap (λ n. (a ++ b) ++ drop n r) (sym (length-append a b))

  pub written-more : (a b r : List X) → take (length a) (written a r) ++ written b (drop (length a) (written a r)) ≡ written (a ++ b) r
  written-more a b r =
      ap₂ (λ f g. f ++ written b g) (take-append_seam a (drop (length a) r)) (drop-append_seam a (drop (length a) r))
      ∙ then-written a b r

  -- one more item
  pub set-more : (a r : List X) (v : X) → length a < length r → set (written a r) (length a) v ≡ written (a ++ v ∷ []) r
  set-more a r v h =
      let one : suc (length a) ≡ length (a ++ v ∷ []) = omega (arith, length-append a (v ∷ [])) in
      ap (λ z. set (a ++ z) (length a) v) (drop-cons r (length a) v h)
      ∙ set-append_seam a (get_or r (length a) v) (drop (suc (length a)) r) v
      ∙ sym (append_assoc a (v ∷ []) (drop (suc (length a)) r))
      ∙ ap (λ n. (a ++ v ∷ []) ++ drop n r) one

module _ {V : Type 0} where
  pub bytes-more : (text : V → List ℕ) (ps : Pairs V) (p : List ℕ × V)
      → end_to_end text (ps ++ p ∷ []) ≡ end_to_end text ps ++ (p.0 ++ text p.1)
  bytes-more text [] p = ap (λ z. p.0 ++ z) (append-nil (text p.1))
  bytes-more text (q ∷ ps) p =
      ap (λ z. q.0 ++ (text q.1 ++ z)) (bytes-more text ps p)
      ∙ ap (λ z. q.0 ++ z) (sym (append_assoc (text q.1) (end_to_end text ps) (p.0 ++ text p.1)))
      ∙ sym (append_assoc q.0 (text q.1 ++ end_to_end text ps) (p.0 ++ text p.1))

  pub items-more : {I : Type 0} (item : List ℕ → V → I) (ps : Pairs V) (p : List ℕ × V)
      → items_of_pairs item (ps ++ p ∷ []) ≡ items_of_pairs item ps ++ item p.0 p.1 ∷ []
  items-more item ps p = map-append (λ q. item q.0 q.1) ps (p ∷ [])
