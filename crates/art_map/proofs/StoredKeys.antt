-- A key that is stored, once pairs were put in.
use Rattle.std.proofs.Common.{◌≡◌, ℕ, Bool, true, false, cond, not, List, [], ◌∷◌, ◌++◌, bytes_eq, refl, sym, ap, subst, ◌∙◌, inl, inr}
use Rattle.art_bytes.proofs.Common.{IsBefore, before_not_self}
use Rattle.art_arena.proofs.Common.{AscendsByKey, all_at, key_of, is_before, put_in_order, same_key, bytes_from_same}
use Rattle.art_operations.proofs.Common.{HasKey, before, with_pair_put, without_key}
use Rattle.art_map.proofs.Terms.{with_pairs_put}

module _ {K V : Type 0} (bytes : K → List ℕ) (key : List ℕ) where
  abbrev Has : List (K × V) → Type 0
  Has = HasKey (key_of bytes) key

  later-has : (y : K × V) (ys : List (K × V)) → Has ys → Has (y ∷ ys)
  later-has y ys (x, i, e) = (x, inr i, e)

  -- a pair that is put in has its key, and others stay
  put-in-has : (p : K × V) (xs : List (K × V)) → bytes p.0 ≡ key → Has (put_in_order (key_of bytes) p xs)
  put-in-has p [] e = (p, inl refl, e)
  put-in-has p (y ∷ ys) e = go (is_before (bytes p.0) (key_of bytes y)) (put-in-has p ys e)
    where
      go : (b : Bool) → Has (put_in_order (key_of bytes) p ys) → Has (cond b (p ∷ y ∷ ys) (y ∷ put_in_order (key_of bytes) p ys))
      go true later = (p, inl refl, e)
      go false later = later-has y (put_in_order (key_of bytes) p ys) later

  put-in-stays : (p : K × V) (xs : List (K × V)) → Has xs → Has (put_in_order (key_of bytes) p xs)
  put-in-stays p [] (x, i, e) = absurd i
  put-in-stays p (y ∷ ys) has = go (is_before (bytes p.0) (key_of bytes y)) has (put-in-stays p ys)
    where
      go : (b : Bool) → Has (y ∷ ys) → (Has ys → Has (put_in_order (key_of bytes) p ys)) → Has (cond b (p ∷ y ∷ ys) (y ∷ put_in_order (key_of bytes) p ys))
      go true has later = later-has p (y ∷ ys) has
      go false (x, inl f, e) later = (x, inl f, e)
      go false (x, inr i, e) later = later-has y (put_in_order (key_of bytes) p ys) (later (x, i, e))

  without-stays : (k : List ℕ) → (k ≡ key → ⊥) → (xs : List (K × V)) → Has xs → Has (without_key (key_of bytes) k xs)
  without-stays k apart [] (x, i, e) = absurd i
  without-stays k apart (y ∷ ys) has = go (bytes_eq (key_of bytes y) k) refl has (without-stays k apart ys)
    where
      go : (b : Bool) → bytes_eq (key_of bytes y) k ≡ b → Has (y ∷ ys) → (Has ys → Has (without_key (key_of bytes) k ys)) → Has (cond (not b) (y ∷ without_key (key_of bytes) k ys) (without_key (key_of bytes) k ys))
      go true at (x, inl f, e) later = absurd (apart (sym (bytes_from_same (key_of bytes y) k at) ∙ ap (key_of bytes) f ∙ e))
      go true at (x, inr i, e) later = later (x, i, e)
      go false at (x, inl f, e) later = (x, inl f, e)
      go false at (x, inr i, e) later = later-has y (without_key (key_of bytes) k ys) (later (x, i, e))

  pub put-stays : (p : K × V) (xs : List (K × V)) → Has xs → Has (with_pair_put bytes p.0 p.1 xs)
  put-stays p xs has = go (bytes_eq (bytes p.0) key) refl
    where
      go : (b : Bool) → bytes_eq (bytes p.0) key ≡ b → Has (with_pair_put bytes p.0 p.1 xs)
      go true at = put-in-has p (without_key (key_of bytes) (bytes p.0) xs) (bytes_from_same (bytes p.0) key at)
      go false at =
          let apart : bytes p.0 ≡ key → ⊥ = λ same. let e : true ≡ false = sym (same_key (bytes p.0) key same) ∙ at in absurd (cc) in
          put-in-stays p (without_key (key_of bytes) (bytes p.0) xs) (without-stays (bytes p.0) apart xs has)

  -- the same of many, one after another
  pub puts-stay : (ps xs : List (K × V)) → Has xs → Has (with_pairs_put bytes ps xs)
  puts-stay [] xs has = has
  puts-stay (p ∷ ps) xs has = puts-stay ps (with_pair_put bytes p.0 p.1 xs) (put-stays p xs has)

  pub puts-have : (ps xs : List (K × V)) → Has ps → Has (with_pairs_put bytes ps xs)
  puts-have [] xs (x, i, e) = absurd i
  puts-have (p ∷ ps) xs (x, inl f, e) =
      puts-stay ps (with_pair_put bytes p.0 p.1 xs) (put-in-has p (without_key (key_of bytes) (bytes p.0) xs) (ap (key_of bytes) f ∙ e))
  puts-have (p ∷ ps) xs (x, inr i, e) = puts-have ps (with_pair_put bytes p.0 p.1 xs) (x, i, e)

module _ {K V : Type 0} (bytes : K → List ℕ) where
  -- the last of an ascending list has a key of its own
  pub new-last : (front : List (K × V)) (p : K × V) → AscendsByKey (key_of bytes) (front ++ p ∷ []) → HasKey (key_of bytes) (bytes p.0) front → ⊥
  new-last front p up (x, i, e) =
      before_not_self (bytes p.0)
      (subst (λ k. IsBefore k (bytes p.0)) e (all_at (λ y. IsBefore (key_of bytes y) (bytes p.0)) x front (before (key_of bytes) p front [] up) i))
