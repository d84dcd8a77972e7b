-- Whether a removal shrinks a node is told by the keys with the front alone, where another of them is stored.
use Rattle.std.proofs.Common.{◌≡◌, ◌≢◌, ℕ, ◌≤◌, ◌↔◌, List, [], ◌∷◌, length, refl, sym, ap, ◌∙◌, subst, inl, inr, arith, length-append, nat_eq}
use Rattle.std.specs.List.{cons_option}
use Rattle.std.proofs.lemmas.Bool.{cond_both, cases_Bool, cases_lt}
use Rattle.art_bytes.proofs.Common.{BeginsWith, common_prefix}
use Rattle.art_arena.proofs.Terms.{IsIn, Forest, inner, items, IsCanonical, IsLimit, byte_after, bytes_after, width_of, distinct, begins_with, with_front, IsMeeting, Shrinks}
use Rattle.art_arena.proofs.tree.Filters.{in_kept}
use Rattle.art_arena.proofs.tree.Fronts.{begins_trans, none_after, common_left}
use Rattle.art_arena.proofs.tree.Paths.{deeper}
use Rattle.art_arena.proofs.tree.Tenants.{begins_true, begins_false, common_right, own_in}
use Rattle.art_arena.proofs.tree.Shrinks.{TreeMeets, tree_meets, another}
pub use Rattle.art_arena.proofs.tree.Shrinks.{front_le}
use Rattle.art_arena.proofs.tree.Parts.{begins_same}

begins_length : (p q : List ℕ) → BeginsWith p q → length p ≤ length q
begins_length p q (r, e) = let f = ap length e in let g = length-append p r in omega arith

module _ {X : Type 0} (key : X → List ℕ) where
  in_own : (front : List ℕ) (x : X) (xs : List X) → IsIn x xs → BeginsWith front (key x) → IsIn x (with_front key front xs)
  in_own front x xs i h = in_kept (λ y. begins_with front (key y)) x xs i (begins_same front (key x) h)

  own_bytes : (front m : List ℕ) → BeginsWith front m → (xs : List X) → bytes_after key m (with_front key front xs) ≡ bytes_after key m xs
  own_bytes front m h [] = refl
  own_bytes front m h (x ∷ xs) =
      let rest = own_bytes front m h xs in
      cond_both (begins_with front (key x)) (x ∷ with_front key front xs) (with_front key front xs) (λ l. bytes_after key m l ≡ bytes_after key m (x ∷ xs))
      (λ t. ap (cons_option (byte_after m (key x))) rest)
      (λ f. rest ∙ sym (ap (λ o. cons_option o (bytes_after key m xs)) (none_after m (key x) (λ j. begins_false front (key x) f (begins_trans front m (key x) h j)))))

  pub own_width : (front m : List ℕ) → BeginsWith front m → (xs : List X) → width_of key (with_front key front xs) m ≡ width_of key xs m
  own_width front m h xs = ap (λ l. length (distinct nat_eq l)) (own_bytes front m h xs)

  module _ (front k : List ℕ) (xs : List X) (k-with_front : BeginsWith front k) (y : X) (y-in : IsIn y xs) (y-with_front : BeginsWith front (key y)) (apart : key y ≢ k) where
    reaches : (m : List ℕ) → BeginsWith m k → length (common_prefix k (key y)) ≤ length m → BeginsWith front m
    reaches m h l =
        let c : BeginsWith front (common_prefix k (key y)) = Rattle.art_bytes.proofs.Order.common_begins front k (key y) k-with_front y-with_front in
        let n = begins_length front (common_prefix k (key y)) c in
        front_le front m k k-with_front h (omega arith)

    to_own : (m : List ℕ) → IsMeeting key xs k m → IsMeeting key (with_front key front xs) k m × BeginsWith front m
    to_own m ((z, i, n, e), longest) =
        let m-front = subst (λ w. BeginsWith w k) e (common_left k (key z)) in
        let b = reaches m m-front (longest y y-in apart) in
        let z-with_front = begins_trans front m (key z) b (subst (λ w. BeginsWith w (key z)) e (common_right k (key z))) in
        (((z, in_own front z xs i z-with_front, n, e), λ w j o. longest w (own_in key front w xs j).0 o), b)

    from_own : (m : List ℕ) → IsMeeting key (with_front key front xs) k m → IsMeeting key xs k m × BeginsWith front m
    from_own m ((z, i, n, e), longest) =
        let m-front = subst (λ w. BeginsWith w k) e (common_left k (key z)) in
        let b = reaches m m-front (longest y (in_own front y xs y-in y-with_front) apart) in
        let short = begins_length front m b in (
          (
            (z, (own_in key front z xs i).0, n, e),
            λ w j o.
                elim (cases_Bool (begins_with front (key w))) [
                  | inl t ↦ longest w (in_own front w xs j (begins_true front (key w) t)) o
                  | inr f ↦ elim (cases_lt (length (common_prefix k (key w))) (length front)) [
                    | inl l ↦ omega arith
                    | inr l ↦ absurd (begins_false front (key w) f
                        (begins_trans front (common_prefix k (key w)) (key w) (front_le front (common_prefix k (key w)) k k-with_front (common_left k (key w)) l) (common_right k (key w))))
                  ]
                ],
          ),
          b,
        )

    pub own_shrinks : Shrinks key xs k ↔ Shrinks key (with_front key front xs) k
    own_shrinks = (
      λ s. let o = to_own s.0 s.1 in (s.0, o.0, subst IsLimit (sym (own_width front s.0 o.1 xs)) s.2),
      λ s. let o = from_own s.0 s.1 in (s.0, o.0, subst IsLimit (own_width front s.0 o.1 xs) s.2),
    )

  -- a key in a tree of two leaves and more shares a longest front with another
  pub meeting_exists : (prefix : List ℕ) (cs : Forest X) → IsCanonical key [] (inner prefix cs) → (x : X) → IsIn x (items (inner prefix cs)) → (m : List ℕ) × IsMeeting key (items (inner prefix cs)) (key x) m
  meeting_exists prefix cs h x i = go (tree_meets key (key x) [] (inner prefix cs) h (key x) refl (x, i, refl))
    where
      go : TreeMeets key (key x) [] (inner prefix cs) (key x) → (m : List ℕ) × IsMeeting key (items (inner prefix cs)) (key x) m
      go (inr s) = (s.0, s.1)
      go (inl s) = absurd (two s.1)
        where
          two : ((z : X) → IsIn z (items (inner prefix cs)) → key z ≢ key x → ⊥) → ⊥
          two none =
              let d = deeper key (key x) prefix cs h.1 (x, i, refl) in
              let a = another key (key x) prefix d.0 d.1 d.2 cs h.1 h.0 in
              none a.0 a.1 a.2
