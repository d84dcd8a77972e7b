-- Insertion into a canonical tree.
use Rattle.std.proofs.Common.{◌≡◌, ℕ, ◌<◌, ◌≤◌, ◌⊎◌, List, [], ◌∷◌, ◌++◌, refl, sym, ap, ◌∙◌, subst, inl, inr, append_assoc, append-nil, arith}
use Rattle.std.specs.List.{AllByRecursion}
use Rattle.std.proofs.lemmas.Bool.{cases_order}
use Rattle.art_bytes.proofs.Common.{BeginsWith, Conflict, IsProperFront, begins_step, begins_from_step, conflict_first, conflict_second}
use Rattle.art_arena.proofs.Terms.{IsIn, IsPutIn, Tree, Forest, leaf, inner, no_child, child, items, items_in, count, IsBelow, IsCanonical, AreCanonical}
use Rattle.art_arena.proofs.tree.Canonical.{begin, some_item}

-- how two lists of bytes meet
pub data Meeting (k l : List ℕ) : Type 0 where
  same : k ≡ l → Meeting k l
  first_ends : (b : ℕ) (r : List ℕ) → l ≡ k ++ b ∷ r → Meeting k l
  second_ends : (b : ℕ) (r : List ℕ) → k ≡ l ++ b ∷ r → Meeting k l
  differ : (p : List ℕ) (a : ℕ) (r : List ℕ) (b : ℕ) (s : List ℕ) → k ≡ p ++ a ∷ r → l ≡ p ++ b ∷ s → (a < b) ⊎ (b < a) → Meeting k l

longer : (a b : ℕ) (k l : List ℕ) → a ≡ b → Meeting k l → Meeting (a ∷ k) (b ∷ l)
longer a b k l e (same f) = same cc
longer a b k l e (first_ends c r f) = first_ends c r cc
longer a b k l e (second_ends c r f) = second_ends c r cc
longer a b k l e (differ p c r d s f g o) = differ (a ∷ p) c r d s (ap (λ m. a ∷ m) f) (cc) o

pub meet : (k l : List ℕ) → Meeting k l
meet [] [] = same refl
meet [] (b ∷ l) = first_ends b l refl
meet (a ∷ k) [] = second_ends a k refl
meet (a ∷ k) (b ∷ l) =
    let rest = meet k l in
    elim (cases_order a b) [ inl e ↦ longer a b k l e rest | inr o ↦ differ [] a k b l refl refl o ]

-- places in lists

pub in_left : {X : Type 0} (x : X) (xs ys : List X) → IsIn x xs → IsIn x (xs ++ ys)
in_left x [] ys h = absurd h
in_left x (z ∷ zs) ys (inl e) = inl e
in_left x (z ∷ zs) ys (inr h) = inr (in_left x zs ys h)

pub in_right : {X : Type 0} (x : X) (xs ys : List X) → IsIn x ys → IsIn x (xs ++ ys)
in_right x [] ys h = h
in_right x (z ∷ zs) ys h = inr (in_right x zs ys h)

pub all_at : {X : Type 0} (P : X → Type 0) (x : X) (xs : List X) → AllByRecursion P xs → IsIn x xs → P x
all_at P x [] h i = absurd i
all_at P x (y ∷ ys) h (inl e) = subst P e h.0
all_at P x (y ∷ ys) h (inr i) = all_at P x ys h.1 i

pub put_left : {X : Type 0} (x : X) (xs ys more : List X) → IsPutIn x xs ys → IsPutIn x (xs ++ more) (ys ++ more)
put_left x xs ys more (front, back, e, f) =
    (front, back ++ more, ap (λ l. l ++ more) e ∙ append_assoc front back more, ap (λ l. l ++ more) f ∙ append_assoc front (x ∷ back) more)

pub put_right : {X : Type 0} (x : X) (xs ys less : List X) → IsPutIn x xs ys → IsPutIn x (less ++ xs) (less ++ ys)
put_right x xs ys less (front, back, e, f) =
    (less ++ front, back, ap (λ l. less ++ l) e ∙ sym (append_assoc less front back), ap (λ l. less ++ l) f ∙ sym (append_assoc less front (x ∷ back)))

pub put_first : {X : Type 0} (x : X) (xs : List X) → IsPutIn x xs (x ∷ xs)
put_first x xs = ([], xs, refl, refl)

pub put_last : {X : Type 0} (x : X) (xs : List X) → IsPutIn x xs (xs ++ x ∷ [])
put_last x xs = (xs, [], sym (append-nil xs), refl)

module _ {X : Type 0} (key : X → List ℕ) where
  -- The split of a leaf or a prefix: two children under what both begin with.

  -- the child with the smaller byte comes first
  abbrev pub fork : (p : List ℕ) (a : ℕ) (x : X) (b : ℕ) (t : Tree X) → (a < b) ⊎ (b < a) → Tree X
  fork p a x b t (inl less) = inner p (child a (leaf x) (child b t no_child))
  fork p a x b t (inr more) = inner p (child b t (child a (leaf x) no_child))

  pub fork_canonical : (path p : List ℕ) (a : ℕ) (r : List ℕ) (x : X) (b : ℕ) (t : Tree X) (o : (a < b) ⊎ (b < a)) → key x ≡ path ++ (p ++ a ∷ r)
      → IsCanonical key ((path ++ p) ++ b ∷ []) t → IsCanonical key path (fork p a x b t o)
  fork_canonical path p a r x b t (inl l) e h =
      (omega arith, (begins_from_step (path ++ p) a r (key x) (e ∙ sym (append_assoc path p (a ∷ r))), (l, tt), (h, tt, tt)))
  fork_canonical path p a r x b t (inr l) e h =
      (omega arith, (h, (l, tt), (begins_from_step (path ++ p) a r (key x) (e ∙ sym (append_assoc path p (a ∷ r))), tt, tt)))

  fork_put : (p : List ℕ) (a : ℕ) (x : X) (b : ℕ) (t : Tree X) (o : (a < b) ⊎ (b < a)) → IsPutIn x (items t) (items (fork p a x b t o))
  fork_put p a x b t (inl l) = ([], items t, refl, ap (λ l. x ∷ l) (append-nil (items t)))
  fork_put p a x b t (inr l) = put_last x (items t)

  -- the lower part of an inner node whose prefix is split
  pub lower_canonical : (path p : List ℕ) (b : ℕ) (s : List ℕ) (cs : Forest X) → IsCanonical key path (inner (p ++ b ∷ s) cs) → IsCanonical key ((path ++ p) ++ b ∷ []) (inner s cs)
  lower_canonical path p b s cs h =
      let e : path ++ (p ++ b ∷ s) ≡ ((path ++ p) ++ b ∷ []) ++ s = sym (append_assoc (path ++ p) (b ∷ []) s ∙ append_assoc path p (b ∷ s)) in
      (h.0, subst (λ q. AreCanonical key q cs) e h.1)

  -- what comes of an insertion
  pub data Inserting (path : List ℕ) (x : X) (t : Tree X) : Type 0 where
    grown : (u : Tree X) → IsCanonical key path u → IsPutIn x (items t) (items u) → Inserting path x t
    found : (y : X) → IsIn y (items t) → key x ≡ key y → Inserting path x t
    blocked : (y : X) → IsIn y (items t) → Conflict (key x) (key y) → Inserting path x t

  pub data InsertingIn (path : List ℕ) (x : X) (byte : ℕ) (cs : Forest X) : Type 0 where
    grown_in : (ds : Forest X) → AreCanonical key path ds → count cs ≤ count ds → ((a : ℕ) → a < byte → IsBelow a cs → IsBelow a ds)
        → IsPutIn x (items_in cs) (items_in ds) → InsertingIn path x byte cs
    found_below : (y : X) → IsIn y (items_in cs) → key x ≡ key y → InsertingIn path x byte cs
    blocked_in : (y : X) → IsIn y (items_in cs) → Conflict (key x) (key y) → InsertingIn path x byte cs

  -- one step up

  into : (path prefix : List ℕ) (x : X) (b : ℕ) (cs : Forest X) → 2 ≤ count cs → InsertingIn (path ++ prefix) x b cs → Inserting path x (inner prefix cs)
  into path prefix x b cs n (grown_in ds h m low put) = grown (inner prefix ds) (omega arith, h) put
  into path prefix x b cs n (found_below y i e) = found y i e
  into path prefix x b cs n (blocked_in y i e) = blocked y i e

  in_first : (q : List ℕ) (x : X) (b : ℕ) (c : ℕ) (t : Tree X) (cs : Forest X) → IsBelow c cs → AreCanonical key q cs → b ≡ c
      → Inserting (q ++ c ∷ []) x t → InsertingIn q x b (child c t cs)
  in_first q x b c t cs low h e (grown u k put) =
      grown_in (child c u cs) (k, low, h) (omega arith) (λ a l i. i) (put_left x (items t) (items u) (items_in cs) put)
  in_first q x b c t cs low h e (found y i f) = found_below y (in_left y (items t) (items_in cs) i) f
  in_first q x b c t cs low h e (blocked y i f) = blocked_in y (in_left y (items t) (items_in cs) i) f

  in_others : (q : List ℕ) (x : X) (b : ℕ) (c : ℕ) (t : Tree X) (cs : Forest X) → IsCanonical key (q ++ c ∷ []) t → IsBelow c cs → c < b
      → InsertingIn q x b cs → InsertingIn q x b (child c t cs)
  in_others q x b c t cs h low l (grown_in ds k m lows put) =
      grown_in (child c t ds) (h, lows c l low, k) (omega arith) (λ a j i. (i.0, lows a j i.1)) (put_right x (items_in cs) (items_in ds) (items t) put)
  in_others q x b c t cs h low l (found_below y i f) = found_below y (in_right y (items t) (items_in cs) i) f
  in_others q x b c t cs h low l (blocked_in y i f) = blocked_in y (in_right y (items t) (items_in cs) i) f

  below_more : (b c : ℕ) (cs : Forest X) → b < c → IsBelow c cs → IsBelow b cs
  below_more b c no_child l h = tt
  below_more b c (child d t cs) l h = let m = h.0 in (omega arith, below_more b c cs l h.1)

  -- a key that ends where each key below goes on
  front_of_all : (q : List ℕ) (x : X) (cs : Forest X) (n : 1 ≤ count cs) → AreCanonical key q cs → BeginsWith (key x) q → (y : X) × IsIn y (items_in cs) × Conflict (key x) (key y)
  front_of_all q x no_child n h s = absurd (omega arith)
  front_of_all q x (child b t cs) n h (r, e) =
      let s = some_item key (q ++ b ∷ []) t h.0 in
      let all = subst (AllByRecursion (λ z. BeginsWith (q ++ b ∷ []) (key z))) s.2 (begin key (q ++ b ∷ []) t h.0) in
      let u = begins_step q b (key s.0) all.0 in
      let f : key s.0 ≡ key x ++ (r ++ b ∷ u.0) = u.1 ∙ ap (λ m. m ++ b ∷ u.0) e ∙ append_assoc (key x) r (b ∷ u.0) in
      (s.0, in_left s.0 (items t) (items_in cs) (subst (IsIn s.0) (sym s.2) (inl refl)), conflict_first (key x) (key s.0) (goes_on r b u.0 (key x) (key s.0) f))
    where
      goes_on : (r : List ℕ) (b : ℕ) (u k l : List ℕ) → l ≡ k ++ (r ++ b ∷ u) → IsProperFront k l
      goes_on [] b u k l f = (b, u, f)
      goes_on (c ∷ r) b u k l f = (c, r ++ b ∷ u, f)

  at_leaf : (path : List ℕ) (y : X) (s : List ℕ) (x : X) (rest : List ℕ) → key y ≡ path ++ s → key x ≡ path ++ rest → Meeting rest s → Inserting path x (leaf y)
  at_leaf path y s x rest f e (same g) = found y (inl refl) (e ∙ ap (λ m. path ++ m) g ∙ sym f)
  at_leaf path y s x rest f e (first_ends b r g) =
      blocked y (inl refl) (conflict_first (key x) (key y) (b, r, f ∙ ap (λ m. path ++ m) g ∙ sym (append_assoc path rest (b ∷ r)) ∙ ap (λ m. m ++ b ∷ r) (sym e)))
  at_leaf path y s x rest f e (second_ends b r g) =
      blocked y (inl refl) (conflict_second (key x) (key y) (b, r, e ∙ ap (λ m. path ++ m) g ∙ sym (append_assoc path s (b ∷ r)) ∙ ap (λ m. m ++ b ∷ r) (sym f)))
  at_leaf path y s x rest f e (differ p a r b u g i o) =
      grown (fork p a x b (leaf y) o)
      (fork_canonical path p a r x b (leaf y) o (e ∙ ap (λ m. path ++ m) g) (begins_from_step (path ++ p) b u (key y) (f ∙ ap (λ m. path ++ m) i ∙ sym (append_assoc path p (b ∷ u)))))
      (fork_put p a x b (leaf y) o)

  -- within a prefix, where it isn't passed
  at_prefix : (path prefix : List ℕ) (cs : Forest X) → IsCanonical key path (inner prefix cs) → (x : X) (rest : List ℕ) → key x ≡ path ++ rest
      → ((b : ℕ) (r : List ℕ) → rest ≡ prefix ++ b ∷ r → InsertingIn (path ++ prefix) x b cs) → Meeting rest prefix → Inserting path x (inner prefix cs)
  at_prefix path prefix cs h x rest e down (same g) =
      let f = front_of_all (path ++ prefix) x cs (let n = h.0 in omega arith) h.1 ([], ap (λ m. path ++ m) (sym g) ∙ sym e ∙ sym (append-nil (key x))) in
      blocked f.0 f.1 f.2
  at_prefix path prefix cs h x rest e down (first_ends b r g) =
      let f = front_of_all (path ++ prefix) x cs (let n = h.0 in omega arith) h.1
      (b ∷ r, ap (λ m. path ++ m) g ∙ sym (append_assoc path rest (b ∷ r)) ∙ ap (λ m. m ++ b ∷ r) (sym e)) in
      blocked f.0 f.1 f.2
  at_prefix path prefix cs h x rest e down (second_ends b r g) = into path prefix x b cs h.0 (down b r g)
  at_prefix path prefix cs h x rest e down (differ p a r b s g i o) =
      grown (fork p a x b (inner s cs) o)
      (fork_canonical path p a r x b (inner s cs) o (e ∙ ap (λ m. path ++ m) g) (lower_canonical path p b s cs (subst (λ m. IsCanonical key path (inner m cs)) i h)))
      (fork_put p a x b (inner s cs) o)

  mutual
    pub insert : (path : List ℕ) (t : Tree X) → IsCanonical key path t → (x : X) (rest : List ℕ) → key x ≡ path ++ rest → Inserting path x t
    insert path (leaf y) h x rest e = at_leaf path y h.0 x rest h.1 e (meet rest h.0)
    insert path (inner prefix cs) h x rest e =
        at_prefix path prefix cs h x rest e
        (λ b r g. insert_in (path ++ prefix) cs h.1 x b r (e ∙ ap (λ m. path ++ m) g ∙ sym (append_assoc path prefix (b ∷ r)))) (meet rest prefix)

    pub insert_in : (q : List ℕ) (cs : Forest X) → AreCanonical key q cs → (x : X) (b : ℕ) (r : List ℕ) → key x ≡ q ++ b ∷ r → InsertingIn q x b cs
    insert_in q no_child h x b r e =
        grown_in (child b (leaf x) no_child) (begins_from_step q b r (key x) e, tt, tt) (omega arith) (λ a l i. (l, tt)) (put_first x [])
    insert_in q (child c t cs) h x b r e =
        let here = λ (f : b ≡ c). in_first q x b c t cs h.1 h.2 f (insert (q ++ c ∷ []) t h.0 x r (e ∙ ap (λ m. q ++ m ∷ r) f ∙ sym (append_assoc q (c ∷ []) r))) in
        let later = insert_in q cs h.2 x b r e in
        elim (cases_order b c) [
          | inl f ↦ here f
          | inr (inl l) ↦ grown_in (child b (leaf x) (child c t cs)) (begins_from_step q b r (key x) e, (l, below_more b c cs l h.1), h) (omega arith)
              (λ a j i. (j, i)) (put_first x (items t ++ items_in cs))
          | inr (inr l) ↦ in_others q x b c t cs h.0 h.1 l later
        ]
