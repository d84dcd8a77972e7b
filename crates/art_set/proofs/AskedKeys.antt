-- A closure that is asked of keys in turn, and what is left after a call.
use Rattle.std.proofs.Common.{◌≡◌, ◌<◌, ℕ, suc, length, Bool, true, false, cond, List, [], ◌∷◌, ◌++◌, Option, Some, None, Result, Ok, Err, refl, sym, ap, ◌∙◌, subst, inl, inr, arith, append_assoc, length-append}
use Rattle.std.specs.Prelude.{IfOk, OnErr}
use Rattle.std.specs.List.{items_where_true}
use Rattle.std.specs.List.Retain.{ExtractsNext, IsFiltered}
use Rattle.art_arena.proofs.Common.{AscendsByKey, Shrinks}
use Rattle.art_operations.proofs.Common.{without_key, taken}
use Rattle.art_map.proofs.Common.{ascends-filter}
use Rattle.art_set.proofs.Terms.{AnswersForKey, AskingKeys, CallableOnEachKey, KeysComeOf, ExtractsKey, StopsAtKey}

module _ {K F : Type 0} (T : F → K → Bool → F → Type 0) where
  module _ (Q : F → K → Type 0) where
    -- the closure may be called at the first key
    pub callable-next : (f : F) (k : K) (keys on : List K) → keys ≡ k ∷ on → CallableOnEachKey T Q f keys → Q f k
    callable-next f k keys on e can = can.at [] on f k e refl

    -- and then at those after it
    pub callable-after : (f h : F) (k : K) (keys on : List K) → keys ≡ k ∷ on → CallableOnEachKey T Q f keys → (b : Bool) → T f k b h → CallableOnEachKey T Q h on
    callable-after f h k keys on e can b call = record { at = λ front back last l g calls. can.at (k ∷ front) back last l (e ∙ ap (λ xs. k ∷ xs) g) (h, (b, call), calls) }

    -- of none it is never asked
    pub callable-none : (f : F) (keys : List K) → keys ≡ [] → CallableOnEachKey T Q f keys
    callable-none f keys none = record { at = λ front back last l g calls. absurd (never front l back (sym none ∙ g)) }
      where
        never : (front : List K) (l : K) (back : List K) → [] ≡ front ++ l ∷ back → ⊥
        never [] l back e = absurd (cc)
        never (x ∷ front) l back e = absurd (cc)

  module _ (bytes : K → List ℕ) {E : Type 0} where
    -- where none is left, none is asked
    pub extracts-none : (s : AskingKeys K F) → s.left ≡ [] → ExtractsKey T bytes {E = E} s None s
    extracts-none s none = record {
      picked = None;
      passed = [];
      others = [];
      asked = subst (λ ks. ExtractsNext (AnswersForKey T) s.asks ks None s.asks [] []) (sym none) (refl, refl, refl, refl);
      comes = (refl, none);
    }

    -- the closure was asked of the first key, and a call goes on after it
    pub extracts-later : (s m : AskingKeys K F) (k : K) → s.left ≡ k ∷ m.left → T s.asks k false m.asks → m.keys ≡ s.keys
        → (r : Option (Result K E)) (t : AskingKeys K F) → ExtractsKey T bytes m r t → ExtractsKey T bytes s r t
    extracts-later s m k left call keys r t e = record {
      picked = e.picked;
      passed = k ∷ e.passed;
      others = e.others;
      asked = subst (λ ks. ExtractsNext (AnswersForKey T) s.asks ks e.picked t.asks (k ∷ e.passed) e.others) (sym left)
          (false, m.asks, k, (refl, call), (e.passed, e.asked, refl));
      comes = subst (λ ks. KeysComeOf T bytes e.picked ks e.others r t) keys e.comes;
    }

    -- or it picked that one, which was taken out, or that was refused
    pub extracts-now : (s t : AskingKeys K F) (k : K) (on : List K) → s.left ≡ k ∷ on → T s.asks k true t.asks → (r : Result K E)
        → IfOk r (λ l. (l ≡ k) × (t.keys ≡ without_key bytes (bytes k) s.keys) × (t.left ≡ on))
        → OnErr r ((t.keys ≡ s.keys) × (t.left ≡ []) × Shrinks bytes s.keys (bytes k))
        → ExtractsKey T bytes s (Some r) t
    extracts-now s t k on left call r ok err = record {
      picked = Some k;
      passed = [];
      others = on;
      asked = subst (λ ks. ExtractsNext (AnswersForKey T) s.asks ks (Some k) t.asks [] on) (sym left) (true, t.asks, k, (refl, call), (refl, refl, refl, refl));
      comes = come r ok err;
    }
      where
        come : (r : Result K E) → IfOk r (λ l. (l ≡ k) × (t.keys ≡ without_key bytes (bytes k) s.keys) × (t.left ≡ on))
            → OnErr r ((t.keys ≡ s.keys) × (t.left ≡ []) × Shrinks bytes s.keys (bytes k))
            → KeysComeOf T bytes (Some k) s.keys on (Some r) t
        come (Ok l) ok err = ok
        come (Err e) ok err = err

  -- the closure was asked of the first key
  pub filtered-first : (f h : F) (x : K) (xs ys : List K) (b : Bool) → T f x b h → IsFiltered T h xs ys → IsFiltered T f (x ∷ xs) (cond b (x ∷ ys) ys)
  filtered-first f h x xs ys b call (bs, last, len, told, are) =
      (b ∷ bs, last, (let e = len in omega (arith, e)), (h, call, told), pick b)
    where
      pick : (c : Bool) → cond c (x ∷ ys) ys ≡ items_where_true (c ∷ bs) (x ∷ xs)
      pick true = ap (λ zs. x ∷ zs) are
      pick false = are

  pub filtered-none : (f : F) (xs : List K) → xs ≡ [] → IsFiltered T f xs []
  filtered-none f xs e = subst (λ zs. IsFiltered T f zs []) (sym e) ([], f, refl, refl, refl)

  module _ (bytes : K → List ℕ) (Q : F → K → Type 0) (f : F) (old : List K) where
    -- what is left of the keys that were to be retained
    pub record RetainingKeys (s : AskingKeys K F) : Type 0 where
      pub kept : List K
      pub keys_are : s.keys ≡ kept ++ s.left
      pub ascend : AscendsByKey bytes s.keys
      pub callable : CallableOnEachKey T Q s.asks s.left
      pub retains : (ys : List K) → IsFiltered T s.asks s.left ys → IsFiltered T f old (kept ++ ys)
      pub stops : (k : K) (ys : List K) → StopsAtKey T s.asks s.left k ys → StopsAtKey T f old k (kept ++ ys)

    -- at first all are left
    pub retaining-all : (s : AskingKeys K F) → s.keys ≡ old → s.left ≡ old → s.asks ≡ f → AscendsByKey bytes old → CallableOnEachKey T Q f old → RetainingKeys s
    retaining-all s keys left asks up can = record {
      kept = [];
      keys_are = keys ∙ sym left;
      ascend = subst (AscendsByKey bytes) (sym keys) up;
      callable = subst (λ g. CallableOnEachKey T Q g s.left) (sym asks) (subst (CallableOnEachKey T Q f) (sym left) can);
      retains = λ ys h. subst (λ g. IsFiltered T g old ys) asks (subst (λ ks. IsFiltered T s.asks ks ys) left h);
      stops = λ k ys h. subst (λ g. StopsAtKey T g old k ys) asks (subst (λ ks. StopsAtKey T s.asks ks k ys) left h);
    }

    module _ (s : AskingKeys K F) (so : RetainingKeys s) (x : K) where
      -- the first is kept
      pub retaining-kept : (m : AskingKeys K F) → s.left ≡ x ∷ m.left → T s.asks x true m.asks → m.keys ≡ s.keys → RetainingKeys m
      retaining-kept m left call keys = record {
        kept = so.kept ++ x ∷ [];
        keys_are = keys ∙ so.keys_are ∙ ap (λ ks. so.kept ++ ks) left ∙ sym (append_assoc so.kept (x ∷ []) m.left);
        ascend = subst (AscendsByKey bytes) (sym keys) so.ascend;
        callable = callable-after Q s.asks m.asks x s.left m.left left so.callable true call;
        retains = λ ys h. subst (IsFiltered T f old) (sym (append_assoc so.kept (x ∷ []) ys))
            (so.retains (x ∷ ys) (subst (λ ks. IsFiltered T s.asks ks (x ∷ ys)) (sym left) (filtered-first s.asks m.asks x m.left ys true call h)));
        stops = λ k ys h. subst (StopsAtKey T f old k) (sym (append_assoc so.kept (x ∷ []) ys))
            (so.stops k (x ∷ ys) (subst (λ ks. StopsAtKey T s.asks ks k (x ∷ ys)) (sym left) (true, m.asks, call, inr (ys, h, refl))));
      }

      -- the first is taken out
      taken-keys : (on keys : List K) → s.left ≡ x ∷ on → keys ≡ without_key bytes (bytes x) s.keys → keys ≡ so.kept ++ on
      taken-keys on keys left are =
          let all : s.keys ≡ so.kept ++ x ∷ on = so.keys_are ∙ ap (λ ks. so.kept ++ ks) left in
          let out = taken bytes x so.kept on (subst (AscendsByKey bytes) all so.ascend) in
          are ∙ ap (without_key bytes (bytes x)) all ∙ sym out.new_is

      -- one key less is left
      pub taken-long : (on keys : List K) → s.left ≡ x ∷ on → keys ≡ without_key bytes (bytes x) s.keys → suc (length keys) ≡ length s.keys
      taken-long on keys left are =
          let old = ap length (so.keys_are ∙ ap (λ ks. so.kept ++ ks) left) in
          let new = ap length (taken-keys on keys left are) in
          omega (arith, old, new, length-append so.kept (x ∷ on), length-append so.kept on)

      -- there is one where one is left
      pub some-left : (on : List K) → s.left ≡ x ∷ on → 0 < length s.keys
      some-left on left =
          let old = ap length (so.keys_are ∙ ap (λ ks. so.kept ++ ks) left) in
          omega (arith, old, length-append so.kept (x ∷ on))

      pub retaining-taken : (m : AskingKeys K F) → s.left ≡ x ∷ m.left → T s.asks x false m.asks → m.keys ≡ without_key bytes (bytes x) s.keys → RetainingKeys m
      retaining-taken m left call keys =
          record {
            kept = so.kept;
            keys_are = taken-keys m.left m.keys left keys;
            ascend = subst (AscendsByKey bytes) (sym keys) (ascends-filter bytes _ s.keys so.ascend);
            callable = callable-after Q s.asks m.asks x s.left m.left left so.callable false call;
            retains = λ ys h. so.retains ys (subst (λ ks. IsFiltered T s.asks ks ys) (sym left) (filtered-first s.asks m.asks x m.left ys false call h));
            stops = λ k ys h. so.stops k ys (subst (λ ks. StopsAtKey T s.asks ks k ys) (sym left) (false, m.asks, call, inr (ys, h, refl)));
          }

      -- its removal is refused
      pub retaining-stopped : (on : List K) (h : F) → s.left ≡ x ∷ on → T s.asks x false h → StopsAtKey T f old x s.keys
      retaining-stopped on h left call = subst (StopsAtKey T f old x) (sym so.keys_are)
          (so.stops x s.left (subst (λ ks. StopsAtKey T s.asks ks x ks) (sym left) (false, h, call, inl (refl, refl, refl))))

    -- none is left
    pub retained-all : (s : AskingKeys K F) → RetainingKeys s → s.left ≡ [] → IsFiltered T f old s.keys
    retained-all s so none = subst (IsFiltered T f old) (sym (so.keys_are ∙ ap (λ ks. so.kept ++ ks) none))
        (so.retains [] (filtered-none s.asks s.left none))
