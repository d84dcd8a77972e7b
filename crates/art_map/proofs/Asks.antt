-- A closure that is asked of pairs in turn, from either end.
use Rattle.std.proofs.Common.{◌≡◌, ℕ, suc, ◌<◌, ◌==◌, Bool, true, false, List, [], ◌∷◌, ◌++◌, length, reverse, Option, Some, None, Result, Ok, Err, refl, sym, ap, subst, ◌∙◌, arith, inl, inr, append_assoc, length-append, eqb-true}
use Rattle.std.proofs.lemmas.List.{reverse-append}
use Rattle.std.specs.Bool.{MatchBool}
use Rattle.std.specs.List.{AllByRecursion}
use Rattle.std.specs.List.Retain.{ExtractsNext}
use Rattle.std.specs.Map.Calls.{CallableOnEachPair, RetainsPairs}
use Rattle.std.specs.Prelude.{IfOk, OnErr}
use Rattle.art_arena.proofs.Common.{key_of, AscendsByKey, Shrinks}
use Rattle.art_arena.specs.declared.ends.End.{End}
use Rattle.art_arena.specs.declared.ends.End.TheVariants.{First, Last}
use Rattle.art_bytes.proofs.Common.{IsBefore}
use Rattle.art_operations.proofs.Common.{without_key, IsAtEnd, with_pair_put, put_replaced, taken}
use Rattle.art_map.proofs.Terms.{AnswersAt, AreMet, Asking, CallableFromEnds, ComesOf, Extracts, StopsAt, from_end, with_pairs_put, IsAsked, end-long}
use Rattle.art_map.proofs.AtEnds.{none-at-end, same-end}
use Rattle.art_map.proofs.Written.{without-again, without-put}

module _ {X : Type 0} where
  -- what a test for none tells
  pub one-left : (xs : List X) {b : Bool} → b ≡ (length xs == 0) → b ≡ false → 0 < length xs
  one-left [] e f = let g = sym e ∙ f in absurd (cc)
  one-left (x ∷ xs) e f = omega arith

  pub none-left : (xs : List X) {b : Bool} → b ≡ (length xs == 0) → b ≡ true → xs ≡ []
  none-left [] e f = refl
  none-left (x ∷ xs) e f = let g = eqb-true (length (x ∷ xs)) 0 (sym e ∙ f) in absurd (omega (arith, g))

  -- the item at an end is met first
  from-end : (end : End) (x : X) (rest xs : List X) → IsAtEnd end x rest xs → from_end end xs ≡ x ∷ from_end end rest
  from-end First x rest xs e = e
  from-end Last x rest xs e = ap reverse e ∙ reverse-append rest (x ∷ [])

  shorter : (end : End) (x : X) (rest xs : List X) → IsAtEnd end x rest xs → length rest < length xs
  shorter end x rest xs e = omega (arith, end-long end x rest xs e)

  from-none : (end : End) → ◌≡◌ {A = List X} (from_end end []) []
  from-none First = refl
  from-none Last = refl

module _ {K V F : Type 0} (T : F → K → V → Bool → V → F → Type 0) where
  module _ (Q : F → K → V → Type 0) where
    -- the closure may be called at either end
    pub callable-next : (f : F) (left : List (K × V)) → CallableFromEnds T Q f left → (end : End) (p : K × V) (rest : List (K × V)) → IsAtEnd end p rest left → Q f p.0 p.1
    callable-next f left can end p rest at = can.at [] p f (end, rest, at, tt) refl

    -- and then again
    pub callable-rest : (f : F) (left : List (K × V)) → CallableFromEnds T Q f left → (end : End) (p : K × V) (rest : List (K × V)) → IsAtEnd end p rest left → (b : Bool) (w : V) (h : F) → T f p.0 p.1 b w h
        → CallableFromEnds T Q h rest
    callable-rest f left can end p rest at b w h call = record { at = λ met q last are calls. can.at (p ∷ met) q last (end, rest, at, are) (h, (b, w, call), calls) }

    -- of none it is never asked
    pub callable-none : (f : F) (left : List (K × V)) → left ≡ [] → CallableFromEnds T Q f left
    callable-none f left none = record { at = λ met p last are calls. absurd (never met p (subst (λ ps. AreMet ps (met ++ p ∷ [])) none are)) }
      where
        never : (met : List (K × V)) (p : K × V) → AreMet [] (met ++ p ∷ []) → ⊥
        never [] p (end, rest, at, more) = none-at-end end p rest at
        never (q ∷ met) p (end, rest, at, more) = none-at-end end q rest at

  module _ (bytes : K → List ℕ) (end : End) where
    -- where none is left, none is asked
    pub extracts-none : {E : Type 0} (s : Asking K V F) → s.left ≡ [] → Extracts T bytes {E = E} end s None s
    extracts-none {E} s none = record {
      picked = None;
      passed = [];
      others = [];
      asked = subst (λ ps. ExtractsNext (AnswersAt T) s.asks ps None s.asks [] []) (sym (ap (from_end end) none ∙ from-none end)) (refl, refl, refl, refl);
      comes = (refl, none);
    }

    module _ (s a : Asking K V F) where
      -- the closure was asked of the first pair
      first-asked : {b : Bool} → (q : IsAsked T bytes end s b a) → (r : Option (K × V)) (f : F) (kept others : List (K × V))
          → MatchBool b ((r ≡ Some (q.pair.0, q.value)) × (f ≡ a.asks) × (kept ≡ []) × (others ≡ from_end end q.rest))
          ((ks : List (K × V)) × ExtractsNext (AnswersAt T) a.asks (from_end end q.rest) r f ks others × (kept ≡ (q.pair.0, q.value) ∷ ks))
          → ExtractsNext (AnswersAt T) s.asks (from_end end s.left) r f kept others
      first-asked {b} q r f kept others h =
          subst (λ ps. ExtractsNext (AnswersAt T) s.asks ps r f kept others) (sym (from-end end q.pair q.rest s.left q.was)) (b, a.asks, (q.pair.0, q.value), (refl, q.called), h)

      -- it passes it over, and a call goes on after it
      pub extracts-later : {E : Type 0} → IsAsked T bytes end s false a → (m : Asking K V F) → m.pairs ≡ a.pairs → m.asks ≡ a.asks → ((p : K × V) × IsAtEnd end p m.left a.left)
          → (r : Option (Result (K × V) E)) (t : Asking K V F) → Extracts T bytes end m r t → Extracts T bytes end s r t
      extracts-later q m pairs asks (p, at) r t e =
          let rest = (same-end end (q.pair.0, q.value) p q.rest m.left a.left q.left at).1 in
          let first : K × V = (q.pair.0, q.value) in
          record {
            picked = e.picked;
            passed = first ∷ e.passed;
            others = e.others;
            asked = first-asked q e.picked t.asks (first ∷ e.passed) e.others
                (e.passed, subst (λ f. ExtractsNext (AnswersAt T) f (from_end end q.rest) e.picked t.asks e.passed e.others) asks (subst (λ ps. ExtractsNext (AnswersAt T) m.asks (from_end end ps) e.picked t.asks e.passed e.others) (sym rest) e.asked), refl);
            comes = subst (λ ps. ComesOf T bytes e.picked end (with_pairs_put bytes e.passed ps) e.others r t) (pairs ∙ q.put) e.comes;
          }

      -- it picks it, and the pair is taken out, or that is refused
      pub extracts-now : {E : Type 0} → IsAsked T bytes end s true a → (t : Asking K V F) → t.asks ≡ a.asks → (r : Result (K × V) E)
          → IfOk r (λ p. IsAtEnd end p t.left a.left) → IfOk r (λ p. t.pairs ≡ without_key (key_of bytes) (bytes p.0) a.pairs)
          → OnErr r ((t.left ≡ []) × (t.pairs ≡ a.pairs)) → OnErr r ((p : K × V) × (rest : List (K × V)) × IsAtEnd end p rest a.left × Shrinks (key_of bytes) a.pairs (bytes p.0))
          → Extracts T bytes end s (Some r) t
      extracts-now q t asks (Ok p) left pairs err shrinks =
          let same = same-end end (q.pair.0, q.value) p q.rest t.left a.left q.left left in
          let key = ap (λ (x : K × V). x.0) (sym same.0) in
          record {
            picked = Some (q.pair.0, q.value);
            passed = [];
            others = from_end end q.rest;
            asked = first-asked q (Some (q.pair.0, q.value)) t.asks [] (from_end end q.rest) (refl, asks, refl, refl);
            comes = (
              sym same.0,
              pairs ∙ ap (λ k. without_key (key_of bytes) (bytes k) a.pairs) key ∙ ap (without_key (key_of bytes) (bytes q.pair.0)) q.put
                  ∙ without-put (key_of bytes) (bytes q.pair.0) (q.pair.0, q.value) refl (without_key (key_of bytes) (bytes q.pair.0) s.pairs)
                  ∙ without-again (key_of bytes) (bytes q.pair.0) s.pairs,
              ap (from_end end) (sym same.1),
            );
          }
      extracts-now q t asks (Err e) left pairs err (p, rest, at, shrinks) =
          let same = same-end end (q.pair.0, q.value) p q.rest rest a.left q.left at in
          record {
            picked = Some (q.pair.0, q.value);
            passed = [];
            others = from_end end q.rest;
            asked = first-asked q (Some (q.pair.0, q.value)) t.asks [] (from_end end q.rest) (refl, asks, refl, refl);
            comes = (
              err.1 ∙ q.put,
              err.0,
              subst (λ ps. Shrinks (key_of bytes) ps (bytes q.pair.0)) (sym err.1) (subst (λ (x : K × V). Shrinks (key_of bytes) a.pairs (bytes x.0)) (sym same.0) shrinks),
            );
          }

      -- fewer are then left, of which it may be asked
      pub fewer-taken : {b : Bool} {E : Type 0} (Q : F → K → V → Type 0) → CallableFromEnds T Q s.asks s.left → IsAsked T bytes end s b a → (left : List (K × V)) (r : Result (K × V) E) → IfOk r (λ p. IsAtEnd end p left a.left) → (ps : List (K × V)) → OnErr r ((left ≡ []) × (ps ≡ a.pairs))
          → CallableFromEnds T Q a.asks left × (length left < length s.left)
      fewer-taken {b} Q can q left (Ok p) at ps err =
          let same = same-end end (q.pair.0, q.value) p q.rest left a.left q.left at in
          let rest = callable-rest Q s.asks s.left can end q.pair q.rest q.was b q.value a.asks q.called in
          (subst (CallableFromEnds T Q a.asks) same.1 rest, subst (λ ps. length ps < length s.left) same.1 (shorter end q.pair q.rest s.left q.was))
      fewer-taken {b} Q can q left (Err e) at ps err =
          let less = shorter end q.pair q.rest s.left q.was in
          let none = ap length err.0 in
          (callable-none Q a.asks left err.0, omega (arith, less, none))

      pub fewer-passed : {b : Bool} (Q : F → K → V → Type 0) → CallableFromEnds T Q s.asks s.left → IsAsked T bytes end s b a → (left : List (K × V)) → ((p : K × V) × IsAtEnd end p left a.left)
          → CallableFromEnds T Q a.asks left × (length left < length s.left)
      fewer-passed {b} Q can q left (p, at) = fewer-taken {E = Unit {0}} Q can q left (Ok p) at a.pairs tt

-- Of each pair the closure is asked in turn, and the pairs are told from the first.
module _ {K V F : Type 0} (T : F → K → V → Bool → V → F → Type 0) (bytes : K → List ℕ) where
  pub callable-after : (Q : F → K → V → Type 0) (f : F) (p : K × V) (ps : List (K × V)) → CallableOnEachPair T Q f (p ∷ ps) → (b : Bool) (w : V) (h : F) → T f p.0 p.1 b w h → CallableOnEachPair T Q h ps
  callable-after Q f p ps can b w h call = record { at = λ front back last k v e calls. can.at (p ∷ front) back last k v (ap (λ l. p ∷ l) e) (h, (b, w, call), calls) }

  -- what is left of the pairs that were to be retained
  pub record Retaining (Q : F → K → V → Type 0) (f : F) (old : List (K × V)) (s : Asking K V F) : Type 0 where
    pub kept : List (K × V)
    pub pairs_are : s.pairs ≡ kept ++ s.left
    pub ascend : AscendsByKey (key_of bytes) s.pairs
    pub callable : CallableOnEachPair T Q s.asks s.left
    pub retains : (ps : List (K × V)) → RetainsPairs T s.asks s.left ps → RetainsPairs T f old (kept ++ ps)
    pub stops : (k : K) (ps : List (K × V)) → StopsAt T s.asks s.left k ps → StopsAt T f old k (kept ++ ps)

  same-ascent : (front : List (K × V)) (p q : K × V) (back : List (K × V)) → q.0 ≡ p.0 → AscendsByKey (key_of bytes) (front ++ p ∷ back) → AscendsByKey (key_of bytes) (front ++ q ∷ back)
  same-ascent [] p q back same (first, rest) = (subst (λ k. AllByRecursion (λ (y : K × V). IsBefore (bytes k) (bytes y.0)) back) (sym same) first, rest)
  same-ascent (x ∷ front) p q back same (first, rest) = (same-first front first, same-ascent front p q back same rest)
    where
      same-first : (front : List (K × V)) → AllByRecursion (λ (y : K × V). IsBefore (bytes x.0) (bytes y.0)) (front ++ p ∷ back) → AllByRecursion (λ (y : K × V). IsBefore (bytes x.0) (bytes y.0)) (front ++ q ∷ back)
      same-first [] (here, later) = (subst (λ k. IsBefore (bytes x.0) (bytes k)) (sym same) here, later)
      same-first (z ∷ front) (here, later) = (here, same-first front later)

  less-ascent : (front : List (K × V)) (p : K × V) (back : List (K × V)) → AscendsByKey (key_of bytes) (front ++ p ∷ back) → AscendsByKey (key_of bytes) (front ++ back)
  less-ascent [] p back (first, rest) = rest
  less-ascent (x ∷ front) p back (first, rest) = (less-first front first, less-ascent front p back rest)
    where
      less-first : (front : List (K × V)) → AllByRecursion (λ (y : K × V). IsBefore (bytes x.0) (bytes y.0)) (front ++ p ∷ back) → AllByRecursion (λ (y : K × V). IsBefore (bytes x.0) (bytes y.0)) (front ++ back)
      less-first [] (here, later) = later
      less-first (z ∷ front) (here, later) = (here, less-first front later)

  module _ (Q : F → K → V → Type 0) (f : F) (old : List (K × V)) where
    -- at first all are left
    pub retaining-all : (s : Asking K V F) → s.pairs ≡ old → s.left ≡ old → s.asks ≡ f → AscendsByKey (key_of bytes) old → CallableOnEachPair T Q f old → Retaining Q f old s
    retaining-all s pairs left asks ascend can = record {
      kept = [];
      pairs_are = pairs ∙ sym left;
      ascend = subst (AscendsByKey (key_of bytes)) (sym pairs) ascend;
      callable = rw (asks, left) can;
      retains = λ ps h. subst (λ g. RetainsPairs T g old ps) asks (subst (λ qs. RetainsPairs T s.asks qs ps) left h);
      stops = λ k ps h. subst (λ g. StopsAt T g old k ps) asks (subst (λ qs. StopsAt T s.asks qs k ps) left h);
    }

    module _ (s a : Asking K V F) (r : Retaining Q f old s) where
      -- the first is asked, and stays so far
      now-is : {b : Bool} (q : IsAsked T bytes First s b a) → (a.pairs ≡ r.kept ++ (q.pair.0, q.value) ∷ q.rest) × AscendsByKey (key_of bytes) (r.kept ++ (q.pair.0, q.value) ∷ q.rest)
      now-is q =
          let was : s.pairs ≡ r.kept ++ q.pair ∷ q.rest = r.pairs_are ∙ ap (λ ps. r.kept ++ ps) q.was in
          let ascend = same-ascent r.kept q.pair (q.pair.0, q.value) q.rest refl (subst (AscendsByKey (key_of bytes)) was r.ascend) in
          (q.put ∙ ap (with_pair_put bytes q.pair.0 q.value) was ∙ sym (put_replaced (key_of bytes) (q.pair.0, q.value) r.kept q.pair q.rest refl ascend).new_is, ascend)

      after-first : {b : Bool} (q : IsAsked T bytes First s b a) → CallableOnEachPair T Q a.asks q.rest
      after-first {b} q = callable-after Q s.asks q.pair q.rest (subst (CallableOnEachPair T Q s.asks) q.was r.callable) b q.value a.asks q.called

      -- as many pairs are there then, and one less where it is taken out
      pub asked-long : {b : Bool} → IsAsked T bytes First s b a → length a.pairs ≡ length s.pairs
      asked-long q =
          let was : s.pairs ≡ r.kept ++ q.pair ∷ q.rest = r.pairs_are ∙ ap (λ ps. r.kept ++ ps) q.was in
          ap length (now-is q).0 ∙ length-append r.kept ((q.pair.0, q.value) ∷ q.rest) ∙ sym (length-append r.kept (q.pair ∷ q.rest)) ∙ sym (ap length was)

      pub taken-long : {b : Bool} → IsAsked T bytes First s b a → (p : K × V) (left pairs : List (K × V)) → a.left ≡ p ∷ left → pairs ≡ without_key (key_of bytes) (bytes p.0) a.pairs → suc (length pairs) ≡ length s.pairs
      taken-long q p left pairs at is =
          let same = same-end First (q.pair.0, q.value) p q.rest left a.left q.left at in
          let first : K × V = (q.pair.0, q.value) in
          let now = now-is q in
          let gone : pairs ≡ r.kept ++ q.rest =
          is ∙ ap (λ (x : K × V). without_key (key_of bytes) (bytes x.0) a.pairs) (sym same.0) ∙ ap (without_key (key_of bytes) (bytes q.pair.0)) now.0 ∙ sym (taken (key_of bytes) first r.kept q.rest now.1).new_is in
          let long = ap length gone ∙ length-append r.kept q.rest in
          let had = ap length now.0 ∙ length-append r.kept (first ∷ q.rest) in
          let asked = asked-long q in
          omega (arith, long, had, asked)

      -- so one is there
      pub asked-some : {b : Bool} → IsAsked T bytes First s b a → 0 < length a.pairs
      asked-some q = let had = ap length (now-is q).0 ∙ length-append r.kept ((q.pair.0, q.value) ∷ q.rest) in omega (arith, had)

      -- it is kept
      pub retaining-kept : IsAsked T bytes First s true a → (m : Asking K V F) → m.pairs ≡ a.pairs → m.asks ≡ a.asks → ((p : K × V) × (a.left ≡ p ∷ m.left)) → Retaining Q f old m
      retaining-kept q m pairs asks (p, at) =
          let rest = (same-end First (q.pair.0, q.value) p q.rest m.left a.left q.left at).1 in
          let now = now-is q in
          let first : K × V = (q.pair.0, q.value) in
          record {
            kept = r.kept ++ first ∷ [];
            pairs_are = pairs ∙ now.0 ∙ ap (λ ps. r.kept ++ first ∷ ps) rest ∙ sym (append_assoc r.kept (first ∷ []) m.left);
            ascend = subst (AscendsByKey (key_of bytes)) (sym (pairs ∙ now.0)) now.1;
            callable = subst (CallableOnEachPair T Q m.asks) rest (subst (λ g. CallableOnEachPair T Q g q.rest) (sym asks) (after-first q));
            retains = λ ps h.
                let on = subst (λ g. RetainsPairs T g q.rest ps) asks (subst (λ qs. RetainsPairs T m.asks qs ps) (sym rest) h) in
                subst (RetainsPairs T f old) (sym (append_assoc r.kept (first ∷ []) ps)) (r.retains (first ∷ ps) (subst (λ qs. RetainsPairs T s.asks qs (first ∷ ps)) (sym q.was) (true, q.value, a.asks, ps, q.called, on, refl)));
            stops = λ k ps h.
                let on = subst (λ g. StopsAt T g q.rest k ps) asks (subst (λ qs. StopsAt T m.asks qs k ps) (sym rest) h) in
                subst (StopsAt T f old k) (sym (append_assoc r.kept (first ∷ []) ps)) (r.stops k (first ∷ ps) (subst (λ qs. StopsAt T s.asks qs k (first ∷ ps)) (sym q.was) (true, q.value, a.asks, q.called, inr (ps, on, refl))));
          }

      -- it is taken out
      pub retaining-taken : IsAsked T bytes First s false a → (m : Asking K V F) → m.asks ≡ a.asks → (p : K × V) → a.left ≡ p ∷ m.left → m.pairs ≡ without_key (key_of bytes) (bytes p.0) a.pairs → Retaining Q f old m
      retaining-taken q m asks p at pairs =
          let same = same-end First (q.pair.0, q.value) p q.rest m.left a.left q.left at in
          let rest = same.1 in
          let now = now-is q in
          let first : K × V = (q.pair.0, q.value) in
          let left : m.pairs ≡ r.kept ++ q.rest =
          pairs ∙ ap (λ (x : K × V). without_key (key_of bytes) (bytes x.0) a.pairs) (sym same.0) ∙ ap (without_key (key_of bytes) (bytes q.pair.0)) now.0 ∙ sym (taken (key_of bytes) first r.kept q.rest now.1).new_is in
          record {
            kept = r.kept;
            pairs_are = left ∙ ap (λ ps. r.kept ++ ps) rest;
            ascend = subst (AscendsByKey (key_of bytes)) (sym left) (less-ascent r.kept first q.rest now.1);
            callable = subst (CallableOnEachPair T Q m.asks) rest (subst (λ g. CallableOnEachPair T Q g q.rest) (sym asks) (after-first q));
            retains = λ ps h.
                let on = subst (λ g. RetainsPairs T g q.rest ps) asks (subst (λ qs. RetainsPairs T m.asks qs ps) (sym rest) h) in
                r.retains ps (subst (λ qs. RetainsPairs T s.asks qs ps) (sym q.was) (false, q.value, a.asks, ps, q.called, on, refl));
            stops = λ k ps h.
                let on = subst (λ g. StopsAt T g q.rest k ps) asks (subst (λ qs. StopsAt T m.asks qs k ps) (sym rest) h) in
                r.stops k ps (subst (λ qs. StopsAt T s.asks qs k ps) (sym q.was) (false, q.value, a.asks, q.called, inr (ps, on, refl)));
          }

      -- or that is refused
      pub retaining-stopped : IsAsked T bytes First s false a → (pairs : List (K × V)) → pairs ≡ a.pairs → ((p : K × V) × (rest : List (K × V)) × (a.left ≡ p ∷ rest) × Shrinks (key_of bytes) a.pairs (bytes p.0))
          → (k : K) × StopsAt T f old k pairs × Shrinks (key_of bytes) pairs (bytes k)
      retaining-stopped q pairs same (p, rest, at, shrinks) =
          let first : K × V = (q.pair.0, q.value) in
          let one = same-end First first p q.rest rest a.left q.left at in (
            q.pair.0,
            subst (StopsAt T f old q.pair.0) (sym (same ∙ (now-is q).0)) (r.stops q.pair.0 (first ∷ q.rest) (subst (λ qs. StopsAt T s.asks qs q.pair.0 (first ∷ q.rest)) (sym q.was) (false, q.value, a.asks, q.called, inl (refl, refl, refl)))),
            subst (λ ps. Shrinks (key_of bytes) ps (bytes q.pair.0)) (sym same) (subst (λ (x : K × V). Shrinks (key_of bytes) a.pairs (bytes x.0)) (sym one.0) shrinks),
          )

    -- the closure may be asked of the first
    pub callable-first : (s : Asking K V F) → Retaining Q f old s → (p : K × V) (rest : List (K × V)) → s.left ≡ p ∷ rest → Q s.asks p.0 p.1
    callable-first s r p rest at = r.callable.at [] rest s.asks p.0 p.1 at refl

    -- where none is left, those are retained that the map has
    pub retained-all : (s : Asking K V F) → Retaining Q f old s → s.left ≡ [] → RetainsPairs T f old s.pairs
    retained-all s r none =
        subst (RetainsPairs T f old) (sym (r.pairs_are ∙ ap (λ ps. r.kept ++ ps) none)) (r.retains [] (subst (λ qs. RetainsPairs T s.asks qs []) (sym none) refl))
