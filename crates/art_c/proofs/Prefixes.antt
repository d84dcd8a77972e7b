-- The pairs whose keys begin with a prefix, and those of them that were taken out so far.
use Rattle.std.proofs.Common.{◌≡◌, ℕ, ◌+◌, ◌<◌, Bool, true, false, List, [], ◌∷◌, ◌++◌, length, Some, refl, sym, ap, ap₂, subst, ◌∙◌, inl, inr, arith, eqb-true, eq-eqb, ne_eqb, le-ltb}
use Rattle.std.specs.List.{AllByRecursion}
use Rattle.std.specs.Ordering.{is_le}
use Rattle.std.specs.declared.ops.Bound.TheVariants.{Included, Unbounded}
use Rattle.std.proofs.lemmas.Bool.{and_parts, cases_order}
use Rattle.std.proofs.Math.ListN.{set}
use Rattle.art_bytes.proofs.Common.{IsBefore, bytes_cmp, before_trans, front_not_before}
use Rattle.art_arena.proofs.Common.{key_of, AscendsByKey, begins_with, with_front, begins_true}
use Rattle.art_arena.specs.tree.Shrinks.{Shrinks}
use Rattle.art_map.proofs.Common.{first_item, pairs_between}
use Rattle.art_operations.proofs.Common.{without_key}
use Rattle.art_c.specs.Calls.{whole}
use Rattle.art_c.specs.Handles.{Pairs}
use Rattle.art_c.specs.Prefixes.{AreFirstTaken, IsNextWith, without_keys}
use Rattle.art_c.specs.Spans.{while_so}
use Rattle.art_c.specs.declared.code.Code.TheVariants.{NoMemory}
use Rattle.art_c.proofs.Walks.{ToldOut, one-told}

-- a key that begins with another is not below it
not-below : (k l : List ℕ) → begins_with k l ≡ true → is_le (bytes_cmp k l) ≡ true
not-below [] [] e = refl
not-below [] (b ∷ l) e = refl
not-below (a ∷ k) [] e = absurd (cc)
not-below (a ∷ k) (b ∷ l) e =
    let parts = and_parts _ _ e in
    let same = eqb-true a b parts.0 in
    let n = le-ltb a b (omega (arith, same)) in
    rw (n, parts.0) (not-below k l parts.1)

-- one that is not below it and does not begin with it diverges from it
diverges : (k l : List ℕ) → is_le (bytes_cmp k l) ≡ true → begins_with k l ≡ false → IsBefore k l
diverges [] l low out = absurd (cc)
diverges (a ∷ k) [] low out = absurd (cc)
diverges (a ∷ k) (b ∷ l) low out =
    let rest = diverges k l in
    elim (cases_order a b) [
      | inl f ↦
          let c = le-ltb a b (omega arith) in let d = eq-eqb a b f in
          let deeper : is_le (bytes_cmp k l) ≡ true = rw (c, d) at low in
          let other : begins_with k l ≡ false = rw d at out in
          inr (f, rest deeper other)
      | inr (inl h) ↦ inl h
      | inr (inr h) ↦
          let c = le-ltb a b (omega arith) in
          let d = ne_eqb a b (λ f. omega arith) in
          let g : false ≡ true = rw (c, d) at low in absurd (cc)
    ]

module _ (prefix : List ℕ) where
  -- and then none above it does
  none-above : (k l : List ℕ) → is_le (bytes_cmp prefix k) ≡ true → begins_with prefix k ≡ false → IsBefore k l
      → (b : Bool) → begins_with prefix l ≡ b → b ≡ false
  none-above k l low out less true e =
      absurd (front_not_before prefix l (begins_true prefix l e) (before_trans prefix k l (diverges prefix k low out) less))
  none-above k l low out less false e = refl

  -- the test that a pair's key begins with it
  abbrev pub has-it : List ℕ × ℕ → Bool
  has-it p = begins_with prefix p.0

  none-after : (p : List ℕ × ℕ) (ps : Pairs ℕ) → is_le (bytes_cmp prefix p.0) ≡ true → has-it p ≡ false
      → AllByRecursion (λ (q : List ℕ × ℕ). IsBefore p.0 q.0) ps → with_front (key_of whole) prefix ps ≡ []
  none-after p [] low out up = refl
  none-after p (q ∷ qs) low out up =
      let no : has-it q ≡ false = none-above p.0 q.0 low out up.0 (has-it q) refl in
      rw no (none-after p qs low out up.1)

  -- from the prefix on, the first keys are those that begin with it
  pub first-have : (ps : Pairs ℕ) → AscendsByKey (key_of whole) ps
      → while_so has-it (pairs_between whole (Included prefix) Unbounded ps) ≡ with_front (key_of whole) prefix ps
  first-have [] up = refl
  first-have (p ∷ ps) up = step (is_le (bytes_cmp prefix p.0)) refl (has-it p) refl (first-have ps up.1)
    where
      step : (b : Bool) → is_le (bytes_cmp prefix p.0) ≡ b → (c : Bool) → has-it p ≡ c
          → while_so has-it (pairs_between whole (Included prefix) Unbounded ps) ≡ with_front (key_of whole) prefix ps
          → while_so has-it (pairs_between whole (Included prefix) Unbounded (p ∷ ps)) ≡ with_front (key_of whole) prefix (p ∷ ps)
      step true low true has rest = rw (low, has) (ap (λ qs. p ∷ qs) rest)
      step true low false out rest = rw (low, out) (sym (none-after p ps low out up.0))
      step false high true has rest = let low = not-below prefix p.0 has in absurd (cc)
      step false high false out rest = rw (high, out) rest

  -- what the next pair tells
  pub next-told : (left : Pairs ℕ) (p : List ℕ × ℕ) (r : Bool) → Some p ≡ first_item left → r ≡ has-it p → IsNextWith prefix left r
  next-told [] p r e is = absurd (cc)
  next-told (q ∷ left) p r e is = is ∙ ap has-it (same p q e)
    where
      same : (p q : List ℕ × ℕ) → Some p ≡ Some q → p ≡ q
      same p q e = cc

  next-is : (left : Pairs ℕ) (b : Bool) (p : List ℕ × ℕ) (rest : Pairs ℕ) → b ≡ true → IsNextWith prefix left b → left ≡ p ∷ rest
      → while_so has-it left ≡ p ∷ while_so has-it rest
  next-is [] b p rest on e is = absurd (cc)
  next-is (q ∷ left) b p rest on e is =
      let same : q ≡ p = cc in let others : left ≡ rest = cc in
      let so : has-it q ≡ true = sym e ∙ on in
      rw so (ap₂ (λ x xs. x ∷ while_so has-it xs) same others)

  -- one more pair is gone
  without-more : (ps : Pairs ℕ) (p : List ℕ × ℕ) (old : Pairs ℕ)
      → without_keys (ps ++ p ∷ []) old ≡ without_key (key_of whole) p.0 (without_keys ps old)
  without-more [] p old = refl
  without-more (q ∷ ps) p old = without-more ps p (without_key (key_of whole) q.0 old)

  -- of the pairs of a map these are left to be taken, and the others of those with the prefix are gone
  module _ (first old : Pairs ℕ) (x : List ℕ) where
    pub record TakenOut (left now : Pairs ℕ) (words : List ℕ) (count : ℕ) : Type 0 where
      pub out : ToldOut (λ p. p.1) (while_so has-it first) x (while_so has-it left) words count
      pub gone : now ≡ without_keys out.given old

    pub none-taken : TakenOut first old x 0
    none-taken = record {
      out = record { given = []; are = refl; items_are = refl; count_is = refl; fit = omega arith };
      gone = refl;
    }

    module _ {left now : Pairs ℕ} {words : List ℕ} {count : ℕ} (c : TakenOut left now words count) (b : Bool) (e : IsNextWith prefix left b) where
      pub one-taken : (p : List ℕ × ℕ) (rest new : Pairs ℕ) (told : List ℕ) → b ≡ true → left ≡ p ∷ rest → count < length words
          → new ≡ without_key (key_of whole) p.0 now → told ≡ set words count p.1 → TakenOut rest new told (count + 1)
      unfolding one-told
      one-taken p rest new told on is place less put = record {
        out = one-told (λ p. p.1) (while_so has-it first) x c.out p (while_so has-it rest) told (next-is left b p rest on e is) place put;
        gone = less ∙ ap (without_key (key_of whole) p.0) c.gone ∙ sym (without-more c.out.given p old);
      }

      -- it ends where there is no memory
      pub take-refused : (p : List ℕ × ℕ) (rest new : Pairs ℕ) → b ≡ true → left ≡ p ∷ rest → new ≡ now
          → Shrinks (key_of whole) now p.0 → AreFirstTaken prefix first old x (count, NoMemory) new words
      take-refused p rest new on is same shrinks = (
        c.out.given,
        p ∷ while_so has-it rest,
        c.out.are ∙ ap (λ ps. c.out.given ++ ps) (next-is left b p rest on e is),
        c.out.fit,
        same ∙ c.gone,
        c.out.items_are,
        c.out.count_is,
        inr (subst (λ ps. Shrinks (key_of whole) ps p.0) (sym same) shrinks, refl),
      )
