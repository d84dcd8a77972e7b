-- The leaves that a range or a prefix takes stand together: what is before them and what is after them fails.
use Rattle.std.proofs.Common.{◌≡◌, ℕ, Bool, true, false, ◌==◌, not, eqb-true, List, [], ◌∷◌, ◌++◌, refl, sym, ap, subst, ◌∙◌, inl, inr, arith}
use Rattle.std.specs.List.{AllByRecursion}
use Rattle.std.specs.BTreeMap.Range.{is_from_start, is_past_end, range_contains}
use Rattle.std.specs.Ordering.{is_le, is_lt}
use Rattle.std.specs.declared.cmp.Ordering.{Ordering}
use Rattle.std.specs.declared.cmp.Ordering.TheVariants.{Less, Equal, Greater}
use Rattle.std.specs.declared.ops.Bound.{Bound}
use Rattle.std.specs.declared.ops.Bound.TheVariants.{Included, Excluded, Unbounded}
use Rattle.std.proofs.lemmas.Bool.{and_from, and_parts}
use Rattle.std.proofs.lemmas.Cmp.{nat_list_cmp_total}
use Rattle.art_bytes.proofs.Common.{IsBefore, bytes_cmp, before_cmp}
use Rattle.art_arena.proofs.Common.{passing, LeafAt, key_of, pairs_of, AscendsByKey, begins_with}

-- whatever stands between two keys that pass the test passes it too
abbrev pub IsConvex : (List ℕ → Bool) → Type 0
IsConvex test = (a b c : List ℕ) → IsBefore a b → IsBefore b c → test a ≡ true → test c ≡ true → test b ≡ true

module _ {K V : Type 0} (bytes : K → List ℕ) where
  -- the leaves ascend as their pairs do
  pub leaves_ascend : (ls : List (LeafAt K V)) → AscendsByKey (key_of bytes) (pairs_of ls) → AscendsByKey (λ (l : LeafAt K V). bytes l.key) ls
  leaves_ascend [] up = tt
  leaves_ascend (l ∷ ls) up = (unmapped ls up.0, leaves_ascend ls up.1)
    where
      unmapped : (rs : List (LeafAt K V)) → AllByRecursion (λ p. IsBefore (bytes l.key) (key_of bytes p)) (pairs_of rs) → AllByRecursion (λ (r : LeafAt K V). IsBefore (bytes l.key) (bytes r.key)) rs
      unmapped [] h = tt
      unmapped (r ∷ rs) h = (h.0, unmapped rs h.1)

  module _ (test : List ℕ → Bool) where
    -- the leaves that pass, between those before them and those after them
    pub record IsStretch (ls : List (LeafAt K V)) : Type 0 where
      pub front : List (LeafAt K V)
      pub back : List (LeafAt K V)
      pub parts : ls ≡ front ++ (passing bytes test ls ++ back)

    module _ (convex : IsConvex test) where
      -- after a leaf that fails, which is after one that passes, none passes
      none-after : (l r : LeafAt K V) (rs : List (LeafAt K V)) → test (bytes l.key) ≡ true → test (bytes r.key) ≡ false → IsBefore (bytes l.key) (bytes r.key)
          → AllByRecursion (λ (q : LeafAt K V). IsBefore (bytes r.key) (bytes q.key)) rs → passing bytes test rs ≡ []
      none-after l r [] on off before h = refl
      none-after l r (q ∷ qs) on off before h = here (test (bytes q.key)) refl (none-after l r qs on off before h.1)
        where
          here : (b : Bool) → test (bytes q.key) ≡ b → passing bytes test qs ≡ [] → passing bytes test (q ∷ qs) ≡ []
          here true t rest = let e = convex (bytes l.key) (bytes r.key) (bytes q.key) before h.0 on t in absurd (cc)
          here false t rest = rw t rest

      -- after a leaf that passes
      stretch-on : (l : LeafAt K V) (ls : List (LeafAt K V)) → test (bytes l.key) ≡ true → AscendsByKey (λ (m : LeafAt K V). bytes m.key) (l ∷ ls) → (back : List (LeafAt K V)) × (ls ≡ passing bytes test ls ++ back)
      stretch-on l [] on up = ([], refl)
      stretch-on l (r ∷ rs) on up = here (test (bytes r.key)) refl (λ t. stretch-on r rs t up.1)
        where
          here : (b : Bool) → test (bytes r.key) ≡ b → (test (bytes r.key) ≡ true → (back : List (LeafAt K V)) × (rs ≡ passing bytes test rs ++ back)) → (back : List (LeafAt K V)) × (r ∷ rs ≡ passing bytes test (r ∷ rs) ++ back)
          here true t rest = let e = rest t in (e.0, rw t (ap (λ xs. r ∷ xs) e.1))
          here false t rest = (r ∷ rs, rw t (ap (λ xs. xs ++ r ∷ rs) (sym (none-after l r rs on t up.0.0 up.1.0))))

      pub stretch : (ls : List (LeafAt K V)) → AscendsByKey (λ (l : LeafAt K V). bytes l.key) ls → IsStretch ls
      stretch [] up = record { front = []; back = []; parts = refl }
      stretch (l ∷ ls) up = here (test (bytes l.key)) refl (λ t. stretch-on l ls t up) (stretch ls up.1)
        where
          here : (b : Bool) → test (bytes l.key) ≡ b → (test (bytes l.key) ≡ true → (back : List (LeafAt K V)) × (ls ≡ passing bytes test ls ++ back)) → IsStretch ls → IsStretch (l ∷ ls)
          here true t rest later = let e = rest t in record { front = []; back = e.0; parts = rw t (ap (λ xs. l ∷ xs) e.1) }
          here false t rest later = record { front = l ∷ later.front; back = later.back; parts = rw t (ap (λ xs. l ∷ xs) later.parts) }

-- what is after a key that isn't below a bound's is above it
above_bound : (a k l : List ℕ) → is_le (bytes_cmp a k) ≡ true → IsBefore k l → bytes_cmp a l ≡ Less
above_bound a k l le h = here (bytes_cmp a k) refl
  where
    here : (o : Ordering) → bytes_cmp a k ≡ o → bytes_cmp a l ≡ Less
    here Less e = nat_list_cmp_total.trans a k l e (before_cmp k l h)
    here Equal e = nat_list_cmp_total.congr a k l e ∙ before_cmp k l h
    here Greater e = let f : is_le Greater ≡ true = sym (ap is_le e) ∙ le in absurd (cc)

less_le : (o : Ordering) → is_lt o ≡ true → is_le o ≡ true
less_le Less e = refl
less_le Equal e = absurd (cc)
less_le Greater e = absurd (cc)

pub from_later : (bound : Bound (List ℕ)) (k l : List ℕ) → IsBefore k l → is_from_start bytes_cmp bound k ≡ true → is_from_start bytes_cmp bound l ≡ true
from_later (Included a) k l h on = ap is_le (above_bound a k l on h)
from_later (Excluded a) k l h on = ap is_lt (above_bound a k l (less_le (bytes_cmp a k) on) h)
from_later Unbounded k l h on = refl

pub past_later : (bound : Bound (List ℕ)) (k l : List ℕ) → IsBefore k l → is_past_end bytes_cmp bound k ≡ true → is_past_end bytes_cmp bound l ≡ true
past_later (Included b) k l h on = ap is_lt (above_bound b k l (less_le (bytes_cmp b k) on) h)
past_later (Excluded b) k l h on = ap is_le (above_bound b k l on h)
past_later Unbounded k l h on = absurd (cc)

-- the test of a range, and that of a prefix
pub between_convex : (start end : Bound (List ℕ)) → IsConvex (λ k. range_contains bytes_cmp start end k)
between_convex start end a b c ab bc on_a on_c =
    and_from (is_from_start bytes_cmp start b) (not (is_past_end bytes_cmp end b))
    (from_later start a b ab (and_parts (is_from_start bytes_cmp start a) (not (is_past_end bytes_cmp end a)) on_a).0)
    (here (is_past_end bytes_cmp end b) refl)
  where
    here : (x : Bool) → is_past_end bytes_cmp end b ≡ x → not (is_past_end bytes_cmp end b) ≡ true
    here false e = ap not e
    here true e =
        let past = past_later end b c bc e in
        let f : not true ≡ true = sym (ap not past) ∙ (and_parts (is_from_start bytes_cmp start c) (not (is_past_end bytes_cmp end c)) on_c).1 in absurd (cc)

pub front_convex : (front : List ℕ) → IsConvex (λ k. begins_with front k)
front_convex [] a b c ab bc on_a on_c = refl
front_convex (x ∷ front) [] b c ab bc on_a on_c = absurd ab
front_convex (x ∷ front) (d ∷ a) [] c ab bc on_a on_c = absurd ab
front_convex (x ∷ front) (d ∷ a) (e ∷ b) [] ab bc on_a on_c = absurd bc
front_convex (x ∷ front) (d ∷ a) (e ∷ b) (f ∷ c) ab bc on_a on_c =
    let a_parts = and_parts (x == d) (begins_with front a) on_a in
    let c_parts = and_parts (x == f) (begins_with front c) on_c in
    here (eqb-true x d a_parts.0) (eqb-true x f c_parts.0) a_parts.0 (λ h i. front_convex front a b c h i a_parts.1 c_parts.1) ab bc
  where
    here : x ≡ d → x ≡ f → (x == d) ≡ true → (IsBefore a b → IsBefore b c → begins_with front b ≡ true) → IsBefore (d ∷ a) (e ∷ b) → IsBefore (e ∷ b) (f ∷ c) → begins_with (x ∷ front) (e ∷ b) ≡ true
    here xd xf met later (inl h) (inl i) = absurd (omega (arith, h, i, xd, xf))
    here xd xf met later (inl h) (inr i) = let s = i.0 in absurd (omega (arith, h, s, xd, xf))
    here xd xf met later (inr h) (inl i) = let s = h.0 in absurd (omega (arith, s, i, xd, xf))
    here xd xf met later (inr h) (inr i) = and_from (x == e) (begins_with front b) (subst (λ n. (x == n) ≡ true) h.0 met) (later h.1 i.1)
