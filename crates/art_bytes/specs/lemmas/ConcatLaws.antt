-- Bytes put one after the other: what two parts keep, and lists of parts. Nothing here is a definition.
use Rattle.std.proofs.Common.{◌≡◌, ℕ, suc, ◌+◌, ◌*◌, ◌<◌, ◌≤◌, List, [], ◌∷◌, ◌++◌, length, take, drop, refl, sym, ap}
use Rattle.std.proofs.Common.{◌∙◌, arith, append_assoc, length-append, append-nil}
use Rattle.std.specs.List.{AllByRecursion, flat_map}
use Rattle.std.proofs.lemmas.Grind.{common_steps, flat_map-append}
use Rattle.std.proofs.lemmas.List.Elements.{All-append, All-nil}
use Rattle.std.specs.declared.cmp.Ordering.{Ordering}
use Rattle.std.specs.declared.cmp.Ordering.TheVariants.{Less, Equal, Greater}
use Rattle.std.specs.Ordering.{nat_cmp, ordering_then}
use Rattle.std.specs.Cmp.Lexicographic.{slice_cmp}
use Rattle.std.specs.Prelude.{Result, Ok, Err, OnErr, is_ok, if◌then◌else◌}
use Rattle.art_bytes.specs.Keys.{AppendsFrontOf, AreBytes, bytes_cmp}
use Rattle.art_bytes.specs.Mappings.{HaveFixedBytes}
use Rattle.art_bytes.specs.Lists.{HaveListBytes}

-- parts of one length that come first are equal, and so is what follows
pub split_same : (a b c d : List ℕ) → length a ≡ length b → a ++ c ≡ b ++ d → (a ≡ b) × (c ≡ d)
split_same [] [] c d e h = (refl, h)
split_same [] (y ∷ b) c d e h = absurd (omega arith)
split_same (x ∷ a) [] c d e h = absurd (omega arith)
split_same (x ∷ a) (y ∷ b) c d e h =
    let head : x ≡ y = cc in
    let tail : a ++ c ≡ b ++ d = cc in
    let short : length a ≡ length b = omega arith in
    let rest = split_same a b c d short tail in
    ((λ i. head i ∷ rest.0 i), rest.1)

then_then : (p q r : Ordering) → ordering_then (ordering_then p q) r ≡ ordering_then p (ordering_then q r)
then_then Less q r = refl
then_then Equal q r = refl
then_then Greater q r = refl

-- the parts that come first decide, and else what follows
pub bytes_cmp-append : (a b c d : List ℕ) → length a ≡ length b
    → bytes_cmp (a ++ c) (b ++ d) ≡ ordering_then (bytes_cmp a b) (bytes_cmp c d)
bytes_cmp-append [] [] c d e = refl
bytes_cmp-append [] (y ∷ b) c d e = absurd (omega arith)
bytes_cmp-append (x ∷ a) [] c d e = absurd (omega arith)
bytes_cmp-append (x ∷ a) (y ∷ b) c d e =
    ap (λ o. ordering_then (nat_cmp x y) o) (bytes_cmp-append a b c d (omega arith))
    ∙ sym (then_then (nat_cmp x y) (bytes_cmp a b) (bytes_cmp c d))

-- where an append of bytes fails, nothing is appended
pub failed_append : {T E : Type 0} (r : Result T E) (old new all bytes : List ℕ)
    → new ≡ (if is_ok r then old ++ all else old) → OnErr r (AppendsFrontOf bytes old new)
failed_append (Ok x) old new all bytes is = tt
failed_append (Err e) old new all bytes is = ([], (bytes, refl), is ∙ sym (append-nil old))

-- a front of the first part is one of both
pub first_front : (old new f g : List ℕ) → AppendsFrontOf f old new → AppendsFrontOf (f ++ g) old new
first_front old new f g some =
    (some.0, (some.1.0 ++ g, ap (λ b. b ++ g) some.1.1 ∙ append_assoc some.0 some.1.0 g), some.2)

-- and so is the first part with a front of the last
pub last_front : {T E : Type 0} (r : Result T E) (old mid new f g : List ℕ) → mid ≡ old ++ f
    → OnErr r (AppendsFrontOf g mid new) → OnErr r (AppendsFrontOf (f ++ g) old new)
last_front (Ok x) old mid new f g first fails = tt
last_front (Err e) old mid new f g first fails = (
  f ++ fails.0,
  (fails.1.0, ap (λ b. f ++ b) fails.1.1 ∙ sym (append_assoc f fails.0 fails.1.0)),
  fails.2 ∙ ap (λ b. b ++ fails.0) first ∙ append_assoc old f fails.0,
)

-- what is so holds of an error, too
pub on_err : {T E P : Type 0} (r : Result T E) → P → OnErr r P
on_err (Ok x) holds = tt
on_err (Err e) holds = holds

-- two parts, one after the other
pub pair_bytes : {V W : Type 0} (m n : ℕ) (P : V → Type 0) (Q : W → Type 0) (f : V → List ℕ) (g : W → List ℕ)
    (first : V → V → Ordering) (second : W → W → Ordering)
    → HaveFixedBytes m P f first → HaveFixedBytes n Q g second
    → HaveFixedBytes {V = V × W} (m + n) (λ p. P p.0 × Q p.1) (λ p. f p.0 ++ g p.1)
    (λ p q. ordering_then (first p.0 q.0) (second p.1 q.1))
pair_bytes {V} {W} m n P Q f g first second front back = record {
  positive = let h = front.positive in omega arith;
  long = λ p h. length-append (f p.0) (g p.1) ∙ ap (λ k. k + length (g p.1)) (front.long p.0 h.0)
      ∙ ap (λ k. m + k) (back.long p.1 h.1);
  fit = λ p h. All-append (λ b. b < 256) (f p.0) (g p.1) (front.fit p.0 h.0) (back.fit p.1 h.1);
  one_value = λ p q hp hq e.
      let parts = split_same (f p.0) (f q.0) (g p.1) (g q.1) (front.long p.0 hp.0 ∙ sym (front.long q.0 hq.0)) e in
      λ i. (front.one_value p.0 q.0 hp.0 hq.0 parts.0 i, back.one_value p.1 q.1 hp.1 hq.1 parts.1 i);
  ordered = λ p q hp hq.
      ap (λ o. ordering_then o (second p.1 q.1)) (front.ordered p.0 q.0 hp.0 hq.0)
      ∙ ap (ordering_then (bytes_cmp (f p.0) (f q.0))) (back.ordered p.1 q.1 hp.1 hq.1)
      ∙ sym (bytes_cmp-append (f p.0) (f q.0) (g p.1) (g q.1) (front.long p.0 hp.0 ∙ sym (front.long q.0 hq.0)));
}

-- the same values in another grouping have the same bytes
pub regrouped_bytes : {V N : Type 0} (group : V → N) (order : V → V → Ordering) (width : ℕ) (P : N → Type 0)
    (bytes_of : N → List ℕ) (cmp : N → N → Ordering)
    → ((v w : V) → group v ≡ group w → v ≡ w) → ((v w : V) → order v w ≡ cmp (group v) (group w))
    → HaveFixedBytes width P bytes_of cmp
    → HaveFixedBytes width (λ v. P (group v)) (λ v. bytes_of (group v)) order
regrouped_bytes group order width P bytes_of cmp same same_order laws = record {
  positive = laws.positive;
  long = λ v h. laws.long (group v) h;
  fit = λ v h. laws.fit (group v) h;
  one_value = λ v w hv hw e. same v w (laws.one_value (group v) (group w) hv hw e);
  ordered = λ v w hv hw. same_order v w ∙ laws.ordered (group v) (group w) hv hw;
}

all_append : {V : Type 0} (P : V → Type 0) (xs ys : List V) → AllByRecursion P xs → AllByRecursion P ys
    → AllByRecursion P (xs ++ ys)
all_append P [] ys h k = k
all_append P (x ∷ xs) ys h k = (h.0, all_append P xs ys h.1 k)

module _ {V : Type 0} (width : ℕ) (P : V → Type 0) (f : V → List ℕ) (cmp : V → V → Ordering)
    (laws : HaveFixedBytes width P f cmp) where
  pub length-list : (xs : List V) → AllByRecursion P xs → length (flat_map f xs) ≡ length xs * width
  length-list [] h = omega arith
  length-list (x ∷ xs) h =
      let tail = length-list xs h.1 in
      let head = laws.long x h.0 in
      length-append (f x) (flat_map f xs) ∙ ap (λ k. k + length (flat_map f xs)) head ∙ ap (λ k. width + k) tail
      ∙ one_more (length xs) width
    where
      one_more : (k w : ℕ) → w + k * w ≡ suc k * w
      one_more k w = grind arith

  pub AreBytes-list : (xs : List V) → AllByRecursion P xs → AreBytes (flat_map f xs)
  AreBytes-list [] h = All-nil (λ b. b < 256)
  AreBytes-list (x ∷ xs) h = All-append (λ b. b < 256) (f x) (flat_map f xs) (laws.fit x h.0) (AreBytes-list xs h.1)

  -- what a list's bytes have after those of other values are the bytes of the values after these
  pub cancel : (vs xs : List V) (rest : List ℕ) → AllByRecursion P vs → AllByRecursion P xs
      → flat_map f xs ≡ flat_map f vs ++ rest
      → (us : List V) × AllByRecursion P us × (flat_map f us ≡ rest) × (xs ≡ vs ++ us)
  cancel [] xs rest hv hx e = (xs, hx, e, refl)
  cancel (v ∷ vs) [] rest hv hx e =
      let head = laws.long v hv.0 in
      let whole = ap length e ∙ length-append (f v ++ flat_map f vs) rest in
      let front = length-append (f v) (flat_map f vs) in
      let some = laws.positive in
      absurd (omega arith)
  cancel (v ∷ vs) (x ∷ xs) rest hv hx e =
      let parts = split_same (f x) (f v) (flat_map f xs) (flat_map f vs ++ rest)
      (laws.long x hx.0 ∙ sym (laws.long v hv.0)) (e ∙ append_assoc (f v) (flat_map f vs) rest) in
      let found = cancel vs xs rest hv.1 hx.1 parts.1 in
      let same = laws.one_value x v hx.0 hv.0 parts.0 in
      (found.0, found.1, found.2, λ i. same i ∷ found.3 i)

  pub one_list : (xs ys : List V) → AllByRecursion P xs → AllByRecursion P ys → flat_map f xs ≡ flat_map f ys → xs ≡ ys
  one_list [] [] hx hy e = refl
  one_list [] (y ∷ ys) hx hy e =
      let head = laws.long y hy.0 in let whole = ap length e ∙ length-append (f y) (flat_map f ys) in
      let some = laws.positive in absurd (omega arith)
  one_list (x ∷ xs) [] hx hy e =
      let head = laws.long x hx.0 in let whole = ap length (sym e) ∙ length-append (f x) (flat_map f xs) in
      let some = laws.positive in absurd (omega arith)
  one_list (x ∷ xs) (y ∷ ys) hx hy e =
      let parts = split_same (f x) (f y) (flat_map f xs) (flat_map f ys)
      (laws.long x hx.0 ∙ sym (laws.long y hy.0)) e in
      λ i. laws.one_value x y hx.0 hy.0 parts.0 i ∷ one_list xs ys hx.1 hy.1 parts.1 i

  pub bytes_cmp-list : (xs ys : List V) → AllByRecursion P xs → AllByRecursion P ys
      → slice_cmp cmp xs ys ≡ bytes_cmp (flat_map f xs) (flat_map f ys)
  bytes_cmp-list [] [] hx hy = refl
  bytes_cmp-list [] (y ∷ ys) hx hy =
      let some = laws.positive in
      less (f y ++ flat_map f ys)
      (let head = laws.long y hy.0 in let e = length-append (f y) (flat_map f ys) in omega arith)
    where
      less : (bytes : List ℕ) → 0 < length bytes → Less ≡ bytes_cmp [] bytes
      less [] h = absurd (omega arith)
      less (b ∷ bytes) h = refl
  bytes_cmp-list (x ∷ xs) [] hx hy =
      let some = laws.positive in
      greater (f x ++ flat_map f xs)
      (let head = laws.long x hx.0 in let e = length-append (f x) (flat_map f xs) in omega arith)
    where
      greater : (bytes : List ℕ) → 0 < length bytes → Greater ≡ bytes_cmp bytes []
      greater [] h = absurd (omega arith)
      greater (b ∷ bytes) h = refl
  bytes_cmp-list (x ∷ xs) (y ∷ ys) hx hy =
      ap (λ o. ordering_then o (slice_cmp cmp xs ys)) (laws.ordered x y hx.0 hy.0)
      ∙ ap (ordering_then (bytes_cmp (f x) (f y))) (bytes_cmp-list xs ys hx.1 hy.1)
      ∙ sym (bytes_cmp-append (f x) (f y) (flat_map f xs) (flat_map f ys) (laws.long x hx.0 ∙ sym (laws.long y hy.0)))

  -- one value's bytes after those of others
  pub pushed : (vs : List V) (v : V) (bytes : List ℕ) → HaveListBytes P f vs bytes → P v
      → HaveListBytes P f (vs ++ v ∷ []) (bytes ++ f v)
  pushed vs v bytes h at_v = (
    all_append P vs (v ∷ []) h.0 (at_v, tt),
    ap (λ b. b ++ f v) h.1
        ∙ ap (λ b. flat_map f vs ++ b) (sym (append-nil (f v))) ∙ sym (flat_map-append f vs (v ∷ [])),
  )

  -- a loop over the parts: the values read so far, and the bytes that are left

  pub one_more : (vs : List V) (v : V) (bytes rest : List ℕ) → AllByRecursion P vs → P v → bytes ≡ flat_map f vs ++ rest
      → f v ≡ take width rest
      → AllByRecursion P (vs ++ v ∷ []) × (bytes ≡ flat_map f (vs ++ v ∷ []) ++ drop width rest)
  one_more vs v bytes rest hv h split e = (all_append P vs (v ∷ []) hv (h, tt), grind (arith, common_steps))

  -- the next bytes are no value's
  pub no_next : (vs : List V) (bytes rest : List ℕ) → AllByRecursion P vs → bytes ≡ flat_map f vs ++ rest
      → width ≤ length rest
      → (((v : V) × P v × (f v ≡ take width rest)) → ⊥) → ((xs : List V) × HaveListBytes P f xs bytes) → ⊥
  no_next vs bytes rest hv split room none (xs, (hx, e)) = by_rest (cancel vs xs rest hv hx (sym e ∙ split))
    where
      front : (a b : List ℕ) → length a ≡ width → take width (a ++ b) ≡ a
      front a b h = grind (arith, common_steps)

      by_rest : ((us : List V) × AllByRecursion P us × (flat_map f us ≡ rest) × (xs ≡ vs ++ us)) → ⊥
      by_rest ([], hu, e, _) = let l = ap length e in let some = laws.positive in omega arith
      by_rest (u ∷ us, hu, e, _) =
          let long = laws.long u hu.0 in
          none (u, hu.0, sym (ap (take width) (sym e) ∙ front (f u) (flat_map f us) long))

  -- bytes are left that are too few
  pub too_few : (vs : List V) (bytes rest : List ℕ) → AllByRecursion P vs → bytes ≡ flat_map f vs ++ rest
      → length rest < width → 0 < length rest
      → ((xs : List V) × HaveListBytes P f xs bytes) → ⊥
  too_few vs bytes rest hv split few some (xs, (hx, e)) = by_rest (cancel vs xs rest hv hx (sym e ∙ split))
    where
      by_rest : ((us : List V) × AllByRecursion P us × (flat_map f us ≡ rest) × (xs ≡ vs ++ us)) → ⊥
      by_rest ([], hu, e, _) = let l = ap length e in omega arith
      by_rest (u ∷ us, hu, e, _) =
          let long = laws.long u hu.0 in let l = ap length e in let j = length-append (f u) (flat_map f us) in
          omega arith
