-- What is read in place is what stands after a word, by its shape.
use Rattle.std.proofs.Common.{◌≡◌, ℕ, List, [], ◌∷◌, refl, ap, sym, subst, ◌∙◌, true, false, Bool, Some, None, Option, inl, inr}
use Rattle.std.specs.Prelude.{option_copied, option_map}
use Rattle.std.specs.Borrow.{Bor}
use Rattle.art_lines.proofs.Terms.{AllInPlace, Fields, Shape, Nothing, fields_of, one_in, two_in, tenant_alone_in, fields_in, command_by, ◌>>=◌, fields_after, HasNoFirst, IsRead, FieldsFor, Row, row, shape_in, made_in, row_of_word, shape_of, fields_in_place, command_of_row, command_with}
use Rattle.art_lines.specs.declared.command.word.Word.{Word}
use Rattle.art_lines.specs.Reading.{tenant_in}
use Rattle.art_lines.proofs.LastField.{ReadsOneField, one_or_more, no_tenant}
use Rattle.art_lines.proofs.Parsing.{fields_some}

-- what is in place, field by field
pub tenant_kept : {a b : AllInPlace} → a ≡ b → a.tenant ≡ b.tenant
tenant_kept = ap (λ (f : AllInPlace). f.tenant)

pub key_kept : {a b : AllInPlace} → a ≡ b → a.key ≡ b.key
key_kept = ap (λ (f : AllInPlace). f.key)

pub number_kept : {a b : AllInPlace} → a ≡ b → a.number ≡ b.number
number_kept = ap (λ (f : AllInPlace). f.number)

-- the parts of each shape, from those of its fields
abbrev pub one_from : {A : Type 0} → Option ℕ → Option A → Option (ℕ × A)
one_from o p = do
  tenant ← o
  a ← p
  Some (tenant, a)

abbrev pub two_from : {A B : Type 0} → Option ℕ → Option A → Option B → Option (ℕ × A × B)
two_from o p q = do
  tenant ← o
  a ← p
  b ← q
  Some (tenant, a, b)

-- the last field may be all that stands after the one before
one_last : {A : Type 0} (read : List ℕ → Option A) → ReadsOneField read → (t k : List ℕ) → one_in read (t ∷ k ∷ []) ≡ one_in read (t ∷ fields_of k)
one_last {A} read stops t k = elim (one_or_more k) [
  | inl one ↦ ap (λ l. one_in read (t ∷ l)) (sym one)
  | inr more ↦ nothing (tenant_in t) (read k) (stops k more.0 more.1 more.2 more.3) ∙ ap (λ l. one_in read (t ∷ l)) (sym more.3)
]
  where
    nothing : (o : Option ℕ) (p : Option A) → p ≡ None → one_from o p ≡ None
    nothing None p h = refl
    nothing (Some n) p h = rw h refl

two_last : {A B : Type 0} (read : List ℕ → Option A) (then_read : List ℕ → Option B) → ReadsOneField then_read → (t k v : List ℕ)
    → two_in read then_read (t ∷ k ∷ v ∷ []) ≡ two_in read then_read (t ∷ k ∷ fields_of v)
two_last {A} {B} read then_read stops t k v = elim (one_or_more v) [
  | inl one ↦ ap (λ l. two_in read then_read (t ∷ k ∷ l)) (sym one)
  | inr more ↦ nothing (tenant_in t) (read k) (then_read v) (stops v more.0 more.1 more.2 more.3) ∙ ap (λ l. two_in read then_read (t ∷ k ∷ l)) (sym more.3)
]
  where
    nothing : (o : Option ℕ) (p : Option A) (q : Option B) → q ≡ None → two_from o p q ≡ None
    nothing (Some n) (Some a) q h = rw h refl
    nothing o p q h = refl

-- where no tenant stands first, nothing is read; nor where nothing of the kind stands second, or nothing at all
no_tenant_and : {A : Type 0} (o : Option ℕ) (p : Option A) → None ≡ o → None ≡ one_from o p
no_tenant_and None p h = refl
no_tenant_and (Some n) p h = cc h

no_tenant_and_two : {A B : Type 0} (o : Option ℕ) (p : Option A) (q : Option B) → None ≡ o → None ≡ two_from o p q
no_tenant_and_two None p q h = refl
no_tenant_and_two (Some n) p q h = cc h

no_second_and : {A B : Type 0} (o : Option ℕ) (p : Option A) (q : Option B) → None ≡ p → None ≡ two_from o p q
no_second_and None p q h = refl
no_second_and (Some n) None q h = refl
no_second_and (Some n) (Some a) q h = cc h

pub none_first : {A : Type 0} (text : List ℕ) (read : List ℕ → Option A) → HasNoFirst tenant_in text → None ≡ one_in read (fields_of text)
none_first {A} text read h = go (fields_of text) refl
  where
    go : (l : List (List ℕ)) → fields_of text ≡ l → None ≡ one_in read l
    go [] e = refl
    go (t ∷ []) e = refl
    go (t ∷ k ∷ []) e = no_tenant_and (tenant_in t) (read k) (h t k [] e)
    go (t ∷ k ∷ j ∷ l) e = refl

pub none_first_of_two : {A B : Type 0} (text : List ℕ) (read : List ℕ → Option A) (then_read : List ℕ → Option B) → HasNoFirst tenant_in text → None ≡ two_in read then_read (fields_of text)
none_first_of_two {A} {B} text read then_read h = go (fields_of text) refl
  where
    go : (l : List (List ℕ)) → fields_of text ≡ l → None ≡ two_in read then_read l
    go [] e = refl
    go (t ∷ []) e = refl
    go (t ∷ k ∷ []) e = refl
    go (t ∷ k ∷ v ∷ []) e = no_tenant_and_two (tenant_in t) (read k) (then_read v) (h t k (v ∷ []) e)
    go (t ∷ k ∷ v ∷ j ∷ l) e = refl

pub none_second : {A B : Type 0} (text t rest : List ℕ) (read : List ℕ → Option A) (then_read : List ℕ → Option B) → fields_of text ≡ t ∷ fields_of rest
    → HasNoFirst read rest → None ≡ two_in read then_read (fields_of text)
none_second {A} {B} text t rest read then_read split h = rw split (go (fields_of rest) refl)
  where
    go : (l : List (List ℕ)) → fields_of rest ≡ l → None ≡ two_in read then_read (t ∷ l)
    go [] e = refl
    go (k ∷ []) e = refl
    go (k ∷ v ∷ []) e = no_second_and (tenant_in t) (read k) (then_read v) (h k v [] e)
    go (k ∷ v ∷ j ∷ l) e = refl

pub one_second : {A B : Type 0} (text t rest : List ℕ) (read : List ℕ → Option A) (then_read : List ℕ → Option B) → fields_of text ≡ t ∷ fields_of rest
    → fields_of rest ≡ rest ∷ [] → None ≡ two_in read then_read (fields_of text)
one_second text t rest read then_read split one = rw split (rw one refl)

-- one after the tenant, from its two fields, where the tenant stays as it is while the other is read
module _ (text t k : List ℕ) (split : fields_of text ≡ t ∷ fields_of k) {A : Type 0} (read : List ℕ → Option A) (stops : ReadsOneField read) where
  one_fields : one_in read (t ∷ k ∷ []) ≡ one_in read (fields_of text)
  one_fields = one_last read stops t k ∙ ap (one_in read) (sym split)

  pub one_read : (b d : Bool) (n m : ℕ) (a : A) → IsRead b n (tenant_in t) → b ≡ true → m ≡ n → IsRead d a (read k) → IsRead d (m, a) (one_in read (fields_of text))
  one_read b d n m a h e same last = rw (← one_fields) (go b d (tenant_in t) (read k) h e last)
    where
      go : (b d : Bool) (o : Option ℕ) (p : Option A) → IsRead b n o → b ≡ true → IsRead d a p → IsRead d (m, a) (one_from o p)
      go true true (Some i) (Some j) h e last = let one : m ≡ i = cc in let two : a ≡ j = cc in rw (one, two) refl
      go true false (Some i) None h e last = refl
      go b d o p h e last = cc

-- two after the tenant, from three fields
module _ (text t k v : List ℕ) (split : fields_of text ≡ t ∷ k ∷ fields_of v) {A B : Type 0} (read : List ℕ → Option A) (then_read : List ℕ → Option B) (stops : ReadsOneField then_read) where
  two_fields : two_in read then_read (t ∷ k ∷ v ∷ []) ≡ two_in read then_read (fields_of text)
  two_fields = two_last read then_read stops t k v ∙ ap (two_in read then_read) (sym split)

  pub middle_not_read : (b : Bool) (a : A) → IsRead b a (read k) → b ≡ false → None ≡ two_in read then_read (fields_of text)
  middle_not_read b a h e = go b (tenant_in t) (read k) h e ∙ two_fields
    where
      go : (b : Bool) (o : Option ℕ) (p : Option A) → IsRead b a p → b ≡ false → None ≡ two_from o p (then_read v)
      go true (Some n) (Some m) h e = cc
      go false (Some n) (Some m) h e = cc
      go b o p h e = refl

  pub two_read : (a b d : Bool) (n m : ℕ) (key old : A) (value : B) → IsRead a n (tenant_in t) → a ≡ true → IsRead b old (read k) → b ≡ true
      → m ≡ n → key ≡ old → IsRead d value (then_read v) → IsRead d (m, key, value) (two_in read then_read (fields_of text))
  two_read a b d n m key old value h e i f same kept last = rw (← two_fields) (go a b d (tenant_in t) (read k) (then_read v) h e i f last)
    where
      go : (a b d : Bool) (o : Option ℕ) (p : Option A) (q : Option B) → IsRead a n o → a ≡ true → IsRead b old p → b ≡ true → IsRead d value q
          → IsRead d (m, key, value) (two_from o p q)
      go true true true (Some x) (Some y) (Some z) h e i f last = let one : m ≡ x = cc in let two : key ≡ y = cc in let three : value ≡ z = cc in rw (one, two, three) refl
      go true true false (Some x) (Some y) None h e i f last = refl
      go a b d o p q h e i f last = cc

-- a tenant alone may be all that stands after the word
pub alone_read : (text : List ℕ) (b : Bool) (n : ℕ) → IsRead b n (tenant_in text) → IsRead b n (tenant_alone_in (fields_of text))
alone_read text b n h = subst (IsRead b n) (elim (one_or_more text) [
  | inl one ↦ ap tenant_alone_in (sym one)
  | inr more ↦ no_tenant text more.0 more.1 more.2 more.3 ∙ ap tenant_alone_in (sym more.3)
]) h

-- where nothing stands after a word, or something, what is read is that by the word's shape
pub nothing_after : (shape : Shape) (f : Fields) (rest : Option (Bor (List ℕ))) → rest ≡ None → shape ≡ Nothing
    → Some (fields_in_place shape f) ≡ fields_in shape (fields_after (option_copied rest))
nothing_after Nothing f rest none is = rw none refl
nothing_after shape f rest none is = cc

pub something_lacks : (shape : Shape) (rest : Option (Bor (List ℕ))) → rest ≡ None → (shape ≡ Nothing → ⊥) → None ≡ fields_in shape (fields_after (option_copied rest))
something_lacks Nothing rest none other = absurd (other refl)
something_lacks shape rest none other = rw none refl

pub by_shape : (shape known : Shape) (f : Fields) (b : Bool) (rest : Option (Bor (List ℕ))) (text : Bor (List ℕ)) → shape ≡ known → rest ≡ Some text
    → IsRead b (fields_in_place known f) (fields_in known (fields_of text.now)) → IsRead b (fields_in_place shape f) (fields_in shape (fields_after (option_copied rest)))
by_shape shape known f b rest text is some h =
    subst (λ s. IsRead b (fields_in_place s f) (fields_in s (fields_after (option_copied rest)))) (sym is)
    (subst (λ o. IsRead b (fields_in_place known f) (fields_in known (fields_after (option_copied o)))) (sym some) h)

pub too_much : (shape : Shape) (f : Fields) (rest : Option (Bor (List ℕ))) (text : Bor (List ℕ)) → shape ≡ Nothing → rest ≡ Some text
    → None ≡ fields_in shape (fields_after (option_copied rest))
too_much shape f rest text is some = by_shape shape Nothing f false rest text is some (let more = fields_some text.now in rw more.2 refl)

-- so the word's command is read
module _ (f : Fields) (b : Bool) (rest : List (List ℕ)) where
  row_read : (r : Row) → IsRead b (fields_in_place (shape_in r) f) (fields_in (shape_in r) rest) → IsRead b (command_of_row r f) (option_map (made_in r) (fields_in (shape_in r) rest))
  row_read (row shape make) h = made b (fields_in_place shape f) (fields_in shape rest) h
    where
      made : (b : Bool) (x : FieldsFor shape) (o : Option (FieldsFor shape)) → IsRead b x o → IsRead b (make x) (option_map make o)
      made true x o h = ap (option_map make) h
      made false x o h = ap (option_map make) h

  pub command_read : (w : Word) (shape : Shape) → shape ≡ shape_of w → IsRead b (fields_in_place shape f) (fields_in shape rest) → IsRead b (command_with w f) (command_by w rest)
  command_read w shape is h = row_read (row_of_word w) (subst (λ s. IsRead b (fields_in_place s f) (fields_in s rest)) is h)
