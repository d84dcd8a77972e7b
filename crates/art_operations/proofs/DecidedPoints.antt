-- Whether a point is a key's place in a shape can be decided. So where it is known that there is a proof, one is had.
use Rattle.std.proofs.Common.{◌≡◌, ◌≢◌, ◌⊎◌, ℕ, zero, suc, List, [], ◌∷◌, ◌++◌, length, take, drop, Option, Some, None, refl, sym, ap, ap₂, subst, ◌∙◌, inl, inr}
use Rattle.std.proofs.Math.Decide.{ℕ_discrete, map_dec}
use mathlib.Core.HLevel.{⊥_prop}
use mathlib.Core.Logic.{∥∥₁_elim}
use mathlib.Core.Logic.Dec.{and, not}
use Rattle.art_bytes.proofs.Common.{BeginsWith, begins_append}
use Rattle.art_nodes.proofs.Common.{child_at, Name}
use Rattle.art_arena.proofs.Common.{Frame, fill, plug, path_to, IsPlace, Shape, Branches, leaf_at, inner_at, no_branch, branch, join, name_of, children_at, IsUnder, Step, steps_of, steps_to, same_name_tells, at-root}
use Rattle.art_arena.proofs.shapes.EndWalks.{place_below}
use Rattle.art_operations.proofs.Terms.{PartAt, IsPoint, MeetsAt, InsertKind, InsertPoint, Parted}
use Rattle.art_operations.specs.declared.insert.point.InsertKind.TheVariants as kind

-- a decided fact that has a proof
pub decided : {A : Type 0} → Dec A → ∥ A ∥₁ → A
decided (yes a) some = a
decided (no n) some = absurd (∥∥₁_elim some ⊥_prop n)

-- decisions of what a place is made of

either : {A B : Type 0} → Dec A → Dec B → Dec (A ⊎ B)
either (yes a) d = yes (inl a)
either (no n) (yes b) = yes (inr b)
either (no n) (no m) = no (λ h. elim h [ inl a ↦ n a | inr b ↦ m b ])

none : {A : Type 0} (o : Option A) → Dec (o ≡ None)
none None = yes refl
none (Some x) = no (λ e. cc)

pub lists : {A : Type 0} → Discrete A → Discrete (List A)
lists d [] [] = yes refl
lists d [] (y ∷ ys) = no (λ e. cc)
lists d (x ∷ xs) [] = no (λ e. cc)
lists d (x ∷ xs) (y ∷ ys) = map_dec (λ p. ap₂ (λ z zs. z ∷ zs) p.0 p.1) (λ e. (cc, cc)) (and (d x y) (lists d xs ys))

pub names : Discrete Name
names m n = elim (same_name_tells m n) [ inl same ↦ yes same.1 | inr other ↦ no other.1 ]

pub steps : Discrete Step
steps s t =
    map_dec (λ p. ap₂ (λ n b. record { node = n; byte = b }) p.0 p.1) (λ e. (ap (λ (x : Step). x.node) e, ap (λ (x : Step). x.byte) e))
    (and (names s.node t.node) (ℕ_discrete s.byte t.byte))

pub begins : (front key : List ℕ) → Dec (BeginsWith front key)
begins [] key = yes (key, refl)
begins (a ∷ front) [] = no (λ h. let e = h.1 in cc)
begins (a ∷ front) (b ∷ key) = map_dec longer shorter (and (ℕ_discrete b a) (begins front key))
  where
    longer : (b ≡ a) × BeginsWith front key → BeginsWith (a ∷ front) (b ∷ key)
    longer (e, f) = (f.0, ap₂ (λ z zs. z ∷ zs) e f.1)

    shorter : BeginsWith (a ∷ front) (b ∷ key) → (b ≡ a) × BeginsWith front key
    shorter (rest, e) = let f : key ≡ front ++ rest = cc in (cc, (rest, f))

-- where two lists part

not-empty : (front : List ℕ) (x : ℕ) (rest : List ℕ) → [] ≡ front ++ x ∷ rest → ⊥
not-empty [] x rest e = cc
not-empty (y ∷ front) x rest e = cc

parted : (old new : List ℕ) (m a b : ℕ) → Dec (PartAt old new (record { matched = m; old_byte = a; new_byte = b }))
parted [] new m a b = no (λ h. not-empty h.front a h.old_rest h.old_is)
parted (x ∷ old) [] m a b = no (λ h. not-empty h.front b h.new_rest h.new_is)
parted (x ∷ old) (y ∷ new) zero a b = map_dec here there (and (ℕ_discrete x a) (and (ℕ_discrete y b) (not (ℕ_discrete a b))))
  where
    here : (x ≡ a) × ((y ≡ b) × (a ≢ b)) → PartAt (x ∷ old) (y ∷ new) (record { matched = zero; old_byte = a; new_byte = b })
    here (e, (f, d)) = record { front = []; old_rest = old; new_rest = new; len = refl; old_is = ap (λ z. z ∷ old) e; new_is = ap (λ z. z ∷ new) f; differs = d }

    at : (front r s : List ℕ) → length front ≡ zero → x ∷ old ≡ front ++ a ∷ r → y ∷ new ≡ front ++ b ∷ s → (x ≡ a) × (y ≡ b)
    at [] r s len e f = (cc, cc)
    at (z ∷ front) r s len e f = absurd (cc)

    there : PartAt (x ∷ old) (y ∷ new) (record { matched = zero; old_byte = a; new_byte = b }) → (x ≡ a) × ((y ≡ b) × (a ≢ b))
    there h = let same = at h.front h.old_rest h.new_rest h.len h.old_is h.new_is in (same.0, (same.1, h.differs))
parted (x ∷ old) (y ∷ new) (suc m) a b = map_dec longer shorter (and (ℕ_discrete x y) (parted old new m a b))
  where
    longer : (x ≡ y) × PartAt old new (record { matched = m; old_byte = a; new_byte = b }) → PartAt (x ∷ old) (y ∷ new) (record { matched = suc m; old_byte = a; new_byte = b })
    longer (e, h) = record {
      front = x ∷ h.front;
      old_rest = h.old_rest;
      new_rest = h.new_rest;
      len = ap suc h.len;
      old_is = ap (λ zs. x ∷ zs) h.old_is;
      new_is = ap₂ (λ z zs. z ∷ zs) (sym e) h.new_is;
      differs = h.differs;
    }

    at : (front r s : List ℕ) → length front ≡ suc m → x ∷ old ≡ front ++ a ∷ r → y ∷ new ≡ front ++ b ∷ s → a ≢ b → (x ≡ y) × PartAt old new (record { matched = m; old_byte = a; new_byte = b })
    at [] r s len e f d = absurd (cc)
    at (z ∷ front) r s len e f d =
        let same : x ≡ z = cc in
        let also : y ≡ z = cc in
        let l : length front ≡ m = cc in
        let o : old ≡ front ++ a ∷ r = cc in
        let n : new ≡ front ++ b ∷ s = cc in
        (same ∙ sym also, record { front = front; old_rest = r; new_rest = s; len = l; old_is = o; new_is = n; differs = d })

    shorter : PartAt (x ∷ old) (y ∷ new) (record { matched = suc m; old_byte = a; new_byte = b }) → (x ≡ y) × PartAt old new (record { matched = m; old_byte = a; new_byte = b })
    shorter h = at h.front h.old_rest h.new_rest h.len h.old_is h.new_is h.differs

parts : (old new : List ℕ) (p : Parted) → Dec (PartAt old new p)
parts old new p = parted old new p.matched p.old_byte p.new_byte

-- what is so of an inner node with this name, or of a leaf
module _ {K V : Type 0} where
  of-inner : (n name : Name) (prefix : List ℕ) (kids : Branches K V) (IsSo : List ℕ → Branches K V → Type 0) → Dec (IsSo prefix kids) → Dec ((p : List ℕ) × (f : Branches K V) × (inner_at n prefix kids ≡ inner_at name p f) × IsSo p f)
  of-inner n name prefix kids IsSo d = map_dec (λ h. (prefix, kids, ap (λ m. inner_at m prefix kids) h.0, h.1)) back (and (names n name) d)
    where
      back : (p : List ℕ) × (f : Branches K V) × (inner_at n prefix kids ≡ inner_at name p f) × IsSo p f → (n ≡ name) × IsSo prefix kids
      back (p, f, e, h) =
          let named : n ≡ name = cc in
          let same : prefix ≡ p = cc in
          let all : kids ≡ f = cc in
          (named, subst (λ q. IsSo q kids) (sym same) (subst (IsSo p) (sym all) h))

  of-leaf : (n slot : ℕ) (k : K) (v : V) (IsSo : K → Type 0) → Dec (IsSo k) → Dec ((j : K) × (u : V) × (leaf_at n k v ≡ leaf_at slot j u) × IsSo j)
  of-leaf n slot k v IsSo d = map_dec (λ h. (k, v, ap (λ m. leaf_at m k v) h.0, h.1)) back (and (ℕ_discrete n slot) d)
    where
      back : (j : K) × (u : V) × (leaf_at n k v ≡ leaf_at slot j u) × IsSo j → (n ≡ slot) × IsSo k
      back (j, u, e, h) =
          let named : n ≡ slot = cc in
          let same : k ≡ j = cc in
          (named, subst IsSo (sym same) h)

module _ {K V : Type 0} (bytes : K → List ℕ) (key : List ℕ) where
  -- what the key meets in a part
  meets : (path : List ℕ) (s : Shape K V) (k : InsertKind) → Dec (MeetsAt bytes key path s k)
  meets path (leaf_at n k v) (kind.MismatchPrefix name p) = no (λ h. let e = h.2 in absurd (cc))
  meets path (inner_at n prefix kids) (kind.MismatchPrefix name p) = of-inner n name prefix kids (λ q f. PartAt q (drop (length path) key) p) (parts prefix (drop (length path) key) p)
  meets path (leaf_at n k v) (kind.SplitLeaf slot p) =
      of-leaf n slot k v (λ j. PartAt (drop (length path) (bytes j)) (drop (length path) key) p) (parts (drop (length path) (bytes k)) (drop (length path) key) p)
  meets path (inner_at n prefix kids) (kind.SplitLeaf slot p) = no (λ h. let e = h.2 in absurd (cc))
  meets path (leaf_at n k v) (kind.IntoExisting name byte) = no (λ h. let e = h.2 in absurd (cc))
  meets path (inner_at n prefix kids) (kind.IntoExisting name byte) =
      map_dec (λ h. (h.0, h.1, h.2, h.3.0, h.3.1)) (λ h. (h.0, h.1, h.2, (h.3, h.4)))
      (of-inner n name prefix kids (λ q f. (child_at (children_at f) byte ≡ None) × BeginsWith ((path ++ q) ++ byte ∷ []) key)
      (and (none (child_at (children_at kids) byte)) (begins ((path ++ prefix) ++ byte ∷ []) key)))
  meets path (leaf_at n k v) (kind.Exact slot) = of-leaf n slot k v (λ j. bytes j ≡ key) (lists ℕ_discrete (bytes k) key)
  meets path (inner_at n prefix kids) (kind.Exact slot) = no (λ h. let e = h.2 in absurd (cc))

-- a place to which the key leads

module _ {K V : Type 0} (bytes : K → List ℕ) (key : List ℕ) (IsHere : List Step → List ℕ → Shape K V → Type 0) (here : (above : List Step) (path : List ℕ) (s : Shape K V) → Dec (IsHere above path s)) where
  -- what is looked for is here, or it lies below a branch whose byte the key has
  abbrev mutual
    pub LiesBelow : List Step → List ℕ → Shape K V → Type 0
    LiesBelow above path (leaf_at n j v) = IsHere above path (leaf_at n j v)
    LiesBelow above path (inner_at n prefix kids) = IsHere above path (inner_at n prefix kids) ⊎ IsInBranches above n (path ++ prefix) kids

    pub IsInBranches : List Step → Name → List ℕ → Branches K V → Type 0
    IsInBranches above n path no_branch = ⊥
    IsInBranches above n path (branch byte s rest) =
        (BeginsWith (path ++ byte ∷ []) key × LiesBelow (record { node = n; byte = byte } ∷ above) (path ++ byte ∷ []) s)
        ⊎ IsInBranches above n path rest

  mutual
    pub below : (above : List Step) (path : List ℕ) (s : Shape K V) → Dec (LiesBelow above path s)
    below above path (leaf_at n j v) = here above path (leaf_at n j v)
    below above path (inner_at n prefix kids) = either (here above path (inner_at n prefix kids)) (among above n (path ++ prefix) kids)

    among : (above : List Step) (n : Name) (path : List ℕ) (kids : Branches K V) → Dec (IsInBranches above n path kids)
    among above n path no_branch = no (λ h. h)
    among above n path (branch byte s rest) =
        either (and (begins (path ++ byte ∷ []) key) (below (record { node = n; byte = byte } ∷ above) (path ++ byte ∷ []) s)) (among above n path rest)

  pub at-here : (above : List Step) (path : List ℕ) (s : Shape K V) → IsHere above path s → LiesBelow above path s
  at-here above path (leaf_at n j v) h = h
  at-here above path (inner_at n prefix kids) h = inl h

  -- from the place up to the root
  pub outward : (ctx : List (Frame K V)) (part : Shape K V) → BeginsWith (path_to ctx) key → LiesBelow (steps_to ctx) (path_to ctx) part → LiesBelow [] [] (plug ctx part)
  outward [] part on h = h
  outward (f ∷ outer) part on h =
      outward outer (fill f part) (begins_append (path_to outer) f.prefix key (begins_append (path_to outer ++ f.prefix) (f.byte ∷ []) key on)) (inr (past f.before))
    where
      past : (before : Branches K V) → IsInBranches (steps_to outer) f.name (path_to outer ++ f.prefix) (join before (branch f.byte part f.after))
      past no_branch = inl (on, h)
      past (branch b t rest) = inr (past rest)

  module _ (whole : Shape K V) where
    pub record StandsBelow : Type 0 where
      pub ctx : List (Frame K V)
      pub part : Shape K V
      pub place : IsPlace bytes whole ctx part
      pub on : BeginsWith (path_to ctx) key
      pub is : IsHere (steps_to ctx) (path_to ctx) part

    -- and from the root down to it
    mutual
      pub inward : (ctx : List (Frame K V)) (part : Shape K V) → IsPlace bytes whole ctx part → BeginsWith (path_to ctx) key → LiesBelow (steps_to ctx) (path_to ctx) part → StandsBelow
      inward ctx (leaf_at n j v) place on h = record { ctx = ctx; part = leaf_at n j v; place = place; on = on; is = h }
      inward ctx (inner_at n prefix kids) place on (inl h) = record { ctx = ctx; part = inner_at n prefix kids; place = place; on = on; is = h }
      inward ctx (inner_at n prefix kids) place on (inr h) = inward-in ctx n prefix kids place kids (λ before b t after e. (before, e)) h

      inward-in : (ctx : List (Frame K V)) (n : Name) (prefix : List ℕ) (kids : Branches K V) → IsPlace bytes whole ctx (inner_at n prefix kids) → (rest : Branches K V)
          → ((before : Branches K V) (b : ℕ) (t : Shape K V) (after : Branches K V) → rest ≡ join before (branch b t after) → (front : Branches K V) × (kids ≡ join front (branch b t after)))
          → IsInBranches (steps_to ctx) n (path_to ctx ++ prefix) rest → StandsBelow
      inward-in ctx n prefix kids place no_branch split h = absurd h
      inward-in ctx n prefix kids place (branch b t rest) split (inl h) =
          let at = split no_branch b t rest refl in inward _ t (place_below bytes whole ctx n prefix kids at.0 b t rest place at.1) h.0 h.1
      inward-in ctx n prefix kids place (branch b t rest) split (inr h) = inward-in ctx n prefix kids place rest (λ before c u after e. split (branch b t before) c u after (ap (branch b t) e)) h

module _ {K V : Type 0} (bytes : K → List ℕ) (key : List ℕ) where
  module _ (last : List Step) (depth : ℕ) (k : InsertKind) where
    -- the place is that of the part to which these steps lead, by this path
    abbrev IsHere : List Step → List ℕ → Shape K V → Type 0
    IsHere above path s = (take 2 above ≡ last) × ((length path ≡ depth) × MeetsAt bytes key path s k)

    here : (above : List Step) (path : List ℕ) (s : Shape K V) → Dec (IsHere above path s)
    here above path s = and (lists steps (take 2 above) last) (and (ℕ_discrete (length path) depth) (meets bytes key path s k))

  -- whether the point is the key's place
  pub is-point : (s : Shape K V) → IsUnder bytes [] s → (point : InsertPoint) → Dec (IsPoint bytes key s point)
  is-point s under point = map_dec there back (and (names (name_of s) point.root) (below bytes key (IsHere last depth k) (here last depth k) [] [] s))
    where
      last : List Step
      last = steps_of point.path

      depth : ℕ
      depth = point.key_bytes_used

      k : InsertKind
      k = point.insert_kind

      there : (name_of s ≡ point.root) × LiesBelow bytes key (IsHere last depth k) (here last depth k) [] [] s → IsPoint bytes key s point
      there (named, h) =
          let at = inward bytes key (IsHere last depth k) (here last depth k) s [] s (at-root bytes s under) (key, refl) h in
          record {
            named = named;
            ctx = at.ctx;
            part = at.part;
            toward = record { place = at.place; steps = at.is.0; depth_is = at.is.1.0; begins = at.on };
            meets = at.is.1.1;
          }

      back : IsPoint bytes key s point → (name_of s ≡ point.root) × LiesBelow bytes key (IsHere last depth k) (here last depth k) [] [] s
      back p = (
        p.named,
        subst (LiesBelow bytes key (IsHere last depth k) (here last depth k) [] []) (sym p.toward.place.is)
            (outward bytes key (IsHere last depth k) (here last depth k) p.ctx p.part p.toward.begins (at-here bytes key (IsHere last depth k) (here last depth k) (steps_to p.ctx) (path_to p.ctx) p.part (p.toward.steps, (p.toward.depth_is, p.meets)))),
      )
