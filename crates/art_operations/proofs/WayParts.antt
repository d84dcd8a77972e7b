-- Where a key's way by all its bytes ends, told of a place in the tree, and what is read from there.
use Rattle.std.proofs.Common.{◌≡◌, ◌≢◌, ℕ, suc, ◌+◌, ◌<◌, ◌≤◌, ◌||◌, nat_lt, bytes_eq, filter, inl, inr, if◌then◌else◌, Bool, true, false, List, [], ◌∷◌, ◌++◌, length, drop, Some, None, refl, sym, ap, subst, ◌∙◌, arith, append_assoc, eq-eqb, ne_eqb, lt-ltb, le-ltb}
use Rattle.std.proofs.lemmas.Bool.{cond-true, cond-false}
use Rattle.art_bytes.proofs.Common.{BeginsWith, Conflict}
use Rattle.art_nodes.proofs.Common.{child_at}
use Rattle.art_arena.proofs.Common.{AreAround, AreBelow, Shape, Branches, Frame, Tree, drop-front, fill, plug, path_to, join, branch, no_branch, inner_at, erase, erase_in, children_at, one_byte, is_before, IsPlace, LeafAt, key_of, leaves, leaves_after, leaves_before}
use Rattle.art_arena.proofs.Common.{leaves-plug, items, items-erase, some_leaf, all_left, all_right, pairs_of, passing, begins_with, begins_true, begins_false, bytes_from_same}
use Rattle.art_arena.proofs.tree.Distinct.{same_bytes}
use Rattle.art_arena.specs.declared.ends.End.TheVariants.{First, Last}
use Rattle.art_arena.proofs.Terms.{Stops, differs, ends, end_path, pass, passes, way_end, way_of}
use Rattle.art_arena.proofs.shapes.WayReads.{pass_on, way-goes, way-stops}
use Rattle.art_arena.specs.tree.Trees as tree
use Rattle.art_operations.proofs.Terms.{AllConflict, EndsInside, IsPoint, NoConflict, MeetsAt, PartAt, Parted, InsertKind, InsertPoint, beside_reads, ends_reads, first_above, near_reads}
use Rattle.art_operations.specs.declared.insert.point.InsertKind.TheVariants as kind

-- a key that is a front of the prefix ends within it, or with it
pub pass_ends : (prefix k : List ℕ) → BeginsWith k prefix → pass prefix k ≡ ends
pass_ends [] [] h = refl
pass_ends (a ∷ prefix) [] h = refl
pass_ends [] (b ∷ k) (x, e) = absurd (cc)
pass_ends (a ∷ prefix) (b ∷ k) (x, e) =
    let same : a ≡ b = cc in
    let rest : prefix ≡ k ++ x = cc in
    cond-true _ _ _ (eq-eqb a b same) ∙ pass_ends prefix k (x, rest)

-- one that has another byte there differs
pass_differs : (front old new : List ℕ) (a b : ℕ) → a ≢ b → pass (front ++ a ∷ old) (front ++ b ∷ new) ≡ differs
pass_differs [] old new a b apart = cond-false _ _ _ (ne_eqb a b apart)
pass_differs (c ∷ front) old new a b apart = cond-true _ _ _ (eq-eqb c c refl) ∙ pass_differs front old new a b apart

-- and comes before it where its byte does
or_false : (b : Bool) → (b || false) ≡ b
or_false true = refl
or_false false = refl

before_byte : (front old new : List ℕ) (a b : ℕ) → a ≢ b → is_before (front ++ b ∷ new) (front ++ a ∷ old) ≡ nat_lt b a
before_byte [] old new a b apart = let n = ne_eqb b a (λ e. apart (sym e)) in rw n (or_false (nat_lt b a))
before_byte (c ∷ front) old new a b apart = let n = le-ltb c c (omega arith) in let e = eq-eqb c c refl in rw (n, e) (before_byte front old new a b apart)

end_step : {Y : Type 0} (t u : Tree Y) (k r : List ℕ) → way_of t k ≡ (t, k) ∷ way_of u r → way_end t k ≡ way_end u r
end_step t (tree.leaf x) k r goes = rw goes refl
end_step t (tree.inner prefix children) k r goes = rw goes refl

end_here : {Y : Type 0} (t : Tree Y) (k : List ℕ) → way_of t k ≡ (t, k) ∷ [] → way_end t k ≡ (t, k)
end_here t k last = rw last refl

-- a way that ends inside a prefix ends there
pub inside_ends : {Y : Type 0} (t : Tree Y) (k : List ℕ) → EndsInside t k → way_end t k ≡ (t, k)
inside_ends (tree.leaf x) k inside = refl
inside_ends (tree.inner prefix children) k inside = rw inside refl

-- and the first leaf is beside the key's place
pub inside_near : {Y : Type 0} (t : Tree Y) (k : List ℕ) → EndsInside t k → near_reads (t, k) ≡ length (end_path First t)
inside_near (tree.leaf x) k inside = refl
inside_near (tree.inner prefix children) k inside = rw (near_reads, inside) refl

module _ {K V : Type 0} where
  -- the children above a byte
  pub above-some : (byte c : ℕ) (before : Branches K V) (here : Shape K V) (after : Branches K V) → AreBelow byte before → byte < c → first_above byte (erase_in (join before (branch c here after))) ≡ Some (erase here)
  above-some byte c no_branch here after below more = rw (lt-ltb byte c more) refl
  above-some byte c (branch b s before) here after below more = rw (le-ltb byte b (omega (arith, below.0))) (above-some byte c before here after below.1 more)

  pub above-none : (byte : ℕ) (before : Branches K V) → AreBelow byte before → first_above byte (erase_in (join before no_branch)) ≡ None
  above-none byte no_branch below = refl
  above-none byte (branch b s before) below = rw (le-ltb byte b (omega (arith, below.0))) (above-none byte before below.1)

module _ {K V : Type 0} (bytes : K → List ℕ) (key : List ℕ) where
  -- after the frames of a place the way goes on in the part that stands there
  way-below : (ctx : List (Frame K V)) (part : Shape K V) → AreAround bytes ctx → BeginsWith (path_to ctx) key → way_end (erase (plug ctx part)) key ≡ way_end (erase part) (drop (length (path_to ctx)) key)
  way-below [] part around begins = refl
  way-below (f ∷ outer) part around (more, e) =
      let above = path_to outer in
      let spelled : key ≡ above ++ (f.prefix ++ f.byte ∷ more) = e ∙ append_assoc (above ++ f.prefix) (f.byte ∷ []) more ∙ append_assoc above f.prefix (f.byte ∷ more) in
      let rest : drop (length above) key ≡ f.prefix ++ f.byte ∷ more = ap (drop (length above)) spelled ∙ drop-front above (f.prefix ++ f.byte ∷ more) in
      let last : drop (length (path_to (f ∷ outer))) key ≡ more = ap (drop (length (path_to (f ∷ outer)))) e ∙ drop-front (path_to (f ∷ outer)) more in
      way-below outer (fill f part) around.4 (f.prefix ++ f.byte ∷ more, spelled)
      ∙ end_step (erase (fill f part)) (erase part) (drop (length above) key) more
      (way-goes f.name f.prefix (join f.before (branch f.byte part f.after)) f.before f.byte part f.after (drop (length above) key) more refl around.2 rest)
      ∙ ap (way_end (erase part)) (sym last)

  pub way-at : (whole : Shape K V) (ctx : List (Frame K V)) (part : Shape K V) → IsPlace bytes whole ctx part → BeginsWith (path_to ctx) key → way_end (erase whole) key ≡ way_end (erase part) (drop (length (path_to ctx)) key)
  way-at whole ctx part place begins = ap (λ w. way_end (erase w) key) place.is ∙ way-below ctx part place.around begins

  pub way-stop : (path : List ℕ) (part : Shape K V) → BeginsWith path key → Stops bytes key path part → way_end (erase part) (drop (length path) key) ≡ (erase part, drop (length path) key)
  way-stop path part begins stops = end_here (erase part) (drop (length path) key) (way-stops bytes key path part begins stops)

  -- what a key meets at its place
  module _ (path : List ℕ) (begins : BeginsWith path key) where
    pub parted-ends : (prefix : List ℕ) (children : tree.Forest (K × V)) (parted : Parted) → PartAt prefix (drop (length path) key) parted
        → (way_end (tree.inner prefix children) (drop (length path) key) ≡ (tree.inner prefix children, drop (length path) key))
        × (near_reads (tree.inner prefix children, drop (length path) key) ≡ length (end_path (if nat_lt parted.new_byte parted.old_byte then First else Last) (tree.inner prefix children)))
    parted-ends prefix children parted part =
        let apart : pass prefix (drop (length path) key)
        ≡ differs = subst (λ p. pass p (drop (length path) key) ≡ differs) (sym part.old_is)
        (subst (λ k. pass (part.front ++ parted.old_byte ∷ part.old_rest) k ≡ differs) (sym part.new_is)
        (pass_differs part.front part.old_rest part.new_rest parted.old_byte parted.new_byte part.differs)) in
        let before : is_before (drop (length path) key) prefix
        ≡ nat_lt parted.new_byte parted.old_byte = subst (λ p. is_before (drop (length path) key) p ≡ nat_lt parted.new_byte parted.old_byte)
        (sym part.old_is) (subst (λ k. is_before k (part.front ++ parted.old_byte ∷ part.old_rest) ≡ nat_lt parted.new_byte parted.old_byte)
        (sym part.new_is) (before_byte part.front part.old_rest part.new_rest parted.old_byte parted.new_byte part.differs)) in
        (rw apart refl, rw (near_reads, apart, before) refl)

    pub missing-stops : (n : _) (prefix : List ℕ) (kids : Branches K V) (byte : ℕ) → child_at (children_at kids) byte ≡ None → BeginsWith ((path ++ prefix) ++ byte ∷ []) key → Stops bytes key path (inner_at n prefix kids)
    missing-stops n prefix kids byte missing on m other others is b on_too =
        let same_prefix : other ≡ prefix = cc in
        let same_kids : others ≡ kids = cc in
        let same : byte ≡ b = one_byte (path ++ prefix) byte b key on (subst (λ p. BeginsWith ((path ++ p) ++ b ∷ []) key) same_prefix on_too) in
        ap (λ f. child_at (children_at f) b) same_kids ∙ ap (child_at (children_at kids)) (sym same) ∙ missing

    pub missing-near : (prefix : List ℕ) (children : tree.Forest (K × V)) (byte : ℕ) → BeginsWith ((path ++ prefix) ++ byte ∷ []) key
        → near_reads (tree.inner prefix children, drop (length path) key) ≡ beside_reads (tree.inner prefix children) (first_above byte children)
    missing-near prefix children byte (more, e) =
        let spelled : key ≡ path ++ (prefix ++ byte ∷ more) = e ∙ append_assoc (path ++ prefix) (byte ∷ []) more ∙ append_assoc path prefix (byte ∷ more) in
        let rest : drop (length path) key ≡ prefix ++ byte ∷ more = ap (drop (length path)) spelled ∙ drop-front path (prefix ++ byte ∷ more) in
        let on : pass prefix (drop (length path) key) ≡ passes byte more = ap (pass prefix) rest ∙ pass_on prefix byte more in
        rw (near_reads, on) refl

module _ {K V : Type 0} (bytes : K → List ℕ) (key : List ℕ) where
  meets-end : (path : List ℕ) (part : Shape K V) (met : InsertKind) → BeginsWith path key → MeetsAt bytes key path part met → way_end (erase part) (drop (length path) key) ≡ (erase part, drop (length path) key)
  meets-end path part (kind.Exact slot) begins (k, v, is, same) = subst (λ t. way_end (erase t) (drop (length path) key) ≡ (erase t, drop (length path) key)) (sym is) refl
  meets-end path part (kind.SplitLeaf slot parted) begins (k, v, is, at) = subst (λ t. way_end (erase t) (drop (length path) key) ≡ (erase t, drop (length path) key)) (sym is) refl
  meets-end path part (kind.MismatchPrefix name parted) begins (prefix, kids, is, at) =
      subst (λ t. way_end (erase t) (drop (length path) key) ≡ (erase t, drop (length path) key)) (sym is) (parted-ends bytes key path begins prefix (erase_in kids) parted at).0
  meets-end path part (kind.IntoExisting name byte) begins (prefix, kids, is, missing, on) =
      subst (λ t. way_end (erase t) (drop (length path) key) ≡ (erase t, drop (length path) key)) (sym is) (way-stop bytes key path (inner_at name prefix kids) begins (missing-stops bytes key path begins name prefix kids byte missing on))

  -- the way to a key's place ends at its part
  pub point-end : (s : Shape K V) (point : InsertPoint) (at : IsPoint bytes key s point) → way_end (erase s) key ≡ (erase at.part, drop (length (path_to at.ctx)) key)
  point-end s point at = way-at bytes key s at.ctx at.part at.toward.place at.toward.begins ∙ meets-end (path_to at.ctx) at.part point.insert_kind at.toward.begins at.meets

  -- and what is read from there to a leaf beside it
  pub point-near : (s : Shape K V) (point : InsertPoint) (at : IsPoint bytes key s point) (t : Shape K V) (n : ℕ) → at.part ≡ t → near_reads (erase t, drop (length (path_to at.ctx)) key) ≡ n → near_reads (way_end (erase s) key) ≡ n
  point-near s point at t n is near = ap near_reads (point-end s point at) ∙ ap (λ u. near_reads (erase u, drop (length (path_to at.ctx)) key)) is ∙ near

  -- the part in the way of a key, within whose prefix it ends
  pub inside-end : (s : Shape K V) (ctx : List (Frame K V)) (part : Shape K V) → IsPlace bytes s ctx part → BeginsWith (path_to ctx) key → EndsInside (erase part) (drop (length (path_to ctx)) key) → way_end (erase s) key ≡ (erase part, drop (length (path_to ctx)) key)
  inside-end s ctx part place begins inside = way-at bytes key s ctx part place begins ∙ inside_ends (erase part) (drop (length (path_to ctx)) key) inside

  -- the ends of a part by its first key: it is free, or in conflict and begins with this one or not
  module _ (t : Tree (K × V)) (x : K × V) (xs : List (K × V)) where
    pub ends-free : (Conflict key (bytes x.0) → ⊥) → ends_reads (key_of bytes) key t (x ∷ xs) ≡ 0
    ends-free free = same (bytes_eq key (bytes x.0)) refl
      where
        second : (b : Bool) → bytes_eq key (bytes x.0) ≡ false → begins_with (bytes x.0) key ≡ b → (if b then length (end_path First t) else 0) ≡ 0
        second true e f = let h = begins_true (bytes x.0) key f in absurd (free ((λ g. let i = same_bytes key in let j : bytes_eq key (bytes x.0) ≡ true = subst (λ k. bytes_eq key k ≡ true) g i in cc), inr h))
        second false e f = refl

        first : (b : Bool) → bytes_eq key (bytes x.0) ≡ false → begins_with key (bytes x.0) ≡ b
            → (if b then length (end_path First t) + length (end_path Last t) else if begins_with (bytes x.0) key then length (end_path First t) else 0) ≡ 0
        first true e f = let h = begins_true key (bytes x.0) f in absurd (free ((λ g. let i = same_bytes key in let j : bytes_eq key (bytes x.0) ≡ true = subst (λ k. bytes_eq key k ≡ true) g i in cc), inl h))
        first false e f = second (begins_with (bytes x.0) key) e refl

        same : (b : Bool) → bytes_eq key (bytes x.0) ≡ b → ends_reads (key_of bytes) key t (x ∷ xs) ≡ 0
        same true e = rw e refl
        same false e = rw e (first (begins_with key (bytes x.0)) e refl)

    differ : Conflict key (bytes x.0) → bytes_eq key (bytes x.0) ≡ false
    differ conflict = which (bytes_eq key (bytes x.0)) refl
      where
        which : (b : Bool) → bytes_eq key (bytes x.0) ≡ b → bytes_eq key (bytes x.0) ≡ false
        which true e = absurd (conflict.0 (bytes_from_same key (bytes x.0) e))
        which false e = e

    pub ends-both : Conflict key (bytes x.0) → begins_with key (bytes x.0) ≡ true → ends_reads (key_of bytes) key t (x ∷ xs) ≡ length (end_path First t) + length (end_path Last t)
    ends-both conflict begins = rw (differ conflict, begins) refl

    pub ends-first : Conflict key (bytes x.0) → begins_with key (bytes x.0) ≡ false → ends_reads (key_of bytes) key t (x ∷ xs) ≡ length (end_path First t)
    ends-first conflict other = rw (differ conflict, other) (which (begins_with (bytes x.0) key) refl)
      where
        which : (b : Bool) → begins_with (bytes x.0) key ≡ b → (if b then length (end_path First t) else 0) ≡ length (end_path First t)
        which true e = refl
        which false e = absurd (elim conflict.1 [ inl h ↦ begins_false key (bytes x.0) other h | inr h ↦ begins_false (bytes x.0) key e h ])

few-step : {A : Type 0} (test : A → Bool) (x : A) (xs : List A) → length (filter test xs) ≤ length xs → (b : Bool) → test x ≡ b → length (filter test (x ∷ xs)) ≤ suc (length xs)
few-step test x xs few true e = rw e (omega (arith, few))
few-step test x xs few false e = rw e (omega (arith, few))

few-pass : {A : Type 0} (test : A → Bool) (xs : List A) → length (filter test xs) ≤ length xs
few-pass test [] = omega arith
few-pass test (x ∷ xs) = few-step test x xs (few-pass test xs) (test x) refl

-- the items of a tree that pass a test are those of the leaves
module _ {K V : Type 0} (bytes : K → List ℕ) (test : List ℕ → Bool) where
  passing-step : (l : LeafAt K V) (ls : List (LeafAt K V)) → filter (λ (x : K × V). test (bytes x.0)) (pairs_of ls) ≡ pairs_of (passing bytes test ls)
      → (b : Bool) → test (bytes l.key) ≡ b → filter (λ (x : K × V). test (bytes x.0)) (pairs_of (l ∷ ls)) ≡ pairs_of (passing bytes test (l ∷ ls))
  passing-step l ls rest true e = rw e (ap (λ xs. (l.key, l.value) ∷ xs) rest)
  passing-step l ls rest false e = rw e rest

  pub passing-items : (ls : List (LeafAt K V)) → filter (λ (x : K × V). test (bytes x.0)) (pairs_of ls) ≡ pairs_of (passing bytes test ls)
  passing-items [] = refl
  passing-items (l ∷ ls) = passing-step l ls (passing-items ls) (test (bytes l.key)) refl

module _ {K V : Type 0} (bytes : K → List ℕ) (key : List ℕ) where
  -- the ends that are read at the part where the way ends
  abbrev pub ends_at : Shape K V → ℕ
  ends_at s = ends_reads (key_of bytes) key (way_end (erase s) key).0 (items (way_end (erase s) key).0)

  at-part : (s part : Shape K V) (rest : List ℕ) (l : LeafAt K V) (ls : List (LeafAt K V)) (n : ℕ) → way_end (erase s) key ≡ (erase part, rest) → leaves part ≡ l ∷ ls
      → ends_reads (key_of bytes) key (erase part) ((l.key, l.value) ∷ pairs_of ls) ≡ n → ends_at s ≡ n
  at-part s part rest l ls n end are is = ap (λ p. ends_reads (key_of bytes) key p.0 (items p.0)) end ∙ ap (ends_reads (key_of bytes) key (erase part)) (items-erase part ∙ ap pairs_of are) ∙ is

  -- none where the key is free
  pub point-free : (s : Shape K V) (point : InsertPoint) → IsPoint bytes key s point → NoConflict bytes key (leaves s) → ends_at s ≡ 0
  point-free s point at free =
      let first = some_leaf bytes (path_to at.ctx) at.part at.toward.place.under in
      let below = all_left _ (leaves at.part) (leaves_after at.ctx) (all_right _ (leaves_before at.ctx) (leaves at.part ++ leaves_after at.ctx) (subst (NoConflict bytes key) (ap leaves at.toward.place.is ∙ leaves-plug at.ctx at.part) free)) in
      let own = (subst (NoConflict bytes key) first.2 below).0 in
      at-part s at.part _ first.0 first.1 0 (point-end bytes key s point at) first.2 (ends-free bytes key (erase at.part) (first.0.key, first.0.value) (pairs_of first.1) own)

  module _ (s : Shape K V) (ctx : List (Frame K V)) (part : Shape K V) (place : IsPlace bytes s ctx part) (begins : BeginsWith (path_to ctx) key) (inside : EndsInside (erase part) (drop (length (path_to ctx)) key)) (conflicts : AllConflict bytes key (leaves part)) where
    first : (l : LeafAt K V) × (ls : List (LeafAt K V)) × (leaves part ≡ l ∷ ls)
    first = some_leaf bytes (path_to ctx) part place.under

    own : Conflict key (bytes first.0.key)
    own = (subst (AllConflict bytes key) first.2 conflicts).0

    -- both where its keys begin with this one
    pub part-both : passing bytes (λ k. begins_with key k) (leaves part) ≡ leaves part → ends_at s ≡ length (end_path First (erase part)) + length (end_path Last (erase part))
    part-both all =
        at-part s part _ first.0 first.1 _ (inside-end bytes key s ctx part place begins inside) first.2
        (ends-both bytes key (erase part) (first.0.key, first.0.value) (pairs_of first.1) own (which (begins_with key (bytes first.0.key)) refl))
      where
        which : (b : Bool) → begins_with key (bytes first.0.key) ≡ b → begins_with key (bytes first.0.key) ≡ true
        which true e = e
        which false e = absurd (shorter first.1 (sym (subst (λ ls. passing bytes (λ k. begins_with key k) ls ≡ ls) first.2 all) ∙ rw e refl))
          where
            fewer : (ls : List (LeafAt K V)) → length (passing bytes (λ k. begins_with key k) ls) ≤ length ls
            fewer ls = few-pass (λ (l : LeafAt K V). begins_with key (bytes l.key)) ls

            shorter : (ls : List (LeafAt K V)) → first.0 ∷ ls ≡ passing bytes (λ k. begins_with key k) ls → ⊥
            shorter ls e = omega (arith, fewer ls, ap length e)

    -- the first alone where they don't
    pub part-first : passing bytes (λ k. begins_with key k) (leaves part) ≡ [] → ends_at s ≡ length (end_path First (erase part))
    part-first none =
        at-part s part _ first.0 first.1 _ (inside-end bytes key s ctx part place begins inside) first.2
        (ends-first bytes key (erase part) (first.0.key, first.0.value) (pairs_of first.1) own (which (begins_with key (bytes first.0.key)) refl))
      where
        which : (b : Bool) → begins_with key (bytes first.0.key) ≡ b → begins_with key (bytes first.0.key) ≡ false
        which false e = e
        which true e = let f = rw (first.2, e) at none in absurd (cc)
