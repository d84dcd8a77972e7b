-- The leaf beside the place of a key: where a bound's leaves begin or end.
use Rattle.std.proofs.Common.{◌≡◌, ℕ, ◌+◌, ◌<◌, ◌≤◌, Bool, true, false, not, List, [], ◌∷◌, ◌++◌, length, drop, if◌then◌else◌, Option, Some, None, IsSome, refl, sym, ap, subst, ◌∙◌, inl, inr, arith, append_assoc, append-nil}
use Rattle.std.specs.List.{AllByRecursion}
use Rattle.std.specs.BTreeMap.Range.{is_from_start, is_past_end}
use Rattle.std.specs.Ordering.{ordering_reverse, is_le, is_lt}
use Rattle.std.specs.declared.cmp.Ordering.{Ordering}
use Rattle.std.specs.declared.cmp.Ordering.TheVariants.{Less, Equal, Greater}
use Rattle.std.proofs.lemmas.Bool.{cases_order}
use Rattle.std.proofs.lemmas.Cmp.{nat_cmp_total, nat_list_cmp_total, tied_itself}
use Rattle.std.proofs.lemmas.List.Elements.{filter-append}
use Rattle.art_bytes.proofs.Common.{BeginsWith, Conflict, IsBefore, bytes_cmp, before_cmp}
use Rattle.art_nodes.proofs.Common.{child_at, children_between, first_child, Name}
use Rattle.art_nodes.specs.declared.leaf.LeafNode.{LeafNode}
use Rattle.art_arena.proofs.Common.{Arena, Held, leaf_held, held_at, links_of, links_at, node_at, pair, leaf_name, Frame, path_to, leaves_before, leaves_after, leaf_where, passing, Links, AreLinked, first_slot, last_slot, IsSubtree, IsPlace, Shape, Branches, inner_at, no_branch, branch}
use Rattle.art_arena.proofs.Common.{LeafAt, name_of, children_at, join, leaves, leaves_in, pairs_of, erase, erase_in, IsUnder, AreUnder, key_of, all_append, all_left, all_right, all_weaker, AscendsByKey, leaves-plug, leaves_in-join, items-erase, canonical-erase, opening, leaves_are_held}
use Rattle.art_arena.proofs.Common.{branch-first, leaves_begin_prefix, holds_pair, some_leaf, ends_with-first, last_slot-append, link_there, AreAfter, AreBefore, branches-after, branches-before, ctx-after, ctx-before, smaller_byte_first, following, place-subtree}
use Rattle.art_arena.proofs.tree.Canonical.{ascending}
use Rattle.std.specs.declared.ops.Bound.TheVariants.{Excluded, Unbounded}
use Rattle.art_operations.proofs.Terms.{slot_inside, PartAt, AllConflict, IsPoint, InsertPoint, Parted, Compare, IsNearest, bound_at, first_above, takes}
use Rattle.art_operations.proofs.NodesRead.{links-are}
use Rattle.art_operations.proofs.KeyedLists.{all-pass, none-pass}
use Rattle.art_operations.proofs.Points.{leaf_there, part_new, part_old}
use Rattle.art_operations.proofs.Waiting.{children_after}
use Rattle.art_operations.proofs.WayParts.{above-none, above-some}

-- the other way round, the order is turned
pub turned : (k l : List ℕ) (o : Ordering) → bytes_cmp k l ≡ o → bytes_cmp l k ≡ ordering_reverse o
turned k l o e = nat_list_cmp_total.antisymm l k ∙ ap ordering_reverse e

pub before_greater : (k l : List ℕ) → IsBefore k l → bytes_cmp l k ≡ Greater
before_greater k l h = turned k l Less (before_cmp k l h)

-- a key that begins with another goes on before what comes after that one
front_before : (f key r : List ℕ) → BeginsWith f key → IsBefore f r → IsBefore key r
front_before [] key r b h = absurd h
front_before (a ∷ f) [] r b h = let e = b.1 in absurd (cc)
front_before (a ∷ f) (c ∷ key) [] b h = absurd h
front_before (a ∷ f) (c ∷ key) (d ∷ r) (x, e) (inl less) = let same : c ≡ a = cc in inl (omega (arith, less, same))
front_before (a ∷ f) (c ∷ key) (d ∷ r) (x, e) (inr h) =
    let same : c ≡ a = cc in
    let rest : key ≡ f ++ x = cc in
    inr (same ∙ h.0, front_before f key r (x, rest) h.1)

-- what begins with a key isn't below it
longer_not_below : (k x : List ℕ) → bytes_cmp (k ++ x) k ≡ Less → ⊥
longer_not_below [] [] e = cc
longer_not_below [] (b ∷ x) e = cc
longer_not_below (a ∷ k) x e =
    let same = tied_itself nat_cmp_total a in
    let rest : bytes_cmp (k ++ x) k ≡ Less = rw same at e in
    longer_not_below k x rest

module _ {K V : Type 0} (bytes : K → List ℕ) (key : List ℕ) where
  pub below_before : (ls : List (LeafAt K V)) → AreBefore bytes key ls → Compare bytes key Less ls
  below_before ls h = all_weaker _ _ (λ l b. before_cmp (bytes l.key) key b) ls h

  pub above_after : (ls : List (LeafAt K V)) → AreAfter bytes key ls → Compare bytes key Greater ls
  above_after ls h = all_weaker _ _ (λ l b. before_greater key (bytes l.key) b) ls h

  -- the first leaf of a run that is above the key, after leaves that are below it
  pub nearest_first : (xs run ys : List (LeafAt K V)) (slot : ℕ) → first_slot run None ≡ Some slot → Compare bytes key Less xs → Compare bytes key Greater run → Compare bytes key Greater ys → IsNearest bytes key (xs ++ (run ++ ys)) slot Greater
  nearest_first xs [] ys slot e below here above = absurd (cc)
  nearest_first xs (l ∷ run) ys slot e below here above = record {
    before = xs;
    leaf = l;
    after = run ++ ys;
    parts = refl;
    is = cc;
    below = below;
    compares = here.0;
    above = all_append _ run ys here.1 above;
  }

  -- the last leaf of a run that is below it, before leaves that are above it
  pub nearest_last : (xs run ys : List (LeafAt K V)) (slot : ℕ) → last_slot None run ≡ Some slot → Compare bytes key Less xs → Compare bytes key Less run → Compare bytes key Greater ys → IsNearest bytes key (xs ++ (run ++ ys)) slot Less
  nearest_last xs run ys slot e below here above =
      let end = ends_with-first run slot e in
      let all = subst (Compare bytes key Less) end.2 here in
      record {
        before = xs ++ end.0;
        leaf = end.1;
        after = ys;
        parts = ap (λ zs. xs ++ (zs ++ ys)) end.2 ∙ ap (λ zs. xs ++ zs) (append_assoc end.0 (end.1 ∷ []) ys) ∙ sym (append_assoc xs end.0 (end.1 ∷ ys));
        is = end.3;
        below = all_append _ xs end.0 below (all_left _ end.0 (end.1 ∷ []) all);
        compares = (all_right _ end.0 (end.1 ∷ []) all).0;
        above = above;
      }

  -- a part's own nearest leaf is the whole tree's
  pub nearest_around : (xs run ys : List (LeafAt K V)) (slot : ℕ) (o : Ordering) → Compare bytes key Less xs → IsNearest bytes key run slot o → Compare bytes key Greater ys → IsNearest bytes key (xs ++ (run ++ ys)) slot o
  nearest_around xs run ys slot o below near above = record {
    before = xs ++ near.before;
    leaf = near.leaf;
    after = near.after ++ ys;
    parts = ap (λ zs. xs ++ (zs ++ ys)) near.parts ∙ ap (λ zs. xs ++ zs) (append_assoc near.before (near.leaf ∷ near.after) ys) ∙ sym (append_assoc xs near.before (near.leaf ∷ (near.after ++ ys)));
    is = near.is;
    below = all_append _ xs near.before below near.below;
    compares = near.compares;
    above = all_append _ near.after ys near.above above;
  }

  pub nearest_in : (whole part : Shape K V) (ctx : List (Frame K V)) (slot : ℕ) (o : Ordering) → IsPlace bytes whole ctx part → BeginsWith (path_to ctx) key → IsNearest bytes key (leaves part) slot o → IsNearest bytes key (leaves whole) slot o
  nearest_in whole part ctx slot o place begins near =
      subst (λ ls. IsNearest bytes key ls slot o) (sym (ap leaves place.is ∙ leaves-plug ctx part))
      (nearest_around (leaves_before ctx) (leaves part) (leaves_after ctx) slot o (below_before (leaves_before ctx) (ctx-before bytes key ctx place.around begins)) near (above_after (leaves_after ctx) (ctx-after bytes key ctx place.around begins)))

  -- the first of leaves that are all in conflict with the key
  pub nearest_conflict : (l : LeafAt K V) (ls : List (LeafAt K V)) (slot : ℕ) (o : Ordering) → l.slot ≡ slot → bytes_cmp (bytes l.key) key ≡ o → Conflict key (bytes l.key)
      → AllByRecursion (λ r. IsBefore (bytes l.key) (bytes r.key)) ls → IsNearest bytes key (l ∷ ls) slot o
  nearest_conflict l ls slot o is compares conflict following =
      record { before = []; leaf = l; after = ls; parts = refl; is = is; below = tt; compares = compares; above = all_weaker _ _ (λ r b. over o compares (bytes r.key) b) ls following }
    where
      over : (o : Ordering) → bytes_cmp (bytes l.key) key ≡ o → (r : List ℕ) → IsBefore (bytes l.key) r → bytes_cmp r key ≡ Greater
      over Greater e r b = turned key r Less (nat_list_cmp_total.trans key (bytes l.key) r (turned (bytes l.key) key Greater e) (before_cmp (bytes l.key) r b))
      over Equal e r b = turned key r Less (sym (nat_list_cmp_total.congr (bytes l.key) key r e) ∙ before_cmp (bytes l.key) r b)
      over Less e r b = elim conflict.1 [
        | inl h ↦ absurd (longer_not_below key h.0 (subst (λ k. bytes_cmp k key ≡ Less) h.1 e))
        | inr h ↦ before_greater key r (front_before (bytes l.key) key r h b)
      ]

-- the test of a bound, by how a key compares with the bound's

from_start : (includes : Bool) (key k : List ℕ) (o : Ordering) → bytes_cmp k key ≡ o → is_from_start bytes_cmp (bound_at includes key) k ≡ takes true includes o
from_start true key k Less e = ap is_le (turned k key Less e)
from_start true key k Equal e = ap is_le (turned k key Equal e)
from_start true key k Greater e = ap is_le (turned k key Greater e)
from_start false key k Less e = ap is_lt (turned k key Less e)
from_start false key k Equal e = ap is_lt (turned k key Equal e)
from_start false key k Greater e = ap is_lt (turned k key Greater e)

up_to_end : (includes : Bool) (key k : List ℕ) (o : Ordering) → bytes_cmp k key ≡ o → not (is_past_end bytes_cmp (bound_at includes key) k) ≡ takes false includes o
up_to_end true key k Less e = ap (λ p. not (is_lt p)) (turned k key Less e)
up_to_end true key k Equal e = ap (λ p. not (is_lt p)) (turned k key Equal e)
up_to_end true key k Greater e = ap (λ p. not (is_lt p)) (turned k key Greater e)
up_to_end false key k Less e = ap (λ p. not (is_le p)) (turned k key Less e)
up_to_end false key k Equal e = ap (λ p. not (is_le p)) (turned k key Equal e)
up_to_end false key k Greater e = ap (λ p. not (is_le p)) (turned k key Greater e)

pub every_passes : {K V : Type 0} (bytes : K → List ℕ) (ls : List (LeafAt K V)) → passing bytes (λ k. true) ls ≡ ls
every_passes bytes [] = refl
every_passes bytes (l ∷ ls) = ap (λ xs. l ∷ xs) (every_passes bytes ls)

module _ {K V : Type 0} (bytes : K → List ℕ) (key : List ℕ) where
  module _ (includes : Bool) (ls : List (LeafAt K V)) (slot : ℕ) (o : Ordering) (near : IsNearest bytes key ls slot o) where
    -- the leaf itself, or the next one on the side that is inside
    abbrev pub Inside : Bool → Bool → Option ℕ
    Inside is_start is_taken = if is_taken then Some slot else if is_start then first_slot near.after None else last_slot None near.before

    parted : (test : List ℕ → Bool) → passing bytes test ls ≡ passing bytes test near.before ++ passing bytes test (near.leaf ∷ near.after)
    parted test = ap (passing bytes test) near.parts ∙ filter-append (λ l. test (bytes l.key)) near.before (near.leaf ∷ near.after)

    -- the tests of the bound as a start and as an end
    abbrev from : List ℕ → Bool
    from k = is_from_start bytes_cmp (bound_at includes key) k

    abbrev up_to : List ℕ → Bool
    up_to k = not (is_past_end bytes_cmp (bound_at includes key) k)

    starts : passing bytes from ls ≡ passing bytes from (near.leaf ∷ near.after)
    starts = parted from ∙ ap (λ xs. xs ++ passing bytes from (near.leaf ∷ near.after)) (none-pass (λ l. from (bytes l.key)) near.before (all_weaker _ _ (λ l e. from_start includes key (bytes l.key) Less e) near.before near.below))

    start-inside : (is_taken : Bool) → takes true includes o ≡ is_taken → leaf_where bytes from ls ≡ Inside true is_taken
    start-inside true e = ap (λ xs. first_slot xs None) starts ∙ rw (from_start includes key (bytes near.leaf.key) o near.compares ∙ e) (ap Some near.is)
    start-inside false e =
        ap (λ xs. first_slot xs None) starts
        ∙ rw (from_start includes key (bytes near.leaf.key) o near.compares ∙ e) (ap (λ xs. first_slot xs None) (all-pass (λ l. from (bytes l.key)) near.after (all_weaker _ _ (λ l f. from_start includes key (bytes l.key) Greater f) near.after near.above)))

    none-after : passing bytes up_to near.after ≡ []
    none-after = none-pass (λ l. up_to (bytes l.key)) near.after (all_weaker _ _ (λ l e. up_to_end includes key (bytes l.key) Greater e) near.after near.above)

    end-inside : (is_taken : Bool) → takes false includes o ≡ is_taken → last_slot None (passing bytes up_to ls) ≡ Inside false is_taken
    end-inside true e =
        ap (last_slot None) (parted up_to)
        ∙ rw (up_to_end includes key (bytes near.leaf.key) o near.compares ∙ e, none-after) (last_slot-append None (passing bytes up_to near.before) (near.leaf ∷ []) ∙ ap Some near.is)
    end-inside false e =
        ap (last_slot None) (parted up_to)
        ∙ rw (up_to_end includes key (bytes near.leaf.key) o near.compares ∙ e, none-after)
        (ap (last_slot None) (append-nil (passing bytes up_to near.before)
        ∙ all-pass (λ l. up_to (bytes l.key)) near.before (all_weaker _ _ (λ l f. up_to_end includes key (bytes l.key) Less f) near.before near.below)))

    pub inside-is : (is_start : Bool) → slot_inside bytes is_start (bound_at includes key) ls ≡ Inside is_start (takes is_start includes o)
    inside-is true = start-inside (takes true includes o) refl
    inside-is false = end-inside (takes false includes o) refl

-- where the key's place is an inner node, between two of its children or on one side of them all

module _ {K V : Type 0} (bytes : K → List ℕ) (key path prefix : List ℕ) (kids : Branches K V) where
  module _ (p : Parted) (on : BeginsWith path key) (n : Name) (under : IsUnder bytes path (inner_at n prefix kids)) (part : PartAt prefix (drop (length path) key) p) where
    here : BeginsWith ((path ++ part.front) ++ p.new_byte ∷ []) key
    here = part_new path (drop (length path) key) key prefix p (following path key (length path) refl on) part

    there : (k : List ℕ) → BeginsWith (path ++ prefix) k → BeginsWith ((path ++ part.front) ++ p.old_byte ∷ []) k
    there k st = part_old path (drop (length path) key) prefix k st.0 p st.1 part

    pub parted_after : (slot : ℕ) → p.new_byte < p.old_byte → first_slot (leaves_in kids) None ≡ Some slot → IsNearest bytes key (leaves_in kids) slot Greater
    parted_after slot less first =
        let all = all_weaker _ _ (λ l st. before_greater key (bytes l.key) (smaller_byte_first (path ++ part.front) p.new_byte p.old_byte key (bytes l.key) less here (there (bytes l.key) st))) (leaves_in kids) (leaves_begin_prefix bytes path (inner_at n prefix kids) under) in
        subst (λ ls. IsNearest bytes key ls slot Greater) (append-nil (leaves_in kids)) (nearest_first bytes key [] (leaves_in kids) [] slot first tt all tt)

    pub parted_before : (slot : ℕ) → p.old_byte ≤ p.new_byte → last_slot None (leaves_in kids) ≡ Some slot → IsNearest bytes key (leaves_in kids) slot Less
    parted_before slot upto last =
        let less : p.old_byte < p.new_byte = smaller p.old_byte p.new_byte upto part.differs in
        let all = all_weaker _ _ (λ l st. before_cmp (bytes l.key) key (smaller_byte_first (path ++ part.front) p.old_byte p.new_byte (bytes l.key) key less (there (bytes l.key) st) here)) (leaves_in kids) (leaves_begin_prefix bytes path (inner_at n prefix kids) under) in
        subst (λ ls. IsNearest bytes key ls slot Less) (append-nil (leaves_in kids)) (nearest_last bytes key [] (leaves_in kids) [] slot last tt all tt)
      where
        smaller : (a b : ℕ) → a ≤ b → (a ≡ b → ⊥) → a < b
        smaller a b le ne = elim (cases_order a b) [ inl e ↦ absurd (ne e) | inr (inl h) ↦ h | inr (inr h) ↦ absurd (omega (arith, le, h)) ]

  module _ (byte : ℕ) (under : AreUnder bytes (path ++ prefix) 0 kids) (missing : child_at (children_at kids) byte ≡ None) where
    -- the first child after the place of the byte
    pub record IsChildAfter (c : ℕ × Name) : Type 0 where
      pub before : Branches K V
      pub here : Shape K V
      pub after : Branches K V
      pub whole : kids ≡ join before (branch c.0 here after)
      pub named : name_of here ≡ c.1
      pub above : first_above byte (erase_in kids) ≡ Some (erase here)
      pub nearest : BeginsWith ((path ++ prefix) ++ byte ∷ []) key → (slot : ℕ) → first_slot (leaves here) None ≡ Some slot → IsNearest bytes key (leaves_in kids) slot Greater

    pub child_after : (c : ℕ × Name) → first_child (children_between (Excluded byte) Unbounded (children_at kids)) ≡ Some c → IsChildAfter c
    child_after c found =
        let o = opening bytes kids byte (path ++ prefix) 0 under missing in
        let later : first_child (children_at o.after) ≡ Some c =
        ap first_child (sym (children_after bytes (path ++ prefix) byte o.before o.after o.below o.after_under)) ∙ ap (λ ks. first_child (children_between (Excluded byte) Unbounded (children_at ks))) (sym o.kids_are) ∙ found in
        let b = branch-first o.after c later in
        let whole : kids ≡ join o.before (branch c.0 b.0 b.1) = o.kids_are ∙ ap (join o.before) b.2 in
        record {
          before = o.before;
          here = b.0;
          after = b.1;
          whole = whole;
          named = b.3;
          above =
              let more : byte + 1 ≤ c.0 = (subst (AreUnder bytes (path ++ prefix) (byte + 1)) b.2 o.after_under).0 in
              ap (λ f. first_above byte (erase_in f)) whole ∙ above-some byte c.0 o.before b.0 b.1 o.below (omega (arith, more));
          nearest = λ on slot first.
              let below = below_before bytes key (leaves_in o.before) (branches-before bytes key (path ++ prefix) byte 0 o.before o.before_under o.below on) in
              let above = above_after bytes key (leaves_in o.after) (branches-after bytes key (path ++ prefix) byte (byte + 1) o.after o.after_under (omega arith) on) in
              let split = subst (λ f. Compare bytes key Greater (leaves_in f)) b.2 above in
              subst (λ ls. IsNearest bytes key ls slot Greater) (sym (ap leaves_in whole ∙ leaves_in-join o.before (branch c.0 b.0 b.1)))
              (nearest_first bytes key (leaves_in o.before) (leaves b.0) (leaves_in b.1) slot first below (all_left _ (leaves b.0) (leaves_in b.1) split) (all_right _ (leaves b.0) (leaves_in b.1) split));
        }

    -- there is none
    pub none_above : first_child (children_between (Excluded byte) Unbounded (children_at kids)) ≡ None → first_above byte (erase_in kids) ≡ None
    none_above missed =
        let o = opening bytes kids byte (path ++ prefix) 0 under missing in
        let none : first_child (children_at o.after) ≡ None =
        ap first_child (sym (children_after bytes (path ++ prefix) byte o.before o.after o.below o.after_under)) ∙ ap (λ ks. first_child (children_between (Excluded byte) Unbounded (children_at ks))) (sym o.kids_are) ∙ missed in
        ap (λ f. first_above byte (erase_in f)) o.kids_are ∙ ap (λ f. first_above byte (erase_in (join o.before f))) (no_more o.after none) ∙ above-none byte o.before o.below
      where
        no_more : (f : Branches K V) → first_child (children_at f) ≡ None → f ≡ no_branch
        no_more no_branch e = refl
        no_more (branch b s rest) e = absurd (cc)

    pub no_child_after : first_child (children_between (Excluded byte) Unbounded (children_at kids)) ≡ None → BeginsWith ((path ++ prefix) ++ byte ∷ []) key → (slot : ℕ)
        → last_slot None (leaves_in kids) ≡ Some slot → IsNearest bytes key (leaves_in kids) slot Less
    no_child_after missed on slot last =
        let o = opening bytes kids byte (path ++ prefix) 0 under missing in
        let none : first_child (children_at o.after) ≡ None =
        ap first_child (sym (children_after bytes (path ++ prefix) byte o.before o.after o.below o.after_under)) ∙ ap (λ ks. first_child (children_between (Excluded byte) Unbounded (children_at ks))) (sym o.kids_are) ∙ missed in
        let all : leaves_in kids ≡ leaves_in o.before = ap leaves_in o.kids_are ∙ leaves_in-join o.before o.after ∙ ap (λ ls. leaves_in o.before ++ ls) (empty o.after none) ∙ append-nil (leaves_in o.before) in
        let below = subst (Compare bytes key Less) (sym all) (below_before bytes key (leaves_in o.before) (branches-before bytes key (path ++ prefix) byte 0 o.before o.before_under o.below on)) in
        subst (λ ls. IsNearest bytes key ls slot Less) (append-nil (leaves_in kids)) (nearest_last bytes key [] (leaves_in kids) [] slot last tt below tt)
      where
        empty : (f : Branches K V) → first_child (children_at f) ≡ None → leaves_in f ≡ []
        empty no_branch e = refl
        empty (branch b s rest) e = absurd (cc)

-- what stands in an arena

module _ {K V : Type 0} (bytes : K → List ℕ) (key : List ℕ) (arena : Arena K V) (ls : List (LeafAt K V)) (slot : ℕ) (o : Ordering) (near : IsNearest bytes key ls slot o) (linked : AreLinked (links_at arena) None ls None) where
  links : links_at arena slot ≡ Some (record { previous = last_slot None near.before; next = first_slot near.after None })
  links = link_there (links_at arena) near.before near.leaf near.after slot (subst (λ xs. AreLinked (links_at arena) None xs None) near.parts linked) near.is

  pub nearest_held : IsSome (held_at arena (leaf_name slot))
  nearest_held = some (held_at arena (leaf_name slot)) links
    where
      some : {L : Links} (held : Option (Held K V)) → links_of held ≡ Some L → IsSome held
      some None e = absurd (cc)
      some (Some h) e = refl

  -- the leaves beside it are those to which it leads
  pub neighbours_are : (leaf : LeafNode K V) → held_at arena (leaf_name slot) ≡ Some (leaf_held leaf) → (leaf.next ≡ first_slot near.after None) × (leaf.previous ≡ last_slot None near.before)
  neighbours_are leaf held =
      let same = links-are (held_at arena (leaf_name slot)) leaf _ held links in
      (sym (ap (λ (l : Links). l.next) same), sym (ap (λ (l : Links). l.previous) same))

module _ {K V : Type 0} (bytes : K → List ℕ) (P : ℕ) (arena : Arena K V) where
  -- how a key compares with that of the leaf under a name
  abbrev pub Told : List ℕ → ℕ → Ordering → Type 0
  Told key slot o = (l : LeafNode K V) → held_at arena (leaf_name slot) ≡ Some (leaf_held l) → o ≡ bytes_cmp (bytes l.key) key

  -- told of the leaf that was read
  pub told_of : (key : List ℕ) (slot : ℕ) (o : Ordering) (leaf : LeafNode K V) → held_at arena (leaf_name slot) ≡ Some (leaf_held leaf) → o ≡ bytes_cmp (bytes leaf.key) key → Told key slot o
  told_of key slot o leaf is order l held = let same : leaf ≡ l = cc in order ∙ ap (λ (m : LeafNode K V). bytes_cmp (bytes m.key) key) same

  pub leaf_held_there : (slot : ℕ) (path : List ℕ) (part : Shape K V) → IsSubtree bytes P (node_at arena) (leaf_name slot) path part → IsSome (held_at arena (leaf_name slot))
  leaf_held_there slot path part sub = let at = leaf_there bytes P arena slot path part sub in rw at.there refl

  pub nearest_lone : (key : List ℕ) (slot : ℕ) (o : Ordering) (path : List ℕ) (part : Shape K V) → IsSubtree bytes P (node_at arena) (leaf_name slot) path part → Told key slot o → IsNearest bytes key (leaves part) slot o
  nearest_lone key slot o path part sub told =
      let at = leaf_there bytes P arena slot path part sub in
      subst (λ t. IsNearest bytes key (leaves t) slot o) (sym at.is) (record { before = []; leaf = _; after = []; parts = refl; is = refl; below = tt; compares = sym (told at.leaf at.there); above = tt })

  after_first : (l : LeafAt K V) (ls : List (LeafAt K V)) → AscendsByKey (key_of bytes) (pairs_of (l ∷ ls)) → AllByRecursion (λ r. IsBefore (bytes l.key) (bytes r.key)) ls
  after_first l ls h = unmapped ls h.0
    where
      unmapped : (ls : List (LeafAt K V)) → AllByRecursion (λ y. IsBefore (bytes l.key) (key_of bytes y)) (pairs_of ls) → AllByRecursion (λ r. IsBefore (bytes l.key) (bytes r.key)) ls
      unmapped [] h = tt
      unmapped (r ∷ rs) h = (h.0, unmapped rs h.1)

  -- the first leaf of a part
  pub record FirstOf (path : List ℕ) (part : Shape K V) (slot : ℕ) : Type 0 where
    pub first : LeafAt K V
    pub others : List (LeafAt K V)
    pub are : leaves part ≡ first ∷ others
    pub is : first.slot ≡ slot
    pub node : LeafNode K V
    pub there : held_at arena (leaf_name slot) ≡ Some (leaf_held node)
    pub key_is : node.key ≡ first.key
    pub before : AllByRecursion (λ r. IsBefore (bytes first.key) (bytes r.key)) others

  pub first_of_part : (name : Name) (path : List ℕ) (part : Shape K V) (slot : ℕ) → IsSubtree bytes P (node_at arena) name path part → first_slot (leaves part) None ≡ Some slot → FirstOf path part slot
  first_of_part name path part slot sub first = made (some_leaf bytes path part sub.under)
    where
      made : (l : LeafAt K V) × (ls : List (LeafAt K V)) × (leaves part ≡ l ∷ ls) → FirstOf path part slot
      made (l, ls, e) =
          let same : l.slot ≡ slot = let f : Some l.slot ≡ Some slot = sym (ap (λ xs. first_slot xs None) e) ∙ first in cc in
          let h = subst (AllByRecursion (λ l. node_at arena (leaf_name l.slot) ≡ Some (pair l.key l.value))) e (leaves_are_held bytes P arena part sub.part.held) in
          let p = holds_pair (held_at arena (leaf_name slot)) l.key l.value (ap (λ m. node_at arena (leaf_name m)) (sym same) ∙ h.0) in
          let up = subst (λ xs. AscendsByKey (key_of bytes) (pairs_of xs)) e (subst (AscendsByKey (key_of bytes)) (items-erase part) (ascending (key_of bytes) path (erase part) (canonical-erase bytes path part sub.under))) in
          record { first = l; others = ls; are = e; is = same; node = p.leaf; there = p.is; key_is = p.key; before = after_first l ls up }

  -- the first of leaves that are all in conflict with a key
  pub nearest_of_conflicts : (key : List ℕ) (name : Name) (slot : ℕ) (o : Ordering) (path : List ℕ) (part : Shape K V) → IsSubtree bytes P (node_at arena) name path part → first_slot (leaves part) None ≡ Some slot
      → AllConflict bytes key (leaves part) → Told key slot o → IsNearest bytes key (leaves part) slot o
  nearest_of_conflicts key name slot o path part sub first conflicts told =
      let f = first_of_part name path part slot sub first in
      let c = subst (AllConflict bytes key) f.are conflicts in
      subst (λ ls. IsNearest bytes key ls slot o) (sym f.are)
      (nearest_conflict bytes key f.first f.others slot o f.is (sym (told f.node f.there ∙ ap (λ k. bytes_cmp (bytes k) key) f.key_is)) c.0 f.before)

  -- the part at a point, under the name that it has there
  pub point_subtree : (key : List ℕ) (root n : Name) (s : Shape K V) (point : InsertPoint) → IsSubtree bytes P (node_at arena) root [] s → (at : IsPoint bytes key s point) → name_of at.part ≡ n
      → IsSubtree bytes P (node_at arena) n (path_to at.ctx) at.part
  point_subtree key root n s point sub at e = subst (λ m. IsSubtree bytes P (node_at arena) m (path_to at.ctx) at.part) e (place-subtree bytes P (node_at arena) root s at.ctx at.part sub at.toward.place)
