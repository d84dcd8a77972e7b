-- Leaves over which a tree is made are passed one by one: the first of them, the next one, and what is so after it.
use Rattle.std.proofs.Common.{◌≡◌, ℕ, suc, ◌+◌, ◌-◌, ◌<◌, ◌≤◌, List, [], ◌∷◌, ◌++◌, length, refl, sym, ap, subst, ◌∙◌, inl, inr, arith, append_assoc, Option, Some, None, IsSome}
use Rattle.std.proofs.lemmas.Bool.Decides.{leb_tells}
use Rattle.art_bytes.proofs.Common.{IsBefore}
use Rattle.art_nodes.proofs.Common.{Name}
use Rattle.art_nodes.specs.declared.leaf.LeafNode.{LeafNode}
use Rattle.art_arena.proofs.Common.{Arena, leaf_held, links_of, held_at, node_at, links_at, SameLeaves, Cell, pair, leaf_name, AreLinked, Links, first_slot, LeafAt, pairs_of, AreLinked-right, AreLinked-same, HoldsPair, holds_pair, all_right}
use Rattle.art_arena.proofs.shapes.CellLists.{holds-only}
use Rattle.art_operations.proofs.Terms.{leaf_cells, PartAt, HasPairs, HoldsInOrder, Spine, Parted, Meets, CanPass, RebuildsUpTo, AddsChild, HasSpine, begin_of, open_cells, open_leaves, IsEmptySpine}
use Rattle.art_operations.specs.declared.meeting.Meeting.{Meeting}
use Rattle.art_operations.specs.declared.meeting.Meeting.TheVariants as meeting
use Rattle.art_operations.proofs.NodesRead.{links-are}
use Rattle.art_operations.proofs.Building.{Added, added, not-after}
use Rattle.art_operations.proofs.Rebuilding.{last_of, passed, next-later, whole}

-- two keys part where the first comes before the second, and the second goes on by the greater byte
module _ (old new : List ℕ) (first : IsBefore old new) where
  pub must-part : (m : Meeting) → Meets old new m → ((p : Parted) → m ≡ meeting.Parts p → ⊥) → ⊥
  must-part m meets other = not-after old new m meets (λ p e. absurd (other p e)) first

  pub rises : (p : Parted) → PartAt old new p → p.old_byte < p.new_byte
  rises p part = elim (leb_tells (suc p.old_byte) p.new_byte) [
    | inl less ↦ (let up = less.1 in omega (arith, up))
    | inr more ↦
        let differs = part.differs in
        let most = more.1 in
        let lower : p.new_byte < p.old_byte = omega (arith, most, differs) in
        absurd (not-after old new (meeting.Parts p) part (λ q e. let same : p ≡ q = cc in subst (λ (r : Parted). r.new_byte < r.old_byte) same lower) first)
  ]

module _ {K V : Type 0} (bytes : K → List ℕ) (P : ℕ) where
  -- the leaves are passed up to the last one, and of so many at most so many are left, the last one among them
  pub record ArePassed (arena : Arena K V) (spine : Spine) (last left leaves : ℕ) (ls : List (LeafAt K V)) : Type 0 where
    pub rest : List (LeafAt K V)
    pub up_to : RebuildsUpTo bytes P arena spine last rest ls
    pub count : length ls ≤ leaves → length ls + left ≡ leaves + suc (length rest)

  pub few-left : (arena : Arena K V) (spine : Spine) (last left leaves : ℕ) (ls : List (LeafAt K V)) (are : ArePassed arena spine last left leaves ls) → length ls ≤ leaves → length are.rest < left
  few-left arena spine last left leaves ls are most = let count = are.count most in omega (arith, count, most)

  -- no leaf is passed but the first
  pub starts : (arena : Arena K V) (spine : Spine) (first leaves : ℕ) (ls : List (LeafAt K V)) → IsEmptySpine spine → HoldsInOrder bytes arena (Some first) ls → ArePassed arena spine first leaves leaves ls
  starts arena spine first leaves [] empty order = let none = order.first_is in absurd (cc)
  starts arena spine first leaves (l ∷ rest) empty order =
      let here : l.slot ≡ first = (let some = order.first_is in cc) in
      subst (λ n. ArePassed arena spine n leaves leaves (l ∷ rest)) here
      (record {
        rest = rest;
        up_to = record { key = l.key; value = l.value; levels = []; stack_is = empty.0; children_are = empty.1; holds = order.holds.holds; ways = tt; leaves_are = refl };
        count = λ most. omega arith;
      })

  -- where the next leaf can be passed
  module _ (arena : Arena K V) (spine : Spine) (last next : ℕ) (rest ls : List (LeafAt K V)) (can : CanPass bytes P arena spine last next rest ls) where
    abbrev pub front : List (LeafAt K V)
    front = passed bytes P arena spine last (can.leaf ∷ rest) ls can.up_to

    abbrev pub still : List (Name × Cell K V)
    still = leaf_cells (can.leaf ∷ rest)

    pub next-there : HoldsPair (held_at arena (leaf_name next)) can.leaf.key can.leaf.value
    next-there =
        let is = can.up_to in
        holds_pair (held_at arena (leaf_name next)) can.leaf.key can.leaf.value (subst (λ n. node_at arena (leaf_name n) ≡ Some (pair can.leaf.key can.leaf.value)) can.named
        (all_right (λ (c : Name × Cell K V). node_at arena c.0 ≡ Some c.1) (open_cells P is.levels) ((leaf_name last, pair is.key is.value) ∷ still) is.holds.held).1.0)

    pub next-is-held : IsSome (held_at arena (leaf_name next))
    next-is-held = subst IsSome (sym next-there.is) refl

    -- what was read of its key is that key
    pub next-read : (stored : K) (read_bytes : List ℕ) → ((l : LeafNode K V) → held_at arena (leaf_name next) ≡ Some (leaf_held l) → stored ≡ l.key) → read_bytes ≡ bytes stored → read_bytes ≡ bytes can.leaf.key
    next-read stored read_bytes read e = e ∙ ap bytes (read next-there.leaf next-there.is ∙ next-there.key)

    pub above : IsBefore (bytes can.up_to.key) (bytes can.leaf.key)
    above = next-later bytes P (open_leaves can.up_to.levels) (last_of bytes P arena spine last (can.leaf ∷ rest) ls can.up_to) can.leaf rest ls can.up_to.leaves_are can.ascends

    -- then it is the last one
    pub passes : (now : Arena K V) (was new : Spine) (p : Parted) (following : ℕ) (root : Name) → PartAt (bytes can.up_to.key) (bytes can.leaf.key) p → p.old_byte < 256 → following ≡ suc p.matched
        → HasSpine bytes P now was still last following root (bytes can.up_to.key) front → begin_of following was.stack.items ≡ following → AddsChild following (p.old_byte, root) was new → RebuildsUpTo bytes P now new next rest ls
    passes now was new p following root part fits child_depth_is has closed adds =
        subst (λ n. RebuildsUpTo bytes P now new n rest ls) can.named
        (of (added bytes P (bytes can.up_to.key) (bytes can.leaf.key) p part (rises (bytes can.up_to.key) (bytes can.leaf.key) above p part) fits now was new still following root front child_depth_is has.stands closed adds))
      where
        of : Added bytes P now new still (bytes can.leaf.key) front → RebuildsUpTo bytes P now new can.leaf.slot rest ls
        of add = record {
          key = can.leaf.key;
          value = can.leaf.value;
          levels = add.levels;
          stack_is = add.stack_is;
          children_are = add.children_are;
          holds = add.holds;
          ways = add.ways;
          leaves_are = ap (λ xs. xs ++ can.leaf ∷ rest) add.leaves_are ∙ append_assoc (open_leaves can.up_to.levels) (last_of bytes P arena spine last (can.leaf ∷ rest) ls can.up_to ∷ []) (can.leaf ∷ rest) ∙ can.up_to.leaves_are;
        }

  -- a leaf links to the next one
  pub links-on : (old now : Arena K V) (front : List (LeafAt K V)) (l : LeafAt K V) (rest ls : List (LeafAt K V)) (node : LeafNode K V) → front ++ l ∷ rest ≡ ls → AreLinked (links_at old) None ls None → SameLeaves old now
      → held_at now (leaf_name l.slot) ≡ Some (leaf_held node) → node.next ≡ first_slot rest None
  links-on old now front l rest ls node is linked same held =
      let right = AreLinked-right (links_at old) None front (l ∷ rest) None (subst (λ xs. AreLinked (links_at old) None xs None) (sym is) linked) in
      ap (λ (n : Links). n.next) (sym (links-are (held_at now (leaf_name l.slot)) node _ held (ap links_of (same l.slot) ∙ right.0)))

  pub none-left : (rest : List (LeafAt K V)) → first_slot rest None ≡ None → rest ≡ []
  none-left [] e = refl
  none-left (m ∷ rest) e = absurd (cc)

  -- what stands first of a list
  pub record StartsWith (rest : List (LeafAt K V)) (next : ℕ) : Type 0 where
    pub leaf : LeafAt K V
    pub more : List (LeafAt K V)
    pub is : rest ≡ leaf ∷ more
    pub named : leaf.slot ≡ next

  pub some-left : (rest : List (LeafAt K V)) (next : ℕ) → first_slot rest None ≡ Some next → StartsWith rest next
  some-left [] next e = absurd (cc)
  some-left (m ∷ rest) next e = record { leaf = m; more = rest; is = refl; named = cc }

  module _ (old now : Arena K V) (spine : Spine) (last left leaves : ℕ) (first : Option ℕ) (ls : List (LeafAt K V)) (order : HoldsInOrder bytes old first ls) (same : SameLeaves old now) (are : ArePassed now spine last left leaves ls) (node : LeafNode K V)
      (held : held_at now (leaf_name last) ≡ Some (leaf_held node)) where
    pub follows : node.next ≡ first_slot are.rest None
    follows = links-on old now (open_leaves are.up_to.levels) (last_of bytes P now spine last are.rest ls are.up_to) are.rest ls node are.up_to.leaves_are order.holds.linked same held

    -- without a next leaf all are passed
    pub all-passed : node.next ≡ None → RebuildsUpTo bytes P now spine last [] ls
    all-passed none = subst (λ rest. RebuildsUpTo bytes P now spine last rest ls) (none-left are.rest (sym follows ∙ none)) are.up_to

    -- else the next one can be passed, and one fewer is left
    module _ (next : ℕ) (some : node.next ≡ Some next) where
      pub start : StartsWith are.rest next
      start = some-left are.rest next (sym follows ∙ some)

      pub can-pass : CanPass bytes P now spine last next start.more ls
      can-pass = record { leaf = start.leaf; named = start.named; up_to = subst (λ rest. RebuildsUpTo bytes P now spine last rest ls) start.is are.up_to; ascends = order.ascends }

      pub one-passed : (new : Arena K V) (after : Spine) (fewer : ℕ) → RebuildsUpTo bytes P new after next start.more ls → fewer ≡ left - 1 → ArePassed new after next fewer leaves ls
      one-passed new after fewer up_to fewer_is = record {
        rest = start.more;
        up_to = up_to;
        count = λ most. let count = are.count most in let more = ap length start.is in omega (arith, count, most, more, fewer_is);
      }

  -- where all are passed and the last node is made, the arena has their tree
  pub rebuilt : (old now new : Arena K V) (spine after : Spine) (first : Option ℕ) (last : ℕ) (root : Name) (ls : List (LeafAt K V)) (order : HoldsInOrder bytes old first ls) (is : RebuildsUpTo bytes P now spine last [] ls)
      → HasSpine bytes P new after [] last 0 root (bytes is.key) (passed bytes P now spine last [] ls is) → begin_of 0 after.stack.items ≡ 0 → SameLeaves old now → SameLeaves now new → HasPairs bytes P new (Some root) (pairs_of ls)
  rebuilt old now new spine after first last root ls order is has closed same also =
      whole bytes P new after last root (bytes is.key) ls (subst (HasSpine bytes P new after [] last 0 root (bytes is.key)) is.leaves_are has) closed
      (AreLinked-same (links_at old) (links_at new) (λ slot. ap links_of (also slot ∙ same slot)) None ls None order.holds.linked)

  -- where there is no leaf there is no tree
  pub none-rebuilt : (arena : Arena K V) (ls : List (LeafAt K V)) → HoldsInOrder bytes arena None ls → HasPairs bytes P arena None (pairs_of ls)
  none-rebuilt arena [] order = (refl, holds-only (node_at arena) [] order.holds.holds)
  none-rebuilt arena (l ∷ ls) order = let none = order.first_is in absurd (cc)
