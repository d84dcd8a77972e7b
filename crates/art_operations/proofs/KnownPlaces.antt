-- What is known of a key's place while the arena is lent: the place again, and the leaf that has the key.
use Rattle.std.specs.Prelude.{MatchOption}
use Rattle.std.proofs.Common.{◌≡◌, ◌≢◌, ℕ, List, [], ◌∷◌, ◌++◌, bytes_eq, Option, Some, None, refl, sym, ap, subst, ◌∙◌, append-nil}
use Rattle.std.specs.Coded.{coded_option}
use base.Stored.{Coded-set, coded_ℕ}
use mathlib.Core.HLevel.{⊥_prop}
use mathlib.Core.Logic.{∥∥₁_elim, ∥∥₁_prop}
use Rattle.art_bytes.proofs.Common.{IsBefore, before_not_self}
use Rattle.art_nodes.proofs.Common.{Name}
use Rattle.art_arena.proofs.Common.{Arena, node_at, Cell, path_to, leaves_before, leaves_after, leaf_where, Shape, LeafAt, leaves, StoresBeside, leaves-plug, same_key, other_key, nodes-subtree, ctx-before, all_weaker}
use Rattle.art_operations.proofs.Terms.{CanPut, HasPairsBeside, IsPlaceFor, IsPoint, MeetsAt, InsertPoint, FindsLeaf}
use Rattle.art_operations.specs.declared.insert.point.InsertKind.TheVariants as kind
use Rattle.art_operations.proofs.DecidedPoints.{decided, is-point}
use Rattle.art_operations.proofs.NotStored.{HaveOthers, not-stored}

module _ {K V : Type 0} (bytes : K → List ℕ) (key : List ℕ) where
  -- leaves with other keys are passed over
  past : (ls rest : List (LeafAt K V)) → HaveOthers bytes key ls → leaf_where bytes (λ k. bytes_eq k key) (ls ++ rest) ≡ leaf_where bytes (λ k. bytes_eq k key) rest
  past [] rest others = refl
  past (l ∷ ls) rest others = rw (other_key (bytes l.key) key others.0) (past ls rest others.1)

  -- the leaf that is met is the first that has the key
  met-first : (s : Shape K V) (point : InsertPoint) → IsPoint bytes key s point → (slot : ℕ) → point.insert_kind ≡ kind.Exact slot → Some slot ≡ leaf_where bytes (λ k. bytes_eq k key) (leaves s)
  met-first s point at slot exact =
      let (k, v, is, same) = subst (MeetsAt bytes key (path_to at.ctx) at.part) exact at.meets in
      let place = at.toward.place in
      sym (
      ap (leaf_where bytes (λ k. bytes_eq k key)) (ap leaves place.is ∙ leaves-plug at.ctx at.part)
      ∙ past (leaves_before at.ctx) (leaves at.part ++ leaves_after at.ctx)
      (all_weaker _ (λ l. bytes l.key ≢ key) (λ l b e. before_not_self key (subst (λ k. IsBefore k key) e b)) (leaves_before at.ctx) (ctx-before bytes key at.ctx place.around at.toward.begins))
      ∙ rw (is, same_key (bytes k) key same) refl
      )

  -- and where none is met, none has it
  met-none : (s : Shape K V) (point : InsertPoint) → IsPoint bytes key s point → ((slot : ℕ) → point.insert_kind ≡ kind.Exact slot → ⊥) → None ≡ leaf_where bytes (λ k. bytes_eq k key) (leaves s)
  met-none s point at unmet = sym (ap (leaf_where bytes (λ k. bytes_eq k key)) (sym (append-nil (leaves s))) ∙ past (leaves s) [] (not-stored bytes key s point at unmet))

module _ {K V : Type 0} (bytes : K → List ℕ) (P : ℕ) (arena : Arena K V) (key : List ℕ) where
  -- where the key goes, it can be put
  pub can-put : (rest : List (Name × Cell K V)) (root : Option Name) (pairs : List (K × V)) → HasPairsBeside bytes P arena root pairs rest → (place : Option InsertPoint) → ∥ IsPlaceFor bytes P arena root key place ∥₁
      → CanPut bytes P arena place key pairs rest
  can-put rest None pairs has None known = has
  can-put rest None pairs has (Some point) known = absurd (∥∥₁_elim known ⊥_prop (λ x. x))
  can-put rest (Some root) pairs has None known = absurd (∥∥₁_elim known ⊥_prop (λ x. x))
  can-put rest (Some root) pairs (s, tree, e) (Some point) known =
      let is = decided (is-point bytes key s tree.nodes.under point) (∥∥₁_elim known ∥∥₁_prop (λ fits. fits s (nodes-subtree bytes P (node_at arena) root s tree.nodes))) in
      record { shape = s; is_tree = subst (λ n. StoresBeside bytes P arena n rest s) (sym tree.nodes.named ∙ is.named) tree; place = is; pairs_are = e }

  -- the leaf that is met is the one that a look-up finds
  pub met-found : (root : Name) (point : InsertPoint) → ∥ IsPlaceFor bytes P arena (Some root) key (Some point) ∥₁ → (found : Option ℕ) → MatchOption found ((slot : ℕ) → point.insert_kind ≡ kind.Exact slot → ⊥) (λ slot. point.insert_kind ≡ kind.Exact slot)
      → FindsLeaf bytes P arena root (λ k. bytes_eq k key) found
  met-found root point known found met s tree =
      ∥∥₁_elim (∥∥₁_elim known ∥∥₁_prop (λ fits. fits s tree)) (Coded-set (coded_option coded_ℕ) found (leaf_where bytes (λ k. bytes_eq k key) (leaves s))) (λ at. go at found met)
    where
      go : IsPoint bytes key s point → (found : Option ℕ) → MatchOption found ((slot : ℕ) → point.insert_kind ≡ kind.Exact slot → ⊥) (λ slot. point.insert_kind ≡ kind.Exact slot) → found ≡ leaf_where bytes (λ k. bytes_eq k key) (leaves s)
      go at None unmet = met-none bytes key s point at unmet
      go at (Some slot) exact = met-first bytes key s point at slot exact
