-- The walks that lend values: a step is what the contracts say of it.
use Rattle.std.proofs.Common.{◌≡◌, ℕ, List, Option, Some, sym, subst}
use mathlib.Core.Logic.{∥∥₁_prop}
use Rattle.art_bytes.specs.declared.as_bytes.AsBytes as as_bytes
use Rattle.art_arena.proofs.Common.{KeepsRoomOf}
use Rattle.art_arena.specs.declared.ends.End.{End}
use Rattle.art_arena.specs.declared.ends.End.TheVariants.{First, Last}
use Rattle.art_operations.proofs.Common.{IsAtEnd, with_pair_put}
use Rattle.art_walks.proofs.Common.{Ends}
use Rattle.art_map.proofs.Terms.{Contents, with_value_at, left_at, run_pairs, slot_at, IsRunIn, with_lent_value, still_left, still_unwritten}
use Rattle.art_map.specs.LentWalks.{range_before, range_after, range_left, IsRangeEnd}
use Rattle.art_map.specs.declared.map.walks_mut.RangeMut.{RangeMut}

-- what is so of the end of a run, and of what is left of it, is so of the leaf that stands there, and the other way round
module _ (slot : ℕ) (new : Ends) {o : Option ℕ} {e : Ends} (At : Option ℕ → Ends → Type 0) (here : Some slot ≡ o) (left : new ≡ e) where
  pub to-leaf : At o e → At (Some slot) new
  to-leaf is = subst (λ x. At x new) (sym here) (subst (At o) (sym left) is)

  pub of-leaf : At (Some slot) new → At o e
  of-leaf is = subst (λ x. At x e) here (subst (At (Some slot)) left is)

-- what is left is a run, whether the value of the leaf at the end is written or not
module _ {K V : Type 0} (m : Contents K V) (end : End) (ends new : Ends) (run : ∥ IsRunIn m ends ∥₁) (left : new ≡ left_at end m ends) where
  pub run-left : ∥ IsRunIn m new ∥₁
  run-left = subst (λ e. ∥ IsRunIn m e ∥₁) (sym left) (still_unwritten m end ends run)

  pub run-lent : (slot : ℕ) → Some slot ≡ slot_at end ends → (w : V) → ∥ IsRunIn (with_value_at m slot w) new ∥₁
  run-lent slot here w = to-leaf slot new (λ o e. ∥ IsRunIn (with_lent_value m o w) e ∥₁) here left (still_left m end ends run w)

-- a walk whose map and run these are lends the pair
abbrev pub LendsAt : {K V : Type 0} → (K → List ℕ) → Contents K V → End → Ends → K × V → Option ℕ → Ends → Type 0
LendsAt {K} {V} bytes m end ends p o e =
    ((w : V) → IsAtEnd end p (run_pairs (with_lent_value m o w) e) (run_pairs m ends)) × ((w : V) → (with_lent_value m o w).pairs ≡ with_pair_put bytes p.0 w m.pairs)
    × ((w : V) → KeepsRoomOf m.nodes (with_lent_value m o w).nodes)

module _ {K V : Type 0} {P : ℕ} {g : as_bytes.Ghosts K} (walk : RangeMut K V P g) (slot : ℕ) (new : Ends) where
  -- what a walk remembers does not tell it from another
  abbrev Lands : V → RangeMut K V P g → Option ℕ → Ends → Type 0
  Lands w d o e = (valid : ∥ IsRunIn (with_lent_value walk.map.now o w) e ∥₁) → ◌≡◌ {A = RangeMut K V P g} (record { map = record walk.map { now = with_lent_value walk.map.now o w }; leaves = e; ahead = walk.ahead; valid = valid }) d

  pub same-left : (end : End) → Some slot ≡ slot_at end walk.leaves → new ≡ left_at end walk.map.now walk.leaves → (w : V) → Lands w (range_left end walk w) (Some slot) new
  same-left First here left w =
      let d = range_after walk w in
      to-leaf slot new (Lands w d) here left (λ valid i. record { map = d.map; leaves = d.leaves; ahead = d.ahead; valid = ∥∥₁_prop valid d.valid i })
  same-left Last here left w =
      let d = range_before walk w in
      to-leaf slot new (Lands w d) here left (λ valid i. record { map = d.map; leaves = d.leaves; ahead = d.ahead; valid = ∥∥₁_prop valid d.valid i })

  -- the pair that is lent
  pub is-lent : (end : End) → Some slot ≡ slot_at end walk.leaves → new ≡ left_at end walk.map.now walk.leaves → (p : K × V) → LendsAt g.bytes walk.map.now end walk.leaves p (Some slot) new → IsRangeEnd end walk p
  is-lent First here left p lent = let is = of-leaf slot new (LendsAt g.bytes walk.map.now First walk.leaves p) here left lent in record { rest_is = is.0; pairs = is.1; room = is.2 }
  is-lent Last here left p lent = let is = of-leaf slot new (LendsAt g.bytes walk.map.now Last walk.leaves p) here left lent in record { rest_is = is.0; pairs = is.1; room = is.2 }
