-- The counted walks that lend values: a step is what the contracts say of it.
use Rattle.std.proofs.Common.{◌≡◌, ℕ, ◌-◌, length, Option, Some, sym, subst, ◌∙◌}
use Rattle.std.specs.Coded.{coded_ℕ}
use base.Stored.{Coded-set}
use mathlib.Core.Logic.{∥∥₁_prop, ∥∥₁_elim}
use Rattle.art_bytes.specs.declared.as_bytes.AsBytes as as_bytes
use Rattle.art_arena.specs.declared.ends.End.{End}
use Rattle.art_arena.specs.declared.ends.End.TheVariants.{First, Last}
use Rattle.art_walks.proofs.Common.{Ends, leaves_left}
use Rattle.art_walks.proofs.Counted.{counted-length}
use Rattle.art_map.proofs.Terms.{Contents, with_value_at, left_at, run_pairs, slot_at, IsRunIn, with_lent_value, counted_left, counted_unwritten}
use Rattle.art_map.specs.LentIters.{iter_before, iter_after, iter_left, IsIterEnd}
use Rattle.art_map.specs.declared.map.iter_mut.IterMut.{IterMut}
use Rattle.art_map.proofs.LentWalks.{LendsAt, of-leaf, to-leaf}

module _ {K V : Type 0} (m : Contents K V) (ends : Ends) (run : ∥ IsRunIn m ends ∥₁) (len : ℕ) (counted : len ≡ leaves_left m.nodes ends) where
  -- one fewer is left, whether the value of the leaf at the end is written or not
  module _ (end : End) (new : Ends) (left : new ≡ left_at end m ends) where
    pub fewer-left : len - 1 ≡ leaves_left m.nodes new
    fewer-left = subst (λ e. len - 1 ≡ leaves_left m.nodes e) (sym left) (counted_unwritten m end ends run len counted)

    pub fewer-lent : (slot : ℕ) → Some slot ≡ slot_at end ends → (w : V) → len - 1 ≡ leaves_left (with_value_at m slot w).nodes new
    fewer-lent slot here w = to-leaf slot new (λ o e. len - 1 ≡ leaves_left (with_lent_value m o w).nodes e) here left (counted_left m end ends run w len counted)

  -- so many pairs are still to come
  pub len-is : len ≡ length (run_pairs m ends)
  len-is = counted ∙ ∥∥₁_elim run (Coded-set coded_ℕ _ _) (λ r. sym (counted-length m.nodes ends (leaves_left m.nodes ends) r))

module _ {K V : Type 0} {P : ℕ} {g : as_bytes.Ghosts K} (walk : IterMut K V P g) (slot : ℕ) (new : Ends) where
  -- what a walk remembers does not tell it from another
  abbrev Lands : V → IterMut K V P g → Option ℕ → Ends → Type 0
  Lands w d o e = (valid : ∥ IsRunIn (with_lent_value walk.map.now o w) e ∥₁) (counted : walk.len - 1 ≡ leaves_left (with_lent_value walk.map.now o w).nodes e)
      → ◌≡◌ {A = IterMut K V P g} (record {
        map = record walk.map { now = with_lent_value walk.map.now o w };
        leaves = e;
        len = walk.len - 1;
        ahead
            = walk.ahead;
        valid = valid;
        counted = counted;
      }) d

  pub same-left : (end : End) → Some slot ≡ slot_at end walk.leaves → new ≡ left_at end walk.map.now walk.leaves → (w : V) → Lands w (iter_left end walk w) (Some slot) new
  same-left First here left w =
      let d = iter_after walk w in
      to-leaf slot new (Lands w d) here left (λ valid counted i. record { map = d.map; leaves = d.leaves; len = d.len; ahead = d.ahead; valid = ∥∥₁_prop valid d.valid i; counted = Coded-set coded_ℕ _ _ counted d.counted i })
  same-left Last here left w =
      let d = iter_before walk w in
      to-leaf slot new (Lands w d) here left (λ valid counted i. record { map = d.map; leaves = d.leaves; len = d.len; ahead = d.ahead; valid = ∥∥₁_prop valid d.valid i; counted = Coded-set coded_ℕ _ _ counted d.counted i })

  -- the pair that is lent
  pub is-lent : (end : End) → Some slot ≡ slot_at end walk.leaves → new ≡ left_at end walk.map.now walk.leaves → (p : K × V) → LendsAt g.bytes walk.map.now end walk.leaves p (Some slot) new → IsIterEnd end walk p
  is-lent First here left p lent = let is = of-leaf slot new (LendsAt g.bytes walk.map.now First walk.leaves p) here left lent in record { rest_is = is.0; pairs = is.1; room = is.2 }
  is-lent Last here left p lent = let is = of-leaf slot new (LendsAt g.bytes walk.map.now Last walk.leaves p) here left lent in record { rest_is = is.0; pairs = is.1; room = is.2 }
