-- Each leaf of a tree stands at a place.
use Rattle.std.proofs.Common.{◌≡◌, ℕ, zero, suc, ◌+◌, ◌≤◌, ◌⊎◌, inl, inr, List, [], take, refl, sym, ap, subst, arith}
use Rattle.std.proofs.lemmas.Bool.Decides.{eqb_tells}
use Rattle.art_nodes.proofs.Common.{Name}
use Rattle.art_arena.proofs.Terms.{Frame, IsLeafPlace, times, IsPlace, Shape, Branches, leaf_at, inner_at, no_branch, branch, join, leaves, leaves_in, IsUnder, Step, steps_to}
use Rattle.art_arena.proofs.shapes.EndWalks.{place_below}
use Rattle.art_arena.proofs.shapes.LinkedLists.{times-append}
use Rattle.art_arena.proofs.shapes.Places.{at-root}

join-one : {K V : Type 0} (f : Branches K V) (b : ℕ) (t : Shape K V) (rest : Branches K V) → join (join f (branch b t no_branch)) rest ≡ join f (branch b t rest)
join-one no_branch b t rest = refl
join-one (branch c u f) b t rest = ap (branch c u) (join-one f b t rest)

one-of : (m n : ℕ) → 1 ≤ m + n → (1 ≤ m) ⊎ (1 ≤ n)
one-of zero n some = inr (omega (arith, some))
one-of (suc m) n some = inl (omega arith)

module _ {K V : Type 0} (bytes : K → List ℕ) (whole : Shape K V) (slot : ℕ) where
  -- the leaf with this slab key stands somewhere
  pub record HasPlace : Type 0 where
    pub last : List Step
    pub place : IsLeafPlace bytes whole slot last

  mutual
    stands-below : (ctx : List (Frame K V)) (part : Shape K V) → IsPlace bytes whole ctx part → 1 ≤ times slot (leaves part) → HasPlace
    stands-below ctx (leaf_at n k v) place some = elim (eqb_tells slot n) [
      | inl same ↦
          record { last = take 2 (steps_to ctx); place = record { ctx = ctx; key = k; value = v; place = subst (λ m. IsPlace bytes whole ctx (leaf_at m k v)) (sym same.1) place; steps = refl } }
      | inr other ↦ absurd (omega (arith, rw other.0 at some))
    ]
    stands-below ctx (inner_at n prefix kids) place some = stands-in ctx n prefix no_branch kids place some

    stands-in : (ctx : List (Frame K V)) (n : Name) (prefix : List ℕ) (before rest : Branches K V) → IsPlace bytes whole ctx (inner_at n prefix (join before rest)) → 1 ≤ times slot (leaves_in rest) → HasPlace
    stands-in ctx n prefix before no_branch place some = absurd (omega (arith, some))
    stands-in ctx n prefix before (branch b t rest) place some = elim (one-of (times slot (leaves t)) (times slot (leaves_in rest)) (omega (arith, some, times-append slot (leaves t) (leaves_in rest)))) [
      | inl here ↦ stands-below _ t (place_below bytes whole ctx n prefix (join before (branch b t rest)) before b t rest place refl) here
      | inr later ↦ stands-in ctx n prefix (join before (branch b t no_branch)) rest (subst (λ f. IsPlace bytes whole ctx (inner_at n prefix f)) (sym (join-one before b t rest)) place) later
    ]

  -- a leaf of the whole stands at a place of it
  pub leaf-stands : IsUnder bytes [] whole → 1 ≤ times slot (leaves whole) → HasPlace
  leaf-stands under some = stands-below [] whole (at-root bytes whole under) some
