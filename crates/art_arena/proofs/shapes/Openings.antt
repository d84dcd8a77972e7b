-- The branches around the place of a byte that none has: where a new child goes.
use Rattle.std.proofs.Common.{◌≡◌, ℕ, suc, ◌+◌, List, ◌∷◌, ◌++◌, None, refl, ap, inl, inr, arith}
use Rattle.std.proofs.lemmas.Bool.{cases_order}
use Rattle.std.proofs.lemmas.Bool.Decides.{eqb_tells, leb_tells}
use Rattle.art_nodes.proofs.Common.{Name, child_at, with_child, without_child}
use Rattle.art_arena.proofs.Terms.{Branches, no_branch, branch, name_of, children_at, join, AreUnder, AreBelow}

module _ {K V : Type 0} (bytes : K → List ℕ) where
  pub record Opening (kids : Branches K V) (b : ℕ) (path : List ℕ) (low : ℕ) : Type 0 where
    pub before : Branches K V
    pub after : Branches K V
    pub kids_are : kids ≡ join before after
    pub below : AreBelow b before
    pub before_under : AreUnder bytes path low before
    pub after_under : AreUnder bytes path (b + 1) after

  pub opening : (kids : Branches K V) (b : ℕ) (path : List ℕ) (low : ℕ) → AreUnder bytes path low kids → child_at (children_at kids) b ≡ None → Opening kids b path low
  opening no_branch b path low under missing = record { before = no_branch; after = no_branch; kids_are = refl; below = tt; before_under = tt; after_under = tt }
  opening (branch c s rest) b path low under missing = elim (eqb_tells c b) [
    | inl same ↦ absurd (let e = rw same.0 at missing in cc)
    | inr other ↦ elim (cases_order c b) [
      | inl e ↦ absurd (other.1 e)
      | inr (inl less) ↦
          let later = opening rest b path (c + 1) under.2 (rw other.0 at missing) in
          record {
            before = branch c s later.before;
            after = later.after;
            kids_are = ap (branch c s) later.kids_are;
            below = (less, later.below);
            before_under = (under.0, under.1, later.before_under);
            after_under = later.after_under;
          }
      | inr (inr less) ↦ record {
        before = no_branch;
        after = branch c s rest;
        kids_are = refl;
        below = tt;
        before_under = tt;
        after_under = (omega (arith, less), under.1, under.2);
      }
    ]
  ]

  -- the children with a new one in an opening
  pub with_child-opening : (b : ℕ) (n : Name) (before after : Branches K V) (path : List ℕ) → AreBelow b before → AreUnder bytes path (b + 1) after
      → with_child (children_at (join before after)) b n ≡ children_at before ++ (b, n) ∷ children_at after
  with_child-opening b n no_branch no_branch path below under = refl
  with_child-opening b n no_branch (branch c s rest) path below under = elim (leb_tells (suc c) b) [
    | inl less ↦ absurd (omega (arith, less.1, under.0))
    | inr more ↦ elim (eqb_tells c b) [ inl same ↦ absurd (omega (arith, same.1, under.0)) | inr other ↦ rw (more.0, other.0) refl ]
  ]
  with_child-opening b n (branch c s before) after path below under = elim (leb_tells (suc c) b) [
    | inl less ↦ rw less.0 (ap (λ xs. (c, name_of s) ∷ xs) (with_child-opening b n before after path below.1 under))
    | inr more ↦ absurd (omega (arith, more.1, below.0))
  ]

  -- the children without the one of a frame
  pub without_child-frame : (b : ℕ) (m : Name) (f : Branches K V) (after : List (ℕ × Name)) → AreBelow b f → without_child (children_at f ++ (b, m) ∷ after) b ≡ children_at f ++ after
  without_child-frame b m no_branch after below = elim (eqb_tells b b) [ inl y ↦ rw y.0 refl | inr o ↦ absurd (o.1 refl) ]
  without_child-frame b m (branch c s f) after below = elim (eqb_tells c b) [
    | inl same ↦ absurd (omega (arith, same.1, below.0))
    | inr other ↦ rw other.0 (ap (λ xs. (c, name_of s) ∷ xs) (without_child-frame b m f after below.1))
  ]
