-- What is left of a key's way by all its bytes, and how much of it is read.
use Rattle.std.proofs.Common.{◌≡◌, ℕ, ◌+◌, ◌-◌, ◌^◌, ◌||◌, min, true, false, List, [], ◌∷◌, ◌++◌, length, drop, is_some, Option, Some, None, refl, sym, ap, ◌∙◌, inl, inr, arith, append_assoc, eq-eqb}
use Rattle.std.proofs.lemmas.Bool.{cond-true}
use Rattle.std.proofs.lemmas.Bool.Decides.{eqb_tells}
use Rattle.art_bytes.proofs.Common.{BeginsWith}
use Rattle.art_nodes.proofs.Common.{Name}
use Rattle.art_arena.proofs.Terms.{Shape, Branches, leaf_at, inner_at, no_branch, branch, join, erase, erase_in, AreBelow, Tree, Stops, pass, passes, is_cut, guide_cost, guide_reads, descent_reads, path_to_guide, way_in, way_of, ReadsExactly}
use Rattle.art_arena.proofs.tree.Landing.{Passed, pass_says, end, other, on}
use Rattle.art_arena.proofs.shapes.Finding.{Avoid, avoid-missing}
use Rattle.art_arena.proofs.shapes.Passing.{following}

-- what a descent with this guide, if it has one, has still to read
abbrev pub left_reads : {X Y : Type 0} → Option X → ℕ → Tree Y → List ℕ → ℕ
left_reads None P t k = descent_reads P t k
left_reads (Some guide) P t k = length (way_of t k)

-- What is left to read is what the rest of the way reads, from this part on.
pub record IsYetToRead {X Y : Type 0} (guide : Option X) (P : ℕ) (whole : Tree Y) (key : List ℕ) (start : ℕ) (part : Tree Y) (rest : List ℕ) (count : ℕ) : Type 0 where
  pub total : min (start + descent_reads P whole key) (2 ^ 64 - 1) ≡ min (count + left_reads guide P part rest) (2 ^ 64 - 1)

module _ {X Y : Type 0} (P : ℕ) (whole : Tree Y) (key : List ℕ) (start : ℕ) where
  pub left-start : IsYetToRead {X = X} None P whole key start whole key start
  left-start = record { total = refl }

  total_step : (old new : Option X) (t u : Tree Y) (k r : List ℕ) (count mid now : ℕ) → way_of t k ≡ (t, k) ∷ way_of u r → is_some new ≡ (is_some old || is_cut P t) → ReadsExactly (guide_cost old P t k) mid now → mid ≡ min (count + 1) (2 ^ 64 - 1)
      → min (count + left_reads old P t k) (2 ^ 64 - 1) ≡ min (now + left_reads new P u r) (2 ^ 64 - 1)
  total_step (Some x) (Some y) t u k r count mid now goes found reads one = omega (arith, reads, one, ap length goes)
  total_step (Some x) None t u k r count mid now goes found reads one = absurd (cc)
  total_step None (Some y) t u k r count mid now goes found reads one =
      let cut : is_cut P t ≡ true = sym found in
      let cost : guide_cost {X = X} None P t k ≡ length (path_to_guide t k) - 1 = rw cut refl in
      let all : guide_reads P (way_of t k) ≡ length (path_to_guide t k) - 1 = rw (goes, cut) refl in
      omega (arith, reads, one, cost, all, ap length goes)
  total_step None None t u k r count mid now goes found reads one =
      let stored : is_cut P t ≡ false = sym found in
      let cost : guide_cost {X = X} None P t k ≡ 0 = rw stored refl in
      let all : guide_reads P (way_of t k) ≡ guide_reads P (way_of u r) = rw (goes, stored) refl in
      omega (arith, reads, one, cost, all, ap length goes)

  -- from a node that was read the way goes on
  pub left-step : (old new : Option X) (t u : Tree Y) (k r : List ℕ) (count mid now : ℕ) → IsYetToRead old P whole key start t k count → way_of t k ≡ (t, k) ∷ way_of u r → is_some new ≡ (is_some old || is_cut P t)
      → ReadsExactly (guide_cost old P t k) mid now → mid ≡ min (count + 1) (2 ^ 64 - 1) → IsYetToRead new P whole key start u r now
  left-step old new t u k r count mid now left goes found reads one = record {
    total = left.total ∙ total_step old new t u k r count mid now goes found reads one;
  }

  -- or ends there
  pub left-ends : (old : Option X) (t : Tree Y) (k : List ℕ) (count mid now : ℕ) → IsYetToRead old P whole key start t k count → way_of t k ≡ (t, k) ∷ [] → ReadsExactly (guide_cost old P t k) mid now → mid ≡ min (count + 1) (2 ^ 64 - 1)
      → ReadsExactly (descent_reads P whole key) start now
  left-ends old t k count mid now left last reads one = all old reads left.total
    where
      all : (old : Option X) → ReadsExactly (guide_cost old P t k) mid now → min (start + descent_reads P whole key) (2 ^ 64 - 1) ≡ min (count + left_reads old P t k) (2 ^ 64 - 1) → ReadsExactly (descent_reads P whole key) start now
      all (Some x) reads total = omega (arith, reads, one, total, ap length last)
      all None reads total =
          let same : guide_reads P (way_of t k) ≡ guide_cost {X = X} None P t k = rw last refl in
          omega (arith, reads, one, total, same, ap length last)

-- the key has the prefix and a byte after it
pub pass_on : (prefix : List ℕ) (b : ℕ) (r : List ℕ) → pass prefix (prefix ++ b ∷ r) ≡ passes b r
pass_on [] b r = refl
pass_on (a ∷ prefix) b r = cond-true _ _ _ (eq-eqb a a refl) ∙ pass_on prefix b r

module _ {K V : Type 0} where
  way_in-step : (before : Branches K V) (b : ℕ) (here : Shape K V) (after : Branches K V) (rest : List ℕ) → AreBelow b before → way_in (erase_in (join before (branch b here after))) b rest ≡ way_of (erase here) rest
  way_in-step no_branch b here after rest below = elim (eqb_tells b b) [ inl same ↦ rw same.0 refl | inr apart ↦ absurd (apart.1 refl) ]
  way_in-step (branch c s before) b here after rest below = elim (eqb_tells b c) [
    | inl same ↦ absurd (omega (arith, same.1, below.0))
    | inr apart ↦ rw apart.0 (way_in-step before b here after rest below.1)
  ]

  -- the way goes on to the child of the key's next byte
  pub way-goes : (n : Name) (prefix : List ℕ) (kids before : Branches K V) (b : ℕ) (here : Shape K V) (after : Branches K V) (key r : List ℕ) → kids ≡ join before (branch b here after) → AreBelow b before → key ≡ prefix ++ b ∷ r
      → way_of (erase (inner_at n prefix kids)) key ≡ (erase (inner_at n prefix kids), key) ∷ way_of (erase here) r
  way-goes n prefix kids before b here after key r whole below is =
      let passed : pass prefix key ≡ passes b r = ap (pass prefix) is ∙ pass_on prefix b r in
      rw passed (ap (λ w. (erase (inner_at n prefix kids), key) ∷ w) (ap (λ f. way_in (erase_in f) b r) whole ∙ way_in-step before b here after r below))

  module _ (bytes : K → List ℕ) (key : List ℕ) where
    way_in-missing : (f : Branches K V) (b : ℕ) (rest : List ℕ) → Avoid bytes key b f → way_in (erase_in f) b rest ≡ []
    way_in-missing no_branch b rest avoid = refl
    way_in-missing (branch c s f) b rest avoid = elim (eqb_tells b c) [
      | inl same ↦ absurd (avoid.0 (sym same.1))
      | inr apart ↦ rw apart.0 (way_in-missing f b rest avoid.1)
    ]

    -- where the key goes no further, the way ends
    pub way-stops : (path : List ℕ) (s : Shape K V) → BeginsWith path key → Stops bytes key path s → way_of (erase s) (drop (length path) key) ≡ (erase s, drop (length path) key) ∷ []
    way-stops path (leaf_at slot k v) begins stops = refl
    way-stops path (inner_at n prefix kids) begins stops = at (drop (length path) key) (following path key (length path) refl begins) (pass_says prefix (drop (length path) key))
      where
        at : (rest : List ℕ) → key ≡ path ++ rest → Passed prefix rest → way_of (erase (inner_at n prefix kids)) rest ≡ (erase (inner_at n prefix kids), rest) ∷ []
        at rest is (end p s f) = rw p refl
        at rest is (other p z a r b s f g apart) = rw p refl
        at rest is (on b r p f) =
            let spelled : key ≡ ((path ++ prefix) ++ b ∷ []) ++ r = is ∙ ap (λ m. path ++ m) f ∙ sym (append_assoc path prefix (b ∷ r)) ∙ sym (append_assoc (path ++ prefix) (b ∷ []) r) in
            let missing = stops n prefix kids refl b (r, spelled) in
            rw (p, way_in-missing kids b r (avoid-missing bytes key b kids missing)) refl
