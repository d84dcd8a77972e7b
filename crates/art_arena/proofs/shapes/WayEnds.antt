-- Where a key's way by all its bytes stands, and where it ends.
use Rattle.std.proofs.Common.{◌≡◌, ℕ, ◌+◌, ◌-◌, ◌^◌, ◌||◌, min, List, [], ◌∷◌, ◌++◌, drop, is_some, Option, None, Some, refl, ap, subst, ◌∙◌, ◌≤◌, arith}
use Rattle.art_bytes.proofs.Common.{BeginsWith}
use Rattle.art_nodes.proofs.Common.{InnerNode, Name}
use Rattle.art_arena.proofs.Terms.{Cell, branches, pair, GoesOn, IsAtDepth, IsSubtree, Shape, Stops, descent_reads, erase, guide_cost, is_cut, prefix_of, ReadsExactly, way_of}
use Rattle.art_arena.proofs.shapes.Guides.{way-child}
use Rattle.art_arena.proofs.shapes.Places.{leaf-there}
use Rattle.art_arena.proofs.shapes.Reads.{cost_none}
use Rattle.art_arena.proofs.shapes.WayReads.{IsYetToRead, left-ends, left-start, left-step, way-stops}

module _ {X K V : Type 0} (bytes : K → List ℕ) (P : ℕ) (at : Name → Option (Cell K V)) (key : List ℕ) (s : Shape K V) (start : ℕ) where
  -- the way has come to this name, after so many bytes of the key; what is left of it is left there
  pub record IsAlongWay (guide : Option X) (current : Name) (depth count : ℕ) : Type 0 where
    pub path : List ℕ
    pub part : Shape K V
    pub stands : IsAtDepth bytes P at current depth path part
    pub begins : BeginsWith path key
    pub left : IsYetToRead guide P (erase s) key start (erase part) (drop depth key) count

  pub way-begins : (root : Name) → IsSubtree bytes P at root [] s → IsAlongWay None root 0 start
  way-begins root tree = record {
    path = [];
    part = s;
    stands = record { subtree = tree; path_len = refl };
    begins = (key, refl);
    left = left-start P (erase s) key start;
  }

  module _ (old : Option X) (current : Name) (depth count : ℕ) (way : IsAlongWay old current depth count) (mid now : ℕ) (one : mid ≡ min (count + 1) (2 ^ 64 - 1)) (reads : ReadsExactly (guide_cost old P (erase way.part) (drop depth key)) mid now) where
    -- from an inner node that was read it goes on
    pub way-on : (new : Option X) (node : InnerNode) → at current ≡ Some (branches node) → (b : ℕ) (child : Name) (next : ℕ) → GoesOn key depth node b child next → BeginsWith ((way.path ++ prefix_of way.part) ++ b ∷ []) key
        → is_some new ≡ (is_some old || is_cut P (erase way.part)) → IsAlongWay new child next now
    way-on new node there b child next goes begins found =
        let onto = way-child bytes P at key current depth way.path way.part way.stands node there b child next goes begins in
        record {
          path = (way.path ++ prefix_of way.part) ++ b ∷ [];
          part = onto.part;
          stands = onto.stands_there;
          begins = begins;
          left = left-step P (erase s) key start old new (erase way.part) (erase onto.part) (drop depth key) (drop next key) count mid now way.left onto.goes_on found reads one;
        }

    -- or it ends there
    pub way-ended : Stops bytes key way.path way.part → ReadsExactly (descent_reads P (erase s) key) start now
    way-ended stops =
        let last : way_of (erase way.part) (drop depth key) ≡ (erase way.part, drop depth key) ∷ [] =
        subst (λ d. way_of (erase way.part) (drop d key) ≡ (erase way.part, drop d key) ∷ []) way.stands.path_len (way-stops bytes key way.path way.part way.begins stops) in
        left-ends P (erase s) key start old (erase way.part) (drop depth key) count mid now way.left last reads one

-- a leaf has no prefix
pub leaf_cost : {X K V : Type 0} (bytes : K → List ℕ) (P : ℕ) (at : Name → Option (Cell K V)) (g : Option X) (current : Name) (path : List ℕ) (part : Shape K V) → IsSubtree bytes P at current path part → (k : K) (v : V) → at current ≡ Some (pair k v)
    → (rest : List ℕ) (count : ℕ) → count ≤ 2 ^ 64 - 1 → ReadsExactly (guide_cost g P (erase part) rest) count count
leaf_cost bytes P at g current path part sub k v there rest count most =
    let is = leaf-there P at part k v sub.part.held (ap at sub.part.named ∙ there) in
    let none = cost_none g P (erase part) rest (ap (λ t. is_cut P (erase t)) is) in
    omega (arith, none, most)
