-- Whether a part is the one with a prefix can be decided. So where it is known that there is a proof, one is had.
use Rattle.std.proofs.Common.{◌≡◌, ℕ, List, [], ◌∷◌, take, Option, Some, None, refl, sym, ap, subst}
use Rattle.std.proofs.Math.Decide.{ℕ_discrete, map_dec}
use Rattle.std.specs.List.{AllByRecursion}
use mathlib.Core.Logic.{∥∥₁_elim, ∥∥₁_prop}
use mathlib.Core.Logic.Dec.{and}
use Rattle.art_bytes.proofs.Common.{BeginsWith}
use Rattle.art_nodes.proofs.Common.{Name}
use Rattle.art_arena.proofs.Common.{Arena, node_at, links_at, Cell, path_to, first_slot, last_slot, IsTreeBeside, Shape, LeafAt, name_of, leaves, IsUnder, Step, steps_of, steps_to, nodes-subtree, at-root, own_all}
use Rattle.art_operations.proofs.Terms.{IsSubtreeFor, IsSubtreePoint, SubtreeDeletePoint}
use Rattle.art_operations.proofs.DecidedPoints.{decided, lists, names, steps, begins, LiesBelow, below, at-here, outward, inward}
use Rattle.art_operations.proofs.Prefixed.{block_is, others_are, with-begin}

slots : Discrete (Option ℕ)
slots None None = yes refl
slots None (Some n) = no (λ e. cc)
slots (Some m) None = no (λ e. cc)
slots (Some m) (Some n) = map_dec (λ e. ap Some e) (λ e. cc) (ℕ_discrete m n)

module _ {K V : Type 0} (bytes : K → List ℕ) (front : List ℕ) where
  abbrev AllBegin : List (LeafAt K V) → Type 0
  AllBegin ls = AllByRecursion (λ l. BeginsWith front (bytes l.key)) ls

  all : (ls : List (LeafAt K V)) → Dec (AllBegin ls)
  all [] = yes tt
  all (l ∷ ls) = and (begins front (bytes l.key)) (all ls)

  module _ (point : SubtreeDeletePoint) where
    -- the part with this name is here, and has these ends, and no key that doesn't begin with the prefix
    abbrev IsHere : List Step → List ℕ → Shape K V → Type 0
    IsHere above path s =
        (take 2 above ≡ steps_of point.path)
        × ((name_of s ≡ point.subtree)
        × ((first_slot (leaves s) None ≡ Some point.first_leaf) × ((last_slot None (leaves s) ≡ Some point.last_leaf) × AllBegin (leaves s))))

    here : (above : List Step) (path : List ℕ) (s : Shape K V) → Dec (IsHere above path s)
    here above path s =
        and (lists steps (take 2 above) (steps_of point.path))
        (and (names (name_of s) point.subtree) (and (slots (first_slot (leaves s) None) (Some point.first_leaf)) (and (slots (last_slot None (leaves s)) (Some point.last_leaf)) (all (leaves s)))))

  -- whether the point is that part
  is-subtree : (s : Shape K V) → IsUnder bytes [] s → (point : SubtreeDeletePoint) → Dec (IsSubtreePoint bytes front s point)
  is-subtree s under point = map_dec there back (and (names (name_of s) point.root) (below bytes front (IsHere point) (here point) [] [] s))
    where
      there : (name_of s ≡ point.root) × LiesBelow bytes front (IsHere point) (here point) [] [] s → IsSubtreePoint bytes front s point
      there (named, h) =
          let at = inward bytes front (IsHere point) (here point) s [] s (at-root bytes s under) (front, refl) h in
          let same = own_all (λ (l : LeafAt K V). bytes l.key) front (leaves at.part) at.is.1.1.1.1 in
          record {
            named = named;
            at = record { ctx = at.ctx; part = at.part; place = at.place; here = at.is.1.0; steps = at.is.0 };
            begins = at.on;
            first_is = at.is.1.1.0;
            last_is = at.is.1.1.1.0;
            block = block_is bytes front s at.part at.ctx at.place at.on same;
            others = others_are bytes front s at.part at.ctx at.place at.on same;
          }

      back : IsSubtreePoint bytes front s point → (name_of s ≡ point.root) × LiesBelow bytes front (IsHere point) (here point) [] [] s
      back p =
          let own = subst AllBegin (sym p.block) (with-begin (λ (l : LeafAt K V). bytes l.key) front (leaves s)) in (
            p.named,
            subst (LiesBelow bytes front (IsHere point) (here point) [] []) (sym p.at.place.is)
                (outward bytes front (IsHere point) (here point) p.at.ctx p.at.part p.begins
                (at-here bytes front (IsHere point) (here point) (steps_to p.at.ctx) (path_to p.at.ctx) p.at.part (p.at.steps, (p.at.here, (p.first_is, (p.last_is, own)))))),
          )

  -- a part that was remembered while the arena is lent
  pub known-subtree : (P : ℕ) (arena : Arena K V) (rest : List (Name × Cell K V)) (root : Name) (s : Shape K V) → IsTreeBeside bytes P (node_at arena) root (links_at arena) rest s → (point : SubtreeDeletePoint)
      → ∥ IsSubtreeFor bytes P arena root front point ∥₁ → IsSubtreePoint bytes front s point
  known-subtree P arena rest root s tree point known =
      decided (is-subtree s tree.nodes.under point) (∥∥₁_elim known ∥∥₁_prop (λ fits. fits s (nodes-subtree bytes P (node_at arena) root s tree.nodes)))
