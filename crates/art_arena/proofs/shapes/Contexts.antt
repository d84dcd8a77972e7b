-- A shape with a place: what stands around the place depends on the name there alone.
use Rattle.std.proofs.Common.{◌≡◌, ℕ, suc, ◌+◌, ◌≤◌, List, [], ◌∷◌, ◌++◌, length, refl, sym, ap, subst, ◌∙◌, arith, append_assoc, zero-le}
use Rattle.std.proofs.lemmas.List.{append-nil}
use Rattle.art_arena.proofs.Terms.{IsKindOf, Shape, Branches, no_branch, branch, name_of, children_at, join, width, leaves, leaves_in, cells, cells_in, IsUnder, AreUnder, Frame, fill, plug, path_to, leaves_before, leaves_after, root_of, frame_cell, cells_before, cells_after, AreBelow, AreAround}

module _ {K V : Type 0} where
  pub children_at-join : (f g : Branches K V) → children_at (join f g) ≡ children_at f ++ children_at g
  children_at-join no_branch g = refl
  children_at-join (branch b s f) g = ap (λ xs. (b, name_of s) ∷ xs) (children_at-join f g)

  -- a node has as many children as branches
  pub length-children : (f : Branches K V) → length (children_at f) ≡ width f
  length-children no_branch = refl
  length-children (branch b s rest) = ap suc (length-children rest)

  pub leaves_in-join : (f g : Branches K V) → leaves_in (join f g) ≡ leaves_in f ++ leaves_in g
  leaves_in-join no_branch g = refl
  leaves_in-join (branch b s f) g = ap (λ xs. leaves s ++ xs) (leaves_in-join f g) ∙ sym (append_assoc (leaves s) (leaves_in f) (leaves_in g))

  pub cells_in-join : (P : ℕ) (f g : Branches K V) → cells_in P (join f g) ≡ cells_in P f ++ cells_in P g
  cells_in-join P no_branch g = refl
  cells_in-join P (branch b s f) g = ap (λ xs. cells P s ++ xs) (cells_in-join P f g) ∙ sym (append_assoc (cells P s) (cells_in P f) (cells_in P g))

  pub width-join : (f g : Branches K V) → width (join f g) ≡ width f + width g
  width-join no_branch g = omega arith
  width-join (branch b s f) g = omega (arith, width-join f g)

  pub leaves-fill : (f : Frame K V) (s : Shape K V) → leaves (fill f s) ≡ leaves_in f.before ++ (leaves s ++ leaves_in f.after)
  leaves-fill f s = leaves_in-join f.before (branch f.byte s f.after)

  pub cells-fill : (P : ℕ) (f : Frame K V) (s : Shape K V) → cells P (fill f s) ≡ frame_cell P f (name_of s) ∷ (cells_in P f.before ++ (cells P s ++ cells_in P f.after))
  cells-fill P f s = rw (children_at-join f.before (branch f.byte s f.after), cells_in-join P f.before (branch f.byte s f.after)) refl

  pub leaves-plug : (ctx : List (Frame K V)) (s : Shape K V) → leaves (plug ctx s) ≡ leaves_before ctx ++ (leaves s ++ leaves_after ctx)
  leaves-plug [] s = sym (append-nil (leaves s))
  leaves-plug (f ∷ outer) s = rw (leaves-plug outer (fill f s), leaves-fill f s) (simp append_assoc)

  pub cells-plug : (P : ℕ) (ctx : List (Frame K V)) (s : Shape K V) → cells P (plug ctx s) ≡ cells_before P ctx (name_of s) ++ (cells P s ++ cells_after P ctx)
  cells-plug P [] s = sym (append-nil (cells P s))
  cells-plug P (f ∷ outer) s = cells-plug P outer (fill f s) ∙ ap (λ xs. cells_before P outer f.name ++ (xs ++ cells_after P outer)) (cells-fill P f s) ∙ simp append_assoc

  pub name_of-plug : (ctx : List (Frame K V)) (s : Shape K V) → name_of (plug ctx s) ≡ root_of ctx (name_of s)
  name_of-plug [] s = refl
  name_of-plug (f ∷ outer) s = name_of-plug outer (fill f s)

module _ {K V : Type 0} (bytes : K → List ℕ) where
  pub AreUnder-join : (path : List ℕ) (low byte : ℕ) (f : Branches K V) (s : Shape K V) (g : Branches K V) → AreUnder bytes path low f → AreBelow byte f → low ≤ byte → IsUnder bytes (path ++ byte ∷ []) s → AreUnder bytes path (byte + 1) g → AreUnder bytes path low (join f (branch byte s g))
  AreUnder-join path low byte no_branch s g around below above here after = (above, here, after)
  AreUnder-join path low byte (branch b t f) s g around below above here after =
      (around.0, around.1, AreUnder-join path (b + 1) byte f s g around.2 below.1 (omega (arith, below.0)) here after)

  pub IsUnder-plug : (ctx : List (Frame K V)) (s : Shape K V) → AreAround bytes ctx → IsUnder bytes (path_to ctx) s → IsUnder bytes [] (plug ctx s)
  IsUnder-plug [] s around here = here
  IsUnder-plug (f ∷ outer) s around here =
      let wide : suc (width f.before + width f.after) ≡ width (join f.before (branch f.byte s f.after)) = omega (arith, width-join f.before (branch f.byte s f.after)) in
      let path = path_to outer ++ f.prefix in
      IsUnder-plug outer (fill f s) around.4 (subst (IsKindOf f.name.kind) wide around.0, AreUnder-join path 0 f.byte f.before s f.after around.1 around.2 zero-le here around.3)
