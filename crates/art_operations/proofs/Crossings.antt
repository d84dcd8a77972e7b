-- A part whose loss changes the kind of the node above it, by the keys alone.
use Rattle.std.proofs.Common.{◌≡◌, ℕ, suc, ◌+◌, ◌≤◌, ◌⊎◌, List, [], ◌∷◌, ◌++◌, length, refl, sym, ap, subst, ◌∙◌, inl, inr, arith, append-nil, length-append}
use Rattle.std.specs.List.{AllByRecursion}
use Rattle.std.proofs.lemmas.Bool.Decides.{leb_tells}
use Rattle.art_bytes.proofs.Common.{BeginsWith, common_prefix, begins_append, common_begins, front_not_after, front_not_before}
use Rattle.art_arena.proofs.Common.{IsIn, Frame, fill, plug, path_to, leaves_before, leaves_after, AreAround, width_of, IsLimit, IsCrossing, items, count, Shape, Branches, no_branch, branch, join, LeafAt, leaves, leaves_in, width, erase, erase_in, key_of, IsUnder, AreUnder, leaves-plug}
use Rattle.art_arena.proofs.Common.{width-join, items-erase, count-erase, canonical-erase, leaves_in-begin, some_leaf, ctx-after, ctx-before, Widths, WidthsIn, begins_trans, common_left, widths, all_at, in_left, in_right, all_append, all_weaker, in_cases, common_right}
use Rattle.art_arena.proofs.tree.FrontShrinks.{front_le}
use Rattle.art_arena.proofs.tree.Limits.{limits_are_kinds}
use Rattle.art_arena.proofs.tree.Shrinks.{same_front}
use Rattle.art_operations.proofs.Terms.{leaves_with, leaves_without, IsSubtreePoint, ShrinksWithout, SubtreeDeletePoint, LosesKind}
use Rattle.art_operations.proofs.LeafPairs.{leaf_pair, width_of-map}
use Rattle.art_operations.proofs.Prefixed.{with-begin, without-begin}

-- the widths at a place

module _ {K V : Type 0} (w : List ℕ → ℕ) where
  widths-branch : (q : List ℕ) (f : Branches K V) (b : ℕ) (s : Shape K V) (g : Branches K V) → WidthsIn w q (erase_in (join f (branch b s g))) → Widths w (q ++ b ∷ []) (erase s)
  widths-branch q no_branch b s g h = h.0
  widths-branch q (branch c t f) b s g h = widths-branch q f b s g h.1

  widths-at : (ctx : List (Frame K V)) (s : Shape K V) → Widths w [] (erase (plug ctx s)) → Widths w (path_to ctx) (erase s)
  widths-at [] s h = h
  widths-at (f ∷ outer) s h =
      let above = widths-at outer (fill f s) h in
      widths-branch (path_to outer ++ f.prefix) f.before f.byte s f.after above.1

module _ {K V : Type 0} (bytes : K → List ℕ) where
  abbrev key_at : LeafAt K V → List ℕ
  key_at l = bytes l.key

  -- two branches or more: there is a leaf beside the one under the byte
  record Sibling (f : Frame K V) (q : List ℕ) : Type 0 where
    leaf : LeafAt K V
    among : IsIn leaf (leaves_in f.before ++ leaves_in f.after)
    begins : BeginsWith q (bytes leaf.key)

  some_in : (q : List ℕ) (low : ℕ) (f : Branches K V) → AreUnder bytes q low f → 1 ≤ width f → (l : LeafAt K V) × IsIn l (leaves_in f)
  some_in q low no_branch under one = absurd (omega (arith, one))
  some_in q low (branch b s rest) under one =
      let l = some_leaf bytes (q ++ b ∷ []) s under.1 in
      (l.0, in_left l.0 (leaves s) (leaves_in rest) (subst (IsIn l.0) (sym l.2) (inl refl)))

  sibling : (f : Frame K V) (outer : List (Frame K V)) → AreAround bytes (f ∷ outer) → Sibling f (path_to outer ++ f.prefix)
  sibling f outer around =
      let q = path_to outer ++ f.prefix in
      let two = around.0.two in
      let in_before : (1 ≤ width f.before → Sibling f q) = λ one.
      let l = some_in q 0 f.before around.1 one in
      record { leaf = l.0; among = in_left l.0 (leaves_in f.before) (leaves_in f.after) l.1; begins = all_at (λ (l : LeafAt K V). BeginsWith q (bytes l.key)) l.0 (leaves_in f.before) (leaves_in-begin bytes q 0 f.before around.1) l.1 } in
      let in_after : (1 ≤ width f.after → Sibling f q) = λ one.
      let l = some_in q (f.byte + 1) f.after around.3 one in
      record { leaf = l.0; among = in_right l.0 (leaves_in f.before) (leaves_in f.after) l.1; begins = all_at (λ (l : LeafAt K V). BeginsWith q (bytes l.key)) l.0 (leaves_in f.after) (leaves_in-begin bytes q (f.byte + 1) f.after around.3) l.1 } in
      elim (leb_tells 1 (width f.before)) [ inl y ↦ in_before y.1 | inr n ↦ in_after (omega (arith, two, n.1)) ]

  -- no key outside a place begins with the path to it
  outside : (ctx : List (Frame K V)) → AreAround bytes ctx → AllByRecursion (λ (l : LeafAt K V). BeginsWith (path_to ctx) (bytes l.key) → ⊥) (leaves_before ctx ++ leaves_after ctx)
  outside ctx around =
      let p = path_to ctx in
      all_append (λ (l : LeafAt K V). BeginsWith p (bytes l.key) → ⊥) (leaves_before ctx) (leaves_after ctx)
      (all_weaker _ (λ (l : LeafAt K V). BeginsWith p (bytes l.key) → ⊥) (λ l h b. front_not_after p (bytes l.key) b h) (leaves_before ctx) (ctx-before bytes p ctx around ([], sym (append-nil p))))
      (all_weaker _ (λ (l : LeafAt K V). BeginsWith p (bytes l.key) → ⊥) (λ l h b. front_not_before p (bytes l.key) b h) (leaves_after ctx) (ctx-after bytes p ctx around ([], sym (append-nil p))))

  module _ (front : List ℕ) (s : Shape K V) (under : IsUnder bytes [] s) (f : Frame K V) (outer : List (Frame K V)) (part : Shape K V) (is : s ≡ plug (f ∷ outer) part) (around : AreAround bytes (f ∷ outer)) (path_begins : BeginsWith (path_to (f ∷ outer)) front)
      (block : leaves part ≡ leaves_with bytes front (leaves s)) (others : leaves_before (f ∷ outer) ++ leaves_after (f ∷ outer) ≡ leaves_without bytes front (leaves s)) where
    abbrev node_path : List ℕ
    node_path = path_to outer ++ f.prefix

    abbrev path : List ℕ
    path = path_to (f ∷ outer)

    path_length : length path ≡ suc (length node_path)
    path_length = omega (arith, length-append (path_to outer ++ f.prefix) (f.byte ∷ []))

    all_are : leaves s ≡ leaves_before (f ∷ outer) ++ (leaves part ++ leaves_after (f ∷ outer))
    all_are = ap leaves is ∙ leaves-plug (f ∷ outer) part

    abbrev Around : List (LeafAt K V)
    Around = leaves_before (f ∷ outer) ++ leaves_after (f ∷ outer)

    none_begins : (l : LeafAt K V) → IsIn l Around → BeginsWith front (bytes l.key) → ⊥
    none_begins l i = all_at (λ (l : LeafAt K V). BeginsWith front (bytes l.key) → ⊥) l (leaves_without bytes front (leaves s)) (without-begin key_at front (leaves s)) (subst (IsIn l) others i)

    block_begins : (l : LeafAt K V) → IsIn l (leaves part) → BeginsWith front (bytes l.key)
    block_begins l i = all_at (λ (l : LeafAt K V). BeginsWith front (bytes l.key)) l (leaves_with bytes front (leaves s)) (with-begin key_at front (leaves s)) (subst (IsIn l) block i)

    beside : Sibling f node_path
    beside = sibling f outer around

    beside_in : IsIn beside.leaf Around
    beside_in = elim (in_cases beside.leaf (leaves_in f.before) (leaves_in f.after) beside.among) [
      | inl i ↦ in_left beside.leaf (leaves_before (f ∷ outer)) (leaves_after (f ∷ outer)) (in_right beside.leaf (leaves_before outer) (leaves_in f.before) i)
      | inr i ↦ in_right beside.leaf (leaves_before (f ∷ outer)) (leaves_after (f ∷ outer)) (in_left beside.leaf (leaves_in f.after) (leaves_after outer) i)
    ]

    -- what the prefix shares with a key that doesn't begin with it is no longer than the node's path
    short : (l : LeafAt K V) → IsIn l Around → length (common_prefix front (bytes l.key)) ≤ length node_path
    short l i = elim (leb_tells (length path) (length (common_prefix front (bytes l.key)))) [
      | inl y ↦ absurd (all_at (λ (l : LeafAt K V). BeginsWith path (bytes l.key) → ⊥) l Around (outside (f ∷ outer) around) i
          (begins_trans path (common_prefix front (bytes l.key)) (bytes l.key) (front_le path (common_prefix front (bytes l.key)) front path_begins (common_left front (bytes l.key)) y.1) (common_right front (bytes l.key))))
      | inr n ↦ omega (arith, path_length, n.1)
    ]

    node_begins_front : BeginsWith node_path front
    node_begins_front = begins_append node_path (f.byte ∷ []) front path_begins

    meets : common_prefix front (bytes beside.leaf.key) ≡ node_path
    meets =
        let shared = common_begins node_path front (bytes beside.leaf.key) node_begins_front beside.begins in
        let long = ap length shared.1 in
        let few = short beside.leaf beside_in in
        same_front (common_prefix front (bytes beside.leaf.key)) node_path front (common_left front (bytes beside.leaf.key)) node_begins_front (omega (arith, long, few, length-append node_path shared.0))

    among_all : (l : LeafAt K V) → IsIn l Around → IsIn l (leaves s)
    among_all l i = subst (IsIn l) (sym all_are) (elim (in_cases l (leaves_before (f ∷ outer)) (leaves_after (f ∷ outer)) i) [
      | inl j ↦ in_left l (leaves_before (f ∷ outer)) (leaves part ++ leaves_after (f ∷ outer)) j
      | inr j ↦ in_right l (leaves_before (f ∷ outer)) (leaves part ++ leaves_after (f ∷ outer)) (in_right l (leaves part) (leaves_after (f ∷ outer)) j)
    ])

    around_or_in : (l : LeafAt K V) → IsIn l (leaves s) → IsIn l Around ⊎ IsIn l (leaves part)
    around_or_in l i = elim (in_cases l (leaves_before (f ∷ outer)) (leaves part ++ leaves_after (f ∷ outer)) (subst (IsIn l) all_are i)) [
      | inl j ↦ inl (in_left l (leaves_before (f ∷ outer)) (leaves_after (f ∷ outer)) j)
      | inr j ↦ elim (in_cases l (leaves part) (leaves_after (f ∷ outer)) j) [
        | inl k ↦ inr k
        | inr k ↦ inl (in_right l (leaves_before (f ∷ outer)) (leaves_after (f ∷ outer)) k)
      ]
    ]

    crossing : IsCrossing key_at (leaves s) front node_path
    crossing = (
      (beside.leaf, among_all beside.leaf beside_in, none_begins beside.leaf beside_in, meets),
      λ z i other. elim (around_or_in z i) [ inl j ↦ short z j | inr j ↦ absurd (other (block_begins z j)) ],
    )

    wide : width_of key_at (leaves s) node_path ≡ suc (width f.before + width f.after)
    wide =
        let all = widths (key_of bytes) (items (erase s)) [] (erase s) (canonical-erase bytes [] s under) (λ q i. refl) in
        let here = widths-at (width_of (key_of bytes) (items (erase s))) outer (fill f part) (subst (λ t. Widths (width_of (key_of bytes) (items (erase s))) [] (erase t)) is all) in
        let kids = join f.before (branch f.byte part f.after) in
        let counted : count (erase_in kids) ≡ suc (width f.before + width f.after) = omega (arith, count-erase kids, width-join f.before (branch f.byte part f.after)) in
        sym (width_of-map leaf_pair (key_of bytes) node_path (leaves s)) ∙ ap (λ xs. width_of (key_of bytes) xs node_path) (sym (items-erase s)) ∙ here.0 ∙ counted

  pub part_shrinks : (front : List ℕ) (s : Shape K V) → IsUnder bytes [] s → (point : SubtreeDeletePoint) → (is : IsSubtreePoint bytes front s point) → LosesKind is.at.ctx → ShrinksWithout key_at (leaves s) front
  part_shrinks front s under point is loses = go is.at.ctx is.at.place.is is.at.place.around is.begins is.others loses
    where
      go : (ctx : List (Frame K V)) → s ≡ plug ctx is.at.part → AreAround bytes ctx → BeginsWith (path_to ctx) front → leaves_before ctx ++ leaves_after ctx ≡ leaves_without bytes front (leaves s) → LosesKind ctx → ShrinksWithout key_at (leaves s) front
      go [] same around begins others loses = absurd loses
      go (f ∷ outer) same around begins others loses = (
        path_to outer ++ f.prefix,
        crossing front s under f outer is.at.part same around begins is.block others,
        subst IsLimit (sym (wide front s under f outer is.at.part same around begins is.block others)) ((limits_are_kinds (suc (width f.before + width f.after))).1 loses),
      )
