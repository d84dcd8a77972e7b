-- Where a key's place is no leaf that has it, no leaf has it.
use Rattle.std.proofs.Common.{◌≡◌, ◌≢◌, ◌⊎◌, ℕ, ◌+◌, List, [], ◌∷◌, ◌++◌, length, drop, None, refl, sym, ap, subst, ◌∙◌, inl, inr, append-nil}
use Rattle.std.specs.List.{AllByRecursion}
use Rattle.std.proofs.lemmas.Bool.Decides.{eqb_tells}
use Rattle.art_bytes.proofs.Common.{BeginsWith, IsBefore, before_not_self}
use Rattle.art_nodes.proofs.Common.{child_at, Name}
use Rattle.art_arena.proofs.Common.{Step, path_to, leaves_before, leaves_after, Shape, Branches, inner_at, no_branch, branch, LeafAt, children_at, leaves, leaves_in, IsUnder, AreUnder, leaves-plug, one_byte, all_append, all_weaker, leaves-begin, leaves_begin_prefix, ctx-before, ctx-after}
use Rattle.art_arena.proofs.Common.{following, Frame, IsPlace}
use Rattle.art_operations.proofs.Terms.{IsInTheWay, IsPoint, MeetsAt, InsertKind, InsertPoint}
use Rattle.art_operations.specs.declared.insert.point.InsertKind.TheVariants as kind
use Rattle.art_operations.proofs.Points.{part_new, part_old}

-- whether a leaf with the key was met
pub which : (k : InsertKind) → ((slot : ℕ) × (k ≡ kind.Exact slot)) ⊎ ((slot : ℕ) → k ≡ kind.Exact slot → ⊥)
which (kind.MismatchPrefix name parted) = inr (λ slot e. cc)
which (kind.SplitLeaf slot parted) = inr (λ s e. cc)
which (kind.IntoExisting name byte) = inr (λ slot e. cc)
which (kind.Exact slot) = inl (slot, refl)

-- a key that goes on after a front by another byte is another
other : (key q : List ℕ) (a b : ℕ) (k : List ℕ) → BeginsWith (q ++ a ∷ []) key → BeginsWith (q ++ b ∷ []) k → a ≢ b → k ≢ key
other key q a b k here there differs e = differs (one_byte q a b key here (subst (BeginsWith (q ++ b ∷ [])) e there))

module _ {K V : Type 0} (bytes : K → List ℕ) (key : List ℕ) where
  -- all have other keys
  abbrev pub HaveOthers : List (LeafAt K V) → Type 0
  HaveOthers ls = AllByRecursion (λ l. bytes l.key ≢ key) ls

  none_below_child : (path : List ℕ) (b low : ℕ) (f : Branches K V) → BeginsWith (path ++ b ∷ []) key → AreUnder bytes path low f → child_at (children_at f) b ≡ None → HaveOthers (leaves_in f)
  none_below_child path b low no_branch on under none = tt
  none_below_child path b low (branch c t rest) on under none = elim (eqb_tells c b) [
    | inl same ↦ absurd (let f = rw same.0 at none in cc)
    | inr differs ↦
        all_append _ (leaves t) (leaves_in rest)
        (all_weaker _ _ (λ l st. other key path b c (bytes l.key) on st (λ same. differs.1 (sym same))) (leaves t) (leaves-begin bytes (path ++ c ∷ []) t under.1))
        (none_below_child path b (c + 1) rest on under.2 (rw differs.0 at none))
  ]

  -- below the place
  met : (path : List ℕ) (s : Shape K V) (k : InsertKind) → IsUnder bytes path s → BeginsWith path key → MeetsAt bytes key path s k → ((slot : ℕ) → k ≡ kind.Exact slot → ⊥) → HaveOthers (leaves s)
  met path s (kind.MismatchPrefix name p) under begins (prefix, kids, is, part) unmet =
      subst (λ t. HaveOthers (leaves t)) (sym is)
      (all_weaker _ (λ l. bytes l.key ≢ key) (λ l st. other key (path ++ part.front) p.new_byte p.old_byte (bytes l.key)
      (part_new path (drop (length path) key) key prefix p (following path key (length path) refl begins) part)
      (part_old path (drop (length path) key) prefix (bytes l.key) st.0 p st.1 part)
      (λ e. part.differs (sym e))) (leaves_in kids) (leaves_begin_prefix bytes path (inner_at name prefix kids) (subst (IsUnder bytes path) is under)))
  met path s (kind.SplitLeaf slot p) under begins (k, v, is, part) unmet =
      let stands : BeginsWith path (bytes k) = subst (IsUnder bytes path) is under in
      subst (λ t. HaveOthers (leaves t)) (sym is) (
        other key (path ++ part.front) p.new_byte p.old_byte (bytes k)
            (part_new path (drop (length path) key) key (drop (length path) (bytes k)) p (following path key (length path) refl begins) part)
            (part_old path (drop (length path) key) (drop (length path) (bytes k)) (bytes k) [] p (following path (bytes k) (length path) refl stands ∙ sym (append-nil (path ++ drop (length path) (bytes k)))) part)
            (λ e. part.differs (sym e)),
        tt,
      )
  met path s (kind.IntoExisting name b) under begins (prefix, kids, is, none, on) unmet =
      let here : IsUnder bytes path (inner_at name prefix kids) = subst (IsUnder bytes path) is under in
      subst (λ t. HaveOthers (leaves t)) (sym is) (none_below_child (path ++ prefix) b 0 kids on here.1 none)
  met path s (kind.Exact slot) under begins m unmet = absurd (unmet slot refl)

  -- around a place to which the key leads are other keys
  around : (s part : Shape K V) (ctx : List (Frame K V)) → IsPlace bytes s ctx part → BeginsWith (path_to ctx) key → HaveOthers (leaves part) → HaveOthers (leaves s)
  around s part ctx place begins others =
      subst HaveOthers (sym (ap leaves place.is ∙ leaves-plug ctx part))
      (all_append _ (leaves_before ctx) (leaves part ++ leaves_after ctx)
      (all_weaker _ (λ l. bytes l.key ≢ key) (λ l b e. before_not_self key (subst (λ k. IsBefore k key) e b)) (leaves_before ctx) (ctx-before bytes key ctx place.around begins))
      (all_append _ (leaves part) (leaves_after ctx) others
      (all_weaker _ (λ l. bytes l.key ≢ key) (λ l b e. before_not_self key (subst (λ k. IsBefore key k) e b)) (leaves_after ctx) (ctx-after bytes key ctx place.around begins))))

  -- in the whole tree
  pub not-stored : (s : Shape K V) (point : InsertPoint) → IsPoint bytes key s point → ((slot : ℕ) → point.insert_kind ≡ kind.Exact slot → ⊥) → HaveOthers (leaves s)
  not-stored s point at unmet =
      around s at.part at.ctx at.toward.place at.toward.begins (met (path_to at.ctx) at.part point.insert_kind at.toward.place.under at.toward.begins at.meets unmet)

  -- nor in one that has a part in the way of the key
  pub not-in-way : (s : Shape K V) (root name : Name) (last : List Step) → IsInTheWay bytes key s root name last → HaveOthers (leaves s)
  not-in-way s root name last way =
      around s way.part way.ctx way.toward.place way.toward.begins (all_weaker _ (λ l. bytes l.key ≢ key) (λ l c e. c.0 (sym e)) (leaves way.part) way.conflicts)
