-- The leaves whose keys begin with a prefix: those of a part, where the prefix has a place there.
use Rattle.std.proofs.Common.{◌≡◌, ℕ, Bool, List, [], ◌∷◌, ◌++◌, Option, Some, None, refl, sym, ap, ◌∙◌, inl, inr, append-nil}
use Rattle.std.specs.List.{AllByRecursion}
use Rattle.std.proofs.lemmas.List.Elements.{filter-append}
use Rattle.art_bytes.proofs.Common.{BeginsWith, Conflict, IsBefore, front_not_after, front_not_before}
use Rattle.art_arena.proofs.Common.{begins_with, Frame, path_to, leaves_before, leaves_after, passing, first_slot, last_slot, IsPlace, Shape, LeafAt, leaves, begins_trans, begins_same, leaves-plug, AreAfter, AreBefore, ctx-after, ctx-before, all_weaker}
use Rattle.art_arena.proofs.tree.Parts.{begins_not}
use Rattle.art_operations.proofs.Terms.{AreEndsWhere, AllConflict, NoConflict}
use Rattle.art_operations.proofs.KeyedLists.{none-pass}
use Rattle.art_operations.proofs.NotStored.{HaveOthers}

-- the same leaves pass, so they have the same ends
pub ends_same : {K V : Type 0} (bytes : K → List ℕ) (test : List ℕ → Bool) (ls ms : List (LeafAt K V)) (r : Option (ℕ × ℕ)) → passing bytes test ls ≡ passing bytes test ms → AreEndsWhere bytes test ms r → AreEndsWhere bytes test ls r
ends_same bytes test ls ms None e h = e ∙ h
ends_same bytes test ls ms (Some ends) e h = (ap (λ xs. first_slot xs None) e ∙ h.0, ap (last_slot None) e ∙ h.1)

module _ {K V : Type 0} (bytes : K → List ℕ) (key : List ℕ) where
  abbrev Begin : List (LeafAt K V) → List (LeafAt K V)
  Begin ls = passing bytes (λ k. begins_with key k) ls

  -- none of the leaves on either side of a place begins with a key that goes there
  pub before_none : (ls : List (LeafAt K V)) → AreBefore bytes key ls → Begin ls ≡ []
  before_none ls h = none-pass (λ l. begins_with key (bytes l.key)) ls (all_weaker _ _ (λ l a. begins_not key (bytes l.key) (λ b. front_not_after key (bytes l.key) b a)) ls h)

  pub after_none : (ls : List (LeafAt K V)) → AreAfter bytes key ls → Begin ls ≡ []
  after_none ls h = none-pass (λ l. begins_with key (bytes l.key)) ls (all_weaker _ _ (λ l a. begins_not key (bytes l.key) (λ b. front_not_before key (bytes l.key) b a)) ls h)

  pub begin_in : (whole part : Shape K V) (ctx : List (Frame K V)) → IsPlace bytes whole ctx part → BeginsWith (path_to ctx) key → Begin (leaves whole) ≡ Begin (leaves part)
  begin_in whole part ctx place begins =
      ap (λ s. Begin (leaves s)) place.is ∙ ap Begin (leaves-plug ctx part)
      ∙ filter-append (λ l. begins_with key (bytes l.key)) (leaves_before ctx) (leaves part ++ leaves_after ctx)
      ∙ ap (λ xs. xs ++ Begin (leaves part ++ leaves_after ctx)) (before_none (leaves_before ctx) (ctx-before bytes key ctx place.around begins))
      ∙ filter-append (λ l. begins_with key (bytes l.key)) (leaves part) (leaves_after ctx)
      ∙ ap (λ xs. Begin (leaves part) ++ xs) (after_none (leaves_after ctx) (ctx-after bytes key ctx place.around begins))
      ∙ append-nil (Begin (leaves part))

  -- leaves in conflict with the key, in order: all begin with it if the first does, and else none does
  module _ (l : LeafAt K V) where
    pub all_begin : BeginsWith key (bytes l.key) → (ls : List (LeafAt K V)) → AllConflict bytes key ls → AllByRecursion (λ r. IsBefore (bytes l.key) (bytes r.key)) ls → Begin ls ≡ ls
    all_begin b [] c h = refl
    all_begin b (r ∷ ls) c h = rw (begins_same key (bytes r.key) (elim c.0.1 [
      | inl d ↦ d
      | inr d ↦ absurd (front_not_after (bytes r.key) (bytes l.key) (begins_trans (bytes r.key) key (bytes l.key) d b) h.0)
    ])) (ap (λ xs. r ∷ xs) (all_begin b ls c.1 h.1))

    pub none_begins : (BeginsWith key (bytes l.key) → ⊥) → Conflict key (bytes l.key) → (ls : List (LeafAt K V)) → AllByRecursion (λ r. IsBefore (bytes l.key) (bytes r.key)) ls → Begin ls ≡ []
    none_begins n c [] h = refl
    none_begins n c (r ∷ ls) h = rw (begins_not key (bytes r.key) (λ b. elim c.1 [
      | inl d ↦ n d
      | inr d ↦ front_not_before (bytes l.key) (bytes r.key) (begins_trans (bytes l.key) key (bytes r.key) d b) h.0
    ])) (none_begins n c ls h.1)

  pub begin_all : (l : LeafAt K V) (ls : List (LeafAt K V)) → AllConflict bytes key (l ∷ ls) → AllByRecursion (λ r. IsBefore (bytes l.key) (bytes r.key)) ls → BeginsWith key (bytes l.key) → Begin (l ∷ ls) ≡ l ∷ ls
  begin_all l ls c h b = rw (begins_same key (bytes l.key) b) (ap (λ xs. l ∷ xs) (all_begin l b ls c.1 h))

  pub begin_none : (l : LeafAt K V) (ls : List (LeafAt K V)) → AllConflict bytes key (l ∷ ls) → AllByRecursion (λ r. IsBefore (bytes l.key) (bytes r.key)) ls → (BeginsWith key (bytes l.key) → ⊥) → Begin (l ∷ ls) ≡ []
  begin_none l ls c h n = rw (begins_not key (bytes l.key) n) (none_begins l n c.0 ls h)

  -- where no key is this one or in conflict with it, none begins with it
  pub begin_nowhere : (ls : List (LeafAt K V)) → NoConflict bytes key ls → HaveOthers bytes key ls → Begin ls ≡ []
  begin_nowhere [] n h = refl
  begin_nowhere (l ∷ ls) n h = rw (begins_not key (bytes l.key) (λ b. n.0 ((λ e. h.0 (sym e)), inl b))) (begin_nowhere ls n.1 h.1)
