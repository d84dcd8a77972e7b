-- What is answered of a map that is only read, and where a handle has no map of the kind.
use Rattle.std.proofs.Common.{◌≡◌, ℕ, List, Option, Some, None, refl, sym, ap, subst, ◌∙◌}
use Rattle.art_c.specs.Answers.{Answers, OnFound, OnMade, OnlyReads}
use Rattle.art_c.specs.Codes.{code_number}
use Rattle.art_c.specs.Handles.{MapState, Pairs, View, byte_map_in, state_pairs, word_map_in}
use Rattle.art_c.specs.declared.code.Code.{Code}
use Rattle.art_c.specs.declared.code.Code.TheVariants.{NoMap}
use Rattle.art_c.specs.declared.handle.store.Store.{Store}

pub answers_read : {V X : Type 0} (view : View V) (o new : Option Store) (x y : X) (n : ℕ) (Fits : Pairs V → X → Code → X → Type 0)
    (s : MapState V) (code : Code) → n ≡ code_number code → view o ≡ Some s → new ≡ o → Fits (state_pairs s) x code y
    → Answers view (OnlyReads Fits) o x n new y
answers_read view o new x y n Fits s code told f same fit =
    (code, told, subst (λ z. OnFound view (OnlyReads Fits) z o x code new y) (sym f) (s, ap view same ∙ f, (refl, fit)))

module _ {V X : Type 0} (view : View V) (Fits : MapState V → X → Code → MapState V → X → Type 0) (o new : Option Store) (x : X) (n : ℕ) where
  none : n ≡ code_number NoMap → view o ≡ None → new ≡ o → (code : Code) × (n ≡ code_number code) × OnMade view Fits o x code new x
  none told f same = (NoMap, told, subst (λ z. OnFound view Fits z o x NoMap new x) (sym f) (refl, same, refl))

  -- a map of the other kind is there, and was looked at, or lent and had back
  pub none_read : (s t : Store) → n ≡ code_number NoMap → o ≡ Some s → t ≡ s → view (Some t) ≡ None → new ≡ Some s
      → (code : Code) × (n ≡ code_number code) × OnMade view Fits o x code new x
  none_read s t told f same is g = none told (ap view (f ∙ ap Some (sym same)) ∙ is) (g ∙ sym f)

  pub none_lent : (s t : Store) → n ≡ code_number NoMap → o ≡ Some s → t ≡ s → view (Some t) ≡ None → new ≡ Some t
      → (code : Code) × (n ≡ code_number code) × OnMade view Fits o x code new x
  none_lent s t told f same is g = none_read s t told f same is (g ∙ ap Some same)

module _ {X : Type 0} (o new : Option Store) (x : X) (n : ℕ) where
  -- of words
  module _ (Fits : MapState ℕ → X → Code → MapState ℕ → X → Type 0) (e : n ≡ code_number NoMap) where
    pub no_words : o ≡ None → new ≡ None → (code : Code) × (n ≡ code_number code) × OnMade word_map_in Fits o x code new x
    no_words f g = none word_map_in Fits o new x n e (ap word_map_in f) (g ∙ sym f)

  -- and of bytes
  module _ (Fits : MapState (List ℕ) → X → Code → MapState (List ℕ) → X → Type 0) (e : n ≡ code_number NoMap) where
    pub no_bytes : o ≡ None → new ≡ None → (code : Code) × (n ≡ code_number code) × OnMade byte_map_in Fits o x code new x
    no_bytes f g = none byte_map_in Fits o new x n e (ap byte_map_in f) (g ∙ sym f)
