-- Ascending pairs that a builder takes, one after another.
use Rattle.std.proofs.Common.{◌≡◌, ℕ, List, [], ◌∷◌, ◌++◌, refl, sym, ap, subst, ◌∙◌}
use Rattle.std.proofs.lemmas.List.{append-nil, append_assoc}
use Rattle.art_arena.proofs.Common.{Arena, key_of, AscendsByKey}
use Rattle.art_operations.proofs.Common.{Builds, before}
use Rattle.art_operations.proofs.Terms.{IsAfterAll}
use Rattle.art_operations.specs.declared.build.TreeBuilder.{TreeBuilder}

module _ {K V : Type 0} (bytes : K → List ℕ) (P : ℕ) where
  -- of all pairs some were taken, and these are left
  pub record BuildsOn (arena : Arena K V) (builder : TreeBuilder) (left all : List (K × V)) : Type 0 where
    pub taken : List (K × V)
    pub builds : Builds bytes P arena builder taken
    pub joined : taken ++ left ≡ all

  pub none-taken : (arena : Arena K V) (builder : TreeBuilder) (all : List (K × V)) → Builds bytes P arena builder [] → BuildsOn arena builder all all
  none-taken arena builder all builds = record { taken = []; builds = builds; joined = refl }

  pub all-taken : (arena : Arena K V) (builder : TreeBuilder) (left all : List (K × V)) → left ≡ [] → BuildsOn arena builder left all → Builds bytes P arena builder all
  all-taken arena builder left all none is = subst (Builds bytes P arena builder) (sym (append-nil is.taken) ∙ ap (λ ps. is.taken ++ ps) (sym none) ∙ is.joined) is.builds

  module _ (arena : Arena K V) (builder : TreeBuilder) (left all : List (K × V)) (is : BuildsOn arena builder left all) (p : K × V) (rest : List (K × V)) (steps : left ≡ p ∷ rest) where
    parted : is.taken ++ p ∷ rest ≡ all
    parted = ap (λ ps. is.taken ++ ps) (sym steps) ∙ is.joined

    -- the next one goes after those
    pub next-later : AscendsByKey (key_of bytes) all → IsAfterAll bytes (bytes p.0) is.taken
    next-later up = before (key_of bytes) p is.taken rest (subst (AscendsByKey (key_of bytes)) (sym parted) up)

    -- and is taken then
    pub next-taken : (new : Arena K V) (now : TreeBuilder) → Builds bytes P new now (is.taken ++ p ∷ []) → BuildsOn new now rest all
    next-taken new now builds = record { taken = is.taken ++ p ∷ []; builds = builds; joined = append_assoc is.taken (p ∷ []) rest ∙ parted }
