-- How the drop of a tenant went: how that is told, and what it left.
use Rattle.std.specs.Prelude.{◌≡◌, ℕ, ◌+◌, Bool, true, false, List, [], ◌∷◌, codes, Some}
use Rattle.art_engine.specs.declared.drop_tenant.Dropped.{Dropped}
use Rattle.art_engine.specs.declared.drop_tenant.Dropped.TheVariants as dropped
use Rattle.art_lines.specs.Words.{Word, name, natural}
use Rattle.art_lines.specs.Commands.{of_tenant, drop}
use Rattle.art_engine.specs.Records.{Records}
use Rattle.art_engine.specs.Refusals.{MayRefuse}
use Rattle.art_engine.specs.Replies.{command_reply, command_after}
use Rattle.art_engine.specs.Counts.{IsWithin, visits_of}

-- the words that tell how it went
abbrev pub dropped_words : Dropped → List Word
dropped_words (dropped.Gone keys numbers visits) = name (codes "dropped") ∷ natural (keys + numbers) ∷ []
dropped_words dropped.Memory = name (codes "memory") ∷ []

-- whether there was no memory for it
abbrev pub drop_is_memory : Dropped → Bool
drop_is_memory (dropped.Gone keys numbers visits) = false
drop_is_memory dropped.Memory = true

-- how many nodes were read and freed
abbrev pub drop_visits : Dropped → ℕ
drop_visits (dropped.Gone keys numbers visits) = visits
drop_visits dropped.Memory = 0

-- All of a tenant's records were dropped: it is told how many they were, nothing of them is left, and so many nodes
-- were read and freed.
pub record AreGone (P : ℕ) (d : Dropped) (tenant : ℕ) (old new : Records) : Type 0 where
  pub output : dropped_words d ∷ [] ≡ command_reply (Some (of_tenant tenant drop)) old
  pub left : new ≡ command_after (Some (of_tenant tenant drop)) old
  pub counted : IsWithin (visits_of P (Some (of_tenant tenant drop)) old) (drop_visits d)

-- So it was done; where there was no memory for it, there may be none, and nothing is changed.
abbrev pub IsDropDone : ℕ → Dropped → ℕ → Records → Records → Type 0
IsDropDone P dropped.Memory tenant old new = (new ≡ old) × MayRefuse old (of_tenant tenant drop)
IsDropDone P d tenant old new = AreGone P d tenant old new
