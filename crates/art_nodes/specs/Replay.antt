-- What commands on one inner node answer: those of a finite map from byte to name, as a list by ascending byte.
use Rattle.std.specs.Prelude.{◌≡◌, ℕ, List, [], ◌∷◌, Option, Some, None}
use Rattle.art_nodes.specs.Name.{Name}
use Rattle.art_nodes.specs.InnerNode.{child_at, with_child, without_child, first_child, last_child}
use Rattle.art_nodes.specs.InnerNode.{children_between, AreValidBounds}
use Rattle.std.specs.declared.ops.Bound.{Bound}
use Rattle.art_nodes.specs.declared.replaying.ChildCommand.{ChildCommand}
use Rattle.art_nodes.specs.declared.replaying.ChildCommand.TheVariants.{Write, Remove, Lookup, Min, Max, Range}
use Rattle.art_nodes.specs.declared.replaying.ChildAnswer.{ChildAnswer}
use Rattle.art_nodes.specs.declared.replaying.ChildAnswer.TheVariants.{Child, Children, InvalidBounds}

-- a child with its byte
abbrev pub child_under : ℕ → Option Name → Option (ℕ × Name)
child_under byte None = None
child_under byte (Some name) = Some (byte, name)

-- the children after a command
abbrev pub children_after : List (ℕ × Name) → ChildCommand → List (ℕ × Name)
children_after children (Write byte name) = with_child children byte name
children_after children (Remove byte) = without_child children byte
children_after children command = children

-- what a range answers: the children between bounds that may be asked for, and for others that they are none
abbrev pub IsRangeAnswer : List (ℕ × Name) → Bound ℕ → Bound ℕ → ChildAnswer → Type 0
IsRangeAnswer children start end (Child child) = ⊥
IsRangeAnswer children start end (Children all) =
    AreValidBounds start end × (all.items ≡ children_between start end children)
IsRangeAnswer children start end InvalidBounds = AreValidBounds start end → ⊥

-- what a command answers on these children
abbrev pub IsChildAnswer : List (ℕ × Name) → ChildCommand → ChildAnswer → Type 0
IsChildAnswer children (Write byte name) answer = answer ≡ Child (child_under byte (child_at children byte))
IsChildAnswer children (Remove byte) answer = answer ≡ Child (child_under byte (child_at children byte))
IsChildAnswer children (Lookup byte) answer = answer ≡ Child (child_under byte (child_at children byte))
IsChildAnswer children Min answer = answer ≡ Child (first_child children)
IsChildAnswer children Max answer = answer ≡ Child (last_child children)
IsChildAnswer children (Range start end) answer = IsRangeAnswer children start end answer

-- an answer for each command in turn, each on the children that the ones before it left
abbrev pub AreChildAnswers : List (ℕ × Name) → List ChildCommand → List ChildAnswer → Type 0
AreChildAnswers children [] [] = Unit {0}
AreChildAnswers children (command ∷ commands) (answer ∷ answers) =
    IsChildAnswer children command answer
    × AreChildAnswers (children_after children command) commands answers
AreChildAnswers children commands answers = ⊥
