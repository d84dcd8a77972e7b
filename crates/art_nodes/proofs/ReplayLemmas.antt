-- Lemmas on a replay: a full node without a child under a byte isn't of the largest kind, and answers go on one by one.
use Rattle.std.proofs.Common.{◌≡◌, ◌≢◌, ℕ, ◌+◌, ◌<◌, ◌≤◌, Option, None, lit<, true≢false, List, [], ◌∷◌, ◌++◌, length, IsSome, take, refl, ap, sym, ◌∙◌, subst, inl, inr, arith}
use Rattle.std.proofs.lemmas.Bool.Decides.{eqb_tells}
use Rattle.art_nodes.proofs.Terms.{Name, IsAscending, IsAscendingFrom, child_at, row_of, grown_kind, NodeType, Node256, Leaf, IsChildAnswer, AreChildAnswers, children_after}
use Rattle.art_nodes.specs.declared.replaying.ChildCommand.{ChildCommand}
use Rattle.art_nodes.specs.declared.replaying.ChildAnswer.{ChildAnswer}

-- ascending bytes from `low` on are at most as many as there are such bytes
pub at_most_256 : (low : ℕ) (children : List (ℕ × Name)) → low ≤ 256 → IsAscendingFrom low children → low + length children ≤ 256
at_most_256 low [] fits rises = omega (arith, fits)
at_most_256 low (c ∷ children) fits rises = omega (arith, rises.0, at_most_256 (c.0 + 1) children (omega (arith, rises.1)) rises.2)

-- where they are as many, each such byte has a child
pub each_byte_held : (low byte : ℕ) (children : List (ℕ × Name)) → IsAscendingFrom low children → low + length children ≡ 256 → low ≤ byte → byte < 256 → IsSome (child_at children byte)
each_byte_held low byte [] rises count from fits = absurd (omega (arith, count, from, fits))
each_byte_held low byte (c ∷ children) rises count from fits =
    let rest = at_most_256 (c.0 + 1) children (omega (arith, rises.1)) rises.2 in
    elim (eqb_tells c.0 byte) [
      | inl here ↦ rw here.0 refl
      | inr away ↦ rw away.0 (each_byte_held (c.0 + 1) byte children rises.2 (omega (arith, rises.0, count, rest)) (omega (arith, rises.0, count, rest, from, away.1)) fits)
    ]

-- a full node of an inner kind that has no child under a byte isn't of the largest kind
pub isn't_largest : (kind : NodeType) (byte : ℕ) (children : List (ℕ × Name)) → kind ≢ Leaf → IsAscending children → byte < 256
    → child_at children byte ≡ None → length children ≡ (row_of kind).most → IsSome (row_of kind).larger
isn't_largest Node256 byte children inner rises fits vacant full =
    let held = each_byte_held 0 byte children rises (omega (arith, full)) (omega arith) fits in
    absurd (true≢false (sym (subst (λ (child : Option Name). IsSome child) vacant held)))
isn't_largest Leaf byte children inner rises fits vacant full = absurd (inner refl)
isn't_largest kind byte children inner rises fits vacant full = refl

-- a larger kind has room for one child more than a full node
pub room_when_grown : (kind : NodeType) → IsSome (row_of kind).larger → (row_of kind).most < (row_of (grown_kind kind)).most
room_when_grown Node256 larger = absurd (true≢false (sym larger))
room_when_grown Leaf larger = absurd (true≢false (sym larger))
room_when_grown kind larger = lit< tt

-- the children after these commands
abbrev pub children_after_all : List (ℕ × Name) → List ChildCommand → List (ℕ × Name)
children_after_all children [] = children
children_after_all children (command ∷ commands) = children_after_all (children_after children command) commands

pub after_one_more : (children : List (ℕ × Name)) (commands : List ChildCommand) (command : ChildCommand) → children_after_all children (commands ++ command ∷ []) ≡ children_after (children_after_all children commands) command
after_one_more children [] command = refl
after_one_more children (c ∷ commands) command = after_one_more (children_after children c) commands command

pub answers_one_more : (children : List (ℕ × Name)) (commands : List ChildCommand) (answers : List ChildAnswer) (command : ChildCommand) (answer : ChildAnswer)
    → AreChildAnswers children commands answers → IsChildAnswer (children_after_all children commands) command answer
    → AreChildAnswers children (commands ++ command ∷ []) (answers ++ answer ∷ [])
answers_one_more children [] [] command answer so_far next = (next, tt)
answers_one_more children [] (a ∷ answers) command answer so_far next = absurd so_far
answers_one_more children (c ∷ commands) [] command answer so_far next = absurd so_far
answers_one_more children (c ∷ commands) (a ∷ answers) command answer so_far next = (so_far.0, answers_one_more (children_after children c) commands answers command answer so_far.1 next)

-- one command more of a list, in the form of a loop's invariant
pub replayed_one_more : (commands : List ChildCommand) (i : ℕ) (answers : List ChildAnswer) (children : List (ℕ × Name)) (command : ChildCommand)
    (answer : ChildAnswer) → take (i + 1) commands ≡ take i commands ++ command ∷ [] → AreChildAnswers [] (take i commands) answers
    × (children ≡ children_after_all [] (take i commands)) → IsChildAnswer children command answer
    → AreChildAnswers [] (take (i + 1) commands) (answers ++ answer ∷ []) × (children_after children command ≡ children_after_all [] (take (i + 1) commands))
replayed_one_more commands i answers children command answer more so_far next =
    let here : IsChildAnswer (children_after_all [] (take i commands)) command answer = subst (λ (cs : List (ℕ × Name)). IsChildAnswer cs command answer) so_far.1 next in (
      subst (λ (done : List ChildCommand). AreChildAnswers [] done (answers ++ answer ∷ [])) (sym more) (answers_one_more [] (take i commands) answers command answer so_far.0 here),
      ap (λ (cs : List (ℕ × Name)). children_after cs command) so_far.1 ∙ sym (after_one_more [] (take i commands) command) ∙ ap (λ (done : List ChildCommand). children_after_all [] done) (sym more),
    )
