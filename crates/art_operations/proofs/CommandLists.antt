-- A list of commands with one more: what it answers, and the pairs that it leaves.
use Rattle.std.proofs.Common.{◌≡◌, ℕ, List, [], ◌∷◌, ◌++◌, length, Option, refl, sym, ap, subst, ◌∙◌, arith}
use Rattle.art_nodes.proofs.Common.{Name}
use Rattle.art_arena.proofs.Common.{Arena}
use Rattle.art_operations.proofs.Terms.{IsAnswered, AreAnswered, after, pairs_after, with_clone, clones_in, IsCloned, HasClones, Answer, Insert, PrefixInsert, Delete, Clone}
use Rattle.art_operations.specs.declared.running.Change.{Change}
use Rattle.art_operations.specs.declared.running.Command.{Command}

module _ {K V : Type 0} (bytes : K → List ℕ) where
  -- the pairs after one command more
  pub pairs-one-more : (pairs : List (K × V)) (commands : List (Command K V)) (answers : List Answer) (command : Command K V) (answer : Answer) → AreAnswered bytes pairs commands answers
      → pairs_after bytes (commands ++ command ∷ []) (answers ++ answer ∷ []) pairs ≡ after bytes command answer (pairs_after bytes commands answers pairs)
  pairs-one-more pairs [] [] command answer h = refl
  pairs-one-more pairs [] (a ∷ answers) command answer h = absurd h
  pairs-one-more pairs (c ∷ commands) [] command answer h = absurd h
  pairs-one-more pairs (c ∷ commands) (a ∷ answers) command answer h = pairs-one-more (after bytes c a pairs) commands answers command answer h.1

  -- one answer more
  pub answers-one-more : (pairs : List (K × V)) (commands : List (Command K V)) (answers : List Answer) (command : Command K V) (answer : Answer) → AreAnswered bytes pairs commands answers
      → IsAnswered bytes (pairs_after bytes commands answers pairs) command answer → AreAnswered bytes pairs (commands ++ command ∷ []) (answers ++ answer ∷ [])
  answers-one-more pairs [] [] command answer h next = (next, tt)
  answers-one-more pairs [] (a ∷ answers) command answer h next = absurd h
  answers-one-more pairs (c ∷ commands) [] command answer h next = absurd h
  answers-one-more pairs (c ∷ commands) (a ∷ answers) command answer h next = (h.0, answers-one-more (after bytes c a pairs) commands answers command answer h.1 next)

  -- there are as many answers as commands
  pub as-many : (pairs : List (K × V)) (commands : List (Command K V)) (answers : List Answer) → AreAnswered bytes pairs commands answers → length answers ≡ length commands
  as-many pairs [] [] h = refl
  as-many pairs [] (a ∷ answers) h = absurd h
  as-many pairs (c ∷ commands) [] h = absurd h
  as-many pairs (c ∷ commands) (a ∷ answers) h = omega (arith, as-many (after bytes c a pairs) commands answers h.1)

  -- one command more to clone the tree, or not
  clone-again : (c d : Command K V) (n : ℕ) → with_clone c (with_clone d n) ≡ with_clone d (with_clone c n)
  clone-again (Insert k v) d n = refl
  clone-again (PrefixInsert k v) d n = refl
  clone-again (Delete k) d n = refl
  clone-again Clone (Insert k v) n = refl
  clone-again Clone (PrefixInsert k v) n = refl
  clone-again Clone (Delete k) n = refl
  clone-again Clone Clone n = refl

  clones-one-more : (commands : List (Command K V)) (command : Command K V) → clones_in (commands ++ command ∷ []) ≡ with_clone command (clones_in commands)
  clones-one-more [] command = refl
  clones-one-more (c ∷ commands) command = ap (with_clone c) (clones-one-more commands command) ∙ clone-again c command (clones_in commands)

  module _ (P : ℕ) (KeyClone : K → K → Type 0) (ValueClone : V → V → Type 0) where
    -- the arena has clones of these pairs, with at most so many clones between
    abbrev Has : ℕ → Arena K V → Option Name → List (K × V) → Type 0
    Has n arena root pairs = HasClones bytes P arena (IsCloned KeyClone n) (IsCloned ValueClone n) root pairs

    -- the commands have these answers, and the arena clones of the pairs that they leave
    abbrev pub HasRun : Arena K V → Option Name → List (Command K V) → List Answer → Type 0
    HasRun arena root commands answers = AreAnswered bytes [] commands answers × Has (clones_in commands) arena root (pairs_after bytes commands answers [])

    -- one command more was carried out
    pub run-one-more : (old new : Arena K V) (root : Option Name) (commands more : List (Command K V)) (answers : List Answer) (command : Command K V) (change : Change) → more ≡ commands ++ command ∷ []
        → HasRun old root commands answers
        → ((n : ℕ) (pairs : List (K × V)) → Has n old root pairs → IsAnswered bytes pairs command change.answer × Has (with_clone command n) new change.root (after bytes command change.answer pairs))
        → HasRun new change.root more (answers ++ change.answer ∷ [])
    run-one-more old new root commands more answers command change more_is (answered, has) done =
        let next = done (clones_in commands) (pairs_after bytes commands answers []) has in
        rw more_is (
          answers-one-more [] commands answers command change.answer answered next.0,
          subst (λ n. Has n new change.root (pairs_after bytes (commands ++ command ∷ []) (answers ++ change.answer ∷ []) [])) (sym (clones-one-more commands command))
              (subst (Has (with_clone command (clones_in commands)) new change.root) (sym (pairs-one-more [] commands answers command change.answer answered)) next.1),
        )
