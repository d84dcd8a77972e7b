-- What commands leave and answer, as the checker computes it.
use Rattle.std.proofs.Common.{◌≡◌, ℕ, List, [], ◌∷◌, refl, inl}
use Rattle.art_operations.proofs.Terms.{IsAnswered, pairs_after, clones_in, Answer, Done, Prefix, Insert, PrefixInsert, Delete, Clone}
use Rattle.art_operations.specs.declared.running.Answer.TheVariants.{Memory}
use Rattle.art_operations.specs.declared.running.Command.{Command}

-- each key is its own bytes
abbrev itself : List ℕ → List ℕ
itself k = k

abbrev left_after : List (Command (List ℕ) ℕ) → List Answer → List (List ℕ × ℕ)
left_after commands answers = pairs_after itself commands answers []

abbrev clones_among : List (Command (List ℕ) ℕ) → ℕ
clones_among commands = clones_in commands

abbrev AnswersOn : List (List ℕ × ℕ) → Command (List ℕ) ℕ → Answer → Type 0
AnswersOn pairs command answer = IsAnswered itself pairs command answer

-- pairs stand by ascending key, whichever came first
in_order : left_after (Insert (2 ∷ []) 5 ∷ Insert (1 ∷ 9 ∷ []) 6 ∷ Insert (1 ∷ 3 ∷ []) 7 ∷ []) (Done 0 ∷ Done 0 ∷ Done 0 ∷ [])
    ≡ (1 ∷ 3 ∷ [], 7) ∷ (1 ∷ 9 ∷ [], 6) ∷ (2 ∷ [], 5) ∷ []
in_order = refl

-- an equal key has its pair replaced, where it stands
replaced : left_after (Insert (1 ∷ []) 5 ∷ Insert (2 ∷ []) 6 ∷ Insert (1 ∷ []) 7 ∷ []) (Done 0 ∷ Done 0 ∷ Done 1 ∷ []) ≡ (1 ∷ [], 7) ∷ (2 ∷ [], 6) ∷ []
replaced = refl

replaced_one : AnswersOn ((1 ∷ [], 5) ∷ (2 ∷ [], 6) ∷ []) (Delete (1 ∷ [])) (Done 1)
replaced_one = refl

-- a key that is a front of a stored one is refused, and changes nothing
blocked : AnswersOn ((1 ∷ 2 ∷ [], 5) ∷ []) (Insert (1 ∷ []) 6) Prefix
blocked = ((1 ∷ 2 ∷ [], 5), inl refl, (λ e. cc, inl (2 ∷ [], refl)))

not_put : left_after (Insert (1 ∷ 2 ∷ []) 5 ∷ Insert (1 ∷ []) 6 ∷ []) (Done 0 ∷ Prefix ∷ []) ≡ (1 ∷ 2 ∷ [], 5) ∷ []
not_put = refl

-- it may take that one's place, as that of all that begin with it or are a front of it
insert_over : left_after (Insert (1 ∷ 2 ∷ []) 5 ∷ Insert (1 ∷ 3 ∷ []) 6 ∷ Insert (2 ∷ []) 7 ∷ PrefixInsert (1 ∷ []) 8 ∷ []) (Done 0 ∷ Done 0 ∷ Done 0 ∷ Done 2 ∷ []) ≡ (1 ∷ [], 8) ∷ (2 ∷ [], 7) ∷ []
insert_over = refl

put_over_longer : left_after (Insert (1 ∷ []) 5 ∷ Insert (2 ∷ []) 6 ∷ PrefixInsert (2 ∷ 3 ∷ []) 7 ∷ []) (Done 0 ∷ Done 0 ∷ Done 1 ∷ []) ≡ (1 ∷ [], 5) ∷ (2 ∷ 3 ∷ [], 7) ∷ []
put_over_longer = refl

put_over_two : AnswersOn ((1 ∷ 2 ∷ [], 5) ∷ (1 ∷ 3 ∷ [], 6) ∷ (2 ∷ [], 7) ∷ []) (PrefixInsert (1 ∷ []) 8) (Done 2)
put_over_two = refl

-- all overlap the key of no bytes
put_over_all : AnswersOn ((1 ∷ [], 5) ∷ (2 ∷ [], 6) ∷ (3 ∷ [], 7) ∷ []) (PrefixInsert [] 8) (Done 3)
put_over_all = refl

-- nothing changes either by a command for which there was no memory
no_memory : left_after (Insert (1 ∷ []) 5 ∷ Insert (2 ∷ []) 6 ∷ Delete (1 ∷ []) ∷ []) (Done 0 ∷ Memory ∷ Memory ∷ []) ≡ (1 ∷ [], 5) ∷ []
no_memory = refl

-- a key that isn't stored is deleted zero times
deleted : left_after (Insert (1 ∷ []) 5 ∷ Insert (2 ∷ []) 6 ∷ Delete (1 ∷ []) ∷ Delete (3 ∷ []) ∷ []) (Done 0 ∷ Done 0 ∷ Done 1 ∷ Done 0 ∷ []) ≡ (2 ∷ [], 6) ∷ []
deleted = refl

deleted_none : AnswersOn ((2 ∷ [], 6) ∷ []) (Delete (3 ∷ [])) (Done 0)
deleted_none = refl

-- the last pair goes, and none is left
emptied : left_after (Insert (1 ∷ []) 5 ∷ Delete (1 ∷ []) ∷ []) (Done 0 ∷ Done 1 ∷ []) ≡ []
emptied = refl

-- a clone has the same pairs, whether it takes the tree's place or is refused
cloned : left_after (Insert (1 ∷ []) 5 ∷ Clone ∷ Clone ∷ Insert (2 ∷ []) 6 ∷ []) (Done 0 ∷ Done 0 ∷ Memory ∷ Done 0 ∷ []) ≡ (1 ∷ [], 5) ∷ (2 ∷ [], 6) ∷ []
cloned = refl

cloned_twice : clones_among (Insert (1 ∷ []) 5 ∷ Clone ∷ Delete (1 ∷ []) ∷ Clone ∷ []) ≡ 2
cloned_twice = refl
