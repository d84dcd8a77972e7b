-- What is read ahead of lines lies on their own paths, in the tree of the records before one of the lines of a run.
use Rattle.std.proofs.Common.{◌≡◌, ℕ, ◌≤◌, List, [], ◌∷◌, ◌++◌, refl, ap, sym, subst, Bool, drop, inl, inr, arith}
use Rattle.std.specs.Prelude.{◌⊎◌, Option, slice_get}
use Rattle.std.specs.List.{FoldsTo}
use Rattle.art_arena.proofs.Common.{all_weaker}
use Rattle.art_arena.specs.tree.Changes.{IsIn}
use Rattle.art_lines.proofs.Common.{Command}
use Rattle.art_lines.specs.Reading.{command_of}
use Rattle.art_engine.specs.OwnAhead.{AreReadAhead, own_path_nodes}
use Rattle.art_engine.specs.ReadAhead.{line_or}
use Rattle.art_engine.specs.declared.read_ahead.line.Line.{Line}
use Rattle.art_engine.proofs.Terms.{AllOnOwnPath, AreOnOwnPaths, IsLineDone, IsNextLine, IsOnOwnPathIn, Records, State, left_by, records_so_far, texts_of}

-- a line was carried out as it is marked
abbrev pub AsMarked : {P : ℕ} → State P → List ℕ × Bool → State P → Type 0
AsMarked old l new = IsLineDone l.1 old l.0 new

-- the records now are the last of them
pub now_is_in : {P : ℕ} (earlier : List Records) (start now : State P) (asked : List (List ℕ × Bool)) → FoldsTo AsMarked start asked now → IsIn now.records (records_so_far earlier start.records asked)
now_is_in {P} earlier start now [] done = inl (ap (λ (s : State P). s.records) done)
now_is_in earlier start now (m ∷ ms) done =
    subst (λ r. IsIn now.records (records_so_far (start.records ∷ earlier) r ms)) done.1.left (now_is_in (start.records ∷ earlier) done.0 now ms done.2)

-- after a line more those from before are among them
still_in : (r : Records) (earlier : List Records) (records : Records) (asked : List (List ℕ × Bool)) (l : List ℕ × Bool)
    → IsIn r (records_so_far earlier records asked) → IsIn r (records_so_far earlier records (asked ++ l ∷ []))
still_in r earlier records [] l is = inr is
still_in r earlier records (m ∷ ms) l is = still_in r (records ∷ earlier) (left_by m.1 records m.0) ms l is

on_path_later : (command : Option Command) (n : ℕ) (earlier : List Records) (records : Records) (asked : List (List ℕ × Bool)) (l : List ℕ × Bool)
    → IsOnOwnPathIn (records_so_far earlier records asked) command n → IsOnOwnPathIn (records_so_far earlier records (asked ++ l ∷ [])) command n
on_path_later command n earlier records asked l (held, is, few) = (held, still_in held earlier records asked l is, few)

pub all_later : (lines : List Line) (earlier : List Records) (records : Records) (asked : List (List ℕ × Bool)) (l : List ℕ × Bool)
    → AllOnOwnPath (records_so_far earlier records asked) lines → AllOnOwnPath (records_so_far earlier records (asked ++ l ∷ [])) lines
all_later lines earlier records asked l all =
    all_weaker (λ (line : Line). IsOnOwnPathIn (records_so_far earlier records asked) (command_of line.text.items) line.read)
    (λ (line : Line). IsOnOwnPathIn (records_so_far earlier records (asked ++ l ∷ [])) (command_of line.text.items) line.read)
    (λ line is. on_path_later (command_of line.text.items) line.read earlier records asked l is) lines all

-- a line more, and what was read ahead of it
pub told_on : (earlier : List Records) (records : Records) (asked : List (List ℕ × Bool)) (told : List ℕ) (l : List ℕ × Bool) (n : ℕ) → AreOnOwnPaths earlier records asked told
    → IsOnOwnPathIn (records_so_far earlier records asked) (command_of l.0) n → AreOnOwnPaths earlier records (asked ++ l ∷ []) (told ++ n ∷ [])
told_on earlier records [] told l n none is = subst (λ ns. AreOnOwnPaths earlier records (l ∷ []) (ns ++ n ∷ [])) (sym none) (is, refl)
told_on earlier records (m ∷ ms) [] l n own is = absurd own
told_on earlier records (m ∷ ms) (k ∷ told) l n own is = (own.0, told_on (records ∷ earlier) (left_by m.1 records m.0) ms told l n own.1 is)

-- fewer nodes of a path, of the same command
pub fewer_on : (all : List Records) (command : Option Command) (n m : ℕ) → n ≤ m → IsOnOwnPathIn all command m → IsOnOwnPathIn all command n
fewer_on all command n m less (held, is, few) = (held, is, omega arith)

-- of lines that are read ahead now, or were before
pub after_prefetch : (P : ℕ) (all : List Records) (now : Records) (lines next : List Line) → IsIn now all → AllOnOwnPath all lines → (next ≡ lines) ⊎ AreReadAhead P now next → AllOnOwnPath all next
after_prefetch P all now lines next is own (inl same) = subst (AllOnOwnPath all) (sym same) own
after_prefetch P all now lines next is own (inr read) =
    all_weaker (λ (line : Line). line.read ≤ own_path_nodes (command_of line.text.items) now) (λ (line : Line). IsOnOwnPathIn all (command_of line.text.items) line.read)
    (λ line few. (now, is, few)) next read.few

-- of the next of some lines, and of those after it; where none was read before its turn, nothing was read ahead
pub next_on_path : (all : List Records) (now : Records) (lines : List Line) (text : List ℕ) → IsIn now all → IsNextLine text (texts_of lines) → AllOnOwnPath all lines
    → IsOnOwnPathIn all (command_of text) (line_or 0 (λ (line : Line). line.read) (slice_get lines 0)) × AllOnOwnPath all (drop 1 lines)
next_on_path all now [] text is next own = ((now, is, omega arith), tt)
next_on_path all now (x ∷ xs) text is next own = (subst (λ t. IsOnOwnPathIn all (command_of t) x.read) next own.0, own.1)

-- of a line that was parsed in its turn
pub none_ahead : (all : List Records) (now : Records) (command : Option Command) (n : ℕ) → IsIn now all → n ≡ 0 → IsOnOwnPathIn all command n
none_ahead all now command n is none = (now, is, omega arith)
