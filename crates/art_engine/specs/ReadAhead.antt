-- Lines that were parsed before their turn: those that are still to come, and what was prefetched for them.
use Rattle.std.specs.Prelude.{◌≡◌, ◌⊎◌, ℕ, ◌<◌, Bool, true, false, if◌then◌else◌, List, [], ◌∷◌, length, map, drop}
use Rattle.std.specs.Prelude.{take, Option, Some, None, IfSome, option_map, slice_get}
use Rattle.std.specs.Borrow.{Bor}
use Rattle.std.specs.Global.{Vec}
use Rattle.std.specs.List.{AllByRecursion, sum_by}
use Rattle.art_nodes.specs.InnerNode.{InnerNode}
use Rattle.art_nodes.specs.Name.{Name}
use Rattle.art_nodes.specs.declared.leaf.LeafNode.{LeafNode}
use Rattle.art_arena.specs.arena.Arena.{Arena, held_at, inner_held, leaf_held}
use Rattle.art_lines.specs.declared.command.fields.Fields.{Fields}
use Rattle.art_lines.specs.declared.command.word.Word.{Word}
use Rattle.art_lines.specs.Commands.{Command}
use Rattle.art_lines.specs.Parsed.{command_with}
use Rattle.art_lines.specs.Reading.{command_of}
use Rattle.art_engine.specs.Ahead.{AreOnOwnPath, IsWayAhead, IsWholeWay, IsDeadEnd, finds_key}
use Rattle.art_engine.specs.Landed.{IsLandingOf}
use Rattle.art_engine.specs.Records.{Records}
use Rattle.art_engine.specs.declared.read_ahead.ParsedLine.{ParsedLine}
use Rattle.art_engine.specs.declared.read_ahead.ReadAhead.{ReadAhead}
use Rattle.art_engine.specs.declared.read_ahead.landing.Landing.{Landing}
use Rattle.art_engine.specs.declared.read_ahead.landing.Landing.TheVariants.{Open, Leaf, Missed, Found}
use Rattle.art_engine.specs.declared.read_ahead.line.Line.{Line}

-- those that are still to come
abbrev pub to_come : ReadAhead → List Line
to_come ahead = drop ahead.at (take ahead.len ahead.lines.items)

-- their bytes
abbrev pub texts_of : List Line → List (List ℕ)
texts_of lines = map (λ line. line.text.items) lines

-- how many nodes were prefetched for them
abbrev pub read_of : List Line → ℕ
read_of lines = sum_by (λ line. line.read) lines

-- the line that came last, if it was parsed before its turn
abbrev pub line_found : List Line → Option ℕ → Option Line
line_found lines None = None
line_found lines (Some at) = slice_get lines at

abbrev pub line_or : {X : Type 0} → X → (Line → X) → Option Line → X
line_or own of None = own
line_or own of (Some line) = of line

-- its word, its fields, its command, and how many nodes were prefetched for it
abbrev pub word_now : ReadAhead → Option Word
word_now ahead = line_or ahead.word (λ line. line.word) (line_found ahead.lines.items ahead.current)

abbrev pub fields_now : ReadAhead → Fields
fields_now ahead = line_or ahead.fields (λ line. line.fields) (line_found ahead.lines.items ahead.current)

abbrev pub command_now : ReadAhead → Option Command
command_now ahead = option_map (λ word. command_with word (fields_now ahead)) (word_now ahead)

abbrev pub ahead_now : ReadAhead → ℕ
ahead_now ahead = line_or 0 (λ line. line.read) (line_found ahead.lines.items ahead.current)

-- what is known of the record that it looks up, as long as the records are those in which its path was descended
abbrev pub landing_now : ReadAhead → Landing
landing_now ahead =
    line_or Open (λ line. if ahead.fresh then line.landing else Open) (line_found ahead.lines.items ahead.current)

abbrev pub value_now : ReadAhead → List ℕ
value_now ahead = line_or [] (λ line. line.value.items) (line_found ahead.lines.items ahead.current)

-- the line that came last, if it was parsed before its turn
abbrev pub line_now : ReadAhead → Option Line
line_now ahead = line_found ahead.lines.items ahead.current

-- A line of which nothing was visited yet, and whose way begins at the root of its own map.
pub record IsAtStart (keys numbers : Option Name) (line : Line) : Type 0 where
  pub unvisited : line.visited.items ≡ []
  pub unlanded : line.landing ≡ Open
  pub starts : 0 < line.left → (line.depth ≡ 0) × ((if line.of_number then numbers else keys) ≡ Some line.node)

-- this is so where a path came to its end
abbrev pub IfEnded : Landing → Type 0 → Type 0
IfEnded Open IsSo = Unit {0}
IfEnded other IsSo = IsSo

-- What a path came to: to a leaf; to an inner node from which the key goes no further, or to a leaf whose key isn't
-- looked for, so that there is no record; or to the leaf of its record, which has this value.
module _ {K : Type 0} (bytes : K → List ℕ) (arena : Arena K (Vec ℕ)) (key : List ℕ) (takes : List ℕ → Bool)
    (value : List ℕ) (here : Name × ℕ) where
  abbrev pub ComesTo : Landing → Type 0
  ComesTo Open = Unit {0}
  ComesTo Leaf = (leaf : LeafNode K (Vec ℕ)) × (held_at arena here.0 ≡ Some (leaf_held leaf))
  ComesTo Missed =
      ((node : InnerNode) × (held_at arena here.0 ≡ Some (inner_held node)) × IsDeadEnd key here.1 node)
      ⊎ ((leaf : LeafNode K (Vec ℕ)) × (held_at arena here.0 ≡ Some (leaf_held leaf))
      × (takes (bytes leaf.key) ≡ false))
  ComesTo (Found len) = (leaf : LeafNode K (Vec ℕ)) × (held_at arena here.0 ≡ Some (leaf_held leaf))
      × (takes (bytes leaf.key) ≡ true) × (length (bytes leaf.key) ≡ len) × (leaf.value.items ≡ value)

module _ {K : Type 0} (bytes : K → List ℕ) (arena : Arena K (Vec ℕ)) where
  -- What was visited for the line is a way from this root on. Where its path came to its end, these are all its nodes.
  pub record IsOnWayIn (root : Option Name) (line : Line) : Type 0 where
    pub ahead : IsWayAhead arena line.key.items root line.visited.items line.left (line.node, line.depth)
    pub whole : IfEnded line.landing
        (IsWholeWay arena line.key.items root line.visited.items (line.node, line.depth))
    pub ends : ComesTo bytes arena line.key.items (finds_key (command_of line.text.items) line.key.items)
        line.value.items (line.node, line.depth) line.landing

  -- A line after a descent in one of both maps: if its path lies in that map, its way stays one; else the line is what
  -- it was.
  pub record IsDescended (in_numbers : Bool) (old new : Line) : Type 0 where
    pub same_map : new.of_number ≡ old.of_number
    pub way : old.of_number ≡ in_numbers → (root : Option Name) → IsOnWayIn root old → IsOnWayIn root new
    pub other : (old.of_number ≡ in_numbers → ⊥) → new ≡ old

-- what is read early of a leaf is its key, and its value if that is shown
abbrev pub IsReadEarly : {K : Type 0} → Arena K (Vec ℕ) → Name → Bor K × Option (Bor (Vec ℕ)) → Type 0
IsReadEarly {K} arena name early = (leaf : LeafNode K (Vec ℕ)) × (held_at arena name ≡ Some (leaf_held leaf))
    × (early.0.now ≡ leaf.key) × IfSome early.1 (λ value. value.now ≡ leaf.value)

-- Beside each of these lines whose path in this map came to a leaf stands what is read early of it.
abbrev pub AreReadEarly : {K : Type 0} → Arena K (Vec ℕ) → Bool → List Line
    → List (Option (Bor K × Option (Bor (Vec ℕ)))) → Type 0
AreReadEarly arena in_numbers (line ∷ lines) (early ∷ others) =
    IfSome early (λ e. (line.of_number ≡ in_numbers) × IsReadEarly arena line.node e)
    × AreReadEarly arena in_numbers lines others
AreReadEarly arena in_numbers lines others = Unit {0}

module _ (keys : Arena (Vec ℕ) (Vec ℕ)) (keys_root : Option Name) (numbers : Arena (List ℕ) (Vec ℕ))
    (numbers_root : Option Name) where
  -- what was visited for the line is a way in the map of numbers, or in that of keys
  abbrev pub IsOnWayOf : Bool → Line → Type 0
  IsOnWayOf true line = IsOnWayIn (λ k. k) numbers numbers_root line
  IsOnWayOf false line = IsOnWayIn (λ k. k.items) keys keys_root line

  -- it is one in its own map
  abbrev pub IsOnOwnWay : Line → Type 0
  IsOnOwnWay line = IsOnWayOf line.of_number line

-- What was read ahead of a line are the first nodes of its own path, as many as are told for it.
pub record IsReadAhead (P : ℕ) (keys : Arena (Vec ℕ) (Vec ℕ)) (ps : List (Vec ℕ × Vec ℕ))
    (numbers : Arena (List ℕ) (Vec ℕ)) (ns : List (List ℕ × Vec ℕ)) (line : Line) : Type 0 where
  pub path : AreOnOwnPath P keys ps numbers ns (command_of line.text.items) line.visited.items
  pub told : length line.visited.items ≡ line.read

-- What its path came to tells so of its look-up.
abbrev pub IsLandedLine : ℕ → Records → Line → Type 0
IsLandedLine P records line =
    IsLandingOf P records (command_of line.text.items) line.landing line.value.items line.read

-- So it is of each line to come, as long as no line between has changed the records.
abbrev pub AreLanded : ℕ → Records → ReadAhead → Type 0
AreLanded P records ahead = ahead.fresh ≡ true → AllByRecursion (IsLandedLine P records) (to_come ahead)

-- and of the one that came last
abbrev pub IsLandedNow : ℕ → Records → ReadAhead → Type 0
IsLandedNow P records ahead =
    IsLandingOf P records (command_now ahead) (landing_now ahead) (value_now ahead) (ahead_now ahead)

-- The command that a parsed line asks for, and what is told of it.
abbrev pub command_parsed : ParsedLine → Option Command
command_parsed line = option_map (λ word. command_with word line.fields.now) line.word

abbrev pub IsLandedParsed : ℕ → Records → ParsedLine → Type 0
IsLandedParsed P records line =
    IsLandingOf P records (command_parsed line) line.landing line.value.now line.ahead
