-- One call of a closure that is asked of the pairs of an extraction.
use Rattle.std.specs.Prelude.{◌≡◌, ℕ, Bool, List}
use Rattle.art_arena.specs.declared.ends.End.{End}
use Rattle.art_bytes.specs.declared.as_bytes.AsBytes as as_bytes
use Rattle.art_operations.specs.Pairs.{IsAtEnd, with_pair_put}
use Rattle.art_map.specs.Asked.{Asking}
use Rattle.art_map.specs.Extractions.{left_of, map_of}
use Rattle.art_map.specs.declared.map.extraction.Extraction.{Extraction}

-- the pairs of the map, those that are left, and this closure
abbrev pub asking_by : {K V F : Type 0} {P : ℕ} {g : as_bytes.Ghosts K} → Extraction K V P g → F → Asking K V F
asking_by e f = record { pairs = (map_of e).now.pairs; left = left_of e; asks = f }

-- the closure was called at the pair at this end, which is still there, with the value that it left
pub record IsAsked {K V F : Type 0} (T : F → K → V → Bool → V → F → Type 0) (bytes : K → List ℕ) (end : End)
    (s : Asking K V F) (b : Bool) (t : Asking K V F) : Type 0 where
  pub pair : K × V
  pub value : V
  pub rest : List (K × V)
  pub was : IsAtEnd end pair rest s.left
  pub called : T s.asks pair.0 pair.1 b value t.asks
  pub left : IsAtEnd end (pair.0, value) rest t.left
  pub put : t.pairs ≡ with_pair_put bytes pair.0 value s.pairs
