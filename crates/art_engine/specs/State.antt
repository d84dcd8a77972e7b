-- What an index holds, and what its lines have read.
use Rattle.std.specs.Prelude.{ℕ, List, []}
use Rattle.art_engine.specs.Records.{Records}

-- The records of all tenants. How many nodes each line has read that was answered so far, in order, and how many are
-- told as read ahead of each. What the readers counted that went ahead of lines, each time they went. How much a line
-- reads goes by `P`, the bytes of a prefix that a node stores.
pub record State (P : ℕ) : Type 0 where
  pub records : Records
  pub reads : List ℕ
  pub ahead : List ℕ
  pub prefetched : List ℕ

-- nothing was read yet
abbrev pub unread : {P : ℕ} → Records → State P
unread records = record { records = records; reads = []; ahead = []; prefetched = [] }
