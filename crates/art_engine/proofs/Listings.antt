-- How many nodes a listing reads.
use Rattle.std.proofs.Common.{◌≡◌, ℕ, ◌+◌, ◌-◌, ◌<◌, ◌≤◌, ◌^◌, min, arith}
use Rattle.art_engine.proofs.Terms.{listed_after, exactly, GrewBy, GrewUpTo, Grew}

-- both ends of a run are found, and then a leaf is read for each record
pub listing_grew : (opening m old mid new : ℕ) → mid ≡ min (old + opening) (2 ^ 64 - 1) → m < 2 ^ 64 → GrewBy m mid new → Grew (exactly (listed_after opening m)) old new
listing_grew opening m old mid new opens few grew =
    let is : new ≡ min (mid + m) (2 ^ 64 - 1) = grew (omega arith) in
    record { most = omega arith; least = omega arith; fits = omega arith }

-- and however far it was listed, no more is read
pub listing_most : (opening m old mid new : ℕ) → mid ≡ min (old + opening) (2 ^ 64 - 1) → m < 2 ^ 64 → GrewUpTo m mid new → new ≤ old + listed_after opening m
listing_most opening m old mid new opens few (n, within, grew) =
    let is : new ≡ min (mid + n) (2 ^ 64 - 1) = grew (omega arith) in
    omega arith

-- a path is read
pub path_grew : (path old new : ℕ) → path < 2 ^ 64 → new ≡ min (old + path) (2 ^ 64 - 1) → Grew (exactly path) old new
path_grew path old new fits is = record { most = omega arith; least = omega arith; fits = omega arith }
