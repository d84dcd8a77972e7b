-- Room that is claimed of a slab: what was asked for, and not what the slab happens to have.
use Rattle.std.specs.Prelude.{◌≡◌, ℕ, ◌≤◌}
use Rattle.slab.specs.Slab.{Slab, slab_len, IsSlabClone}

module _ {T : Type 0} where
  -- so much is claimed: what the slab holds at least, and at most what it has room for
  pub record IsClaimed (slab : Slab T) (claimed : ℕ) : Type 0 where
    pub holds : slab_len slab ≤ claimed
    pub within : claimed ≤ slab.capacity

  -- the copy is a clone, and has room for its values and for no more
  pub record IsExactClone (is_clone : T → T → Type 0) (slots copy : Slab T) : Type 0 where
    pub clones : IsSlabClone is_clone slots copy
    pub exact : copy.capacity ≡ slab_len slots
