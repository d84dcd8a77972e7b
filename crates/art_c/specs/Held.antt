-- What a handle owns.
use Rattle.std.specs.Prelude.{Option, Some, None}
use base.Fml.{Fml, ftrue}
use denote.RattleType.{RattleType}
use denote.RawPtr.{Ptr}
use mir.Syntax.{Ty}
use Rattle.std_alloc.specs.Box.Ownership.{box_owns}
use Rattle.std_heap.specs.contracts.GlobalAllocator.TheImpl.{ghosts}
use Rattle.art_c.specs.contracts.handle.store.Store as store

-- what the heap asks for a block that it is to free
abbrev pub chunk : Ty → Ptr → Fml
chunk = ghosts.dealloc_token (record { memory = record { seal = tt } })

-- the type of what is boxed, as the logic holds it
abbrev pub store_row : RattleType
store_row = store.the_row

-- what a contract sees of it
abbrev pub Kept : Type 0
Kept = store_row.Denot

-- a box of such a value at the address, or nothing
abbrev pub held_owns : (R : RattleType) → Ptr → Option R.Denot → Fml
held_owns R p None = ftrue
held_owns R p (Some x) = box_owns chunk R p x
