-- What a handle owns may go to another thread.
use Rattle.std.proofs.Common.{Option, Some, None}
use mir.Raw.{raw}
use base.Shift.{Keyless}
use denote.Memory.{lone}
use denote.RawPtr.{Ptr}
use denote.Builtin.{RawPtr}
use denote.Param.Send.{IsSend, owning_send, sendable}
use Rattle.std.proofs.Crossing.{frees}
use Rattle.art_c.proofs.handle.store.Store.TheSendSync.{the_send as store}
use Rattle.std_alloc.proofs.SendSync.{lies}
use Rattle.art_c.specs.Held.{Kept, held_owns, store_row}
use Rattle.art_c.specs.contracts.handle.held.Held.{the_row, the_type}

store-send : IsSend store_row
store-send = store

pointer-send : IsSend RawPtr
pointer-send = search sendable

owns-keyless : (p : Ptr) (store : Option Kept) → Keyless (held_owns store_row p store)
owns-keyless p None = tt
owns-keyless p (Some x) = (lies store_row store-send p x, frees.frees (record { memory = record { seal = tt } }) (raw (lone store_row.mir)) p)

pub held-send : IsSend the_row
held-send = owning_send the_type (pointer-send, tt) (λ h. owns-keyless h.at h.store) (λ k x w. tt)
