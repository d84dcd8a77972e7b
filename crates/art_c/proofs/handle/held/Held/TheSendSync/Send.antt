-- What a handle holds names no thread.
use denote.Param.Send.{IsSend}
use Rattle.art_c.proofs.Crosses.{held-send}
use Rattle.art_c.specs.contracts.handle.held.Held.{the_row}

pub send : IsSend the_row
send = held-send
