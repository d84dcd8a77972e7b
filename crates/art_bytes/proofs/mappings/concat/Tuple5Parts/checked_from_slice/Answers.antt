-- A tuple that had these bytes would be first parts and a last that have them.
use Rattle.art_bytes.proofs.mappings.concat.Tuple5Parts.checked_from_slice.Goals as goal

pub returns-in-None : goal.returns-in-None
returns-in-None g c = λ h. c.in-None.ensures ((h.0.0, h.0.1, h.0.2, h.0.3), h.0.4, h.1.0, h.1.1, h.2)
