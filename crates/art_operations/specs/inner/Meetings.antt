-- How a stored list of bytes and a new one meet.
use Rattle.std.specs.Prelude.{◌≡◌, ℕ, List}
use Rattle.art_operations.specs.Meetings.{PartAt}
use Rattle.art_operations.specs.declared.meeting.Meeting.{Meeting}
use Rattle.art_operations.specs.declared.meeting.Meeting.TheVariants as meeting
use Rattle.art_bytes.specs.Keys.{IsProperFront}

-- they are the same, one is a proper front of the other, or they part
abbrev pub Meets : List ℕ → List ℕ → Meeting → Type 0
Meets old new meeting.Same = old ≡ new
Meets old new meeting.OldEnds = IsProperFront old new
Meets old new meeting.NewEnds = IsProperFront new old
Meets old new (meeting.Parts parted) = PartAt old new parted
