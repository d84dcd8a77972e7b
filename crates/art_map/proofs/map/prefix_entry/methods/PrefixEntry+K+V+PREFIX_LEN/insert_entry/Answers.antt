use Rattle.std.proofs.Common.{refl}
use Rattle.art_map.proofs.Entries.{err-never}
use Rattle.art_map.proofs.map.prefix_entry.methods.PrefixEntry+K+V+PREFIX_LEN.insert_entry.Goals as goal

pub returns-in-Vacant : goal.returns-in-Vacant
returns-in-Vacant g c =
    rw c.in-Vacant.is (
      (refl, c.insert_entry-in-Vacant.follows.holds, c.insert_entry-in-Vacant.follows.holds-at-none),
      record {
        rests = tt;
        written = c.insert_entry-in-Vacant.ensures.written;
        handed_back = err-never c.insert_entry-in-Vacant.result (λ refused back never. (refl, back.0, back.1, never)) c.insert_entry-in-Vacant.ensures.handed_back c.insert_entry-in-Vacant.ensures.succeeds;
      },
    )

pub returns-in-Occupied : goal.returns-in-Occupied
returns-in-Occupied g c =
    rw c.in-Occupied.is (
      (refl, c.insert_entry.follows.holds, c.insert_entry.follows.holds-at-none),
      record { rests = tt; written = c.insert_entry.ensures.written; handed_back = c.insert_entry.ensures.handed_back },
    )
