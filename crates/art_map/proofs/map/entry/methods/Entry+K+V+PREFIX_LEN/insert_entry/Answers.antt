use mathlib.Core.Option.{some}
use Rattle.std.proofs.Common.{refl, sym, ap}
use Rattle.art_map.proofs.Entries.{err-never, remade}
use Rattle.art_map.proofs.map.entry.methods.Entry+K+V+PREFIX_LEN.insert_entry.Goals as goal

pub returns-in-Occupied : goal.returns-in-Occupied
returns-in-Occupied g c =
    rw c.in-Occupied.is (
      (ap some (sym c.new.ensures.same_map.0), (λ w. refl), tt),
      record {
        rests = tt;
        written = remade c.in-Occupied.entry c.write_at.new.self c.args.value c.write_at.ensures.now c.new.result c.new.ensures.same_map c.new.ensures.pair c.write_at.ensures.pairs;
        handed_back = tt;
      },
    )

pub returns-in-Vacant : goal.returns-in-Vacant
returns-in-Vacant g c =
    rw c.in-Vacant.is (
      (refl, c.insert_entry.follows.holds, c.insert_entry.follows.holds-at-none),
      record {
        rests = tt;
        written = c.insert_entry.ensures.written;
        handed_back = err-never c.insert_entry.result (λ refused back never. (refl, back.0, back.1, never)) c.insert_entry.ensures.handed_back c.insert_entry.ensures.succeeds;
      },
    )
