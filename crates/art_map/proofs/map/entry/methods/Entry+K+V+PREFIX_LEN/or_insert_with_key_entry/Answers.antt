use Rattle.std.proofs.Common.{refl, sym, subst}
use Rattle.std.proofs.lemmas.Result.{IfOk-weaker}
use Rattle.std.specs.Fn.{FnOnceReturnsAt}
use Rattle.art_map.proofs.Entries.{err-never}
use Rattle.art_map.proofs.map.entry.methods.Entry+K+V+PREFIX_LEN.or_insert_with_key_entry.Goals as goal

pub returns-in-Vacant : goal.returns-in-Vacant
returns-in-Vacant g c =
    let Gives = FnOnceReturnsAt g.F.FnOnce c.args.default c.in-Vacant.entry.key in
    let gave : Gives c.default-given.result = (c.key.result, c.default-given.ensures, c.key.ensures) in
    rw c.in-Vacant.is (
      (refl, c.insert_entry.follows.holds, c.insert_entry.follows.holds-at-none),
      record {
        rests = tt;
        filled = IfOk-weaker c.insert_entry.result _ _ (λ entry is. (c.default-given.result, gave, is)) c.insert_entry.ensures.written;
        handed_back = err-never c.insert_entry.result (λ refused back never. (refl, back.0, subst Gives (sym back.1) gave, never)) c.insert_entry.ensures.handed_back c.insert_entry.ensures.succeeds;
      },
    )
