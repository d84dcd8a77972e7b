use Rattle.std.proofs.Common.{refl, sym, subst}
use Rattle.std.proofs.lemmas.Result.{IfOk-weaker}
use Rattle.std.specs.Fn.{FnOnceReturnsAt}
use Rattle.art_map.proofs.Entries.{err-never}
use Rattle.art_map.proofs.map.entry.methods.Entry+K+V+PREFIX_LEN.or_insert_with_key.Goals as goal

pub returns-in-Vacant : goal.returns-in-Vacant
returns-in-Vacant g c =
    let Gives = FnOnceReturnsAt g.F.FnOnce c.args.default c.in-Vacant.entry.key in
    let gave : Gives c.default-value.result = (c.key.result, c.default-value.ensures, c.key.ensures) in
    rw c.in-Vacant.is (
      (refl, c.insert.follows.holds, c.insert.follows.holds-at-none),
      record {
        writes_back = tt;
        value = IfOk-weaker c.insert.result _ _ (λ lent same. subst Gives (sym same) gave) c.insert.ensures.value;
        handed_back = err-never c.insert.result (λ refused back never. (refl, back.0, subst Gives (sym back.1) gave, never)) c.insert.ensures.handed_back c.insert.ensures.succeeds;
      },
    )
