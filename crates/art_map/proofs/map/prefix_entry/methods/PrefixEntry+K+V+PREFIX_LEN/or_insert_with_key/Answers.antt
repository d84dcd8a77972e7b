use Rattle.std.proofs.Common.{refl, sym, subst}
use Rattle.std.proofs.lemmas.Result.{IfErr-weaker, IfOk-weaker}
use Rattle.std.specs.Fn.{FnOnceReturnsAt}
use Rattle.art_map.specs.PrefixEntries.{Occupied}
use Rattle.art_map.proofs.Terms.{prefix_key}
use Rattle.art_map.proofs.Entries.{err-never}
use Rattle.art_map.proofs.PrefixEntries.{no-value, stored-leaves}
use Rattle.art_map.proofs.map.prefix_entry.methods.PrefixEntry+K+V+PREFIX_LEN.or_insert_with_key.Goals as goal

pub returns-in-Some : goal.returns-in-Some
returns-in-Some g c =
    rw c.in-Occupied.is (
      (refl, (λ w _. (c.lend.ensures.pairs w, c.lend.ensures.names w, stored-leaves _ _ _ _ c.lend.ensures.value (c.lend.ensures.room w))), tt),
      record { writes_back = tt; value = rw c.lend.ensures.value refl; handed_back = tt },
    )

pub returns-in-None : goal.returns-in-None
returns-in-None g c =
    let none = no-value c.in-Occupied.entry (sym c.in-None.ensures) in
    let Gives = FnOnceReturnsAt g.F.FnOnce c.args.default (prefix_key (Occupied c.in-Occupied.entry)) in
    let gave : Gives c.default-value.result = (c.key.result, c.default-value.ensures, c.key.ensures) in
    rw c.in-Occupied.is (
      (refl, c.insert.follows.holds, c.insert.follows.holds-at-none),
      record {
        writes_back = tt;
        value = IfOk-weaker c.insert.result _ _ (λ lent same. rw none (subst Gives (sym same) gave)) c.insert.ensures.value;
        handed_back = IfErr-weaker c.insert.result _ _ (λ refused back. (back.0, back.1, subst Gives (sym back.2) gave, back.3)) c.insert.ensures.handed_back;
      },
    )

pub returns-in-Vacant : goal.returns-in-Vacant
returns-in-Vacant g c =
    let Gives = FnOnceReturnsAt g.F.FnOnce c.args.default (c.in-Vacant.entry.key) in
    let gave : Gives c.default-value-in-Vacant.result = (c.key-in-Vacant.result, c.default-value-in-Vacant.ensures, c.key-in-Vacant.ensures) in
    rw c.in-Vacant.is (
      (refl, (λ w ok. let put = c.insert-in-Vacant.follows.holds w ok in (put.0, (λ slot key has still. put.1 slot key has), put.2)), c.insert-in-Vacant.follows.holds-at-none),
      record {
        writes_back = tt;
        value = IfOk-weaker c.insert-in-Vacant.result _ _ (λ lent same. subst Gives (sym same) gave) c.insert-in-Vacant.ensures.value;
        handed_back = err-never c.insert-in-Vacant.result (λ refused back never. (refl, back.0, subst Gives (sym back.1) gave, never)) c.insert-in-Vacant.ensures.handed_back c.insert-in-Vacant.ensures.succeeds;
      },
    )
