use Rattle.std.proofs.Common.{refl, sym, subst}
use Rattle.std.proofs.lemmas.Result.{IfErr-weaker, IfOk-weaker}
use Rattle.std.specs.Fn.{FnOnceReturnsAt}
use Rattle.art_map.specs.PrefixEntries.{Occupied}
use Rattle.art_map.proofs.Terms.{occupied_kind, prefix_key}
use Rattle.art_map.proofs.Entries.{err-never}
use Rattle.art_map.proofs.PrefixEntries.{no-error, no-value, same-fills, written-fills}
use Rattle.art_map.proofs.map.prefix_entry.methods.PrefixEntry+K+V+PREFIX_LEN.or_insert_with_key_entry.Goals as goal

pub returns-in-Some : goal.returns-in-Some
returns-in-Some g c =
    rw c.in-Occupied.is (
      (refl, c.give.follows.holds, c.give.follows.holds-at-none),
      record {
        rests = tt;
        filled = IfOk-weaker c.give.result _ _ (λ d same. same-fills (occupied_kind c.in-Occupied.entry) _ d same) c.give.ensures.same;
        handed_back = no-error c.give.result _ c.give.ensures.ok;
      },
    )

pub returns-in-None : goal.returns-in-None
returns-in-None g c =
    let none = no-value c.in-Occupied.entry (sym c.in-None.ensures) in
    let Gives = FnOnceReturnsAt g.F.FnOnce c.args.default (prefix_key (Occupied c.in-Occupied.entry)) in
    let gave : Gives c.default-value.result = (c.key.result, c.default-value.ensures, c.key.ensures) in
    rw c.in-Occupied.is (
      (refl, c.insert_entry.follows.holds, c.insert_entry.follows.holds-at-none),
      record {
        rests = tt;
        filled = IfOk-weaker c.insert_entry.result _ _ (λ d is. written-fills (occupied_kind c.in-Occupied.entry) _ d none c.default-value.result gave is) c.insert_entry.ensures.written;
        handed_back = IfErr-weaker c.insert_entry.result _ _ (λ refused back. (back.0, back.1, subst Gives (sym back.2) gave, back.3)) c.insert_entry.ensures.handed_back;
      },
    )

pub returns-in-Vacant : goal.returns-in-Vacant
returns-in-Vacant g c =
    let Gives = FnOnceReturnsAt g.F.FnOnce c.args.default (c.in-Vacant.entry.key) in
    let gave : Gives c.default-value-in-Vacant.result = (c.key-in-Vacant.result, c.default-value-in-Vacant.ensures, c.key-in-Vacant.ensures) in
    rw c.in-Vacant.is (
      (refl, c.insert_entry-in-Vacant.follows.holds, c.insert_entry-in-Vacant.follows.holds-at-none),
      record {
        rests = tt;
        filled = IfOk-weaker c.insert_entry-in-Vacant.result _ _ (λ d is. (c.default-value-in-Vacant.result, gave, is)) c.insert_entry-in-Vacant.ensures.written;
        handed_back = err-never c.insert_entry-in-Vacant.result (λ refused back never. (refl, back.0, subst Gives (sym back.1) gave, never)) c.insert_entry-in-Vacant.ensures.handed_back c.insert_entry-in-Vacant.ensures.succeeds;
      },
    )
