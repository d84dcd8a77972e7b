use Rattle.std.proofs.Common.{◌≡◌, drop, length, take, sym, subst, arith}
use Rattle.std.specs.List.{AllByRecursion}
use Rattle.art_engine.specs.ReadAhead.{IsOnOwnWay, to_come}
use Rattle.art_engine.proofs.WaysAhead.{starts_own, take_first}
use Rattle.art_engine.proofs.read_ahead.ReadAhead.read_maps.Goals as goal

pub returns-then-self-lt-MIN_LINES-clause-ways : goal.returns-then-self-lt-MIN_LINES-clause-ways
returns-then-self-lt-MIN_LINES-clause-ways g c =
    let a = c.args in
    starts_own a.keys.now.arena.now a.keys.now.root a.numbers.now.arena.now a.numbers.now.root c.root.result c.root-2.result (to_come c.read_next_lines.new.self) c.root.ensures c.root-2.ensures c.read_next_lines.ensures.start

pub returns-then-self-ge-LINES-clause-ways : goal.returns-then-self-ge-LINES-clause-ways
returns-then-self-ge-LINES-clause-ways g c =
    let a = c.args in let s = c.read_next_lines.new.self in let first = c.read_next_lines.ensures.first in
    let same : s.lines.items ≡ c.deref_mut.result.now = (let is = c.deref_mut.ensures.value in cc) in
    let starts = starts_own a.keys.now.arena.now a.keys.now.root a.numbers.now.arena.now a.numbers.now.root c.root.result c.root-2.result (to_come s) c.root.ensures c.root-2.ensures c.read_next_lines.ensures.start in
    let long : length c.descend_both.new.lines ≡ s.lines.len = (let l = c.descend_both.ensures.long in let m = c.deref_mut.ensures.len in omega arith) in
    subst (λ xs. AllByRecursion (IsOnOwnWay a.keys.now.arena.now a.keys.now.root a.numbers.now.arena.now a.numbers.now.root) (drop s.at (take s.len xs))) (sym (take_first c.descend_both.new.lines _ s.lines.len long))
    (subst (λ n. AllByRecursion (IsOnOwnWay a.keys.now.arena.now a.keys.now.root a.numbers.now.arena.now a.numbers.now.root) (drop n (take s.len c.descend_both.new.lines))) (sym first)
    (c.descend_both.ensures.ways a.keys.now.root a.numbers.now.root
    (subst (λ xs. AllByRecursion (IsOnOwnWay a.keys.now.arena.now a.keys.now.root a.numbers.now.arena.now a.numbers.now.root) (take s.len xs)) same
    (subst (λ n. AllByRecursion (IsOnOwnWay a.keys.now.arena.now a.keys.now.root a.numbers.now.arena.now a.numbers.now.root) (drop n (take s.len s.lines.items))) first starts))))

pub returns-else-self-lt-MIN_LEAVES-clause-ways : goal.returns-else-self-lt-MIN_LEAVES-clause-ways
returns-else-self-lt-MIN_LEAVES-clause-ways g c =
    let a = c.args in let s = c.read_next_lines.new.self in let first = c.read_next_lines.ensures.first in
    let same : s.lines.items ≡ c.deref_mut.result.now = (let is = c.deref_mut.ensures.value in cc) in
    let starts = starts_own a.keys.now.arena.now a.keys.now.root a.numbers.now.arena.now a.numbers.now.root c.root.result c.root-2.result (to_come s) c.root.ensures c.root-2.ensures c.read_next_lines.ensures.start in
    let long : length c.descend_both.new.lines ≡ s.lines.len = (let l = c.descend_both.ensures.long in let m = c.deref_mut.ensures.len in omega arith) in
    subst (λ xs. AllByRecursion (IsOnOwnWay a.keys.now.arena.now a.keys.now.root a.numbers.now.arena.now a.numbers.now.root) (drop s.at (take s.len xs))) (sym (take_first c.descend_both.new.lines _ s.lines.len long))
    (subst (λ n. AllByRecursion (IsOnOwnWay a.keys.now.arena.now a.keys.now.root a.numbers.now.arena.now a.numbers.now.root) (drop n (take s.len c.descend_both.new.lines))) (sym first)
    (c.descend_both.ensures.ways a.keys.now.root a.numbers.now.root
    (subst (λ xs. AllByRecursion (IsOnOwnWay a.keys.now.arena.now a.keys.now.root a.numbers.now.arena.now a.numbers.now.root) (take s.len xs)) same
    (subst (λ n. AllByRecursion (IsOnOwnWay a.keys.now.arena.now a.keys.now.root a.numbers.now.arena.now a.numbers.now.root) (drop n (take s.len s.lines.items))) first starts))))
