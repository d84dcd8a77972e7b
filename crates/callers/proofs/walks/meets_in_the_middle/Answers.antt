use Rattle.std.proofs.Common.{[], ◌∷◌, lit<}
use Rattle.art_arena.proofs.Common.{links_at}
use Rattle.callers.proofs.ThreeLeaves.{whole, no_ends, still}
use Rattle.callers.proofs.walks.meets_in_the_middle.Goals as goal

pub next-first-requires : goal.next-first-requires
next-first-requires g c =
    let (x, y, z, list, first, second, third) = c.requires in
    (lit< tt, ∣ (x ∷ y ∷ z ∷ [], whole (links_at c.args.arena.now) _ _ _ x y z list first third c.new-walk.ensures) ∣₁)

pub next_back-last-requires : goal.next_back-last-requires
next_back-last-requires g c =
    let (x, y, z, list, first, second, third) = c.requires in
    let all = whole (links_at c.args.arena.now) _ _ _ x y z list first third c.new-walk.ensures in
    (lit< tt, ∣ (y ∷ z ∷ [], (c.next-first.ensures.first x (y ∷ z ∷ []) all).1) ∣₁)

pub next-middle-requires : goal.next-middle-requires
next-middle-requires g c =
    let (x, y, z, list, first, second, third) = c.requires in
    let all = whole (links_at c.args.arena.now) _ _ _ x y z list first third c.new-walk.ensures in
    (lit< tt, ∣ (y ∷ [], (c.next_back-last.ensures.last z (y ∷ []) (c.next-first.ensures.first x (y ∷ z ∷ []) all).1).1) ∣₁)

pub next_back-none-requires : goal.next_back-none-requires
next_back-none-requires g c =
    let (x, y, z, list, first, second, third) = c.requires in
    let all = whole (links_at c.args.arena.now) _ _ _ x y z list first third c.new-walk.ensures in
    let middle = (c.next_back-last.ensures.last z (y ∷ []) (c.next-first.ensures.first x (y ∷ z ∷ []) all).1).1 in
    (lit< tt, ∣ ([], (c.next-middle.ensures.first y [] middle).1) ∣₁)

pub next-never-requires : goal.next-never-requires
next-never-requires g c =
    let (x, y, z, list, first, second, third) = c.requires in
    let all = whole (links_at c.args.arena.now) _ _ _ x y z list first third c.new-walk.ensures in
    let middle = (c.next_back-last.ensures.last z (y ∷ []) (c.next-first.ensures.first x (y ∷ z ∷ []) all).1).1 in
    let none = (c.next-middle.ensures.first y [] middle).1 in
    (lit< tt, ∣ ([], still (links_at c.args.arena.now) _ _ none (c.next_back-none.ensures.end (no_ends (links_at c.args.arena.now) _ none)).1) ∣₁)
