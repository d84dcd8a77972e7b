-- The invariant is what was told so far, as `ToldOut` has it.
use Rattle.std.proofs.Common.{◌≡◌, ◌≢◌, ◌<◌, ◌-◌, ℕ, List, [], ◌∷◌, length, take, refl, sym, ap, ◌∙◌, arith}
use Rattle.std.proofs.Math.ListN.{set}
use Rattle.std.proofs.lemmas.List.{length-take-le}
use Rattle.art_c.specs.declared.value.WordsPair.{WordsPair}
use Rattle.art_c.specs.Handles.{Pairs}
use Rattle.art_c.specs.Layouts.{words_pair}
use Rattle.art_c.specs.Marked.{marked_pairs}
use Rattle.art_c.proofs.Marked.{key-within, marked-first, marked-last, marked-next, marked-none}
use Rattle.art_c.proofs.Walks.{ToldOut, one-told, same-items, told_done, told_full}
use Rattle.art_c.proofs.calls.marked.marked_out.Goals as goal

-- a place is free where they are not all taken
room : (ps : Pairs ℕ) (query : List ℕ) (mark : ℕ) (x : List WordsPair) {left : Pairs ℕ} {items : List WordsPair} {count : ℕ}
    (c : ToldOut (λ p. words_pair p.0 p.1) (marked_pairs query mark ps) x left items count) → count ≢ length items → count < length items
room ps query mark x c other = omega (arith, other, c.count_is, c.fit, same-items (λ p. words_pair p.0 p.1) (marked_pairs query mark ps) x c)

pub slice_bounds-left-end : goal.slice_bounds-left-end
slice_bounds-left-end c =
    let long = key-within c.loop-key.left.now c.args.mark c.args.map.now.pairs (c.in-Some.key.now, c.in-Some.word.now) c.in-Some.ensures in
    let same : length c.as_bytes-key_bytes.result.now ≡ length c.in-Some.key.now = ap length c.as_bytes-key_bytes.ensures.value in
    sym (length-take-le c.in-Some-checked_sub.shorter c.loop-key.left.now (omega (arith, long, same, c.in-Some-checked_sub.ensures)))

pub loop-key-smaller : goal.loop-key-smaller
loop-key-smaller c =
    let long = key-within c.loop-key.left.now c.args.mark c.args.map.now.pairs (c.in-Some.key.now, c.in-Some.word.now) c.in-Some.ensures in
    let same : length c.as_bytes-key_bytes.result.now ≡ length c.in-Some.key.now = ap length c.as_bytes-key_bytes.ensures.value in
    let left : length (take c.in-Some-checked_sub.shorter c.loop-key.left.now) ≡ c.in-Some-checked_sub.shorter =
    length-take-le c.in-Some-checked_sub.shorter c.loop-key.left.now (omega (arith, long, same, c.in-Some-checked_sub.ensures)) in
    omega (arith, left, long, same, c.in-Some-checked_sub.ensures)

pub loop-key-preserved : goal.loop-key-preserved
loop-key-preserved c =
    let p : List ℕ × ℕ = (c.in-Some.key.now, c.in-Some.word.now) in
    let same : length c.as_bytes-key_bytes.result.now ≡ length c.in-Some.key.now = ap length c.as_bytes-key_bytes.ensures.value in
    let shorter : length c.in-Some.key.now - 2 ≡ c.in-Some-checked_sub.shorter = omega (arith, same, c.in-Some-checked_sub.ensures) in
    let next = marked-next c.loop-key.left.now c.args.mark c.args.map.now.pairs p c.in-Some.ensures (omega (arith, same, c.in-Some-checked_sub.ensures)) in
    one-told (λ q. words_pair q.0 q.1) (marked_pairs c.args.query.now c.args.mark c.args.map.now.pairs) c.args.pairs.now c.loop-key.invariant p
    (marked_pairs (take c.in-Some-checked_sub.shorter c.loop-key.left.now) c.args.mark c.args.map.now.pairs)
    (set c.loop-key.pairs c.loop-key.count c.item.result)
    (next ∙ ap (λ n. p ∷ marked_pairs (take n c.loop-key.left.now) c.args.mark c.args.map.now.pairs) shorter)
    (room c.args.map.now.pairs c.args.query.now c.args.mark c.args.pairs.now c.loop-key.invariant c.if-count-pairs.false)
    (ap (set c.loop-key.pairs c.loop-key.count) (c.item.ensures ∙ ap (λ k. words_pair k c.in-Some.word.now) c.as_bytes-key_bytes.ensures.value))

pub returns-in-None : goal.returns-in-None
returns-in-None c =
    let p : List ℕ × ℕ = (c.in-Some.key.now, c.in-Some.word.now) in
    let same : length c.as_bytes-key_bytes.result.now ≡ length c.in-Some.key.now = ap length c.as_bytes-key_bytes.ensures.value in
    let all = marked_pairs c.args.query.now c.args.mark c.args.map.now.pairs in
    told_done (λ q. words_pair q.0 q.1) all c.args.pairs.now
    (one-told (λ q. words_pair q.0 q.1) all c.args.pairs.now c.loop-key.invariant p [] (set c.loop-key.pairs c.loop-key.count c.item.result)
    (marked-last c.loop-key.left.now c.args.mark c.args.map.now.pairs p c.in-Some.ensures (omega (arith, same, c.in-None.ensures)))
    (room c.args.map.now.pairs c.args.query.now c.args.mark c.args.pairs.now c.loop-key.invariant c.if-count-pairs.false)
    (ap (set c.loop-key.pairs c.loop-key.count) (c.item.ensures ∙ ap (λ k. words_pair k c.in-Some.word.now) c.as_bytes-key_bytes.ensures.value)))
    refl

pub returns-then-count-pairs : goal.returns-then-count-pairs
returns-then-count-pairs c =
    let p : List ℕ × ℕ = (c.in-Some.key.now, c.in-Some.word.now) in
    let first = marked-first c.loop-key.left.now c.args.mark c.args.map.now.pairs p c.in-Some.ensures in
    told_full (λ q. words_pair q.0 q.1) (marked_pairs c.args.query.now c.args.mark c.args.map.now.pairs) c.args.pairs.now c.loop-key.invariant p first.0 first.1 c.if-count-pairs.true

pub returns : goal.returns
returns c =
    told_done (λ q. words_pair q.0 q.1) (marked_pairs c.args.query.now c.args.mark c.args.map.now.pairs) c.args.pairs.now c.loop-key.invariant
    (marked-none c.loop-key.left.now c.args.mark c.args.map.now.pairs c.in_default.ensures)
