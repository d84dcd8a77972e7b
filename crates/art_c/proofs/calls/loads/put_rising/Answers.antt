-- The invariant is what was taken so far, as `Taken` has it.
use Rattle.std.proofs.Common.{◌≡◌, ℕ, ◌+◌, ◌*◌, suc, [], ◌∷◌, drop, length, refl, subst, sym, ap, ◌∙◌, arith, inl, inr}
use Rattle.std.specs.Prelude.{if◌then◌else◌, option_map}
use Rattle.std.proofs.Math.ListN.{drop_of_length-le}
use Rattle.std.proofs.Math.Seq.{drop-cons}
use Rattle.art_bytes.specs.Keys.{AreBytes}
use Rattle.art_map.specs.Builders.{HasGathered, HasRoomLeft}
use Rattle.art_operations.specs.Pairs.{with_pair_put}
use Rattle.art_c.specs.Calls.{whole}
use Rattle.art_c.specs.Loads.{AreShort, IsLoaded, LoadEnds}
use Rattle.art_c.specs.declared.code.Code.TheVariants.{Done, NotAbove, CutOff}
use Rattle.art_c.proofs.Loads.{before-in, load-ends, none-loaded, not_in, one-more, short-key}
use Rattle.art_c.proofs.calls.loads.put_rising.Goals as goal

pub returns-in_default-clause-loaded : goal.returns-in_default-clause-loaded
returns-in_default-clause-loaded g c = λ pairs had.
    let text = g.V.Value.text_of in let item = g.V.Value.item_of in let long = g.V.Value.key_len_of in let text_long = g.V.Value.text_len_of in
    let bytes = c.args.bytes.now in let items = c.args.items.now in let at = c.loop-at.at in
    let before = option_map (λ b. b.now) c.loop-at.before in let was = c.args.taken.now in
    let x = c.index-items-at.result in let one : suc at ≡ at + 1 = omega arith in
    let next : drop at items ≡ x ∷ drop (at + 1) items =
    subst (λ (n : ℕ). drop at items ≡ x ∷ drop n items) one
    (drop-cons items at x c.loop-at-test.true ∙ ap (λ z. z ∷ drop (suc at) items) (sym c.index-items-at.is)) in
    let s = c.loop-at.invariant.0 pairs had in (
      s.0,
      s.1,
      load-ends text item bytes items pairs long text_long s.2 was CutOff s.0 refl
          (subst (λ l. LoadEnds text item long text_long before c.loop-at.rest.now l s.0 CutOff) (sym next)
          (inl (refl, c.in_default.ensures.parts))),
    )

pub returns-then-not-is_above-clause-loaded : goal.returns-then-not-is_above-clause-loaded
returns-then-not-is_above-clause-loaded g c = λ pairs had.
    let text = g.V.Value.text_of in let item = g.V.Value.item_of in let long = g.V.Value.key_len_of in let text_long = g.V.Value.text_len_of in
    let bytes = c.args.bytes.now in let items = c.args.items.now in let at = c.loop-at.at in
    let before = option_map (λ b. b.now) c.loop-at.before in let was = c.args.taken.now in
    let x = c.index-items-at.result in let one : suc at ≡ at + 1 = omega arith in
    let next : drop at items ≡ x ∷ drop (at + 1) items =
    subst (λ (n : ℕ). drop at items ≡ x ∷ drop n items) one
    (drop-cons items at x c.loop-at-test.true ∙ ap (λ z. z ∷ drop (suc at) items) (sym c.index-items-at.is)) in
    let key = c.in-Some.key.now in let value = g.V.Value.value_of x c.in-Some.text.now in
    let s = c.loop-at.invariant.0 pairs had in
    let has = subst (λ b. HasGathered whole AreBytes c.put_above.new.builder (if b then with_pair_put whole key value s.0 else s.0))
    c.if-not-put_above.true (c.put_above.ensures.pairs s.0 s.1) in (
      s.0,
      has,
      load-ends text item bytes items pairs long text_long s.2 was NotAbove s.0 refl
          (subst (λ l. LoadEnds text item long text_long before c.loop-at.rest.now l s.0 NotAbove) (sym next)
          (inr (key, c.in-Some.following.now, value, c.in-Some.ensures.parts, sym c.is_above.ensures ∙ c.if-not-is_above.true))),
    )

pub returns-then-not-put_above-clause-loaded : goal.returns-then-not-put_above-clause-loaded
returns-then-not-put_above-clause-loaded g c = λ pairs had.
    let text = g.V.Value.text_of in let item = g.V.Value.item_of in let long = g.V.Value.key_len_of in let text_long = g.V.Value.text_len_of in
    let bytes = c.args.bytes.now in let items = c.args.items.now in let at = c.loop-at.at in
    let before = option_map (λ b. b.now) c.loop-at.before in let was = c.args.taken.now in
    let x = c.index-items-at.result in let one : suc at ≡ at + 1 = omega arith in
    let next : drop at items ≡ x ∷ drop (at + 1) items =
    subst (λ (n : ℕ). drop at items ≡ x ∷ drop n items) one
    (drop-cons items at x c.loop-at-test.true ∙ ap (λ z. z ∷ drop (suc at) items) (sym c.index-items-at.is)) in
    let key = c.in-Some.key.now in let value = g.V.Value.value_of x c.in-Some.text.now in
    let s = c.loop-at.invariant.0 pairs had in
    let has = subst (λ b. HasGathered whole AreBytes c.put_above.new.builder (if b then with_pair_put whole key value s.0 else s.0))
    c.if-not-put_above.true (c.put_above.ensures.pairs s.0 s.1) in (
      s.0,
      has,
      (
        λ code out. load-ends text item bytes items pairs long text_long s.2 was code s.0 refl
            (subst (λ l. LoadEnds text item long text_long before c.loop-at.rest.now l s.0 code) (sym next)
            (inr (
              key,
              c.in-Some.following.now,
              value,
              c.in-Some.ensures.parts,
              not_in before key s.0 code (sym c.is_above.ensures ∙ c.if-not-is_above.false) out,
            ))),
        λ room short.
            let e : 2 * suc at ≡ 2 + 2 * at = omega arith in
            let some : HasRoomLeft c.loop-at.builder 2 =
            c.loop-at.invariant.1 2 (omega arith) (subst (λ m. HasRoomLeft c.args.builder.now m) e room) in
            let fit = (subst (AreShort long text_long) next (c.loop-at.invariant.2 short)).0 in
            let lengths = c.in-Some.ensures.lengths in
            c.put_above.ensures.refused c.if-not-put_above.true s.0 s.1 (sym c.is_above.ensures ∙ c.if-not-is_above.false) some
            (short-key key (long x) lengths.0 fit.0) (short-key c.in-Some.text.now (text_long x) lengths.1 fit.1),
      ),
    )

pub loop-at-preserved : goal.loop-at-preserved
loop-at-preserved g c =
    let text = g.V.Value.text_of in let item = g.V.Value.item_of in let long = g.V.Value.key_len_of in let text_long = g.V.Value.text_len_of in
    let bytes = c.args.bytes.now in let items = c.args.items.now in let at = c.loop-at.at in
    let before = option_map (λ b. b.now) c.loop-at.before in
    let x = c.index-items-at.result in let one : suc at ≡ at + 1 = omega arith in
    let next : drop at items ≡ x ∷ drop (at + 1) items =
    subst (λ (n : ℕ). drop at items ≡ x ∷ drop n items) one
    (drop-cons items at x c.loop-at-test.true ∙ ap (λ z. z ∷ drop (suc at) items) (sym c.index-items-at.is)) in
    let key = c.in-Some.key.now in let value = g.V.Value.value_of x c.in-Some.text.now in (
      λ old had.
          let s = c.loop-at.invariant.0 old had in
          let has = subst (λ b. HasGathered whole AreBytes c.put_above.new.builder (if b then with_pair_put whole key value s.0 else s.0))
          c.if-not-put_above.false (c.put_above.ensures.pairs s.0 s.1) in (
            with_pair_put whole key value s.0,
            has,
            one-more text item bytes items old s.2 x (drop (at + 1) items) key value
                c.in-Some.following.now (with_pair_put whole key value s.0) next c.in-Some.ensures.parts.0 c.in-Some.ensures.parts.1
                (c.put_above.ensures.above c.if-not-put_above.false s.0 s.1 (before-in text item bytes items old s.2)) refl,
          ),
      λ n one has.
          let e : n + 2 * (at + 1) ≡ n + 2 + 2 * at = omega arith in
          let some = c.loop-at.invariant.1 (n + 2) (omega arith) (subst (λ m. HasRoomLeft c.args.builder.now m) e has) in
          c.put_above.ensures.room n one
          (subst (λ b. HasRoomLeft c.loop-at.builder (if b then n + 2 else n)) (sym c.if-not-put_above.false) some),
      λ short. (subst (AreShort long text_long) next (c.loop-at.invariant.2 short)).1,
    )

pub returns-clause-loaded : goal.returns-clause-loaded
returns-clause-loaded g c = λ pairs had.
    let text = g.V.Value.text_of in let item = g.V.Value.item_of in let long = g.V.Value.key_len_of in let text_long = g.V.Value.text_len_of in
    let bytes = c.args.bytes.now in let items = c.args.items.now in let at = c.loop-at.at in
    let before = option_map (λ b. b.now) c.loop-at.before in let was = c.args.taken.now in
    let s = c.loop-at.invariant.0 pairs had in
    let same : at ≡ length items = omega (arith, c.loop-at.auto.at-end, c.loop-at-test.false) in
    let none : drop at items ≡ [] = drop_of_length-le items (omega (arith, same)) in (
      s.0,
      s.1,
      subst (λ n. IsLoaded text item long text_long bytes items pairs was Done s.0 n) same
          (load-ends text item bytes items pairs long text_long s.2 was Done s.0 refl
          (subst (λ l. LoadEnds text item long text_long before c.loop-at.rest.now l s.0 Done) (sym none) refl)),
    )

pub loop-at-init : goal.loop-at-init
loop-at-init g c = (
  λ old had. (old, had, none-loaded g.V.Value.text_of g.V.Value.item_of c.args.bytes.now c.args.items.now old),
  λ n one has. let e : n + 2 * 0 ≡ n = omega arith in subst (λ m. HasRoomLeft c.args.builder.now m) e has,
  λ short. short,
)

pub returns-in_default-clause-room : goal.returns-in_default-clause-room
returns-in_default-clause-room g c = c.loop-at.invariant.1

pub returns-then-not-is_above-clause-room : goal.returns-then-not-is_above-clause-room
returns-then-not-is_above-clause-room g c = λ n one has.
    c.put_above.ensures.room n one
    (subst (λ b. HasRoomLeft c.loop-at.builder (if b then n + 2 else n)) (sym c.if-not-put_above.true) (c.loop-at.invariant.1 n one has))

pub returns-then-not-put_above-clause-room : goal.returns-then-not-put_above-clause-room
returns-then-not-put_above-clause-room g c = λ n one has.
    c.put_above.ensures.room n one
    (subst (λ b. HasRoomLeft c.loop-at.builder (if b then n + 2 else n)) (sym c.if-not-put_above.true) (c.loop-at.invariant.1 n one has))

pub returns-clause-room : goal.returns-clause-room
returns-clause-room g c = λ n one has.
    let items = c.args.items.now in let at = c.loop-at.at in
    let same : at ≡ length items = omega (arith, c.loop-at.auto.at-end, c.loop-at-test.false) in
    c.loop-at.invariant.1 n one (subst (λ m. HasRoomLeft c.args.builder.now (n + 2 * m)) (sym same) has)
