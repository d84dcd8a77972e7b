use Rattle.std.proofs.Common.{◌≡◌, ◌<◌, ◌++◌, Some, None, refl, lit<, ◌∙◌, sym, ap, subst}
use Rattle.art_bytes.proofs.Common.{bytes_cmp}
use Rattle.art_operations.proofs.LeafListsParted.{after-held}
use Rattle.art_operations.proofs.LeafListsPassed.{HasStepped, left-less, leaves_left, not-stepped, passed-to, same_bytes, stepped-on}
use Rattle.art_operations.proofs.leaf_list.LeafCursor.pass.Goals as goal
use Rattle.art_operations.proofs.leaf_list.LeafCursor.pass.Goals.{After-cmp}

pub pass-init : goal.pass-init
pass-init g c = λ front back stands. not-stepped c.args.arena.now g.K.AsBytes.bytes c.args.bytes.now front back c.args.self.now stands

pub as_ref-node-requires : goal.as_ref-node-requires
as_ref-node-requires g c =
    let r = c.requires in
    let is = c.pass.invariant r.0 r.1 r.2 in
    (lit< tt, after-held c.args.arena.now c.pass.self (r.0 ++ is.passed) is.rest is.stands c.in_ok-leaf.leaf (cc c.in_ok-leaf.was))

-- how the key compares
compares : (g : _) (c : After-cmp g) → bytes_cmp (g.K.AsBytes.bytes c.as_ref-node.result.now.key) c.args.bytes.now ≡ c.cmp.result
compares g c = ap (λ k. bytes_cmp k c.args.bytes.now) (ap g.K.AsBytes.bytes (sym c.key_ref.ensures) ∙ sym c.as_bytes.ensures.value) ∙ sym c.cmp.ensures

pub pass-smaller : goal.pass-smaller
pass-smaller g c =
    let r = c.requires in
    let is = c.pass.invariant r.0 r.1 r.2 in
    subst (λ n. leaves_left c.args.arena.now (record { first = c.pass.self.first; before = Some c.in_ok-leaf.leaf; after = n }) < leaves_left c.args.arena.now c.pass.self) (sym c.next-self.ensures)
    (left-less c.args.arena.now c.pass.self c.in_ok-leaf.leaf (cc c.in_ok-leaf.was) c.as_ref-node.result.now c.as_ref-node.ensures (r.0 ++ is.passed) is.rest is.stands)

pub pass-preserved : goal.pass-preserved
pass-preserved g c = λ front back stands.
    let d = (goal.at.pass-preserved g c).After-cmp in
    let less = compares g d ∙ c.in-Less.is in
    subst (λ n. HasStepped c.args.arena.now g.K.AsBytes.bytes c.args.bytes.now front back (record { first = c.pass.self.first; before = Some c.in_ok-leaf.leaf; after = n })) (sym c.next-self.ensures)
    (stepped-on c.args.arena.now g.K.AsBytes.bytes c.args.bytes.now front back c.pass.self (c.pass.invariant front back stands) c.in_ok-leaf.leaf (cc c.in_ok-leaf.was) c.as_ref-node.result.now c.as_ref-node.ensures less)

pub returns-in-Equal : goal.returns-in-Equal
returns-in-Equal g c = record {
  passed = λ front back stands.
      let d = (goal.at.returns-in-Equal g c).After-cmp in
      let same = same_bytes (g.K.AsBytes.bytes c.as_ref-node.result.now.key) c.args.bytes.now (compares g d ∙ c.in-Equal.is) in
      passed-to c.args.arena.now g.K.AsBytes.bytes c.args.bytes.now front back c.pass.self (c.pass.invariant front back stands) c.in_ok-leaf.leaf (cc c.in_ok-leaf.was) c.as_ref-node.result.now c.as_ref-node.ensures (Some c.in_ok-leaf.leaf) (λ rest. (refl, same));
}

pub returns-in-Greater : goal.returns-in-Greater
returns-in-Greater g c = record {
  passed = λ front back stands.
      let d = (goal.at.returns-in-Greater g c).After-cmp in
      passed-to c.args.arena.now g.K.AsBytes.bytes c.args.bytes.now front back c.pass.self (c.pass.invariant front back stands) c.in_ok-leaf.leaf (cc c.in_ok-leaf.was) c.as_ref-node.result.now c.as_ref-node.ensures None (λ rest. compares g d ∙ c.in-Greater.is);
}
