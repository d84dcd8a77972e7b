-- What the pair that an insertion would remove shows, before and after it is written.
use Rattle.std.proofs.Common.{◌≡◌, ℕ, Some, sym, ap, ap₂, subst, ◌∙◌}
use Rattle.std.specs.Prelude.{MatchOption, option_map}
use Rattle.std.specs.Borrow.{MutBor}
use Rattle.art_bytes.specs.declared.as_bytes.AsBytes as as_bytes
use Rattle.art_arena.proofs.Common.{KeepsRoomOf, cell_of, held_at, leaf_name, leaf-there}
use Rattle.art_operations.proofs.Common.{with_pair_put, held-some}
use Rattle.art_map.proofs.Terms.{Contents, HasPairAt, leaf_pair, KeepsAllLeaves, with_value_at}
use Rattle.art_map.specs.LoneLeaves.{pair_where}
use Rattle.art_map.specs.LonePairs.{IsLoneWritten, shown_pair}
use Rattle.art_map.specs.declared.map.prefix_entry.lone.LonePairMut.{LonePairMut}
use Rattle.art_map.proofs.LeafNames.{written-all}
use Rattle.art_map.proofs.RoomKept.{pair-room}

module _ {K V : Type 0} (m : Contents K V) where
  -- a leaf of a pair has it
  pub where-pair : (slot : ℕ) (p : K × V) → HasPairAt m slot p → pair_where m (Some slot) ≡ Some p
  where-pair slot p has = ap leaf_pair has

  -- and with another value it still has one, of the same key
  pub where-written : (slot : ℕ) (p : K × V) → HasPairAt m slot p → (w : V) → pair_where (with_value_at m slot w) (Some slot) ≡ Some (p.0, w)
  where-written slot p has w =
      let there = leaf-there m.nodes slot (held-some (held_at m.nodes (leaf_name slot)) _ has) in
      let e : Some (there.leaf.key, there.leaf.value) ≡ Some p = sym (ap (λ h. leaf_pair (cell_of h)) there.held) ∙ ap leaf_pair has in
      let same : there.leaf.key ≡ p.0 = cc in
      ap (λ h. leaf_pair (cell_of h)) (there.written w).changed ∙ ap (λ k. Some (k, w)) same

module _ {K V : Type 0} {P : ℕ} {g : as_bytes.Ghosts K} (e : LonePairMut K V P g) (slot : ℕ) (is : e.leaf ≡ Some slot) (p : K × V) (has : HasPairAt e.map.now slot p) where
  pub lone-shown : shown_pair e ≡ Some p
  lone-shown = ap (pair_where e.map.now) is ∙ where-pair e.map.now slot p has

  -- with the value in its leaf it is written
  pub lone-written : ((w : V) → (with_value_at e.map.now slot w).pairs ≡ with_pair_put g.bytes p.0 w e.map.now.pairs) → (w : V) (n : LonePairMut K V P g) → n.map ≡ record e.map { now = with_value_at e.map.now slot w } → n.leaf ≡ e.leaf → IsLoneWritten e w n
  lone-written written w n map leaf =
      let now : n.map.now ≡ with_value_at e.map.now slot w = ap (λ (m : MutBor (Contents K V)). m.now) map in
      record {
        same_map = ap (λ (m : MutBor (Contents K V)). m.ghost_name) map;
        pair = ap₂ pair_where now (leaf ∙ is) ∙ where-written e.map.now slot p has w ∙ sym (ap (option_map (λ (q : K × V). (q.0, w))) lone-shown);
        pairs = subst (λ o. MatchOption o (n.map.now.pairs ≡ e.map.now.pairs) (λ q. n.map.now.pairs ≡ with_pair_put g.bytes q.0 w e.map.now.pairs)) (sym lone-shown) (ap (λ (m : Contents K V). m.pairs) now ∙ written w);
        names = subst (KeepsAllLeaves g.bytes e.map.now) (sym now) (written-all g.bytes e.map.now slot p has w);
        room = subst (λ (m : Contents K V). KeepsRoomOf e.map.now.nodes m.nodes) (sym now) (pair-room e.map.now slot p has w);
      }
