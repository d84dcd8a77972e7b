use Rattle.std.proofs.Common.{◌≡◌, ◌+◌, ◌-◌, ◌<◌, ◌≤◌, ℕ, suc, List, [], ◌∷◌, All, length, length-append, take, drop, slice_index, refl, sym, ap, subst, ◌∙◌, arith}
use Rattle.std.proofs.lemmas.List.{take_all, length-drop}
use Rattle.std.proofs.lemmas.List.Elements.{All-get_or}
use Rattle.art_arena.proofs.Common.{inner_held, Allocates, Cell, LeafAt, IsKindOf}
use Rattle.art_nodes.proofs.Common.{IsAscending, Name}
use Rattle.art_nodes.specs.declared.kind.NodeType.TheVariants.{Leaf}
use Rattle.art_operations.proofs.Terms.{HasInnerRoom, HasSpine, begin_of, inner_over}
use Rattle.art_operations.proofs.Closing.{inside, from-before, own, own-children, own-ascending, own-two, other-children, all-count, left-count, closed}
use Rattle.art_operations.proofs.InnerRooms.{closed-nodes, closed-room}
use Rattle.art_operations.proofs.Unmade.{around-closed, not-leaf}
use Rattle.art_operations.proofs.build.spine.close_top.Goals as goal
use Rattle.art_operations.proofs.build.spine.close_top.Goals.{After-as_slice}

-- a list from a place on, read as a slice
tail : {X : Type 0} (n : ℕ) (xs : List X) → take (length xs - n) (drop n xs) ≡ drop n xs
tail n xs = take_all (length xs - n) (drop n xs) (omega (arith, length-drop n xs))

module _ (g : _) (c : After-as_slice g) (rest : List (Name × Cell g.row.K.Denot g.row.V.Denot)) (key : List ℕ) (ls : List (LeafAt g.row.K.Denot g.row.V.Denot))
    (has : HasSpine g.K.AsBytes.bytes g.row.PREFIX_LEN c.args.arena.now c.args.spine.now rest c.args.last c.args.low c.args.part key ls) where
  abbrev byte : ℕ
  byte = slice_index c.as_bytes.result.now (c.in-Some.top.child_depth - 1)

  key-read : c.as_bytes.result.now ≡ key
  key-read = c.as_bytes.ensures.value ∙ ap g.K.AsBytes.bytes (c.as_key_ref.ensures has.leaf has.there) ∙ has.key_is

  within : c.in-Some.top.child_depth - 1 < length key
  within = inside g.K.AsBytes.bytes g.row.PREFIX_LEN c.args.arena.now c.args.spine.now rest c.args.last c.args.low c.args.part key ls has c.pop.new.self.items c.in-Some.top c.in-Some.ensures.items c.requires.above

  byte-is : byte ≡ slice_index key (c.in-Some.top.child_depth - 1)
  byte-is = ap (λ k. slice_index k (c.in-Some.top.child_depth - 1)) key-read

  byte-fits : byte < 256
  byte-fits =
      let all = subst (λ k. All (λ b. b < 256) k) (sym c.as_bytes.ensures.value) (g.met.K.AsBytes.bytes_fit c.as_key_ref.result.now c.as_bytes.ensures.key) in
      All-get_or (λ (b : ℕ). b < 256) c.as_bytes.result.now (c.in-Some.top.child_depth - 1) 0 (subst (λ k. c.in-Some.top.child_depth - 1 < length k) (sym key-read) within) all

  children-read : take (length c.as_slice.result.now - c.in-Some.top.first) (drop c.in-Some.top.first c.as_slice.result.now)
      ≡ own g.K.AsBytes.bytes g.row.PREFIX_LEN c.args.arena.now c.args.spine.now rest c.args.last c.args.low c.args.part key ls has c.pop.new.self.items c.in-Some.top c.in-Some.ensures.items c.requires.above byte byte-is byte-fits
  children-read =
      tail c.in-Some.top.first c.as_slice.result.now
      ∙ ap (drop c.in-Some.top.first) (c.as_slice.ensures.value ∙ c.in-Ok.ensures.items)
      ∙ own-children g.K.AsBytes.bytes g.row.PREFIX_LEN c.args.arena.now c.args.spine.now rest c.args.last c.args.low c.args.part key ls has c.pop.new.self.items c.in-Some.top c.in-Some.ensures.items c.requires.above byte byte-is byte-fits

pub store_over-requires : goal.store_over-requires
store_over-requires g c =
    let d = (goal.at.store_over-requires g c).After-as_slice in
    let r = c.requires.stands in
    let has = r.1.2 in
    let inside_key = within g d r.0 r.1.0 r.1.1 has in
    let same = has.key_is in
    let before = from-before g.K.AsBytes.bytes g.row.PREFIX_LEN c.args.arena.now c.args.spine.now r.0 c.args.last c.args.low c.args.part r.1.0 r.1.1 has c.pop.new.self.items c.in-Some.top c.in-Some.ensures.items c.requires.above in (
      omega arith,
      (
        (has.leaf, has.there, subst (λ k. c.in-Some.top.child_depth - 1 ≤ length k) (sym same) (omega (arith, inside_key))),
        (
          subst (λ n. n ≤ c.in-Some.top.child_depth - 1) (sym c.begin-from.ensures) before,
          (
            subst IsAscending (sym (children-read g d r.0 r.1.0 r.1.1 has))
                (own-ascending g.K.AsBytes.bytes g.row.PREFIX_LEN c.args.arena.now c.args.spine.now r.0 c.args.last c.args.low c.args.part r.1.0 r.1.1 has
                c.pop.new.self.items c.in-Some.top c.in-Some.ensures.items c.requires.above (byte g d r.0 r.1.0 r.1.1 has) (byte-is g d r.0 r.1.0 r.1.1 has)
                (byte-fits g d r.0 r.1.0 r.1.1 has)),
            subst (λ (cs : List (ℕ × Name)). 2 ≤ length cs) (sym (children-read g d r.0 r.1.0 r.1.1 has))
                (own-two g.K.AsBytes.bytes g.row.PREFIX_LEN c.args.arena.now c.args.spine.now r.0 c.args.last c.args.low c.args.part r.1.0 r.1.1 has
                c.pop.new.self.items c.in-Some.top c.in-Some.ensures.items c.requires.above (byte g d r.0 r.1.0 r.1.1 has) (byte-is g d r.0 r.1.0 r.1.1 has)
                (byte-fits g d r.0 r.1.0 r.1.1 has)),
          ),
        ),
      ),
    )

pub returns-clause-ok : goal.returns-clause-ok
returns-clause-ok g c = λ rest key ls has.
    let d = (goal.at.returns-clause-ok g c).After-as_slice in
    let node = c.in_ok-node.node in
    let left = c.truncate.ensures.items ∙ ap (take c.in-Some.top.first) c.in-Ok.ensures.items
    ∙ other-children g.K.AsBytes.bytes g.row.PREFIX_LEN c.args.arena.now c.args.spine.now rest c.args.last c.args.low c.args.part key ls has
    c.pop.new.self.items c.in-Some.top c.in-Some.ensures.items c.requires.above (byte g d rest key ls has) (byte-is g d rest key ls has)
    (byte-fits g d rest key ls has) in
    let put = subst (λ k. Allocates c.args.arena.now c.store_over.new.arena node
    (inner_held (inner_over g.row.PREFIX_LEN (take (c.in-Some.top.child_depth - 1 - c.begin-from.result) (drop c.begin-from.result k))
    (take (length c.as_slice.result.now - c.in-Some.top.first) (drop c.in-Some.top.first c.as_slice.result.now))))) has.key_is
    (c.in_ok-node.ensures.ok has.leaf has.there) in
    let named = subst (λ f. Allocates c.args.arena.now c.store_over.new.arena node
    (inner_held (inner_over g.row.PREFIX_LEN (take (c.in-Some.top.child_depth - 1 - f) (drop f key))
    (take (length c.as_slice.result.now - c.in-Some.top.first) (drop c.in-Some.top.first c.as_slice.result.now))))) c.begin-from.ensures put in
    closed g.K.AsBytes.bytes g.row.PREFIX_LEN c.args.arena.now c.args.spine.now rest c.args.last c.args.low c.args.part key ls has c.pop.new.self.items c.in-Some.top c.in-Some.ensures.items c.requires.above (byte g d rest key ls has) (byte-is g d rest key ls has) (byte-fits g d rest key ls has)
    c.store_over.new.arena (record { stack = c.pop.new.self; children = c.truncate.new.self }) node refl left
    (subst (λ (cs : List (ℕ × Name)). IsKindOf node.kind (length cs)) (children-read g d rest key ls has) c.in_ok-node.ensures.kind)
    (subst (λ cs. Allocates c.args.arena.now c.store_over.new.arena node (inner_held (inner_over g.row.PREFIX_LEN (take (c.in-Some.top.child_depth - 1 - begin_of c.args.low c.pop.new.self.items) (drop (begin_of c.args.low c.pop.new.self.items) key)) cs))) (children-read g d rest key ls has) named)
    c.in_ok-node.ensures.leaves

pub returns-clause-room : goal.returns-clause-room
returns-clause-room g c =
    let d = (goal.at.returns-clause-room g c).After-as_slice in
    let r = c.requires.stands in
    let has = r.1.2 in
    let own_is = ap (λ (cs : List (ℕ × Name)). length cs) (children-read g d r.0 r.1.0 r.1.1 has) in
    let own_list = own g.K.AsBytes.bytes g.row.PREFIX_LEN c.args.arena.now c.args.spine.now r.0 c.args.last c.args.low c.args.part r.1.0 r.1.1 has
    c.pop.new.self.items c.in-Some.top c.in-Some.ensures.items c.requires.above (byte g d r.0 r.1.0 r.1.1 has) (byte-is g d r.0 r.1.0 r.1.1 has)
    (byte-fits g d r.0 r.1.0 r.1.1 has) in
    let two = own-two g.K.AsBytes.bytes g.row.PREFIX_LEN c.args.arena.now c.args.spine.now r.0 c.args.last c.args.low c.args.part r.1.0 r.1.1 has
    c.pop.new.self.items c.in-Some.top c.in-Some.ensures.items c.requires.above (byte g d r.0 r.1.0 r.1.1 has) (byte-is g d r.0 r.1.0 r.1.1 has)
    (byte-fits g d r.0 r.1.0 r.1.1 has) in
    let count = all-count g.K.AsBytes.bytes g.row.PREFIX_LEN c.args.arena.now c.args.spine.now r.0 c.args.last c.args.low c.args.part r.1.0 r.1.1 has
    c.pop.new.self.items c.in-Some.top c.in-Some.ensures.items c.requires.above (byte g d r.0 r.1.0 r.1.1 has) (byte-is g d r.0 r.1.0 r.1.1 has)
    (byte-fits g d r.0 r.1.0 r.1.1 has) in
    let left = left-count g.K.AsBytes.bytes g.row.PREFIX_LEN c.args.arena.now c.args.spine.now r.0 c.args.last c.args.low c.args.part r.1.0 r.1.1 has
    c.pop.new.self.items c.in-Some.top c.in-Some.ensures.items c.requires.above (byte g d r.0 r.1.0 r.1.1 has) (byte-is g d r.0 r.1.0 r.1.1 has)
    (byte-fits g d r.0 r.1.0 r.1.1 has)
    (c.truncate.ensures.items ∙ ap (take c.in-Some.top.first) c.in-Ok.ensures.items) in
    let popped = ap length c.in-Some.ensures.items ∙ length-append c.pop.new.self.items (c.in-Some.top ∷ []) in
    let kind = c.in_ok-node.node.kind in
    record {
      spine = λ more room.
          closed-room c.args.arena.now c.store_over.new.arena c.args.spine.now (record { stack = c.pop.new.self; children = c.truncate.new.self }) c.in-Some.top.first (length own_list) more
          (subst (λ n. (k : ℕ) → HasInnerRoom c.args.arena.now (n + k) → HasInnerRoom c.store_over.new.arena (suc k)) own_is c.in_ok-node.ensures.room)
          (omega (arith, two)) count (omega (arith, popped)) left (omega arith) (omega arith) room;
      around = λ n room.
          around-closed c.args.arena.now c.store_over.new.arena c.args.spine.now (record { stack = c.pop.new.self; children = c.truncate.new.self }) c.in-Some.top kind (length own_list) n (subst (IsKindOf kind) own_is c.in_ok-node.ensures.kind)
          (c.in_ok-node.ensures.uses kind c.in_ok-node.ensures.kind) c.in-Some.ensures.items count left room;
      nodes = λ more room.
          closed-nodes c.args.arena.now c.store_over.new.arena c.args.spine.now (record { stack = c.pop.new.self; children = c.truncate.new.self }) c.in-Some.top.first (length own_list) more
          (subst (λ n. (k : ℕ) → HasInnerRoom c.args.arena.now (n + k) → HasInnerRoom c.store_over.new.arena (suc k)) own_is c.in_ok-node.ensures.room) count left room;
      leaves = λ n room. (c.in_ok-node.ensures.uses kind c.in_ok-node.ensures.kind).others Leaf (not-leaf kind _ c.in_ok-node.ensures.kind) n room;
    }

pub returns-in_err-node-clause-succeeds : goal.returns-in_err-node-clause-succeeds
returns-in_err-node-clause-succeeds g c = λ more room.
    let d = (goal.at.returns-in_err-node-clause-succeeds g c).After-as_slice in
    let r = c.requires.stands in
    let has = r.1.2 in
    let own_is = ap (λ (cs : List (ℕ × Name)). length cs) (children-read g d r.0 r.1.0 r.1.1 has) in
    let count = all-count g.K.AsBytes.bytes g.row.PREFIX_LEN c.args.arena.now c.args.spine.now r.0 c.args.last c.args.low c.args.part r.1.0 r.1.1 has
    c.pop.new.self.items c.in-Some.top c.in-Some.ensures.items c.requires.above (byte g d r.0 r.1.0 r.1.1 has) (byte-is g d r.0 r.1.0 r.1.1 has)
    (byte-fits g d r.0 r.1.0 r.1.1 has) in
    let ok = c.in_err-node.ensures.succeeds (c.in-Some.top.first + more) (subst (HasInnerRoom c.args.arena.now) (omega (arith, own_is, count)) room.nodes) in
    absurd (cc)
