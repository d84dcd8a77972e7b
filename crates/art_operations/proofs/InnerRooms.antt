-- Room for the inner nodes over leaves: what is left where one of them is stored.
use Rattle.std.proofs.Common.{◌≡◌, ◌≢◌, ℕ, zero, suc, ◌+◌, ◌*◌, ◌-◌, ◌<◌, ◌≤◌, [], ◌∷◌, length, length-append, sym, ap, subst, ◌∙◌, inl, inr, refl, arith}
use Rattle.std.specs.Prelude.{vec_capacity}
use Rattle.std.proofs.Math.Nat.{suc-mul, one-mul}
use Rattle.art_nodes.proofs.Common.{row_of, Name}
use Rattle.art_nodes.specs.declared.kind.NodeType.{NodeType}
use Rattle.art_nodes.specs.declared.kind.NodeType.TheVariants.{Node4, Node16, Node32, Node48, Node256, Leaf}
use Rattle.art_arena.proofs.Common.{Arena, HasRoomOf, KeepsRoomOf, UsesRoomOf, same_kind_tells}
use Rattle.art_operations.proofs.Terms.{HasInnerRoom, Spine, HasNodeRoom, HasPlaces, HasSpineRoom, IsFresh, AddsChild, IsEmptySpine}

less : (n a b : ℕ) → n < a → a ≤ b → n < b
less n a b few fewer = omega (arith, few, fewer)

-- one node more takes as many parts as a node has at least, all but one
one_more : (n d count more : ℕ) → n * d < suc more → d + 1 ≤ count → (n + 1) * d < count + more
one_more n d count more few enough =
    let next : n + 1 ≡ suc n = omega arith in
    let product : (n + 1) * d ≡ n * d + d = ap (λ k. k * d) next ∙ suc-mul n d in
    subst (λ k. k < count + more) (sym product) (apart (n * d) few)
  where
    apart : (t : ℕ) → t < suc more → t + d < count + more
    apart t below = omega (arith, below, enough)

pub least-two : (kind : NodeType) → kind ≢ Leaf → 2 ≤ (row_of kind).fewest
least-two Node4 inner = omega arith
least-two Node16 inner = omega arith
least-two Node32 inner = omega arith
least-two Node48 inner = omega arith
least-two Node256 inner = omega arith
least-two Leaf inner = absurd (inner refl)

module _ {K V : Type 0} where
  pub fewer-leaves : (arena : Arena K V) (m n : ℕ) → m ≤ n → HasInnerRoom arena n → HasInnerRoom arena m
  fewer-leaves arena m n fewer room = λ kind inner count few. room kind inner count (less (count * ((row_of kind).fewest - 1)) m n few fewer)

  -- there is room for the first
  pub first-room : (arena : Arena K V) (kind : NodeType) (count more : ℕ) → kind ≢ Leaf → (row_of kind).fewest ≤ count → HasInnerRoom arena (count + more) → HasRoomOf arena kind 1
  first-room arena kind count more inner many room =
      let two = least-two kind inner in
      room kind inner 1 (subst (λ k. k < count + more) (sym (one-mul ((row_of kind).fewest - 1))) (omega (arith, two, many)))

  -- a node over some of the parts is stored, of a kind that so many children may have
  pub stored : (old new : Arena K V) (kind : NodeType) (count more : ℕ) → kind ≢ Leaf → (row_of kind).fewest ≤ count → UsesRoomOf kind old new → HasInnerRoom old (count + more) → HasInnerRoom new (suc more)
  stored old new kind count more inner many uses room = λ other is_inner n few. elim (same_kind_tells other kind) [
    | inl same ↦ subst (λ k. HasRoomOf new k n) (sym same.1) (uses.own n (room kind inner (n + 1) (of_this n (subst (λ k. n * ((row_of k).fewest - 1) < suc more) same.1 few))))
    | inr differs ↦ uses.others other differs.1 n (room other is_inner n (less (n * ((row_of other).fewest - 1)) (suc more) (count + more) few within))
  ]
    where
      two : 2 ≤ (row_of kind).fewest
      two = least-two kind inner

      within : suc more ≤ count + more
      within = omega (arith, two, many)

      of_this : (n : ℕ) → n * ((row_of kind).fewest - 1) < suc more → (n + 1) * ((row_of kind).fewest - 1) < count + more
      of_this n few = one_more n ((row_of kind).fewest - 1) count more few (omega (arith, two, many))

  pub room-at : (arena : Arena K V) (m n : ℕ) → m ≡ n → HasInnerRoom arena m → HasInnerRoom arena n
  room-at arena m n same room = subst (HasInnerRoom arena) same room

  -- a new spine has room
  pub fresh-room : (arena : Arena K V) (spine : Spine) (leaves : ℕ) → IsFresh spine leaves → HasInnerRoom arena leaves → HasSpineRoom arena spine leaves
  fresh-room arena spine leaves fresh room =
      let stack = fresh.stack in
      let children = fresh.children in
      let none : length spine.stack.items ≡ 0 = ap length fresh.empty.0 in
      let no_child : length spine.children.items ≡ 0 = ap length fresh.empty.1 in
      record {
        places = record { stack = omega (arith, none, stack); children = omega (arith, no_child, children) };
        nodes = room-at arena leaves (length spine.children.items + leaves) (omega (arith, no_child)) room;
      }

  -- an empty spine takes no room for none
  pub no-room : (arena : Arena K V) (spine : Spine) (more : ℕ) → IsEmptySpine spine → more ≡ 0 → HasSpineRoom arena spine more
  no-room arena spine more empty none_more =
      let none : length spine.stack.items ≡ 0 = ap length empty.0 in
      let no_child : length spine.children.items ≡ 0 = ap length empty.1 in
      record {
        places = record { stack = omega (arith, none, none_more); children = omega (arith, no_child, none_more) };
        nodes = room-at arena 0 (length spine.children.items + more) (omega (arith, no_child, none_more)) (λ kind inner n few. absurd (omega (arith, few)));
      }

  pub beside-leaf : (old new : Arena K V) (spine : Spine) (more : ℕ) → UsesRoomOf Leaf old new → HasSpineRoom old spine more → HasSpineRoom new spine more
  beside-leaf old new spine more uses room = record { places = room.places; nodes = λ kind inner n few. uses.others kind inner n (room.nodes kind inner n few) }

  -- room for more is enough
  pub fewer-to-come : (arena : Arena K V) (spine : Spine) (m n : ℕ) → m ≤ n → HasSpineRoom arena spine n → HasSpineRoom arena spine m
  fewer-to-come arena spine m n fewer room =
      let stack = room.places.stack in
      let children = room.places.children in
      record {
        places = record { stack = omega (arith, fewer, stack); children = omega (arith, fewer, children) };
        nodes = fewer-leaves arena (length spine.children.items + m) (length spine.children.items + n) (omega (arith, fewer)) room.nodes;
      }

  -- the last open node is made of so many children, after those of the others
  pub closed-nodes : (old new : Arena K V) (was now : Spine) (first own more : ℕ) → ((n : ℕ) → HasInnerRoom old (own + n) → HasInnerRoom new (suc n)) → first + own ≡ length was.children.items + 1 → length now.children.items ≡ first
      → HasNodeRoom old was (suc more) → HasNodeRoom new now (suc more)
  closed-nodes old new was now first own more stores all kept room =
      room-at new (suc (first + more)) (length now.children.items + suc more) (omega (arith, kept))
      (stores (first + more) (room-at old (length was.children.items + suc more) (own + (first + more)) (omega (arith, all)) room))

  pub closed-room : (old new : Arena K V) (was now : Spine) (first own more : ℕ) → ((n : ℕ) → HasInnerRoom old (own + n) → HasInnerRoom new (suc n)) → 1 ≤ own → first + own ≡ length was.children.items + 1
      → suc (length now.stack.items) ≡ length was.stack.items → length now.children.items ≡ first → vec_capacity was.stack ≤ vec_capacity now.stack → vec_capacity was.children ≤ vec_capacity now.children
      → HasSpineRoom old was (suc more) → HasSpineRoom new now (suc more)
  closed-room old new was now first own more stores some all popped kept stack children room =
      let old_stack = room.places.stack in
      let old_children = room.places.children in
      record {
        places = record { stack = omega (arith, popped, stack, old_stack); children = omega (arith, all, some, kept, children, old_children) };
        nodes = closed-nodes old new was now first own more stores all kept room.nodes;
      }

  -- the part has become a child, and the next leaf is the part
  pub added-nodes : (arena : Arena K V) (was now : Spine) (following more : ℕ) (child : ℕ × Name) → AddsChild following child was now → HasNodeRoom arena was (suc more) → HasNodeRoom arena now more
  added-nodes arena was now following more child adds room =
      let count = ap length adds.children ∙ length-append was.children.items (child ∷ []) in
      room-at arena (length was.children.items + suc more) (length now.children.items + more) (omega (arith, count)) room

  pub added-room : (arena : Arena K V) (was now : Spine) (following more : ℕ) (child : ℕ × Name) → AddsChild following child was now → HasPlaces now more → HasSpineRoom arena was (suc more) → HasSpineRoom arena now more
  added-room arena was now following more child adds places room = record { places = places; nodes = added-nodes arena was now following more child adds room.nodes }

  -- all nodes over so many leaves are made: their tree is one part
  pub made-all : (old now new : Arena K V) (fresh was made : Spine) (leaves : ℕ) → IsEmptySpine fresh → 1 ≤ leaves → ((m : ℕ) → HasNodeRoom old fresh (leaves + m) → HasNodeRoom now was (suc m)) → ((m : ℕ) → HasNodeRoom now was (suc m) → HasNodeRoom new made (suc m))
      → (more : ℕ) → HasInnerRoom old (leaves - 1 + more) → HasInnerRoom new more
  made-all old now new fresh was made leaves empty some passed closed zero room = λ kind inner n few. absurd (omega (arith, few))
  made-all old now new fresh was made leaves empty some passed closed (suc m) room =
      let no_child : length fresh.children.items ≡ 0 = ap length empty.1 in
      fewer-leaves new (suc m) (length made.children.items + suc m) (omega arith)
      (closed m (passed m (room-at old (leaves - 1 + suc m) (length fresh.children.items + (leaves + m)) (omega (arith, no_child, some)) room)))

  -- there is room for as many nodes of this kind as can stand over so many leaves
  abbrev RoomOver : Arena K V → ℕ → NodeType → Type 0
  RoomOver arena leaves kind = (n : ℕ) → n * ((row_of kind).fewest - 1) < leaves → HasRoomOf arena kind n

  -- so of each kind, where room that there is stays
  pub all-kinds : (a b c d e : Arena K V) (leaves : ℕ) → RoomOver a leaves Node4 → KeepsRoomOf a b → RoomOver b leaves Node16 → KeepsRoomOf b c → RoomOver c leaves Node32 → KeepsRoomOf c d → RoomOver d leaves Node48 → KeepsRoomOf d e
      → RoomOver e leaves Node256 → HasInnerRoom e leaves
  all-kinds a b c d e leaves r4 kb r16 kc r32 kd r48 ke r256 Node4 inner n few = ke Node4 n (kd Node4 n (kc Node4 n (kb Node4 n (r4 n few))))
  all-kinds a b c d e leaves r4 kb r16 kc r32 kd r48 ke r256 Node16 inner n few = ke Node16 n (kd Node16 n (kc Node16 n (r16 n few)))
  all-kinds a b c d e leaves r4 kb r16 kc r32 kd r48 ke r256 Node32 inner n few = ke Node32 n (kd Node32 n (r32 n few))
  all-kinds a b c d e leaves r4 kb r16 kc r32 kd r48 ke r256 Node48 inner n few = ke Node48 n (r48 n few)
  all-kinds a b c d e leaves r4 kb r16 kc r32 kd r48 ke r256 Node256 inner n few = r256 n few
  all-kinds a b c d e leaves r4 kb r16 kc r32 kd r48 ke r256 Leaf inner n few = absurd (inner refl)
