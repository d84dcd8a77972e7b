-- How a key passes over the prefix of an inner node by its bytes, and where it goes no further.
use Rattle.std.proofs.Common.{◌≡◌, ℕ, ◌+◌, ◌<◌, List, [], ◌∷◌, ◌++◌, length, drop, get_or, Option, Some, None, MatchOption, refl, sym, ap, subst, ◌∙◌, inl, inr, arith, append_assoc, length-append}
use Rattle.art_bytes.proofs.Common.{BeginsWith, begins_step, begins_from_step}
use Rattle.art_nodes.proofs.Common.{InnerNode, child_at, Name}
use Rattle.art_arena.proofs.Terms.{Arena, inner_held, cell_of, held_at, node_at, Cell, pair, GoesOn, GoesNoFurther, Stops, IsAtDepth, IsSubtree, prefix_of, Shape, inner_at, children_at}
use Rattle.art_arena.proofs.shapes.Places.{InnerThere, inner-there}
use Rattle.art_arena.proofs.shapes.Prefixes.{drop-front}

-- the key after the path to it
pub following : (path key : List ℕ) (depth : ℕ) → length path ≡ depth → BeginsWith path key → key ≡ path ++ drop depth key
following path key depth len (rest, e) =
    let same : drop depth key ≡ rest = ap (λ d. drop d key) (sym len) ∙ ap (drop (length path)) e ∙ drop-front path rest in
    e ∙ ap (λ r. path ++ r) (sym same)

pub byte_following : (q more : List ℕ) (c : ℕ) → get_or (q ++ c ∷ more) (length q) 0 ≡ c
byte_following [] more c = refl
byte_following (y ∷ q) more c = byte_following q more c

-- the key's byte after a prefix
pub next_byte : (path prefix key : List ℕ) (depth b : ℕ) → length path ≡ depth → BeginsWith ((path ++ prefix) ++ b ∷ []) key → (r : List ℕ) × (drop depth key ≡ prefix ++ b ∷ r)
next_byte path prefix key depth b len (r, e) =
    let spelled : key ≡ path ++ (prefix ++ b ∷ r) = e ∙ append_assoc (path ++ prefix) (b ∷ []) r ∙ append_assoc path prefix (b ∷ r) in
    (r, ap (λ d. drop d key) (sym len) ∙ ap (drop (length path)) spelled ∙ drop-front path (prefix ++ b ∷ r))

-- a list that is longer than its front has a byte after it
pub byte_follows : (front list more : List ℕ) → list ≡ front ++ more → length front < length list → (b : ℕ) × (r : List ℕ) × (list ≡ front ++ b ∷ r)
byte_follows front list [] e longer = absurd (omega (arith, longer, ap length e, length-append front []))
byte_follows front list (b ∷ r) e longer = (b, r, e)

-- a key's byte after a front of it
byte_at : (q key : List ℕ) (b : ℕ) → BeginsWith q key → length q < length key → get_or key (length q) 0 ≡ b → BeginsWith (q ++ b ∷ []) key
byte_at q key b (more, e) longer is =
    let f = byte_follows q key more e longer in
    let same : f.0 ≡ b = sym (byte_following q f.1 f.0) ∙ sym (ap (λ k. get_or k (length q) 0) f.2) ∙ is in
    begins_from_step q b f.1 key (f.2 ∙ ap (λ c. q ++ c ∷ f.1) same)

-- from a leaf no key goes on
pub leaf-stops : {K V : Type 0} (bytes : K → List ℕ) (P : ℕ) (at : Name → Option (Cell K V)) (current : Name) (key path : List ℕ) (s : Shape K V) (k : K) (v : V) → at current ≡ Some (pair k v) → IsSubtree bytes P at current path s → Stops bytes key path s
leaf-stops bytes P at current key path s k v there sub n prefix kids is byte begins =
    let here : IsSubtree bytes P at current path (inner_at n prefix kids) = subst (IsSubtree bytes P at current path) is sub in
    let e = sym there ∙ ap at (sym here.part.named) ∙ here.part.held.0 in
    absurd (cc)

module _ {K V : Type 0} (bytes : K → List ℕ) (P : ℕ) (arena : Arena K V) (node : Name) (inner : InnerNode) (held : held_at arena node ≡ Some (inner_held inner)) (path key : List ℕ) (depth : ℕ) (s : Shape K V)
    (at : IsAtDepth bytes P (node_at arena) node depth path s) (begins : BeginsWith path key) where
  here : InnerThere P (node_at arena) s inner
  here = inner-there P (node_at arena) s inner at.subtree.part.held (ap (node_at arena) at.subtree.part.named ∙ ap cell_of held)

  len : inner.header.prefix_len ≡ length (prefix_of s)
  len = ap (λ (n : InnerNode). n.header.prefix_len) here.node_is ∙ ap (λ t. length (prefix_of t)) (sym here.is)

  whole_len : length (path ++ prefix_of s) ≡ depth + inner.header.prefix_len
  whole_len = omega (arith, length-append path (prefix_of s), at.path_len, len)

  -- it goes on after a prefix whose bytes it has
  pub goes_past : BeginsWith (prefix_of s) (drop depth key) → (b : ℕ) (child : Name) (next : ℕ) → GoesOn key depth inner b child next → BeginsWith ((path ++ prefix_of s) ++ b ∷ []) key
  goes_past (more, e) b child next goes =
      let on : BeginsWith (path ++ prefix_of s) key = (more, following path key depth at.path_len begins ∙ ap (λ r. path ++ r) e ∙ sym (append_assoc path (prefix_of s) more)) in
      byte_at (path ++ prefix_of s) key b on (omega (arith, whole_len, goes.within, goes.next_is)) (ap (λ i. get_or key i 0) whole_len ∙ goes.byte_is)

  -- or it goes no further
  pub ends_there : GoesNoFurther key depth inner → Stops bytes key path s
  ends_there none n prefix kids is byte on =
      let st = begins_step (path ++ prefix) byte key on in
      let same_len : length (path ++ prefix) ≡ depth + inner.header.prefix_len = ap (λ t. length (path ++ prefix_of t)) (sym is) ∙ whole_len in
      let at_byte : get_or key (depth + inner.header.prefix_len) 0 ≡ byte = ap (λ i. get_or key i 0) (sym same_len) ∙ ap (λ k. get_or k (length (path ++ prefix)) 0) st.1 ∙ byte_following (path ++ prefix) st.0 byte in
      let both = sym here.is ∙ is in
      let same_kids : here.kids ≡ kids = cc in
      let kids_are : inner.children ≡ children_at kids = ap (λ (m : InnerNode). m.children) here.node_is ∙ ap children_at same_kids in
      elim none [
        | inl short ↦ absurd (omega (arith, short, same_len, ap length st.1, length-append (path ++ prefix) (byte ∷ st.0)))
        | inr missing ↦ ap (λ cs. child_at cs byte) (sym kids_are) ∙ ap (child_at inner.children) (sym at_byte) ∙ missing
      ]

  pub passed : BeginsWith (prefix_of s) (drop depth key) → {X : Type 0} (r : Option X) (byte depth_of : X → ℕ) (child : X → Name) → MatchOption r (GoesNoFurther key depth inner) (λ x. GoesOn key depth inner (byte x) (child x) (depth_of x))
      → MatchOption r (Stops bytes key path s) (λ x. BeginsWith ((path ++ prefix_of s) ++ byte x ∷ []) key)
  passed front None byte depth_of child none = ends_there none
  passed front (Some x) byte depth_of child goes = goes_past front (byte x) (child x) (depth_of x) goes

  -- where the prefix has other bytes it goes no further
  pub mismatch_stops : (BeginsWith (prefix_of s) (drop depth key) → ⊥) → Stops bytes key path s
  mismatch_stops differs n prefix kids is byte on =
      let next = next_byte path prefix key depth byte at.path_len on in
      absurd (differs (subst (λ t. BeginsWith (prefix_of t) (drop depth key)) (sym is) (byte ∷ next.0, next.1)))
