-- What the path of a line's key came to, in maps that hold the records, tells how its look-up is answered.
use Rattle.std.proofs.Common.{◌≡◌, ℕ, ℤ, zero, suc, min, ◌+◌, ◌-◌, ◌<◌, ◌≤◌, ◌^◌, Bool, true, false, Some, Option, List, [], ◌∷◌, ◌++◌, length, take, drop, map, refl, sym, ap, subst, ap₂, ◌∙◌, inl, inr, arith, append-nil, bytes_eq, length-append}
use Rattle.std.proofs.lemmas.Bool.{cond-true, cond-false, false≢true}
use Rattle.std.proofs.lemmas.Slice.Eq.{bytes_eq-Decides}
use Rattle.std.specs.Global.{Vec}
use Rattle.std.specs.Int.{w64}
use Rattle.std.specs.List.{AllByRecursion, AllZip}
use Rattle.std.specs.Map.{lookup_entry}
use Rattle.std.specs.Prelude.{◌⊎◌, None, codes, option_map, FitsSigned}
use Rattle.std.specs.Ordering.{int_eq}
use Rattle.art_bytes.proofs.Common.{BeginsWith, pair_key}
use Rattle.art_nodes.proofs.Common.{Name}
use Rattle.art_nodes.specs.InnerNode.{InnerNode}
use Rattle.art_nodes.specs.declared.leaf.LeafNode.{LeafNode}
use Rattle.art_arena.proofs.Common.{Arena, AscendsByKey, all_weaker, begins_true, begins_with, held_at, inner_held, leaf_held}
use Rattle.art_operations.specs.Runs.{HoldsTreeOf}
use Rattle.art_walks.specs.MapReads.{look_up_reads, of_tree}
use Rattle.art_map.specs.Contents.{Contents}
use Rattle.art_lines.specs.Commands.{Request}
use Rattle.art_lines.specs.Parsed.{key_in_place}
use Rattle.art_lines.specs.Reading.{command_of}
use Rattle.art_lines.specs.ReplyWords.{find_reply}
use Rattle.art_lines.specs.Words.{Word}
use Rattle.art_lines.specs.declared.command.fields.Fields.{Fields}
use Rattle.art_lines.specs.declared.command.word.LookUp.{LookUp}
use Rattle.art_lines.specs.declared.command.word.LookUp.TheVariants as look_up
use Rattle.art_lines.proofs.Common.{Command, Reads, audit, del, drop as drop_all, dump, fields_of, find as find_front, found_or, full_key, get, line_of, list, looks_up, natural, ndel, nget, nput, nspan, of_tenant, over, pair_words, put, signed, span, spells}
use Rattle.art_engine.specs.Ahead.{IsWholeWay, IsDeadEnd, is_in_numbers, path_ahead, finds_key}
use Rattle.art_engine.specs.Landed.{IsLandedBy, IsLandingOf, is_of_one, landed_reply}
use Rattle.art_engine.specs.OwnAhead.{HoldRecords}
use Rattle.art_engine.specs.ReadAhead.{ComesTo, IfEnded, IsLandedLine, IsOnOwnWay, IsOnWayIn, IsOnWayOf}
use Rattle.art_engine.specs.declared.read_ahead.landing.Landing.{Landing}
use Rattle.art_engine.specs.declared.read_ahead.landing.Landing.TheVariants.{Open, Leaf, Missed, Found}
use Rattle.art_engine.specs.declared.read_ahead.line.Line.{Line}
use Rattle.art_engine.proofs.Finding.{all_found, front_found}
use Rattle.art_engine.proofs.KeyKinds.{keys_ascend, number_pairs_stand, pairs_stand, under_keys, under_numbers}
use Rattle.art_engine.proofs.ListedLines.{are_listed}
use Rattle.art_engine.proofs.MappedReads.{look_ups_by_keys}
use Rattle.art_engine.proofs.RecordCounts.{value_found}
use Rattle.art_engine.proofs.TenantKeys.{HeldPair, Kind, StandsUnder, key_in, keys_are, record_in, whole_of}
use Rattle.art_engine.proofs.Terms.{ArePairs, AreNumberPairs, IsListed, IsWithin, NumberPair, Pair, Record, Records, all_records_of, command_reply, exactly, front_at, full_key_of, look_up_nodes, number_key_of, number_record_of, own, own_part, own_pair, record_of, value_at, visits_of}
use Rattle.art_engine.proofs.WholeWays.{IsLastAt, finds_last, if_passes, root_whole}

-- the pair of the leaf to which a path came, if its look-up takes it
abbrev pair_by : {M : Type 0} (bytes : M → List ℕ) (arena : Arena M (Vec ℕ)) (full : List ℕ) (T : List ℕ → Bool) (value : List ℕ) (here : Name × ℕ) (l : Landing) → ComesTo bytes arena full T value here l → Option (M × Vec ℕ)
pair_by bytes arena full T value here (Found len) ends = Some (ends.0.key, ends.0.value)
pair_by bytes arena full T value here other ends = None

-- the value that is known so, if there is one
abbrev value_by : Landing → List ℕ → Option (List ℕ)
value_by (Found len) value = Some value
value_by other value = None

-- this is so where something is known of the record
abbrev IfKnown : Landing → Type 0 → Type 0
IfKnown Missed IsSo = IsSo
IfKnown (Found len) IsSo = IsSo
IfKnown other IsSo = Unit {0}

if_known : (P : ℕ) (records : Records) (o : Option Command) (l : Landing) (value : List ℕ) (n : ℕ) → IfKnown l (IsLandedBy P records o l value n) → IsLandingOf P records o l value n
if_known P records o Open value n is = tt
if_known P records o Leaf value n is = tt
if_known P records o Missed value n is = λ _. is
if_known P records o (Found len) value n is = λ _. is

known_so : {A B : Type 0} (l : Landing) → (A → B) → IfKnown l A → IfKnown l B
known_so Open f a = tt
known_so Leaf f a = tt
known_so Missed f a = f a
known_so (Found len) f a = f a

module _ {K M : Type 0} {bytes : M → List ℕ} {rest : K → List ℕ} {back : List ℕ → K} {Fits : K → Type 0} {lt same : K → K → Bool} {Before : Record K → Record K → Type 0}
    (kind : Kind bytes rest back Fits lt same Before) (P : ℕ) (arena : Arena M (Vec ℕ)) (root : Option Name) (ps : List (HeldPair kind)) (stand : AllByRecursion (StandsUnder kind) ps)
    (up : AscendsByKey (key_in kind) ps) (holds : HoldsTreeOf bytes P arena root ps) (full : List ℕ) (names : List Name) (here : Name × ℕ) (whole : IsWholeWay arena full root names here) where
  -- by a test that only fronts of the key pass, this pair is found, or none, and as many nodes are read in the tree of the records
  record IsFound (T : List ℕ → Bool) (o : Option (HeldPair kind)) : Type 0 where
    entry : lookup_entry (λ m. T (bytes m)) ps ≡ o
    nodes : look_up_nodes (whole_of kind) P (map (record_in kind) ps) full ≡ length names

  module _ (T : List ℕ → Bool) (fronts : (k : List ℕ) → T k ≡ true → BeginsWith k full) where
    found_at : (o : Option (HeldPair kind)) → IsLastAt arena full here o → IsFound T (if_passes (λ m. T (bytes m)) o)
    found_at o stands =
        let r = root_whole arena full P bytes root ps names here o holds whole stands in
        record {
          entry = finds_last bytes P full T fronts ps r.tree o up r.tree_is r.last;
          nodes = sym (look_ups_by_keys (key_in kind) (whole_of kind) ps (map (record_in kind) ps) (keys_are kind ps stand) P full) ∙ ap (of_tree (look_up_reads P full)) r.tree_is ∙ r.long;
        }

    found : (value : List ℕ) (l : Landing) → (ends : ComesTo bytes arena full T value here l) → IfKnown l (IsFound T (pair_by bytes arena full T value here l ends))
    found value Open ends = tt
    found value Leaf ends = tt
    found value Missed (inl (node, held, stops)) = found_at None (node, held, stops)
    found value Missed (inr (l, held, fails)) = subst (IsFound T) (cond-false (T (bytes l.key)) (Some (l.key, l.value)) None fails) (found_at (Some (l.key, l.value)) (l, held, refl))
    found value (Found len) (l, held, passes, long, same) = subst (IsFound T) (cond-true (T (bytes l.key)) (Some (l.key, l.value)) None passes) (found_at (Some (l.key, l.value)) (l, held, refl))

  -- so the value at a key is known
  same_front : (k : List ℕ) → bytes_eq k full ≡ true → BeginsWith k full
  same_front k e = ([], sym ((bytes_eq-Decides k full).0 e) ∙ sym (append-nil k))

  record IsValue (k : K) (t : ℕ) (l : Landing) (value : List ℕ) : Type 0 where
    at_key : value_at same k (own_part t (map (record_in kind) ps)) ≡ value_by l value
    nodes : look_up_nodes (whole_of kind) P (map (record_in kind) ps) full ≡ length names

  value_found_at : (t : ℕ) (k : K) → t < 2 ^ 32 → Fits k → full ≡ full_key t (rest k) → (value : List ℕ) (l : Landing) → ComesTo bytes arena full (λ j. bytes_eq j full) value here l → IfKnown l (IsValue k t l value)
  value_found_at t k small fits is value Open ends = tt
  value_found_at t k small fits is value Leaf ends = tt
  value_found_at t k small fits is value Missed ends =
      let r = found (λ j. bytes_eq j full) same_front value Missed ends in
      record { at_key = sym (value_found kind t k full small fits is ps stand) ∙ ap (option_map (λ (p : HeldPair kind). p.1.items)) r.entry; nodes = r.nodes }
  value_found_at t k small fits is value (Found len) ends =
      let r = found (λ j. bytes_eq j full) same_front value (Found len) ends in
      record { at_key = sym (value_found kind t k full small fits is ps stand) ∙ ap (option_map (λ (p : HeldPair kind). p.1.items)) r.entry ∙ ap Some ends.4; nodes = r.nodes }

-- exactly so many
within_exactly : (n m : ℕ) → n ≡ m → IsWithin (exactly n) m
within_exactly n m same = (omega (arith, same), omega (arith, same))

-- the tenant and the number of a line that was read
tenant_read : (w : Word) (t : ℕ) (more : List Word) (fields : List (List ℕ)) → AllZip Reads fields (w ∷ natural t ∷ more) → t < 2 ^ 32
tenant_read w t more (f ∷ g ∷ fs) r = r.1.0.1
tenant_read w t more fields r = absurd assumption

number_read : (w v : Word) (n : ℤ) (more : List Word) (fields : List (List ℕ)) → AllZip Reads fields (w ∷ v ∷ signed n ∷ more) → FitsSigned w64 n
number_read w v n more (f ∷ g ∷ h ∷ fs) r = r.1.1.0.1
number_read w v n more fields r = absurd assumption

-- of what is no look-up of one record nothing is told
none_told : (P : ℕ) (records : Records) (o : Option Command) (l : Landing) (value : List ℕ) (n : ℕ) → is_of_one o ≡ false → IsLandingOf P records o l value n
none_told P records o Open value n apart = tt
none_told P records o Leaf value n apart = tt
none_told P records o Missed value n apart = λ is. absurd (false≢true (sym apart ∙ is))
none_told P records o (Found len) value n apart = λ is. absurd (false≢true (sym apart ∙ is))

-- a reply shows one pair
pair_shown : (p q : List ℕ × List ℕ) → find_reply (Some p) ≡ find_reply (Some q) → p ≡ q
pair_shown (a, b) (c, d) e =
    let first : a ≡ c = cc in let second : b ≡ d = cc in
    ap (λ x. (x, b)) first ∙ ap (λ y. (c, y)) second

-- so much of a key as a front of its full key has after the tenant's bytes
front_of : (t : ℕ) (k stored : List ℕ) → 4 ≤ length stored → BeginsWith stored (full_key t k) → take (length stored - 4) k ≡ drop 4 stored
front_of t k (a ∷ b ∷ c ∷ d ∷ s) long (more, is) =
    let less : length (a ∷ b ∷ c ∷ d ∷ s) - 4 ≡ length s = omega arith in
    let own : k ≡ s ++ more = ap (drop 4) is in
    ap (λ n. take n k) less ∙ ap (take (length s)) own ∙ taken s more
  where
    taken : (xs ys : List ℕ) → take (length xs) (xs ++ ys) ≡ xs
    taken [] ys = refl
    taken (x ∷ xs) ys = ap (λ l. x ∷ l) (taken xs ys)
front_of t k [] long begins = absurd (omega (arith, long))
front_of t k (a ∷ []) long begins = absurd (omega (arith, long))
front_of t k (a ∷ b ∷ []) long begins = absurd (omega (arith, long))
front_of t k (a ∷ b ∷ c ∷ []) long begins = absurd (omega (arith, long))

-- what is replied where the value at a key is known
get_reply : (t : ℕ) (k : List ℕ) (l : Landing) (value : List ℕ) → landed_reply (Some (of_tenant t (get k))) l value ≡ found_or (value_by l value) (codes "is") (codes "none")
get_reply t k (Found len) value = refl
get_reply t k Open value = refl
get_reply t k Leaf value = refl
get_reply t k Missed value = refl

nget_reply : (t : ℕ) (n : ℤ) (l : Landing) (value : List ℕ) → landed_reply (Some (of_tenant t (nget n))) l value ≡ found_or (value_by l value) (codes "is") (codes "none")
nget_reply t n (Found len) value = refl
nget_reply t n Open value = refl
nget_reply t n Leaf value = refl
nget_reply t n Missed value = refl

-- that is no pair
no_pair : (o : Option (List ℕ)) (ws : List Word) (pair : List ℕ × List ℕ) → ws ≡ found_or o (codes "is") (codes "none") → ws ≡ find_reply (Some pair) → ⊥
no_pair None ws pair e f = (let g = sym e ∙ f in cc)
no_pair (Some v) ws pair e f = (let g = sym e ∙ f in cc)

module _ (P : ℕ) (keys : Contents (Vec ℕ) (Vec ℕ)) (numbers : Contents (List ℕ) (Vec ℕ)) (keys_held : HoldsTreeOf (λ k. k.items) P keys.nodes keys.root keys.pairs)
    (numbers_held : HoldsTreeOf (λ k. k) P numbers.nodes numbers.root numbers.pairs) (keys_are_pairs : ArePairs keys.pairs) (numbers_are_pairs : AreNumberPairs numbers.pairs) where
  abbrev held : Records
  held = all_records_of keys.pairs numbers.pairs

  module _ (names : List Name) (here : Name × ℕ) (value : List ℕ) (l : Landing) (t : ℕ) (small : t < 2 ^ 32) where
    get_known : (k : List ℕ) → IsWholeWay keys.nodes (full_key t k) keys.root names here → ComesTo (λ (j : Vec ℕ). j.items) keys.nodes (full_key t k) (λ j. bytes_eq j (full_key t k)) value here l
        → IsLandingOf P held (Some (of_tenant t (get k))) l value (length names)
    get_known k whole ends =
        if_known P held (Some (of_tenant t (get k))) l value (length names)
        (known_so l
        (λ r. record {
          reply = ap (λ o. found_or o (codes "is") (codes "none") ∷ []) r.at_key ∙ ap (λ ws. ws ∷ []) (sym (get_reply t k l value));
          short = λ pair e. absurd (no_pair (value_by l value) _ pair (get_reply t k l value) e);
          visits = within_exactly _ _ r.nodes;
        })
        (value_found_at under_keys P keys.nodes keys.root keys.pairs (pairs_stand keys.pairs keys_are_pairs) (keys_ascend keys.pairs keys_are_pairs.stand) keys_held (full_key t k) names here whole t k small tt refl value l ends))

    nget_known : (n : ℤ) → FitsSigned w64 n → IsWholeWay numbers.nodes (pair_key (t, n)) numbers.root names here → ComesTo (λ (j : List ℕ). j) numbers.nodes (pair_key (t, n)) (λ j. bytes_eq j (pair_key (t, n))) value here l
        → IsLandingOf P held (Some (of_tenant t (nget n))) l value (length names)
    nget_known n fits whole ends =
        if_known P held (Some (of_tenant t (nget n))) l value (length names)
        (known_so l
        (λ r. record {
          reply = ap (λ o. found_or o (codes "is") (codes "none") ∷ []) r.at_key ∙ ap (λ ws. ws ∷ []) (sym (nget_reply t n l value));
          short = λ pair e. absurd (no_pair (value_by l value) _ pair (nget_reply t n l value) e);
          visits = within_exactly _ _ r.nodes;
        })
        (value_found_at under_numbers P numbers.nodes numbers.root numbers.pairs (number_pairs_stand numbers.pairs numbers_are_pairs) numbers_are_pairs.ascend numbers_held (pair_key (t, n)) names here whole t n small fits refl value l ends))

  find_known : (names : List Name) (here : Name × ℕ) (value : List ℕ) (l : Landing) (t : ℕ) → t < 2 ^ 32 → (k : List ℕ) → IsWholeWay keys.nodes (full_key t k) keys.root names here
      → ComesTo (λ (j : Vec ℕ). j.items) keys.nodes (full_key t k) (λ j. begins_with j (full_key t k)) value here l → IsLandingOf P held (Some (of_tenant t (find_front k))) l value (length names)
  find_known names here value l t small k whole ends = by l ends (found under_keys P keys.nodes keys.root keys.pairs (pairs_stand keys.pairs keys_are_pairs) (keys_ascend keys.pairs keys_are_pairs.stand) keys_held full names here whole
      (λ j. begins_with j full) (λ j e. begins_true j full e) value l ends)
    where
      full : List ℕ
      full = full_key t k

      Ends : Landing → Type 0
      Ends m = ComesTo (λ (j : Vec ℕ). j.items) keys.nodes full (λ j. begins_with j full) value here m

      front : front_at k (own t held).keys ≡ option_map (λ (p : Pair). (drop 4 p.0.items, p.1.items)) (lookup_entry (λ j. begins_with j.items full) keys.pairs)
      front = sym (front_found t k full small refl keys.pairs keys_are_pairs.stand)

      by : (m : Landing) (e : Ends m) → IfKnown m (IsFound under_keys P keys.nodes keys.root keys.pairs (pairs_stand keys.pairs keys_are_pairs) (keys_ascend keys.pairs keys_are_pairs.stand) keys_held full names here whole (λ j. begins_with j full) (pair_by (λ (j : Vec ℕ). j.items) keys.nodes full (λ j. begins_with j full) value here m e))
          → IsLandingOf P held (Some (of_tenant t (find_front k))) m value (length names)
      by Open e r = tt
      by Leaf e r = tt
      by Missed e r = λ _. record {
        reply = ap (λ o. find_reply o ∷ []) (front ∙ ap (option_map (λ (p : Pair). (drop 4 p.0.items, p.1.items))) r.entry);
        short = λ pair f. absurd (no_pair None _ pair refl f);
        visits = within_exactly _ _ r.nodes;
      }
      by (Found len) (x, there, passes, long, same_value) r = λ _.
          let listed : IsListed (x.key, x.value) = all_found IsListed (λ j. begins_with j.items full) keys.pairs (x.key, x.value) (sym r.entry) (are_listed keys.pairs keys_are_pairs.stand.full keys_are_pairs.fit) in
          let key : drop 4 x.key.items ≡ take (len - 4) k = sym (front_of t k x.key.items listed.0 (begins_true x.key.items full passes)) ∙ ap (λ n. take (n - 4) k) long in
          let shown : (drop 4 x.key.items, x.value.items) ≡ (take (len - 4) k, value) = ap₂ (λ a b. (a, b)) key same_value in
          record {
            reply = ap (λ o. find_reply o ∷ []) (front ∙ ap (option_map (λ (p : Pair). (drop 4 p.0.items, p.1.items))) r.entry ∙ ap Some shown);
            short = λ pair f. subst (λ q. 3 + length (line_of (pair_words q)) ≤ 4097) (shown ∙ pair_shown (take (len - 4) k, value) pair f) listed.1;
            visits = within_exactly _ _ r.nodes;
          }

  module _ (line : Line) where
    abbrev own_of : Bool → Type 0
    own_of b = IsOnWayOf keys.nodes keys.root numbers.nodes numbers.root b line

    -- some nodes were read where a path came to its end
    some_in : {M : Type 0} (bytes : M → List ℕ) (arena : Arena M (Vec ℕ)) (root : Option Name) → IsOnWayIn bytes arena root line → (l : Landing) → line.landing ≡ l → IfEnded l (0 < line.read + line.left)
    some_in bytes arena root way l lands = by l (subst (λ e. IfEnded e (IsWholeWay arena line.key.items root line.visited.items (line.node, line.depth))) lands way.whole)
      where
        long : IsWholeWay arena line.key.items root line.visited.items (line.node, line.depth) → 0 < line.read + line.left
        long whole =
            let all = ap length whole.names_are in let more = length-append whole.above (line.node ∷ []) in let told = line.told in
            omega (arith, all, more, told)

        by : (m : Landing) → IfEnded m (IsWholeWay arena line.key.items root line.visited.items (line.node, line.depth)) → IfEnded m (0 < line.read + line.left)
        by Open w = tt
        by Leaf w = long w
        by Missed w = long w
        by (Found len) w = long w

    some_read : (b : Bool) → own_of b → (l : Landing) → line.landing ≡ l → IfEnded l (0 < line.read + line.left)
    some_read true own l lands = some_in (λ k. k) numbers.nodes numbers.root own l lands
    some_read false own l lands = some_in (λ k. k.items) keys.nodes keys.root own l lands

    -- in the map where its path lies, by its own key
    module _ (o : Option Command) (is : command_of line.text.items ≡ o) (own : own_of line.of_number) (full : List ℕ) (path : path_ahead o ≡ Some full) where
      abbrev IsSo : Landing → Type 0
      IsSo l = IsLandingOf P held o l line.value.items line.read

      in_map : {M : Type 0} (bytes : M → List ℕ) (arena : Arena M (Vec ℕ)) (root : Option Name) → (0 < line.read + line.left → IsOnWayIn bytes arena root line)
          → ((l : Landing) → IsWholeWay arena full root line.visited.items (line.node, line.depth) → ComesTo bytes arena full (finds_key o full) line.value.items (line.node, line.depth) l → IsLandingOf P held o l line.value.items (length line.visited.items))
          → IsSo line.landing
      in_map bytes arena root to_way known = by line.landing refl (some_read line.of_number own line.landing refl)
        where
          go : (l : Landing) → line.landing ≡ l → 0 < line.read + line.left → IsWholeWay arena line.key.items root line.visited.items (line.node, line.depth) → IsSo l
          go l lands some whole =
              let way = to_way some in
              let key : line.key.items ≡ full = (let e : Some line.key.items ≡ Some full = sym (line.path some) ∙ ap path_ahead is ∙ path in cc) in
              let ends = subst (ComesTo bytes arena line.key.items (finds_key (command_of line.text.items) line.key.items) line.value.items (line.node, line.depth)) lands way.ends in
              subst (λ n. IsLandingOf P held o l line.value.items n) line.told
              (known l (subst (λ k. IsWholeWay arena k root line.visited.items (line.node, line.depth)) key whole)
              (subst (λ k. ComesTo bytes arena k (finds_key o k) line.value.items (line.node, line.depth) l) key (subst (λ c. ComesTo bytes arena line.key.items (finds_key c line.key.items) line.value.items (line.node, line.depth) l) is ends)))

          whole_at : (l : Landing) → line.landing ≡ l → 0 < line.read + line.left → IfEnded l (IsWholeWay arena line.key.items root line.visited.items (line.node, line.depth))
          whole_at l lands some = subst (λ e. IfEnded e (IsWholeWay arena line.key.items root line.visited.items (line.node, line.depth))) lands (to_way some).whole

          by : (l : Landing) → line.landing ≡ l → IfEnded l (0 < line.read + line.left) → IsSo l
          by Open lands some = tt
          by Leaf lands some = tt
          by Missed lands some = go Missed lands some (whole_at Missed lands some)
          by (Found len) lands some = go (Found len) lands some (whole_at (Found len) lands some)

    by_command : (o : Option Command) → command_of line.text.items ≡ o → own_of line.of_number → IsLandingOf P held o line.landing line.value.items line.read
    by_command (Some (of_tenant t (get k))) is own =
        let read = (spells line.text.items (of_tenant t (get k)) is).read in
        in_map (Some (of_tenant t (get k))) is own (full_key t k) refl (λ (j : Vec ℕ). j.items) keys.nodes keys.root (λ some. subst own_of (line.map some ∙ ap is_in_numbers is) own)
        (λ l whole ends. get_known line.visited.items (line.node, line.depth) line.value.items l t (tenant_read _ t _ (fields_of line.text.items) read) k whole ends)
    by_command (Some (of_tenant t (find_front k))) is own =
        let read = (spells line.text.items (of_tenant t (find_front k)) is).read in
        in_map (Some (of_tenant t (find_front k))) is own (full_key t k) refl (λ (j : Vec ℕ). j.items) keys.nodes keys.root (λ some. subst own_of (line.map some ∙ ap is_in_numbers is) own)
        (λ l whole ends. find_known line.visited.items (line.node, line.depth) line.value.items l t (tenant_read _ t _ (fields_of line.text.items) read) k whole ends)
    by_command (Some (of_tenant t (nget n))) is own =
        let read = (spells line.text.items (of_tenant t (nget n)) is).read in
        in_map (Some (of_tenant t (nget n))) is own (pair_key (t, n)) refl (λ (j : List ℕ). j) numbers.nodes numbers.root (λ some. subst own_of (line.map some ∙ ap is_in_numbers is) own)
        (λ l whole ends. nget_known line.visited.items (line.node, line.depth) line.value.items l t (tenant_read _ t _ (fields_of line.text.items) read) n (number_read _ _ n _ (fields_of line.text.items) read) whole ends)
    by_command o is own = none_told P held o line.landing line.value.items line.read refl

    landed_line : IsOnOwnWay keys.nodes keys.root numbers.nodes numbers.root line → IsLandedLine P held line
    landed_line own = by_command (command_of line.text.items) refl own

-- so it is of all lines on their own ways
pub all_landed : (P : ℕ) (keys : Contents (Vec ℕ) (Vec ℕ)) (numbers : Contents (List ℕ) (Vec ℕ)) (records : Records) → HoldRecords P keys numbers records → (lines : List Line)
    → AllByRecursion (IsOnOwnWay keys.nodes keys.root numbers.nodes numbers.root) lines → AllByRecursion (IsLandedLine P records) lines
all_landed P keys numbers records hold lines own =
    subst (λ r. AllByRecursion (IsLandedLine P r) lines) hold.records_are
    (all_weaker (IsOnOwnWay keys.nodes keys.root numbers.nodes numbers.root) (IsLandedLine P (all_records_of keys.pairs numbers.pairs))
    (landed_line P keys numbers hold.keys_held hold.numbers_held hold.keys_are hold.numbers_are) lines own)

-- as much of a key as there is
take_min : (k : ℕ) (xs : List ℕ) → take (min k (length xs)) xs ≡ take k xs
take_min zero [] = refl
take_min (suc k) [] = let none : min (suc k) 0 ≡ 0 = omega arith in ap (λ j. take {A = ℕ} j []) none
take_min zero (x ∷ xs) = let none : min 0 (suc (length xs)) ≡ 0 = omega arith in ap (λ j. take j (x ∷ xs)) none
take_min (suc k) (x ∷ xs) = let one : min (suc k) (suc (length xs)) ≡ suc (min k (length xs)) = omega arith in ap (λ j. take j (x ∷ xs)) one ∙ ap (λ ys. x ∷ ys) (take_min k xs)

-- the line of a pair that is known isn't too long, with as much of the key as there is
pub find_short : (P : ℕ) (records : Records) (w : LookUp) (f : Fields) (l : Landing) (len : ℕ) (value : List ℕ) (n m : ℕ) (key : List ℕ) → w ≡ look_up.Find → l ≡ Found len → IsLandingOf P records (Some (looks_up w f)) l value n
    → key ≡ key_in_place f → m ≡ min (len - 4) (length key) → 3 + length (line_of (pair_words (take m key, value))) ≤ 4097
find_short P records w f l len value n m key find found landing key_is least =
    let landed : IsLandingOf P records (Some (looks_up look_up.Find f)) (Found len) value n =
    subst (λ x. IsLandingOf P records (Some (looks_up x f)) (Found len) value n) find (subst (λ x. IsLandingOf P records (Some (looks_up w f)) x value n) found landing) in
    let same : take m key ≡ take (len - 4) (key_in_place f) = ap (λ k. take k key) least ∙ take_min (len - 4) key ∙ ap (take (len - 4)) key_is in
    subst (λ k. 3 + length (line_of (pair_words (k, value))) ≤ 4097) (sym same) ((landed refl).short (take (len - 4) (key_in_place f), value) refl)
