-- Nodes that are visited ahead of a line, one after another down its path.
use Rattle.std.proofs.Common.{◌≡◌, ℕ, suc, zero, ◌<◌, Bool, true, false, cond, Some, Option, List, [], ◌∷◌, ◌++◌, length, take, get_or, refl, sym, ap, subst, ◌∙◌, inl, inr, arith}
use Rattle.std.proofs.Math.ListN.{set}
use Rattle.std.specs.Global.{Vec}
use Rattle.std.specs.List.{AllByRecursion, AllZip}
use Rattle.std.specs.Borrow.{Bor}
use Rattle.std.specs.Prelude.{None, IfSome, IsSome, MatchOption, replicate}
use Rattle.art_nodes.proofs.Common.{Name}
use Rattle.art_arena.proofs.Common.{Arena, all_weaker, held_at, inner_held, leaf_held}
use Rattle.art_arena.specs.arena.Arena.{Held}
use Rattle.art_engine.specs.Ahead.{AllLeadTo, IsStepAhead, IsWayAhead, IsWay, IsWholeWay, LeadsTo, finds_key}
use Rattle.art_lines.specs.Commands.{Command}
use Rattle.art_lines.specs.Reading.{command_of}
use Rattle.art_engine.specs.ReadAhead.{AreReadEarly, ComesTo, IfEnded, IsAtStart, IsDescended, IsOnOwnWay, IsOnWayIn, IsOnWayOf, IsReadEarly}
use Rattle.art_engine.specs.declared.read_ahead.landing.Landing.TheVariants.{Open}
use Rattle.art_engine.specs.declared.read_ahead.line.Line.{Line}

module _ {K V : Type 0} (arena : Arena K V) (key : List ℕ) where
  -- nodes that lead to a place, and the node there
  way-more : (from : Name × ℕ) (names : List Name) (here : Name × ℕ) → AllLeadTo arena key from names here → IsSome (held_at arena here.0) → IsWay arena key from (names ++ here.0 ∷ [])
  way-more from [] here e there = (ap (λ (p : Name × ℕ). p.0) e, there)
  way-more from (n ∷ []) here (is, next, leads, e) there = (is, next, leads, (ap (λ (p : Name × ℕ). p.0) e, there))
  way-more from (n ∷ m ∷ names) here (is, next, leads, on) there = (is, next, leads, way-more next (m ∷ names) here on there)

  -- and the place to which that one leads
  leads-more : (from : Name × ℕ) (names : List Name) (here next : Name × ℕ) → AllLeadTo arena key from names here → LeadsTo arena key here next → AllLeadTo arena key from (names ++ here.0 ∷ []) next
  leads-more from [] here next e leads = (ap (λ (p : Name × ℕ). p.0) e, next, subst (λ p. LeadsTo arena key p next) e leads, refl)
  leads-more from (n ∷ names) here next (is, between, first, on) leads = (is, between, first, leads-more between names here next on leads)

  -- the node at a place is visited: it ends the way, or leads on
  pub visited_once : (later : Arena K V) (root : Option Name) (names more : List Name) (left left' : ℕ) (here next : Name × ℕ) (held : Held K V) → later ≡ arena → more ≡ names ++ here.0 ∷ [] → 0 < left
      → held_at arena here.0 ≡ Some held → (0 < left' → LeadsTo arena key here next) → IsWayAhead arena key root names left here → IsWayAhead later key root more left' next
  visited_once later root names more left left' here next held same is low there leads way =
      let on = way.goes_on low in
      subst (λ a. IsWayAhead a key root more left' next) (sym same)
      (subst (λ ns. IsWayAhead arena key root ns left' next) (sym is) (record {
        way = subst (λ (o : Option Name). MatchOption o (names ++ here.0 ∷ [] ≡ []) (λ r. IsWay arena key (r, 0) (names ++ here.0 ∷ []))) (sym on.1)
            (way-more (on.0, 0) names here on.2 (subst IsSome (sym there) refl));
        goes_on = λ more. (on.0, on.1, leads-more (on.0, 0) names here next on.2 (leads more));
      }))

  -- and if it is the last, these are all of them
  pub whole_once : (later : Arena K V) (root : Option Name) (names more : List Name) (left : ℕ) (here : Name × ℕ) → later ≡ arena → more ≡ names ++ here.0 ∷ [] → 0 < left → IsWayAhead arena key root names left here
      → IsWholeWay later key root more here
  whole_once later root names more left here same is low way =
      let on = way.goes_on low in
      subst (λ a. IsWholeWay a key root more here) (sym same) (record { from = on.0; root_is = on.1; above = names; names_are = is; leads = on.2 })

-- a way whose path goes on
pub still_open : {K : Type 0} (bytes : K → List ℕ) (arena : Arena K (Vec ℕ)) (root : Option Name) (line : Line) → line.landing ≡ Open
    → IsWayAhead arena line.key.items root line.visited.items line.left (line.node, line.depth) → IsOnWayIn bytes arena root line
still_open bytes arena root line unlanded way = record {
  ahead = way;
  whole = subst (λ l. IfEnded l (IsWholeWay arena line.key.items root line.visited.items (line.node, line.depth))) (sym unlanded) tt;
  ends = subst (ComesTo bytes arena line.key.items (finds_key (command_of line.text.items) line.key.items) line.value.items (line.node, line.depth)) (sym unlanded) tt;
}

-- a descent that does nothing
pub descended_same : {K : Type 0} (bytes : K → List ℕ) (arena : Arena K (Vec ℕ)) (in_numbers : Bool) (line : Line) → IsDescended bytes arena in_numbers line line
descended_same bytes arena in_numbers line = record { same_map = refl; way = λ is root way. way; other = λ no. refl }

-- one descent after another
descended_on : {K : Type 0} (bytes : K → List ℕ) (arena : Arena K (Vec ℕ)) (in_numbers : Bool) (x y z : Line) → IsDescended bytes arena in_numbers x y → IsDescended bytes arena in_numbers y z → IsDescended bytes arena in_numbers x z
descended_on bytes arena in_numbers x y z first second = record {
  same_map = second.same_map ∙ first.same_map;
  way = λ is root way. second.way (first.same_map ∙ is) root (first.way is root way);
  other = λ no. second.other (λ is. no (sym first.same_map ∙ is)) ∙ first.other no;
}

-- a step of a line whose way lies in this map
pub descended_by : {K : Type 0} (bytes : K → List ℕ) (arena was now : Arena K (Vec ℕ)) (in_numbers : Bool) (old new : Line) → was ≡ arena → now ≡ was → new.of_number ≡ old.of_number → old.of_number ≡ in_numbers
    → ((root : Option Name) → IsOnWayIn bytes was root old → IsOnWayIn bytes now root new) → IsDescended bytes arena in_numbers old new
descended_by bytes arena was now in_numbers old new before same map is step = record {
  same_map = map;
  way = λ own root way. subst (λ a. IsOnWayIn bytes a root new) (same ∙ before) (step root (subst (λ a. IsOnWayIn bytes a root old) (sym before) way));
  other = λ no. absurd (no is);
}

pub all_same : {K : Type 0} (bytes : K → List ℕ) (arena : Arena K (Vec ℕ)) (in_numbers : Bool) (xs : List Line) → AllZip (IsDescended bytes arena in_numbers) xs xs
all_same bytes arena in_numbers [] = tt
all_same bytes arena in_numbers (x ∷ xs) = (descended_same bytes arena in_numbers x, all_same bytes arena in_numbers xs)

pub all_on : {K : Type 0} (bytes : K → List ℕ) (arena : Arena K (Vec ℕ)) (in_numbers : Bool) (xs ys zs : List Line) → AllZip (IsDescended bytes arena in_numbers) xs ys → AllZip (IsDescended bytes arena in_numbers) ys zs → AllZip (IsDescended bytes arena in_numbers) xs zs
all_on bytes arena in_numbers [] [] [] first second = tt
all_on bytes arena in_numbers [] [] (z ∷ zs) first second = second
all_on bytes arena in_numbers [] (y ∷ ys) zs first second = absurd first
all_on bytes arena in_numbers (x ∷ xs) [] zs first second = absurd first
all_on bytes arena in_numbers (x ∷ xs) (y ∷ ys) [] first second = second
all_on bytes arena in_numbers (x ∷ xs) (y ∷ ys) (z ∷ zs) first second = (descended_on bytes arena in_numbers x y z first.0 second.0, all_on bytes arena in_numbers xs ys zs first.1 second.1)

-- the line at a place is descended, too
pub descended_more : {K : Type 0} (bytes : K → List ℕ) (arena : Arena K (Vec ℕ)) (in_numbers : Bool) (xs ys : List Line) (at : ℕ) (y d : Line) → at < length ys → AllZip (IsDescended bytes arena in_numbers) xs ys → IsDescended bytes arena in_numbers (get_or ys at d) y
    → AllZip (IsDescended bytes arena in_numbers) xs (set ys at y)
descended_more bytes arena in_numbers xs [] at y d low all step = absurd (omega arith)
descended_more bytes arena in_numbers [] (z ∷ zs) at y d low all step = absurd all
descended_more bytes arena in_numbers (x ∷ xs) (z ∷ zs) zero y d low all step = (descended_on bytes arena in_numbers x z y all.0 step, all.1)
descended_more bytes arena in_numbers (x ∷ xs) (z ∷ zs) (suc at) y d low all step = (all.0, descended_more bytes arena in_numbers xs zs at y d (omega arith) all.1 step)

-- one line more is at its start
pub start_more : (keys numbers : Option Name) (lines : List Line) (len : ℕ) (y : Line) → len < length lines → AllByRecursion (IsAtStart keys numbers) (take len lines) → IsAtStart keys numbers y
    → AllByRecursion (IsAtStart keys numbers) (take (suc len) (set lines len y))
start_more keys numbers [] len y low all start = absurd (omega arith)
start_more keys numbers (x ∷ xs) zero y low all start = (start, tt)
start_more keys numbers (x ∷ xs) (suc len) y low all start = (all.0, start_more keys numbers xs len y (omega arith) all.1 start)

-- a line at its start is on its way
start_in : {K : Type 0} (bytes : K → List ℕ) (arena : Arena K (Vec ℕ)) (root given : Option Name) (line : Line) → line.visited.items ≡ [] → line.landing ≡ Open → IfSome given (λ name. root ≡ Some name) → (0 < line.left → (line.depth ≡ 0) × (given ≡ Some line.node))
    → IsOnWayIn bytes arena root line
start_in bytes arena root given line none unlanded is starts = still_open bytes arena root line unlanded (record {
  way = of_root root;
  goes_on = λ low. let s = starts low in (
    line.node,
    subst (λ o. IfSome o (λ name. root ≡ Some name)) s.1 is,
    subst (λ names. AllLeadTo arena line.key.items (line.node, 0) names (line.node, line.depth)) (sym none) (ap (λ d. (line.node, d)) s.0),
  );
})
  where
    of_root : (o : Option Name) → MatchOption o (line.visited.items ≡ []) (λ r. IsWay arena line.key.items (r, 0) line.visited.items)
    of_root None = none
    of_root (Some r) = subst (λ names. IsWay arena line.key.items (r, 0) names) (sym none) tt

module _ (keys : Arena (Vec ℕ) (Vec ℕ)) (keys_root : Option Name) (numbers : Arena (List ℕ) (Vec ℕ)) (numbers_root : Option Name) where
  abbrev own_if : Bool → Line → Type 0
  own_if b line = IsOnWayOf keys keys_root numbers numbers_root b line

  start_own : (k n : Option Name) (line : Line) → IfSome k (λ name. keys_root ≡ Some name) → IfSome n (λ name. numbers_root ≡ Some name) → IsAtStart k n line → IsOnOwnWay keys keys_root numbers numbers_root line
  start_own k n line of_keys of_numbers start = go line.of_number start.starts
    where
      go : (b : Bool) → (0 < line.left → (line.depth ≡ 0) × (cond b n k ≡ Some line.node)) → own_if b line
      go true starts = start_in (λ k. k) numbers numbers_root n line start.unvisited start.unlanded of_numbers starts
      go false starts = start_in (λ k. k.items) keys keys_root k line start.unvisited start.unlanded of_keys starts

  pub starts_own : (k n : Option Name) (lines : List Line) → IfSome k (λ name. keys_root ≡ Some name) → IfSome n (λ name. numbers_root ≡ Some name) → AllByRecursion (IsAtStart k n) lines
      → AllByRecursion (IsOnOwnWay keys keys_root numbers numbers_root) lines
  starts_own k n lines of_keys of_numbers all = all_weaker (IsAtStart k n) (IsOnOwnWay keys keys_root numbers numbers_root) (λ l s. start_own k n l of_keys of_numbers s) lines all

  -- a descent in both maps leaves each line on its own way
  both_own : (x y z : Line) → IsDescended (λ k. k.items) keys false x y → IsDescended (λ k. k) numbers true y z → IsOnOwnWay keys keys_root numbers numbers_root x → IsOnOwnWay keys keys_root numbers numbers_root z
  both_own x y z first second own = go x.of_number refl own
    where
      go : (b : Bool) → x.of_number ≡ b → own_if b x → IsOnOwnWay keys keys_root numbers numbers_root z
      go true is way =
          let same : y ≡ x = first.other (λ (no : x.of_number ≡ false). (cc)) in
          let numbered : y.of_number ≡ true = first.same_map ∙ is in
          subst (λ b. own_if b z) (sym (second.same_map ∙ numbered)) (second.way numbered numbers_root (subst (IsOnWayIn (λ k. k) numbers numbers_root) (sym same) way))
      go false is way =
          let keyed : y.of_number ≡ false = first.same_map ∙ is in
          let same : z ≡ y = second.other (λ (no : y.of_number ≡ true). (cc)) in
          subst (λ l. IsOnOwnWay keys keys_root numbers numbers_root l) (sym same) (subst (λ b. own_if b y) (sym keyed) (first.way is keys_root way))

  pub all_own : (xs ys zs : List Line) → AllZip (IsDescended (λ k. k.items) keys false) xs ys → AllZip (IsDescended (λ k. k) numbers true) ys zs → AllByRecursion (IsOnOwnWay keys keys_root numbers numbers_root) xs
      → AllByRecursion (IsOnOwnWay keys keys_root numbers numbers_root) zs
  all_own [] [] [] first second own = tt
  all_own [] [] (z ∷ zs) first second own = absurd second
  all_own [] (y ∷ ys) zs first second own = absurd first
  all_own (x ∷ xs) [] zs first second own = absurd first
  all_own (x ∷ xs) (y ∷ ys) [] first second own = absurd second
  all_own (x ∷ xs) (y ∷ ys) (z ∷ zs) first second own = (both_own x y z first.0 second.0 own.0, all_own xs ys zs first.1 second.1 own.1)

-- the item at a place of a list, whatever stands for one that lacks
pub get_same : (xs : List Line) (at : ℕ) (d e : Line) → at < length xs → get_or xs at d ≡ get_or xs at e
get_same [] at d e low = absurd (omega arith)
get_same (x ∷ xs) zero d e low = refl
get_same (x ∷ xs) (suc at) d e low = get_same xs at d e (omega arith)

-- a list with others after it begins with its items
pub take_first : (xs ys : List Line) (len : ℕ) → length xs ≡ len → take len (xs ++ ys) ≡ xs
take_first [] ys zero e = refl
take_first [] ys (suc len) e = absurd (omega (arith, e))
take_first (x ∷ xs) ys zero e = absurd (omega (arith, e))
take_first (x ∷ xs) ys (suc len) e = ap (λ l. x ∷ l) (take_first xs ys len (omega (arith, e)))

-- what is read early of lines whose paths came to a leaf
module _ {K : Type 0} (arena : Arena K (Vec ℕ)) (in_numbers : Bool) where
  abbrev pub Early : Type 0
  Early = Option (Bor K × Option (Bor (Vec ℕ)))

  -- it is read of this line's leaf
  abbrev pub IsOfLine : Line → Early → Type 0
  IsOfLine line early = IfSome early (λ e. (line.of_number ≡ in_numbers) × IsReadEarly arena line.node e)

  no_more : (lines : List Line) → AreReadEarly arena in_numbers lines []
  no_more [] = tt
  no_more (x ∷ xs) = tt

  pub none_reached : (lines : List Line) (n : ℕ) → AreReadEarly arena in_numbers lines (replicate n None)
  none_reached lines zero = no_more lines
  none_reached [] (suc n) = tt
  none_reached (x ∷ xs) (suc n) = (tt, none_reached xs n)

  -- a step from a leaf stays there
  pub step_keeps : (key : List ℕ) (old new : Line) → new.of_number ≡ old.of_number → IsStepAhead arena key (old.node, old.depth) (new.node, new.depth) → (early : Early) → IsOfLine old early → IsOfLine new early
  step_keeps key old new same step None is = tt
  step_keeps key old new same (inl stays) (Some e) (own, (l, held, key_is, value_is)) =
      let node : new.node ≡ old.node = ap (λ (p : Name × ℕ). p.0) stays in
      (same ∙ own, subst (λ n. IsReadEarly arena n e) (sym node) (l, held, key_is, value_is))
  step_keeps key old new same (inr (node, byte, there, goes, meets)) (Some e) (own, (l, held, key_is, value_is)) = absurd (let both : Some (leaf_held l) ≡ Some (inner_held node) = sym held ∙ there in cc)

  -- a line more stepped
  pub step_reached : (lines : List Line) (es : List Early) (at : ℕ) (x d : Line) → at < length lines → ((early : Early) → IsOfLine (get_or lines at d) early → IsOfLine x early) → AreReadEarly arena in_numbers lines es
      → AreReadEarly arena in_numbers (set lines at x) es
  step_reached [] es at x d low keeps all = absurd (omega (arith, low))
  step_reached (l ∷ ls) [] at x d low keeps all = no_more (set (l ∷ ls) at x)
  step_reached (l ∷ ls) (e ∷ es) zero x d low keeps all = (keeps e all.0, all.1)
  step_reached (l ∷ ls) (e ∷ es) (suc at) x d low keeps all = (all.0, step_reached ls es at x d (omega (arith, low)) keeps all.1)

  -- and came to a leaf
  pub leaf_reached : (lines : List Line) (es : List Early) (at : ℕ) (x : Line) (e : Early) → at < length lines → IsOfLine x e → AreReadEarly arena in_numbers lines es → AreReadEarly arena in_numbers (set lines at x) (set es at e)
  leaf_reached [] es at x e low is all = absurd (omega (arith, low))
  leaf_reached (l ∷ ls) [] at x e low is all = no_more (set (l ∷ ls) at x)
  leaf_reached (l ∷ ls) (f ∷ es) zero x e low is all = (is, all.1)
  leaf_reached (l ∷ ls) (f ∷ es) (suc at) x e low is all = (all.0, leaf_reached ls es at x e (omega (arith, low)) is all.1)

  pub reached_at : (lines : List Line) (es : List Early) (at : ℕ) (d : Line) (f : Early) → at < length lines → at < length es → AreReadEarly arena in_numbers lines es → IsOfLine (get_or lines at d) (get_or es at f)
  reached_at [] es at d f low fits all = absurd (omega (arith, low))
  reached_at (l ∷ ls) [] at d f low fits all = absurd (omega (arith, fits))
  reached_at (l ∷ ls) (e ∷ es) zero d f low fits all = all.0
  reached_at (l ∷ ls) (e ∷ es) (suc at) d f low fits all = reached_at ls es at d f (omega (arith, low)) (omega (arith, fits)) all.1

  -- a line that is told more stays where it is
  pub same_keeps : (old new : Line) → new.of_number ≡ old.of_number → new.node ≡ old.node → (early : Early) → IsOfLine old early → IsOfLine new early
  same_keeps old new same node None is = tt
  same_keeps old new same node (Some e) (own, is) = (same ∙ own, subst (λ n. IsReadEarly arena n e) (sym node) is)

-- whether a look-up finds a key, told of its command and of both keys as they were read
pub finds_told : (o p : Option Command) (full key stored bytes : List ℕ) (b : Bool) → o ≡ p → full ≡ key → stored ≡ bytes → finds_key o full stored ≡ b → finds_key p key bytes ≡ b
finds_told o p full key stored bytes b spelled same same_key told =
    subst (λ c. finds_key c key bytes ≡ b) spelled (subst (λ k. finds_key o k bytes ≡ b) same (subst (λ k. finds_key o full k ≡ b) same_key told))
