-- Where bytes lead down from the root of a canonical shape: to its parts, and different bytes to different ones. So no fault stands there.
use Rattle.std.proofs.Common.{◌≡◌, ◌≢◌, ◌⊎◌, ℕ, ◌+◌, ◌<◌, ◌≤◌, cond, List, [], ◌∷◌, ◌++◌, length, Option, Some, None, inl, inr, refl, sym, ap, ap₂, subst, ◌∙◌, arith, true}
use Rattle.std.proofs.lemmas.Bool.Decides.{eqb_tells}
use Rattle.art_nodes.proofs.Common.{Name, InnerNode, child_at}
use Rattle.art_arena.proofs.Common.{Cell, pair, branches, copies, same_name, leaf_name, IsKindOf, IsUnder, AreUnder, AreHeld, cell_children, Tree, Shape, Branches, leaf_at, inner_at, no_branch, branch, name_of, children_at, join, cells, cells_in, node_of, Links, IsSubtree, Means}
use Rattle.art_arena.proofs.Common.{copies-append, same_name-self, cells_in-join, length-children, nodes_below, nodes_below-held, means-subtree, subtree-branch}
use Rattle.art_walks.proofs.Terms.{HasKinds, HaveKinds, MalformedTreeError, DeadName, LoopFound, WrongChildrenCount, PrefixMismatch, LeafSiblingWrongOrder, WrongSiblingLinks, EmptyTreeWithLen, Memory, child_in, onward, led_to, HasLoop, Stands, FaultMeansNoTree}

pub onward-some : (next : Name → Option Name) (o : Option Name) (m : Name) → onward next o ≡ Some m → (c : Name) × (o ≡ Some c) × (next c ≡ Some m)
onward-some next None m e = absurd (cc)
onward-some next (Some c) m e = (c, refl, e)

module _ {K V : Type 0} where
  -- a branch under this byte to a child of this name
  pub record HasBranch (kids : Branches K V) (byte : ℕ) (c : Name) : Type 0 where
    pub before : Branches K V
    pub child : Shape K V
    pub after : Branches K V
    pub whole : kids ≡ join before (branch byte child after)
    pub named : name_of child ≡ c

  pub branch_of : (kids : Branches K V) (byte : ℕ) (c : Name) → child_at (children_at kids) byte ≡ Some c → HasBranch kids byte c
  branch_of no_branch byte c e = absurd (cc)
  branch_of (branch b s rest) byte c e = elim (eqb_tells b byte) [
    | inl same ↦
        let here : Some (name_of s) ≡ Some c = rw same.0 at e in
        record { before = no_branch; child = s; after = rest; whole = ap (λ x. branch x s rest) same.1; named = (cc) }
    | inr other ↦
        let later = branch_of rest byte c (rw other.0 at e) in
        record { before = branch b s later.before; child = later.child; after = later.after; whole = ap (λ f. branch b s f) later.whole; named = later.named }
  ]

  same_kids : (n : Name) (p q : List ℕ) (f g : Branches K V) → inner_at n p f ≡ inner_at n q g → f ≡ g
  same_kids n p q f g e = cc

  module _ (P : ℕ) (m : Name) where
    pub one_part : (f before : Branches K V) (b : ℕ) (t : Shape K V) (after : Branches K V) → f ≡ join before (branch b t after) → copies m (cells P t) ≤ copies m (cells_in P f)
    one_part f before b t after whole =
        let parts : cells_in P f ≡ cells_in P before ++ (cells P t ++ cells_in P after) = ap (cells_in P) whole ∙ cells_in-join P before (branch b t after) in
        let counted : copies m (cells_in P f) ≡ copies m (cells_in P before) + copies m (cells P t ++ cells_in P after) = ap (copies m) parts ∙ copies-append m (cells_in P before) (cells P t ++ cells_in P after) in
        omega (arith, counted, copies-append m (cells P t) (cells_in P after))

    -- two branches under different bytes are two
    two_parts : (f : Branches K V) (a b : ℕ) (before : Branches K V) (t : Shape K V) (after before' : Branches K V) (u : Shape K V) (after' : Branches K V)
        → f ≡ join before (branch a t after) → f ≡ join before' (branch b u after') → a ≢ b
        → copies m (cells P t) + copies m (cells P u) ≤ copies m (cells_in P f)
    two_parts no_branch a b no_branch t after before' u after' e e' apart = absurd (cc)
    two_parts no_branch a b (branch x s before) t after before' u after' e e' apart = absurd (cc)
    two_parts (branch y r rest) a b no_branch t after no_branch u after' e e' apart = absurd (apart (cc))
    two_parts (branch y r rest) a b no_branch t after (branch x s before') u after' e e' apart =
        let same : r ≡ t = cc in
        let more : rest ≡ join before' (branch b u after') = cc in
        omega (arith, one_part rest before' b u after' more, ap (λ z. copies m (cells P z)) same, copies-append m (cells P r) (cells_in P rest))
    two_parts (branch y r rest) a b (branch x s before) t after no_branch u after' e e' apart =
        let same : r ≡ u = cc in
        let more : rest ≡ join before (branch a t after) = cc in
        omega (arith, one_part rest before a t after more, ap (λ z. copies m (cells P z)) same, copies-append m (cells P r) (cells_in P rest))
    two_parts (branch y r rest) a b (branch x s before) t after (branch x' s' before') u after' e e' apart =
        let more : rest ≡ join before (branch a t after) = cc in
        let more' : rest ≡ join before' (branch b u after') = cc in
        omega (arith, two_parts rest a b before t after before' u after' more more' apart, copies-append m (cells P r) (cells_in P rest))

    here_once : (s : Shape K V) → name_of s ≡ m → 1 ≤ copies m (cells P s)
    here_once (leaf_at slot k v) e =
        let one : ◌≡◌ {A = ℕ} (copies m (cells P (leaf_at slot k v))) (1 + 0) = ap (λ b. cond b 1 0 + 0) (subst (λ q. same_name q (leaf_name slot) ≡ true) e (same_name-self (leaf_name slot))) in
        omega (arith, one)
    here_once (inner_at n prefix kids) e =
        let one : ◌≡◌ {A = ℕ} (copies m (cells P (inner_at n prefix kids))) (1 + copies m (cells_in P kids)) = ap (λ b. cond b 1 0 + copies m (cells_in P kids)) (subst (λ q. same_name q n ≡ true) e (same_name-self n)) in
        omega (arith, one)

module _ {K V : Type 0} (bytes : K → List ℕ) (P : ℕ) (at : Name → Option (Cell K V)) where
  -- the root of a subtree goes on by this byte to this child
  pub record LeadsOn (n : Name) (path : List ℕ) (s : Shape K V) (byte : ℕ) (c : Name) : Type 0 where
    pub prefix : List ℕ
    pub kids : Branches K V
    pub is : s ≡ inner_at n prefix kids
    pub has : HasBranch kids byte c
    pub below : IsSubtree bytes P at c ((path ++ prefix) ++ byte ∷ []) has.child
    pub fewer : length (cells P has.child) < length (cells P s)

  goes_on : (n : Name) (path : List ℕ) (s : Shape K V) → IsSubtree bytes P at n path s → (byte : ℕ) (c : Name) → child_in (at n) byte ≡ Some c → LeadsOn n path s byte c
  goes_on n path (leaf_at slot k v) sub byte c e =
      let there : at n ≡ Some (pair k v) = ap at (sym sub.part.named) ∙ sub.part.held.0 in
      let none : None ≡ Some c = sym (ap (λ o. child_in o byte) there) ∙ e in absurd (cc)
  goes_on n path (inner_at m prefix kids) sub byte c e =
      let there : at n ≡ Some (node_of P prefix (children_at kids)) = ap at (sym sub.part.named) ∙ sub.part.held.0 in
      let found : child_at (children_at kids) byte ≡ Some c = sym (ap (λ o. child_in o byte) there) ∙ e in
      let has = branch_of kids byte c found in
      let below = subtree-branch bytes P at m path prefix kids has.before byte has.child has.after (record { part = record { named = refl; held = sub.part.held; once = sub.part.once }; under = sub.under }) has.whole in
      record {
        prefix = prefix;
        kids = kids;
        is = ap (λ x. inner_at x prefix kids) sub.part.named;
        has = has;
        below = subst (λ x. IsSubtree bytes P at x ((path ++ prefix) ++ byte ∷ []) has.child) has.named below.subtree;
        fewer = below.fewer;
      }

  -- a subtree of the arena below this name, which is a part of a shape
  pub record IsLed (s : Shape K V) (m : Name) : Type 0 where
    pub path : List ℕ
    pub part : Shape K V
    pub subtree : IsSubtree bytes P at m path part
    pub within : length (cells P part) ≤ length (cells P s)
    pub counted : (q : Name) → copies q (cells P part) ≤ copies q (cells P s)

  counted_below : (n : Name) (path : List ℕ) (s : Shape K V) (byte : ℕ) (c : Name) (on : LeadsOn n path s byte c) (q : Name) → copies q (cells P on.has.child) ≤ copies q (cells P s)
  counted_below n path s byte c on q =
      let one = one_part P q on.kids on.has.before byte on.has.child on.has.after on.has.whole in
      let all : copies q (cells P s) ≡ copies q (cells P (inner_at n on.prefix on.kids)) = ap (λ z. copies q (cells P z)) on.is in
      omega (arith, one, all)

  pub led : (way : List ℕ) (n : Name) (path : List ℕ) (s : Shape K V) → IsSubtree bytes P at n path s → (m : Name) → led_to at n way ≡ Some m → IsLed s m
  led [] n path s sub m e =
      let same : n ≡ m = cc in
      record { path = path; part = s; subtree = subst (λ x. IsSubtree bytes P at x path s) same sub; within = omega arith; counted = λ q. omega arith }
  led (byte ∷ way) n path s sub m e =
      let next = onward-some (λ child. led_to at child way) (child_in (at n) byte) m e in
      let on = goes_on n path s sub byte next.0 next.1 in
      let later = led way next.0 _ on.has.child on.below m next.2 in
      record {
        path = later.path;
        part = later.part;
        subtree = later.subtree;
        within = (let a = later.within in let b = on.fewer in omega (arith, a, b));
        counted = λ q. let a = later.counted q in let b = counted_below n path s byte next.0 on q in omega (arith, a, b);
      }

  -- all subtrees below one name have as many nodes
  same_size : (n : Name) (p q : List ℕ) (s t : Shape K V) → IsSubtree bytes P at n p s → IsSubtree bytes P at n q t → length (cells P t) ≤ length (cells P s) → length (cells P t) ≡ length (cells P s)
  same_size n p q s t a b low =
      sym (nodes_below-held P at (length (cells P s)) t b.part.held low)
      ∙ ap (nodes_below (length (cells P s)) at) (b.part.named ∙ sym a.part.named)
      ∙ nodes_below-held P at (length (cells P s)) s a.part.held (omega arith)

  -- a way down doesn't come back
  no_return : (n : Name) (path : List ℕ) (s : Shape K V) → IsSubtree bytes P at n path s → (byte : ℕ) (way : List ℕ) → led_to at n (byte ∷ way) ≡ Some n → ⊥
  no_return n path s sub byte way e =
      let next = onward-some (λ child. led_to at child way) (child_in (at n) byte) n e in
      let on = goes_on n path s sub byte next.0 next.1 in
      let later = led way next.0 _ on.has.child on.below n next.2 in
      let within = later.within in
      let fewer = on.fewer in
      let same = same_size n path later.path s later.part sub later.subtree (omega (arith, within, fewer)) in
      omega (arith, within, fewer, same)

  -- different ways lead to different names
  pub no_loop : (v w : List ℕ) (n : Name) (path : List ℕ) (s : Shape K V) → IsSubtree bytes P at n path s → (m : Name) → led_to at n v ≡ Some m → led_to at n w ≡ Some m → v ≢ w → ⊥
  no_loop [] [] n path s sub m e f apart = apart refl
  no_loop [] (b ∷ w) n path s sub m e f apart = let same : m ≡ n = cc in no_return n path s sub b w (f ∙ ap Some same)
  no_loop (a ∷ v) [] n path s sub m e f apart = let same : m ≡ n = cc in no_return n path s sub a v (e ∙ ap Some same)
  no_loop (a ∷ v) (b ∷ w) n path s sub m e f apart =
      let next = onward-some (λ child. led_to at child v) (child_in (at n) a) m e in
      let next' = onward-some (λ child. led_to at child w) (child_in (at n) b) m f in
      elim (eqb_tells a b) [
        | inl same ↦
            let child : Some next.0 ≡ Some next'.0 = sym next.1 ∙ ap (child_in (at n)) same.1 ∙ next'.1 in
            let one : next.0 ≡ next'.0 = cc in
            let on = goes_on n path s sub a next.0 next.1 in
            no_loop v w next.0 _ on.has.child on.below m next.2 (ap (λ c. led_to at c w) one ∙ next'.2) (λ g. apart (ap₂ (λ x y. x ∷ y) same.1 g))
        | inr other ↦ elsewhere n path s sub m a b next.0 next'.0 (goes_on n path s sub a next.0 next.1) (goes_on n path s sub b next'.0 next'.1) other.1
            (λ path t below. led v next.0 path t below m next.2) (λ path t below. led w next'.0 path t below m next'.2)
      ]
    where
      -- one name below two different children
      elsewhere : (n : Name) (path : List ℕ) (s : Shape K V) → IsSubtree bytes P at n path s → (m : Name) (a b : ℕ) (c d : Name) → LeadsOn n path s a c → LeadsOn n path s b d → a ≢ b
          → ((path : List ℕ) (t : Shape K V) → IsSubtree bytes P at c path t → IsLed t m) → ((path : List ℕ) (t : Shape K V) → IsSubtree bytes P at d path t → IsLed t m) → ⊥
      elsewhere n path s sub m a b c d on on' apart lead lead' =
          let l = lead _ on.has.child on.below in
          let l' = lead' _ on'.has.child on'.below in
          let kids : on'.kids ≡ on.kids = same_kids n on'.prefix on.prefix on'.kids on.kids (sym on'.is ∙ on.is) in
          let both = two_parts P m on.kids a b on.has.before on.has.child on.has.after on'.has.before on'.has.child on'.has.after on.has.whole (sym kids ∙ on'.has.whole) apart in
          let once = sub.part.once m in
          let all : copies m (cells P s) ≡ copies m (cells P (inner_at n on.prefix on.kids)) = ap (λ z. copies m (cells P z)) on.is in
          omega (arith, both, once, all, here_once P m l.part l.subtree.part.named, here_once P m l'.part l'.subtree.part.named, l.counted m, l'.counted m)

  -- each node of a canonical shape is of its kind
  mutual
    pub kinds-under : (path : List ℕ) (s : Shape K V) → IsUnder bytes path s → HasKinds s
    kinds-under path (leaf_at slot k v) under = tt
    kinds-under path (inner_at n prefix kids) under = (under.0, kinds-under_in (path ++ prefix) 0 kids under.1)

    kinds-under_in : (path : List ℕ) (low : ℕ) (kids : Branches K V) → AreUnder bytes path low kids → HaveKinds kids
    kinds-under_in path low no_branch under = tt
    kinds-under_in path low (branch b s rest) under = (kinds-under (path ++ b ∷ []) s under.1, kinds-under_in path (b + 1) rest under.2)

  -- and so is what is held at the root of such a shape
  pub right_count : (m : Name) (t : Shape K V) → name_of t ≡ m → AreHeld at (cells P t) → HasKinds t → (node : InnerNode) → at m ≡ Some (branches node) → IsKindOf m.kind (length node.children)
  right_count m (leaf_at slot k v) is held kinds node e =
      let both : Some (pair k v) ≡ Some (branches node) = sym (ap at (sym is) ∙ held.0) ∙ e in absurd (cc)
  right_count m (inner_at n prefix kids) is held kinds node e =
      let both : Some (node_of P prefix (children_at kids)) ≡ Some (branches node) = sym (ap at (sym is) ∙ held.0) ∙ e in
      let one : ◌≡◌ {A = Cell K V} (node_of P prefix (children_at kids)) (branches node) = cc in
      let same : children_at kids ≡ node.children = ap cell_children one in
      subst (λ (x : Name). IsKindOf x.kind (length node.children)) is (subst (IsKindOf n.kind) (sym (length-children kids) ∙ ap length same) kinds.0)

  pub held_at_root : (n : Name) (path : List ℕ) (s : Shape K V) → IsSubtree bytes P at n path s → at n ≡ None → ⊥
  held_at_root n path (leaf_at slot k v) sub dead = let there = sym dead ∙ ap at (sym sub.part.named) ∙ sub.part.held.0 in cc
  held_at_root n path (inner_at m prefix kids) sub dead = let there = sym dead ∙ ap at (sym sub.part.named) ∙ sub.part.held.0 in cc

  -- a way goes on by an edge
  onward-twice : (f g h : Name → Option Name) → ((c : Name) → f c ≡ onward h (g c)) → (o : Option Name) → onward f o ≡ onward h (onward g o)
  onward-twice f g h same None = refl
  onward-twice f g h same (Some c) = same c

  onward-itself : (o : Option Name) → onward (λ c. Some c) o ≡ o
  onward-itself None = refl
  onward-itself (Some c) = refl

  led_to-more : (v : List ℕ) (n : Name) (b : ℕ) → led_to at n (v ++ b ∷ []) ≡ onward (λ m. child_in (at m) b) (led_to at n v)
  led_to-more [] n b = onward-itself (child_in (at n) b)
  led_to-more (a ∷ v) n b =
      onward-twice (λ c. led_to at c (v ++ b ∷ [])) (λ c. led_to at c v) (λ m. child_in (at m) b) (λ c. led_to-more v c b) (child_in (at n) a)

  pub led_to-edge : (root : Name) (v : List ℕ) (p : Name) (a : ℕ) (c : Name) → led_to at root v ≡ Some p → child_in (at p) a ≡ Some c → led_to at root (v ++ a ∷ []) ≡ Some c
  led_to-edge root v p a c e f = led_to-more v root a ∙ ap (onward (λ m. child_in (at m) a)) e ∙ f

  same_ways : (v w : List ℕ) (a b : ℕ) → v ++ a ∷ [] ≡ w ++ b ∷ [] → (v ≡ w) × (a ≡ b)
  same_ways [] [] a b e = (refl, (cc))
  same_ways [] (y ∷ []) a b e = absurd (cc)
  same_ways [] (y ∷ z ∷ w) a b e = absurd (cc)
  same_ways (x ∷ []) [] a b e = absurd (cc)
  same_ways (x ∷ z ∷ v) [] a b e = absurd (cc)
  same_ways (x ∷ v) (y ∷ w) a b e =
      let first : x ≡ y = cc in
      let rest : v ++ a ∷ [] ≡ w ++ b ∷ [] = cc in
      let later = same_ways v w a b rest in (ap₂ (λ z zs. z ∷ zs) first later.0, later.1)

  -- what a check finds when it meets a name again: two edges to it, or one to the root
  pub loop_of_edges : (links_of : ℕ → Option Links) (root : Name) (v w : List ℕ) (p q : Name) (a b : ℕ) (c : Name) → led_to at root v ≡ Some p → led_to at root w ≡ Some q
      → child_in (at p) a ≡ Some c → child_in (at q) b ≡ Some c → (p ≢ q) ⊎ (a ≢ b) → HasLoop bytes P at links_of root
  loop_of_edges links_of root v w p q a b c to_p to_q at_p at_q apart = record {
    way = v ++ a ∷ [];
    other = w ++ b ∷ [];
    name = c;
    leads = led_to-edge root v p a c to_p at_p;
    leads_too = led_to-edge root w q b c to_q at_q;
    apart = λ e.
        let same = same_ways v w a b e in
        let both : Some p ≡ Some q = sym to_p ∙ ap (led_to at root) same.0 ∙ to_q in
        let one : p ≡ q = cc in
        elim apart [ inl other ↦ other one | inr other ↦ other same.1 ];
  }

  pub loop_of_root : (links_of : ℕ → Option Links) (root : Name) (v : List ℕ) (p : Name) (a : ℕ) → led_to at root v ≡ Some p → child_in (at p) a ≡ Some root → HasLoop bytes P at links_of root
  loop_of_root links_of root v p a to_p at_p = record {
    way = v ++ a ∷ [];
    other = [];
    name = root;
    leads = led_to-edge root v p a root to_p at_p;
    leads_too = refl;
    apart = not_empty v a;
  }
    where
      not_empty : (v : List ℕ) (a : ℕ) → v ++ a ∷ [] ≢ []
      not_empty [] a e = cc
      not_empty (x ∷ v) a e = cc

  module _ (links_of : ℕ → Option Links) (root : Name) (tree : Tree (K × V)) (means : Means bytes P at root links_of tree) where
    abbrev sub : IsSubtree bytes P at root [] means.shape
    sub = means-subtree bytes P at root links_of tree means

    excluded : (fault : MalformedTreeError) → Stands bytes P at links_of root fault → fault ≡ Memory
    excluded DeadName h = let l = led h.way root [] means.shape sub h.name h.leads in absurd (held_at_root h.name l.path l.part l.subtree h.dead)
    excluded LoopFound h = absurd (no_loop h.way h.other root [] means.shape sub h.name h.leads h.leads_too h.apart)
    excluded WrongChildrenCount h = let l = led h.way root [] means.shape sub h.name h.leads in absurd (h.wrong (right_count h.name l.part l.subtree.part.named l.subtree.part.held (kinds-under l.path l.part l.subtree.under) h.node h.held))
    excluded PrefixMismatch h = absurd (h.none means.shape sub)
    excluded LeafSiblingWrongOrder h = absurd (h.links.none means.shape sub means.linked)
    excluded WrongSiblingLinks h = absurd (h.none means.shape sub means.linked)
    excluded EmptyTreeWithLen h = absurd h
    excluded Memory h = refl

pub fault_means_no_tree : (K V : Type 0) → FaultMeansNoTree K V
fault_means_no_tree K V bytes P at links root t means fault stands = excluded bytes P at links root t means fault stands
