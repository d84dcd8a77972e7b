-- The parent of a place gets another child there.
use Rattle.std.proofs.Common.{◌≡◌, ◌≢◌, ℕ, List, [], ◌∷◌, ◌++◌, take, Option, None, Some, IsSome, refl, sym, ap, subst, ◌∙◌}
use Rattle.art_nodes.proofs.Common.{InnerNode, child_at, Name}
use Rattle.art_nodes.specs.declared.kind.NodeType.TheVariants.{Leaf}
use Rattle.art_arena.proofs.Common.{Arena, inner_held, held_at, node_at, Cell, Holds, UpdatesAt, Frame, root_of, cells_before, children_at, Step, steps_to, repointed, child_at-frame, frame_node, frame-there, frame-inner, repoint, inner_of, nodes-update}
use Rattle.art_operations.proofs.Terms.{IsLastOf, StandsAround}

-- the last step that is told is one
pub last-is : (steps : List Step) (last : Option (Name × ℕ)) (step : Name × ℕ) → last ≡ Some step → IsLastOf steps last → (more : List Step) × (steps ≡ record { node = step.0; byte = step.1 } ∷ more)
last-is steps None step e is = absurd (cc)
last-is steps (Some other) step e is = subst (λ (s : Name × ℕ). (more : List Step) × (steps ≡ record { node = s.0; byte = s.1 } ∷ more)) (let f : Some other ≡ Some step = e in cc) is

module _ {K V : Type 0} (bytes : K → List ℕ) (P : ℕ) where
  -- at the root there is no parent
  pub at_top : (at : Name → Option (Cell K V)) (root : Name) (ctx : List (Frame K V)) (n m : Name) (rest : List (Name × Cell K V)) (last : List Step) → StandsAround bytes P at root ctx n rest last → last ≡ []
      → Holds at (cells_before P ctx m ++ rest) × (root_of ctx m ≡ m)
  at_top at root [] n m rest last stands top = (stands.holds, refl)
  at_top at root (f ∷ outer) n m rest last stands top = absurd (let e = stands.steps ∙ top in cc)

  first_step : (f : Frame K V) (outer : List (Frame K V)) (step : Step) (more : List Step) → take 2 (steps_to (f ∷ outer)) ≡ step ∷ more → (f.name ≡ step.node) × (f.byte ≡ step.byte)
  first_step f outer step more e =
      let first : ◌≡◌ {A = Step} (record { node = f.name; byte = f.byte }) step = cc in
      (ap (λ (s : Step). s.node) first, ap (λ (s : Step). s.byte) first)

  -- the parent of a place
  pub record ParentThere (arena : Arena K V) (name : Name) (byte : ℕ) : Type 0 where
    pub node : InnerNode
    pub there : held_at arena name ≡ Some (inner_held node)
    pub child : IsSome (child_at node.children byte)
    pub inner : name.kind ≢ Leaf

  pub parent_there : (arena : Arena K V) (root : Name) (ctx : List (Frame K V)) (n : Name) (rest : List (Name × Cell K V)) (last : List Step) → StandsAround bytes P (node_at arena) root ctx n rest last
      → (step : Step) (more : List Step) → last ≡ step ∷ more → ParentThere arena step.node step.byte
  parent_there arena root [] n rest last stands step more is = absurd (let e = stands.steps ∙ is in cc)
  parent_there arena root (f ∷ outer) n rest last stands step more is =
      let p = first_step f outer step more (stands.steps ∙ is) in
      let there = frame-there P f outer n rest stands.around.2 (node_at arena) stands.holds in
      let child : child_at (frame_node P f n).children f.byte ≡ Some n = child_at-frame f.byte n f.before (children_at f.after) stands.around.2 in
      let found : child_at (frame_node P f n).children step.byte ≡ Some n = subst (λ b. child_at (frame_node P f n).children b ≡ Some n) p.1 child in
      record {
        node = frame_node P f n;
        there = subst (λ m. held_at arena m ≡ Some (inner_held (frame_node P f n))) p.0 (inner_of (held_at arena f.name) (frame_node P f n) there);
        child = rw found refl;
        inner = λ e. frame-inner bytes f outer stands.around (ap (λ (m : Name). m.kind) p.0 ∙ e);
      }

  -- the parent has the new child
  pub new_child : (old new : Arena K V) (root : Name) (ctx : List (Frame K V)) (n m : Name) (rest : List (Name × Cell K V)) (last : List Step) → StandsAround bytes P (node_at old) root ctx n rest last
      → (step : Step) (more : List Step) → last ≡ step ∷ more
      → ((node : InnerNode) → held_at old step.node ≡ Some (inner_held node) → UpdatesAt (held_at old) (held_at new) step.node (Some (inner_held (repointed node step.byte m))))
      → Holds (node_at new) (cells_before P ctx m ++ rest) × (root_of ctx m ≡ root)
  new_child old new root [] n m rest last stands step more is wrote = absurd (let e = stands.steps ∙ is in cc)
  new_child old new root (f ∷ outer) n m rest last stands step more is wrote =
      let p = first_step f outer step more (stands.steps ∙ is) in
      let node = frame_node P f n in
      let there = inner_of (held_at old f.name) node (frame-there P f outer n rest stands.around.2 (node_at old) stands.holds) in
      let at_name = subst (λ name. (node : InnerNode) → held_at old name ≡ Some (inner_held node) → UpdatesAt (held_at old) (held_at new) name (Some (inner_held (repointed node step.byte m)))) (sym p.0) wrote in
      let update : UpdatesAt (held_at old) (held_at new) f.name (Some (inner_held (repointed node f.byte m))) =
      subst (λ b. UpdatesAt (held_at old) (held_at new) f.name (Some (inner_held (repointed node b m)))) (sym p.1) (at_name node there) in
      (repoint P f outer n rest stands.around.2 (node_at old) stands.holds (node_at new) m (nodes-update old new f.name (Some (inner_held (repointed node f.byte m))) update), stands.named)
