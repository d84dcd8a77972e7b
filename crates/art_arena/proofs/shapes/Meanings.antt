-- From what a name means to what is held below it, and back.
use Rattle.std.proofs.Common.{◌≡◌, ℕ, ◌≤◌, cond, List, [], Option, Some, None, is_some, arith, ◌+◌, sym, ◌∙◌}
use Rattle.art_nodes.proofs.Common.{Name}
use Rattle.art_arena.proofs.Terms.{Tree, Cell, copies, Shape, cells, Links, IsPart, IsSubtree, IsNodesBeside, Means, MeansBeside, AllIsMeant}
use Rattle.art_arena.proofs.shapes.CellLists.{copies-append}
use Rattle.art_arena.proofs.tree.Order.{all_right}

module _ {K V : Type 0} (bytes : K → List ℕ) (P : ℕ) (at : Name → Option (Cell K V)) (root : Name) where
  pub nodes-part : {rest : List (Name × Cell K V)} (s : Shape K V) → IsNodesBeside bytes P at root rest s → IsPart P at root s
  nodes-part {rest} s nodes = record {
    named = nodes.named;
    held = all_right (λ (c : Name × Cell K V). at c.0 ≡ Some c.1) rest (cells P s) nodes.holds.held;
    once = λ n. at_most (at n) (copies n rest) (copies n (cells P s)) (sym (copies-append n rest (cells P s)) ∙ nodes.holds.once n);
  }
    where
      at_most : (o : Option (Cell K V)) (m n : ℕ) → m + n ≡ cond (is_some o) 1 0 → n ≤ 1
      at_most None m n e = omega arith
      at_most (Some c) m n e = omega arith

  pub nodes-subtree : {rest : List (Name × Cell K V)} (s : Shape K V) → IsNodesBeside bytes P at root rest s → IsSubtree bytes P at root [] s
  nodes-subtree s nodes = record { part = nodes-part s nodes; under = nodes.under }

  pub means-subtree : (links : ℕ → Option Links) (t : Tree (K × V)) (m : Means bytes P at root links t) → IsSubtree bytes P at root [] m.shape
  means-subtree links t m = record { part = m.part; under = m.under }

  pub all-means : {rest : List (Name × Cell K V)} (links : ℕ → Option Links) (t : Tree (K × V)) → MeansBeside bytes P at root links rest t → Means bytes P at root links t
  all-means links t m = record {
    shape = m.shape;
    part = nodes-part m.shape m.is_tree.nodes;
    under = m.is_tree.nodes.under;
    linked = m.is_tree.linked;
    erased = m.erased;
  }

pub all_is_meant : (K V : Type 0) → AllIsMeant K V
all_is_meant K V bytes P at root links t rest m = all-means bytes P at root links t m
