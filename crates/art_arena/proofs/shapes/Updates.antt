-- What an edit of an arena does to its cells and to the links of its leaves.
use Rattle.std.proofs.Common.{◌≡◌, ◌≢◌, ℕ, Option, sym, ap}
use Rattle.art_nodes.proofs.Common.{Name}
use Rattle.art_nodes.specs.declared.kind.NodeType.TheVariants.{Leaf}
use Rattle.art_arena.proofs.Terms.{leaf_name, UpdatesAt, Arena, Held, held_at, cell_of, links_of, node_at, links_at, SameNodes}

module _ {K V : Type 0} where
  -- a node that is written is a cell that is written
  pub nodes-update : (old new : Arena K V) (n : Name) (held : Option (Held K V)) → UpdatesAt (held_at old) (held_at new) n held → UpdatesAt (node_at old) (node_at new) n (cell_of held)
  nodes-update old new n held update = record { changed = ap cell_of update.changed; others = λ m apart. ap cell_of (update.others m apart) }

  -- a leaf that is written has its links written
  pub links-update : (old new : Arena K V) (slot : ℕ) (held : Option (Held K V)) → UpdatesAt (held_at old) (held_at new) (leaf_name slot) held → UpdatesAt (links_at old) (links_at new) slot (links_of held)
  links-update old new slot held update = record {
    changed = ap links_of update.changed;
    others = λ m apart. ap links_of (update.others (leaf_name m) (λ e. apart (ap (λ (n : Name). n.slot) e)));
  }

  -- a write of an inner node leaves all links
  pub links-kept : (old new : Arena K V) (n : Name) (held : Option (Held K V)) → UpdatesAt (held_at old) (held_at new) n held → n.kind ≢ Leaf → (slot : ℕ) → links_at new slot ≡ links_at old slot
  links-kept old new n held update inner slot = ap links_of (update.others (leaf_name slot) (λ e. inner (sym (ap (λ (m : Name). m.kind) e))))

  pub nodes-same : (old new : Arena K V) → SameNodes old new → (n : Name) → node_at new n ≡ node_at old n
  nodes-same old new same n = ap cell_of (same n)

  pub links-same : (old new : Arena K V) → SameNodes old new → (slot : ℕ) → links_at new slot ≡ links_at old slot
  links-same old new same slot = ap links_of (same (leaf_name slot))
