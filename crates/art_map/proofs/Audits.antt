-- What the checker counts of a map's tree is what the keys tell, and no fault stands in it.
use Rattle.std.proofs.Common.{◌≡◌, ◌≢◌, ℕ, Bool, List, [], length, Option, Some, None, MatchOption, refl, sym, ap, ◌∙◌}
use Rattle.art_nodes.proofs.Common.{Name}
use Rattle.art_nodes.specs.declared.kind.NodeType.TheVariants.{Node4, Node16, Node32, Node48, Node256}
use Rattle.art_arena.proofs.Common.{Arena, node_at, links_at, Shape, erase, key_of, IsMeant, StoresOnly, fronts_with, Tree, items, nodes_with, canonical-erase, items-erase, all-means, kinds_are_fronts}
use Rattle.art_arena.proofs.shapes.OneMeaning.{one_meaning}
use Rattle.art_operations.proofs.Common.{HasPairs}
use Rattle.art_walks.proofs.Common.{Stands, AreCounts, in_range, no_nodes}
use Rattle.art_walks.specs.declared.malformed.MalformedTreeError.{MalformedTreeError}
use Rattle.art_walks.specs.declared.malformed.MalformedTreeError.TheVariants.{EmptyTreeWithLen, Memory}
use Rattle.art_walks.specs.declared.stats.WellFormedTreeStats.{WellFormedTreeStats}
use Rattle.art_walks.proofs.Ways.{fault_means_no_tree}
use Rattle.art_map.proofs.Terms.{audit_of}

-- counts are told apart by their numbers
abbrev stats_of : ℕ → ℕ → ℕ → ℕ → ℕ → ℕ → WellFormedTreeStats
stats_of a b c d e f = record { num_node4 = a; num_node16 = b; num_node32 = c; num_node48 = d; num_node256 = e; num_leaf = f }

same-stats : (a b c d e f g h i j k l : ℕ) → a ≡ g → b ≡ h → c ≡ i → d ≡ j → e ≡ k → f ≡ l → stats_of a b c d e f ≡ stats_of g h i j k l
same-stats a b c d e f g h i j k l ag bh ci dj ek fl = rw (ag, bh, ci, dj, ek, fl) refl

module _ {K V : Type 0} (bytes : K → List ℕ) (P : ℕ) (arena : Arena K V) where
  stored-means : (root : Name) (s : Shape K V) → StoresOnly bytes P arena root s → IsMeant bytes P arena root (erase s)
  stored-means root s tree = all-means bytes P (node_at arena) root (links_at arena) (erase s) (record { shape = s; is_tree = tree; erased = refl })

  module _ (pairs : List (K × V)) where
    pub no-fault : (root : Option Name) → HasPairs bytes P arena root pairs → (len : ℕ) → len ≡ length pairs → (fault : MalformedTreeError)
        → MatchOption root ((len ≢ 0) × (fault ≡ EmptyTreeWithLen)) (λ r. Stands bytes P (node_at arena) (links_at arena) r fault) → fault ≡ Memory
    no-fault None has len is fault stands = absurd (stands.0 (is ∙ ap length has.0))
    no-fault (Some root) (s, tree, e) len is fault stands =
        fault_means_no_tree K V bytes P (node_at arena) (links_at arena) root (erase s) (stored-means root s tree) fault stands

    pub counted : (root : Option Name) → HasPairs bytes P arena root pairs → (len : ℕ) (stats : WellFormedTreeStats)
        → MatchOption root ((len ≡ 0) × (stats ≡ no_nodes)) (λ r. (t : Tree (K × V)) × IsMeant bytes P arena r t × AreCounts stats t) → stats ≡ audit_of (key_of bytes) pairs
    counted None has len stats counts = counts.1 ∙ ap (audit_of (key_of bytes)) (sym has.0)
    counted (Some root) (s, tree, e) len stats (t, meant, counts) =
        let same : t ≡ erase s = one_meaning K V bytes P (node_at arena) root (links_at arena) t (erase s) meant (stored-means root s tree) in
        same-stats _ _ _ _ _ _ _ _ _ _ _ _ (counts.nodes4 ∙ told t same (in_range Node4)) (counts.nodes16 ∙ told t same (in_range Node16)) (counts.nodes32 ∙ told t same (in_range Node32)) (counts.nodes48 ∙ told t same (in_range Node48))
        (counts.nodes256 ∙ told t same (in_range Node256)) (counts.leaves ∙ ap (λ u. length (items u)) same ∙ ap length (items-erase s ∙ e))
      where
        told : (t : Tree (K × V)) → t ≡ erase s → (test : ℕ → Bool) → nodes_with test t ≡ fronts_with test (key_of bytes) pairs
        told t same test =
            ap (nodes_with test) same ∙ kinds_are_fronts (key_of bytes) test (erase s) (canonical-erase bytes [] s tree.nodes.under)
            ∙ ap (fronts_with test (key_of bytes)) (items-erase s ∙ e)
