-- The pair of the longest marked key, told by the leaves.
use Rattle.std.proofs.Common.{◌≡◌, ℕ, zero, suc, Bool, bytes_eq, List, length, Option, Some, None, refl, sym, subst, ◌∙◌}
use Rattle.std.specs.Map.{lookup_entry}
use Rattle.art_nodes.proofs.Common.{Name}
use Rattle.art_arena.proofs.Common.{Arena, node_at, Shape, Stores, leaf_where, leaves, nodes-subtree}
use Rattle.art_operations.proofs.Common.{HasPairs}
use Rattle.art_operations.proofs.Terms.{longest_marked, marked_key, option_or}
use Rattle.art_map.proofs.Terms.{Contents, contents, found_pair, has_bytes, marked_pair, pairs_from, IsAt, IsFound, IsMap}
use Rattle.art_map.proofs.Maps.{found}

module _ {K V : Type 0} (m : Contents K V) where
  first-at : (want other : Option (K × V)) (leaf beside : Option ℕ) → IsAt want m leaf → IsAt other m beside → IsAt (option_or want other) m (option_or leaf beside)
  first-at want other None beside none rest = rw none rest
  first-at want other (Some slot) beside (p, has, is) rest = (p, has, rw is refl)

  -- what is found for each key is found for the longest
  longest-at : (find : List ℕ → Option ℕ) (want : List ℕ → Option (K × V)) → ((key : List ℕ) → IsAt (want key) m (find key)) → (query : List ℕ) (mark most : ℕ)
      → IsAt (longest_marked want query mark most) m (longest_marked find query mark most)
  longest-at find want each query mark zero = each (marked_key query mark 0)
  longest-at find want each query mark (suc most) =
      first-at (want (marked_key query mark (suc most))) (longest_marked want query mark most) (find (marked_key query mark (suc most))) (longest_marked find query mark most)
      (each (marked_key query mark (suc most))) (longest-at find want each query mark most)

  found-is-at : (test : K → Bool) (leaf : Option ℕ) (want : Option (K × V)) → want ≡ lookup_entry test m.pairs → IsFound test m leaf → IsAt want m leaf
  found-is-at test None want is none = is ∙ none
  found-is-at test (Some slot) want is (p, has, e, w) = (p, has, is ∙ e)

module _ {K V : Type 0} (bytes : K → List ℕ) (is_key : K → Type 0) (P : ℕ) (old : Arena K V) where
  -- what a search for it finds
  pub marked-up : (root : Option Name) (top : Name) → root ≡ Some top → IsMap bytes is_key P old root → (query : List ℕ) (mark : ℕ) (result : Option ℕ)
      → ((s : Shape K V) → Stores bytes P old top s → result ≡ longest_marked (λ key. leaf_where bytes (λ k. bytes_eq k key) (leaves s)) query mark (length query))
      → IsAt (marked_pair bytes query mark (pairs_from old root)) (contents old root) result
  marked-up root top is map query mark result answer =
      let has : HasPairs bytes P old (Some top) (pairs_from old root) = subst (λ r. HasPairs bytes P old r (pairs_from old root)) is map.has in
      let s = has.0 in
      let find = λ (key : List ℕ). leaf_where bytes (λ k. bytes_eq k key) (leaves s) in
      subst (λ r. IsAt (marked_pair bytes query mark (pairs_from old r)) (contents old r) result) (sym is)
      (subst (IsAt (marked_pair bytes query mark (pairs_from old (Some top))) (contents old (Some top))) (sym (answer s (nodes-subtree bytes P (node_at old) top s has.1.nodes)))
      (longest-at (contents old (Some top)) find (λ key. found_pair bytes key (pairs_from old (Some top)))
      (λ key. found-is-at (contents old (Some top)) (has_bytes bytes key) (find key) (found_pair bytes key (pairs_from old (Some top))) refl (found bytes is_key P old top (λ k. bytes_eq k key) s has.1 (find key) refl))
      query mark (length query)))

-- of no pairs none is found
pub marked-nowhere : {K V : Type 0} (bytes : K → List ℕ) (old : Arena K V) (root : Option Name) → root ≡ None → (query : List ℕ) (mark : ℕ) → marked_pair bytes query mark (pairs_from old root) ≡ None
marked-nowhere {K} {V} bytes old root none query mark = subst (λ r. marked_pair bytes query mark (pairs_from old r) ≡ None) (sym none) (empty (length query))
  where
    empty : (most : ℕ) → longest_marked (λ key. found_pair bytes key (pairs_from old None)) query mark most ≡ None
    empty zero = refl
    empty (suc most) = empty most
