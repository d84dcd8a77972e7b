-- An audit of pairs is one of their records.
use Rattle.std.proofs.Common.{◌≡◌, ℕ, ◌+◌, ◌<◌, ◌≤◌, ◌^◌, arith, List, [], ◌∷◌, ◌++◌, length, map, refl, ap, sym, ◌∙◌, Bool, cond}
use Rattle.std.specs.Prelude.{bytes_eq, count_by, decimal}
use Rattle.std.specs.List.{AllByRecursion, fold}
use Rattle.std.proofs.lemmas.Fmt.{length-decimal-le}
use Rattle.std.proofs.lemmas.List.{length-map}
use Rattle.art_bytes.proofs.Common.{common_prefix}
use Rattle.art_arena.proofs.Common.{distinct, neighbour_fronts, fronts_of, width_of, fronts_with}
use Rattle.art_nodes.specs.declared.kind.NodeType.TheVariants.{Node4, Node16, Node32, Node48, Node256}
use Rattle.art_walks.proofs.Common.{in_range}
use Rattle.art_walks.specs.declared.stats.WellFormedTreeStats.{WellFormedTreeStats}
use Rattle.art_map.proofs.Common.{audit_of}
use Rattle.art_operations.proofs.Common.{width_of-map}
use Rattle.art_lines.proofs.Common.{name, natural, line_of, line_more}
use Rattle.art_engine.proofs.Terms.{full_key_of, number_key_of, count_words, Pair, record_of, IsFull, NumberPair, number_record_of, IsNumberPair}
use Rattle.art_engine.proofs.Changing.{itself, keys_are}
use Rattle.art_engine.proofs.Conflicts.{bytes_of}
use Rattle.art_engine.proofs.NumberPlaces.{number_bytes, number_keys_are}

-- tests that say the same count the same
count_same : (p q : List ℕ → Bool) → ((f : List ℕ) → p f ≡ q f) → (fs : List (List ℕ)) → count_by p fs ≡ count_by q fs
count_same p q same = go 0
  where
    go : (n : ℕ) (fs : List (List ℕ)) → fold (λ a x. a + cond (p x) 1 0) n fs ≡ fold (λ a x. a + cond (q x) 1 0) n fs
    go n [] = refl
    go n (f ∷ fs) = ap (λ b. fold (λ a x. a + cond (p x) 1 0) (n + cond b 1 0) fs) (same f) ∙ go (n + cond (q f) 1 0) fs

-- what is counted is told by the keys alone
module _ {X : Type 0} (key : X → List ℕ) where
  neighbours-map : (xs : List X) → neighbour_fronts key xs ≡ neighbour_fronts itself (map key xs)
  neighbours-map [] = refl
  neighbours-map (x ∷ []) = refl
  neighbours-map (x ∷ y ∷ ys) = ap (λ fs. common_prefix (key x) (key y) ∷ fs) (neighbours-map (y ∷ ys))

  fronts_with-map : (test : ℕ → Bool) (xs : List X) → fronts_with test key xs ≡ fronts_with test itself (map key xs)
  fronts_with-map test xs =
      count_same (λ front. test (width_of key xs front)) (λ front. test (width_of itself (map key xs) front))
      (λ front. ap test (sym (width_of-map key itself front xs))) (fronts_of key xs)
      ∙ ap (λ fs. count_by (λ front. test (width_of itself (map key xs) front)) (distinct bytes_eq fs)) (neighbours-map xs)

  counts-map : (xs : List X) → audit_of key xs ≡ audit_of itself (map key xs)
  counts-map xs = rw (fronts_with-map (in_range Node4) xs, fronts_with-map (in_range Node16) xs, fronts_with-map (in_range Node32) xs, fronts_with-map (in_range Node48) xs, fronts_with-map (in_range Node256) xs, length-map xs key) refl

-- so pairs under full keys count as their records do
pub counts_same : (ps : List Pair) → AllByRecursion IsFull ps → audit_of bytes_of ps ≡ audit_of full_key_of (map record_of ps)
counts_same ps full = counts-map bytes_of ps ∙ ap (audit_of itself) (keys_are ps full) ∙ sym (counts-map full_key_of (map record_of ps))

-- and pairs under numbers
pub number_counts_same : (ns : List NumberPair) → AllByRecursion IsNumberPair ns → audit_of number_bytes ns ≡ audit_of number_key_of (map number_record_of ns)
number_counts_same ns full = counts-map number_bytes ns ∙ ap (audit_of itself) (number_keys_are ns full) ∙ sym (counts-map number_key_of (map number_record_of ns))

-- the line of a tree as the parts that are put one after another
pub count_parts : (tree : List ℕ) (s : WellFormedTreeStats)
    → tree ++ ((32 ∷ decimal s.num_leaf) ++ ((32 ∷ decimal s.num_node4) ++ ((32 ∷ decimal s.num_node16)
    ++ ((32 ∷ decimal s.num_node32) ++ ((32 ∷ decimal s.num_node48) ++ ((32 ∷ decimal s.num_node256) ++ 10 ∷ [])))))) ≡ line_of (count_words tree s)
count_parts tree s =
    let a = natural s.num_leaf in let b = natural s.num_node4 in let c = natural s.num_node16 in let d = natural s.num_node32 in let e = natural s.num_node48 in let f = natural s.num_node256 in
    ap (λ t. tree ++ (32 ∷ (decimal s.num_leaf ++ (32 ∷ (decimal s.num_node4 ++ (32 ∷ (decimal s.num_node16 ++ (32 ∷ (decimal s.num_node32 ++ (32 ∷ t)))))))))) (line_more e f [])
    ∙ ap (λ t. tree ++ (32 ∷ (decimal s.num_leaf ++ (32 ∷ (decimal s.num_node4 ++ (32 ∷ (decimal s.num_node16 ++ (32 ∷ t)))))))) (line_more d e (f ∷ []))
    ∙ ap (λ t. tree ++ (32 ∷ (decimal s.num_leaf ++ (32 ∷ (decimal s.num_node4 ++ (32 ∷ t)))))) (line_more c d (e ∷ f ∷ []))
    ∙ ap (λ t. tree ++ (32 ∷ (decimal s.num_leaf ++ (32 ∷ t)))) (line_more b c (d ∷ e ∷ f ∷ []))
    ∙ ap (λ t. tree ++ (32 ∷ t)) (line_more a b (c ∷ d ∷ e ∷ f ∷ []))
    ∙ line_more (name tree) a (b ∷ c ∷ d ∷ e ∷ f ∷ [])

-- a count has twenty digits at most
pub count_short : (count : ℕ) → count < 2 ^ 64 → length (decimal count) ≤ 20
count_short count small = length-decimal-le 20 count (omega arith) (omega arith) small
