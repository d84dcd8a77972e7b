-- What is told of a result, once it is known which it is, and of the room for nodes.
use Rattle.std.proofs.Common.{◌≡◌, ℕ, ◌+◌, zero, suc, Bool, true, false, Option, Some, None, subst, arith}
use Rattle.std.specs.Prelude.{IfNone, OnSome}
use Rattle.art_arena.specs.arena.Arena.{Arena, HasRoom, KeepsRoomOf, UsesRoom}
use Rattle.art_nodes.specs.declared.kind.NodeType.TheVariants.{Node4, Node16, Node32, Node48, Node256, Leaf}
use Rattle.art_c.specs.Walks.{words_code}
use Rattle.art_c.specs.declared.code.Code.TheVariants.{NoMemory}

pub of-some : {A X : Type 0} (o : Option A) (a : A) → o ≡ Some a → OnSome o X → X
of-some {A} {X} o a e h = subst (λ (z : Option A). OnSome z X) e h

pub of-none : {A X : Type 0} (o : Option A) → o ≡ None → IfNone o X → X
of-none {A} {X} o e h = subst (λ (z : Option A). IfNone z X) e h

-- what would make a failure a success is not so
pub not-ok : {X : Type 0} → (X → false ≡ true) → X → ⊥
not-ok f x = let h : false ≡ true = f x in absurd (cc)

module _ {K V : Type 0} (old now new : Arena K V) where
  -- what stays of each kind stays
  pub kept-room : KeepsRoomOf old new → (n : ℕ) → HasRoom old n → HasRoom new n
  kept-room kept n has = record {
    leaves = kept Leaf n has.leaves;
    nodes4 = kept Node4 n has.nodes4;
    nodes16 = kept Node16 n has.nodes16;
    nodes32 = kept Node32 n has.nodes32;
    nodes48 = kept Node48 n has.nodes48;
    nodes256 = kept Node256 n has.nodes256;
  }

  -- nothing is used at first, and then one more
  pub none-used : UsesRoom 0 old old
  none-used n has = let e : n + 0 ≡ n = omega arith in subst (λ m. HasRoom old m) e has

  pub one-used : (count : ℕ) → UsesRoom count old now → UsesRoom 1 now new → UsesRoom (count + 1) old new
  one-used count used one n has =
      let e : n + (count + 1) ≡ n + 1 + count = omega arith in one n (used (n + 1) (subst (λ m. HasRoom old m) e has))

  -- where there is no room for one more
  pub lacks-one : (count : ℕ) → UsesRoom count old now → (HasRoom now 1 → ⊥) → HasRoom old (suc count) → ⊥
  lacks-one count used none has =
      let e : suc count ≡ 1 + count = omega arith in none (used 1 (subst (λ m. HasRoom old m) e has))

-- what is answered of words that were taken is no want of memory
pub words-told : (n : ℕ) (more : Bool) → words_code n more ≡ NoMemory → ⊥
words-told zero true e = absurd (cc)
words-told zero false e = absurd (cc)
words-told (suc n) true e = absurd (cc)
words-told (suc n) false e = absurd (cc)
