-- The order of keys is the order of bytes, conflicts aside.
use Rattle.art_arena.proofs.Terms.{OrderIsLexicographic}
use Rattle.art_bytes.proofs.Common.{before_cmp, cmp_before, conflict_not_before}

pub order_is_lexicographic : OrderIsLexicographic
order_is_lexicographic k l = (λ h. (before_cmp k l h, λ c. conflict_not_before k l c h), λ h. cmp_before k l h.0 h.1)
