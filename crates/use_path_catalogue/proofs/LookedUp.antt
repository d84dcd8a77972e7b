-- What a call answers of the size that was at a path, and what is found after it: by the map's laws.
use Rattle.std.proofs.Common.{◌≡◌, ℕ, cond, List, Option, None, bytes_eq, ap, ◌∙◌}
use Rattle.std.specs.Map.{lookup}
use Rattle.std.specs.Prelude.{Ok, Err, IfOk, OnOk}
use Rattle.std.specs.declared.result.Result.{Result}
use Rattle.art_arena.proofs.Common.{key_of}
use Rattle.art_operations.proofs.Common.{without_key}
use Rattle.art_map.proofs.Common.{has_bytes, ended, ended-found, ended-removed}
use Rattle.use_path_catalogue.specs.Catalogue.{size_at}

pub old_size : {E : Type 0} (r : Result (Option ℕ) E) (q : List ℕ) (ps : List (List ℕ × ℕ))
    → IfOk r (λ old. old ≡ lookup (has_bytes ended (ended q)) ps) → IfOk r (λ old. old ≡ size_at q ps)
old_size (Ok old) q ps h = h ∙ ended-found q ps
old_size (Err e) q ps h = tt

pub gone_after : {E : Type 0} (r : Result (Option ℕ) E) (path : List ℕ) (old new : List (List ℕ × ℕ))
    → OnOk r (new ≡ without_key (key_of ended) (ended path) old)
    → OnOk r ((other : List ℕ) → size_at other new ≡ cond (bytes_eq path other) None (size_at other old))
gone_after (Err e) path old new h = tt
gone_after (Ok was) path old new e = λ other. ap (size_at other) e ∙ ended-removed other path old
