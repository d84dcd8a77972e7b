use Rattle.std.proofs.Common.{◌≡◌, ℕ, ◌^◌, ◌<◌, subst, List, take, drop}
use Rattle.std.specs.Int.{from_be_bytes, w32}
use Rattle.art_lines.proofs.Terms.{full_key}
use Rattle.art_lines.proofs.command.fields.Fields.full_key.Goals as goal

pub returns-clause-value : goal.returns-clause-value
returns-clause-value c = subst (λ (xs : List ℕ). c.split_of.result.now ≡ full_key (from_be_bytes w32 (take 4 xs)) (drop 4 xs)) c.as_slice.ensures.value c.split_of.ensures.split

pub returns-clause-tenant : goal.returns-clause-tenant
returns-clause-tenant c = subst (λ (xs : List ℕ). from_be_bytes w32 (take 4 xs) < 2 ^ 32) c.as_slice.ensures.value c.split_of.ensures.tenant
