-- What is known of a login.
use Rattle.std.specs.Prelude.{ℕ, List, Option, bytes_eq}
use Rattle.std.specs.Map.{lookup}

-- when the login of a token was last seen, if it is open
abbrev pub last_seen : List ℕ → List (List ℕ × ℕ) → Option ℕ
last_seen token logins = lookup (λ other. bytes_eq other token) logins
