-- What a writer of a text says.
use Rattle.std.specs.Prelude.{◌≡◌, ℕ, ◌≢◌, Bool, List, [], ◌++◌, Result, OnOk, OnErr, is_err}

-- Of a text, a beginning was taken that is not all of it.
pub record IsCut (before after text : List ℕ) : Type 0 where
  pub begun : List ℕ
  pub missing : List ℕ
  pub is_cut : missing ≢ []
  pub parts : begun ++ missing ≡ text
  pub output : after ≡ before ++ begun

-- What a writer of a text says: it was taken whole, or a write failed, and a beginning was taken that is not all of it.
pub record Writes {T E : Type 0} (result : Result T E) (before after text : List ℕ) (has_failed : Bool) : Type 0 where
  pub ok : OnOk result (after ≡ before ++ text)
  pub cut : OnErr result (IsCut before after text)
  pub failed : is_err result ≡ has_failed
