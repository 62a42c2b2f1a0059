-- The first number that passes a test, and the first place that breaks a rule.
use Rattle.std.specs.Prelude.{◌≡◌, ℕ, ◌<◌, Bool, true, false, Option, Some, None}
use Rattle.at_base.specs.declared.error.Place.{Place}
use Rattle.audit.specs.Verdicts.{IsBefore}

-- the result is the first number that passes the test, or none if no number passes
abbrev pub FirstNumber : (ℕ → Bool) → Option ℕ → Type 0
FirstNumber test None = (k : ℕ) → test k ≡ false
FirstNumber test (Some k) = (test k ≡ true) × ((j : ℕ) → j < k → test j ≡ false)

-- the result is the first place that breaks a rule, or none if no place breaks it
abbrev pub FirstPlace : (Place → Bool) → Option Place → Type 0
FirstPlace breaks None = (p : Place) → breaks p ≡ false
FirstPlace breaks (Some p) = (breaks p ≡ true) × ((q : Place) → IsBefore q p → breaks q ≡ false)
