-- The failures of calls that write.
use Rattle.std.specs.Prelude.{◌≡◌, ◌≢◌, ◌⊎◌, ℕ, Result, Err, IfErr, IsOkUnless, OnErr, OnOk}
use Rattle.at_base.specs.declared.error.Error.{Error}
use Rattle.at_base.specs.declared.error.Error.TheVariants.{Memory, WriteFault}

-- The only error of a call is that of a write that failed, and failed writes are counted.
pub record Writes {A : Type 0} (before after : ℕ) (result : Result A Error) : Type 0 where
  pub fault : OnErr result (after ≢ before)
  pub refused : IsOkUnless result WriteFault
  pub stays : OnOk result (after ≡ before)

-- The error of a call is out of memory, or that of a write that failed. Failed writes are counted, and always reported.
pub record Prints {A : Type 0} (before after : ℕ) (result : Result A Error) : Type 0 where
  pub refused : IfErr result (λ e. (e ≡ Memory) ⊎ ((e ≡ WriteFault) × (after ≢ before)))
  pub stays : OnOk result (after ≡ before)
  pub reported : after ≢ before → result ≡ Err WriteFault
