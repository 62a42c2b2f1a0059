-- What is told of a call that stops.
use Rattle.std.proofs.Common.{◌≡◌, ℕ, Result, Err, ap}
use Rattle.at_base.specs.declared.error.Error.{Error}
use Rattle.at_base.specs.declared.error.Error.TheVariants.{WriteFault}
use Rattle.text.specs.Writing.{Prints}

abbrev pub stop : (A : Type 0) → Error → Result A Error
stop A e = Err e

-- What is said of the writes before an error holds whatever the call would have returned.
pub stopped_again : (A B : Type 0) (before after : ℕ) (e : Error) → Prints before after (stop A e) → Prints before after (stop B e)
stopped_again A B before after e p = record {
  refused = p.refused;
  stays = tt;
  reported = λ failed. (let is : e ≡ WriteFault = cc (p.reported failed) in ap (stop B) is);
}
