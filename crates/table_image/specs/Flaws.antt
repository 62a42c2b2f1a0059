-- Flaws of an image, with the offset at which each is reported, and faults, which are flaws as readers find them: with
-- the number of input bytes left from that byte on.
use Rattle.std.specs.Prelude.{◌≡◌, ℕ, ◌+◌, ◌-◌, List, Result, Ok, Err}
use Rattle.at_base.specs.declared.error.Cause.{Cause}
use Rattle.at_base.specs.declared.error.Cause.TheVariants.{Cut}
use Rattle.at_base.specs.Grammar.{Refusals}
use Rattle.table_image.specs.declared.flaw.Fault.{Fault}
use Rattle.table_image.specs.declared.flaw.Flaw.{Flaw}

-- what is wrong with a field, reported at its first byte, or so many bytes before it: a text at its length byte, an
-- address that is tested at its node at its network
pub data Wrong : Type 0 where
  Here : Cause → Wrong
  Before : ℕ → Cause → Wrong

-- the fault of a field with this many input bytes left from its first byte on
abbrev pub fault_of : ℕ → Wrong → Fault
fault_of left (Here cause) = record { left = left; cause = cause }
fault_of left (Before n cause) = record { left = n + left; cause = cause }

-- the faults of readers; if the input ends within a field, no bytes are left
abbrev pub faults : Refusals Wrong Fault
faults = record { cut = record { left = 0; cause = Cut }; placed = fault_of }

-- the flaw of a fault that was found when so many bytes of the image had been taken in, those left among them
abbrev pub flaw_after : ℕ → Fault → Flaw
flaw_after taken f = record { place = taken - f.left; cause = f.cause }

-- a function read past a value without storing it: it returned what is needed of that value, and the bytes after it
abbrev pub GoesPast : {A B X : Type 0} → (A → B) → (X → B × List ℕ) → Result X Fault → Result (A × List ℕ) Fault → Type 0
GoesPast {A = A} needed_of view (Ok x) reading = (y : A) × (reading ≡ Ok (y, (view x).1)) × (needed_of y ≡ (view x).0)
GoesPast needed_of view (Err f) reading = reading ≡ Err f
