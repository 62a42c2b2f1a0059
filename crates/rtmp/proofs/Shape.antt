-- The format of routing data: each projection gives its part.
use Rattle.std.proofs.Common.{ℕ, ◌≤◌, Bool, true, false, length, refl, arith}
use Rattle.at_base.specs.declared.error.Field.TheVariants.{IdLength}
use Rattle.at_base.specs.Spelling.{IsValue, bytes_of}
use Rattle.at_base.specs.Lawful.{IsLawful}
use Rattle.at_base.proofs.Packets.{only_is}
use Rattle.rtmp.specs.declared.written.Written.{Written}
use Rattle.rtmp.specs.Data.{extension_at, written_tuple, routing_data}

extension_lawful : (low start third : ℕ) (b : Bool) → IsLawful (extension_at low start third b)
extension_lawful low start third false = tt
extension_lawful low start third true = λ end p. (λ version q. refl, λ version q. (refl, tt))

pub written_lawful : (low : ℕ) → IsLawful (written_tuple low)
unfolding written_tuple
written_lawful low =
    λ start p. (
      λ third q extension r. refl,
      λ third q. (λ extension r. refl, (extension_lawful low start third _, λ extension r. (refl, tt))),
    )

pub written_long : (low : ℕ) (t : Written) → IsValue (written_tuple low) t → 1 ≤ length (bytes_of (written_tuple low) t)
unfolding written_tuple
written_long low t h = omega arith

pub data_lawful : IsLawful routing_data
unfolding routing_data
data_lawful = (
  λ y h. omega arith,
  λ net p. (
    λ i q node r written. refl,
    λ i q. (
      λ node r written. only_is 8 IdLength i q.1,
      λ node r. (λ written. refl, (written_lawful, written_long, λ written. refl)),
    ),
  ),
)
