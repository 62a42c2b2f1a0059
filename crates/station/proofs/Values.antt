-- What a station receives is made of bytes.
use Rattle.std.proofs.Common.{◌≡◌, ℕ, suc, true, List, [], ◌∷◌, refl}
use Rattle.std.proofs.lemmas.Bool.{lt-ltb}
use Rattle.at_base.proofs.Fields.{IsBytes}
use Rattle.station.specs.Lawful.{are_bytes}

pub all_bytes : (bytes : List ℕ) → IsBytes bytes → are_bytes bytes ≡ true
all_bytes [] h = refl
all_bytes (b ∷ bytes) h = rw (lt-ltb b 256 (h 0)) (all_bytes bytes (λ i. h (suc i)))
