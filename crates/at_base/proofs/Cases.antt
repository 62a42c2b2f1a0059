-- Cases on a test, each with the equation that says so.
use Rattle.std.proofs.Common.{◌≡◌, Bool, true, false, refl}

pub by_test : {G : Type 0} (b : Bool) → (b ≡ true → G) → (b ≡ false → G) → G
by_test true passes fails = passes refl
by_test false passes fails = fails refl
