-- Tests joined with `&&`, and their parts.
use Rattle.std.proofs.Common.{◌≡◌, Bool, true, false, ◌&&◌, refl}

pub all_three : (a b c : Bool) → (a && b && c) ≡ true → (a ≡ true) × (b ≡ true) × (c ≡ true)
all_three true true true e = (refl, refl, refl)
all_three true true false e = cc
all_three true false c e = cc
all_three false b c e = cc

pub three_are : (a b c : Bool) → a ≡ true → b ≡ true → c ≡ true → (a && b && c) ≡ true
three_are true true true x y z = refl
three_are false b c x y z = cc
three_are true false c x y z = cc
three_are true true false x y z = cc
