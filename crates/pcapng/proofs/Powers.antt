-- Powers of ten.
use Rattle.std.proofs.Common.{◌≡◌, ◌<◌, ◌≤◌, ℕ, zero, suc, ◌+◌, ◌-◌, ◌*◌, ◌^◌, ap, sym, ◌∙◌, refl, arith}
use Rattle.std.proofs.Math.Nat.{div-eq_of_lt, mul-le-mul, one-le-pow, pow-suc}
use Rattle.std.proofs.lemmas.Bool.{lt-leb}
use Rattle.pcapng.specs.Times.{decimal_micros}

ten_grows : (n j : ℕ) → 10 ^ n ≤ 10 ^ (j + n)
ten_grows n zero = let is : n ≡ 0 + n = omega arith in let same = ap (λ m. 10 ^ m) is in omega (arith, same)
ten_grows n (suc j) =
    let is : suc (j + n) ≡ suc j + n = omega arith in
    let more : 10 ^ (suc j + n) ≡ 10 ^ (j + n) * 10 = sym (ap (λ m. 10 ^ m) is) ∙ pow-suc 10 (j + n) in
    let least = ten_grows n j in
    omega (arith, more, least)

pub ten_some : (n : ℕ) → 0 < 10 ^ n
ten_some n = let one = one-le-pow n 10 (omega arith) in omega (arith, one)

-- no number of 64 bits has more than 19 digits after the first
pub none_left : (units power : ℕ) → units < 2 ^ 64 → 6 < power → 19 < power - 6 → 0 ≡ decimal_micros units power
none_left units power few over many =
    let j = power - 26 in
    let grown : 10 ^ 20 ≤ 10 ^ (j + 20) = ten_grows 20 j in
    let same : j + 20 ≡ power - 6 = omega (arith, many) in
    let at_most : units < 10 ^ (power - 6) = omega (arith, few, grown, ap (λ m. 10 ^ m) same) in
    rw (lt-leb power 6 over, div-eq_of_lt at_most) refl

-- a number of 64 bits, times ten to the power of at most 6
pub few_micros : (units n power : ℕ) → units < 2 ^ 64 → power ≤ 6 → n ≡ 10 ^ (6 - power) → units * n < 2 ^ 84
few_micros units n power few small is =
    let grown = ten_grows (6 - power) power in
    let same : power + (6 - power) ≡ 6 = omega (arith, small) in
    let million : n ≤ 1000000 = omega (arith, is, grown, ap (λ m. 10 ^ m) same) in
    let below : units ≤ 2 ^ 64 = omega (arith, few) in
    let least : units * n ≤ 2 ^ 64 * 1000000 = mul-le-mul below million in
    omega (arith, least)
