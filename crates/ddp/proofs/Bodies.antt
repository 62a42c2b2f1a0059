-- The hop count, the length and the body, as functions of the bytes.
use Rattle.std.proofs.Common.{◌≡◌, ℕ, ◌≤◌, ◌+◌, ◌*◌, ◌/◌, ◌%◌, List, [], ◌∷◌, length, get_or, set, refl, arith}
use Rattle.ddp.specs.Bodies.{with_hops}

-- setting the hop count is setting the first byte
pub hops_set : (n : ℕ) (bytes : List ℕ) → 13 ≤ length bytes
    → with_hops n bytes ≡ set bytes 0 (get_or bytes 0 0 / 64 * 64 + n * 4 + get_or bytes 0 0 % 4)
hops_set n [] h = absurd (omega arith)
hops_set n (b ∷ bytes) h = refl
