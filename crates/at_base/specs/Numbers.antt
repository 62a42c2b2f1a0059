-- Numbers in rising order.
use Rattle.std.specs.Prelude.{ℕ, ◌≤◌, ◌&&◌, ◌==◌, List, [], ◌∷◌, filter, nat_le, nat_lt, if◌then◌else◌}
use Rattle.at_base.specs.Starts.{before_start}

-- each number is at least the one before it, and the first at least low
abbrev pub AreRising : ℕ → List ℕ → Type 0
AreRising low [] = Unit {0}
AreRising low (a ∷ numbers) = (low ≤ a) × AreRising a numbers

-- the numbers with one more, before the first that isn't below it
abbrev pub with_number : ℕ → List ℕ → List ℕ
with_number n [] = n ∷ []
with_number n (a ∷ numbers) = if nat_lt a n then a ∷ with_number n numbers else n ∷ a ∷ numbers

-- the numbers without the first that equals n, if any
abbrev pub without_number : ℕ → List ℕ → List ℕ
without_number n [] = []
without_number n (a ∷ numbers) = if a == n then numbers else a ∷ without_number n numbers

-- the numbers in rising order
abbrev pub in_order : List ℕ → List ℕ
in_order [] = []
in_order (a ∷ numbers) = with_number a (in_order numbers)

-- the numbers from low on that are below high
abbrev pub between : ℕ → ℕ → List ℕ → List ℕ
between low high numbers = filter (λ n. nat_le low n && nat_lt n high) numbers

-- how many numbers come before the first one that isn't below n
abbrev pub below : ℕ → List ℕ → ℕ
below n numbers = before_start (λ a. a) n numbers
