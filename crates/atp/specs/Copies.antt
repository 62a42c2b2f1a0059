-- A copy of open transactions, slot by slot.
use Rattle.std.specs.Prelude.{◌≡◌, ℕ, zero, suc, ◌+◌, ◌<◌, List, [], ◌∷◌, Option, Some, is_some, if◌then◌else◌}
use Rattle.slab.specs.Slab.{Slab, get, slab_len}
use Rattle.atp.specs.declared.transaction.Transaction.{Transaction}
use Rattle.atp.specs.Requesting.{known}
use Rattle.atp.specs.Slots.{IsTable}

-- the number of transactions in the first n slots
abbrev pub filled : ℕ → List (Option Transaction) → ℕ
filled zero slots = 0
filled (suc n) [] = 0
filled (suc n) (slot ∷ slots) = (if is_some slot then 1 else 0) + filled n slots

-- The copy has the transactions of the first n slots, and no others.
pub record CopiedTo (n : ℕ) (old copy : Slab Transaction) : Type 0 where
  pub table : IsTable copy
  pub before : (k : ℕ) (t : Transaction) → k < n → get old k ≡ Some t → known t.id copy.slots ≡ Some t
  pub from : (id : ℕ) (t : Transaction) → known id copy.slots ≡ Some t → (k : ℕ) × (k < n) × (get old k ≡ Some t)
  pub count : slab_len copy ≡ filled n old.slots

-- the copy has the same transaction for each ID, and as many transactions
pub record IsCopy (old copy : Slab Transaction) : Type 0 where
  pub table : IsTable copy
  pub same : (id : ℕ) → known id copy.slots ≡ known id old.slots
  pub len : slab_len copy ≡ slab_len old
