-- Open transactions in the slots of a slab.
use Rattle.std.specs.Prelude.{◌≡◌, ◌≢◌, ℕ, ◌≤◌, Option}
use Rattle.slab.specs.Slab.{Slab, slab_len}
use Rattle.atp.specs.declared.transaction.Transaction.{Transaction}
use Rattle.atp.specs.Requesting.{known, AreApart, AllSendable}

-- The invariant of a requester's table: at most 32 transactions, with room for 32; no two with the same ID; and the
-- request of each fits into a packet.
pub record IsTable (s : Slab Transaction) : Type 0 where
  pub apart : AreApart s.slots
  pub sendable : AllSendable s.slots
  pub few : slab_len s ≤ 32
  pub room : 32 ≤ s.capacity

-- The ID has this transaction now, and nothing changed for any other ID.
pub record Put (old new : Slab Transaction) (id : ℕ) (slot : Option Transaction) : Type 0 where
  pub table : IsTable new
  pub here : known id new.slots ≡ slot
  pub others : (other : ℕ) → other ≢ id → known other new.slots ≡ known other old.slots
