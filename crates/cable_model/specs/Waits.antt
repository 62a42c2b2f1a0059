-- Pending pairs as they are stored.
use Rattle.std.specs.Prelude.{ℕ, Bool, ◌&&◌, ◌==◌, List}
use Rattle.cable_model.specs.Pending.{Pair}
use Rattle.cable_model.specs.Transcript.{Holding}
use Rattle.cable_model.specs.declared.due.Due.{Due}

-- The stored pairs, in order, and the number of pairs for which there is room.
pub record Waits : Type 0 where
  pub dues : List Due
  pub room : ℕ

-- a stored pair stands by its stamp and then by its station
abbrev pub due_key : Due → ℕ × ℕ
due_key d = (d.stamp, d.station)

-- a pair stands by the stamp of its frame and then by its station
abbrev pub pair_key : Pair → ℕ × ℕ
pair_key p = (p.frame.stamp, p.seat.station)

-- a held datagram stands by its stamp and then by its station
abbrev pub hold_key : Holding → ℕ × ℕ
hold_key h = (h.stamp, h.station)

-- the stored pair has this stamp and this station
abbrev pub is_at : ℕ → ℕ → Due → Bool
is_at stamp station d = stamp == d.stamp && station == d.station
