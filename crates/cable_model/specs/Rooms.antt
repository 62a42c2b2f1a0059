-- The room that is made before a call changes anything.
use Rattle.std.specs.Prelude.{◌≡◌, ◌⊎◌, ℕ, ◌+◌, ◌*◌}
use Rattle.cable_model.specs.declared.room.Rooms.{Rooms}

-- the most outputs that a station makes itself in one call
abbrev pub most_made : ℕ
most_made = 256

-- The entries of a datagram that a station sends: Sent, Reached and Put; and `more` where it may be held.
abbrev pub sent_lines : ℕ → ℕ
sent_lines more = 3 + more

-- The entries of a datagram that a router passes on: Reached and Put; and `more` where it may be held.
abbrev pub passed_lines : ℕ → ℕ
passed_lines more = 2 + more

-- The entries of a take: Took, those of each datagram that the station makes, and those of the one that it passes on.
abbrev pub take_lines : ℕ → ℕ
take_lines more = 1 + most_made * sent_lines more + passed_lines more

-- The room of a take and a send where the hardware address of every station is known: each output has bytes, and puts
-- at most one frame.
abbrev pub known_rooms : Rooms
known_rooms = record {
  take = record { lines = take_lines 0; bytes = most_made + 1; pairs = most_made + 1 };
  send = record { lines = sent_lines 0; bytes = 1; pairs = 1 };
}

-- The room where a datagram may be held: its Hold stands for the frame, and two entries more, the loss of the datagram
-- that is let go, and a request, which has bytes too.
abbrev pub held_rooms : Rooms
held_rooms = record {
  take = record { lines = take_lines 2; bytes = (most_made + 1) * 2; pairs = most_made + 1 };
  send = record { lines = sent_lines 2; bytes = 2; pairs = 1 };
}

-- the rooms are one of the two
abbrev pub AreRooms : Rooms → Type 0
AreRooms rooms = (rooms ≡ known_rooms) ⊎ (rooms ≡ held_rooms)
