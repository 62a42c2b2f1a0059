-- The transcript: what happened on the cables of an internet, in order.
use Rattle.std.specs.Prelude.{◌≡◌, ℕ, suc, ◌+◌, ◌≤◌, ◌==◌, Bool, true, false, cond, List, [], ◌∷◌, nat_lt}
use Rattle.at_base.specs.declared.address.Addr.{Addr}
use Rattle.at_base.specs.declared.address.Hw.{Hw}
use Rattle.station.specs.declared.output.DropCause.{DropCause}
use Rattle.cable_model.specs.declared.entry.How.{How}
use Rattle.station.specs.declared.heard.Kind.{Kind}
pub use Rattle.station.specs.Lawful.{count, one}

-- A frame on a cable: its stamp, which counts frames and held datagrams from 0; the cable; the station that put it there; the hardware
-- address that it is sent to; its kind, and its bytes.
pub record Frame : Type 0 where
  pub stamp : ℕ
  pub cable : ℕ
  pub sender : ℕ
  pub to : Hw
  pub kind : Kind
  pub bytes : List ℕ

-- A datagram that a station holds until the hardware address of its next station is known: the stamp that its frame will
-- have; the cable; the station; the next station's address; and its bytes.
pub record Holding : Type 0 where
  pub stamp : ℕ
  pub cable : ℕ
  pub station : ℕ
  pub next : Addr
  pub bytes : List ℕ

-- An entry of the transcript: a station made a datagram; a frame was put on a cable; a station took a frame; a
-- datagram, given by its body, which never changes on its way, reached the cable of its target, where a station put or
-- kept it; a router dropped a datagram; a frame was lost for all stations that hadn't taken it, or a held datagram was
-- given up; or a station held a datagram.
pub data Entry : Type 0 where
  Sent : (station : ℕ) (body : List ℕ) → Entry
  Put : (frame : Frame) → Entry
  Took : (stamp station : ℕ) → Entry
  Reached : (cable station : ℕ) (how : How) (body : List ℕ) → Entry
  Dropped : (router : ℕ) (cause : DropCause) (body : List ℕ) → Entry
  Lost : (stamp : ℕ) → Entry
  Hold : (held : Holding) → Entry

-- the entry puts a frame
abbrev pub is_put : Entry → Bool
is_put (Put frame) = true
is_put _ = false

-- the number of frames, which is the stamp of the next one where none was held
abbrev pub stamps : List Entry → ℕ
stamps entries = count is_put entries

-- a number, or one more than k, if that is greater
abbrev pub above : ℕ → ℕ → ℕ
above n k = cond (nat_lt k n) n (suc k)

-- the next stamp after an entry, where it was n before
abbrev pub stamp_after : ℕ → Entry → ℕ
stamp_after n (Put frame) = above n frame.stamp
stamp_after n (Hold held) = above n held.stamp
stamp_after n _ = n

-- the next stamp after entries, where it was n before
abbrev pub stamp_from : ℕ → List Entry → ℕ
stamp_from n [] = n
stamp_from n (e ∷ es) = stamp_from (stamp_after n e) es

-- the next stamp: one more than the greatest stamp of a frame or of a held datagram
abbrev pub next_stamp : List Entry → ℕ
next_stamp entries = stamp_from 0 entries

-- the entry puts a frame with this stamp
abbrev pub has_put : ℕ → Entry → Bool
has_put stamp (Put frame) = stamp == frame.stamp
has_put stamp _ = false

-- no two frames have the same stamp
abbrev pub ArePutOnce : List Entry → Type 0
ArePutOnce entries = (stamp : ℕ) → count (has_put stamp) entries ≤ 1

-- the entry, if it puts a frame, has this stamp; and it holds no datagram
abbrev pub HasStamp : ℕ → Entry → Type 0
HasStamp k (Put frame) = frame.stamp ≡ k
HasStamp k (Hold held) = ⊥
HasStamp k _ = Unit {0}

-- the frames have the stamps from k on, in order, and no datagram is held
abbrev pub AreNumbered : ℕ → List Entry → Type 0
AreNumbered k [] = Unit {0}
AreNumbered k (e ∷ es) = HasStamp k e × AreNumbered (one (is_put e) + k) es

-- the entry holds no datagram
abbrev pub is_plain : Entry → Bool
is_plain (Hold held) = false
is_plain _ = true
