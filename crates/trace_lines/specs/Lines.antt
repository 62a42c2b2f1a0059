-- The printed lines of a transcript's entries.
use Rattle.std.specs.Prelude.{◌≡◌, ℕ, ◌+◌, List, [], ◌∷◌, ◌++◌, Option, Some, None, codes, length, nat_lt, slice_get, slice_index}
use Rattle.std.specs.Prelude.{if◌then◌else◌}
use Rattle.std.specs.Fmt.{decimal}
use Rattle.at_base.specs.Texts.{address_text}
use Rattle.at_base.specs.declared.address.Addr.{Addr}
use Rattle.at_base.specs.declared.address.Hw.{Hw}
use Rattle.at_base.specs.Multicast.{is_all, is_group}
use Rattle.cable_model.specs.Transcript.{Entry, Sent, Put, Took, Reached, Dropped, Lost, Hold}
use Rattle.cable_model.specs.Logs.{bytes_at}
use Rattle.cable_model.specs.declared.entry.Entry.{Entry as Line}
use Rattle.cable_model.specs.declared.entry.Entry.TheVariants as named
use Rattle.cable_model.specs.declared.entry.How.{How}
use Rattle.cable_model.specs.declared.entry.How.TheVariants as how
use Rattle.station.specs.declared.output.DropCause.{DropCause}
use Rattle.station.specs.declared.output.DropCause.TheVariants as cause
use Rattle.text.specs.Digits.{hex_text}
use Rattle.trace_lines.specs.Stations.{Addresses, address_of, address_on, holder}

-- The text for the receiver of a frame on a cable.
abbrev pub who_text : Addresses → ℕ → Hw → List ℕ
who_text a cable to =
    if is_all to then codes "all"
    else if is_group to then codes "group " ++ decimal (slice_index to.0 5)
    else address_text (holder a cable to)

-- The text for how a datagram reached a cable.
abbrev pub how_text : How → List ℕ
how_text how.Station = codes "station"
how_text how.All = codes "all"
how_text how.Own = codes "own"
how_text how.Absent = codes "absent"
how_text how.Held = codes "held"

-- The text for why a datagram was dropped.
abbrev pub cause_text : DropCause → List ℕ
cause_text cause.NoRoute = codes "NoRoute"
cause_text cause.HopLimit = codes "HopLimit"

-- The cables of the stamps so far, by rising stamps, and that of one more entry: a frame and a held datagram take a stamp, but for
-- the frame of a held datagram, which has the stamp of the datagram.
abbrev pub with_cable : List ℕ → Entry → List ℕ
with_cable cables (Put f) = if nat_lt f.stamp (length cables) then cables else cables ++ f.cable ∷ []
with_cable cables (Hold h) = cables ++ h.cable ∷ []
with_cable cables _ = cables

-- The cables of the stamps so far, and those of more entries.
abbrev pub with_cables : List ℕ → List Entry → List ℕ
with_cables cables [] = cables
with_cables cables (e ∷ es) = with_cables (with_cable cables e) es

-- The address of a station on the cable of the frame with this stamp, if the stamps so far have these cables; 0.0 if there is
-- no such frame.
abbrev pub at_frame : Addresses → List ℕ → ℕ → ℕ → Addr
at_frame a cables station stamp = on_its (slice_get cables stamp)
  where
    on_its : Option ℕ → Addr
    on_its None = record { net = 0; node = 0 }
    on_its (Some cable) = address_on a station cable

-- The line of an entry, without its line feed, if the stamps so far have these cables; the printed number of a cable is its
-- index plus 1.
abbrev pub line : Addresses → List ℕ → Entry → List ℕ
line a cables (Sent station body) = codes "sent " ++ address_text (address_of a station) ++ codes " " ++ hex_text body
line a cables (Put f) =
    codes "put " ++ decimal f.stamp ++ codes " cable " ++ decimal (f.cable + 1) ++ codes " "
    ++ address_text (address_on a f.sender f.cable) ++ codes " to " ++ who_text a f.cable f.to ++ codes " " ++ hex_text f.bytes
line a cables (Took stamp station) = codes "took " ++ decimal stamp ++ codes " " ++ address_text (at_frame a cables station stamp)
line a cables (Reached cable station how body) =
    codes "reached cable " ++ decimal (cable + 1) ++ codes " " ++ address_text (address_on a station cable) ++ codes " "
    ++ how_text how ++ codes " " ++ hex_text body
line a cables (Dropped router cause body) =
    codes "dropped " ++ address_text (address_of a router) ++ codes " " ++ cause_text cause ++ codes " " ++ hex_text body
line a cables (Lost stamp) = codes "lost " ++ decimal stamp
line a cables (Hold h) =
    codes "hold " ++ decimal h.stamp ++ codes " cable " ++ decimal (h.cable + 1) ++ codes " "
    ++ address_text (address_on a h.station h.cable) ++ codes " to " ++ address_text h.next ++ codes " " ++ hex_text h.bytes

-- The lines of entries, each with a line feed at its end, if the stamps before them have these cables.
abbrev pub lines : Addresses → List ℕ → List Entry → List ℕ
lines a cables [] = []
lines a cables (e ∷ es) = line a cables e ++ 10 ∷ lines a (with_cable cables e) es

-- The state of a printer of entries: the addresses of an internet's stations, and the cables of the stamps that it printed.
pub record Printed : Type 0 where
  pub addresses : Addresses
  pub cables : List ℕ

-- The bytes are those of the number that the entry names, if it names one.
abbrev pub IsNamed : List (List ℕ) → Line → List ℕ → Type 0
IsNamed kept (named.Sent station n) bytes = bytes ≡ bytes_at kept n
IsNamed kept (named.Put stamp cable sender to kind n) bytes = bytes ≡ bytes_at kept n
IsNamed kept (named.Took stamp station) bytes = Unit {0}
IsNamed kept (named.Reached cable station how n) bytes = bytes ≡ bytes_at kept n
IsNamed kept (named.Dropped router cause n) bytes = bytes ≡ bytes_at kept n
IsNamed kept (named.Lost stamp) bytes = Unit {0}
IsNamed kept (named.Hold stamp cable station next n) bytes = bytes ≡ bytes_at kept n
