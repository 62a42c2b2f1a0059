-- Entries as they are printed.
use Rattle.std.specs.Prelude.{ℕ, List}
use Rattle.cable_model.specs.Transcript.{Entry, Sent, Put, Took, Reached, Dropped, Lost, Hold}
use Rattle.cable_model.specs.declared.entry.Entry.{Entry as Line}
use Rattle.cable_model.specs.declared.entry.Entry.TheVariants as named
use Rattle.ddp.specs.Bodies.{body}

-- The entry of the transcript that names bytes, with these bytes in place of their number.
abbrev pub entry_with : List ℕ → Line → Entry
entry_with bytes (named.Sent station n) = Sent station (body bytes)
entry_with bytes (named.Put stamp cable sender to kind n) =
    Put (record { stamp = stamp; cable = cable; sender = sender; to = to; kind = kind; bytes = bytes })
entry_with bytes (named.Took stamp station) = Took stamp station
entry_with bytes (named.Reached cable station how n) = Reached cable station how (body bytes)
entry_with bytes (named.Dropped router cause n) = Dropped router cause (body bytes)
entry_with bytes (named.Lost stamp) = Lost stamp
entry_with bytes (named.Hold stamp cable station next n) =
    Hold (record { stamp = stamp; cable = cable; station = station; next = next; bytes = bytes })
