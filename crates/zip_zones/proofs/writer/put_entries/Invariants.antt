use Rattle.std.proofs.Common.{◌≡◌, ◌++◌, drop}
use Rattle.zip_zones.specs.Written.{entries_bytes, entries_of}
use Rattle.zip_zones.proofs.writer.put_entries.Given as goal

-- the bytes written and those still to be written are all bytes
abbrev pub invariant-loop-name : goal.invariant-loop-name
invariant-loop-name l =
    l.bytes.items ++ entries_bytes (entries_of l.net (drop l.name-index l.names))
    ≡ l.initial.bytes.items ++ entries_bytes (entries_of l.net l.names)
