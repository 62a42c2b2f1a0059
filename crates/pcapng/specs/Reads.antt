-- What the values that borrow a block's bytes stand for.
use Rattle.std.specs.Option.{option_copied}
use Rattle.pcapng.specs.Options as options
use Rattle.pcapng.specs.Packets.{Packed}
use Rattle.pcapng.specs.Sections.{Told, begins, beats, describes, opens, packs, passes, skips}
use Rattle.pcapng.specs.declared.block.Block.{Block as BlockValue}
use Rattle.pcapng.specs.declared.block.Block.TheVariants as blocks
use Rattle.pcapng.specs.declared.block.Seen.{Seen}
use Rattle.pcapng.specs.declared.options.Described.{Described}

-- an interface with its name
abbrev pub described : Described → options.Described
described d = record { interface = d.interface; name = option_copied d.name }

-- a packet
abbrev pub packed : Seen → Packed
packed p = record {
  interface = p.interface;
  time = p.time;
  ethernet = p.ethernet;
  whole = p.whole;
  lost = p.lost;
  bytes = p.bytes.now;
}

-- a block
abbrev pub told : BlockValue → Told
told blocks.Section = begins
told (blocks.Classic interface) = opens interface
told (blocks.Interface d) = describes (described d)
told (blocks.Packet p) = packs (packed p)
told (blocks.Heartbeat interface time) = beats interface time
told blocks.TooLong = passes
told blocks.Other = skips
