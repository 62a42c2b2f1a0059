-- What the blocks of a capture say. (Internet draft draft-ietf-opsawg-pcapng)
use Rattle.std.specs.Prelude.{ℕ, ◌+◌, ◌-◌, ◌*◌, ◌^◌, not, ◌==◌, ◌&&◌, true, List, [], ◌∷◌, ◌++◌, Result, Ok, Err, drop, fold, length}
use Rattle.std.specs.Prelude.{nat_lt, take, if◌then◌else◌}
use Rattle.std.specs.Int.{w16, w32}
use Rattle.std.specs.List.{list_any}
use Rattle.at_base.specs.Reading.{◌>>=◌, bytes_at}
use Rattle.pcapng.specs.Classics.{header_in, record_in}
use Rattle.pcapng.specs.Fields.{gap}
use Rattle.pcapng.specs.Heads.{is_short, section_kind}
use Rattle.pcapng.specs.Options.{Described, is_lost, options_of, plain, with_option}
use Rattle.pcapng.specs.Orders.{number_in, number_of}
use Rattle.pcapng.specs.Packets.{Packed, interface_at, time_on}
use Rattle.pcapng.specs.declared.fault.Fault.{Fault}
use Rattle.pcapng.specs.declared.fault.Fault.TheVariants as faults
use Rattle.pcapng.specs.declared.form.Began.{Began}
use Rattle.pcapng.specs.declared.form.Began.TheVariants as began
use Rattle.pcapng.specs.declared.form.Forms.{Forms}
use Rattle.pcapng.specs.declared.head.Head.{Head}
use Rattle.pcapng.specs.declared.interface.Interface.{Interface}
use Rattle.pcapng.specs.declared.item.Fraction.{Fraction}
use Rattle.pcapng.specs.declared.item.Item.{Item}
use Rattle.pcapng.specs.declared.item.Item.TheVariants.{Block, Header, Record}
use Rattle.pcapng.specs.declared.order.Order.{Order}

-- the most interfaces of a section
abbrev pub max_interfaces : ℕ
max_interfaces = 256

-- the type of a block that describes an interface
abbrev pub interface_kind : ℕ
interface_kind = 1

-- the type of a block with a packet
abbrev pub packet_kind : ℕ
packet_kind = 6

-- the type of a block with statistics
abbrev pub statistics_kind : ℕ
statistics_kind = 5

-- what the blocks of a capture are read by: what it began as, and the interfaces of its section, or of all of it, by number
pub record Section : Type 0 where
  pub began : Began
  pub interfaces : List Interface

-- a capture of which nothing was read, in one of these forms
abbrev pub unread : Forms → Section
unread forms = record { began = began.Nothing forms; interfaces = [] }

-- a pcapng capture, in a section of this order of bytes with these interfaces
abbrev pub pcapng : Order → List Interface → Section
pcapng order interfaces = record { began = began.Pcapng order; interfaces = interfaces }

-- a classic capture in this order of bytes, with its one interface
abbrev pub classic : Order → Interface → Section
classic order i = record { began = began.Classic order; interfaces = i ∷ [] }

-- an Ethernet whose times are in microseconds
abbrev pub ethernet : Interface
ethernet = record { ethernet = true; resolution = 6; offset = 0 }

-- what a block says
pub data Told : Type 0 where
  -- a section begins, whose interfaces are numbered anew
  begins : Told
  -- a classic capture begins, and this is its one interface
  opens : Interface → Told
  -- an interface is described: the next one of its section
  describes : Described → Told
  -- a packet
  packs : Packed → Told
  -- a heartbeat: statistics of an interface, of which only the time counts
  beats : ℕ → ℕ → Told
  -- a packet whose block is too long to be read
  passes : Told
  -- anything else
  skips : Told

-- ---- blocks of pcapng

-- a number of two words, the higher one first
abbrev pub two_words : ℕ → ℕ → ℕ
two_words high low = high * 2 ^ 32 + low

-- a section header: the magic number, the version, which has to be 1, and the length of the section, which isn't used
abbrev pub section_body : Order → List ℕ → Result (Told × Section) Fault
section_body order body =
    bytes_at faults.Cut 4 body >>= λ magic. number_of order w16 magic.1 >>= λ major. bytes_at faults.Cut 10 major.1 >>= λ rest.
    (if major.0 == 1 then Ok (begins, pcapng order []) else Err faults.Version)

-- an interface: its link type (1 is Ethernet), a limit, which isn't used, and options
abbrev pub described_in : Order → List ℕ → Result Described Fault
described_in order body =
    number_of order w16 body >>= λ link. bytes_at faults.Cut 6 link.1 >>= λ more.
    Ok (fold (with_option order) (plain (link.0 == 1)) (options_of order more.1))

-- the section with one interface more
abbrev pub with_interface : Section → Described → Result (Told × Section) Fault
with_interface s d =
    if nat_lt (length s.interfaces) max_interfaces then Ok (describes d, record s { interfaces = s.interfaces ++ d.interface ∷ [] })
    else Err faults.Interface

-- the section with the interface that a block describes
abbrev pub described_by : Section → Order → List ℕ → Result (Told × Section) Fault
described_by s order body = described_in order body >>= λ d. with_interface s d

-- a packet: interface, time, the bytes captured and its length, the packet, padding, options
abbrev pub packet_in : List Interface → Order → List ℕ → Result Packed Fault
packet_in interfaces order body =
    number_of order w32 body >>= λ index. number_of order w32 index.1 >>= λ high. number_of order w32 high.1 >>= λ low.
    number_of order w32 low.1 >>= λ captured. number_of order w32 captured.1 >>= λ len.
    interface_at interfaces index.0 >>= λ i. bytes_at faults.Cut captured.0 len.1 >>= λ bytes.
    Ok (record {
      interface = index.0;
      time = time_on i (two_words high.0 low.0);
      ethernet = i.ethernet;
      whole = not (nat_lt captured.0 len.0);
      lost = list_any is_lost (options_of order (drop (gap captured.0) bytes.1));
      bytes = bytes.0;
    })

-- statistics: interface, time
abbrev pub statistics_in : List Interface → Order → List ℕ → Result (ℕ × ℕ) Fault
statistics_in interfaces order body =
    number_of order w32 body >>= λ index. number_of order w32 index.1 >>= λ high. number_of order w32 high.1 >>= λ low.
    interface_at interfaces index.0 >>= λ i. Ok (index.0, time_on i (two_words high.0 low.0))

-- what a block of this type says, where it changes nothing of the section
abbrev pub other_in : List Interface → Head → ℕ → List ℕ → Result Told Fault
other_in interfaces h kind body =
    if kind == packet_kind && is_short h then (packet_in interfaces h.order body >>= λ p. Ok (packs p))
    else if kind == packet_kind then Ok passes
    else if kind == statistics_kind && is_short h then (statistics_in interfaces h.order body >>= λ b. Ok (beats b.0 b.1))
    else Ok skips

-- what a block of this type says, from the bytes between its two lengths, or as many of these as are looked at
abbrev pub body_of : Section → Head → ℕ → List ℕ → Result (Told × Section) Fault
body_of s h kind body =
    if kind == section_kind then section_body h.order body
    else if kind == interface_kind then described_by s h.order body
    else (other_in s.interfaces h kind body >>= λ t. Ok (t, s))

-- What is between the two lengths of a block, which have to agree. Of a long block only its first bytes are there, and
-- its second length isn't.
abbrev pub between : Head → List ℕ → Result (List ℕ) Fault
between h bytes =
    if not (is_short h) then Ok (drop 8 bytes)
    else if number_in h.order w32 (drop (h.len - 4) bytes) == h.len then Ok (drop 8 (take (h.len - 4) bytes))
    else Err faults.Length

-- ---- classic captures

-- what a classic capture's header says: the capture has one interface
abbrev pub opened : Order → Fraction → List ℕ → Result (Told × Section) Fault
opened order fraction bytes =
    header_in order fraction bytes >>= λ i. Ok (opens i, classic order i)

-- what a record says: a packet on that interface
abbrev pub recorded : List Interface → Head → List ℕ → Result Told Fault
recorded interfaces h bytes =
    if is_short h then (interface_at interfaces 0 >>= λ i. record_in i h.order bytes >>= λ p. Ok (packs p)) else Ok passes

-- ---- captures

-- what a block says that is this item of a capture
abbrev pub item_of : Section → Head → Item → List ℕ → Result (Told × Section) Fault
item_of s h (Block kind) bytes = between h bytes >>= λ body. body_of s h kind body
item_of s h (Header fraction) bytes = opened h.order fraction bytes
item_of s h Record bytes = recorded s.interfaces h bytes >>= λ t. Ok (t, s)

-- what a block with this head says, from all its bytes, or from the first bytes of a long one
abbrev pub block_of : Section → Head → List ℕ → Result (Told × Section) Fault
block_of s h bytes = item_of s h h.item bytes
