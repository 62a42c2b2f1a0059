-- The heads of blocks: what a block is, and its length, from its first twelve bytes.
use Rattle.std.specs.Prelude.{◌≡◌, ◌≤◌, ℕ, ◌+◌, ◌%◌, not, ◌==◌, ◌||◌, Bool, List, Result, Ok, Err, nat_lt, if◌then◌else◌}
use Rattle.std.specs.Int.{from_be_bytes, from_le_bytes, w32}
use Rattle.at_base.specs.Reading.{◌>>=◌, bytes_at}
use Rattle.pcapng.specs.Orders.{number_in}
use Rattle.pcapng.specs.declared.fault.Fault.{Fault}
use Rattle.pcapng.specs.declared.fault.Fault.TheVariants as faults
use Rattle.pcapng.specs.declared.form.Began.{Began}
use Rattle.pcapng.specs.declared.form.Began.TheVariants as began
use Rattle.pcapng.specs.declared.form.Forms.{Forms}
use Rattle.pcapng.specs.declared.form.Forms.TheVariants as forms
use Rattle.pcapng.specs.declared.head.Head.{Head}
use Rattle.pcapng.specs.declared.item.Fraction.{Fraction}
use Rattle.pcapng.specs.declared.item.Fraction.TheVariants.{Micros, Nanos}
use Rattle.pcapng.specs.declared.item.Item.{Item}
use Rattle.pcapng.specs.declared.item.Item.TheVariants.{Block, Header, Record}
use Rattle.pcapng.specs.declared.order.Order.{Order}
use Rattle.pcapng.specs.declared.order.Order.TheVariants.{Big, Little}

-- ---- blocks of pcapng

-- the type of a section header, which is the same in both orders of bytes
abbrev pub section_kind : ℕ
section_kind = 0x0A0D0D0A

-- the order of bytes in which this number is the byte-order magic
abbrev pub magic_order : List ℕ → Result Order Fault
magic_order bytes =
    if from_be_bytes w32 bytes == 0x1A2B3C4D then Ok Big
    else if from_le_bytes w32 bytes == 0x1A2B3C4D then Ok Little
    else Err faults.Order

-- the head of a block of this type with this length, which counts the whole block
abbrev pub checked_head : Order → ℕ → ℕ → Result Head Fault
checked_head order kind len =
    if nat_lt len 12 || not (len % 4 == 0) then Err faults.Length
    else Ok (record { order = order; item = Block kind; len = len })

-- the head of a block of a section in this order, from its type and its length
abbrev pub block_head : List ℕ → List ℕ → Order → Result Head Fault
block_head kind len order = checked_head order (number_in order w32 kind) (number_in order w32 len)

-- the head of a section header, which has an order of its own
abbrev pub section_head : List ℕ → List ℕ → List ℕ → Result Head Fault
section_head kind len magic = magic_order magic >>= λ order. block_head kind len order

-- a section header, by its type
abbrev pub is_section : List ℕ → Bool
is_section kind = from_be_bytes w32 kind == section_kind

-- ---- classic captures

-- the head of a classic capture's header, which has 24 bytes
abbrev pub header_head : Order → Fraction → Head
header_head order fraction = record { order = order; item = Header fraction; len = 24 }

-- the head of a header with this magic number, which tells the order of the bytes and what fractions of a second are in
abbrev pub classic_head : List ℕ → Result Head Fault
classic_head magic =
    if from_be_bytes w32 magic == 0xA1B2C3D4 then Ok (header_head Big Micros)
    else if from_le_bytes w32 magic == 0xA1B2C3D4 then Ok (header_head Little Micros)
    else if from_be_bytes w32 magic == 0xA1B23C4D then Ok (header_head Big Nanos)
    else if from_le_bytes w32 magic == 0xA1B23C4D then Ok (header_head Little Nanos)
    else Err faults.Order

-- the greatest length of a block
abbrev pub max_len : ℕ
max_len = 4294967295

-- the head of a record of which so many bytes were captured: its four fields come before them
abbrev pub record_head : Order → ℕ → Result Head Fault
record_head order captured =
    if nat_lt max_len (16 + captured) then Err faults.Length else Ok (record { order = order; item = Record; len = 16 + captured })

-- ---- captures

-- the head of what isn't a section header, at the beginning of a capture of these forms
abbrev pub other_head : Forms → List ℕ → Result Head Fault
other_head forms.Pcapng magic = Err faults.Order
other_head forms.Either magic = classic_head magic

-- the head of the next block, from its first three words, in a capture that began like this
abbrev pub head_by : Began → List ℕ → List ℕ → List ℕ → Result Head Fault
head_by (began.Nothing of) first second third = if is_section first then section_head first second third else other_head of first
head_by (began.Pcapng order) first second third = if is_section first then section_head first second third else block_head first second order
head_by (began.Classic order) first second third = record_head order (number_in order w32 third)

-- the head of the next block, from its first twelve bytes
abbrev pub head_of : Began → List ℕ → Result Head Fault
head_of b bytes =
    bytes_at faults.Cut 4 bytes >>= λ first. bytes_at faults.Cut 4 first.1 >>= λ second. bytes_at faults.Cut 4 second.1 >>= λ third.
    head_by b first.0 second.0 third.0

-- the lengths that blocks may have
abbrev pub FitsItem : Item → ℕ → Type 0
FitsItem (Block kind) len = (12 ≤ len) × (len % 4 ≡ 0)
FitsItem (Header fraction) len = len ≡ 24
FitsItem Record len = 16 ≤ len

-- ---- long blocks

-- the most bytes of a block that is read as a whole
abbrev pub max_block : ℕ
max_block = 2048

-- a block is read as a whole
abbrev pub is_short : Head → Bool
is_short h = not (nat_lt max_block h.len)

-- how many bytes are looked at of one that isn't: of a record its fields
abbrev pub long_front : Item → ℕ
long_front (Block kind) = max_block
long_front (Header fraction) = max_block
long_front Record = 16

-- how many bytes of a block are looked at
abbrev pub front : Head → ℕ
front h = if is_short h then h.len else long_front h.item
