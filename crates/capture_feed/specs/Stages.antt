-- Captures, block by block: what comes next of the bytes that follow those that were read.
use Rattle.std.specs.Prelude.{ℕ, ◌+◌, ◌-◌, ◌==◌, Bool, true, List, Option, Some, None, Result, Ok, Err, drop, length, min, nat_lt, take}
use Rattle.std.specs.Prelude.{if◌then◌else◌}
use Rattle.std.specs.Int.{w32}
use Rattle.pcapng.specs.Heads.{front, head_of, is_short}
use Rattle.pcapng.specs.Orders.{number_in}
use Rattle.pcapng.specs.Sections.{Section, Told, block_of, unread}
use Rattle.pcapng.specs.declared.fault.Fault.{Fault}
use Rattle.pcapng.specs.declared.fault.Fault.TheVariants.{Length}
use Rattle.pcapng.specs.declared.form.Forms.{Forms}
use Rattle.pcapng.specs.declared.head.Head.{Head}
use Rattle.pcapng.specs.declared.item.Item.{Item}
use Rattle.pcapng.specs.declared.item.Item.TheVariants.{Block, Header, Record}
use Rattle.pcapng.specs.declared.order.Order.{Order}
use Rattle.capture_feed.specs.declared.passing.Last.{Last}
use Rattle.capture_feed.specs.declared.passing.Last.TheVariants as lasts
use Rattle.capture_feed.specs.declared.passing.Passing.{Passing}

-- what the next bytes are read by: the section, and what is left of a long block that is passed over
pub record Stage : Type 0 where
  pub section : Section
  pub passing : Option Passing

-- what comes next
pub data Next : Type 0 where
  -- the bytes end within the next block
  waits : Next
  -- the next block, or the rest of the one before it, is refused
  refuses : Fault → Next
  -- the next block says this; the bytes after it are read by this stage
  tells : Told → Stage → List ℕ → Next

-- what the last four bytes of a long block are: its length once more, if it is a block of pcapng
abbrev pub last_as : Item → Order → ℕ → Last
last_as (Block kind) order len = lasts.Length order len
last_as (Header fraction) order len = lasts.Any
last_as Record order len = lasts.Any

-- what the last four bytes of the long block with this head are
abbrev pub last_of : Head → Last
last_of h = last_as h.item h.order h.len

-- what is passed over after the bytes of a block that are looked at
abbrev pub passing_of : Head → Option Passing
passing_of h = if is_short h then None else Some (record { last = last_of h; left = h.len - front h })

-- the block, where it is read
abbrev pub read_as : Head → List ℕ → Result (Told × Section) Fault → Next
read_as h rest (Err f) = refuses f
read_as h rest (Ok x) = tells x.0 (record { section = x.1; passing = passing_of h }) rest

-- the block with this head at the front
abbrev pub headed : Section → List ℕ → Result Head Fault → Next
headed s bytes (Err f) = refuses f
headed s bytes (Ok h) =
    if nat_lt (length bytes) (front h) then waits else read_as h (drop (front h) bytes) (block_of s h (take (front h) bytes))

-- the block at the front; the first twelve bytes are its head
abbrev pub block_next : Section → List ℕ → Next
block_next s bytes = if nat_lt (length bytes) 12 then waits else headed s bytes (head_of s.began (take 12 bytes))

-- ---- captures

-- where a reader stands: what the next bytes are read by, and how many blocks were told
pub record Standing : Type 0 where
  pub stage : Stage
  pub blocks : ℕ

-- before the first byte of a capture of one of these forms
abbrev pub start : Forms → Standing
start forms = record { stage = record { section = unread forms; passing = None }; blocks = 0 }

-- the greatest number of a block
abbrev pub max_blocks : ℕ
max_blocks = 4294967295

-- one block more; numbers end at the greatest one
abbrev pub counted : ℕ → ℕ
counted blocks = min (blocks + 1) max_blocks

-- what comes next in a capture
pub data Coming : Type 0 where
  -- the bytes end within a block
  pending : Coming
  -- the block with this number is refused
  refused : ℕ → Fault → Coming
  -- the next block says this; the bytes after it are read from there
  told : Told → Standing → List ℕ → Coming

-- what comes next, after so many blocks
abbrev pub numbered : ℕ → Next → Coming
numbered blocks waits = pending
numbered blocks (refuses f) = refused (counted blocks) f
numbered blocks (tells t stage rest) = told t (record { stage = stage; blocks = counted blocks }) rest

-- these are right as the last four bytes of a block
abbrev pub is_last : Last → List ℕ → Bool
is_last (lasts.Length order len) bytes = number_in order w32 bytes == len
is_last lasts.Any bytes = true

-- the block that is passed over ends as it has to, and then this comes
abbrev pub ends_well : Passing → ℕ → List ℕ → Coming → Coming
ends_well p blocks last after = if is_last p.last last then after else refused blocks Length

-- what comes after what is left of a long block
abbrev pub past : Option Passing → Section → ℕ → List ℕ → Coming
past None s blocks bytes = numbered blocks (block_next s bytes)
past (Some p) s blocks bytes =
    if nat_lt (length bytes) p.left then pending
    else ends_well p blocks (take 4 (drop (p.left - 4) bytes)) (numbered blocks (block_next s (drop p.left bytes)))

-- what comes next
abbrev pub coming : Standing → List ℕ → Coming
coming at bytes = past at.stage.passing at.stage.section at.blocks bytes
