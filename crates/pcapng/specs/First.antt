-- The block at the front of bytes.
use Rattle.std.specs.Prelude.{◌≡◌, ℕ, ◌-◌, List, Result, Ok, take}
use Rattle.at_base.specs.Reading.{◌>>=◌, bytes_at}
use Rattle.pcapng.specs.Heads.{front, head_of}
use Rattle.pcapng.specs.Sections.{Section, Told, block_of}
use Rattle.pcapng.specs.declared.fault.Fault.{Fault}
use Rattle.pcapng.specs.declared.fault.Fault.TheVariants.{Cut}

-- what it says, with the section after it; how many of its bytes aren't looked at; and the bytes after those that are
abbrev pub first_block : Section → List ℕ → Result ((Told × Section) × (ℕ × List ℕ)) Fault
first_block s bytes =
    head_of s.began (take 12 bytes) >>= λ h. bytes_at Cut (front h) bytes >>= λ b. block_of s h b.0 >>= λ told. Ok (told, (h.len - front h, b.1))

-- The block at the front of the bytes is read as a whole: it says this, with this section after it, and these bytes follow.
abbrev pub IsFirst : Section → List ℕ → Told → Section → List ℕ → Type 0
IsFirst s bytes told after rest = first_block s bytes ≡ Ok ((told, after), (0, rest))
