-- The sizes of the counts before lists.
use Rattle.std.specs.Prelude.{ℕ}
use Rattle.std.specs.Int.{byte_len}
use Rattle.at_base.specs.Grammar.{Size, one, two, width}
use Rattle.table_image.specs.declared.count.CountSize.{CountSize}
use Rattle.table_image.specs.declared.count.CountSize.TheVariants.{One, Two}

-- the size of a count as that of a field of a format
abbrev pub size_of : CountSize → Size
size_of One = one
size_of Two = two

-- the number of bytes of a count
abbrev pub count_len : Size → ℕ
count_len size = byte_len (width size)
