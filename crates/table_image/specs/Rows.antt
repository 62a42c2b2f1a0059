-- Rows of routing tables. (Inside AppleTalk, the chapter on RTMP)
use Rattle.std.specs.Prelude.{Bool}
use Rattle.at_base.specs.Address.{is_none}
use Rattle.table_image.specs.declared.row.Row.{Row}

-- the row is direct: it has no next router
abbrev pub is_direct : Row → Bool
is_direct row = is_none row.next
