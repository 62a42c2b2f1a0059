-- Updates of the rows of a table, one by one.
use Rattle.rtmp.specs.declared.row.Row.{Row}
use Rattle.rtmp.specs.declared.update.Update.{Update}
use Rattle.rtmp.specs.declared.update.Update.TheVariants.{Age, Poison}
use Rattle.rtmp.specs.Routes.{aged_row, poisoned_row}

-- the row after an update
abbrev pub updated : Update → Row → Row
updated Age r = aged_row r
updated (Poison next) r = poisoned_row next r
