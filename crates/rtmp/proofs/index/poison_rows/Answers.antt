use Rattle.rtmp.proofs.Maps.{rows_apart}
use Rattle.rtmp.proofs.Numbering.{numbers_rise}
use Rattle.rtmp.proofs.Spoiled.{spoiled_is}
use Rattle.rtmp.proofs.index.poison_rows.Goals as goal

pub numbers_between-lost-requires-clause-rising : goal.numbers_between-lost-requires-clause-rising
numbers_between-lost-requires-clause-rising c = rw c.requires.numbered (numbers_rise c.args.rows.now.items)

pub spoil_rows-requires : goal.spoil_rows-requires
spoil_rows-requires c = rows_apart c.args.rows.now.items c.requires.map

pub returns-else-lost-len : goal.returns-else-lost-len
returns-else-lost-len c =
    rw (c.spoil_rows.ensures, c.numbers_between-lost.ensures, c.requires.numbered, c.first_number-low.ensures.value)
    (spoiled_is c.args.next c.args.rows.now.items c.requires.map.each)
