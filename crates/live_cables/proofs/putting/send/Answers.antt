use Rattle.live_cables.proofs.Calm.{puts_of_sent, puts_same}
use Rattle.live_cables.proofs.Knows.{knows_sent}
use Rattle.live_cables.specs.Finding.{places_of}
use Rattle.live_cables.specs.Holding.{Holds}
use Rattle.live_cables.proofs.putting.send.Goals as goal

pub returns-in-Ok-clause-near : goal.returns-in-Ok-clause-near
returns-in-Ok-clause-near c =
    knows_sent _ _ c.args.seat.cable c.args.seat.station c.args.next c.args.bytes c.args.near.now c.send.new.resolver c.in-Ok.ensures.ok

pub returns-in-Ok-clause-puts : goal.returns-in-Ok-clause-puts
returns-in-Ok-clause-puts c =
    puts_of_sent places_of Holds _ _ c.args.seat.cable c.args.seat.station c.args.next c.args.bytes c.args.near.now c.send.new.resolver
    c.in-Ok.ensures.ok

pub returns-in-Err-clause-puts : goal.returns-in-Err-clause-puts
returns-in-Err-clause-puts c = puts_same _ _ c.in-Err.ensures.kept
