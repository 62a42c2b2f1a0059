use Rattle.live_router.proofs.Short.{response_short}
use Rattle.cabled.proofs.asked.put_response.Goals as goal

pub put-requires : goal.put-requires
put-requires c =
    rw (c.as_slice.ensures, (c.in_ok-response.ensures {u = tt}).made.1)
    (response_short c.args.way.now.header.source c.args.range)
