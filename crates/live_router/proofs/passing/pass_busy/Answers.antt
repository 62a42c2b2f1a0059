use Rattle.std.proofs.Common.{length}
use Rattle.station.proofs.MadeLawful.{made_lawful}
use Rattle.live_router.proofs.passing.pass_busy.Goals as goal

pub returns-clause-ok : goal.returns-clause-ok
returns-clause-ok g c =
    let passed = c.in_ok-made.ensures {u = tt} in
    record {
      added = c.in_ok-made.field-0.made.items;
      grown = rw (← c.room.ensures.kept) c.append.ensures;
      holds = passed.made;
      lawful = made_lawful (length c.args.router.now.ports) c.in_ok-made.field-0.made.items passed.good passed.few;
    }
