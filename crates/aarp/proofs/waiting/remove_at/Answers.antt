use Rattle.std.proofs.Common.{◌∙◌}
use Rattle.aarp.proofs.Turns.{turned_without}
use Rattle.aarp.proofs.waiting.remove_at.Goals as goal

pub returns-clause-rest : goal.returns-clause-rest
returns-clause-rest c =
    let end = c.turn-2.ensures.turned in
    let mid = c.pop_front-taken.ensures.items in
    (rw (mid, c.turn.ensures.turned, c.len-len.ensures.len) at end) ∙ turned_without c.args.queue.now.items c.args.place c.requires
