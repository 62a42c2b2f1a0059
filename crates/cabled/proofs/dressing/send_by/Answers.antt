use Rattle.std.proofs.Common.{sym}
use Rattle.std.proofs.lemmas.List.{append-nil}
use Rattle.std.proofs.lemmas.Option.{slice_get_past}
use Rattle.cabled.proofs.dressing.send_by.Goals as goal

pub returns-else-number-ports-clause-put : goal.returns-else-number-ports-clause-put
returns-else-number-ports-clause-put c =
    rw (slice_get_past c.args.ports.now c.args.number c.if-number-ports.false) (sym (append-nil c.args.puts.now.items))
