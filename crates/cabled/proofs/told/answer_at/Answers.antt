use Rattle.std.proofs.Common.{sym}
use Rattle.std.proofs.lemmas.List.{append-nil}
use Rattle.std.proofs.lemmas.Option.{slice_get_past}
use Rattle.cabled.proofs.told.answer_at.Goals as goal

pub returns-clause-put : goal.returns-clause-put
returns-clause-put c =
    λ peers. rw (slice_get_past c.args.ports.now c.args.number c.if-number-ports.false) (sym (append-nil c.args.puts.now.items))
