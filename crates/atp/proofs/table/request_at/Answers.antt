use Rattle.std.proofs.Common.{sym}
use Rattle.atp.proofs.table.request_at.Goals as goal

pub request-requires-clause-release : goal.request-requires-clause-release
request-requires-clause-release c = (c.requires c.in-Some.transaction.now (sym c.in-Some.ensures)).release
