use Rattle.std.proofs.Common.{◌≤◌, ℕ, [], ◌∷◌, arith, length}
use Rattle.at_base.specs.Limits.{max_data}
use Rattle.survey.proofs.Shape.{query_short}
use Rattle.survey.proofs.writing.zones_data.Goals as goal

pub returns-in-Ok-clause-short : goal.returns-in-Ok-clause-short
returns-in-Ok-clause-short c = rw (c.in-Ok.ensures {u = tt}).ok (query_short c.args.net)
