use Rattle.std.proofs.Common.{◌∙◌}
use Rattle.survey.proofs.writing.routes_data.Goals as goal

pub returns-clause-ok : goal.returns-clause-ok
returns-clause-ok c = (c.in_ok-copy.ensures {u = tt}).ok ∙ c.write.ensures.1
