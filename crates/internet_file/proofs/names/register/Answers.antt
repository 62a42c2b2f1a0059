use Rattle.std.proofs.Common.{◌∙◌}
use Rattle.internet_file.proofs.Registered.{registers}
use Rattle.internet_file.proofs.names.register.Goals as goal

pub returns-in-Ok-clause-added : goal.returns-in-Ok-clause-added
returns-in-Ok-clause-added c _ =
    c.in-Ok.ensures.added
    ∙ registers c.args.names.now c.args.service.now c.in-Ok.field-0 c.entries-names.ensures.names c.in-Ok.ensures.free
