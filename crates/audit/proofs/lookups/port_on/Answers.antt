use Rattle.std.proofs.Common.{◌∙◌, ap, position, ◌==◌}
use Rattle.audit.proofs.Finding.{index_position}
use Rattle.audit.proofs.lookups.port_on.Goals as goal

pub returns : goal.returns
returns c = c.search_ports.ensures
    ∙ (ap (position (λ p. p.cable == c.args.cable)) c.as_slice.ensures
    ∙ index_position (λ p. p.cable == c.args.cable) c.args.router.now.ports)
