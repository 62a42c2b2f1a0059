use Rattle.router.proofs.Onward.{keeps_the_body}
use Rattle.router.proofs.laws.forwarding_keeps_the_body.Goals as goal

pub returns : goal.returns
returns c = keeps_the_body
