use Rattle.std.proofs.Common.{refl}
use Rattle.legal_runs.proofs.laws.the_echo_is_legal.Goals as goal
use Rattle.legal_runs.proofs.Echo.{echo_is_legal}

pub returns : goal.returns
returns c = record { legal = echo_is_legal; asked = (refl, refl); replied = (refl, refl); done = (refl, refl) }
