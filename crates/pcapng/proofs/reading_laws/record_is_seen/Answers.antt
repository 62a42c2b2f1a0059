use Rattle.pcapng.proofs.Spelled.{record_again}
use Rattle.pcapng.proofs.reading_laws.record_is_seen.Goals as goal

pub returns : goal.returns
returns c = λ o f link seconds fraction len bytes rest s r l few. record_again o f link seconds fraction len bytes s r l few rest
