use Rattle.pcapng.proofs.Spelled.{header_again}
use Rattle.pcapng.proofs.reading_laws.header_is_opened.Goals as goal

pub returns : goal.returns
returns c = λ o f zone accuracy limit link rest z a m l. header_again o f zone accuracy limit link z a m l rest
