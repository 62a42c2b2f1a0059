use Rattle.lasting.proofs.Moving.{data_moves_rows}
use Rattle.lasting.proofs.laws.routing_data_moves_rows.Goals as goal

pub returns : goal.returns
returns c =
    λ i r n s q m range w l new choice rows packet added ok settled bounded mine theirs at is sent h.
    data_moves_rows i ok settled bounded r n s q m range w l new choice rows packet added mine theirs at is sent h
