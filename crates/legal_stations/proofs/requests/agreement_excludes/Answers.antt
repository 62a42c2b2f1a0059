use Rattle.legal_stations.proofs.Disagreeing.{first_cable_on, last_cable_here, nobody_on, own_cable_round, rowless_here, rowless_on}
use Rattle.legal_stations.proofs.Disagreeing.{second_port, third_port, unlisted_here, unlisted_on}
use Rattle.legal_stations.proofs.requests.agreement_excludes.Goals as goal

pub returns : goal.returns
returns c = record {
  nowhere = (rowless_here, rowless_on);
  there = (second_port, third_port, last_cable_here, unlisted_here);
  on = (own_cable_round, first_cable_on, nobody_on, unlisted_on);
}
