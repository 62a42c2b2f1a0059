use Rattle.atp.proofs.requester.Requester.begin.Goals as goal

pub returns-clause-id : goal.returns-clause-id
returns-clause-id c = rw (← c.self.view_is) c.next_id-id.ensures
