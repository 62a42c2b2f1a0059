use Rattle.table_cases.proofs.mappers.meet.Goals as goal

pub meet-requires-clause-few : goal.meet-requires-clause-few
meet-requires-clause-few c = c.in_ok-learn.ensures.few
