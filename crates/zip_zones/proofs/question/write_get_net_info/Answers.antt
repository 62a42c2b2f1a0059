use Rattle.zip_zones.proofs.Written.{question_written}
use Rattle.zip_zones.proofs.question.write_get_net_info.Goals as goal

pub returns-clause-ok : goal.returns-clause-ok
returns-clause-ok c =
    rw (
      c.from_vec.ensures,
      (c.in_ok-put_text.ensures {u = tt}).put,
      c.in_ok-extend_from_slice.ensures.items,
      c.in_ok-bytes.ensures.items,
      c.front.ensures,
    )
    (question_written c.args.asked.now)
