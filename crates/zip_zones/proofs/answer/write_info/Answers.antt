use Rattle.zip_zones.proofs.Written.{info_written}
use Rattle.zip_zones.proofs.answer.write_info.Goals as goal

pub returns-clause-ok : goal.returns-clause-ok
returns-clause-ok c =
    rw (
      c.from_vec.ensures,
      (c.in_ok-put_default.ensures {u = tt}).put,
      (c.in_ok-put_group.ensures {u = tt}).put,
      (c.in_ok-put_text.ensures {u = tt}).put,
      (c.in_ok-put_range.ensures {u = tt}).put,
      c.in_ok-extend_from_slice.ensures.items,
      c.in_ok-bytes.ensures.items,
      c.front.ensures.bytes,
    )
    (info_written c.args.info.now c.front.ensures.fits c.requires)
