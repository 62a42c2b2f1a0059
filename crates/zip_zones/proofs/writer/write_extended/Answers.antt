use Rattle.std.proofs.Common.{ℕ, ◌∷◌, ap, ◌∙◌, arith}
use Rattle.zip_zones.specs.Written.{entries_bytes, entries_of}
use Rattle.zip_zones.proofs.Written.{entries_sized, extended_written}
use Rattle.zip_zones.proofs.writer.write_extended.Goals as goal

pub returns-clause-ok : goal.returns-clause-ok
returns-clause-ok c =
    let es = entries_of c.args.net c.args.names.now in
    rw (
      c.from_vec.ensures,
      (c.in_ok-put_entries.ensures {u = tt}).put,
      c.in_ok-extend_from_slice.ensures.items,
      c.in_ok-bytes.ensures.items,
    )
    (ap (λ (n : ℕ). n ∷ c.args.total ∷ entries_bytes es) c.number.ensures
    ∙ extended_written c.args.total es (omega (arith, c.ranges.total.fits)))

pub returns-clause-short : goal.returns-clause-short
returns-clause-short c =
    let es = entries_of c.args.net c.args.names.now in
    rw (
      c.from_vec.ensures,
      (c.in_ok-put_entries.ensures {u = tt}).put,
      c.in_ok-extend_from_slice.ensures.items,
      c.in_ok-bytes.ensures.items,
    )
    (omega (arith, entries_sized c.args.net c.args.names.now, c.in_ok-len.ensures.ok))
