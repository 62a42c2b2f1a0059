use Rattle.std.proofs.Common.{ℕ, ◌∷◌, length, ap, ◌∙◌, arith}
use Rattle.zip_zones.specs.Written.{networks_bytes}
use Rattle.zip_zones.proofs.Written.{query_written}
use Rattle.zip_zones.proofs.writer.write_query.Goals as goal

pub returns-clause-ok : goal.returns-clause-ok
returns-clause-ok c =
    let nets = c.args.networks.now in
    rw (
      c.from_vec.ensures,
      (c.in_ok-put_networks.ensures {u = tt}).put,
      c.in_ok-extend_from_slice.ensures.items,
      c.in_ok-bytes.ensures.items,
    )
    (ap (λ (n : ℕ). n ∷ length nets ∷ networks_bytes nets) c.number.ensures
    ∙ query_written nets (omega (arith, c.if-networks-gt-MAX_NETWORKS.false)))
