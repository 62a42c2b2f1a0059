use Rattle.std.proofs.Common.{refl}
use Rattle.std.proofs.lemmas.Option.{slice_get_read}
use Rattle.std.proofs.lemmas.Result.{on_ok_weaker}
use Rattle.std.specs.Prelude.{length}
use Rattle.frozen.proofs.steps.take.Goals as goal

pub take-requires-clause-seats : goal.take-requires-clause-seats
take-requires-clause-seats g c =
    c.requires.seated c.index_mut-taker.result.now
    (slice_get_read c.args.stations.now.items (length c.args.stations.now.items) c.args.station c.index_mut-taker.result.now refl
    c.requires.there c.index_mut-taker.ensures.value)

pub returns-clause-ok : goal.returns-clause-ok
returns-clause-ok g c =
    on_ok_weaker c.take.result (λ taken. record {
      member = c.index_mut-taker.result.now;
      known =
          slice_get_read c.args.stations.now.items (length c.args.stations.now.items) c.args.station c.index_mut-taker.result.now refl
          c.requires.there c.index_mut-taker.ensures.value;
      after = c.take.new.taker;
      changed = refl;
      taken = taken;
    })
    c.take.ensures.taken
