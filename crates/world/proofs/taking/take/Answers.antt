use Rattle.std.proofs.Common.{length, refl}
use Rattle.std.proofs.lemmas.Option.{slice_get_read}
use Rattle.std.proofs.lemmas.Result.{on_ok_weaker}
use Rattle.world.proofs.Going.{goes_plays, goes_plays_on}
use Rattle.world.proofs.Received.{take_received}
use Rattle.world.proofs.Stations.{ports_set, seats_at}
use Rattle.world.proofs.Stopped.{take_stopped}
use Rattle.world.proofs.taking.take.Goals as goal

pub take-requires : goal.take-requires
take-requires g c =
    let ms = c.args.stations.now.items in
    let taker = c.index_mut-taker.result.now in
    seats_at c.args.wires.now.cabling.seats ms c.args.station taker c.requires.seated
    (slice_get_read ms (length ms) c.args.station taker refl c.requires.there c.index_mut-taker.ensures.value)

pub returns-clause-ports : goal.returns-clause-ports
returns-clause-ports g c =
    let ms = c.args.stations.now.items in
    let taker = c.index_mut-taker.result.now in
    ports_set ms c.args.station taker c.take.new.taker
    (slice_get_read ms (length ms) c.args.station taker refl c.requires.there c.index_mut-taker.ensures.value) c.take.ensures.ports_stay

pub returns-clause-goes : goal.returns-clause-goes
returns-clause-goes g c = goes_plays _ _ c.take.ensures.plays

pub returns-clause-done : goal.returns-clause-done
returns-clause-done g c = on_ok_weaker c.take.result (λ d. goes_plays_on 1 _ _ d) c.take.ensures.done

pub returns-clause-received : goal.returns-clause-received
returns-clause-received g c =
    let ms = c.args.stations.now.items in
    let taker = c.index_mut-taker.result.now in
    take_received ms c.args.station c.args.wires.now c.take.new.self c.args.stamp taker c.take.new.taker c.take.result
    (slice_get_read ms (length ms) c.args.station taker refl c.requires.there c.index_mut-taker.ensures.value) c.take.ensures.heard
    c.take.ensures.stopped

pub returns-clause-taken : goal.returns-clause-taken
returns-clause-taken g c =
    let ms = c.args.stations.now.items in
    let taker = c.index_mut-taker.result.now in
    on_ok_weaker c.take.result
    (λ t. record {
      m = taker;
      after = c.take.new.taker;
      there = slice_get_read ms (length ms) c.args.station taker refl c.requires.there c.index_mut-taker.ensures.value;
      does = t;
      set = refl;
    }) c.take.ensures.taken

pub returns-clause-stopped : goal.returns-clause-stopped
returns-clause-stopped g c =
    let ms = c.args.stations.now.items in
    let taker = c.index_mut-taker.result.now in
    take_stopped ms c.args.station c.args.stamp c.args.wires.now c.take.new.self taker c.take.new.taker
    (slice_get_read ms (length ms) c.args.station taker refl c.requires.there c.index_mut-taker.ensures.value) c.take.result
    c.take.ensures.stopped
