use Rattle.std.proofs.Common.{◌≡◌, ◌↔◌, ◌<◌, ◌+◌, true, false, length, OnOk, Err, sym, subst}
use Rattle.std.proofs.lemmas.Result.{on_ok_weaker}
use Rattle.std.specs.List.{list_any}
use Rattle.at_base.specs.declared.error.Error.TheVariants.{Full, NotPending}
use Rattle.cable_model.proofs.AtOnce.{taken_at_once}
use Rattle.cable_model.specs.Outcomes.{is_named}
use Rattle.cable_model.specs.Rooms.{known_rooms}
use Rattle.cable_model.specs.declared.room.Rooms.{Rooms}
use Rattle.image_stations.proofs.Answering.{always_answered}
use Rattle.legal_runs.specs.Legs.{places_of}
use Rattle.run_cables.specs.Wired.{AreStill, IsTakenOn, cabling_of, pending_for, take_room}
use Rattle.run_cables.specs.declared.wiring.Wiring.{Wiring}
use Rattle.run_cables.specs.declared.wiring.Wiring.TheVariants.{Known}
use Rattle.run_cables.proofs.wiring.Wiring.take.Goals as goal

pub returns-in-Known-clause-taken : goal.returns-in-Known-clause-taken
returns-in-Known-clause-taken g c =
    subst (λ (w : Wiring). OnOk c.take.result (IsTakenOn (places_of c.args.places.now) c.args.stamp c.args.station
    (g.S.Station.ports_of c.args.taker.now) (λ h added. g.S.Station.hears c.args.taker.now h added c.take.new.taker) w
    (Known c.take.new.self))) (sym c.in-Known.is)
    (on_ok_weaker c.take.result (λ taken. (taken_at_once _ _ _ _ _ _ _ _ _ _ (always_answered c.args.places.now) taken).0)
    c.take.ensures.ok)

pub returns-in-Known-clause-not_pending : goal.returns-in-Known-clause-not_pending
returns-in-Known-clause-not_pending g c =
    subst (λ (w : Wiring). (c.take.result ≡ Err NotPending) ↔ (list_any (is_named c.args.stamp c.args.station) (pending_for w) ≡ false))
    (sym c.in-Known.is) c.take.ensures.not_pending

pub returns-in-Known-clause-full : goal.returns-in-Known-clause-full
returns-in-Known-clause-full g c =
    let rooms : c.in-Known.cables.rooms ≡ known_rooms = subst AreStill c.in-Known.is c.requires.still in
    subst (λ (w : Wiring). (c.take.result ≡ Err Full) ↔ ((list_any (is_named c.args.stamp c.args.station) (pending_for w) ≡ true)
    × ((cabling_of w).limit < length (cabling_of w).lines + take_room w))) (sym c.in-Known.is)
    (subst (λ (r : Rooms). (c.take.result ≡ Err Full) ↔ ((list_any (is_named c.args.stamp c.args.station)
    (pending_for (Known c.in-Known.cables)) ≡ true) × (c.in-Known.cables.limit < length c.in-Known.cables.lines + r.take.lines)))
    rooms c.take.ensures.full)

pub returns-in-Asking-clause-not_pending : goal.returns-in-Asking-clause-not_pending
returns-in-Asking-clause-not_pending g c =
    subst (λ (w : Wiring). (c.take-in-Asking.result ≡ Err NotPending)
    ↔ (list_any (is_named c.args.stamp c.args.station) (pending_for w) ≡ false)) (sym c.in-Asking.is) c.take-in-Asking.ensures.not_pending

pub returns-in-Asking-clause-full : goal.returns-in-Asking-clause-full
returns-in-Asking-clause-full g c =
    subst (λ (w : Wiring). (c.take-in-Asking.result ≡ Err Full) ↔ ((list_any (is_named c.args.stamp c.args.station) (pending_for w) ≡ true)
    × ((cabling_of w).limit < length (cabling_of w).lines + take_room w))) (sym c.in-Asking.is)
    (c.take-in-Asking.ensures.still_full (subst AreStill c.in-Asking.is c.requires.still))
