use Rattle.std.proofs.Common.{◌≡◌, ◌∙◌, List, arith, subst, sym, true}
use Rattle.cable_model.specs.Outcomes.{is_seated}
use Rattle.cable_model.specs.declared.seat.Seat.{Seat}
use Rattle.live_cables.proofs.NoRoom.{full_by, long_by, seat_seated}
use Rattle.live_cables.proofs.giving.give.Goals as goal

-- ---- A datagram

pub returns-in-Some-clause-full : goal.returns-in-Some-clause-full
returns-in-Some-clause-full c =
    let is = sym c.seat_of.ensures ∙ c.in-Some.is in
    let there = subst (λ (seats : List Seat). is_seated seats c.in-Some.seat.cable c.in-Some.seat.station ≡ true) c.requires.seats
    (seat_seated c.args.near.now.seats _ c.in-Some.seat is) in
    rw c.in-Made.is (full_by c.send.result _ c.in-Some.seat c.in-Made.bytes 5 c.args.cables.now _ is there (omega arith) c.send.ensures.full)

pub returns-in-Some-clause-ignored : goal.returns-in-Some-clause-ignored
returns-in-Some-clause-ignored c =
    let is = sym c.seat_of.ensures ∙ c.in-Some.is in
    let there = subst (λ (seats : List Seat). is_seated seats c.in-Some.seat.cable c.in-Some.seat.station ≡ true) c.requires.seats
    (seat_seated c.args.near.now.seats _ c.in-Some.seat is) in
    rw c.in-Made.is (λ none. c.send.ensures.long there (long_by _ c.in-Some.seat c.in-Made.bytes 5 is (omega arith) none))

-- ---- An AARP frame

pub returns-in-Some-seat_of-clause-full : goal.returns-in-Some-seat_of-clause-full
returns-in-Some-seat_of-clause-full c =
    let is = sym c.seat_of-in-Wire.ensures ∙ c.in-Some-seat_of.is in
    let there = subst (λ (seats : List Seat). is_seated seats c.in-Some-seat_of.seat.cable c.in-Some-seat_of.seat.station ≡ true)
    c.requires.seats (seat_seated c.args.near.now.seats _ c.in-Some-seat_of.seat is) in
    rw c.in-Wire.is (full_by c.put.result _ c.in-Some-seat_of.seat c.in-Wire.bytes 1 c.args.cables.now _ is there (omega arith) c.put.ensures.full)

pub returns-in-Some-seat_of-clause-ignored : goal.returns-in-Some-seat_of-clause-ignored
returns-in-Some-seat_of-clause-ignored c =
    let is = sym c.seat_of-in-Wire.ensures ∙ c.in-Some-seat_of.is in
    let there = subst (λ (seats : List Seat). is_seated seats c.in-Some-seat_of.seat.cable c.in-Some-seat_of.seat.station ≡ true)
    c.requires.seats (seat_seated c.args.near.now.seats _ c.in-Some-seat_of.seat is) in
    rw c.in-Wire.is (λ none. c.put.ensures.long there (long_by _ c.in-Some-seat_of.seat c.in-Wire.bytes 1 is (omega arith) none))
