use Rattle.std.proofs.Common.{◌≡◌, ◌≤◌, ◌<◌, ℕ, Err, List, length, refl, ap, sym, ◌∙◌, slice_get, subst, take, inl, inr}
use Rattle.std.specs.Prelude.{IsSome}
use Rattle.aarp.specs.Mapping.{to_ask}
use Rattle.at_base.specs.declared.address.Addr.{Addr}
use Rattle.at_base.specs.declared.error.Error.TheVariants.{Full}
use Rattle.cable_model.specs.declared.seat.Seat.{Seat}
use Rattle.live_cables.specs.Finding.{held_at}
use Rattle.live_cables.specs.Holding.{AreShed}
use Rattle.live_cables.specs.Putting.{AreAsked}
use Rattle.live_cables.proofs.Calls.{due_now, midst_put, plays_midst, plays_to, plays_done}
use Rattle.live_cables.proofs.Exact.{AreNow, gone_now, loses_now, passes_for}
use Rattle.live_cables.proofs.NoRoom.{seat_there}
use Rattle.live_cables.proofs.Parts.{asks_now}
use Rattle.live_cables.proofs.Shed.{puts_shed, shed_done, shed_plays, shed_rooms}
use Rattle.live_cables.proofs.Whole.{knows_ticked, stays_known, whole_known, wires}
use Rattle.live_cables.proofs.live.LiveCables.pass.Goals as goal
use Rattle.live_cables.proofs.live.LiveCables.pass.Goals.{in-Ok-shed_all, in-Err-shed_all}

-- No room for a request.
pub returns-in-Err-clause-no_room : goal.returns-in-Err-clause-no_room
returns-in-Err-clause-no_room c =
    rw (← c.self.view_is)
    (λ some none. let refused = c.in-Err.ensures.no_room
    (subst (λ (s : List Seat). IsSome (slice_get s c.args.seat))
    (sym (ap (λ k. k.seats) c.tick-asks.ensures.waits ∙ c.self.invariant.0))
    (seat_there c.self.inside.cables.seats c.self.inside.near.maps c.args.seat c.self.invariant.2 some))
    (subst (λ (l : List Addr). 1 ≤ length l) (sym (c.as_slice.ensures.value ∙ c.tick-asks.ensures.ask)) some) none in
    let same : c.in-Err.error ≡ Full = cc in ap Err same)

pub returns-in-Err-lose_from-clause-no_room : goal.returns-in-Err-lose_from-clause-no_room
returns-in-Err-lose_from-clause-no_room c =
    rw (← c.self.view_is)
    (λ some none. absurd (let refused = c.in-Ok.ensures.no_room
    (subst (λ (s : List Seat). IsSome (slice_get s c.args.seat))
    (sym (ap (λ k. k.seats) c.tick-asks.ensures.waits ∙ c.self.invariant.0))
    (seat_there c.self.inside.cables.seats c.self.inside.near.maps c.args.seat c.self.invariant.2 some))
    (subst (λ (l : List Addr). 1 ≤ length l) (sym (c.as_slice.ensures.value ∙ c.tick-asks.ensures.ask)) some) none in cc))

pub returns-clause-no_room : goal.returns-clause-no_room
returns-clause-no_room c =
    rw (← c.self.view_is)
    (λ some none. absurd (let refused = c.in-Ok.ensures.no_room
    (subst (λ (s : List Seat). IsSome (slice_get s c.args.seat))
    (sym (ap (λ k. k.seats) c.tick-asks.ensures.waits ∙ c.self.invariant.0))
    (seat_there c.self.inside.cables.seats c.self.inside.near.maps c.args.seat c.self.invariant.2 some))
    (subst (λ (l : List Addr). 1 ≤ length l) (sym (c.as_slice.ensures.value ∙ c.tick-asks.ensures.ask)) some) none in cc))

pub returns-in-Err-clause-plays : goal.returns-in-Err-clause-plays
returns-in-Err-clause-plays c =
    let near = c.self.inside.near in
    rw (← c.self.view_is)
    (plays_midst 0 _ _
    (stays_known c.self.inside.cables c.ask_all.new.cables near near c.tick-asks.new.self c.self.inside.losing.items near.station refl
    (knows_ticked near c.tick-asks.new.self c.args.seat c.tick-asks.ensures.waits))
    (midst_put _ c.self.inside.cables c.ask_all.new.cables c.ask_all.ensures.puts))

pub invariant_of-self : goal.invariant_of-self
invariant_of-self c =
    whole_known c.self.inside.limit c.self.inside.cables c.ask_all.new.cables c.self.inside.near c.tick-asks.new.self c.self.invariant
    (knows_ticked c.self.inside.near c.tick-asks.new.self c.args.seat c.tick-asks.ensures.waits)
    c.ask_all.ensures.puts.seats c.ask_all.ensures.puts.limit (c.ask_all.ensures.rooms ∙ c.self.invariant.3)

pub invariant_of-self-in-Err-lose_from : goal.invariant_of-self-in-Err-lose_from
invariant_of-self-in-Err-lose_from c =
    whole_known c.self.inside.limit c.self.inside.cables c.lose_from.new.cables c.self.inside.near c.tick-asks.new.self c.self.invariant
    (knows_ticked c.self.inside.near c.tick-asks.new.self c.args.seat c.tick-asks.ensures.waits)
    (c.lose_from.ensures.loses.seats ∙ c.ask_all.ensures.puts.seats)
    (c.lose_from.ensures.loses.limit ∙ c.ask_all.ensures.puts.limit)
    (c.lose_from.ensures.rooms ∙ (c.ask_all.ensures.rooms ∙ c.self.invariant.3))

pub returns-in-Err-lose_from-clause-plays : goal.returns-in-Err-lose_from-clause-plays
returns-in-Err-lose_from-clause-plays c =
    let near = c.self.inside.near in
    rw (← c.self.view_is)
    (plays_to 0 _ _ c.ask_all.new.cables c.transcript-from.result.now c.deref.result.now
    (stays_known c.self.inside.cables c.lose_from.new.cables near near c.tick-asks.new.self c.self.inside.losing.items near.station refl
    (knows_ticked near c.tick-asks.new.self c.args.seat c.tick-asks.ensures.waits))
    (midst_put _ c.self.inside.cables c.ask_all.new.cables c.ask_all.ensures.puts) c.transcript-from.ensures.value c.deref.ensures.value
    c.lose_from.ensures.loses)

pub invariant_of-self-2 : goal.invariant_of-self-2
invariant_of-self-2 c =
    whole_known c.self.inside.limit c.self.inside.cables c.shed_all.new.cables c.self.inside.near c.tick-asks.new.self c.self.invariant
    (knows_ticked c.self.inside.near c.tick-asks.new.self c.args.seat c.tick-asks.ensures.waits)
    ((puts_shed _ _ _ c.shed_all.ensures.part.1).seats ∙ (c.lose_from.ensures.loses.seats ∙ c.ask_all.ensures.puts.seats))
    ((puts_shed _ _ _ c.shed_all.ensures.part.1).limit ∙ (c.lose_from.ensures.loses.limit ∙ c.ask_all.ensures.puts.limit))
    (shed_rooms _ _ _ c.shed_all.ensures.part.1 ∙ (c.lose_from.ensures.rooms ∙ (c.ask_all.ensures.rooms ∙ c.self.invariant.3)))

pub returns-clause-plays : goal.returns-clause-plays
returns-clause-plays c =
    let near = c.self.inside.near in
    let old = wires c.self.inside.cables near c.self.inside.losing.items in
    rw (← c.self.view_is)
    (shed_plays old (wires c.shed_all.new.cables c.tick-asks.new.self c.self.inside.losing.items) c.lose_from.new.cables
    (stays_known c.self.inside.cables c.shed_all.new.cables near near c.tick-asks.new.self c.self.inside.losing.items near.station refl
    (knows_ticked near c.tick-asks.new.self c.args.seat c.tick-asks.ensures.waits))
    (take c.shed_all.ensures.part.0 c.as_slice-2.result.now) c.shed_all.ensures.part.1
    (plays_to 0 old (wires c.lose_from.new.cables near c.self.inside.losing.items) c.ask_all.new.cables c.transcript-from.result.now
    c.deref.result.now (record { own = refl; ranges = refl; losing = refl })
    (midst_put _ c.self.inside.cables c.ask_all.new.cables c.ask_all.ensures.puts) c.transcript-from.ensures.value c.deref.ensures.value
    c.lose_from.ensures.loses))

pub returns-clause-done : goal.returns-clause-done
returns-clause-done c =
    let near = c.self.inside.near in
    let old = wires c.self.inside.cables near c.self.inside.losing.items in
    elim c.match-shed_all.branch [
      | in-Ok-shed_all w ↦
          rw (← c.self.view_is, w.result-is)
          (shed_done old (wires c.shed_all.new.cables c.tick-asks.new.self c.self.inside.losing.items) c.lose_from.new.cables
          (stays_known c.self.inside.cables c.shed_all.new.cables near near c.tick-asks.new.self c.self.inside.losing.items near.station
          refl (knows_ticked near c.tick-asks.new.self c.args.seat c.tick-asks.ensures.waits))
          c.as_slice-2.result.now w.in-Ok-shed_all.ensures.shed 0
          (plays_done 0 old (wires c.lose_from.new.cables near c.self.inside.losing.items) c.ask_all.new.cables
          c.transcript-from.result.now c.deref.result.now (record { own = refl; ranges = refl; losing = refl })
          (midst_put _ c.self.inside.cables c.ask_all.new.cables c.ask_all.ensures.puts) c.transcript-from.ensures.value
          c.deref.ensures.value c.lose_from.ensures.loses c.in-Ok-lose_from.ensures.gone))
      | in-Err-shed_all w ↦ rw w.result-is tt
    ]

pub returns-clause-passed : goal.returns-clause-passed
returns-clause-passed c =
    let near = c.self.inside.near in
    let ticked = c.tick-asks.new.self in
    let seats = ap (λ k. k.seats) c.tick-asks.ensures.waits ∙ c.self.invariant.0 in
    let own = ap (λ k. k.own) c.tick-asks.ensures.waits in
    let asked =
    subst (λ (s : List Seat). AreAsked (slice_get s c.args.seat) (slice_get near.own c.args.seat) (to_ask (held_at near.maps c.args.seat))
    c.self.inside.cables c.ask_all.new.cables) seats
    (subst (λ l. AreAsked (slice_get ticked.seats c.args.seat) (slice_get l c.args.seat) (to_ask (held_at near.maps c.args.seat))
    c.self.inside.cables c.ask_all.new.cables) own
    (subst (λ l. AreAsked (slice_get ticked.seats c.args.seat) (slice_get ticked.own c.args.seat) l c.self.inside.cables
    c.ask_all.new.cables) (c.as_slice.ensures.value ∙ c.tick-asks.ensures.ask) c.in-Ok.ensures.asked)) in
    elim c.match-shed_all.branch [
      | in-Ok-shed_all w ↦
          let gone = subst (λ l. AreShed l c.lose_from.new.cables c.shed_all.new.cables)
          (c.as_slice-2.ensures.value ∙ c.tick-asks.ensures.shed) w.in-Ok-shed_all.ensures.shed in
          rw (← c.self.view_is, w.result-is)
          (passes_for (wires c.self.inside.cables near c.self.inside.losing.items)
          (wires c.shed_all.new.cables ticked c.self.inside.losing.items) c.transcript-from.result.now c.deref.result.now
          (record { lines_are = c.transcript-from.ensures.value; losing_are = c.deref.ensures.value }) c.args.seat c.ask_all.new.cables
          c.lose_from.new.cables asked c.lose_from.ensures.loses gone (ap (λ k. k.maps) c.tick-asks.ensures.waits)
          (stays_known c.self.inside.cables c.shed_all.new.cables near near ticked c.self.inside.losing.items near.station refl
          (knows_ticked near ticked c.args.seat c.tick-asks.ensures.waits)))
      | in-Err-shed_all w ↦ rw w.result-is tt
    ]

-- ---- What was done before an error

pub returns-in-Err-clause-part : goal.returns-in-Err-clause-part
returns-in-Err-clause-part c =
    let near = c.self.inside.near in
    let ticked = c.tick-asks.new.self in
    let part = c.in-Err.ensures.part in
    rw (← c.self.view_is) (
      inl (
        part.0,
        subst (λ (l : List Addr). part.0 < length l) (c.as_slice.ensures.value ∙ c.tick-asks.ensures.ask) part.1,
        asks_now near ticked c.self.inside.cables c.args.seat _ (take part.0 (to_ask (held_at near.maps c.args.seat)))
            c.ask_all.new.cables (ap (λ k. k.seats) c.tick-asks.ensures.waits ∙ c.self.invariant.0)
            (ap (λ k. k.own) c.tick-asks.ensures.waits)
            (ap (take part.0) (c.as_slice.ensures.value ∙ c.tick-asks.ensures.ask)) part.2,
      ),
      ap (λ k. k.maps) c.tick-asks.ensures.waits,
      stays_known c.self.inside.cables c.ask_all.new.cables near near ticked c.self.inside.losing.items near.station refl
          (knows_ticked near ticked c.args.seat c.tick-asks.ensures.waits),
    )

pub returns-in-Err-lose_from-clause-part : goal.returns-in-Err-lose_from-clause-part
returns-in-Err-lose_from-clause-part c =
    let near = c.self.inside.near in
    let ticked = c.tick-asks.new.self in
    rw (← c.self.view_is) (
      inr (
        c.ask_all.new.cables,
        asks_now near ticked c.self.inside.cables c.args.seat _ (to_ask (held_at near.maps c.args.seat))
            c.ask_all.new.cables (ap (λ k. k.seats) c.tick-asks.ensures.waits ∙ c.self.invariant.0)
            (ap (λ k. k.own) c.tick-asks.ensures.waits) (c.as_slice.ensures.value ∙ c.tick-asks.ensures.ask) c.in-Ok.ensures.asked,
        inl (
          loses_now (wires c.self.inside.cables near c.self.inside.losing.items)
              (wires c.lose_from.new.cables ticked c.self.inside.losing.items) c.transcript-from.result.now c.deref.result.now
              (record { lines_are = c.transcript-from.ensures.value; losing_are = c.deref.ensures.value }) c.ask_all.new.cables
              c.lose_from.new.cables c.lose_from.ensures.loses,
          due_now 0 (wires c.self.inside.cables near c.self.inside.losing.items)
              (wires c.lose_from.new.cables ticked c.self.inside.losing.items) c.ask_all.new.cables c.transcript-from.result.now
              c.deref.result.now
              (stays_known c.self.inside.cables c.lose_from.new.cables near near ticked c.self.inside.losing.items near.station refl
              (knows_ticked near ticked c.args.seat c.tick-asks.ensures.waits))
              (midst_put _ c.self.inside.cables c.ask_all.new.cables c.ask_all.ensures.puts) c.transcript-from.ensures.value
              c.deref.ensures.value c.lose_from.ensures.loses c.in-Err-lose_from.ensures.due,
        ),
      ),
      ap (λ k. k.maps) c.tick-asks.ensures.waits,
      stays_known c.self.inside.cables c.lose_from.new.cables near near ticked c.self.inside.losing.items near.station refl
          (knows_ticked near ticked c.args.seat c.tick-asks.ensures.waits),
    )

pub returns-clause-part : goal.returns-clause-part
returns-clause-part c =
    let near = c.self.inside.near in
    let ticked = c.tick-asks.new.self in
    let old = wires c.self.inside.cables near c.self.inside.losing.items in
    let new = wires c.shed_all.new.cables ticked c.self.inside.losing.items in
    let now : AreNow old c.transcript-from.result.now c.deref.result.now =
    record { lines_are = c.transcript-from.ensures.value; losing_are = c.deref.ensures.value } in
    elim c.match-shed_all.branch [
      | in-Ok-shed_all w ↦ rw w.result-is tt
      | in-Err-shed_all w ↦
          let part = w.in-Err-shed_all.ensures.part in
          rw (← c.self.view_is, w.result-is) (
            inr (
              c.ask_all.new.cables,
              asks_now near ticked c.self.inside.cables c.args.seat _ (to_ask (held_at near.maps c.args.seat))
                  c.ask_all.new.cables (ap (λ k. k.seats) c.tick-asks.ensures.waits ∙ c.self.invariant.0)
                  (ap (λ k. k.own) c.tick-asks.ensures.waits) (c.as_slice.ensures.value ∙ c.tick-asks.ensures.ask)
                  c.in-Ok.ensures.asked,
              inr (
                c.lose_from.new.cables,
                loses_now old new c.transcript-from.result.now c.deref.result.now now c.ask_all.new.cables c.lose_from.new.cables
                    c.lose_from.ensures.loses,
                gone_now old new c.transcript-from.result.now c.deref.result.now now c.ask_all.new.cables c.lose_from.new.cables
                    c.in-Ok-lose_from.ensures.gone,
                part.0,
                subst (λ (l : List ℕ). part.0 < length l) (c.as_slice-2.ensures.value ∙ c.tick-asks.ensures.shed)
                    part.2,
                subst (λ l. AreShed (take part.0 l) c.lose_from.new.cables c.shed_all.new.cables)
                    (c.as_slice-2.ensures.value ∙ c.tick-asks.ensures.shed) part.1,
              ),
            ),
            ap (λ k. k.maps) c.tick-asks.ensures.waits,
            stays_known c.self.inside.cables c.shed_all.new.cables near near ticked c.self.inside.losing.items near.station refl
                (knows_ticked near ticked c.args.seat c.tick-asks.ensures.waits),
          )
    ]
