use Rattle.std.proofs.Common.{◌≡◌, ◌&&◌, ◌+◌, false, length, nat_lt, true≢false, inr, refl, subst, sym, ◌∙◌}
use Rattle.std.specs.List.{list_any}
use Rattle.std.proofs.lemmas.Result.{on_ok_weaker}
use Rattle.cable_model.specs.Logs.{pending_on}
use Rattle.cable_model.specs.Outcomes.{is_named}
use Rattle.live_cables.proofs.Calls.{due_now, if_refused_due, midst_taken, named_is, never_says, on_ok, plays_kept, plays_to, plays_done, taken_by}
use Rattle.live_cables.proofs.Exact.{takes_in}
use Rattle.live_cables.proofs.Idle.{plays_none}
use Rattle.live_cables.proofs.Knows.{knows_is}
use Rattle.live_cables.proofs.NoRoom.{crowded, not_crowded}
use Rattle.live_cables.proofs.Still.{full_when, no_error, none_loses, on_no_error, takes_still}
use Rattle.live_cables.proofs.Whole.{faced, is_knowing, stays_known, stays_taken, whole_taken, wires}
use Rattle.live_cables.specs.Living.{Wires}
use Rattle.live_cables.proofs.live.LiveCables.take.Goals as goal

-- ---- Too little room

pub returns-then-is_full_for-clause-plays : goal.returns-then-is_full_for-clause-plays
returns-then-is_full_for-clause-plays g c = plays_none c.args.self.now

pub returns-then-is_full_for-clause-not_pending : goal.returns-then-is_full_for-clause-not_pending
returns-then-is_full_for-clause-not_pending g c = (
  λ e. absurd cc,
  λ none. absurd (true≢false (sym (crowded _ _ _ (sym c.is_full_for.ensures ∙ c.if-is_full_for.true)).1 ∙ none)),
)

pub returns-then-is_full_for-clause-full : goal.returns-then-is_full_for-clause-full
returns-then-is_full_for-clause-full g c = λ e. (crowded _ _ _ (sym c.is_full_for.ensures ∙ c.if-is_full_for.true)).0

pub returns-then-is_full_for-clause-still_full : goal.returns-then-is_full_for-clause-still_full
returns-then-is_full_for-clause-still_full g c =
    let full = crowded _ _ _ (sym c.is_full_for.ensures ∙ c.if-is_full_for.true) in λ none. (λ e. (full.1, full.0), λ h. refl)

-- ---- A take that is refused

pub returns-in-Err-clause-no_room : goal.returns-in-Err-clause-no_room
returns-in-Err-clause-no_room g c =
    λ named none. absurd (not_crowded _ _ _ (sym c.is_full_for.ensures ∙ c.if-is_full_for.false) named none)

pub returns-in-Err-clause-plays : goal.returns-in-Err-clause-plays
returns-in-Err-clause-plays g c =
    rw (← c.self.view_is)
    (plays_kept _ _
    (stays_known c.self.inside.cables c.take.new.cables c.self.inside.near c.face.new.self c.take.new.near c.self.inside.losing.items
    c.args.station c.face.ensures (knows_is c.face.new.self c.take.new.near c.in-Err.ensures.near_stays)) c.in-Err.ensures.kept)

pub returns-in-Err-clause-not_pending : goal.returns-in-Err-clause-not_pending
returns-in-Err-clause-not_pending g c = rw (← c.self.view_is) c.in-Err.ensures.not_pending

pub returns-in-Err-clause-still_full : goal.returns-in-Err-clause-still_full
returns-in-Err-clause-still_full g c =
    let free = subst (λ (w : Wires). (nat_lt w.cabling.limit (length w.cabling.lines + 1285)
    && list_any (is_named c.args.stamp c.args.station) (pending_on w.cabling)) ≡ false) (sym c.self.view_is)
    (sym c.is_full_for.ensures ∙ c.if-is_full_for.false) in
    rw (← c.self.view_is) (λ none. full_when _ _ _ _ c.in-Err.ensures.not_pending c.in-Err.ensures.full free)

-- ---- A take

pub returns-clause-no_room : goal.returns-clause-no_room
returns-clause-no_room g c =
    λ named none. absurd (not_crowded _ _ _ (sym c.is_full_for.ensures ∙ c.if-is_full_for.false) named none)

pub invariant_of-self-2 : goal.invariant_of-self-2
invariant_of-self-2 g c =
    whole_taken c.args.stamp c.args.station _ _ (c.self.inside.cables, c.face.new.self) (c.take.new.cables, c.take.new.near)
    c.in-Ok.ensures.taken c.self.inside.limit c.lose_from.new.cables
    (faced c.self.inside.limit c.self.inside.cables c.self.inside.near c.face.new.self c.args.station c.face.ensures c.self.invariant)
    (c.lose_from.ensures.loses.seats ∙ c.in-Ok.ensures.takes.seats) (c.lose_from.ensures.loses.limit ∙ c.in-Ok.ensures.takes.limit)
    c.lose_from.ensures.rooms c.take.ensures.few

pub returns-clause-plays : goal.returns-clause-plays
returns-clause-plays g c =
    rw (← c.self.view_is)
    (plays_to 1 _ _ c.take.new.cables c.transcript-from.result.now c.deref.result.now
    (stays_taken c.args.stamp c.args.station _ _ c.self.inside.cables c.take.new.cables c.lose_from.new.cables c.self.inside.near
    c.face.new.self c.take.new.near c.self.inside.losing.items c.args.station c.face.ensures c.in-Ok.ensures.taken)
    (midst_taken _ _ _ c.args.stamp c.args.station _ c.recall_once.ensures c.in-Ok.ensures.takes)
    c.transcript-from.ensures.value c.deref.ensures.value c.lose_from.ensures.loses)

pub returns-clause-done : goal.returns-clause-done
returns-clause-done g c =
    rw (← c.self.view_is)
    (on_ok_weaker c.lose_from.result
    (plays_done 1 _ _ c.take.new.cables c.transcript-from.result.now c.deref.result.now
    (stays_taken c.args.stamp c.args.station _ _ c.self.inside.cables c.take.new.cables c.lose_from.new.cables c.self.inside.near
    c.face.new.self c.take.new.near c.self.inside.losing.items c.args.station c.face.ensures c.in-Ok.ensures.taken)
    (midst_taken _ _ _ c.args.stamp c.args.station _ c.recall_once.ensures c.in-Ok.ensures.takes)
    c.transcript-from.ensures.value c.deref.ensures.value c.lose_from.ensures.loses) c.lose_from.ensures.gone)

pub returns-clause-heard : goal.returns-clause-heard
returns-clause-heard g c =
    rw (← c.self.view_is)
    (on_ok c.lose_from.result _
    (taken_by _ _ c.take.new.cables _ c.args.stamp c.args.station _ c.in-Ok.ensures.takes c.lose_from.ensures.loses))

pub returns-clause-stopped : goal.returns-clause-stopped
returns-clause-stopped g c =
    let free = subst (λ (w : Wires). (nat_lt w.cabling.limit (length w.cabling.lines + 1285)
    && list_any (is_named c.args.stamp c.args.station) (pending_on w.cabling)) ≡ false) (sym c.self.view_is)
    (sym c.is_full_for.ensures ∙ c.if-is_full_for.false) in
    rw (← c.self.view_is)
    (if_refused_due c.lose_from.result _ c.lose_from.ensures.full c.lose_from.ensures.memory c.lose_from.ensures.refused
    c.lose_from.ensures.due
    (λ e full due. inr (
      takes_in (wires c.self.inside.cables c.self.inside.near c.self.inside.losing.items)
          (wires c.lose_from.new.cables c.take.new.near c.self.inside.losing.items) c.transcript-from.result.now c.deref.result.now
          (record { lines_are = c.transcript-from.ensures.value; losing_are = c.deref.ensures.value }) c.args.stamp c.args.station _ _
          c.face.new.self (c.take.new.cables, c.take.new.near)
          (λ none. not_crowded _ _ _ free (named_is c.self.inside.cables c.args.stamp c.args.station _ c.take.new.cables c.in-Ok.ensures.takes)
          none)
          (is_knowing c.self.inside.cables c.self.inside.near c.face.new.self c.self.inside.losing.items c.args.station c.face.ensures
          c.self.invariant.0) c.in-Ok.ensures.taken c.lose_from.ensures.loses refl
          (stays_taken c.args.stamp c.args.station _ _ c.self.inside.cables c.take.new.cables c.lose_from.new.cables c.self.inside.near
          c.face.new.self c.take.new.near c.self.inside.losing.items c.args.station c.face.ensures c.in-Ok.ensures.taken),
      record {
        full = full;
        due =
            due_now 1 _ (wires c.lose_from.new.cables c.take.new.near c.self.inside.losing.items) c.take.new.cables
            c.transcript-from.result.now c.deref.result.now
            (stays_taken c.args.stamp c.args.station _ _ c.self.inside.cables c.take.new.cables c.lose_from.new.cables c.self.inside.near
            c.face.new.self c.take.new.near c.self.inside.losing.items c.args.station c.face.ensures c.in-Ok.ensures.taken)
            (midst_taken _ _ _ c.args.stamp c.args.station _ c.recall_once.ensures c.in-Ok.ensures.takes)
            c.transcript-from.ensures.value c.deref.ensures.value c.lose_from.ensures.loses due;
      },
    )))

pub returns-clause-not_pending : goal.returns-clause-not_pending
returns-clause-not_pending g c =
    rw (← c.self.view_is)
    (never_says _ _ c.lose_from.ensures.refused (λ p. let said = c.in-Ok.ensures.not_pending.1 p in cc))

pub returns-clause-taken : goal.returns-clause-taken
returns-clause-taken g c =
    let free = subst (λ (w : Wires). (nat_lt w.cabling.limit (length w.cabling.lines + 1285)
    && list_any (is_named c.args.stamp c.args.station) (pending_on w.cabling)) ≡ false) (sym c.self.view_is)
    (sym c.is_full_for.ensures ∙ c.if-is_full_for.false) in
    rw (← c.self.view_is)
    (on_ok c.lose_from.result _
    (takes_in (wires c.self.inside.cables c.self.inside.near c.self.inside.losing.items)
    (wires c.lose_from.new.cables c.take.new.near c.self.inside.losing.items) c.transcript-from.result.now c.deref.result.now
    (record { lines_are = c.transcript-from.ensures.value; losing_are = c.deref.ensures.value }) c.args.stamp c.args.station _ _
    c.face.new.self (c.take.new.cables, c.take.new.near)
    (λ none. not_crowded _ _ _ free (named_is c.self.inside.cables c.args.stamp c.args.station _ c.take.new.cables c.in-Ok.ensures.takes)
    none)
    (is_knowing c.self.inside.cables c.self.inside.near c.face.new.self c.self.inside.losing.items c.args.station c.face.ensures
    c.self.invariant.0) c.in-Ok.ensures.taken c.lose_from.ensures.loses refl
    (stays_taken c.args.stamp c.args.station _ _ c.self.inside.cables c.take.new.cables c.lose_from.new.cables c.self.inside.near
    c.face.new.self c.take.new.near c.self.inside.losing.items c.args.station c.face.ensures c.in-Ok.ensures.taken)))

-- ---- A take where no cable loses frames

pub returns-clause-still_kept : goal.returns-clause-still_kept
returns-clause-still_kept g c =
    rw (← c.self.view_is)
    (λ none. on_no_error c.lose_from.result _ (c.lose_from.ensures.still (none_loses _ _ c.deref.ensures.value none)).0)

pub returns-clause-still_full : goal.returns-clause-still_full
returns-clause-still_full g c =
    let free = subst (λ (w : Wires). (nat_lt w.cabling.limit (length w.cabling.lines + 1285)
    && list_any (is_named c.args.stamp c.args.station) (pending_on w.cabling)) ≡ false) (sym c.self.view_is)
    (sym c.is_full_for.ensures ∙ c.if-is_full_for.false) in
    rw (← c.self.view_is)
    (λ none. (
      λ e. absurd (no_error c.lose_from.result _ (c.lose_from.ensures.still (none_loses _ _ c.deref.ensures.value none)).0 e),
      λ h. absurd (not_crowded _ _ _ free h.0 h.1),
    ))

pub returns-clause-still_taken : goal.returns-clause-still_taken
returns-clause-still_taken g c =
    rw (← c.self.view_is)
    (λ none. on_ok c.lose_from.result _
    (takes_still (wires c.self.inside.cables c.self.inside.near c.self.inside.losing.items)
    (wires c.lose_from.new.cables c.take.new.near c.self.inside.losing.items) c.args.stamp c.args.station _ _ c.face.new.self
    c.take.new.cables c.take.new.near
    (is_knowing c.self.inside.cables c.self.inside.near c.face.new.self c.self.inside.losing.items c.args.station c.face.ensures
    c.self.invariant.0) c.in-Ok.ensures.taken (c.lose_from.ensures.still (none_loses _ _ c.deref.ensures.value none)).1 refl
    (stays_taken c.args.stamp c.args.station _ _ c.self.inside.cables c.take.new.cables c.lose_from.new.cables c.self.inside.near
    c.face.new.self c.take.new.near c.self.inside.losing.items c.args.station c.face.ensures c.in-Ok.ensures.taken)))
