use Rattle.std.proofs.Common.{inl, inr, refl, sym, ◌∙◌, length}
use Rattle.std.proofs.lemmas.Bool.{eqb-true}
use Rattle.std.proofs.lemmas.Result.{on_ok_weaker}
use Rattle.live_cables.proofs.Calls.{due_now, if_refused_due, midst_put, on_ok, plays_midst, plays_to, plays_done}
use Rattle.live_cables.proofs.Exact.{gives_out}
use Rattle.live_cables.proofs.Idle.{done_none, gives_none, plays_none}
use Rattle.live_cables.proofs.Parts.{sends_now}
use Rattle.live_cables.proofs.Whole.{faced, is_knowing, stays_known, whole_known, wires}
use Rattle.live_cables.proofs.live.LiveCables.give.Goals as goal

pub returns-then-is_empty-clause-given : goal.returns-then-is_empty-clause-given
returns-then-is_empty-clause-given c =
    gives_none c.args.station c.args.outputs.now.items c.args.self.now
    (eqb-true (length c.args.outputs.now.items) 0 (sym c.is_empty.ensures ∙ c.if-is_empty.true))

pub returns-then-is_empty-clause-done : goal.returns-then-is_empty-clause-done
returns-then-is_empty-clause-done c = done_none c.args.self.now

pub returns-then-is_empty-clause-plays : goal.returns-then-is_empty-clause-plays
returns-then-is_empty-clause-plays c = plays_none c.args.self.now

pub invariant_of-self : goal.invariant_of-self
invariant_of-self c =
    whole_known c.self.inside.limit c.self.inside.cables c.give_all.new.cables c.face.new.self c.give_all.new.near
    (faced c.self.inside.limit c.self.inside.cables c.self.inside.near c.face.new.self c.args.station c.face.ensures c.self.invariant)
    c.give_all.ensures.near c.give_all.ensures.puts.seats c.give_all.ensures.puts.limit c.give_all.ensures.rooms

pub returns-in-Err-clause-plays : goal.returns-in-Err-clause-plays
returns-in-Err-clause-plays c =
    rw (← c.self.view_is)
    (plays_midst 0 _ _
    (stays_known c.self.inside.cables c.give_all.new.cables c.self.inside.near c.face.new.self c.give_all.new.near
    c.self.inside.losing.items c.args.station c.face.ensures c.give_all.ensures.near)
    (midst_put _ c.self.inside.cables c.give_all.new.cables c.give_all.ensures.puts))

pub invariant_of-self-2 : goal.invariant_of-self-2
invariant_of-self-2 c =
    whole_known c.self.inside.limit c.self.inside.cables c.lose_from.new.cables c.face.new.self c.give_all.new.near
    (faced c.self.inside.limit c.self.inside.cables c.self.inside.near c.face.new.self c.args.station c.face.ensures c.self.invariant)
    c.give_all.ensures.near (c.lose_from.ensures.loses.seats ∙ c.give_all.ensures.puts.seats)
    (c.lose_from.ensures.loses.limit ∙ c.give_all.ensures.puts.limit)
    (c.lose_from.ensures.rooms ∙ c.give_all.ensures.rooms)

pub returns-clause-plays : goal.returns-clause-plays
returns-clause-plays c =
    rw (← c.self.view_is)
    (plays_to 0 _ _ c.give_all.new.cables c.transcript-from.result.now c.deref.result.now
    (stays_known c.self.inside.cables c.lose_from.new.cables c.self.inside.near c.face.new.self c.give_all.new.near
    c.self.inside.losing.items c.args.station c.face.ensures c.give_all.ensures.near)
    (midst_put _ c.self.inside.cables c.give_all.new.cables c.give_all.ensures.puts) c.transcript-from.ensures.value c.deref.ensures.value
    c.lose_from.ensures.loses)

pub returns-clause-done : goal.returns-clause-done
returns-clause-done c =
    rw (← c.self.view_is)
    (on_ok_weaker c.lose_from.result
    (plays_done 0 _ _ c.give_all.new.cables c.transcript-from.result.now c.deref.result.now
    (stays_known c.self.inside.cables c.lose_from.new.cables c.self.inside.near c.face.new.self c.give_all.new.near
    c.self.inside.losing.items c.args.station c.face.ensures c.give_all.ensures.near)
    (midst_put _ c.self.inside.cables c.give_all.new.cables c.give_all.ensures.puts) c.transcript-from.ensures.value c.deref.ensures.value
    c.lose_from.ensures.loses) c.lose_from.ensures.gone)

pub returns-clause-given : goal.returns-clause-given
returns-clause-given c =
    rw (← c.self.view_is)
    (on_ok c.lose_from.result _
    (gives_out (wires c.self.inside.cables c.self.inside.near c.self.inside.losing.items)
    (wires c.lose_from.new.cables c.give_all.new.near c.self.inside.losing.items) c.transcript-from.result.now c.deref.result.now
    (record { lines_are = c.transcript-from.ensures.value; losing_are = c.deref.ensures.value }) c.args.station _ c.face.new.self
    (c.give_all.new.cables, c.give_all.new.near)
    (is_knowing c.self.inside.cables c.self.inside.near c.face.new.self c.self.inside.losing.items c.args.station c.face.ensures
    c.self.invariant.0) c.in-Ok.ensures.given c.lose_from.ensures.loses refl
    (stays_known c.self.inside.cables c.lose_from.new.cables c.self.inside.near c.face.new.self c.give_all.new.near
    c.self.inside.losing.items c.args.station c.face.ensures c.give_all.ensures.near)))

-- ---- What was done before an error

pub returns-in-Err-clause-part : goal.returns-in-Err-clause-part
returns-in-Err-clause-part c =
    rw (← c.self.view_is)
    (inl (sends_now (wires c.self.inside.cables c.self.inside.near c.self.inside.losing.items)
    (wires c.give_all.new.cables c.give_all.new.near c.self.inside.losing.items) c.args.station c.in-Err.error _ _ c.face.new.self
    (c.give_all.new.cables, c.give_all.new.near)
    (is_knowing c.self.inside.cables c.self.inside.near c.face.new.self c.self.inside.losing.items c.args.station c.face.ensures
    c.self.invariant.0) c.in-Err.ensures.part refl refl
    (stays_known c.self.inside.cables c.give_all.new.cables c.self.inside.near c.face.new.self c.give_all.new.near
    c.self.inside.losing.items c.args.station c.face.ensures c.give_all.ensures.near)))

pub returns-clause-part : goal.returns-clause-part
returns-clause-part c =
    rw (← c.self.view_is)
    (if_refused_due c.lose_from.result _ c.lose_from.ensures.full c.lose_from.ensures.memory c.lose_from.ensures.refused
    c.lose_from.ensures.due
    (λ e full due. inr (
      gives_out (wires c.self.inside.cables c.self.inside.near c.self.inside.losing.items)
          (wires c.lose_from.new.cables c.give_all.new.near c.self.inside.losing.items) c.transcript-from.result.now c.deref.result.now
          (record { lines_are = c.transcript-from.ensures.value; losing_are = c.deref.ensures.value }) c.args.station _ c.face.new.self
          (c.give_all.new.cables, c.give_all.new.near)
          (is_knowing c.self.inside.cables c.self.inside.near c.face.new.self c.self.inside.losing.items c.args.station c.face.ensures
          c.self.invariant.0) c.in-Ok.ensures.given c.lose_from.ensures.loses refl
          (stays_known c.self.inside.cables c.lose_from.new.cables c.self.inside.near c.face.new.self c.give_all.new.near
          c.self.inside.losing.items c.args.station c.face.ensures c.give_all.ensures.near),
      c.in-Ok.ensures.emptied,
      record {
        full = full;
        due =
            due_now 0 _ (wires c.lose_from.new.cables c.give_all.new.near c.self.inside.losing.items) c.give_all.new.cables
            c.transcript-from.result.now c.deref.result.now
            (stays_known c.self.inside.cables c.lose_from.new.cables c.self.inside.near c.face.new.self c.give_all.new.near
            c.self.inside.losing.items c.args.station c.face.ensures c.give_all.ensures.near)
            (midst_put _ c.self.inside.cables c.give_all.new.cables c.give_all.ensures.puts) c.transcript-from.ensures.value
            c.deref.ensures.value c.lose_from.ensures.loses due;
      },
    )))
