use Rattle.std.proofs.Common.{rules, ◌≡◌, ◌<◌, ◌≤◌, ◌^◌, true, false, arith, sym, subst, ◌∙◌}
use Rattle.cable_model.proofs.RoomLeft.{room_for}
use Rattle.cable_model.proofs.Takes.{spare_room}
use Rattle.cable_model.specs.Holdings.{is_open}
use Rattle.cable_model.specs.Logs.{Cabling, transcript as said}
use Rattle.cable_model.proofs.cables.Cables.shed.Goals as goal
use Rattle.cable_model.specs.Places.{widest}

pub returns-then-not-is_held-clause-not_pending : goal.returns-then-not-is_held-clause-not_pending
returns-then-not-is_held-clause-not_pending c =
    let v : is_open (said c.args.self.now) c.args.stamp ≡ false =
    rw (← c.self.view_is) (sym (c.is_held.ensures.value c.self.inside.seats c.self.invariant.0.book) ∙ search rules) in
    search rules

pub lost-requires-clause-room : goal.lost-requires-clause-room
lost-requires-clause-room c =
    let n = widest c.self.inside.seats in
    let one : 1 ≤ c.self.inside.spare = subst (λ (v : Cabling). 1 ≤ v.spare) (sym c.self.view_is) c.requires in
    let low : c.self.inside.limit < 2 ^ 32 = search rules in
    let all = spare_room c.self.inside.seats c.self.inside.limit c.self.inside.log c.self.inside.spare c.self.invariant.0
    c.self.invariant.2 one low in
    room_for c.self.inside.log 1 0 0 n 1 0 0 0 all (omega arith) (omega arith) (omega arith) (omega arith)

pub lost-requires-clause-earlier : goal.lost-requires-clause-earlier
lost-requires-clause-earlier c = c.is_held.ensures.earlier c.self.inside.seats c.self.invariant.0.book (search rules)

pub returns-clause-not_pending : goal.returns-clause-not_pending
returns-clause-not_pending c =
    let v : is_open (said c.args.self.now) c.args.stamp ≡ true =
    rw (← c.self.view_is) (sym (c.is_held.ensures.value c.self.inside.seats c.self.invariant.0.book) ∙ search rules) in
    search rules
