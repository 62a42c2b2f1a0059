use Rattle.std.proofs.Common.{sym, ◌∙◌}
use Rattle.cable_model.proofs.Books.{stamp_is}
use Rattle.cable_model.specs.Books.{pair_at, said}
use Rattle.cable_model.proofs.cables.Cables.frame.Goals as goal

pub returns-in-Some-clause-some : goal.returns-in-Some-clause-some
returns-in-Some-clause-some c =
    let ss = c.self.inside.seats in
    let log = c.self.inside.log in
    let due = c.in-Some.due in
    let book = c.self.invariant.0.book in
    rw (← c.self.view_is) (record {
      pair = pair_at ss (said log) due;
      was_pending = c.in-Some.ensures.pending ss book;
      of_stamp = stamp_is ss (said log) due (c.in-Some.ensures.due ss book) ∙ sym c.in-Some.ensures.of_it;
      of_cable = sym c.frame_of.ensures.cable;
      of_kind = sym c.frame_of.ensures.kind;
      has = sym c.frame_of.ensures.bytes;
    })

pub returns-in-None-clause-none : goal.returns-in-None-clause-none
returns-in-None-clause-none c =
    rw (← c.self.view_is) (sym (c.in-None.ensures.value c.self.inside.seats c.self.invariant.0.book))
