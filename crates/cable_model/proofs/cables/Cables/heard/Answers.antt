use Rattle.std.proofs.Common.{◌==◌, ap, eqb-true, sym, ◌∙◌}
use Rattle.std.proofs.lemmas.Bool.{and_parts}
use Rattle.cable_model.proofs.Books.{stamp_is}
use Rattle.cable_model.specs.Books.{pair_at, said}
use Rattle.cable_model.specs.Outcomes.{heard_by}
use Rattle.cable_model.proofs.cables.Cables.heard.Goals as goal

pub returns-in-Some-clause-some : goal.returns-in-Some-clause-some
returns-in-Some-clause-some c =
    let ss = c.self.inside.seats in
    let log = c.self.inside.log in
    let due = c.in-Some.due in
    let book = c.self.invariant.0.book in
    let is = c.in-Some.ensures.due ss book in
    let named = and_parts (c.args.stamp == due.stamp) (c.args.station == due.station) c.in-Some.ensures.of_it in
    rw (← c.self.view_is) (record {
      pair = pair_at ss (said log) due;
      was_pending = c.in-Some.ensures.pending ss book;
      of_stamp = stamp_is ss (said log) due is ∙ sym (eqb-true c.args.stamp due.stamp named.0);
      of_station = is.station ∙ sym (eqb-true c.args.station due.station named.1);
      heard = c.heard_of.ensures ∙ ap (λ ss. heard_by (pair_at ss (said log) due)) c.as_slice.ensures;
    })

pub returns-in-None-clause-none : goal.returns-in-None-clause-none
returns-in-None-clause-none c =
    rw (← c.self.view_is) (sym (c.in-None.ensures.value c.self.inside.seats c.self.invariant.0.book))
