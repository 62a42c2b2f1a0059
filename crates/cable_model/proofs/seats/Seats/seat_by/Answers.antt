use Rattle.std.proofs.Common.{rules, ◌≡◌, ◌&&◌, ◌==◌, ap, sym, ◌∙◌, Some, None, slice_get}
use Rattle.std.specs.List.{position}
use Rattle.std.specs.Prelude.{option_and_then}
use Rattle.cable_model.proofs.Indexed.{find_there}
use Rattle.cable_model.proofs.seats.Seats.seat_by.Goals as goal

pub returns-in-Some : goal.returns-in-Some
returns-in-Some c =
    let ss = c.args.self.now in
    let at : Some c.in-Some.index ≡ position (λ s. s.station == c.args.station && s.port == c.args.port) ss = search rules in
    c.get.ensures
    ∙ (ap (option_and_then (slice_get ss)) at ∙ sym (find_there (λ s. s.station == c.args.station && s.port == c.args.port) ss))

pub returns-in-None : goal.returns-in-None
returns-in-None c =
    let ss = c.args.self.now in
    let at : None ≡ position (λ s. s.station == c.args.station && s.port == c.args.port) ss = search rules in
    ap (option_and_then (slice_get ss)) at ∙ sym (find_there (λ s. s.station == c.args.station && s.port == c.args.port) ss)
