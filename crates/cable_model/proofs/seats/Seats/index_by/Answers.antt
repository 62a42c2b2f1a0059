use Rattle.std.proofs.Common.{◌≡◌, arith, refl, ap, ◌∙◌, length, slice_get, Some}
use Rattle.std.proofs.lemmas.Option.{slice_get_read}
use Rattle.cable_model.proofs.Indexed.{first_there}
use Rattle.cable_model.specs.Places.{first_at, has_key, indices}
use Rattle.cable_model.specs.declared.seats.Key.TheVariants.{Port, Station}
use Rattle.cable_model.proofs.seats.Seats.index_by.Goals as goal

pub returns-then-station-len : goal.returns-then-station-len
returns-then-station-len c =
    let ss = c.args.self.now in
    let test = has_key (Port c.args.port) in
    let own = has_key (Station c.args.station) in
    let lists = c.self.inside.of.items in
    let there : slice_get lists c.args.station ≡ Some c.index.result.now =
    slice_get_read lists (length lists) c.args.station c.index.result.now refl (omega (arith, c.if-station-len.true, c.len.ensures))
    c.index.ensures in
    let list = c.as_slice-list.ensures
    ∙ (c.self.invariant.stations c.args.station c.index.result.now there ∙ ap (indices own 0) c.self.view_is) in
    c.first_at.ensures
    ∙ (ap (λ ss. first_at test ss c.as_slice-list.result.now) (c.as_slice.ensures.value ∙ c.self.view_is)
    ∙ (ap (first_at test ss) list ∙ first_there own test ss))
