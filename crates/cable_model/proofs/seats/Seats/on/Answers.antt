use Rattle.std.proofs.Common.{◌≡◌, ◌≤◌, arith, length, subst, sym, refl, ap, ◌∙◌, slice_get, Some}
use Rattle.std.proofs.lemmas.Option.{slice_get_read}
use Rattle.cable_model.proofs.Indexed.{seats_few}
use Rattle.cable_model.specs.Places.{has_key, indices, widest}
use Rattle.cable_model.specs.declared.seats.Key.TheVariants.{Cable}
use Rattle.cable_model.proofs.seats.Seats.on.Goals as goal

pub returns-clause-value : goal.returns-clause-value
returns-clause-value c =
    let lists = c.self.inside.on.items in
    let there : slice_get lists c.args.cable ≡ Some c.index.result.now =
    slice_get_read lists (length lists) c.args.cable c.index.result.now refl
    (omega (arith, c.self.invariant.all, c.ranges.cable.fits)) c.index.ensures in
    c.as_slice.ensures
    ∙ (c.self.invariant.cables c.args.cable c.index.result.now there ∙ ap (indices (has_key (Cable c.args.cable)) 0) c.self.view_is)

pub returns-clause-few : goal.returns-clause-few
returns-clause-few c =
    subst (λ l. length l ≤ widest c.args.self.now) (sym (returns-clause-value c))
    (seats_few c.args.cable c.args.self.now c.ranges.cable.fits)
