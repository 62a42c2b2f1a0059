use Rattle.std.proofs.Common.{rules, ◌≡◌, true}
use Rattle.at_base.specs.Text.{is_name}
use Rattle.router.proofs.router.Router.look_up.Goals as goal

pub returns : goal.returns
returns g c =
    let is : is_name c.args.request.now.tuple.zone ≡ true = search rules in
    rw (is, ← c.port_to.ensures.value) c.look_on.ensures
