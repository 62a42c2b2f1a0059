use Rattle.std.proofs.Common.{◌≡◌, false, rules, true}
use Rattle.std.proofs.lemmas.List.{append-nil}
use Rattle.joined.proofs.Values.{found_value}
use Rattle.joined.specs.Joining.{are_too_many, have_same_cables}
use Rattle.joined.proofs.joining.join.Goals as goal

pub of-requires : goal.of-requires
of-requires c =
    let a = c.args.one.now in
    let b = c.args.other.now in
    let same : have_same_cables a b ≡ true = search rules in
    let few : are_too_many a b ≡ false = search rules in
    let value = found_value a b c.cables.ensures.valid c.cables-2.ensures.valid same few in
    rw (
      c.greater-version.ensures,
      c.version.ensures,
      c.version-2.ensures,
      c.in_ok-cables.ensures.both,
      c.in_ok-routers.ensures.both,
      c.in_ok-nodes.ensures.both,
      c.cables-3.ensures.value,
      c.routers.ensures.value,
      c.routers-2.ensures.value,
      c.nodes.ensures.value,
      c.nodes-2.ensures.value,
      append-nil a.cables,
    ) value
