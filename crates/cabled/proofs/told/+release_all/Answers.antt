use Rattle.std.proofs.Common.{◌∷◌, ◌∙◌, [], refl, sym}
use Rattle.std.proofs.lemmas.List.{append-nil, append_assoc}
use Rattle.aarp.specs.Mapping.{without_oldest}
use Rattle.aarp.proofs.Released.{first_for, none_for, none_gone, none_left, others_left}
use Rattle.cabled.specs.Putting.{datagram_by, released_by}
use Rattle.cabled.proofs.told.+release_all.Goals as goal

pub returns-in_default-clause-put : goal.returns-in_default-clause-put
returns-in_default-clause-put t c =
    let none = none_for c.args.addr c.args.port.now.maps.held (sym c.release.ensures.oldest ∙ c.in_default.is) in
    rw none (sym (append-nil c.args.puts.now.items))

pub returns-in_default-clause-left : goal.returns-in_default-clause-left
returns-in_default-clause-left t c =
    let is_none = sym c.release.ensures.oldest ∙ c.in_default.is in
    let none = none_left c.args.addr c.args.port.now.maps.held is_none in
    let stays = none_gone c.args.addr c.args.port.now.maps.held is_none in
    rw (c.release.ensures.left, stays, none) refl

pub returns-in-Some-clause-put : goal.returns-in-Some-clause-put
returns-in-Some-clause-put t c =
    let held = c.args.port.now.maps.held in
    let first = first_for c.args.addr held c.in-Some.held (sym c.release.ensures.oldest ∙ c.in-Some.is) in
    rw (c.release_all.ensures.put, c.add.ensures.added, c.release.ensures.left, first)
    (append_assoc c.args.puts.now.items (datagram_by c.args.number c.args.to c.in-Some.held.bytes ∷ []) (released_by c.args.number c.args.addr c.args.to (without_oldest c.args.addr held)))

pub returns-in-Some-clause-left : goal.returns-in-Some-clause-left
returns-in-Some-clause-left t c =
    let more = others_left c.args.addr c.args.port.now.maps.held c.in-Some.held (sym c.release.ensures.oldest ∙ c.in-Some.is) in
    rw (c.release_all.ensures.left, c.release.ensures.left, more) refl
