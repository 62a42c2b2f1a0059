use Rattle.std.proofs.Common.{◌∷◌, filter, length, map, not, sym, ◌∙◌, ap, subst, arith}
use Rattle.aarp.specs.Mapping.{is_for}
use Rattle.live_cables.specs.Holding.{AreReleased}
use Rattle.live_cables.proofs.Calm.{puts_then}
use Rattle.aarp.proofs.Released.{fewer_left, first_for, none_for, none_gone, none_left, others_left}
use Rattle.live_cables.proofs.Released.{adds_none}
use Rattle.live_cables.proofs.holding.+release.Goals as goal

pub returns-in_default-clause-released : goal.returns-in_default-clause-released
returns-in_default-clause-released t c =
    let none = none_for c.args.addr c.args.mapper.now.held (sym c.release.ensures.oldest ∙ c.in_default.is) in
    rw none (adds_none c.args.cables.now)

pub returns-in_default-clause-left : goal.returns-in_default-clause-left
returns-in_default-clause-left t c =
    let is_none = sym c.release.ensures.oldest ∙ c.in_default.is in
    let none = none_left c.args.addr c.args.mapper.now.held is_none in
    let stays = none_gone c.args.addr c.args.mapper.now.held is_none in
    c.release.ensures.left ∙ ap (λ l. record { known = c.args.mapper.now.known; held = l }) (stays ∙ sym none)

pub put_one-requires : goal.put_one-requires
put_one-requires t c =
    let first = ap length (first_for c.args.addr c.args.mapper.now.held c.in-Some.held (sym c.release.ensures.oldest ∙ c.in-Some.is)) in
    let few = c.requires in
    omega (arith, first, few)

pub release-requires-2 : goal.release-requires-2
release-requires-2 t c =
    let is = sym c.release.ensures.oldest ∙ c.in-Some.is in
    let first = ap length (first_for c.args.addr c.args.mapper.now.held c.in-Some.held is) in
    let fewer = fewer_left c.args.addr c.args.mapper.now.held c.in-Some.held is in
    let left = ap (λ m. length m.held) c.release.ensures.left in
    let rest = ap (λ m. length (filter (is_for c.args.addr) m.held)) c.release.ensures.left in
    let few = c.requires in
    let spare = c.put_one.ensures.spare in
    (omega (arith, fewer, left), omega (arith, first, rest, few, spare))

pub returns-clause-released : goal.returns-clause-released
returns-clause-released t c =
    let first = first_for c.args.addr c.args.mapper.now.held c.in-Some.held (sym c.release.ensures.oldest ∙ c.in-Some.is) in
    let rest = ap (λ m. c.in-Some.held ∷ filter (is_for c.args.addr) m.held) c.release.ensures.left in
    subst (λ l. AreReleased c.args.hw (map (λ h. h.stamp) l) c.args.cables.now c.release-2.new.cables) (rest ∙ sym first)
    (c.put_one.new.cables, c.put_one.ensures.released, c.release-2.ensures.released)

pub returns-clause-left : goal.returns-clause-left
returns-clause-left t c =
    let more = others_left c.args.addr c.args.mapper.now.held c.in-Some.held (sym c.release.ensures.oldest ∙ c.in-Some.is) in
    let left = ap (λ m. filter (λ h. not (is_for c.args.addr h)) m.held) c.release.ensures.left in
    let known = ap (λ m. m.known) c.release.ensures.left in
    c.release-2.ensures.left
    ∙ (ap (λ k. record { known = k; held = filter (λ h. not (is_for c.args.addr h)) c.release.new.self.held }) known
    ∙ ap (λ l. record { known = c.args.mapper.now.known; held = l }) (left ∙ more))

pub returns-clause-puts : goal.returns-clause-puts
returns-clause-puts t c = puts_then _ _ _ c.put_one.ensures.puts c.release-2.ensures.puts
