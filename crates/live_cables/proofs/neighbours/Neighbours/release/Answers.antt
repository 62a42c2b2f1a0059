use Rattle.std.proofs.Common.{◌≡◌, length, not, refl, ap, arith, slice_get, Some, None}
use Rattle.std.proofs.lemmas.List.Filters.{length-filter_both}
use Rattle.std.proofs.lemmas.Option.{slice_get_past, slice_get_read}
use Rattle.aarp.specs.Mapping.{is_for}
use Rattle.live_cables.proofs.Released.{adds_none}
use Rattle.live_cables.proofs.neighbours.Neighbours.release.Goals as goal

pub release-requires : goal.release-requires
release-requires c =
    let m = c.index_mut-mapper.result.now in
    let both = length-filter_both (is_for c.args.answer.source) (λ h. not (is_for c.args.answer.source h)) (λ h. refl) m.held in
    let n : c.len.result ≡ length c.self.inside.mappers.items = search in
    let one : slice_get c.self.inside.mappers.items c.args.seat ≡ Some c.index.result.now =
    slice_get_read c.self.inside.mappers.items c.len.result c.args.seat _ n c.if-seat-len.true c.index.ensures in
    let two : slice_get c.self.inside.mappers.items c.args.seat ≡ Some m =
    slice_get_read c.self.inside.mappers.items c.len.result c.args.seat _ n c.if-seat-len.true c.index_mut-mapper.ensures.value in
    let same : c.index.result.now ≡ m = cc in
    let held = ap (λ n. length n.held) same in
    let waiting = c.look-known.ensures.valid.waiting in
    let spare = c.requires in
    omega (arith, both, held, waiting, spare)

pub returns-then-seat-len-clause-released : goal.returns-then-seat-len-clause-released
returns-then-seat-len-clause-released c =
    let n : c.len.result ≡ length c.self.inside.mappers.items = search in
    let there : slice_get c.self.inside.mappers.items c.args.seat ≡ Some c.index_mut-mapper.result.now =
    slice_get_read c.self.inside.mappers.items c.len.result c.args.seat _ n c.if-seat-len.true c.index_mut-mapper.ensures.value in
    rw (← c.self.view_is) (rw there c.release.ensures.released)

pub returns-then-seat-len-clause-left : goal.returns-then-seat-len-clause-left
returns-then-seat-len-clause-left c =
    let n : c.len.result ≡ length c.self.inside.mappers.items = search in
    let there : slice_get c.self.inside.mappers.items c.args.seat ≡ Some c.index_mut-mapper.result.now =
    slice_get_read c.self.inside.mappers.items c.len.result c.args.seat _ n c.if-seat-len.true c.index_mut-mapper.ensures.value in
    rw (← c.self.view_is) (rw there (rw c.release.ensures.left refl))

pub returns-else-seat-len-clause-released : goal.returns-else-seat-len-clause-released
returns-else-seat-len-clause-released c =
    let n : c.len.result ≡ length c.self.inside.mappers.items = search in
    let other = c.if-seat-len.false in
    let past : slice_get c.self.inside.mappers.items c.args.seat ≡ None =
    slice_get_past c.self.inside.mappers.items c.args.seat (omega (arith, n, other)) in
    rw (← c.self.view_is) (rw past (adds_none c.args.cables.now))
