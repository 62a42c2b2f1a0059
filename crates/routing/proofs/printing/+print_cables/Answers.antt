use Rattle.std.proofs.Common.{◌≡◌, ◌≤◌, List, [], ◌∷◌, arith, length, refl, slice_index_or}
use Rattle.text.proofs.Going.{goes_each, on_ok}
use Rattle.routing.specs.Streams.{cable_bytes}
use Rattle.routing.specs.declared.cable.Cable.{Cable}
use Rattle.routing.proofs.printing.+print_cables.Goals as goal

-- the first of several cables, whatever stands for it where there is none
same_first : (rs : List Cable) (d : Cable) → 1 ≤ length rs → slice_index_or rs 0 d ≡ slice_index_or rs 0 (slice_index_or rs 0 d)
same_first [] d some = absurd (omega (arith, some))
same_first (r ∷ rs) d some = refl

pub returns-in_ok-print_cable-in-len1-up-clause-gone : goal.returns-in_ok-print_cable-in-len1-up-clause-gone
returns-in_ok-print_cable-in-len1-up-clause-gone g t c =
    let rs = c.args.cables.now in
    let none : Cable = record { index = 0; start = 0; end = 0 } in
    on_ok c.print_cables.result c.print_cables.ensures.gone
    (λ others. goes_each cable_bytes rs (slice_index_or rs 0 none) _ _ _ _ _ _ c.in-len1-up.len_at_least
    (same_first rs none c.in-len1-up.len_at_least) c.in_ok-print_cable-in-len1-up.ensures.gone others)
