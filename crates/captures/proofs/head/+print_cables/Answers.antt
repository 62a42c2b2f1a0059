use Rattle.std.proofs.Common.{◌≡◌, ◌+◌, ◌-◌, ◌≤◌, ℕ, List, [], ◌∷◌, Option, arith, drop, length, refl, slice_index_or, subst, sym, take}
use Rattle.captures.specs.Packets.{cables_bytes}
use Rattle.captures.specs.declared.head.Extent.{Extent}
use Rattle.pcapng.specs.Captures.{interface_bytes}
use Rattle.text.proofs.Going.{first_and_others, goes_then, on_ok}
use Rattle.text.specs.Going.{Goes}
use Rattle.captures.proofs.head.+print_cables.Goals as goal

-- the interface of the first of several cables was printed, and then those of the others
goes_cables : (k : ℕ) (rs : List Extent) (r : Extent) (u v w : Option (List ℕ)) (t s x : List ℕ) → 1 ≤ length rs
    → r ≡ slice_index_or rs 0 r → Goes u t (interface_bytes k r.start r.end) v s
    → Goes v s (cables_bytes (k + 1) (take (length rs - 1) (drop 1 rs))) w x → Goes u t (cables_bytes k rs) w x
goes_cables k rs r u v w t s x some is one others =
    subst (λ l. Goes u t (cables_bytes k l) w x) (sym (first_and_others rs r some is)) (goes_then u v w t s x _ _ one others)

-- the first of several cables, whatever stands for it where there is none
same_first : (rs : List Extent) (d : Extent) → 1 ≤ length rs → slice_index_or rs 0 d ≡ slice_index_or rs 0 (slice_index_or rs 0 d)
same_first [] d some = absurd (omega (arith, some))
same_first (r ∷ rs) d some = refl

pub returns-in_ok-print_cable-in-len1-up-clause-gone : goal.returns-in_ok-print_cable-in-len1-up-clause-gone
returns-in_ok-print_cable-in-len1-up-clause-gone g t c =
    let rs = c.args.cables.now in
    let none : Extent = record { start = 0; end = 0 } in
    on_ok c.print_cables.result c.print_cables.ensures.gone
    (λ others. goes_cables c.args.cable rs (slice_index_or rs 0 none) _ _ _ _ _ _ c.in-len1-up.len_at_least
    (same_first rs none c.in-len1-up.len_at_least) c.in_ok-print_cable-in-len1-up.ensures.gone others)
