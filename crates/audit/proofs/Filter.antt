-- The answer of a filter that has seen the earlier routers, and that a new address has no mark.
use Rattle.std.proofs.Common.{◌≡◌, ℕ, ◌+◌, ◌*◌, ◌%◌, inl, inr, ◌||◌, ◌==◌, true, false, List, slice_index, slice_index_or, replicate, take}
use Rattle.std.proofs.Common.{ap, ◌∙◌, arith}
use Rattle.std.specs.List.{list_any}
use Rattle.std.proofs.lemmas.Bool.{and_parts, cases_lt, eqb-true, false_from_ne_true, or_parts, or_cases, both_ways}
use Rattle.std.proofs.lemmas.List.{get_or-replicate, get_or_past, length-replicate}
use Rattle.at_base.proofs.Texts.{same_bytes_is}
use Rattle.at_base.specs.declared.address.Addr.{Addr}
use Rattle.at_base.specs.declared.address.Hw.{Hw}
use Rattle.at_base.specs.Address.{same_address}
use Rattle.table_image.specs.declared.router.Router.{Router}
use Rattle.audit.specs.Rules.{router_has, same_hardware}
use Rattle.audit.specs.Seen.{HasSeenBelow, address_slot, hardware_slot, may_have}
use Rattle.audit.specs.declared.seen.Seen.{Seen}
use Rattle.audit.proofs.Finding.{any_at, from_take}

-- an empty table has no mark
pub no_mark : (n i : ℕ) → slice_index_or (replicate n false) i false ≡ false
no_mark n i =
    elim (cases_lt i n) [
      | inl within ↦ get_or-replicate n i false false within
      | inr past ↦ let long = length-replicate n false in get_or_past (replicate n false) i false (omega (arith, long, past))
    ]

-- two empty tables have no mark at any two indices
pub no_marks : (n m i j : ℕ) → (slice_index_or (replicate n false) i false || slice_index_or (replicate m false) j false) ≡ false
no_marks n m i j = ap (λ b. b || slice_index_or (replicate m false) j false) (no_mark n i) ∙ no_mark m j

-- equal addresses have the same mark
same_slots : (a b : Addr) → same_address a b ≡ true → address_slot a ≡ address_slot b
same_slots a b e =
    let parts = and_parts (a.net == b.net) (a.node == b.node) e in
    ap (λ n. (n + 256 * a.node) % 65536) (eqb-true a.net b.net parts.0)
    ∙ ap (λ n. (b.net + 256 * n) % 65536) (eqb-true a.node b.node parts.1)

same_hardware_slots : (g h : Hw) → same_hardware g h ≡ true → hardware_slot g ≡ hardware_slot h
same_hardware_slots g h e = ap (λ l. slice_index l 5 + 256 * slice_index l 4) (same_bytes_is g.0 h.0 e)

-- an address without a mark isn't that of an earlier router
pub not_seen : (seen : Seen) (routers : List Router) (r : ℕ) (a : Addr) (h : Hw) → HasSeenBelow seen routers r → may_have seen a h ≡ false
    → list_any (router_has a h) (take r routers) ≡ false
not_seen seen routers r a h below unmarked = false_from_ne_true (list_any (router_has a h) (take r routers)) (λ any.
    let one = any_at (router_has a h) (take r routers) any in
    let there = from_take routers r one.0 one.1 one.2 in
    let port = any_at (λ p. same_address a p.address || same_hardware h p.hardware) one.1.ports one.3 in
    let saw = below one.0 there.0 one.1 there.1 port.0 port.1 port.2 in
    let parts = or_parts (slice_index_or seen.addresses (address_slot a) false) (slice_index_or seen.hardware (hardware_slot h) false)
    unmarked in
    elim (or_cases (same_address a port.1.address) (same_hardware h port.1.hardware) port.3) [
      | inl same ↦ both_ways (slice_index_or seen.addresses (address_slot a) false) parts.0
          (ap (λ n. slice_index_or seen.addresses n false) (same_slots a port.1.address same) ∙ saw.address)
      | inr same ↦ both_ways (slice_index_or seen.hardware (hardware_slot h) false) parts.1
          (ap (λ n. slice_index_or seen.hardware n false) (same_hardware_slots h port.1.hardware same) ∙ saw.hardware)
    ])
