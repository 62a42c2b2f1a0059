-- The mappings of a seat by rising address: they are those that it knows, and their addresses rise, if no two are for one address.
use Rattle.std.proofs.Common.{◌≡◌, ℕ, zero, suc, ◌+◌, ◌<◌, ◌≤◌, Bool, true, false, List, [], ◌∷◌, length, map, refl, sym, ap}
use Rattle.std.proofs.Common.{◌∙◌, arith, nat_lt, eq-eqb, ltb-false, ltb-true, subst, true≢false}
use Rattle.std.specs.Prelude.{if◌then◌else◌}
use Rattle.std.specs.List.{AllByRecursion as Each}
use Rattle.std.proofs.lemmas.Bool.{and_from}
use Rattle.std.proofs.lemmas.List.{length-map}
use Rattle.aarp.specs.Mapping.{AddressesRise, address_number, by_address, placed}
use Rattle.at_base.specs.Limits.{max_mappings}
use Rattle.at_base.specs.declared.address.Addr.{Addr}
use Rattle.at_base.specs.declared.address.Hw.{Hw}
use Rattle.audit.proofs.WalkLists.{At}
use Rattle.freeze.specs.Freezing.{frozen_mapping}
use Rattle.lasting.proofs.Apart.{AreApart, HasNone}
use Rattle.table_image.specs.Bounds.{AreMappings, Rises}
use Rattle.table_image.specs.declared.mapping.Mapping.{Mapping}

-- ---- The same mappings

-- what holds of a mapping and of all others holds of all where it is placed
each_placed : (P : Addr × Hw → Type 0) (m : Addr × Hw) (known : List (Addr × Hw)) → P m → Each P known → Each P (placed m known)
each_placed P m [] p h = (p, tt)
each_placed P m (n ∷ known) p h = by (nat_lt (address_number n.0) (address_number m.0)) (each_placed P m known p h.1)
  where
    by : (b : Bool) → Each P (placed m known) → Each P (if b then n ∷ placed m known else m ∷ n ∷ known)
    by true rest = (h.0, rest)
    by false rest = (p, (h.0, h.1))

-- so it does of those by rising address
pub each_ordered : (P : Addr × Hw → Type 0) (known : List (Addr × Hw)) → Each P known → Each P (by_address known)
each_ordered P [] h = tt
each_ordered P (m ∷ known) h = each_placed P m (by_address known) h.0 (each_ordered P known h.1)

-- what holds of all where a mapping is placed holds of it and of the others
from_placed : (P : Addr × Hw → Type 0) (m : Addr × Hw) (known : List (Addr × Hw)) → Each P (placed m known) → P m × Each P known
from_placed P m [] h = (h.0, tt)
from_placed P m (n ∷ known) h = by (nat_lt (address_number n.0) (address_number m.0)) (λ g. from_placed P m known g) h
  where
    by : (b : Bool) → (Each P (placed m known) → P m × Each P known) → Each P (if b then n ∷ placed m known else m ∷ n ∷ known)
        → P m × Each P (n ∷ known)
    by true rest g = let w = rest g.1 in (w.0, (g.0, w.1))
    by false rest g = (g.0, (g.1.0, g.1.1))

-- and of all where it does of those by rising address
pub from_ordered : (P : Addr × Hw → Type 0) (known : List (Addr × Hw)) → Each P (by_address known) → Each P known
from_ordered P [] h = tt
from_ordered P (m ∷ known) h = let w = from_placed P m (by_address known) h in (w.0, from_ordered P known w.1)

-- there are as many
placed_count : (m : Addr × Hw) (known : List (Addr × Hw)) → length (placed m known) ≡ suc (length known)
placed_count m [] = refl
placed_count m (n ∷ known) = by (nat_lt (address_number n.0) (address_number m.0)) (placed_count m known)
  where
    by : (b : Bool) → length (placed m known) ≡ suc (length known)
        → length (if b then n ∷ placed m known else m ∷ n ∷ known) ≡ suc (length (n ∷ known))
    by true rest = ap suc rest
    by false rest = refl

-- and so many by rising address
ordered_count : (known : List (Addr × Hw)) → length (by_address known) ≡ length known
ordered_count [] = refl
ordered_count (m ∷ known) = placed_count m (by_address known) ∙ ap suc (ordered_count known)

-- ---- Rising addresses

-- the mapping has another number
abbrev HasOther : ℕ → Addr × Hw → Type 0
HasOther n m = address_number m.0 ≡ n → ⊥

-- its node is that of an address
abbrev pub IsLow : Addr × Hw → Type 0
IsLow m = m.0.node < 256

-- mappings for other addresses have other numbers
others_differ : (m : Addr × Hw) (known : List (Addr × Hw)) → IsLow m → Each IsLow known → HasNone m.0 known → Each (HasOther (address_number m.0)) known
others_differ m [] low lows none = tt
others_differ m (n ∷ known) low lows none = (
  λ e.
      let theirs = lows.0 in
      let net : m.0.net ≡ n.0.net = omega (arith, low, theirs, e) in
      let node : m.0.node ≡ n.0.node = omega (arith, low, theirs, e) in
      true≢false (sym (and_from _ _ (eq-eqb m.0.net n.0.net net) (eq-eqb m.0.node n.0.node node)) ∙ none.0),
  others_differ m known low lows.1 none.1,
)

-- the addresses rise where a mapping with another number is placed
placed_rises : (low : ℕ) (m : Addr × Hw) (known : List (Addr × Hw)) → low ≤ address_number m.0 → AddressesRise low known
    → Each (HasOther (address_number m.0)) known → AddressesRise low (placed m known)
placed_rises low m [] le rise other = (le, tt)
placed_rises low m (n ∷ known) le rise other =
    by (nat_lt (address_number n.0) (address_number m.0)) refl
    (λ lt. placed_rises (address_number n.0 + 1) m known (omega (arith, lt)) rise.1 other.1)
  where
    by : (b : Bool) → nat_lt (address_number n.0) (address_number m.0) ≡ b
        → (address_number n.0 < address_number m.0 → AddressesRise (address_number n.0 + 1) (placed m known))
        → AddressesRise low (if b then n ∷ placed m known else m ∷ n ∷ known)
    by true t rest = (rise.0, rest (ltb-true _ _ t))
    by false f rest =
        let least = ltb-false (address_number n.0) (address_number m.0) f in
        let apart = other.0 in
        (le, (omega (arith, least, apart), rise.1))

-- the addresses rise
order_rises : (known : List (Addr × Hw)) → Each IsLow known → AreApart known → AddressesRise 0 (by_address known)
order_rises [] lows apart = tt
order_rises (m ∷ known) lows apart =
    placed_rises 0 m (by_address known) (omega arith) (order_rises known lows.1 apart.1)
    (each_ordered (HasOther (address_number m.0)) known (others_differ m known lows.0 lows.1 apart.0))

-- ---- In an image

-- the number of each address is at least the lowest
above : (low : ℕ) (known : List (Addr × Hw)) → AddressesRise low known → (k : ℕ) (m : Mapping) → At (map frozen_mapping known) k m
    → low ≤ address_number m.address
above low [] rise k m e = absurd (let f = e in cc)
above low (n ∷ known) rise zero m e =
    let is : frozen_mapping n ≡ m = cc in
    subst (λ (x : Mapping). low ≤ address_number x.address) is rise.0
above low (n ∷ known) rise (suc k) m e =
    let least = above (address_number n.0 + 1) known rise.1 k m e in
    let first = rise.0 in
    omega (arith, least, first)

-- so the addresses rise from place to place
rises_at : (low : ℕ) (known : List (Addr × Hw)) → AddressesRise low known → Rises (λ (m : Mapping). address_number m.address) (map frozen_mapping known)
rises_at low [] rise j k a b ea eb lt = absurd (let f = ea in cc)
rises_at low (n ∷ known) rise zero zero a b ea eb lt = absurd (omega (arith, lt))
rises_at low (n ∷ known) rise (suc j) zero a b ea eb lt = absurd (omega (arith, lt))
rises_at low (n ∷ known) rise zero (suc k) a b ea eb lt =
    let is : frozen_mapping n ≡ a = cc in
    let least = above (address_number n.0 + 1) known rise.1 k b eb in
    let same = ap (λ (x : Mapping). address_number x.address) is in
    omega (arith, least, same)
rises_at low (n ∷ known) rise (suc j) (suc k) a b ea eb lt =
    rises_at (address_number n.0 + 1) known rise.1 j k a b ea eb (omega (arith, lt))

-- what a seat knows makes mappings within the limits
pub mappings_within : (known : List (Addr × Hw)) → Each IsLow known → AreApart known → length known ≤ max_mappings
    → AreMappings (map frozen_mapping (by_address known))
mappings_within known lows apart few = record {
  few = subst (λ n. n ≤ max_mappings) (sym (length-map (by_address known) frozen_mapping ∙ ordered_count known)) few;
  rising = rises_at 0 (by_address known) (order_rises known lows apart);
}
