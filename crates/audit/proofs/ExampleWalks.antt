-- The example passes, and from routers that point at each other no walk ends.
use Rattle.std.proofs.Common.{◌≡◌, ◌≢◌, ℕ, zero, suc, ◌+◌, List, [], ◌∷◌, Some, slice_get, refl, sym, ◌∙◌, subst, arith}
use Rattle.audit.specs.Routing.{On, hand, home, distance}
use Rattle.table_image.specs.declared.port.Port.{Port}
use Rattle.table_image.specs.declared.router.Router.{Router}
use Rattle.audit.specs.Rules.{Passes, Keeps}
use Rattle.audit.specs.Walks.{IsWalk, AreDifferent, WalksHome, HasPort, Steps, Stops, StepsTo, SeatsAreUnique}
use Rattle.audit.specs.Example.{addr, three_cables, turned_router, pointing_at_each_other, same_addresses, same_hardware_addresses}
use Rattle.audit.proofs.ExamplePlaces.{keeps_others, passes}

pub example_passes : Passes three_cables
example_passes =
    passes three_cables
    (record { one = refl; two = refl; three = refl; four = refl; five = refl; six = refl; eight = refl; nine = refl; ten = refl }) refl

pub example_walk : IsWalk three_cables 30 0 (1 ∷ []) 2
example_walk = (1, addr 20 2, refl, refl)

pub loop_keeps_others : (rule : ℕ) → rule ≢ 7 → Keeps pointing_at_each_other rule
loop_keeps_others = keeps_others pointing_at_each_other
    (record { one = refl; two = refl; three = refl; four = refl; five = refl; six = refl; eight = refl; nine = refl; ten = refl })

first_hands_on : hand pointing_at_each_other 0 30 ≡ On 1 1 (addr 20 2)
first_hands_on = refl

second_hands_on : hand pointing_at_each_other 1 30 ≡ On 0 1 (addr 20 1)
second_hands_on = refl

-- no walk ends from either router, whatever routers come next
no_walk : (rest : List ℕ) (c : ℕ) → (IsWalk pointing_at_each_other 30 0 rest c → ⊥) × (IsWalk pointing_at_each_other 30 1 rest c → ⊥)
no_walk [] c = ((λ w. let e = sym first_hands_on ∙ w in cc), (λ w. let e = sym second_hands_on ∙ w in cc))
no_walk (s ∷ rest) c =
    let later = no_walk rest c in (
      (λ w.
          let e = sym first_hands_on ∙ w.2 in
          let next : s ≡ 1 = cc in
          later.1 (subst (λ s. IsWalk pointing_at_each_other 30 s rest c) next w.3)),
      (λ w.
          let e = sym second_hands_on ∙ w.2 in
          let next : s ≡ 0 = cc in
          later.0 (subst (λ s. IsWalk pointing_at_each_other 30 s rest c) next w.3)),
    )

pub never_ends : (rest : List ℕ) (c : ℕ) → ¬ IsWalk pointing_at_each_other 30 0 rest c
never_ends rest c = (no_walk rest c).0

pub loop_is_listed : home pointing_at_each_other 30 ≡ Some 2
loop_is_listed = refl

pub no_walk_home : ¬ WalksHome pointing_at_each_other
no_walk_home walks =
    let one = walks 0 30 2 (omega arith) refl in
    never_ends one.rest 2 one.walk

pub no_step : ¬ Steps pointing_at_each_other 30 2 0
no_step (Stops here near port) = let e = sym first_hands_on ∙ here in cc
no_step (StepsTo s d a on owner within near port next_port other) =
    let e = sym first_hands_on ∙ on in
    let next : s ≡ 1 = cc in
    let nearer : distance pointing_at_each_other 1 30 + 1 ≡ distance pointing_at_each_other 0 30 =
    subst (λ (s : ℕ). distance pointing_at_each_other s 30 + 1 ≡ distance pointing_at_each_other 0 30) next near in
    cc

-- ---- examples that the definitions exclude

pub comes_back : ¬ AreDifferent (0 ∷ 1 ∷ 0 ∷ [])
comes_back different = different.0.1.0 refl

not_on_the_last : (place : ℕ) (port : Port) → slice_get turned_router.ports place ≡ Some port → port.cable ≡ 2 → ⊥
not_on_the_last zero port at on = cc
not_on_the_last (suc place) port at on = cc

pub no_port : ¬ HasPort pointing_at_each_other 1 2
no_port port =
    let known = port.known in
    let is : turned_router ≡ port.router = cc in
    not_on_the_last port.place port.port (subst (λ (router : Router). slice_get router.ports port.place ≡ Some port.port) (sym is) port.at)
    port.on

pub one_address : ¬ SeatsAreUnique same_addresses
one_address unique = let e = unique.by_address 1 2 _ _ refl refl refl in cc

pub one_hardware_address : ¬ SeatsAreUnique same_hardware_addresses
one_hardware_address unique = let e = unique.by_hardware 1 2 _ _ refl refl refl refl in cc
