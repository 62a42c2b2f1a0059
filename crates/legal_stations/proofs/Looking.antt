-- Which port of a router has a range.
use Rattle.std.proofs.Common.{◌≡◌, ℕ, zero, suc, ◌≤◌, Bool, true, cond, List, [], ◌∷◌, Option, Some, None, option_map, map}
use Rattle.std.proofs.Common.{refl, ap, ◌∙◌, subst, arith, slice_get, position}
use Rattle.at_base.specs.Range.{Span, is_between}
use Rattle.table_image.specs.Internet.{Internet}
use Rattle.table_image.specs.declared.cable.Cable.{Cable}
use Rattle.table_image.specs.declared.port.Port.{Port}
use Rattle.table_image.specs.declared.router.Router.{Router}
use Rattle.audit.specs.Places.{index_of}
use Rattle.audit.specs.Rules.{Passes}
use Rattle.audit.specs.Walks.{HasPort}
use Rattle.audit.proofs.Finding.{index_position}
use Rattle.audit.proofs.WalkFacts.{between_is}
use Rattle.audit.proofs.WalkLists.{At, at_one, index_at, index_found}
use Rattle.audit.proofs.WalkSteps.{one_cable}
use Rattle.image_stations.specs.Holders.{choice_on, ports_of, range_of}
use Rattle.router.specs.Requests.{ranges}

index_map : {X Y : Type 0} (f : X → Y) (t : Y → Bool) (xs : List X) → index_of t (map f xs) ≡ index_of (λ x. t (f x)) xs
index_map f t [] = refl
index_map f t (x ∷ xs) = ap (λ o. cond (t (f x)) (Some zero) (option_map suc o)) (index_map f t xs)

-- The range of the port's cable passes the test.
abbrev pub of_range : Internet → (Span → Bool) → Port → Bool
of_range i test p = test (range_of (slice_get i.cables p.cable))

-- The first port whose range passes is the first whose cable's range passes.
pub first_port : (i : Internet) (test : Span → Bool) (ports : List Port)
    → position (λ c. test c.range) (ports_of i ports) ≡ index_of (of_range i test) ports
first_port i test ports =
    index_position (λ c. test c.range) (ports_of i ports)
    ∙ index_map (λ p. choice_on i p.cable p.address p.hardware) (λ c. test c.range) ports

-- The first of the ports' ranges that passes is that of the first port whose cable's range passes.
pub first_range : (i : Internet) (test : Span → Bool) (ports : List Port)
    → position test (ranges (ports_of i ports)) ≡ index_of (of_range i test) ports
first_range i test ports =
    index_position test (ranges (ports_of i ports))
    ∙ (index_map (λ c. c.range) test (ports_of i ports)
    ∙ index_map (λ p. choice_on i p.cable p.address p.hardware) (λ c. test c.range) ports)

-- The router's port with this index is on the cable.
pub record IsOnCable (router : Router) (place c : ℕ) : Type 0 where
  pub port : Port
  pub at : At router.ports place port
  pub on : port.cable ≡ c

module _ (i : Internet) (router : Router) (c : ℕ) (cable : Cable) (there : At i.cables c cable) (test : Span → Bool) where
  -- A router with a port on a cable whose range passes has a port whose range passes.
  pub some_port : (r : ℕ) → At i.routers r router → HasPort i r c → test (record { start = cable.start; end = cable.end }) ≡ true
      → (place : ℕ) × (index_of (of_range i test) router.ports ≡ Some place)
  some_port r known h passes =
      let same : h.router ≡ router = at_one i.routers r h.router router h.known known in
      let at : At router.ports h.place h.port = subst (λ (x : Router). At x.ports h.place h.port) same h.at in
      let its : slice_get i.cables h.port.cable ≡ Some cable = ap (slice_get i.cables) h.on ∙ there in
      index_found (of_range i test) router.ports h.place h.port at (ap (λ o. test (range_of o)) its ∙ passes)

  -- If only ranges with a network of the cable pass, the port that is found is on the cable.
  pub port_there : Passes i → (net : ℕ) → 1 ≤ net → is_between cable.start cable.end net ≡ true
      → ((s : Span) → test s ≡ true → is_between s.start s.end net ≡ true)
      → (place : ℕ) → index_of (of_range i test) router.ports ≡ Some place → IsOnCable router place c
  port_there ok net some holds only place e =
      let w = index_at (of_range i test) router.ports place e in
      record { port = w.0; at = w.1; on = by w.0.cable (slice_get i.cables w.0.cable) refl (only _ w.2) }
    where
      by : (d : ℕ) (o : Option Cable) → slice_get i.cables d ≡ o → is_between (range_of o).start (range_of o).end net ≡ true → d ≡ c
      by d None e h = let within = between_is 0 0 net h in absurd (omega (arith, within.1, some))
      by d (Some other) e h = one_cable i ok d c other cable net e there h holds
