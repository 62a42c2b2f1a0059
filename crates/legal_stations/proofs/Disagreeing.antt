-- Holdings that don't agree with the image.
use Rattle.std.proofs.Common.{◌≡◌, ℕ, Option, Some, None, ap, refl, slice_get, subst, sym, ◌∙◌}
use Rattle.at_base.specs.declared.address.Addr.{Addr}
use Rattle.audit.specs.Example.{addr, first_router, port as port_on, three_cables}
use Rattle.audit.specs.Routing.{Here, On, Nowhere, hand}
use Rattle.legal_stations.specs.Agreeing.{Agree, BothNowhere, BothHere, BothOn}
use Rattle.legal_stations.specs.Disagreeing.{by_no_port, by_the_second_port, over_the_first_cable, round_about, rowless, said_to_be_there}
use Rattle.legal_stations.specs.Disagreeing.{through_nobody, to_unlisted, unlisted_there}
use Rattle.router.specs.Holding.{Holding, hand as hand_in}
use Rattle.router.specs.declared.hand.Hand.{Hand}
use Rattle.router.specs.declared.hand.Hand.TheVariants as to
use Rattle.table_image.specs.Internet.{Internet}
use Rattle.table_image.specs.declared.port.Port.{Port}
use Rattle.table_image.specs.declared.router.Router.{Router}

-- ---- What agreement says of each answer of a router

no_way_there : (q : ℕ) → ◌≡◌ {A = Hand} to.Nowhere (to.Here q) → ⊥
no_way_there q e = cc

no_way_on : (q : ℕ) (a : Addr) → ◌≡◌ {A = Hand} to.Nowhere (to.On q a) → ⊥
no_way_on q a e = cc

there_or_on : (p q : ℕ) (a : Addr) → ◌≡◌ {A = Hand} (to.Here p) (to.On q a) → ⊥
there_or_on p q a e = cc

same_port : (p q : ℕ) → ◌≡◌ {A = Hand} (to.Here p) (to.Here q) → p ≡ q
same_port p q e = cc

same_way : (p q : ℕ) (a b : Addr) → ◌≡◌ {A = Hand} (to.On p a) (to.On q b) → (p ≡ q) × (a ≡ b)
same_way p q a b e = (cc, cc)

-- Without a route by the router's table, the image has none.
no_route : (i : Internet) (r : ℕ) (router : Router) (h : Holding) (n : ℕ) → hand_in h.routes n ≡ to.Nowhere → Agree i r router h n
    → hand i r n ≡ Nowhere
no_route i r router h n said (BothNowhere there says) = says
no_route i r router h n said (BothHere p port at there says home) = absurd (no_way_there p (sym said ∙ there))
no_route i r router h n said (BothOn p port s a at there says owns) = absurd (no_way_on p a (sym said ∙ there))

-- Where the router's table puts datagrams on the cable of a port, the image does.
put_there : (i : Internet) (r : ℕ) (router : Router) (h : Holding) (n q : ℕ) → hand_in h.routes n ≡ to.Here q → Agree i r router h n
    → (port : Port) × (slice_get router.ports q ≡ Some port) × (hand i r n ≡ Here port.cable)
put_there i r router h n q said (BothNowhere there says) = absurd (no_way_there q (sym there ∙ said))
put_there i r router h n q said (BothHere p port at there says home) =
    let same : p ≡ q = same_port p q (sym there ∙ said) in
    (port, subst (λ k. slice_get router.ports k ≡ Some port) same at, says)
put_there i r router h n q said (BothOn p port s a at there says owns) = absurd (there_or_on q p a (sym said ∙ there))

-- Where the router's table hands datagrams to an address over the cable of a port, the image does.
handed_on : (i : Internet) (r : ℕ) (router : Router) (h : Holding) (n q : ℕ) (b : Addr) → hand_in h.routes n ≡ to.On q b
    → Agree i r router h n → (s : ℕ) × (port : Port) × (slice_get router.ports q ≡ Some port) × (hand i r n ≡ On s port.cable b)
handed_on i r router h n q b said (BothNowhere there says) = absurd (no_way_on q b (sym there ∙ said))
handed_on i r router h n q b said (BothHere p port at there says home) = absurd (there_or_on p q b (sym there ∙ said))
handed_on i r router h n q b said (BothOn p port s a at there says owns) =
    let same = same_way p q a b (sym there ∙ said) in
    (s, port, subst (λ k. slice_get router.ports k ≡ Some port) same.0 at, subst (λ c. hand i r n ≡ On s port.cable c) same.1 says)

-- ---- The examples

here_nowhere : (c : ℕ) → Here c ≡ Nowhere → ⊥
here_nowhere c e = cc

on_nowhere : (r c : ℕ) (a : Addr) → On r c a ≡ Nowhere → ⊥
on_nowhere r c a e = cc

here_on : (b r c : ℕ) (a : Addr) → Here b ≡ On r c a → ⊥
here_on b r c a e = cc

here_cable : (b c : ℕ) → Here b ≡ Here c → b ≡ c
here_cable b c e = cc

on_cable : (r s b c : ℕ) (a d : Addr) → On r b a ≡ On s c d → b ≡ c
on_cable r s b c a d e = cc

on_address : (r s b c : ℕ) (a d : Addr) → On r b a ≡ On s c d → a ≡ d
on_address r s b c a d e = cc

some_same : {X : Type 0} (x y : X) → Some x ≡ Some y → x ≡ y
some_same x y e = cc

no_port : (p : Port) → ◌≡◌ {A = Option Port} None (Some p) → ⊥
no_port p e = cc

zero_one : ◌≡◌ {A = ℕ} 0 1 → ⊥
zero_one e = cc

one_zero : ◌≡◌ {A = ℕ} 1 0 → ⊥
one_zero e = cc

two_nine : ◌≡◌ {A = ℕ} 2 9 → ⊥
two_nine e = cc

pub rowless_here : Agree three_cables 0 first_router rowless 10 → ⊥
rowless_here law = here_nowhere 0 (no_route three_cables 0 first_router rowless 10 refl law)

pub rowless_on : Agree three_cables 0 first_router rowless 30 → ⊥
rowless_on law = on_nowhere 1 1 (addr 20 2) (no_route three_cables 0 first_router rowless 30 refl law)

pub second_port : Agree three_cables 0 first_router by_the_second_port 10 → ⊥
second_port law =
    let x = put_there three_cables 0 first_router by_the_second_port 10 1 refl law in
    zero_one (here_cable 0 x.0.cable x.2 ∙ sym (ap (λ p. p.cable) (some_same (port_on 1 (addr 20 1) 2) x.0 x.1)))

pub third_port : Agree three_cables 0 first_router by_no_port 10 → ⊥
third_port law = let x = put_there three_cables 0 first_router by_no_port 10 2 refl law in no_port x.0 x.1

pub own_cable_round : Agree three_cables 0 first_router round_about 10 → ⊥
own_cable_round law =
    let x = handed_on three_cables 0 first_router round_about 10 1 (addr 20 2) refl law in
    here_on 0 x.0 x.1.cable (addr 20 2) x.3

pub last_cable_here : Agree three_cables 0 first_router said_to_be_there 30 → ⊥
last_cable_here law =
    let x = put_there three_cables 0 first_router said_to_be_there 30 1 refl law in
    here_on x.0.cable 1 1 (addr 20 2) (sym x.2)

pub first_cable_on : Agree three_cables 0 first_router over_the_first_cable 30 → ⊥
first_cable_on law =
    let x = handed_on three_cables 0 first_router over_the_first_cable 30 0 (addr 20 2) refl law in
    one_zero (on_cable 1 x.0 1 x.1.cable (addr 20 2) (addr 20 2) x.3
    ∙ sym (ap (λ p. p.cable) (some_same (port_on 0 (addr 10 1) 1) x.1 x.2)))

pub nobody_on : Agree three_cables 0 first_router through_nobody 30 → ⊥
nobody_on law =
    let x = handed_on three_cables 0 first_router through_nobody 30 1 (addr 20 9) refl law in
    two_nine (ap (λ a. a.node) (on_address 1 x.0 1 x.1.cable (addr 20 2) (addr 20 9) x.3))

pub unlisted_on : Agree three_cables 0 first_router to_unlisted 50 → ⊥
unlisted_on law =
    let x = handed_on three_cables 0 first_router to_unlisted 50 1 (addr 20 2) refl law in
    on_nowhere x.0 x.1.cable (addr 20 2) (sym x.3)

pub unlisted_here : Agree three_cables 0 first_router unlisted_there 50 → ⊥
unlisted_here law =
    let x = put_there three_cables 0 first_router unlisted_there 50 1 refl law in here_nowhere x.0.cable (sym x.2)
