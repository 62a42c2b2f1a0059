-- The routers that have carried a datagram so far, each handing it to the next.
use Rattle.std.proofs.Common.{◌≡◌, ℕ, ◌<◌, ◌≤◌, List, [], ◌∷◌, ◌++◌, Some, length, refl, ap, ◌∙◌, arith}
use Rattle.at_base.specs.declared.address.Addr.{Addr}
use Rattle.table_image.specs.Internet.{Internet}
use Rattle.audit.specs.Routing.{Here, On, hand, home}
use Rattle.audit.specs.Rules.{Passes}
use Rattle.audit.specs.Walks.{IsWalk}
use Rattle.audit.proofs.WalkHome.{walks_home}
use Rattle.legal_runs.specs.Carriage.{IsChain}

-- The first router of the chain, or r if the chain is empty.
abbrev pub first : List ℕ → ℕ → ℕ
first [] r = r
first (a ∷ chain) r = a

-- Each router of the chain hands datagrams for network n to the next, and the last one to r.
abbrev pub Path : Internet → ℕ → List ℕ → ℕ → Type 0
Path i n [] r = Unit {0}
Path i n (a ∷ chain) r = (a < length i.routers) × ((d : ℕ) × (x : Addr) × (hand i a n ≡ On (first chain r) d x) × Path i n chain r)

-- A path with one more router.
pub path_on : (i : Internet) (n : ℕ) (chain : List ℕ) (r s d : ℕ) (x : Addr) → Path i n chain r → r < length i.routers
    → hand i r n ≡ On s d x → Path i n (chain ++ r ∷ []) s
path_on i n [] r s d x h within e = (within, (d, x, e, tt))
path_on i n (a ∷ chain) r s d x h within e =
    (h.0, (h.1.0, h.1.1, h.1.2 ∙ ap (λ b. On b h.1.0 h.1.1) (same chain), path_on i n chain r s d x h.1.3 within e))
  where
    same : (chain : List ℕ) → first chain r ≡ first (chain ++ r ∷ []) s
    same [] = refl
    same (b ∷ chain) = refl

path_walk : (i : Internet) (n a : ℕ) (chain : List ℕ) (r c d : ℕ) (x : Addr) → hand i a n ≡ On (first chain r) d x → Path i n chain r
    → hand i r n ≡ Here c → IsWalk i n a (chain ++ r ∷ []) c
path_walk i n a [] r c d x on h e = (d, x, on, e)
path_walk i n a (b ∷ chain) r c d x on h e = (d, x, on, path_walk i n b chain r c h.1.0 h.1.1 h.1.2 h.1.3 e)

-- A walk to a network's home has at most 15 routers.
short : (i : Internet) → Passes i → (n r c : ℕ) → home i n ≡ Some c → r < length i.routers → (rest : List ℕ) → IsWalk i n r rest c
    → length (r ∷ rest) ≤ 15
short i ok n r c listed within rest w =
    let one = walks_home i ok r n c within listed in
    let same = ap (λ (x : List ℕ). length x) (one.only rest c w).0 in
    let few = one.short in
    omega (arith, same, few)

-- If the last router puts the datagram on its home cable, the chain is the walk.
pub path_home : (i : Internet) → Passes i → (n : ℕ) (chain : List ℕ) (r c : ℕ) → home i n ≡ Some c → Path i n chain r
    → r < length i.routers → hand i r n ≡ Here c → IsChain i n c (chain ++ r ∷ [])
path_home i ok n [] r c listed h within e = (e, short i ok n r c listed within [] e)
path_home i ok n (a ∷ chain) r c listed h within e =
    let walk = path_walk i n a chain r c h.1.0 h.1.1 h.1.2 h.1.3 e in
    (walk, short i ok n a c listed h.0 (chain ++ r ∷ []) walk)
