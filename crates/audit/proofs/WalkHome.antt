-- From each router there is one walk for a listed network, and it ends at the network's home.
use Rattle.std.proofs.Common.{◌≡◌, ℕ, zero, suc, ◌<◌, ◌≤◌, List, [], ◌∷◌, Some, length, refl, sym, ap, ◌∙◌, subst, arith}
use Rattle.table_image.specs.Internet.{Internet}
use Rattle.audit.specs.Routing.{home, distance}
use Rattle.audit.specs.Rules.{Passes}
use Rattle.audit.specs.Walks.{IsWalk, NotAmong, AreDifferent, WalksHome, Stops, StepsTo}
use Rattle.audit.proofs.WalkSteps.{steps, near}

-- each router is nearer than d
abbrev AreNearer : Internet → ℕ → ℕ → List ℕ → Type 0
AreNearer i n d [] = Unit {0}
AreNearer i n d (s ∷ rest) = (distance i s n < d) × AreNearer i n d rest

nearer_more : (i : Internet) (n d e : ℕ) (rest : List ℕ) → d ≤ e → AreNearer i n d rest → AreNearer i n e rest
nearer_more i n d e [] le h = tt
nearer_more i n d e (s ∷ rest) le h = (omega (arith, h.0), nearer_more i n d e rest le h.1)

-- a router isn't among nearer ones
not_among : (i : Internet) (n r : ℕ) (rest : List ℕ) → AreNearer i n (distance i r n) rest → NotAmong r rest
not_among i n r [] h = tt
not_among i n r (s ∷ rest) h = ((λ e. let same = ap (λ r. distance i r n) e in absurd (omega (arith, h.0))), not_among i n r rest h.1)

record GoesHome (i : Internet) (n c r : ℕ) : Type 0 where
  rest : List ℕ
  walk : IsWalk i n r rest c
  nearer : AreNearer i n (distance i r n) rest
  different : AreDifferent rest
  long : length rest ≡ distance i r n

module _ (i : Internet) (ok : Passes i) (n c : ℕ) (listed : home i n ≡ Some c) where
  -- by recursion on the distance
  goes_home : (d r : ℕ) → distance i r n ≡ d → r < length i.routers → GoesHome i n c r
  goes_home zero r far within =
      elim (steps i ok r n c within listed) [
        | Stops here none port ↦ record { rest = []; walk = here; nearer = tt; different = tt; long = sym none }
        | StepsTo s e a on own le less port theirs apart ↦ absurd (omega arith)
      ]
  goes_home (suc d) r far within =
      elim (steps i ok r n c within listed) [
        | Stops here none port ↦ record { rest = []; walk = here; nearer = tt; different = tt; long = sym none }
        | StepsTo s e a on own le less port theirs apart ↦
            let f = goes_home d s (omega arith) le in
            record {
              rest = s ∷ f.rest;
              walk = (e, a, on, f.walk);
              nearer = (omega arith, nearer_more i n (distance i s n) (distance i r n) f.rest (omega arith) f.nearer);
              different = (not_among i n s f.rest f.nearer, f.different);
              long = (let l = f.long in omega arith);
            }
      ]

-- a walk is the only one
one_only : (i : Internet) (n r : ℕ) (rest others : List ℕ) (c d : ℕ) → IsWalk i n r rest c → IsWalk i n r others d → (others ≡ rest)
    × (d ≡ c)
one_only i n r [] [] c d w v = (refl, (let e = sym v ∙ w in cc))
one_only i n r [] (s ∷ others) c d w v = let e = sym v.2 ∙ w in cc
one_only i n r (s ∷ rest) [] c d w v = let e = sym v ∙ w.2 in cc
one_only i n r (s ∷ rest) (t ∷ others) c d w v =
    let e = sym v.2 ∙ w.2 in
    let same : t ≡ s = cc in
    let h = one_only i n s rest others c d w.3 (subst (λ t. IsWalk i n t others d) same v.3) in
    ((let f = h.0 in cc), h.1)

pub walks_home : (i : Internet) → Passes i → WalksHome i
walks_home i ok r n c within listed =
    let f = goes_home i ok n c listed (distance i r n) r refl within in
    record {
      rest = f.rest;
      walk = f.walk;
      only = λ others d v. one_only i n r f.rest others c d f.walk v;
      different = (not_among i n r f.rest f.nearer, f.different);
      long = f.long;
      short = (let l = f.long in let far = near i ok r n c within listed in omega arith);
    }
