-- Services that a node registers.
use Rattle.std.proofs.Common.{◌≡◌, ◌<◌, ℕ, Bool, true, false, not, ap, arith, List}
use Rattle.nbp.specs.Registered.{IsLeastFree, IsNames, free_from, has, with_name}
use Rattle.nbp.specs.declared.names.Named.{Named}
use Rattle.nbp.proofs.Registering.{least_free}
use Rattle.internet_file.specs.Stations.{with_service}
use Rattle.internet_file.specs.declared.service.Service.{Service}

both : (b : Bool) → b ≡ true → not b ≡ true → ⊥
both true is isnt = cc isnt
both false is isnt = cc is

-- Two numbers that are the lowest free one are equal.
one_least : (names : List Named) (m n : ℕ) → IsLeastFree names m → IsLeastFree names n → m ≡ n
one_least names m n a b =
    let upper : (m < n → ⊥) = λ lt. both (has m names) (b.least m a.some lt) a.free in
    let lower : (n < m → ⊥) = λ lt. both (has n names) (a.least n b.some lt) b.free in
    omega (arith, upper, lower)

-- The lowest free enumerator is that of the definition.
pub registers : (names : List Named) (s : Service) (e : ℕ) → IsNames names → IsLeastFree names e
    → with_name (record { socket = s.socket; enumerator = e; object = s.object; kind = s.kind }) names ≡ with_service names s
registers names s e are least =
    ap (λ (n : ℕ). with_name (record { socket = s.socket; enumerator = n; object = s.object; kind = s.kind }) names)
    (one_least names e (free_from 1 names) least (least_free names are.rising))
