-- Settled ports don't change, and no direct row is added if no port settles.
use Rattle.std.proofs.Common.{◌≡◌, ℕ, zero, suc, ◌+◌, ◌%◌, ◌==◌, Bool, true, false, true≢false, List, [], ◌∷◌, ◌++◌, refl, ap, ◌∙◌, arith}
use Rattle.std.specs.List.{list_all, list_any}
use Rattle.std.proofs.lemmas.Bool.{and_parts, ne_eqb}
use Rattle.aarp.specs.Choosing.{Choice, ticked}
use Rattle.live_router.specs.Ticking.{all_joined, ports_ticked, probes, router_after, sent_by, settles}
use Rattle.router.specs.Holding.{Holding}
use Rattle.atp.specs.Responding.{ticked as requests_ticked}
use Rattle.rtmp.specs.declared.row.Row.{Row}

-- each port is settled
abbrev pub AreSettled : List Choice → Type 0
AreSettled ports = list_all (λ c. c.is_settled) ports ≡ true

pub settled_stay : (ports : List Choice) → AreSettled ports → ports ≡ ports_ticked ports
settled_stay [] h = refl
settled_stay (c ∷ cs) h =
    let p = and_parts c.is_settled (list_all (λ x. x.is_settled) cs) h in
    let same : c ≡ (ticked c).0 = rw p.0 refl in
    ap (λ (x : Choice). x ∷ cs) same ∙ ap (λ (l : List Choice). (ticked c).0 ∷ l) (settled_stay cs p.1)

pub settled_silent : (k : ℕ) (ports : List Choice) → AreSettled ports → probes k ports ≡ []
settled_silent k [] h = refl
settled_silent k (c ∷ cs) h =
    let p = and_parts c.is_settled (list_all (λ x. x.is_settled) cs) h in
    rw p.0 (settled_silent (k + 1) cs p.1)

-- if no port settles, the rows stay the same
pub none_joined : (k : ℕ) (ports : List Choice) (rows : List Row) → list_any settles ports ≡ false → rows ≡ all_joined k ports rows
none_joined k [] rows h = refl
none_joined k (c ∷ cs) rows h = by (settles c) refl (λ (none : list_any settles cs ≡ false). none_joined (k + 1) cs rows none)
  where
    by : (b : Bool) → settles c ≡ b → (list_any settles cs ≡ false → rows ≡ all_joined (k + 1) cs rows)
        → rows ≡ all_joined k (c ∷ cs) rows
    by true e rest = absurd (let bad : true ≡ false = rw e at h in cc)
    by false e rest = rw e (rest (rw e at h))

-- settled ports don't settle
pub none_settles : (ports : List Choice) → AreSettled ports → list_any settles ports ≡ false
none_settles [] h = refl
none_settles (c ∷ cs) h =
    let p = and_parts c.is_settled (list_all (λ x. x.is_settled) cs) h in
    rw (p.0, none_settles cs p.1) refl

-- ---- a tick in which little happens

early : (phase : ℕ) → (phase % 50 == 0) ≡ false → (phase == 0) ≡ false
early zero e = absurd (true≢false e)
early (suc phase) e = ne_eqb (suc phase) 0 (λ same. omega (arith, same))

-- where no data is sent and the ports are settled, a tick changes the requests alone
pub quiet_after : (phase : ℕ) (h : Holding) → (phase % 50 == 0) ≡ false → AreSettled h.ports
    → router_after phase h ≡ record h { requests = requests_ticked h.requests }
quiet_after phase h no_data settled =
    rw (early phase no_data, ← settled_stay h.ports settled, ← none_joined 0 h.ports h.routes (none_settles h.ports settled)) refl

-- and nothing is sent
pub quiet_silent : (phase : ℕ) (h after : Holding) → (phase % 50 == 0) ≡ false → AreSettled h.ports
    → probes 0 h.ports ++ sent_by phase after ≡ []
quiet_silent phase h after no_data settled = rw (settled_silent 0 h.ports settled, no_data) refl
