-- What a loop over the ports has done after each turn.
use Rattle.std.proofs.Common.{◌≡◌, ℕ, zero, suc, ◌+◌, ◌<◌, List, [], ◌∷◌, ◌++◌, length, map, take, drop, set, get_or, refl, sym, ap, ◌∙◌, arith}
use Rattle.std.proofs.lemmas.List.{append_assoc, append-nil}
use Rattle.aarp.specs.Choosing.{Choice}
use Rattle.cabled.specs.Putting.{all_asked, asked_again}
use Rattle.cabled.specs.Steps.{all_poisoned, called_at, called_from, without_lost}
use Rattle.port.specs.Ports.{Ported}
use Rattle.rtmp.specs.declared.row.Row.{Row}
use Rattle.aarp.specs.Mapping.{given_up}

-- the next item is still as it was at first
pub still : {X : Type 0} (f : X → X) (all : List X) (i : ℕ) (d : X) → i < length all
    → get_or (map f (take i all) ++ drop i all) i d ≡ get_or all i d
still f [] i d lt = absurd (omega (arith, lt))
still f (x ∷ all) zero d lt = refl
still f (x ∷ all) (suc i) d lt = still f all i d (omega (arith, lt))

-- one more port is called by its address
pub called_more : (choices : List Choice) (k : ℕ) (all ports : List Ported) (i : ℕ) (p : Ported) → i < length all
    → ports ≡ called_from choices k (take i all) ++ drop i all → p ≡ get_or ports i p
    → set ports i (called_at choices (k + i) p) ≡ called_from choices k (take (i + 1) all) ++ drop (i + 1) all
called_more choices k [] ports i p lt so_far is = absurd (omega (arith, lt))
called_more choices k (q ∷ all) ports zero p lt so_far is =
    let same : p ≡ q = is ∙ ap (λ (l : List Ported). get_or l zero p) so_far in
    let number : k + zero ≡ k = omega arith in
    rw (so_far, number, same) refl
called_more choices k (q ∷ all) ports (suc i) p lt so_far is =
    let rest = called_from choices (k + 1) (take i all) ++ drop i all in
    let others = called_more choices (k + 1) all rest i p (omega (arith, lt)) refl
    (is ∙ ap (λ (l : List Ported). get_or l (suc i) p) so_far) in
    let next : suc i + 1 ≡ suc (i + 1) = omega arith in
    let number : k + suc i ≡ (k + 1) + i = omega arith in
    rw (so_far, next, number) (ap (λ (l : List Ported). called_at choices k q ∷ l) others)

-- the requests of one more port
pub asked_more : (k : ℕ) (ports : List Ported) (i : ℕ) (p : Ported) → i < length ports → p ≡ get_or ports i p
    → all_asked k (take (i + 1) ports) ≡ all_asked k (take i ports) ++ asked_again (k + i) p
asked_more k [] i p lt is = absurd (omega (arith, lt))
asked_more k (q ∷ ports) zero p lt is =
    let number : k + zero ≡ k = omega arith in
    rw (number, is) (append-nil (asked_again k q))
asked_more k (q ∷ ports) (suc i) p lt is =
    let next : suc i + 1 ≡ suc (i + 1) = omega arith in
    let number : k + suc i ≡ (k + 1) + i = omega arith in
    rw (next, number, asked_more (k + 1) ports i p (omega (arith, lt)) is)
    (sym (append_assoc (asked_again k q) (all_asked (k + 1) (take i ports)) (asked_again ((k + 1) + i) p)))

-- the routers that one more port gives up are lost
pub lost_more : (ports : List Ported) (rows : List Row) (i : ℕ) (p : Ported) → i < length ports → p ≡ get_or ports i p
    → without_lost (take (i + 1) ports) rows ≡ all_poisoned (given_up p.maps.held) (without_lost (take i ports) rows)
lost_more [] rows i p lt is = absurd (omega (arith, lt))
lost_more (q ∷ ports) rows zero p lt is = rw is refl
lost_more (q ∷ ports) rows (suc i) p lt is =
    let next : suc i + 1 ≡ suc (i + 1) = omega arith in
    rw next (lost_more ports (all_poisoned (given_up q.maps.held) rows) i p (omega (arith, lt)) is)
