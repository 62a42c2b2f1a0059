-- A forwarded datagram is the received one with one hop more.
use Rattle.std.proofs.Common.{◌≡◌, ℕ, ◌+◌, ◌<◌, List, [], ap, refl, sym, subst, ◌∙◌, arith}
use Rattle.std.proofs.lemmas.List.{append-nil}
use Rattle.at_base.proofs.Readers.{spelled_begins}
use Rattle.at_base.specs.Spelling.{Begins, Spells}
use Rattle.ddp.proofs.Agreement.{spells_with_hops, value_agrees}
use Rattle.ddp.specs.Bodies.{body, hops}
use Rattle.ddp.specs.Datagram.{Datagram, datagram}
use Rattle.router.specs.Forwarding.{bytes_in, onward}

pub keeps_the_body : (bytes : List ℕ) (d : Datagram) → Begins datagram bytes d → d.hops < 15
    → Spells datagram (onward d) (record d { hops = d.hops + 1 }) × (body (onward d) ≡ body bytes) ×
    (hops (onward d) ≡ hops bytes + 1)
keeps_the_body bytes d (rest, parts, v, f) few =
    let e : Datagram = record d { hops = d.hops + 1 } in
    let s : Spells datagram (onward d) e = spells_with_hops (d.hops + 1) (bytes_in d) d (omega (arith, few)) (v, refl) in
    let b : Begins datagram (onward d) e = subst (λ (l : List ℕ). Begins datagram l e) (append-nil (onward d))
    (spelled_begins datagram (onward d) [] e s) in
    let came = value_agrees bytes d (rest, parts, v, f) in
    let goes = value_agrees (onward d) e b in
    (s, goes.3 ∙ sym came.3, goes.0 ∙ ap (λ (n : ℕ). n + 1) (sym came.0))
