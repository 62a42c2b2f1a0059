use Rattle.std.proofs.Common.{◌≡◌, ◌∙◌, None, Err, ap, inl, refl, sym, Bor, List, ℕ, is_some}
use Rattle.table_image.specs.declared.flaw.Fault.{Fault}
use Rattle.image_feed.specs.Growing.{head_on}
use Rattle.image_feed.proofs.Leading.{advances_stop, denies_read, leads_read, none_of}
use Rattle.image_feed.proofs.head.read_head.Goals as goal

pub returns-in-Ok : goal.returns-in-Ok
returns-in-Ok g c =
    let none : c.args.head.now ≡ None = none_of c.args.head.now (sym c.is_some.ensures ∙ c.if-is_some.false) in
    let lead = leads_read (g.H.Head.spelling c.args.context c.args.low) c.args.bytes.now c.in-Ok.found c.in-Ok.rest.now (c.in-Ok.ensures {u = tt}) in
    (λ more. rw none (lead more), inl refl)

pub returns-in-Err : goal.returns-in-Err
returns-in-Err g c =
    let spelling = g.H.Head.spelling c.args.context c.args.low in
    let none : c.args.head.now ≡ None = none_of c.args.head.now (sym c.is_some.ensures ∙ c.if-is_some.false) in
    advances_stop {X = Bor (List ℕ)} (λ rest. rest.now) (head_on spelling c.args.head.now) c.args.bytes.now c.in-Err.fault (is_some c.args.head.now)
    c.unless_cut.result c.unless_cut.ensures.waits c.unless_cut.ensures.refused
    (λ cut. rw none (c.in-Err.ensures {u = tt} ∙ ap (λ (f : Fault). Err f) cut))
    (λ other. rw none (denies_read spelling c.args.bytes.now c.in-Err.fault (c.in-Err.ensures {u = tt}) other))
