use Rattle.std.proofs.Common.{[], ◌∷◌, sym, subst}
use Rattle.cable_model.specs.Books.{Grows}
use Rattle.cable_model.specs.Outcomes.{Places, entries_of, held_of}
use Rattle.cable_model.specs.Transcript.{Reached}
use Rattle.cable_model.specs.declared.entry.How.TheVariants.{Own}
use Rattle.cable_model.specs.declared.outlet.Outlet.{Outlet}
use Rattle.ddp.specs.Bodies.{body}
use Rattle.cable_model.proofs.outcome.add.Goals as goal

pub returns-in-Kept-clause-grows : goal.returns-in-Kept-clause-grows
returns-in-Kept-clause-grows g c =
    let places : Places = record { finds = g.R.Resolve.finds c.args.resolver.now; lists = g.R.Resolve.lists c.args.resolver.now } in
    subst (λ o. Grows c.args.log.now c.own.new.log (entries_of places c.args.seats.now c.args.station c.args.log.now.next_stamp o)
    (held_of places c.args.seats.now c.args.station o)) (sym c.in-Kept.is)
    (subst (λ (e : Outlet). Grows c.args.log.now c.own.new.log (Reached e.cable e.station Own (body c.in-Kept.bytes) ∷ []) [])
    c.exit_by-in-Kept.ensures (c.own.ensures.grows c.args.seats.now c.requires.book))

pub returns-in-Kept-clause-book : goal.returns-in-Kept-clause-book
returns-in-Kept-clause-book g c = c.own.ensures.book c.args.seats.now c.requires.book

pub returns-in-Dropped-clause-grows : goal.returns-in-Dropped-clause-grows
returns-in-Dropped-clause-grows g c =
    let places : Places = record { finds = g.R.Resolve.finds c.args.resolver.now; lists = g.R.Resolve.lists c.args.resolver.now } in
    subst (λ o. Grows c.args.log.now c.dropped.new.log (entries_of places c.args.seats.now c.args.station c.args.log.now.next_stamp o)
    (held_of places c.args.seats.now c.args.station o)) (sym c.in-Dropped.is)
    (c.dropped.ensures.grows c.args.seats.now c.requires.book)

pub returns-in-Dropped-clause-book : goal.returns-in-Dropped-clause-book
returns-in-Dropped-clause-book g c = c.dropped.ensures.book c.args.seats.now c.requires.book
