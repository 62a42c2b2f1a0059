use Rattle.std.proofs.Common.{[], ◌∷◌, subst, sym}
use Rattle.cable_model.proofs.Steps.{grows_then, told}
use Rattle.cable_model.specs.Books.{Grows, Tells}
use Rattle.cable_model.specs.Outcomes.{Sender, framed}
use Rattle.at_base.specs.Multicast.{all_hw}
use Rattle.cable_model.specs.Outgoing.{asked}
use Rattle.station.specs.declared.heard.Kind.TheVariants.{Aarp}
use Rattle.cable_model.proofs.holding.ask.Goals as goal

pub put-requires-clause-book : goal.put-requires-clause-book
put-requires-clause-book c = c.keep_packet-number.ensures.book c.args.seats.now c.requires.book

pub returns-clause-tells : goal.returns-clause-tells
returns-clause-tells c =
    let s : Sender = record { stamp = c.args.log.now.next_stamp; cable = c.args.cable; station = c.args.station } in
    let put : Grows c.keep_packet-number.new.log c.put.new.log (framed s all_hw Aarp c.in-Some.packet ∷ []) [] =
    rw (← c.keep_packet-number.ensures.bytes, ← c.keep_packet-number.ensures.next_stamp) c.put.ensures.grows in
    subst (λ p. Tells c.args.log.now c.put.new.log (asked s p)) (sym c.in-Some.is)
    (told c.args.log.now c.put.new.log (framed s all_hw Aarp c.in-Some.packet ∷ []) []
    (grows_then c.args.log.now c.keep_packet-number.new.log c.put.new.log [] _ [] _
    (c.keep_packet-number.ensures.grows c.args.seats.now c.requires.book) put))
