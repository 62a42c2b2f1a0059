use Rattle.std.proofs.Common.{◌≡◌, ◌++◌, length, rules, [], ◌∷◌, refl, sym, ap, ◌∙◌, append-nil}
use Rattle.cable_model.proofs.Books.{book_same, bytes_last, extends}
use Rattle.cable_model.specs.Logs.{bytes_at}
use Rattle.cable_model.proofs.holding.keep_packet.Goals as goal

pub returns-clause-grows : goal.returns-clause-grows
returns-clause-grows c = λ seats book.
    (extends seats _ _ [] (c.args.packet ∷ []) [] book (sym (append-nil _)) c.push_packet.ensures.items (sym (append-nil _)) tt tt).grows

pub returns-clause-book : goal.returns-clause-book
returns-clause-book c = λ seats book.
    book_same seats _ _ [] book
    (extends seats _ _ [] (c.args.packet ∷ []) [] book (sym (append-nil _)) c.push_packet.ensures.items (sym (append-nil _)) tt tt)
    refl refl refl

pub returns-clause-bytes : goal.returns-clause-bytes
returns-clause-bytes c =
    let here : c.len-number.result ≡ length c.args.log.now.kept.items = search rules in
    ap (λ k. bytes_at k c.len-number.result) c.push_packet.ensures.items
    ∙ (ap (bytes_at (c.args.log.now.kept.items ++ c.args.packet ∷ [])) here ∙ bytes_last c.args.log.now.kept.items c.args.packet)
