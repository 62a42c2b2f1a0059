-- The log after a frame was taken or lost, or a held datagram given up.
use Rattle.std.proofs.Common.{◌≡◌, ℕ, ◌<◌, true, false, not, ◌==◌, List, [], ◌∷◌, ◌++◌, filter, refl, sym, ap, ◌∙◌, arith, eqb-true, subst}
use Rattle.std.specs.List.{list_any}
use Rattle.cable_model.proofs.Books.{book_after, held_stamp_is, holding_kept, holding_left, pending_left}
use Rattle.cable_model.proofs.Finds.{at_named, stamp_named}
use Rattle.cable_model.specs.Books.{IsBook, IsHeldAt, hold_at, said}
use Rattle.cable_model.specs.Holdings.{releases}
use Rattle.cable_model.specs.Transcript.{Entry, Took, Lost, has_put}
use Rattle.cable_model.specs.Waits.{is_at}
use Rattle.cable_model.specs.declared.due.Due.{Due}
use Rattle.cable_model.specs.declared.entry.Entry.TheVariants as line
use Rattle.cable_model.specs.declared.log.Log.{Log}
use Rattle.cable_model.specs.declared.seat.Seat.{Seat}

pub swapped : (m n : ℕ) → (m == n) ≡ (n == m)
swapped m n = grind arith

-- a holding is ended by the loss of its stamp
pub released_is : (t : List Entry) (stamp : ℕ) (d : Due) → IsHeldAt t d → (stamp == d.stamp) ≡ releases (hold_at t d).stamp (Lost stamp)
released_is t stamp d h = swapped stamp d.stamp ∙ ap (λ n. n == stamp) (sym (held_stamp_is t d h))

-- a station took a frame that had been put
pub book_took : (seats : List Seat) (old new : Log) (stamp station : ℕ) → IsBook seats old
    → new.lines.items ≡ old.lines.items ++ line.Took stamp station ∷ [] → new.kept ≡ old.kept → new.waiting ≡ old.waiting
    → new.next_stamp ≡ old.next_stamp → new.due.dues ≡ filter (λ d. not (is_at stamp station d)) old.due.dues
    → new.holdings ≡ old.holdings → stamp < old.next_stamp → list_any (has_put stamp) (said old) ≡ true → IsBook seats new
book_took seats old new stamp station book lines kept waiting next due held earlier put =
    let e = Took stamp station in
    book_after seats old new (line.Took stamp station) book lines kept waiting tt next
    (record {
      fresh = λ s h. absurd_of h;
      below = subst (λ n. stamp < n) (sym next) earlier;
      put_first = λ s h. subst (λ n. list_any (has_put n) (said old) ≡ true) (sym (eqb-true s stamp h)) put;
      numbered = λ p q n. tt;
    })
    (pending_left seats (said old) e (is_at stamp station) old.due.dues new.due.dues (record { each = book.due; all = book.pending })
    (at_named seats old book stamp station) due refl)
    (holding_kept (said old) e old.holdings.dues new.holdings.dues (record { each = book.held; all = book.holdings }) (λ s. refl)
    (ap (λ w. w.dues) held) refl)
  where
    absurd_of : {A : Type 0} → false ≡ true → A
    absurd_of e = cc

-- a frame was lost, or a held datagram given up
pub book_lost : (seats : List Seat) (old new : Log) (stamp : ℕ) → IsBook seats old
    → new.lines.items ≡ old.lines.items ++ line.Lost stamp ∷ [] → new.kept ≡ old.kept → new.waiting ≡ old.waiting
    → new.next_stamp ≡ old.next_stamp → new.due.dues ≡ filter (λ d. not (stamp == d.stamp)) old.due.dues
    → new.holdings.dues ≡ filter (λ d. not (stamp == d.stamp)) old.holdings.dues → stamp < old.next_stamp → IsBook seats new
book_lost seats old new stamp book lines kept waiting next due held earlier =
    let e = Lost stamp in
    book_after seats old new (line.Lost stamp) book lines kept waiting tt next
    (record {
      fresh = λ s h. absurd_of h;
      below = subst (λ n. stamp < n) (sym next) earlier;
      put_first = λ s h. absurd_of h;
      numbered = λ p q n. tt;
    })
    (pending_left seats (said old) e (λ d. stamp == d.stamp) old.due.dues new.due.dues (record { each = book.due; all = book.pending })
    (stamp_named seats old book stamp) due refl)
    (holding_left (said old) e (λ d. stamp == d.stamp) old.holdings.dues new.holdings.dues
    (record { each = book.held; all = book.holdings }) (released_is (said old) stamp) held refl)
  where
    absurd_of : {A : Type 0} → false ≡ true → A
    absurd_of e = cc
