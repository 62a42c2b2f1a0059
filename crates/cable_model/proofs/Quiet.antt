-- An entry that changes neither what is pending nor what is held.
use Rattle.std.proofs.Common.{◌≡◌, ℕ, true, false, List, [], ◌∷◌, ◌++◌}
use Rattle.std.proofs.Common.{ap, length, refl, sym, ◌∙◌}
use Rattle.cable_model.specs.Books.{EndsBelow, IsBook, IsQuiet, Names, has_took, held}
use Rattle.cable_model.specs.Books.{said}
use Rattle.cable_model.specs.Holdings.{holds_of, releases}
use Rattle.cable_model.specs.Logs.{entry_at}
use Rattle.cable_model.specs.Pending.{Pair, ends, pairs_of}
use Rattle.cable_model.specs.Transcript.{HasStamp, stamps}
use Rattle.cable_model.specs.Transcript.{Entry, has_put}
use Rattle.cable_model.specs.Transcript.{stamp_after}
use Rattle.cable_model.specs.declared.entry.Entry.{Entry as Line}
use Rattle.cable_model.specs.declared.entry.Entry.TheVariants as line
use Rattle.cable_model.specs.declared.log.Log.{Log}
use Rattle.cable_model.specs.declared.seat.Seat.{Seat}
use Rattle.cable_model.proofs.Books.{book_after, holding_kept, pending_kept}

-- ---- a quiet entry

-- An entry that neither puts a frame nor ends anything, and holds nothing.
record IsCalm (seats : List Seat) (e : Entry) : Type 0 where
  pub next : (n : ℕ) → stamp_after n e ≡ n
  pub put : (stamp : ℕ) → has_put stamp e ≡ false
  pub took : (stamp : ℕ) → has_took stamp e ≡ false
  pub stamp : (k : ℕ) → HasStamp k e
  pub below : (n : ℕ) → EndsBelow n e
  pub ends : (q : Pair) → ends q e ≡ false
  pub releases : (stamp : ℕ) → releases stamp e ≡ false
  pub pairs : pairs_of seats e ≡ []
  pub holds : holds_of e ≡ []

calm : (seats : List Seat) (kept : List (List ℕ)) (l : Line) → IsQuiet l → IsCalm seats (entry_at kept l)
calm seats kept (line.Sent s k) h = record {
  next = λ n. refl;
  put = λ stamp. refl;
  took = λ stamp. refl;
  stamp = λ k. tt;
  below = λ n. tt;
  ends = λ q. refl;
  releases = λ stamp. refl;
  pairs = refl;
  holds = refl;
}
calm seats kept (line.Reached c s how k) h = record {
  next = λ n. refl;
  put = λ stamp. refl;
  took = λ stamp. refl;
  stamp = λ k. tt;
  below = λ n. tt;
  ends = λ q. refl;
  releases = λ stamp. refl;
  pairs = refl;
  holds = refl;
}
calm seats kept (line.Dropped r cause k) h = record {
  next = λ n. refl;
  put = λ stamp. refl;
  took = λ stamp. refl;
  stamp = λ k. tt;
  below = λ n. tt;
  ends = λ q. refl;
  releases = λ stamp. refl;
  pairs = refl;
  holds = refl;
}
calm seats kept (line.Put stamp cable sender to kind k) h = absurd h
calm seats kept (line.Took p s) h = absurd h
calm seats kept (line.Lost p) h = absurd h
calm seats kept (line.Hold stamp cable station next k) h = absurd h

-- a quiet entry was added
pub book_noted : (seats : List Seat) (old new : Log) (l : Line) → IsBook seats old → new.lines.items ≡ old.lines.items ++ l ∷ []
    → new.kept ≡ old.kept → new.waiting ≡ old.waiting → new.due ≡ old.due → new.holdings ≡ old.holdings
    → new.next_stamp ≡ old.next_stamp → Names (length old.kept.items) l → IsQuiet l → IsBook seats new
book_noted seats old new l book lines kept waiting due held next names quiet =
    let e = entry_at old.kept.items l in
    let c = calm seats old.kept.items l quiet in
    book_after seats old new l book lines kept waiting names (next ∙ sym (c.next old.next_stamp))
    (record {
      fresh = λ stamp h. absurd_of (sym h ∙ c.put stamp);
      below = c.below new.next_stamp;
      put_first = λ stamp h. absurd_of (sym h ∙ c.took stamp);
      numbered = λ p q n. c.stamp (stamps (said old));
    })
    (pending_kept seats (said old) e old.due.dues new.due.dues (record { each = book.due; all = book.pending }) c.ends
    (ap (λ d. d.dues) due) c.pairs)
    (holding_kept (said old) e old.holdings.dues new.holdings.dues (record { each = book.held; all = book.holdings }) c.releases
    (ap (λ d. d.dues) held) c.holds)
  where
    absurd_of : {A : Type 0} → true ≡ false → A
    absurd_of e = cc
