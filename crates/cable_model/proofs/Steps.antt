-- The effects of making room, and of several steps together.
use Rattle.std.proofs.Common.{List, [], ap, append-nil, append_assoc, arith, length, map, refl, subst, sym, ℕ, ◌++◌, ◌<◌, ◌∙◌, ◌≡◌}
use Rattle.std.proofs.Common.{true}
use Rattle.std.specs.List.{list_all, list_any, AllByRecursion as Each}
use Rattle.cable_model.specs.Books.{EndsBelow, Grows, IsBook, IsDue, IsHeldAt, IsKept, IsSame, Names, Tells, has_took, held, hold_at}
use Rattle.cable_model.specs.Books.{pair_at, said}
use Rattle.cable_model.specs.Holdings.{still_held}
use Rattle.cable_model.specs.Logs.{Adds, Cabling, entry_at}
use Rattle.cable_model.specs.Order.{in_order}
use Rattle.cable_model.specs.Outcomes.{Held, held_at}
use Rattle.cable_model.specs.Pending.{pending}
use Rattle.cable_model.specs.Transcript.{AreNumbered, ArePutOnce, Entry, has_put, is_plain, next_stamp}
use Rattle.cable_model.specs.Waits.{hold_key, pair_key}
use Rattle.cable_model.specs.declared.log.Log.{Log}
use Rattle.cable_model.specs.declared.room.Rooms.{Rooms}
use Rattle.cable_model.specs.declared.seat.Seat.{Seat}

-- ---- making room

-- making room keeps the invariant
pub same_book : (seats : List Seat) (old new : Log) → IsSame old new → IsBook seats old → IsBook seats new
same_book seats old new same book =
    let t : said new ≡ said old =
    ap (map (entry_at new.kept.items)) same.lines ∙ ap (λ k. map (entry_at k) old.lines.items) same.kept in
    record {
      named =
          subst (λ k. Each (Names (length k)) new.lines.items) (sym same.kept)
          (subst (λ l. Each (Names (length old.kept.items)) l) (sym same.lines) book.named);
      waits =
          subst (λ k. Each (λ w. w.bytes < length k) new.waiting.items) (sym same.kept)
          (subst (λ l. Each (λ w. w.bytes < length old.kept.items) l) (sym same.waiting) book.waits);
      next = same.next_stamp ∙ (book.next ∙ ap next_stamp (sym t));
      once = subst ArePutOnce (sym t) book.once;
      numbered = subst (λ l. list_all is_plain l ≡ true → AreNumbered 0 l) (sym t) book.numbered;
      put_first = λ stamp.
          subst (λ l. list_any (has_took stamp) l ≡ true → list_any (has_put stamp) l ≡ true) (sym t) (book.put_first stamp);
      below =
          subst (λ n. Each (EndsBelow n) (said new)) (sym same.next_stamp)
          (subst (λ l. Each (EndsBelow old.next_stamp) l) (sym t) book.below);
      due = subst (λ l. Each (IsDue seats l) new.due.dues) (sym t) (subst (λ l. Each (IsDue seats (said old)) l) (sym same.due) book.due);
      pending =
          ap (map (pair_at seats (said new))) same.due
          ∙ subst (λ l. map (pair_at seats l) old.due.dues ≡ in_order pair_key (pending seats l)) (sym t) book.pending;
      held =
          subst (λ l. Each (IsHeldAt l) new.holdings.dues) (sym t)
          (subst (λ l. Each (IsHeldAt (said old)) l) (sym same.holdings) book.held);
      holdings =
          ap (map (hold_at (said new))) same.holdings
          ∙ subst (λ l. map (hold_at l) old.holdings.dues ≡ in_order hold_key (still_held l)) (sym t) book.holdings;
    }

pub same_kept : (seats : List Seat) (limit : ℕ) (old new : Log) → IsSame old new → IsKept seats limit old → IsKept seats limit new
same_kept seats limit old new same k =
    let lines = ap length same.lines in
    let kept = ap length same.kept in
    record {
      book = same_book seats old new same k.book;
      few = omega (arith, k.few, lines, old.lines.ok.0, new.lines.ok.0);
      named = omega (arith, k.named, lines, kept, old.lines.ok.0, new.lines.ok.0);
      frames = omega (arith, k.frames, lines, same.next_stamp, old.lines.ok.0, new.lines.ok.0);
      idle = same.waiting ∙ k.idle;
      one_seat = k.one_seat;
    }

-- a log is the same as itself
pub same_log : (log : Log) → IsSame log log
same_log log = record {
  lines = refl;
  kept = refl;
  waiting = refl;
  due = refl;
  holdings = refl;
  next_stamp = refl;
  lines_room = omega arith;
  kept_room = omega arith;
  due_room = omega arith;
}

pub same_grows : (old new : Log) → IsSame old new → Grows old new [] []
same_grows old new same = record {
  said =
      ap (map (entry_at new.kept.items)) same.lines
      ∙ (ap (λ k. map (entry_at k) old.lines.items) same.kept ∙ sym (append-nil (said old)));
  held =
      ap (map (held_at new.kept.items)) same.waiting
      ∙ (ap (λ k. map (held_at k) old.waiting.items) same.kept ∙ sym (append-nil (held old)));
  lines = ([], same.lines ∙ sym (append-nil old.lines.items));
  kept = ([], same.kept ∙ sym (append-nil old.kept.items));
}

-- ---- growth, step by step

chained : {X : Type 0} (xs ys zs us vs : List X) → ys ≡ xs ++ us → zs ≡ ys ++ vs → zs ≡ xs ++ (us ++ vs)
chained xs ys zs us vs e f = f ∙ (ap (λ l. l ++ vs) e ∙ append_assoc xs us vs)

pub grows_then : (a b c : Log) (es fs : List Entry) (hs gs : List Held) → Grows a b es hs → Grows b c fs gs
    → Grows a c (es ++ fs) (hs ++ gs)
grows_then a b c es fs hs gs x y = record {
  said = chained (said a) (said b) (said c) es fs x.said y.said;
  held = chained (held a) (held b) (held c) hs gs x.held y.held;
  lines = (
    x.lines.0 ++ y.lines.0,
    chained a.lines.items b.lines.items c.lines.items x.lines.0 y.lines.0 x.lines.1 y.lines.1,
  );
  kept = (x.kept.0 ++ y.kept.0, chained a.kept.items b.kept.items c.kept.items x.kept.0 y.kept.0 x.kept.1 y.kept.1);
}

-- ---- entries, step by step

pub told : (old new : Log) (es : List Entry) (hs : List Held) → Grows old new es hs → Tells old new es
told old new es hs x = record { said = x.said; lines = x.lines; kept = x.kept }

pub tells_then : (a b c : Log) (es fs : List Entry) → Tells a b es → Tells b c fs → Tells a c (es ++ fs)
tells_then a b c es fs x y = record {
  said = chained (said a) (said b) (said c) es fs x.said y.said;
  lines = (
    x.lines.0 ++ y.lines.0,
    chained a.lines.items b.lines.items c.lines.items x.lines.0 y.lines.0 x.lines.1 y.lines.1,
  );
  kept = (x.kept.0 ++ y.kept.0, chained a.kept.items b.kept.items c.kept.items x.kept.0 y.kept.0 x.kept.1 y.kept.1);
}

pub same_tells : (old new : Log) → new.lines.items ≡ old.lines.items → new.kept.items ≡ old.kept.items → Tells old new []
same_tells old new lines kept = record {
  said =
      ap (map (entry_at new.kept.items)) lines
      ∙ (ap (λ k. map (entry_at k) old.lines.items) kept ∙ sym (append-nil (said old)));
  lines = ([], lines ∙ sym (append-nil old.lines.items));
  kept = ([], kept ∙ sym (append-nil old.kept.items));
}

-- the state of cables with these seats, this limit, these rooms, this log and this room to spare
abbrev pub cabling : List Seat → ℕ → Rooms → Log → ℕ → Cabling
cabling seats limit rooms log spare = record {
  seats = seats;
  limit = limit;
  rooms = rooms;
  lines = log.lines.items;
  kept = log.kept.items;
  spare = spare;
}

pub adds_of : (seats : List Seat) (limit : ℕ) (rooms : Rooms) (old new : Log) (before after : ℕ) (es : List Entry) → Tells old new es
    → Adds (cabling seats limit rooms old before) (cabling seats limit rooms new after) es
adds_of seats limit rooms old new before after es x =
    record { seats = refl; limit = refl; rooms = refl; added = x.said; further = x.lines; kept = x.kept }
