-- The lines of a script that were read, one more line at a time.
use Rattle.std.proofs.Common.{◌≡◌, ◌⊎◌, ℕ, ◌+◌, ◌==◌, Bool, true, false, not, ltb, List, [], ◌∷◌, ◌++◌, length, map, min}
use Rattle.std.proofs.Common.{All, Option, Some, refl, ap, sym, ◌∙◌, inl, inr, append_assoc, append-nil, arith}
use Rattle.std.specs.Prelude.{filter, position}
use Rattle.std.specs.List.{position_or_len}
use Rattle.std.proofs.lemmas.Bool.{lt-ltb}
use Rattle.std.proofs.lemmas.List.{map-append, length_push, length-append}
use Rattle.std.proofs.lemmas.List.Elements.{All-head, All-tail, All-push, filter-append}
use Rattle.at_base.specs.declared.error.Error.{Error}
use Rattle.at_base.specs.declared.error.Error.TheVariants.{BadScript, Memory}
use Rattle.text.proofs.Cutting.{first_part}
use Rattle.script.specs.Feeds.{HasLines, IsBadFrom, IsRefused, next_number}
use Rattle.script.specs.Lines.{is_skipped, step}
use Rattle.script.specs.Scripts.{IsBadAt, IsScript, ReachesStep, is_bad, lines}
use Rattle.script.specs.Stops.{IsHopeless, ReadsTo, StopsAt, StopsIn}
use Rattle.script.specs.declared.reader.Reader.{Reader}
use Rattle.script.specs.declared.step.Step.{Step}
use Rattle.script.proofs.Hopeless.{hopeless_is_bad}
use Rattle.script.proofs.Splitting.{last_alone, part_stays, split_more, split_onto}

-- The first index at which a test passes comes after those at which it fails.
module _ {L : Type 0} (p : L → Bool) where
  length_before : (done : List L) (line : L) (more : List L) → All (λ l. p l ≡ false) done → p line ≡ true
      → position_or_len p (done ++ line ∷ more) ≡ length done
  length_before [] line more fine bad = rw bad refl
  length_before (x ∷ done) line more fine bad =
      let head : p x ≡ false = All-head (λ l. p l ≡ false) x done fine in
      let rest = length_before done line more (All-tail (λ l. p l ≡ false) x done fine) bad in
      rw (head, rest) (omega arith)

  pub first_place : (done : List L) (line : L) (more : List L) → All (λ l. p l ≡ false) done → p line ≡ true
      → position p (done ++ line ∷ more) ≡ Some (length done)
  first_place done line more fine bad =
      let place = length_before done line more fine bad in
      let inside : ltb (length done) (length (done ++ line ∷ more)) ≡ true =
      lt-ltb _ _ (let len = length-append done (line ∷ more) in omega arith) in
      rw (place, inside) refl

-- ---- Lines that were read

-- The steps of lines.
abbrev steps_of : List (List ℕ) → List (Option Step)
steps_of done = map step (filter (λ line. not (is_skipped line)) done)

one_more : (done : List (List ℕ)) (line : List ℕ) → steps_of (done ++ line ∷ []) ≡ steps_of done ++ steps_of (line ∷ [])
one_more done line =
    ap (map step) (filter-append (λ l. not (is_skipped l)) done (line ∷ []))
    ∙ map-append step (filter (λ l. not (is_skipped l)) done) (filter (λ l. not (is_skipped l)) (line ∷ []))

more_counted : (r : Reader) (done : List (List ℕ)) (line : List ℕ) (n : ℕ) → HasLines r done → n ≡ next_number r
    → n ≡ min (length (done ++ line ∷ [])) 4294967295
more_counted r done line n h e = let len = length_push done line in let c = h.counted in omega arith

-- A line that is skipped.
pub skipped_more : (r s : Reader) (done : List (List ℕ)) (line : List ℕ) → HasLines r done → is_skipped line ≡ true
    → s.steps.items ≡ r.steps.items → s.lines ≡ next_number r → HasLines s (done ++ line ∷ [])
skipped_more r s done line h skip same next =
    record {
      said = one_more done line ∙ rw (skip, append-nil, same) h.said;
      fine = All-push (λ l. is_bad l ≡ false) done line h.fine (rw skip refl);
      counted = more_counted r done line s.lines h next;
    }

-- A line with a step.
pub told_more : (r s : Reader) (done : List (List ℕ)) (line : List ℕ) (x : Step) → HasLines r done → is_skipped line ≡ false
    → step line ≡ Some x → s.steps.items ≡ r.steps.items ++ x ∷ [] → s.lines ≡ next_number r → HasLines s (done ++ line ∷ [])
told_more r s done line x h tell e same next =
    record {
      said = one_more done line ∙ rw (tell, e, h.said, same, map-append (λ y. Some y) r.steps.items (x ∷ [])) refl;
      fine = All-push (λ l. is_bad l ≡ false) done line h.fine (rw (tell, e) refl);
      counted = more_counted r done line s.lines h next;
    }

-- The number of a line after those that were read.
pub number_next : (r : Reader) (done : List (List ℕ)) (n : ℕ) → HasLines r done → n ≡ next_number r
    → n ≡ min (length done + 1) 4294967295
number_next r done n h e = let c = h.counted in omega arith

-- ---- Bad lines

abbrev AreFine : List (List ℕ) → Type 0
AreFine done = All (λ line. is_bad line ≡ false) done

pub bad_at : (text : List ℕ) (done : List (List ℕ)) (line : List ℕ) (more : List (List ℕ)) → lines text ≡ done ++ line ∷ more
    → AreFine done → is_bad line ≡ true → IsBadAt text (min (length done + 1) 4294967295)
bad_at text done line more whole fine bad = (length done, rw whole (first_place is_bad done line more fine bad), refl)

-- A bad line that has ended.
pub bad_from : (text : List ℕ) (done : List (List ℕ)) (line next : List ℕ) (more : List (List ℕ))
    → lines text ≡ done ++ line ∷ next ∷ more → AreFine done → is_bad line ≡ true → IsBadFrom text (min (length done + 1) 4294967295)
bad_from text done line next more whole fine bad rest =
    let stays = part_stays (λ b. b == 10) text rest done line next more whole in
    bad_at (text ++ rest) done line stays.0 stays.1 fine bad

-- A line that hasn't ended, and is bad whatever follows.
pub hopeless_from : (text : List ℕ) (done : List (List ℕ)) (last : List ℕ) → lines text ≡ done ++ last ∷ [] → AreFine done
    → IsHopeless last → IsBadFrom text (min (length done + 1) 4294967295)
hopeless_from text done last whole fine hopeless rest =
    let first = first_part (λ b. b == 10) rest in
    let alone = last_alone (λ b. b == 10) text done last whole in
    let onto = split_onto (λ b. b == 10) last rest first.0 first.1 alone first.2 in
    let all = split_more (λ b. b == 10) text rest done last whole ∙ ap (λ l. done ++ l) onto in
    bad_at (text ++ rest) done (last ++ first.0) first.1 all fine (hopeless_is_bad last first.0 hopeless)

-- Reading that stops at a line that has ended.
pub stop_refuses : (text : List ℕ) (done : List (List ℕ)) (line next : List ℕ) (more : List (List ℕ)) (e : Error)
    → lines text ≡ done ++ line ∷ next ∷ more → AreFine done → StopsAt done line e → IsRefused e text
stop_refuses text done line next more e whole fine stops =
    elim stops [
      | inl memory ↦ inr memory.0
      | inr bad ↦ inl (min (length done + 1) 4294967295, bad.0, bad_from text done line next more whole fine bad.1)
    ]

-- ---- The lines of a text, one after another

-- After these lines, the first ones of the text were read, and the others are left.
pub record ReadsUpTo (r : Reader) (done : List (List ℕ)) (text left : List ℕ) : Type 0 where
  pub more : List (List ℕ)
  pub whole : lines text ≡ more ++ lines left
  pub read : HasLines r (done ++ more)

pub nothing_read : (r : Reader) (done : List (List ℕ)) (text : List ℕ) → HasLines r done → ReadsUpTo r done text text
nothing_read r done text h = record { more = []; whole = refl; read = rw append-nil h }

pub line_read : (r s : Reader) (done : List (List ℕ)) (text left line rest : List ℕ) → ReadsUpTo r done text left
    → lines left ≡ line ∷ lines rest → ((d : List (List ℕ)) → HasLines r d → HasLines s (d ++ line ∷ []))
    → ReadsUpTo s done text rest
line_read r s done text left line rest u cut next =
    record {
      more = u.more ++ line ∷ [];
      whole = u.whole ∙ (ap (λ l. u.more ++ l) cut ∙ sym (append_assoc u.more (line ∷ []) (lines rest)));
      read = rw append_assoc at (next (done ++ u.more) u.read);
    }

pub last_left : (r : Reader) (done : List (List ℕ)) (text left line : List ℕ) → ReadsUpTo r done text left
    → lines left ≡ line ∷ [] → ReadsTo r done text line
last_left r done text left line u cut =
    record { more = u.more; whole = u.whole ∙ ap (λ l. u.more ++ l) cut; read = u.read }

pub stopped_at : (r : Reader) (done : List (List ℕ)) (text left line rest : List ℕ) (e : Error) → ReadsUpTo r done text left
    → lines left ≡ line ∷ lines rest → ((d : List (List ℕ)) → HasLines r d → StopsAt d line e) → StopsIn done text e
stopped_at r done text left line rest e u cut stops =
    let next = first_part (λ b. b == 10) rest in
    record {
      before = u.more;
      line = line;
      next = next.0;
      after = next.1;
      whole = u.whole ∙ ap (λ l. u.more ++ l) (cut ∙ ap (λ l. line ∷ l) next.2);
      fine = u.read.fine;
      stops = stops (done ++ u.more) u.read;
    }

-- ---- Whole texts

-- All lines were read.
pub script_read : (r : Reader) (text : List ℕ) (done : List (List ℕ)) → lines text ≡ done → HasLines r done
    → IsScript text r.steps.items
script_read r text done whole h = rw whole h.said

-- Reading stops at one of the lines.
pub stop_at : (text : List ℕ) (done : List (List ℕ)) (line : List ℕ) (more : List (List ℕ)) (e : Error)
    → lines text ≡ done ++ line ∷ more → AreFine done → StopsAt done line e
    → ((n : ℕ) × (e ≡ BadScript n) × IsBadAt text n) ⊎ (e ≡ Memory)
stop_at text done line more e whole fine stops =
    elim stops [
      | inl memory ↦ inr memory.0
      | inr bad ↦ inl (min (length done + 1) 4294967295, bad.0, bad_at text done line more whole fine bad.1)
    ]

-- Where it stops for memory, the line has a step.
pub reaches : (text : List ℕ) (done : List (List ℕ)) (line : List ℕ) (more : List (List ℕ)) (e : Error)
    → lines text ≡ done ++ line ∷ more → AreFine done → StopsAt done line e → e ≡ Memory → ReachesStep text
reaches text done line more e whole fine stops none =
    elim stops [
      | inl memory ↦
          record { before = done; line = line; after = more; whole = whole; good = fine; told = memory.1; has = memory.2 }
      | inr bad ↦ let odd = sym none ∙ bad.0 in absurd cc
    ]
