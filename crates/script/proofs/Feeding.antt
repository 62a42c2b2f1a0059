-- Feeds: what a piece adds to the text that was fed, and what comes of the whole.
use Rattle.std.proofs.Common.{◌≡◌, ◌⊎◌, ℕ, ◌+◌, ◌==◌, List, [], ◌∷◌, ◌++◌, length, min}
use Rattle.std.proofs.Common.{Option, Result, Some, None, Ok, Err, refl, ap, sym, ◌∙◌, inl, inr, append_assoc, append-nil, subst}
use Rattle.std.specs.Prelude.{IfErr, IfOk, IsErrAnd}
use Rattle.at_base.specs.declared.error.Error.{Error}
use Rattle.at_base.specs.declared.error.Error.TheVariants.{BadScript, Memory}
use Rattle.text.proofs.Cutting.{first_part}
use Rattle.script.specs.Feeds.{Fed, GoesOn, HasLines, HasRead, IsOpen, IsRefused, Stands, next_number}
use Rattle.script.specs.Scripts.{IsBadAt, IsScript, lines}
use Rattle.script.specs.Stops.{IsHopeless, StopsAt, StopsIn}
use Rattle.script.specs.declared.open_line.OpenLine.{OpenLine}
use Rattle.script.specs.declared.reader.Reader.{Reader}
use Rattle.script.specs.declared.step.Step.{Step}
use Rattle.script.proofs.Progress.{hopeless_from, number_next, stop_refuses}
use Rattle.script.proofs.Splitting.{last_alone, split_more, split_onto}
use Rattle.script.proofs.Telling.{no_bad_line}

-- ---- The lines of a text and a piece

-- The lines of the piece, of which the first one ends the open line.
pub lines_onto : (text piece : List ℕ) (done : List (List ℕ)) (last first : List ℕ) (more : List (List ℕ))
    → lines text ≡ done ++ last ∷ [] → lines piece ≡ first ∷ more → lines (text ++ piece) ≡ done ++ (last ++ first) ∷ more
lines_onto text piece done last first more whole cut =
    let alone = last_alone (λ b. b == 10) text done last whole in
    split_more (λ b. b == 10) text piece done last whole ∙ ap (λ l. done ++ l) (split_onto (λ b. b == 10) last piece first more alone cut)

-- A piece in which no line ends.
pub goes_on : (r : Reader) (open_line new : OpenLine) (text piece first : List ℕ) → lines piece ≡ first ∷ [] → (g : GoesOn r open_line text)
    → ((line : List ℕ) → IsOpen open_line line → IsOpen new (line ++ first)) → GoesOn r new (text ++ piece)
goes_on r open_line new text piece first cut g more =
    record {
      done = g.done;
      last = g.last ++ first;
      whole = lines_onto text piece g.done g.last first [] g.whole cut;
      read = g.read;
      kept = more g.last g.kept;
    }

-- The refusal of an open line.
pub open_refused : (r : Reader) (text : List ℕ) (done : List (List ℕ)) (line : List ℕ) (e : Error) → lines text ≡ done ++ line ∷ []
    → HasLines r done → (e ≡ Memory) ⊎ ((e ≡ BadScript (next_number r)) × IsHopeless line) → IsRefused e text
open_refused r text done line e whole read stops =
    elim stops [
      | inl memory ↦ inr memory
      | inr bad ↦
          inl (
            min (length done + 1) 4294967295,
            bad.0 ∙ ap BadScript (number_next r done (next_number r) read refl),
            hopeless_from text done line whole read.fine bad.1,
          )
    ]

-- The lines of a text, of which the open one was ended and then those of the rest were read.
pub lines_then : (text rest : List ℕ) (done : List (List ℕ)) (line : List ℕ) (more : List (List ℕ)) (last : List ℕ)
    → lines text ≡ done ++ line ∷ lines rest → lines rest ≡ more ++ last ∷ []
    → lines text ≡ ((done ++ line ∷ []) ++ more) ++ last ∷ []
lines_then text rest done line more last whole cut =
    whole ∙ ap (λ l. done ++ line ∷ l) cut ∙ sym (append_assoc done (line ∷ []) (more ++ last ∷ []))
    ∙ sym (append_assoc (done ++ line ∷ []) more (last ∷ []))

-- The refusal of a line that ends in a piece, after the first one.
pub later_refused : (text rest : List ℕ) (done : List (List ℕ)) (line : List ℕ) (e : Error) → lines text ≡ done ++ line ∷ lines rest
    → StopsIn (done ++ line ∷ []) rest e → IsRefused e text
later_refused text rest done line e whole s =
    let all : lines text ≡ ((done ++ line ∷ []) ++ s.before) ++ s.line ∷ s.next ∷ s.after =
    whole ∙ ap (λ l. done ++ line ∷ l) s.whole ∙ sym (append_assoc done (line ∷ []) (s.before ++ s.line ∷ s.next ∷ s.after))
    ∙ sym (append_assoc (done ++ line ∷ []) s.before (s.line ∷ s.next ∷ s.after)) in
    stop_refuses text ((done ++ line ∷ []) ++ s.before) s.line s.next s.after e all s.fine s.stops

-- The refusal of the open line, which ends in the piece.
pub first_refused : (text rest : List ℕ) (done : List (List ℕ)) (line : List ℕ) (e : Error) (r : Reader)
    → lines text ≡ done ++ line ∷ lines rest → HasLines r done → (e ≡ Memory) ⊎ StopsAt done line e → IsRefused e text
first_refused text rest done line e r whole read stops =
    let next = first_part (λ b. b == 10) rest in
    elim stops [
      | inl memory ↦ inr memory
      | inr stop ↦ stop_refuses text done line next.0 next.1 e (whole ∙ ap (λ l. done ++ line ∷ l) next.2) read.fine stop
    ]

-- A refusal of a text is one of what begins with it.
pub refused_more : (e : Error) (text more : List ℕ) → IsRefused e text → IsRefused e (text ++ more)
refused_more e text more refused =
    elim refused [
      | inr memory ↦ inr memory
      | inl bad ↦ inl (bad.0, bad.1, λ rest. rw append_assoc (bad.2 (more ++ rest)))
    ]

-- ---- The whole

one_bad : (text : List ℕ) (m n : ℕ) → IsBadAt text m → IsBadAt text n → m ≡ n
one_bad text m n a b = let same : Some a.0 ≡ Some b.0 = sym a.1 ∙ b.1 in let place : a.0 ≡ b.0 = cc in cc

-- What a text is refused for.
abbrev pub Refuses : Error → List ℕ → Type 0
Refuses e text = ((n : ℕ) × (e ≡ BadScript n) × IsBadAt text n) ⊎ (e ≡ Memory)

-- What comes of the texts of which F is true: the steps of each, or a refusal of each.
pub bad_line : {T : Type 0} (F : List ℕ → Type 0) (items : T → List Step) (r : Result T Error)
    → IfOk r (λ v. (all : List ℕ) → F all → IsScript all (items v)) → IfErr r (λ e. (all : List ℕ) → F all → Refuses e all)
    → (all : List ℕ) → F all → (n : ℕ) → IsBadAt all n → IsErrAnd r (λ e. (e ≡ BadScript n) ⊎ (e ≡ Memory))
bad_line F items (Ok v) script refused all f n bad = absurd (no_bad_line all (items v) n (script all f) bad)
bad_line F items (Err e) script refused all f n bad =
    elim (refused all f) [
      | inl other ↦ inl (other.1 ∙ ap BadScript (one_bad all other.0 n other.2 bad))
      | inr memory ↦ inr memory
    ]

pub good_text : {T : Type 0} (F : List ℕ → Type 0) (r : Result T Error) → IfErr r (λ e. (all : List ℕ) → F all → Refuses e all)
    → (all : List ℕ) → F all → (steps : List Step) → IsScript all steps → IfErr r (λ e. e ≡ Memory)
good_text F (Ok v) refused all f steps script = tt
good_text F (Err e) refused all f steps script =
    elim (refused all f) [
      | inl bad ↦ absurd (no_bad_line all steps bad.0 script bad.2)
      | inr memory ↦ memory
    ]

-- ---- What a feed stands for

pub refusal_is : (feed : Fed) (all : List ℕ) (e : Error) → feed.refused ≡ Some e → HasRead feed all → IsRefused e all
refusal_is feed all e same h = subst (λ (o : Option Error). Stands o feed all) same h

pub goes_on_is : (feed : Fed) (all : List ℕ) → feed.refused ≡ None → HasRead feed all → GoesOn feed.reader feed.open_line all
goes_on_is feed all same h = subst (λ (o : Option Error). Stands o feed all) same h

pub is_goes_on : (feed : Fed) (all : List ℕ) → feed.refused ≡ None → GoesOn feed.reader feed.open_line all → HasRead feed all
is_goes_on feed all same g = subst (λ (o : Option Error). Stands o feed all) (sym same) g

pub is_refusal : (feed : Fed) (all : List ℕ) (e : Error) → feed.refused ≡ Some e → IsRefused e all → HasRead feed all
is_refusal feed all e same refused = subst (λ (o : Option Error). Stands o feed all) (sym same) refused

-- The refusal of a text is that of the whole.
pub refused_whole : (e : Error) (all : List ℕ) → IsRefused e all → Refuses e all
refused_whole e all refused =
    elim refused [
      | inl bad ↦ inl (bad.0, bad.1, rw append-nil at (bad.2 []))
      | inr memory ↦ inr memory
    ]
