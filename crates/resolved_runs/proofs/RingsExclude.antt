-- Transcripts in which a datagram is held for its target, or given up, against the laws of rings.
use Rattle.std.proofs.Common.{◌≡◌, ℕ, Bool, true, false, List, [], ◌∷◌, ◌++◌, Option, Some, None, ap, refl, subst, sym, ◌∙◌, arith, true≢false}
use Rattle.std.proofs.Common.{append_assoc}
use Rattle.ddp.specs.Bodies.{body}
use Rattle.cable_model.specs.Transcript.{Entry, Hold, Holding, Lost, Reached}
use Rattle.cable_model.specs.declared.entry.How.TheVariants as how
use Rattle.resolved_runs.specs.Excluded.{given_up_later, held_there_twice, lost_at_once, newest_given_up}
use Rattle.resolved_runs.specs.Illegal.{second_given_up}
use Rattle.resolved_runs.specs.Lossless.{is_loss}
use Rattle.resolved_runs.specs.Resolved.{held_at}
use Rattle.resolved_runs.specs.Rings as ring
use Rattle.resolved_runs.specs.Rings.{AreHeldAsReached, AreShed, IsOldestOfAll, is_held_there}

-- ---- The last entries

-- All entries but the last.
abbrev before : List Entry → List Entry
before [] = []
before (e ∷ []) = []
before (e ∷ f ∷ es) = e ∷ before (f ∷ es)

-- The last entry.
abbrev last : List Entry → Option Entry
last [] = None
last (e ∷ []) = Some e
last (e ∷ f ∷ es) = last (f ∷ es)

before_of : (t : List Entry) (e : Entry) → before (t ++ e ∷ []) ≡ t
before_of [] e = refl
before_of (d ∷ []) e = refl
before_of (d ∷ f ∷ t) e = ap (λ l. d ∷ l) (before_of (f ∷ t) e)

last_of : (t : List Entry) (e : Entry) → last (t ++ e ∷ []) ≡ Some e
last_of [] e = refl
last_of (d ∷ []) e = refl
last_of (d ∷ f ∷ t) e = last_of (f ∷ t) e

some_is : (e d : Entry) → Some e ≡ Some d → e ≡ d
some_is e d same = cc

-- The last two entries.
before_two : (t : List Entry) (d e : Entry) → before (t ++ d ∷ e ∷ []) ≡ t ++ d ∷ []
before_two t d e = ap before (sym (append_assoc t (d ∷ []) (e ∷ []))) ∙ before_of (t ++ d ∷ []) e

last_two : (t : List Entry) (d e : Entry) → last (t ++ d ∷ e ∷ []) ≡ Some e
last_two t d e = ap last (sym (append_assoc t (d ∷ []) (e ∷ []))) ∙ last_of (t ++ d ∷ []) e

-- ---- What stands before a loss, and before a datagram that is held for its target

record Shedding (t : List Entry) (stamp : ℕ) : Type 0 where
  further : Holding
  there : last (before t) ≡ Some (Hold further)
  oldest : IsOldestOfAll (held_at (before (before t)) further.station further.cable) stamp

shed_back : (t : List Entry) (stamp : ℕ) → AreShed t → last t ≡ Some (Lost stamp) → Shedding t stamp
shed_back t stamp ring.None is = cc
shed_back t stamp (ring.Other u e shed other) is =
    let same : e ≡ Lost stamp = some_is e (Lost stamp) (sym (last_of u e) ∙ is) in
    absurd (true≢false (sym (ap is_loss same) ∙ other))
shed_back t stamp (ring.Full u d lost shed oldest) is =
    let same : Lost lost ≡ Lost stamp = some_is (Lost lost) (Lost stamp) (sym (last_two u (Hold d) (Lost lost)) ∙ is) in
    let number : lost ≡ stamp = cc in
    let front = before_two u (Hold d) (Lost lost) in
    let two = ap before front ∙ before_of u (Hold d) in
    record {
      further = d;
      there = ap last front ∙ last_of u (Hold d);
      oldest = subst (λ v. IsOldestOfAll (held_at v d.station d.cable) stamp) (sym two)
          (subst (IsOldestOfAll (held_at u d.station d.cable)) number oldest);
    }

reached_back : (t : List Entry) (h : Holding) → AreHeldAsReached t → last t ≡ Some (Hold h) → is_held_there (Hold h) ≡ true
    → last (before t) ≡ Some (Reached h.cable h.station how.Held (body h.bytes))
reached_back t h ring.Begins is there = cc
reached_back t h (ring.Continues u e before_it other) is there =
    let same : e ≡ Hold h = some_is e (Hold h) (sym (last_of u e) ∙ is) in
    absurd (true≢false (sym there ∙ (ap is_held_there (sym same) ∙ other)))
reached_back t h (ring.Arrives u d before_it) is there =
    let e : Entry = Reached d.cable d.station how.Held (body d.bytes) in
    let same : Hold d ≡ Hold h = some_is (Hold d) (Hold h) (sym (last_two u e (Hold d)) ∙ is) in
    let one : d ≡ h = cc in
    ap last (before_two u e (Hold d)) ∙ (last_of u e ∙ ap (λ (x : Holding). Some (Reached x.cable x.station how.Held (body x.bytes))) one)

-- ---- The transcripts

pub not_at_once : AreShed lost_at_once → ⊥
not_at_once shed =
    let w = shed_back lost_at_once 0 shed refl in
    let there = w.there in
    let is = w.oldest.in_order in
    nothing w.further there w.oldest.oldest w.oldest.others is
  where
    nothing : (d : Holding) → last (before lost_at_once) ≡ Some (Hold d) → (g : Holding) (gs : List Holding)
        → held_at (before (before lost_at_once)) d.station d.cable ≡ g ∷ gs → ⊥
    nothing d there g gs is = cc

-- The stamp of the first datagram that was held before a loss is that of the loss.
first_stamp : (t : List Entry) (stamp : ℕ) (w : Shedding t stamp) (e : Holding) → last (before t) ≡ Some (Hold e) → (g : Holding)
    (gs : List Holding) → held_at (before (before t)) e.station e.cable ≡ g ∷ gs → g.stamp ≡ stamp
first_stamp t stamp w e there g gs is =
    let same : Hold w.further ≡ Hold e = some_is (Hold w.further) (Hold e) (sym w.there ∙ there) in
    let one : w.further ≡ e = cc in
    let both : w.oldest.oldest ∷ w.oldest.others ≡ g ∷ gs =
    sym w.oldest.in_order ∙ (ap (λ (d : Holding). held_at (before (before t)) d.station d.cable) one ∙ is) in
    let first : w.oldest.oldest ≡ g = cc in
    sym (ap (λ (d : Holding). d.stamp) first) ∙ w.oldest.numbered

pub not_newest : AreShed newest_given_up → ⊥
not_newest shed =
    let bad : 0 ≡ 16 = first_stamp newest_given_up 16 (shed_back newest_given_up 16 shed refl) _ refl _ _ refl in
    absurd (omega (arith, bad))

pub not_second : AreShed second_given_up → ⊥
not_second shed =
    let bad : 0 ≡ 2 = first_stamp second_given_up 2 (shed_back second_given_up 2 shed refl) _ refl _ _ refl in
    absurd (omega (arith, bad))

pub not_later : AreShed given_up_later → ⊥
not_later shed = let w = shed_back given_up_later 0 shed refl in let there = w.there in cc

pub not_held_there_twice : AreHeldAsReached held_there_twice → ⊥
not_held_there_twice reached = let w = reached_back held_there_twice _ reached refl refl in cc
