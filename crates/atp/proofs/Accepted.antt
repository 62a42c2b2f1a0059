-- The state of a transaction agrees with the packets that it accepted: which parts are missing, and the first copy of
-- each of the others.
use Rattle.std.proofs.Common.{◌≡◌, ℕ, zero, suc, ◌+◌, ◌<◌, ◌≤◌, ◌-◌, ◌==◌, ◌&&◌}
use Rattle.std.proofs.Common.{Bool, true, false, cond, not, eqb, ltb, min, List, [], ◌∷◌, ◌++◌, length, map}
use Rattle.std.proofs.Common.{None, Option, Some, ap, arith, get_or, inl, inr, is_some, refl, sym, ◌∙◌}
use Rattle.std.specs.Option.{option_map, option_or}
use Rattle.std.proofs.lemmas.Bool.{cases_eq, eqb-true}
use Rattle.std.proofs.lemmas.List.{get_or-set_same, get_or-set_other, length-set}
use Rattle.std.proofs.lemmas.List.Folds.{find-append}
use Rattle.at_base.proofs.Cases.{by_test}
use Rattle.atp.specs.declared.ask.AnswerPart.{AnswerPart}
use Rattle.atp.specs.declared.ask.Ask.{Ask}
use Rattle.atp.specs.declared.transaction.Transaction.{Transaction}
use Rattle.atp.specs.Packets.{AtpPacket, is_end, wants_status}
use Rattle.atp.specs.Requesting.{cut, is_due, is_waiting, part_of}
use Rattle.atp.specs.Requesting.{sent, ticked, with_end, with_part, with_status}
use Rattle.atp.specs.Complete.{first_copy}
use Rattle.atp.specs.Complete.{is_missing, part_count}
use Rattle.atp.proofs.Steps.{end_ask, part_ask}

-- ---- the packets accepted, and one more

count_more : (asked : ℕ) (heard : List AtpPacket) (p : AtpPacket)
    → part_count asked (heard ++ p ∷ []) ≡ cond (is_end p.control) (min (p.part + 1) (part_count asked heard)) (part_count asked heard)
count_more asked [] p = refl
count_more asked (q ∷ heard) p =
    let rest = count_more asked heard p in
    by_test (is_end q.control)
    (λ t. rw (t, rest) (swap (is_end p.control) (q.part + 1) (p.part + 1) (part_count asked heard)))
    (λ t. rw (t, rest) refl)
  where
    swap : (b : Bool) (m n k : ℕ) → min m (cond b (min n k) k) ≡ cond b (min n (min m k)) (min m k)
    swap true m n k = omega arith
    swap false m n k = refl

pub count_few : (asked : ℕ) (heard : List AtpPacket) → part_count asked heard ≤ asked
count_few asked [] = omega arith
count_few asked (p ∷ heard) =
    let rest = count_few asked heard in
    by_test (is_end p.control)
    (λ t. rw t (omega (arith, rest)))
    (λ t. rw t rest)

copy_more : (i : ℕ) (heard : List AtpPacket) (p : AtpPacket)
    → first_copy i (heard ++ p ∷ []) ≡ option_or (first_copy i heard) (cond (eqb p.part i) (Some p) None)
copy_more i heard p = find-append (λ (q : AtpPacket). q.part == i) heard (p ∷ [])

-- ---- eight slots, of which one changes or the first stay

pub both : {X : Type 0} (b : Bool) (x : X) → x ≡ cond b x x
both true x = refl
both false x = refl

pub none_there : {X Y : Type 0} (none : Y) (xs : List X) (i : ℕ) → get_or (map (λ x. none) xs) i none ≡ none
none_there none [] i = refl
none_there none (x ∷ xs) zero = refl
none_there none (x ∷ xs) (suc i) = none_there none xs i

cut_at : {X : Type 0} (none : X) (n : ℕ) (xs : List X) (i : ℕ) → get_or (cut none n xs) i none ≡ cond (ltb i n) (get_or xs i none) none
cut_at none zero [] i = both (ltb i 0) none
cut_at none (suc n) [] i = both (ltb i (suc n)) none
cut_at none zero (x ∷ xs) i =
    let past : ltb i 0 ≡ false = grind arith in
    rw past (none_there none (x ∷ xs) i)
cut_at none (suc n) (x ∷ xs) zero = let near : ltb 0 (suc n) ≡ true = grind arith in rw near refl
cut_at none (suc n) (x ∷ xs) (suc i) = let same : ltb (suc i) (suc n) ≡ ltb i n = grind arith in rw same (cut_at none n xs i)

cut_length : {X : Type 0} (none : X) (n : ℕ) (xs : List X) → length (cut none n xs) ≡ length xs
cut_length none zero [] = refl
cut_length none (suc n) [] = refl
cut_length none zero (x ∷ xs) = ap suc (cut_length none zero xs)
cut_length none (suc n) (x ∷ xs) = ap suc (cut_length none n xs)

-- ---- a packet that is accepted

part_missing : (p : AtpPacket) (t : Transaction) → p.part < length t.missing → (i : ℕ)
    → get_or (with_part p t).missing i false ≡ not (eqb p.part i) && get_or t.missing i false
part_missing p t lt i = by_test (get_or t.missing p.part false)
    (λ e. rw e (elim (cases_eq i p.part) [
      | inl same ↦ let q : eqb p.part p.part ≡ true = grind arith in rw (same, q) (get_or-set_same t.missing p.part false false lt)
      | inr differs ↦ let q : eqb p.part i ≡ false = grind arith in rw q (get_or-set_other t.missing p.part i false false differs)
    ]))
    (λ e. rw e (elim (cases_eq i p.part) [
      | inl same ↦ let q : eqb p.part p.part ≡ true = grind arith in rw (same, q) e
      | inr differs ↦ let q : eqb p.part i ≡ false = grind arith in rw q refl
    ]))

part_came : (p : AtpPacket) (t : Transaction) → p.part < length t.came → (i : ℕ)
    → get_or (with_part p t).came i None ≡ cond (eqb p.part i && get_or t.missing p.part false) (Some (part_of p)) (get_or t.came i None)
part_came p t lt i = (elim (get_or t.missing p.part false)
    as (λ b. get_or t.missing p.part false ≡ b
    → get_or (with_part p t).came i None ≡ cond (eqb p.part i && b) (Some (part_of p)) (get_or t.came i None)) [
      | true ↦ λ e. rw e (elim (cases_eq i p.part) [
        | inl same ↦ let q : eqb p.part p.part ≡ true =
            grind arith in rw (same, q) (get_or-set_same t.came p.part (Some (part_of p)) None lt)
        | inr differs ↦ let q : eqb p.part i ≡ false =
            grind arith in rw q (get_or-set_other t.came p.part i (Some (part_of p)) None differs)
      ])
      | false ↦ λ e. rw e (never (eqb p.part i))
    ]) refl ∙ refl
  where
    never : (b : Bool) → get_or t.came i None ≡ cond (b && false) (Some (part_of p)) (get_or t.came i None)
    never true = refl
    never false = refl

part_lengths : (p : AtpPacket) (t : Transaction)
    → (length (with_part p t).missing ≡ length t.missing) × (length (with_part p t).came ≡ length t.came)
part_lengths p t = by_test (get_or t.missing p.part false)
    (λ e. rw e (length-set t.missing p.part false, length-set t.came p.part (Some (part_of p))))
    (λ e. rw e (refl, refl))

end_missing : (p : AtpPacket) (t : Transaction) (i : ℕ)
    → get_or (with_end p t).missing i false
    ≡ cond (is_end p.control) (cond (ltb i (p.part + 1)) (get_or t.missing i false) false) (get_or t.missing i false)
end_missing p t i = (elim (is_end p.control)
    as (λ b. is_end p.control ≡ b
    → get_or (with_end p t).missing i false
    ≡ cond b (cond (ltb i (p.part + 1)) (get_or t.missing i false) false) (get_or t.missing i false)) [
      | true ↦ λ e. rw e (cut_at false (p.part + 1) t.missing i)
      | false ↦ λ e. rw e refl
    ]) refl

end_came : (p : AtpPacket) (t : Transaction) (i : ℕ)
    → get_or (with_end p t).came i None
    ≡ cond (is_end p.control) (cond (ltb i (p.part + 1)) (get_or t.came i None) None) (get_or t.came i None)
end_came p t i = (elim (is_end p.control)
    as (λ b. is_end p.control ≡ b
    → get_or (with_end p t).came i None ≡ cond b (cond (ltb i (p.part + 1)) (get_or t.came i None) None) (get_or t.came i None)) [
      | true ↦ λ e. rw e (cut_at None (p.part + 1) t.came i)
      | false ↦ λ e. rw e refl
    ]) refl

end_lengths : (p : AtpPacket) (t : Transaction)
    → (length (with_end p t).missing ≡ length t.missing) × (length (with_end p t).came ≡ length t.came)
end_lengths p t = by_test (is_end p.control)
    (λ e. rw e (cut_length false (p.part + 1) t.missing, cut_length None (p.part + 1) t.came))
    (λ e. rw e (refl, refl))

-- ---- the state of a transaction

-- the first copy of part i, if i is one of the parts
abbrev copy_of : ℕ → List AtpPacket → ℕ → Option AnswerPart
copy_of asked heard i = cond (ltb i (part_count asked heard)) (option_map part_of (first_copy i heard)) None

-- the state of the transaction agrees with the packets accepted
pub record Keeps (t : Transaction) (heard : List AtpPacket) : Type 0 where
  pub missing : (i : ℕ) → get_or t.missing i false ≡ is_missing t.ask.parts heard i
  pub came : (i : ℕ) → get_or t.came i None ≡ copy_of t.ask.parts heard i
  pub eight_missing : length t.missing ≡ 8
  pub eight_came : length t.came ≡ 8

-- the agreement doesn't depend on the other fields
abbrev with_due : Transaction → Bool → ℕ → ℕ → Bool → Transaction
with_due t due wait tries failed = record t { due = due; wait = wait; tries = tries; failed = failed }

keeps_on : (t : Transaction) (heard : List AtpPacket) (due : Bool) (wait tries : ℕ) (failed : Bool) → Keeps t heard
    → Keeps (with_due t due wait tries failed) heard
keeps_on t heard due wait tries failed h = record
    { missing = h.missing; came = h.came; eight_missing = h.eight_missing; eight_came = h.eight_came }

keeps_if : (b : Bool) (t u : Transaction) (heard : List AtpPacket) → Keeps t heard → Keeps u heard → Keeps (cond b t u) heard
keeps_if true t u heard a b = a
keeps_if false t u heard a b = b

pub keeps_sent : (t : Transaction) (heard : List AtpPacket) → Keeps t heard → Keeps (cond (is_due t) (sent t) t) heard
keeps_sent t heard h = keeps_if (is_due t) (sent t) t heard (keeps_on t heard false t.ask.every (t.tries - 1) t.failed h) h

pub keeps_tick : (t : Transaction) (heard : List AtpPacket) → Keeps t heard → Keeps (ticked t) heard
keeps_tick t heard h =
    let due = keeps_on t heard true 0 t.tries t.failed h in
    let over = keeps_on t heard t.due 0 t.tries true h in
    let on = keeps_on t heard t.due (t.wait - 1) t.tries t.failed h in
    let fourth = keeps_if (ltb 0 t.tries) (record t { due = true; wait = 0 }) (record t { failed = true; wait = 0 }) heard due over in
    let third = keeps_if (ltb 1 t.wait) (record t { wait = t.wait - 1 })
    (cond (ltb 0 t.tries) (record t { due = true; wait = 0 }) (record t { failed = true; wait = 0 })) heard on fourth in
    let second = keeps_if t.due t
    (cond (ltb 1 t.wait) (record t { wait = t.wait - 1 })
    (cond (ltb 0 t.tries) (record t { due = true; wait = 0 }) (record t { failed = true; wait = 0 }))) heard h third in
    keeps_if (not (is_waiting t)) t
    (cond t.due t (cond (ltb 1 t.wait) (record t { wait = t.wait - 1 })
    (cond (ltb 0 t.tries) (record t { due = true; wait = 0 }) (record t { failed = true; wait = 0 })))) heard h second

pub keeps_status : (p : AtpPacket) (t : Transaction) (heard : List AtpPacket) → Keeps t heard → Keeps (with_status p t) heard
keeps_status p t heard h = keeps_if (wants_status p.control && is_waiting t && ltb 0 t.tries) (record t { due = true }) t heard
    (keeps_on t heard true t.wait t.tries t.failed h) h

-- ---- one more packet

ltb_min : (i m n : ℕ) → ltb i (min m n) ≡ ltb i m && ltb i n
ltb_min i m n = grind arith

-- an index is below the new number of parts, as tests
bound : (e : Bool) (i k c : ℕ) → ltb i (cond e (min (k + 1) c) c) ≡ cond e (ltb i (k + 1) && ltb i c) (ltb i c)
bound true i k c = ltb_min i (k + 1) c
bound false i k c = refl

still_missing : (e a b s : Bool) (o : Option AtpPacket) (p : AtpPacket)
    → cond e (cond b (not s && (a && not (is_some o))) false) (not s && (a && not (is_some o)))
    ≡ cond e (b && a) a && not (is_some (option_or o (cond s (Some p) None)))
still_missing e a b s o p =
    first e b (not s && (a && not (is_some o)))
    ∙ swapped (cond e b true) s a (not (is_some o))
    ∙ sym (rw (second e b a, third s o) refl)
  where
    first : (e b m : Bool) → cond e (cond b m false) m ≡ cond e b true && m
    first true true m = refl
    first true false m = refl
    first false b m = refl

    second : (e b a : Bool) → cond e (b && a) a ≡ cond e b true && a
    second true b a = refl
    second false b a = refl

    third : (s : Bool) (o : Option AtpPacket) → not (is_some (option_or o (cond s (Some p) None))) ≡ not s && not (is_some o)
    third true None = refl
    third true (Some q) = refl
    third false None = refl
    third false (Some q) = refl

    swapped : (e s a n : Bool) → e && (not s && (a && n)) ≡ (e && a) && (not s && n)
    swapped false s a n = refl
    swapped true true true n = refl
    swapped true true false n = refl
    swapped true false a n = refl

still_kept : (e a b : Bool) (x : Option AnswerPart) → cond e (cond b (cond a x None) None) (cond a x None) ≡ cond (cond e (b && a) a) x None
still_kept true a true x = refl
still_kept true a false x = refl
still_kept false a b x = refl

copied : (s : Bool) (k i c : ℕ) (p : AtpPacket) (heard : List AtpPacket) → eqb k i ≡ s
    → cond (s && (ltb k c && not (is_some (first_copy k heard)))) (Some (part_of p))
    (cond (ltb i c) (option_map part_of (first_copy i heard)) None)
    ≡ cond (ltb i c) (option_map part_of (option_or (first_copy i heard) (cond s (Some p) None))) None
copied true k i c p heard e = rw (eqb-true _ _ e) (first (ltb i c) (first_copy i heard))
  where
    first : (a : Bool) (o : Option AtpPacket)
        → cond (a && not (is_some o)) (Some (part_of p)) (cond a (option_map part_of o) None)
        ≡ cond a (option_map part_of (option_or o (Some p))) None
    first true None = refl
    first true (Some q) = refl
    first false None = refl
    first false (Some q) = refl
copied false k i c p heard e = rest (first_copy i heard)
  where
    rest : (o : Option AtpPacket) → cond (ltb i c) (option_map part_of o) None ≡ cond (ltb i c) (option_map part_of (option_or o None)) None
    rest None = refl
    rest (Some q) = refl

-- a packet that is accepted keeps the agreement
pub keeps_taken : (p : AtpPacket) (t : Transaction) (heard : List AtpPacket) → p.part < 8 → Keeps t heard
    → Keeps (with_end p (with_part p t)) (heard ++ p ∷ [])
keeps_taken p t heard near h =
    let l = part_lengths p t in
    let m = end_lengths p (with_part p t) in
    let lm : p.part < length t.missing = rw h.eight_missing near in
    let lc : p.part < length t.came = rw h.eight_came near in
    record {
      missing = λ i.
          rw (
            asked,
            end_missing p (with_part p t) i,
            part_missing p t lm i,
            h.missing i,
            count_more t.ask.parts heard p,
            copy_more i heard p,
            bound (is_end p.control) i p.part (part_count t.ask.parts heard),
          )
          (still_missing (is_end p.control) (ltb i (part_count t.ask.parts heard)) (ltb i (p.part + 1)) (eqb p.part i)
          (first_copy i heard) p);
      came = λ i.
          rw (
            asked,
            end_came p (with_part p t) i,
            part_came p t lc i,
            h.came i,
            h.missing p.part,
            count_more t.ask.parts heard p,
            copy_more i heard p,
            bound (is_end p.control) i p.part (part_count t.ask.parts heard),
            copied (eqb p.part i) p.part i (part_count t.ask.parts heard) p heard refl,
          )
          (still_kept (is_end p.control) (ltb i (part_count t.ask.parts heard)) (ltb i (p.part + 1))
          (option_map part_of (option_or (first_copy i heard) (cond (eqb p.part i) (Some p) None))));
      eight_missing = m.0 ∙ l.0 ∙ h.eight_missing;
      eight_came = m.1 ∙ l.1 ∙ h.eight_came;
    }
  where
    asked : (with_end p (with_part p t)).ask.parts ≡ t.ask.parts
    asked = ap (λ (a : Ask). a.parts) (end_ask p (with_part p t) ∙ part_ask p t)
