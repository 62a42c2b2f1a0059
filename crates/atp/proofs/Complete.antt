-- A complete response is the one that the packets accepted make whole.
use Rattle.std.proofs.Common.{◌≡◌, ℕ, zero, suc, ◌+◌, ◌<◌, ◌≤◌, ◌/◌, ◌%◌, ◌*◌, ◌&&◌, ◌↔◌}
use Rattle.std.proofs.Common.{Bool, true, false, cond, not, eqb, ltb, List, [], ◌∷◌, ◌++◌, length}
use Rattle.std.proofs.Common.{None, Option, Some, ap, arith, filter_map, get_or, inl, inr, is_some, refl, slice_get, subst, sym, ◌∙◌}
use Rattle.std.specs.List.{list_any}
use Rattle.std.specs.Option.{option_map}
use Rattle.std.proofs.lemmas.Bool.{and_parts, or_parts, cases_eq, ltb-true, lt-ltb}
use Rattle.std.specs.Int.{bit_at}
use Rattle.std.proofs.lemmas.Nat.Bits.{bit_at-zero, bit_at_lowest, bit_at-suc}
use Rattle.at_base.proofs.Cases.{by_test}
use Rattle.atp.specs.declared.ask.AnswerPart.{AnswerPart}
use Rattle.atp.specs.declared.ask.Ask.{Ask}
use Rattle.atp.specs.declared.transaction.Transaction.{Transaction}
use Rattle.atp.specs.declared.outcome.Outcome.TheVariants.{Waiting, Complete}
use Rattle.atp.specs.Outcomes.{outcome_of}
use Rattle.atp.specs.Packets.{AtpPacket}
use Rattle.atp.specs.Requesting.{IsAsk, begun, is_complete, is_due, is_heard, part_of, parts_of}
use Rattle.atp.specs.Requesting.{request_of, sent, with_end, with_part}
use Rattle.atp.specs.Bitmaps.{asks_for, bitmap, first_parts}
use Rattle.atp.specs.Complete.{CompleteResponse, Step, Came, Sent, Tick, after, all_below, first_copy, heard_after, heard_in, history}
use Rattle.atp.specs.Complete.{is_missing, is_whole, part_count, run}
use Rattle.atp.proofs.Steps.{heard_near, taken, taken_ask, ticked_ask}
use Rattle.atp.proofs.Accepted.{Keeps, both, none_there, count_few, keeps_sent, keeps_tick, keeps_status, keeps_taken}

-- ---- complete is whole

whole_at : (n : ℕ) (test : ℕ → Bool) → all_below n test ≡ true → (i : ℕ) → i < n → test i ≡ true
whole_at zero test h i lt = absurd (omega (arith, lt))
whole_at (suc n) test h i lt =
    let a = and_parts (test n) (all_below n test) h in
    elim (cases_eq i n) [
      | inl same ↦ rw same a.0
      | inr differs ↦ whole_at n test a.1 i (omega (arith, lt, differs))
    ]

whole_if : (n : ℕ) (test : ℕ → Bool) → ((i : ℕ) → i < n → test i ≡ true) → all_below n test ≡ true
whole_if zero test h = refl
whole_if (suc n) test h = rw (h n (omega arith), whole_if n test (λ i lt. h i (omega (arith, lt)))) refl

none_set : (bits : List Bool) → list_any (λ b. b) bits ≡ false → (i : ℕ) → get_or bits i false ≡ false
none_set [] h i = refl
none_set (b ∷ bits) h zero = (or_parts b (list_any (λ b. b) bits) h).0
none_set (b ∷ bits) h (suc i) = none_set bits (or_parts b (list_any (λ b. b) bits) h).1 i

all_clear : (bits : List Bool) → ((i : ℕ) → get_or bits i false ≡ false) → list_any (λ b. b) bits ≡ false
all_clear [] h = refl
all_clear (b ∷ bits) h = rw (h 0, all_clear bits (λ i. h (suc i))) refl

-- no part of a whole response is missing
nothing_missing : (asked : ℕ) (heard : List AtpPacket) → is_whole asked heard ≡ true → (i : ℕ) → is_missing asked heard i ≡ false
nothing_missing asked heard w i =
    by_test (ltb i (part_count asked heard))
    (λ e. let there = whole_at (part_count asked heard) (λ i. is_some (first_copy i heard)) w i (ltb-true _ _ e) in
    rw (e, there) refl)
    (λ e. rw e refl)

none_missing : (asked : ℕ) (heard : List AtpPacket) → ((i : ℕ) → is_missing asked heard i ≡ false) → is_whole asked heard ≡ true
none_missing asked heard h = whole_if (part_count asked heard) (λ i. is_some (first_copy i heard))
    (λ i lt. there i (is_some (first_copy i heard)) refl lt)
  where
    there : (i : ℕ) (b : Bool) → is_some (first_copy i heard) ≡ b → i < part_count asked heard → is_some (first_copy i heard) ≡ true
    there i true e lt = e
    there i false e lt = let near = lt-ltb _ _ lt in let m = h i in let bad = (rw (near, e) at m) in absurd cc

pub complete_is : (t : Transaction) (heard : List AtpPacket) → Keeps t heard → is_complete t ≡ is_whole t.ask.parts heard
complete_is t heard h = of_any (list_any (λ b. b) t.missing) refl (is_whole t.ask.parts heard) refl
  where
    of_any : (a : Bool) → list_any (λ b. b) t.missing ≡ a → (w : Bool) → is_whole t.ask.parts heard ≡ w
        → not (list_any (λ b. b) t.missing) ≡ is_whole t.ask.parts heard
    of_any false e true f = rw (e, f) refl
    of_any true e false f = rw (e, f) refl
    of_any false e false f =
        let r : is_whole t.ask.parts heard ≡ true = none_missing t.ask.parts heard (λ i. sym (h.missing i) ∙ none_set t.missing e i) in
        absurd (let bad = sym f ∙ r in cc)
    of_any true e true f =
        let r : list_any (λ b. b) t.missing ≡ false = all_clear t.missing (λ i. h.missing i ∙ nothing_missing t.ask.parts heard f i) in
        absurd (let bad = sym e ∙ r in cc)

-- ---- step by step

keeps_step : (s : Step) (t : Transaction) (heard : List AtpPacket) → t.ask.parts ≤ 8 → Keeps t heard
    → Keeps (after s t) (heard_after s t heard)
keeps_step Sent t heard few h = keeps_sent t heard h
keeps_step Tick t heard few h = keeps_tick t heard h
keeps_step (Came from p) t heard few h =
    rw (sym (complete_is t heard h)) (came (is_heard from p t) refl)
  where
    came : (b : Bool) → is_heard from p t ≡ b
        → Keeps (cond (is_heard from p t) (taken p t) t) (cond (is_heard from p t) (heard ++ p ∷ []) heard)
    came true e =
        let lt = heard_near from p t e in
        rw e (keeps_status p (with_end p (with_part p t)) (heard ++ p ∷ []) (keeps_taken p t heard (omega (arith, lt, few)) h))
    came false e = rw e h

step_ask : (s : Step) (t : Transaction) → (after s t).ask ≡ t.ask
step_ask Sent t = either (is_due t)
  where
    either : (b : Bool) → (cond b (sent t) t).ask ≡ t.ask
    either true = refl
    either false = refl
step_ask Tick t = ticked_ask t
step_ask (Came from p) t = either (is_heard from p t)
  where
    either : (b : Bool) → (cond b (taken p t) t).ask ≡ t.ask
    either true = taken_ask p t
    either false = refl

pub run_ask : (steps : List Step) (t : Transaction) → (run steps t).ask ≡ t.ask
run_ask [] t = refl
run_ask (s ∷ steps) t = run_ask steps (after s t) ∙ step_ask s t

pub keeps_run : (steps : List Step) (t : Transaction) (heard : List AtpPacket) → t.ask.parts ≤ 8 → Keeps t heard
    → Keeps (run steps t) (heard_in steps t heard)
keeps_run [] t heard few h = h
keeps_run (s ∷ steps) t heard few h =
    let same : (after s t).ask.parts ≡ t.ask.parts = ap (λ (a : Ask). a.parts) (step_ask s t) in
    keeps_run steps (after s t) (heard_after s t heard) (omega (arith, same, few)) (keeps_step s t heard few h)

-- a new transaction
and_true : (b : Bool) → b ≡ b && true
and_true true = refl
and_true false = refl

pub keeps_begun : (id : ℕ) (ask : Ask) → ask.parts ≤ 8 → Keeps (begun id ask) []
keeps_begun id ask few = record {
  missing = λ i. first i ∙ and_true (ltb i ask.parts);
  came = λ i. nothing i ∙ both (ltb i ask.parts) None;
  eight_missing = refl;
  eight_came = refl;
}
  where
    first : (i : ℕ) → get_or (first_parts ask.parts) i false ≡ ltb i ask.parts
    first zero = refl
    first (suc zero) = refl
    first (suc (suc zero)) = refl
    first (suc (suc (suc zero))) = refl
    first (suc (suc (suc (suc zero)))) = refl
    first (suc (suc (suc (suc (suc zero))))) = refl
    first (suc (suc (suc (suc (suc (suc zero)))))) = refl
    first (suc (suc (suc (suc (suc (suc (suc zero))))))) = refl
    first (suc (suc (suc (suc (suc (suc (suc (suc i)))))))) =
        let past : ltb (suc (suc (suc (suc (suc (suc (suc (suc i)))))))) ask.parts ≡ false = grind arith in sym past

    nothing : (i : ℕ) → get_or (begun id ask).came i None ≡ None
    nothing i = none_there {X = ℕ} None (0 ∷ 1 ∷ 2 ∷ 3 ∷ 4 ∷ 5 ∷ 6 ∷ 7 ∷ []) i

-- ---- the parts of a whole response

-- if the first n slots are full and the others vacant, filtering gives the first n
packed : {X : Type 0} (slots : List (Option X)) (n : ℕ) → n ≤ length slots
    → ((i : ℕ) → i < n → is_some (get_or slots i None) ≡ true) → ((i : ℕ) → n ≤ i → get_or slots i None ≡ None)
    → (length (filter_map (λ slot. slot) slots) ≡ n)
    × ((i : ℕ) → i < n → slice_get (filter_map (λ slot. slot) slots) i ≡ get_or slots i None)
packed [] n le full vacant = (omega (arith, le), λ i lt. absurd (omega (arith, le, lt)))
packed {X} (None ∷ slots) n le full vacant =
    let rest = packed slots 0 (omega arith) (λ i lt. absurd (omega (arith, lt)))
    (λ i least. vacant (suc i) (omega (arith, zero_is n refl))) in
    let z = zero_is n refl in
    (rest.0 ∙ omega (arith, z), λ i lt. absurd (omega (arith, z, lt)))
  where
    zero_is : (m : ℕ) → m ≡ n → m ≡ 0
    zero_is zero e = refl
    zero_is (suc m) e = absurd (let bad = full 0 (omega (arith, e)) in cc)
packed (Some x ∷ slots) zero le full vacant = absurd (let bad = vacant 0 (omega arith) in cc)
packed {X} (Some x ∷ slots) (suc n) le full vacant =
    let rest = packed slots n (omega (arith, le)) (λ i lt. full (suc i) (omega (arith, lt)))
    (λ i least. vacant (suc i) (omega (arith, least))) in
    (ap suc rest.0, at rest.1)
  where
    at : ((i : ℕ) → i < n → slice_get (filter_map (λ slot. slot) slots) i ≡ get_or slots i None) → (i : ℕ) → i < suc n
        → slice_get (x ∷ filter_map (λ slot. slot) slots) i ≡ get_or (Some x ∷ slots) i None
    at h zero lt = refl
    at h (suc i) lt = h i (omega (arith, lt))

-- the packet that brought a part
brought : (o : Option AtpPacket) → is_some o ≡ true → (p : AtpPacket) × (o ≡ Some p)
brought None h = absurd cc
brought (Some p) h = (p, refl)

pub whole_parts : (t : Transaction) (heard : List AtpPacket) → t.ask.parts ≤ 8 → Keeps t heard → is_whole t.ask.parts heard ≡ true
    → CompleteResponse t.ask.parts heard (parts_of t)
whole_parts t heard few h w = record { count = all.0; each = each }
  where
    count : ℕ
    count = part_count t.ask.parts heard

    there : (i : ℕ) → i < part_count t.ask.parts heard → (p : AtpPacket) × (first_copy i heard ≡ Some p)
    there i lt = brought (first_copy i heard) (whole_at (part_count t.ask.parts heard) (λ i. is_some (first_copy i heard)) w i lt)

    kept : (i : ℕ) (lt : i < part_count t.ask.parts heard) → get_or t.came i None ≡ Some (part_of (there i lt).0)
    kept i lt =
        let near = lt-ltb i (part_count t.ask.parts heard) lt in
        h.came i ∙ rw near (ap (option_map part_of) (there i lt).1)

    vacant : (i : ℕ) → part_count t.ask.parts heard ≤ i → get_or t.came i None ≡ None
    vacant i le =
        let far : ltb i (part_count t.ask.parts heard) ≡ false = grind arith in
        h.came i ∙ rw far refl

    all : (length (parts_of t) ≡ part_count t.ask.parts heard)
        × ((i : ℕ) → i < part_count t.ask.parts heard → slice_get (parts_of t) i ≡ get_or t.came i None)
    all =
        let eight = h.eight_came in
        let least = count_few t.ask.parts heard in
        packed t.came (part_count t.ask.parts heard) (omega (arith, eight, least, few)) (λ i lt. let k = kept i lt in rw k refl) vacant

    each : (i : ℕ) → i < part_count t.ask.parts heard
        → (p : AtpPacket) × (first_copy i heard ≡ Some p) × (slice_get (parts_of t) i ≡ Some (part_of p))
    each i lt = ((there i lt).0, (there i lt).1, all.1 i lt ∙ kept i lt)

-- ---- there is one complete response

pub complete_whole : (asked : ℕ) (heard : List AtpPacket) (parts : List AnswerPart) → CompleteResponse asked heard parts
    → is_whole asked heard ≡ true
complete_whole asked heard parts c = whole_if (part_count asked heard) (λ i. is_some (first_copy i heard))
    (λ i lt. let e = (c.each i lt).1 in rw e refl)

same_items : {X : Type 0} (xs ys : List X) → length xs ≡ length ys → ((i : ℕ) → i < length xs → slice_get xs i ≡ slice_get ys i) → xs ≡ ys
same_items [] [] e h = refl
same_items [] (y ∷ ys) e h = absurd (omega (arith, e))
same_items (x ∷ xs) [] e h = absurd (omega (arith, e))
same_items {X} (x ∷ xs) (y ∷ ys) e h =
    let first : x ≡ y = (let s = h 0 (omega arith) in cc) in
    let rest = same_items xs ys (omega (arith, e)) (λ i lt. h (suc i) (omega (arith, lt))) in
    rw (first, rest) refl

pub one_response : (asked : ℕ) (heard : List AtpPacket) (a b : List AnswerPart) → CompleteResponse asked heard a
    → CompleteResponse asked heard b → a ≡ b
one_response asked heard a b c d = same_items a b (c.count ∙ sym d.count) (λ i lt. at i (let n = c.count in omega (arith, n, lt)))
  where
    at : (i : ℕ) → i < part_count asked heard → slice_get a i ≡ slice_get b i
    at i lt =
        let x = c.each i lt in
        let y = d.each i lt in
        let p : x.0 ≡ y.0 = (let e = sym x.1 ∙ y.1 in cc) in
        x.2 ∙ ap (λ (p : AtpPacket). Some (part_of p)) p ∙ sym y.2

-- ---- the bits of a request

bits_at : (bits : List Bool) (i : ℕ) → bit_at (bitmap bits) i ≡ cond (get_or bits i false) 1 0
bits_at [] i = bit_at-zero i
bits_at (b ∷ bits) zero = bit_at_lowest (bitmap (b ∷ bits)) ∙ low b (bitmap bits)
  where
    low : (b : Bool) (m : ℕ) → (cond b 1 0 + 2 * m) % 2 ≡ cond b 1 0
    low true m = omega arith
    low false m = omega arith
bits_at (b ∷ bits) (suc i) = bit_at-suc (bitmap (b ∷ bits)) i ∙ ap (λ (n : ℕ). bit_at n i) (half b (bitmap bits)) ∙ bits_at bits i
  where
    half : (b : Bool) (m : ℕ) → (cond b 1 0 + 2 * m) / 2 ≡ m
    half true m = omega arith
    half false m = omega arith

bit_is : (bits : List Bool) (i : ℕ) → asks_for (bitmap bits) i ≡ get_or bits i false
bit_is bits i = ap (λ (n : ℕ). eqb n 1) (bits_at bits i) ∙ one (get_or bits i false)
  where
    one : (b : Bool) → eqb (cond b 1 0) 1 ≡ b
    one true = refl
    one false = refl

-- ---- the outcome of a transaction

response : (t : Transaction) (heard : List AtpPacket) → t.ask.parts ≤ 8 → Keeps t heard → (parts : List AnswerPart)
    → (outcome_of t ≡ Complete parts) ↔ ((t.failed ≡ false) × CompleteResponse t.ask.parts heard parts)
response t heard few h parts = (forth t.failed refl (is_complete t) refl, back)
  where
    forth : (b : Bool) → t.failed ≡ b → (c : Bool) → is_complete t ≡ c → outcome_of t ≡ Complete parts
        → (t.failed ≡ false) × CompleteResponse t.ask.parts heard parts
    forth true f c g e = absurd (let bad = (rw f at e) in cc)
    forth false f false g e = absurd (let bad = (rw (f, g) at e) in cc)
    forth false f true g e =
        let same : parts_of t ≡ parts = (let r = (rw (f, g) at e) in cc) in (
          f,
          subst (λ (l : List AnswerPart). CompleteResponse t.ask.parts heard l) same
              (whole_parts t heard few h (sym (complete_is t heard h) ∙ g)),
        )

    back : (t.failed ≡ false) × CompleteResponse t.ask.parts heard parts → outcome_of t ≡ Complete parts
    back x =
        let w = complete_whole t.ask.parts heard parts x.1 in
        let g : is_complete t ≡ true = complete_is t heard h ∙ w in
        let f = x.0 in
        rw (f, g) (ap Complete (one_response t.ask.parts heard (parts_of t) parts (whole_parts t heard few h w) x.1))

open_still : (t : Transaction) (heard : List AtpPacket) → Keeps t heard
    → (outcome_of t ≡ Waiting) ↔ ((t.failed ≡ false) × (is_whole t.ask.parts heard ≡ false))
open_still t heard h = (forth t.failed refl (is_complete t) refl, back)
  where
    forth : (b : Bool) → t.failed ≡ b → (c : Bool) → is_complete t ≡ c → outcome_of t ≡ Waiting
        → (t.failed ≡ false) × (is_whole t.ask.parts heard ≡ false)
    forth true f c g e = absurd (let bad = (rw f at e) in cc)
    forth false f true g e = absurd (let bad = (rw (f, g) at e) in cc)
    forth false f false g e = (f, sym (complete_is t heard h) ∙ g)

    back : (t.failed ≡ false) × (is_whole t.ask.parts heard ≡ false) → outcome_of t ≡ Waiting
    back x =
        let f = x.0 in
        let g : is_complete t ≡ false = complete_is t heard h ∙ x.1 in
        rw (f, g) refl

-- ---- the law

abbrev ends : List Step → ℕ → Ask → Transaction
ends steps id ask = run steps (begun id ask)

parts_asked : (steps : List Step) (id : ℕ) (ask : Ask) → (ends steps id ask).ask.parts ≡ ask.parts
parts_asked steps id ask = ap (λ (a : Ask). a.parts) (run_ask steps (begun id ask))

keeps : (steps : List Step) (id : ℕ) (ask : Ask) → IsAsk ask → Keeps (ends steps id ask) (history steps id ask)
keeps steps id ask is = keeps_run steps (begun id ask) [] is.few (keeps_begun id ask is.few)

pub complete : (steps : List Step) (id : ℕ) (ask : Ask) (parts : List AnswerPart) → IsAsk ask
    → (outcome_of (ends steps id ask) ≡ Complete parts)
    ↔ (((ends steps id ask).failed ≡ false) × CompleteResponse ask.parts (history steps id ask) parts)
complete steps id ask parts is =
    let same = parts_asked steps id ask in
    let few = is.few in
    subst (λ (n : ℕ). (outcome_of (ends steps id ask) ≡ Complete parts)
    ↔ (((ends steps id ask).failed ≡ false) × CompleteResponse n (history steps id ask) parts))
    same (response (ends steps id ask) (history steps id ask) (omega (arith, same, few)) (keeps steps id ask is) parts)

pub waiting : (steps : List Step) (id : ℕ) (ask : Ask) → IsAsk ask
    → (outcome_of (ends steps id ask) ≡ Waiting)
    ↔ (((ends steps id ask).failed ≡ false) × (is_whole ask.parts (history steps id ask) ≡ false))
waiting steps id ask is =
    subst (λ (n : ℕ). (outcome_of (ends steps id ask) ≡ Waiting)
    ↔ (((ends steps id ask).failed ≡ false) × (is_whole n (history steps id ask) ≡ false)))
    (parts_asked steps id ask) (open_still (ends steps id ask) (history steps id ask) (keeps steps id ask is))

pub asks_missing : (steps : List Step) (id : ℕ) (ask : Ask) (i : ℕ) → IsAsk ask
    → asks_for (request_of (ends steps id ask)).part i ≡ is_missing ask.parts (history steps id ask) i
asks_missing steps id ask i is =
    bit_is (ends steps id ask).missing i ∙ (keeps steps id ask is).missing i
    ∙ ap (λ (n : ℕ). is_missing n (history steps id ask) i) (parts_asked steps id ask)
