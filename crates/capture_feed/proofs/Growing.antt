-- What comes next of bytes to which more are added.
use Rattle.std.proofs.Common.{◌≡◌, ◌≢◌, ℕ, ◌<◌, ◌≤◌, Bool, true, false, List, [], ◌++◌, length, take, drop, Result, Ok, Err, refl, sym, ap, ◌∙◌, arith}
use Rattle.std.proofs.Common.{append_assoc, inl, inr, nat_lt, if◌then◌else◌}
use Rattle.std.proofs.lemmas.Bool.{cases_lt, le-ltb, lt-ltb, ltb-false, ltb-true}
use Rattle.std.proofs.lemmas.List.{append-nil, drop_all, drop-append-le, length-append, take-append-le}
use Rattle.capture_feed.specs.Reads.{IsFilled}
use Rattle.capture_feed.specs.Stages.{Next, Stage, block_next, headed, read_as, refuses, tells, waits}
use Rattle.pcapng.proofs.Fronts.{front_few, front_least}
use Rattle.pcapng.specs.Heads.{front, head_of, max_block}
use Rattle.pcapng.specs.Sections.{Section, Told, block_of}
use Rattle.pcapng.specs.declared.fault.Fault.{Fault}
use Rattle.pcapng.specs.declared.head.Head.{Head}

-- the same, with more bytes after it
abbrev pub later : Next → List ℕ → Next
later waits more = waits
later (refuses f) more = refuses f
later (tells t stage rest) more = tells t stage (rest ++ more)

read_later : (h : Head) (rest more : List ℕ) (r : Result (Told × Section) Fault) → read_as h (rest ++ more) r ≡ later (read_as h rest r) more
read_later h rest more (Ok x) = refl
read_later h rest more (Err f) = refl

-- a block that is read as soon as n bytes are there
module _ (n : ℕ) (h : Head) (read : List ℕ → Result (Told × Section) Fault) (b more : List ℕ) where
  abbrev fronted : List ℕ → Next
  fronted bytes = if nat_lt (length bytes) n then waits else read_as h (drop n bytes) (read (take n bytes))

  by_front : (t : Bool) → nat_lt (length b) n ≡ t → fronted b ≢ waits → fronted (b ++ more) ≡ later (fronted b) more
  by_front true t goes = absurd (goes (rw t refl))
  by_front false t goes =
      let enough = ltb-false _ _ t in
      let still : nat_lt (length (b ++ more)) n ≡ false = le-ltb _ _ (omega (arith, enough, length-append b more)) in
      rw (t, still, take-append-le n b more enough, drop-append-le n b more enough) (read_later h (drop n b) more (read (take n b)))

-- the same of its head, where what comes after it does so
module _ (head : List ℕ → Result Head Fault) (go : List ℕ → Result Head Fault → Next) (b more : List ℕ)
    (goes_on : (h : Result Head Fault) → go b h ≢ waits → go (b ++ more) h ≡ later (go b h) more) where
  abbrev begun : List ℕ → Next
  begun bytes = if nat_lt (length bytes) 12 then waits else go bytes (head (take 12 bytes))

  by_length : (t : Bool) → nat_lt (length b) 12 ≡ t → begun b ≢ waits → begun (b ++ more) ≡ later (begun b) more
  by_length true t goes = absurd (goes (rw t refl))
  by_length false t goes =
      let enough = ltb-false _ _ t in
      let still : nat_lt (length (b ++ more)) 12 ≡ false = le-ltb _ _ (omega (arith, enough, length-append b more)) in
      rw (t, still, take-append-le 12 b more enough) (goes_on (head (take 12 b)) (λ e. goes (rw t e)))

module _ (s : Section) (b more : List ℕ) where
  by_head : (h : Result Head Fault) → headed s b h ≢ waits → headed s (b ++ more) h ≡ later (headed s b h) more
  by_head (Err f) goes = refl
  by_head (Ok h) goes = by_front (front h) h (block_of s h) b more (nat_lt (length b) (front h)) refl goes

  -- what comes next stays, whatever follows the bytes, unless they end within it
  pub grows : block_next s b ≢ waits → block_next s (b ++ more) ≡ later (block_next s b) more
  grows goes = by_length (head_of s.began) (headed s) b more by_head (nat_lt (length b) 12) refl goes

-- ---- bytes that were filled up

pub told_on : (s : Section) (b more rest : List ℕ) (t : Told) (stage : Stage) → block_next s b ≡ tells t stage rest
    → block_next s (b ++ more) ≡ tells t stage (rest ++ more)
told_on s b more rest t stage e = grows s b more (λ w. absurd cc) ∙ ap (λ n. later n more) e

pub refused_on : (s : Section) (b more : List ℕ) (f : Fault) → block_next s b ≡ refuses f → block_next s (b ++ more) ≡ refuses f
refused_on s b more f e = grows s b more (λ w. absurd cc) ∙ ap (λ n. later n more) e

-- ---- what ends within a block

never_waits : (h : Head) (rest : List ℕ) (r : Result (Told × Section) Fault) → read_as h rest r ≢ waits
never_waits h rest (Ok x) e = absurd cc
never_waits h rest (Err f) e = absurd cc

rest_as : (h : Head) (rest left : List ℕ) (r : Result (Told × Section) Fault) (t : Told) (stage : Stage)
    → read_as h rest r ≡ tells t stage left → left ≡ rest
rest_as h rest left (Ok x) t stage e = cc
rest_as h rest left (Err f) t stage e = absurd cc

-- a block whose head is there
module _ (s : Section) (k : List ℕ) (h : Head) (head : head_of s.began (take 12 k) ≡ Ok h) (enough : 12 ≤ length k) where
  headed_is : block_next s k ≡ headed s k (Ok h)
  headed_is = rw (le-ltb _ _ enough, head) refl

  -- as the test of its length comes out
  abbrev tested : Bool → Next
  tested b = if b then waits else read_as h (drop (front h) k) (block_of s h (take (front h) k))

  tested_is : (b : Bool) → nat_lt (length k) (front h) ≡ b → block_next s k ≡ tested b
  tested_is b t = headed_is ∙ ap tested t

  -- it waits for as many bytes as are looked at
  pub lacks : block_next s k ≡ waits → length k < front h
  lacks e = by (nat_lt (length k) (front h)) refl
    where
      by : (b : Bool) → nat_lt (length k) (front h) ≡ b → length k < front h
      by true t = ltb-true _ _ t
      by false t =
          absurd (never_waits h (drop (front h) k) (block_of s h (take (front h) k)) (sym (tested_is false t) ∙ e))

  -- nothing is left of so many bytes
  pub ends : length k ≤ front h → (t : Told) (stage : Stage) (rest : List ℕ) → block_next s k ≡ tells t stage rest → rest ≡ []
  ends most t stage rest e = by (nat_lt (length k) (front h)) refl
    where
      by : (b : Bool) → nat_lt (length k) (front h) ≡ b → rest ≡ []
      by true b = let same : waits ≡ tells t stage rest = sym (tested_is true b) ∙ e in absurd cc
      by false b =
          rest_as h (drop (front h) k) rest (block_of s h (take (front h) k)) t stage (sym (tested_is false b) ∙ e)
          ∙ drop_all (front h) k most

-- what waits is shorter than what is looked at of any block
pub waits_few : (s : Section) (b : List ℕ) → block_next s b ≡ waits → length b < max_block
waits_few s b e = by (nat_lt (length b) 12) refl
  where
    by_head : 12 ≤ length b → (h : Result Head Fault) → head_of s.began (take 12 b) ≡ h → length b < max_block
    by_head enough (Ok h) is = let low = lacks s b h is enough e in omega (arith, low, front_few h)
    by_head enough (Err f) is = absurd (let same : block_next s b ≡ refuses f = rw (le-ltb _ _ enough, is) refl in cc)

    by : (t : Bool) → nat_lt (length b) 12 ≡ t → length b < max_block
    by true t = let low = ltb-true _ _ t in omega (arith, low)
    by false t = by_head (ltb-false _ _ t) (head_of s.began (take 12 b)) refl

pub short_waits : (s : Section) (b : List ℕ) → length b < 12 → block_next s b ≡ waits
short_waits s b low = rw (lt-ltb _ _ low) refl

pub head_refused : (s : Section) (b : List ℕ) (f : Fault) → 12 ≤ length b → head_of s.began (take 12 b) ≡ Err f → block_next s b ≡ refuses f
head_refused s b f enough is = rw (le-ltb _ _ enough, is) refl

-- fewer bytes than there is room for are kept as they are
pub kept_all : (n : ℕ) (k r b : List ℕ) → k ++ r ≡ b → length b < n → (length k < n → r ≡ []) → k ≡ b
kept_all n k r b same few full =
    let all = ap (λ (l : List ℕ). length l) same in
    let none = full (omega (arith, all, few, length-append k r)) in
    sym (append-nil k) ∙ (ap (λ (l : List ℕ). k ++ l) (sym none) ∙ same)

-- ---- what was kept, filled up

module _ (s : Section) (k0 piece k1 r1 k2 r2 : List ℕ) (h : Head) (waits0 : block_next s k0 ≡ waits) (all1 : k1 ++ r1 ≡ k0 ++ piece)
    (most1 : length k0 ≤ 12 → length k1 ≤ 12) (same1 : 12 ≤ length k0 → k1 ≡ k0) (enough1 : 12 ≤ length k1)
    (head1 : head_of s.began (take 12 k1) ≡ Ok h) (least : 12 ≤ h.len) (all2 : k2 ++ r2 ≡ k1 ++ r1) (most2 : length k1 ≤ front h → length k2 ≤ front h)
    (rest2 : length k2 < front h → r2 ≡ []) where
  some : 12 ≤ front h
  some = front_least h least

  within : length k1 ≤ front h
  within =
      elim (cases_lt (length k0) 12) [
        | inl lt ↦ let few = most1 (omega (arith, lt)) in omega (arith, few, some)
        | inr ge ↦ let lt = lacks s k1 h head1 enough1 (ap (block_next s) (same1 ge) ∙ waits0) in omega (arith, lt)
      ]

  enough2 : 12 ≤ length k2
  enough2 =
      elim (cases_lt (length k2) (front h)) [
        | inl lt ↦
            let none = ap (λ (l : List ℕ). length l) (rest2 lt) in
            let same = ap (λ (l : List ℕ). length l) all2 in
            omega (arith, none, same, length-append k2 r2, length-append k1 r1, enough1)
        | inr ge ↦ omega (arith, ge, some)
      ]

  head2 : head_of s.began (take 12 k2) ≡ Ok h
  head2 =
      ap (head_of s.began) (sym (take-append-le 12 k2 r2 enough2) ∙ (ap (take 12) all2 ∙ take-append-le 12 k1 r1 enough1)) ∙ head1

  pub filled : IsFilled s k2 r2 (k0 ++ piece)
  filled = record {
    same = all2 ∙ all1;
    told = ends s k2 h head2 enough2 (most2 within);
    waits = λ e. rest2 (lacks s k2 h head2 enough2 e);
  }

module _ (s : Section) (k r all : List ℕ) (f : IsFilled s k r all) where
  grouped : (more : List ℕ) → all ++ more ≡ k ++ (r ++ more)
  grouped more = ap (λ (l : List ℕ). l ++ more) (sym f.same) ∙ append_assoc k r more

  pub filled_told : (t : Told) (stage : Stage) (rest more : List ℕ) → block_next s k ≡ tells t stage rest
      → block_next s (all ++ more) ≡ tells t stage (r ++ more)
  filled_told t stage rest more e =
      ap (block_next s) (grouped more) ∙ (told_on s k (r ++ more) rest t stage e ∙ ap (λ (l : List ℕ). tells t stage (l ++ (r ++ more))) (f.told t stage rest e))

  pub filled_refused : (fault : Fault) (more : List ℕ) → block_next s k ≡ refuses fault → block_next s (all ++ more) ≡ refuses fault
  filled_refused fault more e = ap (block_next s) (grouped more) ∙ refused_on s k (r ++ more) fault e

  pub filled_waits : block_next s k ≡ waits → k ≡ all
  filled_waits e = sym (append-nil k) ∙ (ap (λ (l : List ℕ). k ++ l) (sym (f.waits e)) ∙ f.same)

-- something was told of what is kept, so it isn't nothing
pub some_kept : (s : Section) (k r all : List ℕ) → IsFilled s k r all → (t : Told) (stage : Stage) (rest : List ℕ)
    → block_next s k ≡ tells t stage rest → length r < length all
some_kept s k r all f t stage rest e =
    elim (cases_lt (length k) 12) [
      | inl lt ↦ let same : waits ≡ tells t stage rest = sym (short_waits s k lt) ∙ e in absurd cc
      | inr ge ↦ let same = ap (λ (l : List ℕ). length l) f.same in omega (arith, ge, same, length-append k r)
    ]
