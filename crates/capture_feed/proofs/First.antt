-- A block that is read as a whole comes next.
use Rattle.std.proofs.Common.{◌≡◌, ℕ, ◌-◌, ◌≤◌, true, false, List, length, take, drop, None, Result, Ok, refl, sym, ap, ◌∙◌, arith, inl, inr, nat_lt}
use Rattle.std.proofs.lemmas.Bool.{cases_lt, le-ltb}
use Rattle.std.proofs.lemmas.List.{length-append, length-take}
use Rattle.at_base.proofs.Fields.{bind_ok, bytes_take, ok_is}
use Rattle.at_base.specs.Reading.{bytes_at}
use Rattle.capture_feed.specs.Stages.{block_next, coming, counted, tells, told}
use Rattle.pcapng.proofs.Fronts.{front_few}
use Rattle.pcapng.specs.First.{IsFirst}
use Rattle.pcapng.specs.Heads.{front, head_of, is_short, max_block}
use Rattle.pcapng.specs.Sections.{Section, Told, block_of}
use Rattle.pcapng.specs.declared.fault.Fault.{Fault}
use Rattle.pcapng.specs.declared.fault.Fault.TheVariants.{Cut}
use Rattle.pcapng.specs.declared.form.Began.{Began}
use Rattle.pcapng.specs.declared.head.Head.{Head}

abbrev ok_of : Told × Section → Result (Told × Section) Fault
ok_of x = Ok x

-- a head has twelve bytes
twelve : (b : Began) (z : List ℕ) (h : Head) → head_of b z ≡ Ok h → 12 ≤ length z
twelve b z h e =
    let x = bind_ok (bytes_at Cut 4 z) _ h e in
    let y = bind_ok (bytes_at Cut 4 x.0.1) _ h x.2 in
    let w = bind_ok (bytes_at Cut 4 y.0.1) _ h y.2 in
    let p = bytes_take 4 Cut z x.0 x.1 in
    let q = bytes_take 4 Cut x.0.1 y.0 y.1 in
    let r = bytes_take 4 Cut y.0.1 w.0 w.1 in
    let a = ap (λ (l : List ℕ). length l) p.0 in
    let b = ap (λ (l : List ℕ). length l) q.0 in
    let c = ap (λ (l : List ℕ). length l) r.0 in
    omega (arith, a, b, c, p.1, q.1, r.1, length-append x.0.0 x.0.1, length-append y.0.0 y.0.1, length-append w.0.0 w.0.1)

-- a block of which all is looked at is short
all_short : (h : Head) → h.len - front h ≡ 0 → is_short h ≡ true
all_short h none =
    elim (cases_lt max_block h.len) [
      | inl long ↦ absurd (omega (arith, none, long, front_few h))
      | inr short ↦ let no : nat_lt max_block h.len ≡ false = le-ltb _ _ short in rw no refl
    ]

module _ (s new : Section) (bytes rest : List ℕ) (t : Told) (first : IsFirst s bytes t new rest) where
  next : block_next s bytes ≡ tells t (record { section = new; passing = None }) rest
  next =
      let a = bind_ok (head_of s.began (take 12 bytes)) _ _ first in
      let h = a.0 in
      let b = bind_ok (bytes_at Cut (front h) bytes) _ _ a.2 in
      let c = bind_ok (block_of s h b.0.0) _ _ b.2 in
      let is = ok_is {E = Fault} (c.0, (h.len - front h, b.0.1)) ((t, new), (0, rest)) c.2 in
      let parts = bytes_take (front h) Cut bytes b.0 b.1 in
      let says : block_of s h (take (front h) bytes) ≡ Ok (t, new) =
      ap (λ (x : List ℕ × List ℕ). block_of s h x.0) (sym parts.2) ∙ (c.1 ∙ ap (λ (x : (Told × Section) × (ℕ × List ℕ)). ok_of x.0) is) in
      let after : drop (front h) bytes ≡ rest =
      ap (λ (x : List ℕ × List ℕ). x.1) (sym parts.2) ∙ ap (λ (x : (Told × Section) × (ℕ × List ℕ)). x.1.1) is in
      let short = all_short h (ap (λ (x : (Told × Section) × (ℕ × List ℕ)). x.1.0) is) in
      let low = twelve s.began (take 12 bytes) h a.1 in
      let enough : nat_lt (length bytes) 12 ≡ false = le-ltb _ _ (omega (arith, low, length-take 12 bytes)) in
      let size = ap (λ (l : List ℕ). length l) parts.0 in
      let there : nat_lt (length bytes) (front h) ≡ false = le-ltb _ _ (omega (arith, size, parts.1, length-append b.0.0 b.0.1)) in
      rw (enough, a.1, there, says, after, short) refl

  pub comes : (blocks : ℕ) → coming (record { stage = record { section = s; passing = None }; blocks = blocks }) bytes
      ≡ told t (record { stage = record { section = new; passing = None }; blocks = counted blocks }) rest
  comes blocks = rw next refl
