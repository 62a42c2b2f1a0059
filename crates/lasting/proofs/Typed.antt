-- The type of a datagram that is read or written is that in its bytes.
use Rattle.std.proofs.Common.{◌≡◌, ℕ, ◌%◌, ◌-◌, Bool, true, false, cond, List, [], ◌∷◌, drop, take, length}
use Rattle.std.proofs.Common.{Option, Some, None, Result, Ok, Err, refl, sym, ap, ◌∙◌, arith}
use Rattle.std.specs.Prelude.{nat_lt}
use Rattle.std.specs.Int.{from_be_bytes, w8, w16}
use Rattle.at_base.proofs.Fields.{bind_ok, ok_is}
use Rattle.at_base.specs.Grammar.{number, one, run, two}
use Rattle.at_base.specs.Packets.{any, packets}
use Rattle.at_base.specs.Reading.{bytes_at, field_at, read, value_of}
use Rattle.at_base.specs.Spelling.{bytes_of}
use Rattle.at_base.specs.declared.error.Error.{Error}
use Rattle.ddp.proofs.Shape.{bytes_laid, laid}
use Rattle.ddp.specs.Bodies.{with_hops}
use Rattle.ddp.specs.Datagram.{Datagram, datagram, datagram_of, wrong_word}
use Rattle.ddp.specs.declared.header.Header.{Header}
use Rattle.lasting.specs.Plain.{kind_byte}
use Rattle.station.specs.Values.{datagram_at}

-- ---- What is read

value_is : {A B : Type 0} (r : Result (A × B) Error) (y : A) → value_of r ≡ Some y → (b : B) × (r ≡ Ok (y, b))
value_is (Ok x) y e = (x.1, (let is : x.0 ≡ y = cc in ap (λ a. Ok (a, x.1)) is))
value_is (Err f) y e = cc

taken_is : (b : Bool) (e : Error) (x y : List ℕ × List ℕ) → cond b (Err e) (Ok x) ≡ Ok y → x ≡ y
taken_is true e x y h = cc
taken_is false e x y h = ok_is x y h

one_read : (bytes : List ℕ) (x : ℕ × List ℕ) → field_at packets (number one any) bytes ≡ Ok x
    → (x.0 ≡ from_be_bytes w8 (take 1 bytes)) × (x.1 ≡ drop 1 bytes)
one_read bytes x e =
    let w = bind_ok (bytes_at packets.cut 1 bytes) _ x e in
    let t = taken_is (nat_lt (length bytes) 1) packets.cut (take 1 bytes, drop 1 bytes) w.0 w.1 in
    let y : (from_be_bytes w8 w.0.0, w.0.1) ≡ x = ok_is {E = Error} (from_be_bytes w8 w.0.0, w.0.1) x w.2 in
    (sym (ap (λ p. p.0) y) ∙ ap (λ p. from_be_bytes w8 p.0) (sym t), sym (ap (λ p. p.1) y) ∙ ap (λ p. p.1) (sym t))

two_read : (bytes : List ℕ) (wrong : ℕ → Option Error) (x : ℕ × List ℕ) → field_at packets (number two wrong) bytes ≡ Ok x
    → x.1 ≡ drop 2 bytes
two_read bytes wrong x e =
    let w = bind_ok (bytes_at packets.cut 2 bytes) _ x e in
    let t = taken_is (nat_lt (length bytes) 2) packets.cut (take 2 bytes, drop 2 bytes) w.0 w.1 in
    by (wrong (from_be_bytes w16 w.0.0)) (from_be_bytes w16 w.0.0) w.0.1 w.2 ∙ ap (λ p. p.1) (sym t)
  where
    by : (o : Option Error) (n : ℕ) (rest : List ℕ)
        → Rattle.at_base.specs.Reading.checked packets bytes o (n, rest) ≡ Ok x → x.1 ≡ rest
    by None n rest h = sym (ap (λ p. p.1) (ok_is {E = Error} (n, rest) x h))
    by (Some f) n rest h = cc

drops : (bytes : List ℕ)
    → drop 1 (drop 1 (drop 1 (drop 1 (drop 2 (drop 2 (drop 2 (drop 2 bytes))))))) ≡ drop 12 bytes
drops [] = refl
drops (a ∷ []) = refl
drops (a ∷ b ∷ []) = refl
drops (a ∷ b ∷ c ∷ []) = refl
drops (a ∷ b ∷ c ∷ d ∷ []) = refl
drops (a ∷ b ∷ c ∷ d ∷ e ∷ []) = refl
drops (a ∷ b ∷ c ∷ d ∷ e ∷ f ∷ []) = refl
drops (a ∷ b ∷ c ∷ d ∷ e ∷ f ∷ g ∷ []) = refl
drops (a ∷ b ∷ c ∷ d ∷ e ∷ f ∷ g ∷ h ∷ []) = refl
drops (a ∷ b ∷ c ∷ d ∷ e ∷ f ∷ g ∷ h ∷ i ∷ []) = refl
drops (a ∷ b ∷ c ∷ d ∷ e ∷ f ∷ g ∷ h ∷ i ∷ j ∷ []) = refl
drops (a ∷ b ∷ c ∷ d ∷ e ∷ f ∷ g ∷ h ∷ i ∷ j ∷ k ∷ []) = refl
drops (a ∷ b ∷ c ∷ d ∷ e ∷ f ∷ g ∷ h ∷ i ∷ j ∷ k ∷ l ∷ rest) = refl

enough : {A : Type 0} (b : Bool) (e : Error) (r : Result A Error) (y : A) → cond b (Err e) r ≡ Ok y → r ≡ Ok y
enough true e r y h = cc
enough false e r y h = h

-- the type of a datagram that is read is that in the bytes
pub read_kind : (bytes : List ℕ) (d : Datagram) → datagram_at bytes ≡ Some d → d.kind % 256 ≡ kind_byte bytes
unfolding datagram_at datagram
read_kind bytes d e =
    let r = value_is (read packets datagram bytes) d e in
    let a = bind_ok _ _ (d, r.0) (enough _ _ _ (d, r.0) r.1) in
    let b = bind_ok _ _ (d, r.0) (enough _ _ _ (d, r.0) a.2) in
    let c = bind_ok _ _ (d, r.0) b.2 in
    let f = bind_ok _ _ (d, r.0) c.2 in
    let g = bind_ok _ _ (d, r.0) f.2 in
    let h = bind_ok _ _ (d, r.0) g.2 in
    let i = bind_ok _ _ (d, r.0) h.2 in
    let j = bind_ok _ _ (d, r.0) i.2 in
    let k = bind_ok _ _ (d, r.0) j.2 in
    let l = bind_ok (field_at packets (run (a.0.0 % 1024 - 13) any) k.0.1) _ (d, r.0) k.2 in
    let last = ok_is {E = Error} _ (d, r.0) l.2 in
    let whole : k.0.0 ≡ d.kind = ap (λ (p : Datagram × List ℕ). p.0.kind) last in
    let s1 = two_read bytes wrong_word a.0 a.1 in
    let s2 = two_read a.0.1 any b.0 b.1 ∙ ap (drop 2) s1 in
    let s3 = two_read b.0.1 any c.0 c.1 ∙ ap (drop 2) s2 in
    let s4 = two_read c.0.1 any f.0 f.1 ∙ ap (drop 2) s3 in
    let s5 = (one_read f.0.1 g.0 g.1).1 ∙ ap (drop 1) s4 in
    let s6 = (one_read g.0.1 h.0 h.1).1 ∙ ap (drop 1) s5 in
    let s7 = (one_read h.0.1 i.0 i.1).1 ∙ ap (drop 1) s6 in
    let s8 = (one_read i.0.1 j.0 j.1).1 ∙ ap (drop 1) s7 in
    ap (λ n. n % 256) (sym whole ∙ ((one_read j.0.1 k.0 k.1).0 ∙ ap (λ (l : List ℕ). from_be_bytes w8 (take 1 l)) (s8 ∙ drops bytes)))

-- ---- What is written

laid_kind : (d : Datagram) → kind_byte (laid d) ≡ d.kind % 256
laid_kind d = omega arith

-- the type of a datagram that is written
pub written_kind : (h : Header) (payload : List ℕ) → kind_byte (bytes_of datagram (datagram_of h payload)) ≡ h.kind % 256
written_kind h payload = ap kind_byte (bytes_laid (datagram_of h payload)) ∙ laid_kind (datagram_of h payload)

-- the type of a datagram that is forwarded
pub onward_kind : (n : ℕ) (d : Datagram) → kind_byte (with_hops n (bytes_of datagram d)) ≡ d.kind % 256
onward_kind n d = ap (λ b. kind_byte (with_hops n b)) (bytes_laid d) ∙ laid_kind d
