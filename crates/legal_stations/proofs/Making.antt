-- Datagrams that a station made from a header and data.
use Rattle.std.proofs.Common.{◌≡◌, ℕ, ◌≤◌, ◌⊎◌, inl, inr, Bool, true, false, if◌then◌else◌, List, []}
use Rattle.std.proofs.Common.{ap, arith, drop, length, refl, sym, ◌++◌, ◌∙◌, ◌∷◌}
use Rattle.std.specs.List.{All, AllByRecursion as Each}
use Rattle.std.proofs.lemmas.List.Elements.{All-cons, All-nil, All-tail}
use Rattle.at_base.specs.Checksum.{sum_of}
use Rattle.at_base.specs.Spelling.{IsValue, Spells, bytes_of}
use Rattle.ddp.specs.Bodies.{target}
use Rattle.ddp.specs.Datagram.{Datagram, checksum_of, datagram, datagram_of, unsummed}
use Rattle.ddp.specs.declared.header.Header.{Header}
use Rattle.ddp.proofs.Agreement.{value_agrees}
use Rattle.ddp.proofs.Shape.{bytes_laid, laid, value_laid}
use Rattle.ddp.proofs.Written.{Fitting, unsummed_value, written}
use Rattle.legal_runs.specs.Answers.{IsBody}
use Rattle.legal_runs.specs.Requests.{request}
use Rattle.station.specs.Lawful.{IsWhole}
use Rattle.legal_stations.proofs.Datagrams.{begins_whole, names_of, request_in}
use Rattle.legal_stations.proofs.Sealed.{sum_fits}

-- ---- Properties of each element of a list

pub each_of : {X : Type 0} (P : X → Type 0) (xs : List X) → All P xs → Each P xs
each_of P [] h = tt
each_of P (x ∷ xs) h = (h 0 x (omega arith), each_of P xs (All-tail P x xs h))

pub all_of : {X : Type 0} (P : X → Type 0) (xs : List X) → Each P xs → All P xs
all_of P [] h = All-nil P
all_of P (x ∷ xs) h = All-cons P x xs h.0 (all_of P xs h.1)

pub each_front : {X : Type 0} (P : X → Type 0) (xs ys : List X) → Each P (xs ++ ys) → Each P ys
each_front P [] ys h = h
each_front P (x ∷ xs) ys h = each_front P xs ys h.1

-- ---- The datagram

-- A datagram of a header and data is a body for the header's target, and it is a request if and only if its data are.
pub record IsSent (h : Header) (payload : List ℕ) : Type 0 where
  pub is_body : IsBody (bytes_of datagram (datagram_of h payload))
  pub target_is : target (bytes_of datagram (datagram_of h payload)) ≡ h.target
  pub asks : request (bytes_of datagram (datagram_of h payload)) ≡ names_of (datagram_of h payload)

module _ (h : Header) (payload : List ℕ) where
  abbrev made : Datagram
  made = datagram_of h payload

  short : IsWhole (bytes_of datagram made) → length payload ≤ 586
  short w =
      let same : length (laid made) ≡ length (laid w.value) = ap length (sym (bytes_laid made) ∙ (w.spelled.1 ∙ bytes_laid w.value)) in
      let v = value_laid w.value w.spelled.0 in
      let len = v.len in
      let most = v.most in
      omega (arith, same, len, most)

  value : Fitting h → length payload ≤ 586 → IsValue datagram made
  value f few =
      let plain = bytes_of datagram (unsummed h payload) in
      (written h payload plain (unsummed_value h payload f few, refl) (λ yes. sum_fits (drop 4 plain))).0

  sum_same : checksum_of (unsummed h payload) ≡ checksum_of made
  sum_same =
      ap (λ b. sum_of (drop 4 b)) (bytes_laid (unsummed h payload)) ∙ ap (λ b. sum_of (drop 4 b)) (sym (bytes_laid made))

  summed : (b : Bool) → h.summed ≡ b → (made.checksum ≡ 0) ⊎ (made.checksum ≡ checksum_of made)
  summed true e = inr (ap (λ b. if b then checksum_of (unsummed h payload) else 0) e ∙ sum_same)
  summed false e = inl (ap (λ b. if b then checksum_of (unsummed h payload) else 0) e)

  pub is_sent : Fitting h → IsWhole (bytes_of datagram made) → IsSent h payload
  is_sent f w =
      let s : Spells datagram (bytes_of datagram made) made = (value f (short w), refl) in
      let a = value_agrees (bytes_of datagram made) made (begins_whole (bytes_of datagram made) made s) in
      record {
        is_body = record { value = made; spelled = s; each = w.each; fresh = refl; sum = summed h.summed refl };
        target_is = a.1;
        asks = request_in (bytes_of datagram made) made s;
      }
