-- Requests for routing data: their format is lawful, and what is written is read back.
use Rattle.std.proofs.Common.{◌≡◌, ℕ, zero, suc, ◌≤◌, ltb, List, [], ◌∷◌, ◌++◌, None, refl, arith}
use Rattle.std.proofs.lemmas.Bool.{ltb-false}
use Rattle.at_base.specs.declared.error.Field.TheVariants.{Function}
use Rattle.at_base.specs.Lawful.{IsLawful}
use Rattle.at_base.specs.Packets.{packets, within}
use Rattle.at_base.specs.Spelling.{Spells, Begins}
use Rattle.at_base.proofs.Fields.{not_wrong}
use Rattle.at_base.proofs.Readers.{spelled_begins, begins_one}
use Rattle.rtmp.specs.declared.request.Horizon.TheVariants.{Split, Whole}
use Rattle.rtmp.specs.declared.request.Request.{Request}
use Rattle.rtmp.specs.declared.request.Request.TheVariants.{Router, Routes}
use Rattle.rtmp.specs.Requests.{request, request_number, request_of}

-- a function from 1 to 3 is that of its request
number_again : (n : ℕ) → within 1 3 Function n ≡ None → request_number (request_of n) ≡ n
number_again n h =
    let least = not_wrong (ltb n 1) _ _ h in
    let most = not_wrong (ltb 3 n) _ _ least.1 in
    again n (ltb-false _ _ least.0) (ltb-false _ _ most.0)
  where
    again : (n : ℕ) → 1 ≤ n → n ≤ 3 → request_number (request_of n) ≡ n
    again zero least most = absurd (omega arith)
    again (suc zero) least most = refl
    again (suc (suc zero)) least most = refl
    again (suc (suc (suc zero))) least most = refl
    again (suc (suc (suc (suc n)))) least most = absurd (omega arith)

pub request_lawful : IsLawful request
unfolding request
request_lawful = λ n p. (number_again n p.1, tt)

pub spelled : (r : Request) → Spells request (request_number r ∷ []) r
unfolding request
spelled Router = (((omega arith, refl), refl), refl)
spelled (Routes Split) = (((omega arith, refl), refl), refl)
spelled (Routes Whole) = (((omega arith, refl), refl), refl)

pub request_read_back : (r : Request) (bytes rest : List ℕ) → Spells request bytes r
    → Begins request (bytes ++ rest) r × ((q : Request) → Begins request (bytes ++ rest) q → q ≡ r)
request_read_back r bytes rest s =
    let b = spelled_begins request bytes rest r s in
    (b, λ q c. begins_one packets request request_lawful (bytes ++ rest) r q b c)
