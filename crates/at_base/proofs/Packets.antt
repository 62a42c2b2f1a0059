-- The fields of packets are lawful: each projection gives its part.
use Rattle.std.proofs.Common.{◌≡◌, ℕ, ◌≤◌, Bool, true, false, cond, eqb, List, length, Option, Some, None, Ok, refl, sym}
use Rattle.std.specs.Prelude.{nat_lt}
use Rattle.std.proofs.lemmas.Bool.{eqb-true, ltb-false}
use Rattle.at_base.specs.declared.error.Error.{Error}
use Rattle.at_base.specs.declared.error.Field.{Field}
use Rattle.at_base.specs.declared.error.Error.TheVariants.{BadField}
use Rattle.at_base.specs.Lawful.{IsLawful}
use Rattle.at_base.specs.Packets.{any, only, packets, text, address}
use Rattle.at_base.specs.Reading.{read}
use Rattle.at_base.proofs.Fields.{IsBytes, not_wrong}
use Rattle.at_base.proofs.Laws.{read_takes}

-- a value that passes the test of one value is that value
pub only_is : (value : ℕ) (what : Field) (n : ℕ) → only value what n ≡ None → value ≡ n
only_is value what n e = sym (eqb-true _ _ (passed (eqb n value) (BadField what) e))
  where
    passed : (b : Bool) (w : Error) → cond b None (Some w) ≡ None → b ≡ true
    passed true w e = refl
    passed false w e = absurd cc

pub text_lawful : (least : ℕ) (wrong : List ℕ → Option Error) → IsLawful (text least wrong)
unfolding text
text_lawful least wrong = λ len p. (λ s q. q.0, λ s q. (refl, tt))

pub address_lawful : IsLawful address
unfolding address
address_lawful = λ net p. (λ node q. refl, λ node q. (refl, tt))

-- a text that is read has at most 32 bytes, and at least the least
pub text_short : (least : ℕ) (bytes s rest : List ℕ) → IsBytes bytes → read packets (text least any) bytes ≡ Ok (s, rest)
    → (least ≤ length s) × (length s ≤ 32)
unfolding text
text_short least bytes s rest fits e =
    let t = read_takes packets (text least any) (text_lawful least any) bytes (s, rest) fits e in
    let some = not_wrong (nat_lt (length s) least) _ _ t.1.0.1 in
    let few = not_wrong (nat_lt 32 (length s)) _ _ some.1 in
    (ltb-false _ _ some.0, ltb-false _ _ few.0)
