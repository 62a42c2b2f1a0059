-- The formats of ZIP packets: each projection gives its part.
use Rattle.std.proofs.Common.{◌≡◌, ℕ, zero, suc, ◌≤◌, ◌==◌, Bool, true, false, length, None, refl, subst, arith}
use Rattle.std.proofs.lemmas.List.{length-append}
use Rattle.at_base.specs.Spelling.{IsValue, bytes_of}
use Rattle.at_base.specs.Lawful.{IsLawful, Has}
use Rattle.at_base.proofs.Packets.{only_is, text_lawful}
use Rattle.at_base.specs.Packets.{any}
use Rattle.at_base.specs.declared.error.Field.TheVariants.{Lengths}
use Rattle.zip_zones.specs.declared.packet.Function.{Function}
use Rattle.zip_zones.specs.declared.packet.Function.TheVariants as f
use Rattle.zip_zones.specs.Formats.{body, default_zone, function_in, function_of, number_of, packet, wrong_function}
use Rattle.zip_zones.specs.declared.packet.Packet.{Packet}
use Rattle.zip_zones.specs.Packets.{network}
use Rattle.zip_zones.specs.declared.entry.Entry.{Entry}
use Rattle.zip_zones.specs.Packets.{entry, wrong_name}

pub network_lawful : IsLawful network
unfolding network
network_lawful = λ n p. (refl, tt)

pub network_long : (low n : ℕ) → IsValue network n → 1 ≤ length (bytes_of network n)
unfolding network
network_long low n h = omega arith

pub entry_lawful : (low : ℕ) → IsLawful (entry low)
unfolding entry
entry_lawful low = λ net p. (λ name r. refl, (text_lawful 1 wrong_name, λ name r. (refl, tt)))

pub entry_long : (low : ℕ) (e : Entry) → IsValue (entry low) e → 1 ≤ length (bytes_of (entry low) e)
unfolding entry
entry_long low e h = omega arith

-- ---- packets

default_lawful : (b : Bool) → IsLawful (default_zone b)
unfolding default_zone
default_lawful false = tt
default_lawful true = (text_lawful 1 wrong_name, λ name r. (refl, tt))

body_lawful : (fn : Function) → IsLawful (body fn)
unfolding body
body_lawful f.Query = λ count p. (λ nets len. len, ((λ low. network_lawful), λ nets len. (refl, tt)))
body_lawful f.Reply = λ count p. (λ es. refl, (entry_lawful, entry_long, λ es. refl))
body_lawful f.GetNetInfo = λ unused p. (λ asked r. refl, (text_lawful 0 any, λ asked r. (refl, tt)))
body_lawful f.NetInfoReply = λ flags p. (
  λ start q end r asked s len t group u default v. refl,
  λ start q. (
    λ end r asked s len t group u default v. refl,
    λ end r. (
      λ asked s len t group u default v. refl,
      (
        text_lawful 0 any,
        λ asked s. (
          λ len t group u default v. refl,
          λ len t. (
            λ group u default v. only_is 6 Lengths len t.1,
            λ group u. (λ default v. refl, (default_lawful _, λ default v. (refl, tt))),
          ),
        ),
      ),
    ),
  ),
)
body_lawful f.ExtendedReply = λ total p. (λ es. refl, (entry_lawful, entry_long, λ es. refl))

-- a packet of a function's format has that function
head_has : (fn : Function) → Has (λ p. number_of (function_in p)) (number_of fn) (body fn)
unfolding body
head_has f.Query = λ count p nets len. refl
head_has f.Reply = λ count p es. refl
head_has f.GetNetInfo = λ unused p asked r. refl
head_has f.NetInfoReply = λ flags p start q end r asked s len t group u default v. refl
head_has f.ExtendedReply = λ total p es. refl

body_long : (fn : Function) (y : Packet) → IsValue (body fn) y → 1 ≤ length (bytes_of (body fn) y)
unfolding body
body_long f.Query y h = omega arith
body_long f.Reply y h = omega arith
body_long f.GetNetInfo y h = omega (arith, length-append {A = ℕ}, h.0.0)
body_long f.NetInfoReply y h = omega arith
body_long f.ExtendedReply y h = omega arith

-- no function has a number above 8
past : (n : ℕ) → 9 ≤ n → wrong_function n ≡ None → ⊥
past n le h =
    let a : (n == 1) ≡ false = grind arith in
    let b : (n == 2) ≡ false = grind arith in
    let c : (n == 5) ≡ false = grind arith in
    let d : (n == 6) ≡ false = grind arith in
    let e : (n == 8) ≡ false = grind arith in
    let wrong = rw (a, b, c, d, e) at h in
    absurd cc

-- a function's number is that function's
number_is : (n : ℕ) → wrong_function n ≡ None → number_of (function_of n) ≡ n
number_is zero h = absurd cc
number_is (suc zero) h = refl
number_is (suc (suc zero)) h = refl
number_is (suc (suc (suc zero))) h = absurd cc
number_is (suc (suc (suc (suc zero)))) h = absurd cc
number_is (suc (suc (suc (suc (suc zero))))) h = refl
number_is (suc (suc (suc (suc (suc (suc zero)))))) h = refl
number_is (suc (suc (suc (suc (suc (suc (suc zero))))))) h = absurd cc
number_is (suc (suc (suc (suc (suc (suc (suc (suc zero)))))))) h = refl
number_is (suc (suc (suc (suc (suc (suc (suc (suc (suc n))))))))) h = absurd (past (suc (suc (suc (suc (suc (suc (suc (suc
    (suc n))))))))) (omega arith) h)

pub packet_lawful : IsLawful packet
unfolding packet
packet_lawful = (
  λ y h. omega (arith, body_long (function_of (number_of (function_in y))) y h.1),
  λ n p. (
    subst (λ (m : ℕ). Has (λ p. number_of (function_in p)) m (body (function_of n))) (number_is n p.1) (head_has
        (function_of n)),
    body_lawful (function_of n),
  ),
)
