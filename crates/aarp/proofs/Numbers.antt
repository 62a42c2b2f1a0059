-- The numbers of an AARP packet's functions.
use Rattle.std.proofs.Common.{◌≡◌, ℕ, zero, suc, ◌≤◌, ◌<◌, ltb, None, refl, arith}
use Rattle.std.proofs.lemmas.Bool.{ltb-false}
use Rattle.at_base.specs.declared.error.Field.TheVariants.{Function as FunctionField}
use Rattle.at_base.specs.Packets.{within}
use Rattle.at_base.proofs.Fields.{not_wrong}
use Rattle.aarp.specs.declared.packet.Function.{Function}
use Rattle.aarp.specs.declared.packet.Function.TheVariants.{Request, Response, Probe}
use Rattle.aarp.specs.Packets.{function_number, function_of}

-- a number from 1 to 3 is that of its function
pub number_again : (n : ℕ) → within 1 3 FunctionField n ≡ None → function_number (function_of n) ≡ n
number_again n h =
    let least = not_wrong (ltb n 1) _ _ h in
    let most = not_wrong (ltb 3 n) _ _ least.1 in
    again n (ltb-false _ _ least.0) (ltb-false _ _ most.0)
  where
    again : (n : ℕ) → 1 ≤ n → n ≤ 3 → function_number (function_of n) ≡ n
    again zero least most = absurd (omega arith)
    again (suc zero) least most = refl
    again (suc (suc zero)) least most = refl
    again (suc (suc (suc zero))) least most = refl
    again (suc (suc (suc (suc n)))) least most = absurd (omega arith)

pub function_again : (f : Function) → function_of (function_number f) ≡ f
function_again Request = refl
function_again Response = refl
function_again Probe = refl

pub function_passes : (f : Function) → within 1 3 FunctionField (function_number f) ≡ None
function_passes Request = refl
function_passes Response = refl
function_passes Probe = refl

pub function_fits : (f : Function) → function_number f < 256
function_fits Request = omega arith
function_fits Response = omega arith
function_fits Probe = omega arith
