-- Which of the examples are settled, by computation.
use Rattle.std.proofs.Common.{◌≡◌, zero, suc, inl, inr, true, false, Some, refl, arith}
use Rattle.at_base.specs.declared.error.Place.{Place}
use Rattle.at_base.specs.declared.error.Place.TheVariants as place
use Rattle.audit.specs.Firsts.{FirstPlace}
use Rattle.audit.specs.Rules.{Passes}
use Rattle.audit.proofs.ExamplePlaces.{passes}
use Rattle.audit.specs.Verdicts.{IsBefore}
use Rattle.rtmp.specs.declared.state.State.TheVariants.{Suspect, Bad}
use Rattle.settled.specs.Examples.{long_way, ring, short_way}
use Rattle.settled.specs.Settling.{changes, IsSettled}

-- the long way may change: the second router offers 30-39 at 0 on cable 20-29
pub long_changes : FirstPlace (changes (ring long_way)) (Some (place.Row 1 3))
long_changes = (refl, before)
  where
    before : (q : Place) → IsBefore q (place.Row 1 3) → changes (ring long_way) q ≡ false
    before (place.Row zero k) h = refl
    before (place.Row (suc zero) zero) h = refl
    before (place.Row (suc zero) (suc zero)) h = refl
    before (place.Row (suc zero) (suc (suc zero))) h = refl
    before (place.Row (suc zero) (suc (suc (suc k)))) (inl h) = absurd (omega (arith, h))
    before (place.Row (suc zero) (suc (suc (suc k)))) (inr h) = let low = h.1 in absurd (omega (arith, low))
    before (place.Row (suc (suc r)) k) (inl h) = absurd (omega (arith, h))
    before (place.Row (suc (suc r)) k) (inr h) = let same = h.0 in absurd (omega (arith, same))
    before (place.Missing r k) h = refl
    before (place.Cable k) h = refl
    before (place.Port r p) h = refl
    before (place.Node k) h = refl
    before (place.List r k) h = refl

-- the short way stays, while it is Suspect too
pub short_stays : IsSettled (ring (short_way Suspect))
short_stays (place.Row zero k) = refl
short_stays (place.Row (suc r) zero) = refl
short_stays (place.Row (suc zero) (suc zero)) = refl
short_stays (place.Row (suc zero) (suc (suc zero))) = refl
short_stays (place.Row (suc zero) (suc (suc (suc zero)))) = refl
short_stays (place.Row (suc zero) (suc (suc (suc (suc zero))))) = refl
short_stays (place.Row (suc zero) (suc (suc (suc (suc (suc k)))))) = refl
short_stays (place.Row (suc (suc zero)) (suc zero)) = refl
short_stays (place.Row (suc (suc zero)) (suc (suc zero))) = refl
short_stays (place.Row (suc (suc zero)) (suc (suc (suc zero)))) = refl
short_stays (place.Row (suc (suc zero)) (suc (suc (suc (suc zero))))) = refl
short_stays (place.Row (suc (suc zero)) (suc (suc (suc (suc (suc k)))))) = refl
short_stays (place.Row (suc (suc (suc zero))) (suc zero)) = refl
short_stays (place.Row (suc (suc (suc zero))) (suc (suc zero))) = refl
short_stays (place.Row (suc (suc (suc zero))) (suc (suc (suc zero)))) = refl
short_stays (place.Row (suc (suc (suc zero))) (suc (suc (suc (suc zero))))) = refl
short_stays (place.Row (suc (suc (suc zero))) (suc (suc (suc (suc (suc k)))))) = refl
short_stays (place.Row (suc (suc (suc (suc zero)))) (suc zero)) = refl
short_stays (place.Row (suc (suc (suc (suc zero)))) (suc (suc zero))) = refl
short_stays (place.Row (suc (suc (suc (suc zero)))) (suc (suc (suc zero)))) = refl
short_stays (place.Row (suc (suc (suc (suc zero)))) (suc (suc (suc (suc zero))))) = refl
short_stays (place.Row (suc (suc (suc (suc zero)))) (suc (suc (suc (suc (suc k)))))) = refl
short_stays (place.Row (suc (suc (suc (suc (suc r))))) (suc k)) = refl
short_stays (place.Missing r k) = refl
short_stays (place.Cable k) = refl
short_stays (place.Port r p) = refl
short_stays (place.Node k) = refl
short_stays (place.List r k) = refl

-- a row that isn't usable may change
pub bad_changes : changes (ring (short_way Bad)) (place.Row 1 3) ≡ true
bad_changes = refl

pub both_pass : Passes (ring long_way) × Passes (ring (short_way Suspect))
both_pass = (
  passes (ring long_way)
      (record { one = refl; two = refl; three = refl; four = refl; five = refl; six = refl; eight = refl; nine = refl; ten = refl }) refl,
  passes (ring (short_way Suspect))
      (record { one = refl; two = refl; three = refl; four = refl; five = refl; six = refl; eight = refl; nine = refl; ten = refl }) refl,
)
