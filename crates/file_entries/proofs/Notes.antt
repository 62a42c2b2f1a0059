-- What further notes change.
use Rattle.std.proofs.Common.{◌≡◌, ℕ, Bool, true, false, ◌&&◌, List, refl, sym}
use Rattle.std.specs.Prelude.{Option, Some, None, Result, Ok}
use Rattle.at_base.specs.declared.error.Error.{Error}
use Rattle.at_base.specs.declared.error.Part.{Part}
use Rattle.file_entries.specs.Faults.{noted, part_outcome}

-- After an entry is known to be invalid, nothing more of it counts.
pub noted_again : (s : Part × ℕ) (b : Bool) (first : Option (Part × ℕ)) → noted s b (noted s false first) ≡ noted s false first
noted_again s true first = refl
noted_again s false None = refl
noted_again s false (Some t) = refl

-- What two readings change is what one reading of both changes.
pub noted_both : (s : Part × ℕ) (a b : Bool) (first : Option (Part × ℕ)) → noted s b (noted s a first) ≡ noted s (a && b) first
noted_both s true b first = refl
noted_both s false true first = refl
noted_both s false false None = refl
noted_both s false false (Some t) = refl

-- Where no entry is invalid, the entries are those of the part.
pub part_valid : {T : Type 0} (p : Part) (bad : Option ℕ) (xs : List T) (r : Result (List T) Error) → part_outcome p bad xs ≡ r
    → bad ≡ None → r ≡ Ok xs
part_valid p None xs r e valid = sym e
part_valid p (Some k) xs r e valid = absurd cc
