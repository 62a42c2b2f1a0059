-- The zones of a cable that were found in a list.
use Rattle.std.specs.Prelude.{ℕ, Bool, false, take, slice_index_or}
use Rattle.std.specs.List.{list_all}
use Rattle.audit.specs.declared.zone_sets.Found.{Found}

-- the zone with this 0-based index was found
abbrev pub is_found : Found → ℕ → Bool
is_found found k = slice_index_or found.zones k false

-- each of the first n zones was found
abbrev pub all_found : Found → ℕ → Bool
all_found found n = list_all (λ b. b) (take n found.zones)
