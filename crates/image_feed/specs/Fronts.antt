-- The parts of a list that were read.
use Rattle.std.specs.Prelude.{ℕ, List, length, take}
use Rattle.image_feed.specs.declared.front.Front.{Front}
use Rattle.image_feed.specs.declared.front.Front.TheVariants.{Same, Own}

-- the parts, where the other list is like
abbrev pub front_of : {B : Type 0} → List B → Front B → List B
front_of like (Same count) = take count like
front_of like (Own items) = items.items

-- the place of the next part
abbrev pub place_in : {B : Type 0} → Front B → ℕ
place_in (Same count) = count
place_in (Own items) = length items.items
