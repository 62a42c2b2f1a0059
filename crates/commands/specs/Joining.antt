-- What is joined of the images that are read.
use Rattle.std.specs.Prelude.{◌≡◌, ◌⊎◌, ℕ, true, false, List, Option, IfSome}
use Rattle.at_base.specs.Spelling.{Spells}
use Rattle.at_base.specs.declared.error.Error.TheVariants.{Full, NoSuch}
use Rattle.at_base.specs.declared.error.What.TheVariants.{Cable}
use Rattle.commands.specs.Streams.{IsImageRefused}
use Rattle.commands.specs.declared.refused.Refused.{Refused}
use Rattle.joined.specs.Joining.{are_too_many, have_same_cables, joined}
use Rattle.table_image.specs.Internet.{Internet}
use Rattle.table_image.specs.Spelling.{image_spelling}

-- The image is that of the internet before and of another one, over the same cables and small enough, which the bytes of the
-- input spell, where they are known.
pub record IsJoined (before : Internet) (bytes : Option (List ℕ)) (image : Internet) : Type 0 where
  pub other : Internet
  pub spelled : IfSome bytes (λ b. Spells image_spelling b other)
  pub cables : have_same_cables before other ≡ true
  pub few : are_too_many before other ≡ false
  pub both : image ≡ joined before other

-- The images can't be joined: their cables differ, or they have too many routers or nodes together.
abbrev pub Differ : Internet → Internet → Refused → Type 0
Differ before other r =
    ((r.error ≡ NoSuch Cable) × (have_same_cables before other ≡ false))
    ⊎ ((r.error ≡ Full) × (have_same_cables before other ≡ true) × (are_too_many before other ≡ true))

-- Why no image is joined to the internet before: it can't be read, or it is one that can't be joined.
abbrev pub IsUnjoined : Internet → Option (List ℕ) → Refused → Type 0
IsUnjoined before bytes r =
    IsImageRefused r.error ⊎ ((other : Internet) × IfSome bytes (λ b. Spells image_spelling b other) × Differ before other r)
