-- Tables for the laws that compute examples: those of a router of an internet with three cables, and lists at the
-- limits.
use Rattle.std.specs.Prelude.{◌≡◌, ℕ, List, [], ◌∷◌, replicate, codes}
use Rattle.at_base.specs.Range.{Span}
use Rattle.rtmp.specs.declared.row.Row.{Row}
use Rattle.rtmp.specs.declared.state.State.{State}
use Rattle.rtmp.specs.declared.state.State.TheVariants.{Good, Bad}
use Rattle.zip_zones.specs.declared.entry.Entry.{Entry}
use Rattle.zip_zones.specs.declared.page.Page.{Page}
use Rattle.zip_zones.specs.Answers.{page_user}
use Rattle.zip_zones.specs.Zones.{Known}

-- a zone name
abbrev pub red : List ℕ
red = codes "Red"

-- another zone name
abbrev pub blue : List ℕ
blue = codes "Blue"

-- a name of 32 bytes
abbrev pub long : List ℕ
long = replicate 32 65

-- the networks from start to end
abbrev pub span : ℕ → ℕ → Span
span start end = record { start = start; end = end }

-- the zone list of a range, with total zones and these names
abbrev pub known : ℕ → ℕ → ℕ → List (List ℕ) → Known
known start end total names = record { range = span start end; total = total; names = names }

-- the lists of 10-19 with Red, 20-29 with Red and Blue, and 30-39 with Blue
abbrev pub three_lists : List Known
three_lists = known 10 19 1 (red ∷ []) ∷ known 20 29 2 (red ∷ blue ∷ []) ∷ known 30 39 1 (blue ∷ []) ∷ []

-- a row of a range, through a next router
abbrev pub row : ℕ → ℕ → ℕ → ℕ → State → Row
row start end net node state =
    record { range = span start end; distance = 1; port = 0; next = record { net = net; node = node }; state = state }

-- rows of 10-19, which is direct, and of 20-29, 30-39 and 40-49 by router 10.2, the last of which is bad
abbrev pub four_rows : List Row
four_rows = row 10 19 0 0 Good ∷ row 20 29 10 2 Good ∷ row 30 39 10 2 Good ∷ row 40 49 10 2 Bad ∷ []

-- an entry of a reply
abbrev pub named : ℕ → List ℕ → Entry
named net name = record { net = net; name = name }

-- the page is sent with these user bytes and these names
abbrev pub IsShown : List ℕ → List ℕ → Page → Type 0
IsShown user names shown = (page_user shown ≡ user) × (shown.bytes ≡ names)
