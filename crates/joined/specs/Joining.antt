-- What internets over the same cables are together.
use Rattle.std.specs.Prelude.{ℕ, ◌+◌, Bool, true, false, ◌&&◌, ◌||◌, ◌==◌, List, [], ◌∷◌, ◌++◌, length, nat_lt}
use Rattle.at_base.specs.Limits.{max_nodes, max_routers}
use Rattle.at_base.specs.Text.{same_bytes}
use Rattle.table_image.specs.Internet.{Internet, internet}
use Rattle.table_image.specs.declared.cable.Cable.{Cable}
use Rattle.table_image.specs.declared.version.Version.{Version}
use Rattle.table_image.specs.declared.version.Version.TheVariants.{V1, V2}

-- the version that can hold both
abbrev pub greater : Version → Version → Version
greater V1 v = v
greater V2 v = V2

-- the names are the same ones, byte for byte, in the same order
abbrev pub same_names : List (List ℕ) → List (List ℕ) → Bool
same_names [] [] = true
same_names [] (y ∷ ys) = false
same_names (x ∷ xs) [] = false
same_names (x ∷ xs) (y ∷ ys) = same_bytes x y && same_names xs ys

-- the cables have the same range and the same zones
abbrev pub same_cable : Cable → Cable → Bool
same_cable a b = (a.start == b.start) && (a.end == b.end) && same_names a.zones b.zones

-- the cables are the same ones, in the same order
abbrev pub same_cables : List Cable → List Cable → Bool
same_cables [] [] = true
same_cables [] (y ∷ ys) = false
same_cables (x ∷ xs) [] = false
same_cables (x ∷ xs) (y ∷ ys) = same_cable x y && same_cables xs ys

-- the internets have the same cables, in the same order
abbrev pub have_same_cables : Internet → Internet → Bool
have_same_cables one other = same_cables one.cables other.cables

-- the internets have more routers together than an image may have, or more nodes
abbrev pub are_too_many : Internet → Internet → Bool
are_too_many one other =
    nat_lt max_routers (length one.routers + length other.routers) || nat_lt max_nodes (length one.nodes + length other.nodes)

-- the routers and the nodes of both, over the cables of the first
abbrev pub joined : Internet → Internet → Internet
joined one other =
    internet (greater one.version other.version) one.cables (one.routers ++ other.routers) (one.nodes ++ other.nodes)
