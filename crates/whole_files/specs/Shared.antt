-- Which files of a command are one.
use Rattle.std.specs.Prelude.{◌==◌, ◌&&◌, Bool, true, false, not, List, [], ◌∷◌}
use Rattle.std.specs.List.{list_all}
use Rattle.std.specs.Str.{bytes_eq}
use Rattle.whole_files.specs.declared.shared.Identity.{Identity}
use Rattle.whole_files.specs.declared.shared.Identity.TheVariants.{Existing, New}
use Rattle.whole_files.specs.declared.shared.Named.{Named}

-- Two files are one if they have one device and one inode, or, where neither is there yet, one path.
abbrev pub is_same : Identity → Identity → Bool
is_same (Existing first) (Existing second) = (first.device == second.device) && (first.inode == second.inode)
is_same (New first) (New second) = bytes_eq first.now second.now
is_same first second = false

-- The files are two.
abbrev pub is_other : Named → Named → Bool
is_other first second = not (is_same first.identity second.identity)

-- No output is a later output, or an input.
abbrev pub are_apart : List Named → List Named → Bool
are_apart [] inputs = true
are_apart (output ∷ outputs) inputs =
    list_all (is_other output) outputs && (list_all (is_other output) inputs && are_apart outputs inputs)
