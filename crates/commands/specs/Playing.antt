-- What a play of an internet file is.
use Rattle.std.specs.Prelude.{ℕ, List, Option}
use Rattle.commands.specs.Streams.{IsTextOf}
use Rattle.internet_file.specs.Files.{IsFile}
use Rattle.playing.specs.Plays.{IsPlay}
use Rattle.playing.specs.declared.playing.Played.{Played}
use Rattle.table_image.specs.declared.version.Version.{Version}

-- The text of the input, where it is known, is a file, and this is the play of its plan.
abbrev pub IsPlayOf : Option Version → Option (List ℕ) → Played → Type 0
IsPlayOf version before p =
    (text : List ℕ) × IsTextOf before text × IsFile text p.world.plan × IsPlay version p.world.plan p
