-- What a play is: the world at its end, the image of its tables, the verdict on it, and the printed lines.
use Rattle.std.specs.Prelude.{◌≡◌, ℕ, zero, suc, ◌+◌, List, [], ◌∷◌, ◌++◌, Option, Some, None, length}
use Rattle.audit.specs.Verdicts.{Judges, verdict_line}
use Rattle.audit.specs.declared.verdict.Verdict.{Verdict}
use Rattle.internet_file.specs.Files.{Planned}
use Rattle.playing.specs.Lines.{received_lines, refused_lines}
use Rattle.playing.specs.Lives.{HasLived}
use Rattle.playing.specs.declared.playing.Played.{Played}
use Rattle.table_image.specs.Internet.{Internet}
use Rattle.table_image.specs.declared.version.Version.{Version}
use Rattle.world.specs.Frozen.{frozen, frozen_as}
use Rattle.world.specs.Seen.{node_at, received_by}
use Rattle.world.specs.Worlds.{IsWorld, Worldly}

-- The lines of the datagrams that n nodes from `number` on received.
abbrev pub all_received : Worldly → ℕ → ℕ → List ℕ
all_received w number zero = []
all_received w number (suc n) = received_lines number (received_by (node_at w number)) ++ all_received w (number + 1) n

-- The printed lines of a world with this verdict: the actions that had an error, the datagrams that its nodes received,
-- and the verdict.
abbrev pub play_lines : Worldly → Verdict → List ℕ
play_lines w v = refused_lines w.refused ++ all_received w 1 (length w.plan.nodes) ++ verdict_line v ++ 10 ∷ []

-- The image of a world's tables in the version that is asked for, and in the first that can hold them if none is.
abbrev pub frozen_for : Option Version → Worldly → Internet
frozen_for None w = frozen w
frozen_for (Some version) w = frozen_as version w

-- The plan was carried out to its last tick: this is the world then, with the number of entries that each tick added, the
-- image of its tables, in the version that is asked for if one is, and the verdict on it.
pub record IsPlay (version : Option Version) (plan : Planned) (p : Played) : Type 0 where
  pub of : p.world.plan ≡ plan
  pub lived : HasLived p.world p.counts.items
  pub keeps : IsWorld p.world
  pub whole : p.world.now ≡ plan.ticks
  pub going : p.world.stopped ≡ None
  pub frozen : p.image ≡ frozen_for version p.world
  pub judged : Judges p.image p.verdict
