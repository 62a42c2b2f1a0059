-- What the command line asks for, by the matches of its parse.
use Rattle.std.specs.Prelude.{◌≡◌, ◌≢◌, ◌⊎◌, Bool, false, List, [], ◌∷◌, Option, Some, None, codes, map, option_map, unwrap_or}
use Rattle.std.specs.Prelude.{cond, drop, if◌then◌else◌}
use Rattle.std.specs.Borrow.{Bor}
use Rattle.std.specs.Str.{bytes_eq}
use Rattle.clap.specs.Words.{Row, Text, all_of, first_of}
use Rattle.command_line.specs.declared.arguments.Job.{Job}
use Rattle.command_line.specs.declared.arguments.Job.TheVariants.{Ask, Audit, Draw, Join, Make, Play, Route, Show, Survey, Trace}
use Rattle.command_line.specs.declared.arguments.Request.{Request}
use Rattle.command_line.specs.declared.arguments.Source.{Source}
use Rattle.command_line.specs.declared.arguments.Station.{Station}
use Rattle.command_line.specs.declared.arguments.Source.TheVariants.{StandardInput, File}
use Rattle.clap.specs.declared.error.ErrorKind.{ErrorKind}
use Rattle.clap.specs.declared.error.ErrorKind.TheVariants.{DisplayHelp, DisplayVersion}
use Rattle.table_image.specs.declared.version.Version.{Version as ImageVersion}
use Rattle.table_image.specs.declared.version.Version.TheVariants.{V2}

-- The source of a text: standard input for `-` or without a text, and otherwise the file with that name.
abbrev pub Names : Option Text → Source → Type 0
Names text StandardInput = (text ≡ None) ⊎ (text ≡ Some (codes "-"))
Names text (File path) = (text ≡ Some path.now) × (path.now ≢ codes "-")

-- The job is an audit of the source in this text.
abbrev pub Audits : Option Text → Job → Type 0
Audits text (Audit source) = Names text source
Audits text _ = ⊥

-- The job is a trace of the image and the script in the first two texts, whose capture is written to the file in the third
-- text, if there is one.
abbrev pub Traces : Option Text → Option Text → Option Text → Job → Type 0
Traces image script capture (Trace i s c) =
    Names image i × Names script s × (option_map (λ path. path.now) c ≡ capture)
Traces image script capture _ = ⊥

-- Whether a flag with this value is given.
abbrev pub is_set : Option Text → Bool
is_set None = false
is_set (Some text) = bytes_eq text (codes "true")

-- The version that is asked for by this value of `--v2`: version 2 if it is given.
abbrev pub version_by : Option Text → Option ImageVersion
version_by value = if is_set value then Some V2 else None

-- The job is a play of the source in the first text, whose image is written to the file in the second text, if there is
-- one, and has this version, if one is asked for; its capture is written to the file in the third text, if there is one.
abbrev pub AsksForPlay : Option Text → Option Text → Option ImageVersion → Option Text → Job → Type 0
AsksForPlay file out version capture (Play source image asked c) =
    Names file source × (option_map (λ path. path.now) image ≡ out) × (asked ≡ version)
    × (option_map (λ path. path.now) c ≡ capture)
AsksForPlay file out version capture _ = ⊥

-- The job is to make an image of the source in the first text, which is written to the file in the second text, if there
-- is one.
abbrev pub Makes : Option Text → Option Text → Job → Type 0
Makes file out (Make source image) = Names file source × (option_map (λ path. path.now) image ≡ out)
Makes file out _ = ⊥

-- The job is to show the tables of the image in this text.
abbrev pub Shows : Option Text → Job → Type 0
Shows image (Show source) = Names image source
Shows image _ = ⊥

-- The job is to draw the image in the first text, with the ways to the network in the second text, if there is one.
abbrev pub Draws : Option Text → Option Text → Job → Type 0
Draws image net (Draw source to) = Names image source × (option_map (λ word. word.now) to ≡ net)
Draws image net _ = ⊥

-- The word in this text, and no letter without a text.
abbrev pub IsWord : Option Text → Text → Type 0
IsWord None word = word ≡ []
IsWord (Some text) word = word ≡ text

-- The job is to join images, of which the first is the source in the first text, into the file in the second text.
abbrev pub Joins : Option Text → Option Text → Job → Type 0
Joins image out (Join source path) = Names image source × IsWord out path.now
Joins image out _ = ⊥

-- The job is to be the router of the internet file in the first text that the word in the second text names; its image is
-- written to the file in the third text, if there is one, as often as the word in the fourth text says, if there is one;
-- its changes are told if the flag is given.
abbrev pub Routes : Option Text → Option Text → Option Text → Option Text → Bool → Job → Type 0
Routes file router out every log (Route it) =
    Names file it.source × IsWord router it.router.now × (option_map (λ path. path.now) it.image ≡ out)
    × (option_map (λ word. word.now) it.every ≡ every) × (it.log ≡ log)
Routes file router out every log _ = ⊥

-- The station is on the cable in the first text, with the hardware address in the second.
abbrev pub IsStation : Option Text → Option Text → Station → Type 0
IsStation cable hardware it = IsWord cable it.cable.now × IsWord hardware it.hardware.now

-- The job is a survey by this station, which tells of answers if the flag is given.
abbrev pub Surveys : Option Text → Option Text → Bool → Job → Type 0
Surveys cable hardware log (Survey it told) = IsStation cable hardware it × (told ≡ log)
Surveys cable hardware log _ = ⊥

-- The job is a question by this station, about its own cable's zones or zone if a flag is given, as often as the word in the
-- third text says, if there is one.
abbrev pub AsksOne : Option Text → Option Text → Bool → Bool → Option Text → Job → Type 0
AsksOne cable hardware local mine count (Ask it l m c) =
    IsStation cable hardware it × (l ≡ local) × (m ≡ mine) × (option_map (λ word. word.now) c ≡ count)
AsksOne cable hardware local mine count _ = ⊥

-- A command of the program.
pub data Asked : Type 0 where
  ToAudit : Asked
  ToTrace : Asked
  ToPlay : Asked
  ToMake : Asked
  ToShow : Asked
  ToDraw : Asked
  ToJoin : Asked
  ToRoute : Asked
  ToSurvey : Asked
  ToAsk : Asked

-- The command with this name: `audit` where it is none of the others.
abbrev pub asked : Text → Asked
asked name =
    cond (bytes_eq name (codes "trace")) ToTrace (cond (bytes_eq name (codes "play")) ToPlay
    (cond (bytes_eq name (codes "make")) ToMake (cond (bytes_eq name (codes "show")) ToShow
    (cond (bytes_eq name (codes "draw")) ToDraw (cond (bytes_eq name (codes "join")) ToJoin
    (cond (bytes_eq name (codes "route")) ToRoute (cond (bytes_eq name (codes "survey")) ToSurvey
    (cond (bytes_eq name (codes "ask")) ToAsk ToAudit))))))))

-- The job of a command with these operands.
abbrev pub IsMeantBy : Asked → List Row → Job → Type 0
IsMeantBy ToAudit rows job = Audits (first_of (codes "FILE") rows) job
IsMeantBy ToTrace rows job =
    Traces (first_of (codes "IMAGE") rows) (first_of (codes "SCRIPT") rows) (first_of (codes "CAPTURE") rows) job
IsMeantBy ToPlay rows job =
    AsksForPlay (first_of (codes "FILE") rows) (first_of (codes "OUT") rows) (version_by (first_of (codes "V2") rows))
    (first_of (codes "CAPTURE") rows) job
IsMeantBy ToMake rows job = Makes (first_of (codes "FILE") rows) (first_of (codes "OUT") rows) job
IsMeantBy ToShow rows job = Shows (first_of (codes "IMAGE") rows) job
IsMeantBy ToDraw rows job = Draws (first_of (codes "IMAGE") rows) (first_of (codes "NET") rows) job
IsMeantBy ToJoin rows job = Joins (first_of (codes "FILE") rows) (first_of (codes "OUT") rows) job
IsMeantBy ToRoute rows job =
    Routes (first_of (codes "FILE") rows) (first_of (codes "N") rows) (first_of (codes "OUT") rows) (first_of (codes "TICKS") rows)
    (is_set (first_of (codes "LOG") rows)) job
IsMeantBy ToSurvey rows job =
    Surveys (first_of (codes "NAME") rows) (first_of (codes "HEX") rows) (is_set (first_of (codes "LOG") rows)) job
IsMeantBy ToAsk rows job =
    AsksOne (first_of (codes "NAME") rows) (first_of (codes "HEX") rows) (is_set (first_of (codes "LOCAL") rows))
    (is_set (first_of (codes "MINE") rows)) (first_of (codes "COUNT") rows) job

-- The job of the command that was matched, with its operands; without a command, an audit of standard input.
abbrev pub IsMeant : Option (Text × List Row) → Job → Type 0
IsMeant None job = Audits None job
IsMeant (Some met) job = IsMeantBy (asked met.0) met.1 job

-- What is told, by the options of the command: the word of `--explain`, and whether `--quiet`, `--json` and `--settled`
-- are given.
abbrev pub IsTold : Option (Text × List Row) → Request → Type 0
IsTold None r = (r.explain ≡ None) × (r.quiet ≡ false) × (r.json ≡ false) × (r.settled ≡ false)
IsTold (Some met) r = (option_map (λ word. word.now) r.explain ≡ first_of (codes "WHEN") met.1)
    × (r.quiet ≡ is_set (first_of (codes "QUIET") met.1)) × (r.json ≡ is_set (first_of (codes "JSON") met.1))
    × (r.settled ≡ is_set (first_of (codes "SETTLED") met.1))

-- The source with this name.
abbrev pub source_for : Bor Text → Source
source_for name = cond (bytes_eq name.now (codes "-")) StandardInput (File name)

-- The sources of the texts, in their order.
abbrev pub AreNamed : List Text → List Source → Type 0
AreNamed [] [] = Unit {0}
AreNamed (text ∷ texts) (source ∷ sources) = Names (Some text) source × AreNamed texts sources
AreNamed [] (source ∷ sources) = ⊥
AreNamed (text ∷ texts) [] = ⊥

-- The texts after the first one.
abbrev pub later : Option (List Text) → List Text
later None = []
later (Some texts) = drop 1 texts

-- The sources after the first one that an operand FILE names.
abbrev pub IsFurther : Option (Text × List Row) → Request → Type 0
IsFurther None r = r.further.items ≡ []
IsFurther (Some met) r = AreNamed (later (all_of (codes "FILE") met.1)) r.further.items

-- The words of the options `--cable`, in their order.
abbrev pub AreCables : Option (Text × List Row) → Request → Type 0
AreCables None r = r.cables.items ≡ []
AreCables (Some met) r = map (λ word. word.now) r.cables.items ≡ unwrap_or (all_of (codes "K=NAME") met.1) []

-- The words of the operand QUESTION, in their order.
abbrev pub AreAsked : Option (Text × List Row) → Request → Type 0
AreAsked None r = r.question.items ≡ []
AreAsked (Some met) r = map (λ word. word.now) r.question.items ≡ unwrap_or (all_of (codes "QUESTION") met.1) []

-- The request for the job of the command that was matched, with what is told, with the further sources, with the words for
-- cables, and with those of a question.
abbrev pub IsRequest : Option (Text × List Row) → Request → Type 0
IsRequest met r = IsMeant met r.job × IsTold met r × IsFurther met r × AreCables met r × AreAsked met r

-- A flag that asks for a text about the program.
pub data About : Type 0 where
  Help : About
  ShortHelp : About
  Version : About
  ShortVersion : About

-- The word of such a flag.
abbrev pub about_word : About → Text
about_word Help = codes "--help"
about_word ShortHelp = codes "-h"
about_word Version = codes "--version"
about_word ShortVersion = codes "-V"

-- The kind of the error by which clap prints the text.
abbrev pub about_kind : About → ErrorKind
about_kind Help = DisplayHelp
about_kind ShortHelp = DisplayHelp
about_kind Version = DisplayVersion
about_kind ShortVersion = DisplayVersion
