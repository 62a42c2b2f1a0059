-- The forms in which each job is asked for.
use Rattle.std.specs.Prelude.{◌≡◌, ◌==◌, Bool, true, false, not, List, [], ◌∷◌, Option, Some, None, codes}
use Rattle.clap.specs.Words.{Text}
use Rattle.command_line.specs.Arguments.{AsksForPlay, Audits, Draws, Joins, Makes, Routes, Shows, Traces}
use Rattle.command_line.specs.declared.arguments.Job.{Job}
use Rattle.table_image.specs.declared.version.Version.{Version as ImageVersion}
use Rattle.table_image.specs.declared.version.Version.TheVariants.{V2}

-- The argument is no flag: it has at most one byte, or doesn't begin with a dash.
abbrev pub is_operand : Text → Bool
is_operand [] = true
is_operand (b ∷ []) = true
is_operand (b ∷ c ∷ text) = not (b == 45)

-- Where `--v2` stands in a play: nowhere, before FILE, right after it, or at the end.
pub data Place : Type 0 where
  Nowhere : Place
  BeforeFile : Place
  AfterFile : Place
  AtEnd : Place

-- The version that is asked for by `--v2` in this place.
abbrev pub version_at : Place → Option ImageVersion
version_at Nowhere = None
version_at BeforeFile = Some V2
version_at AfterFile = Some V2
version_at AtEnd = Some V2

-- The words of a play of a file whose image isn't written: FILE, and `--v2` in its place.
abbrev pub play_words : Place → Text → List Text
play_words Nowhere file = file ∷ []
play_words BeforeFile file = codes "--v2" ∷ file ∷ []
play_words AfterFile file = file ∷ codes "--v2" ∷ []
play_words AtEnd file = file ∷ codes "--v2" ∷ []

-- The words of a play of a file whose image is written to a file: FILE, `--image OUT`, and `--v2` in its place.
abbrev pub play_to_words : Place → Text → Text → List Text
play_to_words Nowhere file out = file ∷ codes "--image" ∷ out ∷ []
play_to_words BeforeFile file out = codes "--v2" ∷ file ∷ codes "--image" ∷ out ∷ []
play_to_words AfterFile file out = file ∷ codes "--v2" ∷ codes "--image" ∷ out ∷ []
play_to_words AtEnd file out = file ∷ codes "--image" ∷ out ∷ codes "--v2" ∷ []

-- The words of a trace whose capture is written to a file.
abbrev pub trace_to_words : Text → Text → Text → List Text
trace_to_words image script out = image ∷ script ∷ codes "--capture" ∷ out ∷ []

-- The words of a play of a file whose capture is written to a file.
abbrev pub capture_words : Text → Text → List Text
capture_words file capture = file ∷ codes "--capture" ∷ capture ∷ []

-- The words of a play of a file whose image is written to a file, and whose capture to another.
abbrev pub capture_to_words : Text → Text → Text → List Text
capture_to_words file out capture = file ∷ codes "--image" ∷ out ∷ codes "--capture" ∷ capture ∷ []

-- The words of a joining of one image, and of two.
abbrev pub join_words : Text → Text → List Text
join_words image out = image ∷ codes "--image" ∷ out ∷ []

abbrev pub join_two_words : Text → Text → Text → List Text
join_two_words image other out = image ∷ other ∷ codes "--image" ∷ out ∷ []

-- The words of a router that writes no image, of one that writes it at its end, and of one that writes it now and then.
abbrev pub route_words : Text → Text → List Text
route_words file n = file ∷ codes "--router" ∷ n ∷ []

abbrev pub route_to_words : Text → Text → Text → List Text
route_to_words file n out = file ∷ codes "--router" ∷ n ∷ codes "--image" ∷ out ∷ []

abbrev pub route_every_words : Text → Text → Text → Text → List Text
route_every_words file n out ticks =
    file ∷ codes "--router" ∷ n ∷ codes "--image" ∷ out ∷ codes "--every" ∷ ticks ∷ []

-- What is written after the program's name to ask for a job, with its operands in their order.
pub data Form : Type 0 where
  -- `audit FILE`
  AuditForm : Text → Form
  -- `trace IMAGE SCRIPT`, and the same with `--capture OUT`
  TraceForm : Text → Text → Form
  TraceTo : Text → Text → Text → Form
  -- `play FILE`, and the same with `--image OUT`, with `--v2` in its place
  PlayForm : Place → Text → Form
  PlayTo : Place → Text → Text → Form
  -- `play FILE --capture CAPTURE`, and the same with `--image OUT` before it
  CaptureForm : Text → Text → Form
  CaptureTo : Text → Text → Text → Form
  -- `make FILE`, and the same with `--image OUT`
  MakeForm : Text → Form
  MakeTo : Text → Text → Form
  -- `show IMAGE`
  ShowForm : Text → Form
  -- `draw IMAGE`, and the same with `--to NET`
  DrawForm : Text → Form
  DrawTo : Text → Text → Form
  -- `join IMAGE --image OUT`, and the same with another image after the first one
  JoinForm : Text → Text → Form
  JoinTwo : Text → Text → Text → Form
  -- `route FILE --router N`, the same with `--image OUT`, and that with `--every TICKS`
  RouteForm : Text → Text → Form
  RouteTo : Text → Text → Text → Form
  RouteEvery : Text → Text → Text → Text → Form

-- The words of a form.
abbrev pub words_of : Form → List Text
words_of (AuditForm file) = codes "audit" ∷ file ∷ []
words_of (TraceForm image script) = codes "trace" ∷ image ∷ script ∷ []
words_of (TraceTo image script out) = codes "trace" ∷ trace_to_words image script out
words_of (PlayForm place file) = codes "play" ∷ play_words place file
words_of (PlayTo place file out) = codes "play" ∷ play_to_words place file out
words_of (CaptureForm file capture) = codes "play" ∷ capture_words file capture
words_of (CaptureTo file out capture) = codes "play" ∷ capture_to_words file out capture
words_of (MakeForm file) = codes "make" ∷ file ∷ []
words_of (MakeTo file out) = codes "make" ∷ file ∷ codes "--image" ∷ out ∷ []
words_of (ShowForm image) = codes "show" ∷ image ∷ []
words_of (DrawForm image) = codes "draw" ∷ image ∷ []
words_of (DrawTo image net) = codes "draw" ∷ image ∷ codes "--to" ∷ net ∷ []
words_of (JoinForm image out) = codes "join" ∷ join_words image out
words_of (JoinTwo image other out) = codes "join" ∷ join_two_words image other out
words_of (RouteForm file n) = codes "route" ∷ route_words file n
words_of (RouteTo file n out) = codes "route" ∷ route_to_words file n out
words_of (RouteEvery file n out ticks) = codes "route" ∷ route_every_words file n out ticks

-- The operands of a form.
abbrev pub operands_of : Form → List Text
operands_of (AuditForm file) = file ∷ []
operands_of (TraceForm image script) = image ∷ script ∷ []
operands_of (TraceTo image script out) = image ∷ script ∷ out ∷ []
operands_of (PlayForm place file) = file ∷ []
operands_of (PlayTo place file out) = file ∷ out ∷ []
operands_of (CaptureForm file capture) = file ∷ capture ∷ []
operands_of (CaptureTo file out capture) = file ∷ out ∷ capture ∷ []
operands_of (MakeForm file) = file ∷ []
operands_of (MakeTo file out) = file ∷ out ∷ []
operands_of (ShowForm image) = image ∷ []
operands_of (DrawForm image) = image ∷ []
operands_of (DrawTo image net) = image ∷ net ∷ []
operands_of (JoinForm image out) = image ∷ out ∷ []
operands_of (JoinTwo image other out) = image ∷ other ∷ out ∷ []
operands_of (RouteForm file n) = file ∷ n ∷ []
operands_of (RouteTo file n out) = file ∷ n ∷ out ∷ []
operands_of (RouteEvery file n out ticks) = file ∷ n ∷ out ∷ ticks ∷ []

-- None of the arguments is a flag.
abbrev pub AreOperands : List Text → Type 0
AreOperands [] = Unit {0}
AreOperands (text ∷ texts) = (is_operand text ≡ true) × AreOperands texts

-- The job is the one that a form asks for.
abbrev pub Asks : Form → Job → Type 0
Asks (AuditForm file) job = Audits (Some file) job
Asks (TraceForm image script) job = Traces (Some image) (Some script) None job
Asks (TraceTo image script out) job = Traces (Some image) (Some script) (Some out) job
Asks (PlayForm place file) job = AsksForPlay (Some file) None (version_at place) None job
Asks (PlayTo place file out) job = AsksForPlay (Some file) (Some out) (version_at place) None job
Asks (CaptureForm file capture) job = AsksForPlay (Some file) None None (Some capture) job
Asks (CaptureTo file out capture) job = AsksForPlay (Some file) (Some out) None (Some capture) job
Asks (MakeForm file) job = Makes (Some file) None job
Asks (MakeTo file out) job = Makes (Some file) (Some out) job
Asks (ShowForm image) job = Shows (Some image) job
Asks (DrawForm image) job = Draws (Some image) None job
Asks (DrawTo image net) job = Draws (Some image) (Some net) job
Asks (JoinForm image out) job = Joins (Some image) (Some out) job
Asks (JoinTwo image other out) job = Joins (Some image) (Some out) job
Asks (RouteForm file n) job = Routes (Some file) (Some n) None None false job
Asks (RouteTo file n out) job = Routes (Some file) (Some n) (Some out) None false job
Asks (RouteEvery file n out ticks) job = Routes (Some file) (Some n) (Some out) (Some ticks) false job
