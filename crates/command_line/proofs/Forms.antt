-- The parse of each form of arguments.
use Rattle.std.proofs.Common.{◌≡◌, ◌∷◌, [], true}
use Rattle.clap.specs.Words.{Text, fault_of, subcommand_of, takes}
use Rattle.command_line.specs.Arguments.{About, IsMeant, about_kind, about_word, Help, ShortHelp, Version, ShortVersion}
use Rattle.command_line.specs.Forms.{AreOperands, Asks, Form, operands_of, words_of, AuditForm, TraceForm, TraceTo, PlayForm}
use Rattle.command_line.specs.Forms.{PlayTo, CaptureForm, CaptureTo, MakeForm, MakeTo, ShowForm, DrawForm, DrawTo, JoinForm, JoinTwo, RouteForm, RouteTo, RouteEvery}
use Rattle.command_line.specs.Syntax.{atalk_app}
use Rattle.command_line.specs.declared.arguments.Job.{Job}
use Rattle.command_line.proofs.CommandLine.{help_asked, help_short_asked, version_asked, version_short_asked}
use Rattle.command_line.proofs.CommandLine.{audit_meant, audit_taken, trace_meant, trace_taken}
use Rattle.command_line.proofs.CaptureLine.{capture_meant, capture_taken, capture_to_meant, capture_to_taken, trace_to_meant}
use Rattle.command_line.proofs.CaptureLine.{trace_to_taken}
use Rattle.command_line.proofs.JoinLine.{join_meant, join_taken, join_two_meant, join_two_taken}
use Rattle.command_line.proofs.RouteLine.{route_every_meant, route_every_taken, route_meant, route_taken, route_to_meant}
use Rattle.command_line.proofs.RouteLine.{route_to_taken}
use Rattle.command_line.proofs.PlayLine.{play_meant, play_taken, play_to_meant, play_to_taken}
use Rattle.command_line.proofs.TablesLine.{draw_meant, draw_taken, draw_to_meant, draw_to_taken, make_meant, make_taken, make_to_meant}
use Rattle.command_line.proofs.TablesLine.{make_to_taken, show_meant, show_taken}

-- The job that is meant by the words of a form is the one that the form asks for.
pub form_meant : (form : Form) (name : Text) (job : Job) → AreOperands (operands_of form)
    → IsMeant (subcommand_of atalk_app (name ∷ words_of form)) job → Asks form job
form_meant (AuditForm file) name job (first, _) meant = audit_meant name file job first meant
form_meant (TraceForm image script) name job (first, (second, _)) meant = trace_meant name image script job first second meant
form_meant (TraceTo image script out) name job (first, (second, (third, _))) meant =
    trace_to_meant name image script out job first second third meant
form_meant (PlayForm place file) name job (first, _) meant = play_meant place name file job first meant
form_meant (PlayTo place file out) name job (first, (second, _)) meant = play_to_meant place name file out job first second meant
form_meant (CaptureForm file capture) name job (first, (second, _)) meant = capture_meant name file capture job first second meant
form_meant (CaptureTo file out capture) name job (first, (second, (third, _))) meant =
    capture_to_meant name file out capture job first second third meant
form_meant (MakeForm file) name job (first, _) meant = make_meant name file job first meant
form_meant (MakeTo file out) name job (first, (second, _)) meant = make_to_meant name file out job first second meant
form_meant (ShowForm image) name job (first, _) meant = show_meant name image job first meant
form_meant (DrawForm image) name job (first, _) meant = draw_meant name image job first meant
form_meant (DrawTo image net) name job (first, (second, _)) meant = draw_to_meant name image net job first second meant
form_meant (JoinForm image out) name job (first, (second, _)) meant = join_meant name image out job first second meant
form_meant (JoinTwo image other out) name job (first, (second, (third, _))) meant =
    join_two_meant name image other out job first second third meant
form_meant (RouteForm file n) name job (first, (second, _)) meant = route_meant name file n job first second meant
form_meant (RouteTo file n out) name job (first, (second, (third, _))) meant =
    route_to_meant name file n out job first second third meant
form_meant (RouteEvery file n out ticks) name job (first, (second, (third, (fourth, _)))) meant =
    route_every_meant name file n out ticks job first second third fourth meant

-- The words of a form are taken.
pub form_taken : (form : Form) (name : Text) → AreOperands (operands_of form) → takes atalk_app (name ∷ words_of form) ≡ true
form_taken (AuditForm file) name (first, _) = audit_taken name file first
form_taken (TraceForm image script) name (first, (second, _)) = trace_taken name image script first second
form_taken (TraceTo image script out) name (first, (second, (third, _))) = trace_to_taken name image script out first second third
form_taken (PlayForm place file) name (first, _) = play_taken place name file first
form_taken (PlayTo place file out) name (first, (second, _)) = play_to_taken place name file out first second
form_taken (CaptureForm file capture) name (first, (second, _)) = capture_taken name file capture first second
form_taken (CaptureTo file out capture) name (first, (second, (third, _))) = capture_to_taken name file out capture first second third
form_taken (MakeForm file) name (first, _) = make_taken name file first
form_taken (MakeTo file out) name (first, (second, _)) = make_to_taken name file out first second
form_taken (ShowForm image) name (first, _) = show_taken name image first
form_taken (DrawForm image) name (first, _) = draw_taken name image first
form_taken (DrawTo image net) name (first, (second, _)) = draw_to_taken name image net first second
form_taken (JoinForm image out) name (first, (second, _)) = join_taken name image out first second
form_taken (JoinTwo image other out) name (first, (second, (third, _))) = join_two_taken name image other out first second third
form_taken (RouteForm file n) name (first, (second, _)) = route_taken name file n first second
form_taken (RouteTo file n out) name (first, (second, (third, _))) = route_to_taken name file n out first second third
form_taken (RouteEvery file n out ticks) name (first, (second, (third, (fourth, _)))) =
    route_every_taken name file n out ticks first second third fourth

-- The only fault of a flag about the program is its own kind.
pub about_asked : (about : About) (name : Text) → fault_of atalk_app (name ∷ about_word about ∷ []) ≡ about_kind about ∷ []
about_asked Help name = help_asked name
about_asked ShortHelp name = help_short_asked name
about_asked Version name = version_asked name
about_asked ShortVersion name = version_short_asked name
