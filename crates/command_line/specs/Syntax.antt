-- The commands of the program, with their operands and options.
use Rattle.std.specs.Prelude.{true, Some, codes}
use Rattle.clap.specs.Walk.{Rule}
use Rattle.clap.specs.Words.{App, Text, new_app, new_rule, with_rule, with_subcommand}
use Rattle.clap.specs.declared.builder.ArgAction.TheVariants.{Append, Set, SetTrue}

-- A required operand.
abbrev pub operand : Text → Rule
operand name = record (new_rule name) { required = true; action = Some Set }

-- An operand that is given once or more.
abbrev pub operands : Text → Rule
operands name = record (new_rule name) { required = true; action = Some Append }

-- The option `--explain WHEN`.
abbrev pub explain_option : Rule
explain_option = record (new_rule (codes "WHEN")) { long = Some (codes "explain"); action = Some Set }

-- The flag `--quiet`, or `-q`.
abbrev pub quiet_flag : Rule
quiet_flag = record (new_rule (codes "QUIET")) { long = Some (codes "quiet"); short = Some 113; action = Some SetTrue }

-- The command, with `--explain WHEN`.
abbrev pub with_explain : App → App
with_explain app = with_rule app explain_option

-- The flag `--json`.
abbrev pub json_flag : Rule
json_flag = record (new_rule (codes "JSON")) { long = Some (codes "json"); action = Some SetTrue }

-- The command, with `--explain WHEN` and `--quiet`.
abbrev pub with_quiet : App → App
with_quiet app = with_rule (with_explain app) quiet_flag

-- The command, with `--explain WHEN`, `--quiet` and `--json`.
abbrev pub with_telling : App → App
with_telling app = with_rule (with_quiet app) json_flag

-- The flag `--settled`.
abbrev pub settled_flag : Rule
settled_flag = record (new_rule (codes "SETTLED")) { long = Some (codes "settled"); action = Some SetTrue }

-- The command, with `--explain WHEN`, `--quiet`, `--json` and `--settled`.
abbrev pub with_settled : App → App
with_settled app = with_rule (with_telling app) settled_flag

-- The command `audit FILE..`.
abbrev pub audit_app : App
audit_app = with_settled (with_rule (new_app (codes "audit")) (operands (codes "FILE")))

-- The program `atalk`, without its commands.
abbrev pub bare_app : App
bare_app = let app = new_app (codes "atalk") in record app { top = record app.top { has_version = true } }

-- The option `--capture OUT`.
abbrev pub capture_option : Rule
capture_option = record (new_rule (codes "CAPTURE")) { long = Some (codes "capture"); action = Some Set }

-- The command `trace IMAGE SCRIPT`, with `--capture OUT`.
abbrev pub trace_app : App
trace_app = with_telling (with_rule
    (with_rule (with_rule (new_app (codes "trace")) (operand (codes "IMAGE"))) (operand (codes "SCRIPT"))) capture_option)

-- The option `--image OUT`.
abbrev pub out_option : Rule
out_option = record (new_rule (codes "OUT")) { long = Some (codes "image"); action = Some Set }

-- The option `--v2`.
abbrev pub v2_flag : Rule
v2_flag = record (new_rule (codes "V2")) { long = Some (codes "v2"); action = Some SetTrue }

-- The command `play FILE`, with `--image OUT` and `--v2`.
abbrev pub tables_play_app : App
tables_play_app = with_rule (with_rule (with_rule (new_app (codes "play")) (operand (codes "FILE"))) out_option) v2_flag

-- The same with `--capture OUT`.
abbrev pub play_app : App
play_app = with_settled (with_rule tables_play_app capture_option)

-- The command `make FILE`, with `--image OUT`.
abbrev pub make_app : App
make_app = with_settled (with_rule (with_rule (new_app (codes "make")) (operand (codes "FILE"))) out_option)

-- The command `show IMAGE`.
abbrev pub show_app : App
show_app = with_explain (with_rule (new_app (codes "show")) (operand (codes "IMAGE")))

-- The option `--to NET`.
abbrev pub to_option : Rule
to_option = record (new_rule (codes "NET")) { long = Some (codes "to"); action = Some Set }

-- The command `draw IMAGE`, with `--to NET`.
abbrev pub draw_app : App
draw_app = with_explain (with_rule (with_rule (new_app (codes "draw")) (operand (codes "IMAGE"))) to_option)

-- The required option `--image OUT`.
abbrev pub required_out : Rule
required_out = record (operand (codes "OUT")) { long = Some (codes "image") }

-- The operand FILE, given once or more, which help calls IMAGE.
abbrev pub parts_operand : Rule
parts_operand = record (operands (codes "FILE")) { value_names = 1 }

-- The command `join IMAGE.. --image OUT`.
abbrev pub join_app : App
join_app = with_settled (with_rule (with_rule (new_app (codes "join")) parts_operand) required_out)

-- The required option `--router N`.
abbrev pub router_option : Rule
router_option = record (operand (codes "N")) { long = Some (codes "router") }

-- The option `--cable K=NAME`, which may be given more than once.
abbrev pub cable_option : Rule
cable_option = record (new_rule (codes "K=NAME")) { long = Some (codes "cable"); action = Some Append }

-- The option `--every TICKS`.
abbrev pub every_option : Rule
every_option = record (new_rule (codes "TICKS")) { long = Some (codes "every"); action = Some Set }

-- The flag `--log`.
abbrev pub log_flag : Rule
log_flag = record (new_rule (codes "LOG")) { long = Some (codes "log"); action = Some SetTrue }

-- The command `route FILE --router N`, with `--cable K=NAME`.
abbrev pub cabled_app : App
cabled_app = with_rule (with_rule (with_rule (new_app (codes "route")) (operand (codes "FILE"))) router_option) cable_option

-- The same with `--image OUT`, `--every TICKS` and `--log`.
abbrev pub route_app : App
route_app = with_explain (with_rule (with_rule (with_rule cabled_app out_option) every_option) log_flag)

-- The required option `--cable NAME`.
abbrev pub name_option : Rule
name_option = record (operand (codes "NAME")) { long = Some (codes "cable") }

-- The required option `--hardware HEX`.
abbrev pub hardware_option : Rule
hardware_option = record (operand (codes "HEX")) { long = Some (codes "hardware") }

-- The command of this name, with `--cable NAME` and `--hardware HEX`.
abbrev pub station_app : Text → App
station_app name = with_rule (with_rule (new_app name) name_option) hardware_option

-- The command `survey --cable NAME --hardware HEX`, with `--log`.
abbrev pub survey_app : App
survey_app = with_explain (with_rule (station_app (codes "survey")) log_flag)

-- The flag with a name, which an option sets.
abbrev pub flag : Text → Text → Rule
flag name long = record (new_rule name) { long = Some long; action = Some SetTrue }

-- The option `--count COUNT`.
abbrev pub count_option : Rule
count_option = record (new_rule (codes "COUNT")) { long = Some (codes "count"); action = Some Set }

-- The command `ask QUESTION.. --cable NAME --hardware HEX`.
abbrev pub asking_app : App
asking_app = with_rule (station_app (codes "ask")) (operands (codes "QUESTION"))

-- The same with `--local`, `--mine` and `--count COUNT`.
abbrev pub ask_app : App
ask_app = with_telling (with_rule
    (with_rule (with_rule asking_app (flag (codes "LOCAL") (codes "local"))) (flag (codes "MINE") (codes "mine"))) count_option)

-- The program `atalk`, with its commands for images.
abbrev pub images_app : App
images_app = with_subcommand (with_subcommand bare_app audit_app.top) trace_app.top

-- The program `atalk`, with its commands for images and for internet files.
abbrev pub plays_app : App
plays_app = with_subcommand images_app play_app.top

-- The program `atalk`, with its commands for images, for internet files and for tables files.
abbrev pub tables_app : App
tables_app = with_subcommand (with_subcommand (with_subcommand plays_app make_app.top) show_app.top) draw_app.top

-- The program `atalk`, with its commands but those that ask.
abbrev pub cables_app : App
cables_app = with_subcommand (with_subcommand tables_app join_app.top) route_app.top

-- The program `atalk`, with its commands.
abbrev pub atalk_app : App
atalk_app = with_subcommand (with_subcommand cables_app survey_app.top) ask_app.top
