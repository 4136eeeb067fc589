-- The program's command line, and what it asks for.
use Rattle.std.specs.Prelude.{◌≡◌, ◌↔◌, ℕ, pos, ◌-◌, ◌^◌, List, Option, Some, None, Ok, codes, true}
use Rattle.std.specs.Prelude.{[], ◌∷◌, ◌++◌, map, unwrap_or, string_bytes}
use Rattle.std.specs.Option.{option_map}
use Rattle.std.specs.Prelude.{IsSomeAnd, IsTrue, MatchOption}
use Rattle.std.specs.Str.Parse.{ParsesUnsigned}
use Rattle.std.specs.declared.num.ParseIntError.{ParseIntError}
use Rattle.clap.specs.Words.{App, Row, Rule, Text, all_of, first_of, new_app, new_rule}
use Rattle.clap.specs.Words.{subcommand_of}
use Rattle.clap.specs.Words.{with_rule, with_subcommand}
use Rattle.clap.specs.declared.builder.ArgAction.TheVariants.{Append, Set, SetTrue}
use Rattle.clap.specs.declared.builder.ValueParser.TheVariants as parsers
use Rattle.recovery.specs.declared.editing.Edit.{Edit}
use Rattle.boost.specs.declared.arguments.Invocation.{Invocation}
use Rattle.boost.specs.declared.arguments.Task.{Task}
use Rattle.boost.specs.Sizes.{IsSizeOf}

-- ---- what can be written

-- an argument that has to stand on the command line
abbrev pub path_rule : Text → Rule
path_rule id = record (new_rule id) { required = true; action = Some Set }

abbrev pub area_rule : Rule
area_rule = record (new_rule (codes "area")) {
  long = Some (codes "area");
  value_names = 1;
  required = true;
  action = Some Set;
}

-- the same of a copy, where it may be left out
abbrev pub copy_area_rule : Rule
copy_area_rule = record (new_rule (codes "area")) {
  long = Some (codes "area");
  value_names = 1;
  action = Some Set;
}

-- a collection that a copy leaves out, as often as it is written
abbrev pub without_rule : Rule
without_rule = record (new_rule (codes "without")) {
  long = Some (codes "without");
  value_names = 1;
  action = Some Append;
}

-- two names, as often as they are written
abbrev pub rename_rule : Rule
rename_rule = record (new_rule (codes "rename")) {
  long = Some (codes "rename");
  value_names = 2;
  action = Some Append;
}

-- a flag, which is written with its name
abbrev pub flag_rule : Text → Rule
flag_rule name = record (new_rule name) { long = Some name; action = Some SetTrue }

-- an argument that may be left out
abbrev pub folder_rule : Rule
folder_rule = record (new_rule (codes "FOLDER")) { action = Some Set }

-- a number from 1 on, which may be left out
abbrev pub idle_rule : Rule
idle_rule = record (new_rule (codes "idle")) {
  long = Some (codes "idle");
  value_names = 1;
  action = Some Set;
  parser = Some (parsers.Unsigned 1 (2 ^ 64 - 1));
}

-- the number of a format, which may be left out
abbrev pub version_rule : Rule
version_rule = record (new_rule (codes "format")) {
  long = Some (codes "format");
  value_names = 1;
  action = Some Set;
  parser = Some (parsers.Signed (pos 0) (pos 255));
}

-- a command on a disk alone
abbrev pub disk_app : Text → App
disk_app name = with_rule (new_app name) (path_rule (codes "DISK"))

abbrev pub format_app : App
format_app =
    let sized = with_rule (with_rule (disk_app (codes "format")) area_rule) version_rule in
    let kept = with_rule sized (flag_rule (codes "reserve")) in
    let shared = with_rule kept (flag_rule (codes "group")) in
    with_rule shared (flag_rule (codes "force"))

-- a command on a disk with a flag
abbrev pub flagged_app : (name flag : Text) → App
flagged_app name flag = with_rule (disk_app name) (flag_rule flag)

-- a command on a disk that runs a script
abbrev pub script_app : Text → App
script_app name = with_rule (disk_app name) (path_rule (codes "SCRIPT"))

abbrev pub play_app : App
play_app = script_app (codes "play")

abbrev pub serve_app : App
serve_app = with_rule (script_app (codes "serve")) (flag_rule (codes "why"))

abbrev pub listen_app : App
listen_app =
    let timed = with_rule (with_rule (disk_app (codes "listen")) folder_rule) idle_rule in
    with_rule (with_rule timed (flag_rule (codes "shell"))) (flag_rule (codes "log"))

abbrev pub show_app : App
show_app = flagged_app (codes "show") (codes "read-only")

abbrev pub check_app : App
check_app = disk_app (codes "check")

abbrev pub stat_app : App
stat_app = flagged_app (codes "stat") (codes "json")

abbrev pub copy_app : App
copy_app =
    let files = with_rule (with_rule (new_app (codes "copy")) (path_rule (codes "OLD")))
    (path_rule (codes "NEW")) in
    let kept = with_rule (with_rule files copy_area_rule) (flag_rule (codes "group")) in
    with_rule (with_rule kept without_rule) rename_rule

abbrev pub upgrade_app : App
upgrade_app = disk_app (codes "upgrade")

abbrev pub lint_app : App
lint_app = with_rule (new_app (codes "lint")) (path_rule (codes "SCRIPT"))

abbrev pub demo_app : App
demo_app = new_app (codes "demo")

abbrev pub bare_app : App
bare_app = let a = new_app (codes "boost") in
    record a { top = record a.top { has_version = true; subcommand_required = true } }

-- the commands that make a store and run its clients
abbrev pub running_app : App → App
running_app app =
    let made = with_subcommand (with_subcommand app format_app.top) play_app.top in
    with_subcommand (with_subcommand made serve_app.top) listen_app.top

-- those that tell of a store
abbrev pub looking_app : App → App
looking_app app =
    with_subcommand (with_subcommand (with_subcommand app show_app.top) check_app.top) stat_app.top

-- those that bring a store elsewhere, and the one that reads a script
abbrev pub changing_app : App → App
changing_app app =
    with_subcommand (with_subcommand (with_subcommand app copy_app.top) upgrade_app.top)
    lint_app.top

-- the program with its commands, in the order in which help shows them
abbrev pub program_app : App
program_app =
    with_subcommand (changing_app (looking_app (running_app bare_app))) demo_app.top

-- ---- what is asked for

-- the text is a number, read so
pub record IsNumberOf (n : ℕ) (text : Text) : Type 0 where
  pub parsed : ParsesUnsigned {E = ParseIntError} 64 10 text (Ok n)

-- the flag stands on the command line
abbrev pub IsGiven : Text → List Row → Type 0
IsGiven flag rows = first_of flag rows ≡ Some (codes "true")

-- the number stands there, or none does and none is asked for
abbrev pub IsIdle : Option ℕ → List Row → Type 0
IsIdle (Some n) rows = IsSomeAnd (first_of (codes "idle") rows) (IsNumberOf n)
IsIdle None rows = first_of (codes "idle") rows ≡ None

-- the size stands there, or none does and none is asked for
abbrev pub IsArea : Option ℕ → List Row → Type 0
IsArea (Some n) rows = IsSomeAnd (first_of (codes "area") rows) (IsSizeOf n)
IsArea None rows = first_of (codes "area") rows ≡ None

-- the values of an argument that may be written several times
abbrev pub values_of : Text → List Row → List Text
values_of id rows = unwrap_or (all_of id rows) []

-- the first of each two is renamed to the second
abbrev pub renames : List Text → List Edit
renames (from ∷ to ∷ more) = Edit.Rename from to ∷ renames more
renames less = []

-- what is left out, and then what is renamed, each in the order of the command line
abbrev pub edits_asked : List Row → List Edit
edits_asked rows = map Edit.Without (values_of (codes "without") rows) ++
    renames (values_of (codes "rename") rows)

-- the number of a format stands there, or none does and the first one is asked for
abbrev pub IsVersion : ℕ → List Row → Type 0
IsVersion version rows = MatchOption (first_of (codes "format") rows) (version ≡ 1)
    (λ text. ParsesUnsigned {E = ParseIntError} 8 10 text (Ok version))

-- the path stands under its name
abbrev pub IsPath : Text → Text → List Row → Type 0
IsPath name path rows = first_of name rows ≡ Some path

-- the arguments are the paths of a disk and of a script
abbrev pub ArePaths : (disk script : Text) → List Row → Type 0
ArePaths disk script rows = IsPath (codes "DISK") disk rows × IsPath (codes "SCRIPT") script rows

-- the subcommand that was found, with its arguments
abbrev pub AsksTask : Task → Text × List Row → Type 0
AsksTask (Task.Format disk area version reserve group force) found =
    (found.0 ≡ codes "format") ×
    IsPath (codes "DISK") (string_bytes disk) found.1 ×
    IsSomeAnd (first_of (codes "area") found.1) (IsSizeOf area) ×
    IsVersion version found.1 ×
    (IsTrue reserve ↔ IsGiven (codes "reserve") found.1) ×
    (IsTrue group ↔ IsGiven (codes "group") found.1) ×
    (IsTrue force ↔ IsGiven (codes "force") found.1)
AsksTask (Task.Play disk script) found = (found.0 ≡ codes "play") ×
    ArePaths (string_bytes disk) (string_bytes script) found.1
AsksTask (Task.Show disk read_only) found = (found.0 ≡ codes "show") ×
    IsPath (codes "DISK") (string_bytes disk) found.1 ×
    (IsTrue read_only ↔ IsGiven (codes "read-only") found.1)
AsksTask (Task.Check disk) found = (found.0 ≡ codes "check") ×
    IsPath (codes "DISK") (string_bytes disk) found.1
AsksTask (Task.Stat disk json) found = (found.0 ≡ codes "stat") ×
    IsPath (codes "DISK") (string_bytes disk) found.1 ×
    (IsTrue json ↔ IsGiven (codes "json") found.1)
AsksTask (Task.Upgrade disk) found = (found.0 ≡ codes "upgrade") ×
    IsPath (codes "DISK") (string_bytes disk) found.1
AsksTask Task.Demo found = found.0 ≡ codes "demo"

abbrev pub Asks : Invocation → Text × List Row → Type 0
Asks (Invocation.Run task) found = AsksTask task found
Asks (Invocation.Copy old new area group edits) found = (found.0 ≡ codes "copy") ×
    IsPath (codes "OLD") (string_bytes old) found.1 ×
    IsPath (codes "NEW") (string_bytes new) found.1 ×
    IsArea area found.1 ×
    (IsTrue group ↔ IsGiven (codes "group") found.1) ×
    (edits.items ≡ edits_asked found.1)
Asks (Invocation.Lint script) found = (found.0 ≡ codes "lint") ×
    IsPath (codes "SCRIPT") (string_bytes script) found.1
Asks (Invocation.Serve disk script why) found = (found.0 ≡ codes "serve") ×
    ArePaths (string_bytes disk) (string_bytes script) found.1 ×
    (IsTrue why ↔ IsGiven (codes "why") found.1)
Asks (Invocation.Listen disk folder idle shell log) found = (found.0 ≡ codes "listen") ×
    IsPath (codes "DISK") (string_bytes disk) found.1 ×
    (first_of (codes "FOLDER") found.1 ≡ option_map string_bytes folder) ×
    IsIdle idle found.1 × (IsTrue shell ↔ IsGiven (codes "shell") found.1) ×
    (IsTrue log ↔ IsGiven (codes "log") found.1)

-- The words ask for this: clap finds the command in them, with its paths and number.
abbrev pub IsAskedBy : Invocation → List Text → Type 0
IsAskedBy command words = IsSomeAnd (subcommand_of program_app words) (Asks command)
