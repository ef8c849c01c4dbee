-- What the parser is told, by the table of commands.
use Rattle.std.specs.Prelude.{List, Some, true, codes, fold, map}
use Rattle.std.specs.Borrow.{Bor}
use Rattle.clap.specs.Words.{App, Rule, Text, new_app, new_rule, with_rule, with_subcommand}
use Rattle.clap.specs.Simple.{on_top}
use Rattle.clap.specs.declared.builder.action.ArgAction.TheVariants.{Set, SetTrue}
use Rattle.clap.specs.declared.builder.value_parser.ValueParser.TheVariants.{Unsigned}
use Rattle.gptp_commands.specs.declared.table.Form.{Form}
use Rattle.gptp_commands.specs.declared.table.Form.TheVariants as form
use Rattle.gptp_commands.specs.declared.table.rows.TheConstants.{COMMANDS}

-- an argument, without what help says of it: its name, its form, and its default if it has one
abbrev pub Argument : Type 0
Argument = Text × Form × List Text

-- a command: its name and its arguments
abbrev pub CommandEntry : Type 0
CommandEntry = Text × List Argument

-- an argument as the code is passed it in a row, with what help says of it
abbrev pub PassedRow : Type 0
PassedRow = Bor Text × (Form × Bor (List (Bor Text)) × Bor Text) × Bor Text

abbrev pub shown_argument : PassedRow → Argument
shown_argument row = (row.0.now, row.1.0, map (λ text. text.now) row.1.1.now)

abbrev pub shown_command : Bor Text × Bor Text × Bor (List PassedRow) → CommandEntry
shown_command row = (row.0.now, map shown_argument row.2.now)

-- a text as a constant of the code has it
abbrev pub TextConstant : Type 0
TextConstant = record { now : Text }

abbrev pub RowConstant : Type 0
RowConstant = TextConstant × (Form × record { now : List TextConstant } × TextConstant) × TextConstant

abbrev pub the : RowConstant → Argument
the row = (row.0.now, row.1.0, map (λ text. text.now) row.1.1.now)

abbrev pub command_entry : TextConstant × TextConstant × record { now : List RowConstant } → CommandEntry
command_entry row = (row.0.now, map the row.2.now)

-- what the parser is told of an argument
abbrev pub rule_by : Text → List Text → Form → Rule
rule_by name defaults form.Flag = record (new_rule name) { long = Some name; action = Some SetTrue }
rule_by name defaults (form.Number least most) = record (new_rule name) {
  long = Some name;
  action = Some Set;
  value_names = 1;
  defaults = defaults;
  parser = Some (Unsigned least most);
}
rule_by name defaults form.Word =
    record (new_rule name) { long = Some name; action = Some Set; value_names = 1 }
rule_by name defaults form.Place =
    record (new_rule name) { action = Some Set; value_names = 1; required = true }

abbrev pub rule_of_row : Argument → Rule
rule_of_row row = rule_by row.0 row.2 row.1

-- of a command
abbrev pub app_of_row : CommandEntry → App
app_of_row row = fold (λ app argument. with_rule app (rule_of_row argument)) (new_app row.0) row.1

-- of the program with its commands, of which one has to be named
abbrev pub program : List CommandEntry → App
program rows =
    fold (λ app row. with_subcommand app (app_of_row row).top)
    (on_top (λ top. record top { subcommand_required = true }) (new_app (codes "gptp_sim"))) rows

abbrev pub commands : List CommandEntry
commands = map command_entry COMMANDS.now

abbrev pub gptp_sim : App
gptp_sim = program commands
