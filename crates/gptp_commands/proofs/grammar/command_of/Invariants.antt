use Rattle.std.proofs.Common.{◌≡◌, false, map, take}
use Rattle.clap.specs.Words.{app_of}
use Rattle.clap.specs.declared.builder.command.Command.TheViews.{out-Command as fields_of}
use Rattle.gptp_commands.specs.Table.{app_of_row, shown_argument}
use Rattle.gptp_commands.proofs.grammar.command_of.Given as goal

abbrev pub invariant-loop-argument : goal.invariant-loop-argument
invariant-loop-argument l =
    (app_of l.command ≡ app_of_row (l.row.0.now, map shown_argument (take l.argument-index l.rows)))
    × ((fields_of l.command).has_globals ≡ false)
