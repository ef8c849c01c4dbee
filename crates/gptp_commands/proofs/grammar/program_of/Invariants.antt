use Rattle.std.proofs.Common.{◌≡◌, map, take}
use Rattle.clap.specs.Words.{app_of}
use Rattle.gptp_commands.specs.Table.{program, shown_command}
use Rattle.gptp_commands.proofs.grammar.program_of.Given as goal

abbrev pub invariant-loop-row : goal.invariant-loop-row
invariant-loop-row l = app_of l.command ≡ program (map shown_command (take l.row-index l.rows))
