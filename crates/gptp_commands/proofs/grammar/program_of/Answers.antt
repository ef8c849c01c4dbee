use Rattle.std.proofs.Common.{◌∙◌, ap₂, sym}
use Rattle.clap.specs.Words.{App, with_subcommand}
use Rattle.gptp_commands.proofs.TableLemmas.{fold_more_of}
use Rattle.gptp_commands.specs.Table.{shown_command}
use Rattle.gptp_commands.proofs.grammar.program_of.Goals as goal

pub loop-row-preserved : goal.loop-row-preserved
loop-row-preserved c =
    c.in_ok-command.ensures.shape c.in_ok-command_of.ensures.local
    ∙ ap₂ (λ (app sub : App). with_subcommand app sub.top) c.loop-row.invariant c.in_ok-command_of.ensures.app
    ∙ sym (fold_more_of _ shown_command _ c.args.rows.now c.loop-row.row-index _ c.loop-row-test.true)
