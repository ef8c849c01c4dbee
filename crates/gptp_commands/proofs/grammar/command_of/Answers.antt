use Rattle.std.proofs.Common.{◌∙◌, ◌||◌, ap₂, sym}
use Rattle.clap.specs.Words.{App, Rule, with_rule}
use Rattle.gptp_commands.proofs.TableLemmas.{fold_more_of}
use Rattle.gptp_commands.specs.Table.{shown_argument}
use Rattle.gptp_commands.proofs.grammar.command_of.Goals as goal

pub loop-argument-preserved : goal.loop-argument-preserved
loop-argument-preserved c =
    let adds = c.in_ok-command.ensures in (
      adds.shape c.arg_of.ensures.local
          ∙ ap₂ (λ (app : App) (rule : Rule). with_rule app rule) c.loop-argument.invariant.0 c.arg_of.ensures.rule
          ∙ sym (fold_more_of _ shown_argument _ c.args.row.now.2.now c.loop-argument.argument-index _
          c.loop-argument-test.true),
      adds.globals ∙ ap₂ (λ old more. old || more) c.loop-argument.invariant.1 c.arg_of.ensures.local,
    )
