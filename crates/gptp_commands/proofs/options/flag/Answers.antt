use Rattle.std.proofs.Common.{◌∙◌, ap}
use Rattle.clap.specs.Words.{found_of, one_text}
use Rattle.clap.proofs.WalkLemmas.{one_text-rows}
use Rattle.gptp_commands.specs.Options.{is_set}
use Rattle.gptp_commands.proofs.OptionLemmas.{flag_read}
use Rattle.gptp_commands.proofs.options.flag.Goals as goal

pub returns : goal.returns
returns c =
    let found = found_of c.args.matches.now in let name = c.args.row.now.0.now in
    c.unwrap_or.ensures
    ∙ flag_read _ (one_text found name) c.get_one.result c.get_one.ensures.none c.get_one.ensures.value
    ∙ ap is_set (one_text-rows found name)
