use Rattle.std.proofs.Common.{◌∙◌, ap, option_and_then, sym}
use Rattle.std.specs.Str.Parse.{ExplainsUnsignedError, HasUnsignedDigitsIfOk, ParsesUnsigned}
use Rattle.clap.specs.Words.{found_of, one_of, one_text, rows_of}
use Rattle.clap.proofs.WalkLemmas.{one_text-rows}
use Rattle.gptp_commands.specs.Options.{decimal_in_range}
use Rattle.gptp_commands.specs.declared.table.Form.TheVariants.{Number}
use Rattle.gptp_commands.proofs.OptionLemmas.{number_read}
use Rattle.gptp_commands.proofs.options.number.Goals as goal

pub returns-in-Number : goal.returns-in-Number
returns-in-Number c =
    let found = found_of c.args.matches.now in let name = c.args.row.now.0.now in
    let least = c.in-Number.least in let most = c.in-Number.most in
    let read = number_read
    (λ bs r. ParsesUnsigned 64 10 bs r × ExplainsUnsignedError 10 bs r × HasUnsignedDigitsIfOk bs r)
    least most (one_text found name) c.get_one.result (λ text r parsed. parsed.0) c.get_one.ensures.none
    c.get_one.ensures.value in
    c.number_within.ensures ∙ read
    ∙ ap (option_and_then (decimal_in_range (Number least most))) (one_text-rows found name)
    ∙ ap (λ form. option_and_then (decimal_in_range form) (one_of name (rows_of found))) (sym c.in-Number.is)
