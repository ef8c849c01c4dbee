use Rattle.std.proofs.Common.{◌≡◌, ◌∙◌, ◌<◌, Some, ap, codes, length, slice_get, string_bytes, sym, arith}
use Rattle.std.proofs.lemmas.Option.{slice_get-get_or}
use Rattle.std.proofs.lemmas.Slice.Eq.{bytes_eq-Decides}
use Rattle.gptp_commands.proofs.VersionLemmas.{one_word}
use Rattle.gptp_commands.proofs.version.is_version.Goals as goal

pub returns-in-len2-clause-asks : goal.returns-in-len2-clause-asks
returns-in-len2-clause-asks c = λ yes.
    let words = c.args.words.now in let word = c.word-item.result in
    let least = c.in-len2.len_at_least in let below = c.in-len2.len_below in
    let two : length words ≡ 2 = omega (arith, least, below) in
    let within : 1 < length words = omega (arith, least) in
    let there : slice_get words 1 ≡ Some word =
    slice_get-get_or words 1 word within ∙ ap (λ w. Some w) (sym c.word-item.is) in
    let text : string_bytes word ≡ codes "--version" =
    sym c.as_str.ensures.value
    ∙ (bytes_eq-Decides c.as_str.result.now (codes "--version")).0 (sym c.is_flag.ensures ∙ yes) in
    one_word string_bytes words word (codes "--version") two there text
