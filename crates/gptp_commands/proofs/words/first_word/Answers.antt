use Rattle.std.proofs.Common.{◌≡◌, [], arith}
use Rattle.std.proofs.lemmas.List.{nil_from_length}
use Rattle.std.proofs.lemmas.Bool.Decides.{nat_tests}
use Rattle.gptp_commands.proofs.WordsLemmas.{words_absent, words_found}
use Rattle.gptp_commands.proofs.words.first_word.Goals as goal

pub returns-then-is_empty-clause-absent : goal.returns-then-is_empty-clause-absent
returns-then-is_empty-clause-absent c =
    let none : c.split_at.result.1.now ≡ [] = nil_from_length c.split_at.result.1.now (grind (arith, nat_tests)) in
    words_absent c.args.text.now (cc)

pub returns-clause-found : goal.returns-clause-found
returns-clause-found c =
    words_found c.args.text.now c.split_at.result.1.now c.split_at-2.result.0.now c.split_at-2.result.1.now (cc)
    (grind (arith, nat_tests)) (cc) (cc)
