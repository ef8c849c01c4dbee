use Rattle.std.proofs.Common.{append_assoc, ◌∙◌, ap, ◌++◌, ◌∷◌, []}
use Rattle.std.proofs.lemmas.Result.{on_ok_weaker}
use Rattle.gptp_explain.specs.Explained.{by_words}
use Rattle.gptp_explain.proofs.system_line.write_system.Goals as goal

-- what is written, word by word, is the line
pub returns : goal.returns
returns c =
    on_ok_weaker c.write_by.result (λ bytes. bytes
    ∙ ap (λ t. t ++ (by_words c.args.line.now.root c.args.own ++ 10 ∷ [])) c.in_ok-write.ensures.bytes
    ∙ simp (append_assoc, c.distance_word-word.ensures))
    c.write_by.ensures
