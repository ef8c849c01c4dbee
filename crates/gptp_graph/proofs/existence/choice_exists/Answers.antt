use Rattle.gptp_graph.proofs.ChoiceLemmas.{choice_exists, same_lines, same_choice}
use Rattle.gptp_graph.proofs.existence.choice_exists.Goals as goal

pub returns-clause-by_clock : goal.returns-clause-by_clock
returns-clause-by_clock c = λ g wf.
    let (lines, is, rising) = choice_exists g wf in
    (lines, (is, rising), λ other (is_other, rises). same_choice g other lines wf is_other is rises rising)

pub returns-clause-lines : goal.returns-clause-lines
returns-clause-lines c = λ g xs ys line wf is_x is_y. same_lines g xs ys wf is_x is_y line
