use Rattle.gptp_graph.proofs.SoundLemmas.{sound}
use Rattle.gptp_graph.proofs.ChoiceLemmas.{same_choice}
use Rattle.gptp_graph.proofs.labelling.one_labelling_passes.Goals as goal

pub returns : goal.returns
returns c =
    λ g xs ys wf x_passes y_passes x_rises y_rises. same_choice g xs ys wf (sound g xs wf x_passes)
    (sound g ys wf y_passes) x_rises y_rises
