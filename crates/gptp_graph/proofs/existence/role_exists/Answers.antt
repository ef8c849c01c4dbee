use Rattle.gptp_graph.proofs.RoleLemmas.{RoleBy-unique, settled_role_exists}
use Rattle.gptp_graph.proofs.existence.role_exists.Goals as goal

pub returns : goal.returns
returns c = λ g p wf here.
    let (role, is) = settled_role_exists g p wf here in
    (role, is, λ other is_other. RoleBy-unique _ _ _ other role is_other is)
