use Rattle.std.proofs.Common.{◌≡◌, ◌+◌, ◌++◌, ◌∷◌, [], List, drop, map, ap, sym, ◌∙◌, append-nil, append_assoc}
use Rattle.std.proofs.lemmas.List.{drop_all, drop_more}
use Rattle.gptp_vector.specs.declared.port.PortId.{PortId}
use Rattle.gptp_faults.specs.declared.case_events.CaseChange.{CaseChange}
use Rattle.gptp_faults.specs.declared.case_events.CaseChange.TheVariants.{LinkDown}
use Rattle.gptp_faults.proofs.case_events.push_downs.Goals as goal

pub loop-port-preserved : goal.loop-port-preserved
loop-port-preserved c =
    let all = c.args.ports.now in let i = c.loop-port.port-index in let x = c.port-item.result in
    let so_far = c.loop-port.changes.items in let rest = drop (i + 1) all in
    let here : drop i all ≡ x ∷ rest =
    drop_more all i x c.loop-port-test.true ∙ ap (λ (y : PortId). y ∷ rest) (sym c.port-item.is) in
    ap (λ (cs : List CaseChange). cs ++ map LinkDown rest) c.in_ok-push.ensures.items
    ∙ append_assoc so_far (LinkDown x ∷ []) (map LinkDown rest)
    ∙ ap (λ (ps : List PortId). so_far ++ map LinkDown ps) (sym here)
    ∙ c.loop-port.invariant

pub returns : goal.returns
returns c =
    sym (append-nil c.loop-port.changes.items)
    ∙ ap (λ (ps : List PortId). c.loop-port.changes.items ++ map LinkDown ps)
    (sym (drop_all c.loop-port.port-index c.args.ports.now c.loop-port-test.false))
    ∙ c.loop-port.invariant
