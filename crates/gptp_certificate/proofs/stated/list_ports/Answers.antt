use Rattle.std.proofs.Common.{◌∷◌, ◌++◌, ◌+◌, [], map, ap, sym, ◌∙◌, arith}
use Rattle.std.proofs.lemmas.List.{map-append}
use Rattle.std.proofs.lemmas.List.FromFn.{map-range_with_len_more}
use Rattle.gptp_certificate_text.specs.Certificate.{port_line_of}
use Rattle.gptp_certificate.specs.Stated.{stated_port}
use Rattle.gptp_certificate.proofs.stated.list_ports.Goals as goal

pub loop-place-preserved : goal.loop-place-preserved
loop-place-preserved c =
    let place = c.loop-place.place in let s = c.args.system.now in
    let more = map-range_with_len_more (stated_port s) 1 place (place + 1) (omega arith) in
    ap (map port_line_of) c.in_ok-push.ensures.items
    ∙ (map-append port_line_of c.loop-place.ports.items ((c.from.result, c.role.result) ∷ [])
    ∙ (rw (c.from.ensures, c.role.ensures) (ap (λ ps. ps ++ stated_port s (place + 1) ∷ []) c.loop-place.invariant
    ∙ sym more)))
