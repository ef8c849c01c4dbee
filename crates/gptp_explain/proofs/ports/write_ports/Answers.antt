use Rattle.std.proofs.Common.{◌≡◌, ◌+◌, ◌∷◌, [], ℕ, List, arith, drop, get_or, map, string_bytes, subst}
use Rattle.std.proofs.lemmas.List.{drop_more, drop_all}
use Rattle.std.proofs.lemmas.Option.{slice_get-get_or}
use Rattle.gptp_lists.specs.Members.{In}
use Rattle.gptp_lists.proofs.SystemSpecLemmas.{In-map, In-slice_get}
use Rattle.gptp_certificate_text.specs.Certificate.{port_line_of}
use Rattle.gptp_roles.specs.declared.role.Role.TheVariants.{Disabled}
use Rattle.gptp_roles.specs.declared.role.Role.{Role}
use Rattle.gptp_checker.specs.Places.{numbers_of}
use Rattle.gptp_explain.proofs.PortLinesLemmas.{HaveBegun, all_lines, one_line_more}
use Rattle.gptp_explain.proofs.ports.write_ports.Goals as goal

pub write_port-requires-clause-port : goal.write_port-requires-clause-port
write_port-requires-clause-port c =
    let items = c.deref-port-items.result.now in
    let item = get_or items c.loop-port.port-index (0, Disabled) in
    subst (λ ports. In (port_line_of item) (map port_line_of ports)) c.deref-port-items.ensures.value
    (In-map port_line_of item items
    (In-slice_get item items c.loop-port.port-index
    (slice_get-get_or items c.loop-port.port-index (0, Disabled) c.loop-port-test.true)))

pub loop-port-preserved : goal.loop-port-preserved
loop-port-preserved c =
    let d = c.args.document.now in let g = c.args.snapshot.now in let v = c.args.line.now.clock in
    let items = c.args.line.now.ports.items in let lent = c.deref-port-items.result.now in
    let i = c.loop-port.port-index in let item = get_or lent i (0, Disabled) in
    let first : drop i items ≡ item ∷ drop (i + 1) items =
    subst (λ (ports : List (ℕ × Role)). drop i ports ≡ item ∷ drop (i + 1) ports) c.deref-port-items.ensures.value
    (drop_more lent i (0, Disabled) c.loop-port-test.true) in
    one_line_more d c.args.at g v (numbers_of items) (string_bytes c.args.text.now) item.0
    (numbers_of (drop (i + 1) items)) (string_bytes c.loop-port.text) (string_bytes c.write_port.new.text)
    (subst (λ ports. HaveBegun d c.args.at g v (numbers_of items) (numbers_of ports) (string_bytes c.args.text.now)
    (string_bytes c.loop-port.text)) first c.loop-port.invariant)
    c.in_ok-write_port.ensures

pub returns : goal.returns
returns c =
    let d = c.args.document.now in let g = c.args.snapshot.now in let v = c.args.line.now.clock in
    let items = c.args.line.now.ports.items in
    let all = c.deref-port-items.ensures.len in let past = c.loop-port-test.false in
    let none : drop c.loop-port.port-index items ≡ [] = drop_all c.loop-port.port-index items (omega arith) in
    all_lines d c.args.at g v (numbers_of items) (string_bytes c.args.text.now) (string_bytes c.loop-port.text)
    (subst (λ ports. HaveBegun d c.args.at g v (numbers_of items) (numbers_of ports) (string_bytes c.args.text.now)
    (string_bytes c.loop-port.text)) none c.loop-port.invariant)
