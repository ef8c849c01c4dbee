use Rattle.std.proofs.Common.{◌≡◌, sym, subst, ◌∙◌}
use Rattle.gptp_certificate_text.specs.Certificate.{line_of}
use Rattle.gptp_graph.specs.Snapshot.{System}
use Rattle.gptp_lists.proofs.MappedLemmas.{some_same}
use Rattle.gptp_lists.proofs.SystemSpecLemmas.{In-slice_get, slice_get-In}
use Rattle.gptp_network.specs.Snapshot.{system_of}
use Rattle.gptp_checker.specs.Places.{IsSystemAt}
use Rattle.gptp_checker.proofs.LocatedLemmas.{known_by}
use Rattle.gptp_checker.proofs.systems.is_known.Goals as goal

pub returns-in_default : goal.returns-in_default
returns-in_default c = (
  (λ t. absurd cc),
  (λ (s, at, ports).
      let (i, there) = slice_get-In s c.args.snapshot.now.systems at.live in
      let e = c.in_default.ensures.only i (record { system = s; there = there; is = at.has }) in absurd cc),
)

pub returns-in-Some-system_at : goal.returns-in-Some-system_at
returns-in-Some-system_at c =
    let systems = c.args.snapshot.now.systems in
    let at = c.in-Some.ensures.some in
    let found : System = system_of (c.in-Some-system_at.field-0-0, c.in-Some-system_at.ports) in
    let same : at.system ≡ found = some_same at.system found (sym at.there ∙ sym c.in-Some-system_at.ensures) in
    let there : IsSystemAt systems c.args.line.now.clock found =
    subst (IsSystemAt systems c.args.line.now.clock) same
    (record { live = In-slice_get at.system systems c.in-Some.place at.there; has = at.is }) in
    known_by c.args.snapshot.now (line_of c.args.line.now) found c.has_all_ports.result c.well_formed-2.ensures.rising
    there c.has_all_ports.ensures
