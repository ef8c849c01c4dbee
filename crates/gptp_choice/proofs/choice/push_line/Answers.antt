use Rattle.std.proofs.Common.{◌≡◌, ◌∙◌, ap, length, refl, subst, sym, arith, ◌<◌}
use Rattle.std.proofs.lemmas.Option.{slice_get_read}
use Rattle.gptp_lists.proofs.SystemSpecLemmas.{In-slice_get}
use Rattle.gptp_certificate_text.specs.Certificate.{line_of}
use Rattle.gptp_components.specs.Distances.{IsDistanceOf}
use Rattle.gptp_components.proofs.RankedLemmas.{no_gap}
use Rattle.gptp_graph.specs.Snapshot.{System}
use Rattle.gptp_graph.proofs.SystemLemmas.{same_clock}
use Rattle.gptp_network.specs.Snapshot.{system_of}
use Rattle.gptp_choice.specs.Lines.{IsChosenLine}
use Rattle.gptp_choice.proofs.LineLemmas.{pushed_line}
use Rattle.gptp_choice.proofs.choice.push_line.Goals as goal

pub returns-in_default : goal.returns-in_default
returns-in_default c =
    absurd (no_gap c.args.snapshot.now.systems c.args.place c.requires.place (sym c.in_default.ensures))

pub line_of-requires-clause-ports : goal.line_of-requires-clause-ports
line_of-requires-clause-ports c = λ t live is.
    let g = c.args.snapshot.now in let s = system_of c.in-Some.system in
    let one : s ≡ t =
    same_clock g s t c.well_formed-2.ensures.network
    (In-slice_get s g.systems c.args.place (sym c.in-Some.ensures)) live (sym c.clock.ensures ∙ sym is) in
    ap (λ (u : System). u.ports) (sym one)

pub line_of-requires-clause-own : goal.line_of-requires-clause-own
line_of-requires-clause-own c =
    let g = c.args.snapshot.now in let s = system_of c.in-Some.system in
    let ds = c.args.distances.now in let d = c.index-distances-place.result in
    let many = c.requires.distances.as_many in let within = c.requires.place in
    let inside : c.args.place < length ds = omega (arith, many, within) in
    subst (λ v. IsDistanceOf g v d) (sym c.clock.ensures)
    (c.requires.distances.each c.args.place s d (sym c.in-Some.ensures)
    (slice_get_read ds (length ds) c.args.place d refl inside c.index-distances-place.is))

pub returns : goal.returns
returns c =
    let g = c.args.snapshot.now in let s = system_of c.in-Some.system in
    pushed_line g c.args.place c.args.lines.now.items c.push.new.self.items c.in_ok-line.line s c.requires.before
    c.in_ok-push.ensures.items (sym c.in-Some.ensures)
    (subst (λ v. IsChosenLine g v c.in-Some.system.1 (line_of c.in_ok-line.line)) c.clock.ensures c.in_ok-line.ensures)
