use Rattle.gptp_graph.specs.Snapshot.{Link}
use Rattle.gptp_certificate_text.specs.Certificate.{line_of}
use Rattle.gptp_checker.specs.LineTests.{EndLeadsNearer}
use Rattle.gptp_checker.proofs.EachLemmas.{HoldBefore}
use Rattle.gptp_checker.proofs.nearer.has_nearer.Given as goal

-- none of the links before leads there
abbrev pub invariant-loop-place : goal.invariant-loop-place
invariant-loop-place l =
    HoldBefore (λ (link : Link). EndLeadsNearer l.fn.certificate.lines (line_of l.fn.line) link → ⊥) l.fn.snapshot.links
    l.place
