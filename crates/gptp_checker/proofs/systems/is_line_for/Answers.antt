use Rattle.std.proofs.Common.{sym, ◌∙◌}
use Rattle.std.proofs.lemmas.Bool.{eqb-true}
use Rattle.gptp_checker.proofs.systems.is_line_for.Goals as goal

pub returns-then-eq : goal.returns-then-eq
returns-then-eq c = (
  (λ t. let ports = c.has_right_ports.ensures.0 t in
      record {
        clock = eqb-true c.args.line.now.clock c.clock.result (sym c.if-eq.ensures) ∙ c.clock.ensures;
        ports = ports.all;
        bare = ports.bare;
      }),
  (λ h. c.has_right_ports.ensures.1 (record { all = h.ports; bare = h.bare })),
)
