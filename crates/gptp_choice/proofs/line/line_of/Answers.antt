use Rattle.gptp_choice.proofs.line.line_of.Goals as goal

pub returns-then-own-ge-FAR : goal.returns-then-own-ge-FAR
returns-then-own-ge-FAR c = c.far_line.ensures c.args.ports
