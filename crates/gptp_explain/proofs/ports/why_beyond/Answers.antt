use Rattle.std.proofs.Common.{ap, option_map, subst, sym}
use Rattle.gptp_certificate_text.specs.Certificate.{line_of, parent_of, role_of}
use Rattle.gptp_explain.specs.Ports.{IsPortOfLine, LosesWay, WinsWay}
use Rattle.gptp_explain.proofs.PortLemmas.{master_wins, not_none, passive_has_parent, passive_loses}
use Rattle.gptp_explain.proofs.ports.why_beyond.Goals as goal

pub returns-in-Passive-clause-passive : goal.returns-in-Passive-clause-passive
returns-in-Passive-clause-passive c = λ is.
    let g = c.args.snapshot.now in let line = line_of c.args.line.now in let p = c.args.port.now in
    let there = c.in-Some.there in let beyond = c.in-Some.beyond in
    let own = subst (IsPortOfLine g line p) (ap role_of is) c.requires.line in
    let joins = c.in-Some.ensures.joins in let distance = c.in-Some.ensures.distance in
    let (parent, has) = not_none c.args.line.now.parent
    (λ none. passive_has_parent g line p c.well_formed-2.ensures.network own there beyond joins distance
    (ap (option_map parent_of) none)) in
    subst (LosesWay g p) (sym (c.why_passive.ensures parent has))
    (passive_loses g line p own there beyond joins distance (parent_of parent) (ap (option_map parent_of) has))

pub returns-in_default-role : goal.returns-in_default-role
returns-in_default-role c =
    let g = c.args.snapshot.now in let line = line_of c.args.line.now in let p = c.args.port.now in
    record {
      passive = λ is. absurd (c.in_default-role.not-Passive is);
      master = λ is.
          let own = subst (IsPortOfLine g line p) (ap role_of is) c.requires.line in
          subst (WinsWay g p) (sym c.why_master.ensures)
          (master_wins g line p own c.in-Some.there c.in-Some.beyond c.in-Some.ensures.joins
          c.in-Some.ensures.distance);
    }
