use Rattle.std.proofs.Common.{subst, sym}
use Rattle.gptp_certificate_text.specs.Certificate.{IsCertificate, lines_of}
use Rattle.gptp_graph.specs.SettledChoice.{IsSettledChoice}
use Rattle.gptp_choice.proofs.LineLemmas.{lines_certified, lines_settled}
use Rattle.gptp_choice.proofs.choice.settled_choice.Goals as goal

pub of_lines-requires : goal.of_lines-requires
of_lines-requires c = record {
  is = lines_certified c.args.snapshot.now c.well_formed-2.ensures.network c.well_formed-2.ensures.rising
      (lines_of c.in_ok-lines.lines.items) c.in_ok-lines.ensures;
}

pub returns : goal.returns
returns c =
    let g = c.args.snapshot.now in let lines = lines_of c.in_ok-lines.lines.items in
    let wf = c.well_formed-2.ensures.network in let rising = c.well_formed-2.ensures.rising in
    record {
      version = c.of_lines.ensures.version;
      is = subst (IsCertificate 2) (sym c.of_lines.ensures.lines)
          (lines_certified g wf rising lines c.in_ok-lines.ensures);
      choice = subst (IsSettledChoice g) (sym c.of_lines.ensures.lines)
          (lines_settled g wf rising lines c.in_ok-lines.ensures);
    }
