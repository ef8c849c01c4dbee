use Rattle.std.proofs.Common.{◌∙◌, subst, sym}
use Rattle.gptp_graph.specs.Snapshot.{System, clocks}
use Rattle.gptp_graph.proofs.SystemLemmas.{In-clocks}
use Rattle.gptp_lists.specs.Members.{In}
use Rattle.gptp_lists.proofs.SystemSpecLemmas.{In-slice_get, from_map, slice_get-In}
use Rattle.std.proofs.lemmas.Option.{same_Some}
use Rattle.gptp_explain.specs.Explained.{ExplainsSystem}
use Rattle.gptp_explain.proofs.SettledLemmas.{line_there}
use Rattle.gptp_explain.proofs.explanation.explain.Goals as goal

pub returns-in_default-clause-none : goal.returns-in_default-clause-none
returns-in_default-clause-none c = record {
  snapshot = c.in_ok-snapshot.snapshot;
  is_snapshot = c.in_ok-snapshot.ensures;
  absent = λ member.
      let (s, live, is) = from_map (λ (t : System). t.clock) c.args.clock c.in_ok-snapshot.snapshot.systems member in
      let (place, there) = slice_get-In s c.in_ok-snapshot.snapshot.systems live in
      let found = c.in_default.ensures.only place (record { system = s; there = there; is = is }) in
      absurd cc;
}

-- a live system has a line
pub returns-in_default-line_of-clause-none : goal.returns-in_default-line_of-clause-none
returns-in_default-line_of-clause-none c =
    let g = c.in_ok-snapshot.snapshot in let at = c.in-Some.ensures.some in
    let live = subst (λ v. In v (clocks g)) at.is
    (In-clocks g at.system (In-slice_get at.system g.systems c.in-Some.place at.there)) in
    let (line, stated) =
    line_there g c.in_ok-choice.choice.lines c.well_formed-2.ensures.network c.in_ok-choice.ensures.choice
    c.args.clock live in
    absurd (c.in_default-line_of.ensures.none line stated)

pub write_all-requires-clause-live : goal.write_all-requires-clause-live
write_all-requires-clause-live c =
    In-slice_get _ c.in_ok-snapshot.snapshot.systems c.in-Some.place (sym c.in-Some-system_at.ensures)

pub returns-clause-some : goal.returns-clause-some
returns-clause-some c =
    let g = c.in_ok-snapshot.snapshot in let at = c.in-Some.ensures.some in
    let (lines, explains, text) = c.in_ok-write_all.ensures in
    let one = same_Some _ at.system (c.in-Some-system_at.ensures ∙ at.there) in (
      lines,
      record {
        snapshot = g;
        is_snapshot = c.in_ok-snapshot.ensures;
        system = at.system;
        live = In-slice_get at.system g.systems c.in-Some.place at.there;
        has = at.is;
        explains = subst (λ s. ExplainsSystem c.args.document.now c.args.at g s lines) one explains;
      },
      text,
    )
