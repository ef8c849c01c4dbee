use Rattle.std.proofs.Common.{◌≡◌, ◌∙◌, Some, eq-eqb, eqb-true, refl, subst, sym}
use Rattle.gptp_lists.proofs.SystemSpecLemmas.{In-slice_get}
use Rattle.gptp_certificate_text.specs.Certificate.{line_of}
use Rattle.gptp_graph.specs.SettledChoice.{IsBestIdentity}
use Rattle.gptp_graph.specs.Snapshot.{System}
use Rattle.gptp_graph.proofs.SystemLemmas.{In-clocks}
use Rattle.gptp_network.specs.Snapshot.{system_of}
use Rattle.gptp_checker.specs.Places.{IsLineAt}
use Rattle.gptp_components.proofs.ComponentLemmas.{one_best}
use Rattle.gptp_explain.proofs.SettledLemmas.{best_stated, line_there}
use Rattle.gptp_explain.proofs.ranks.follower_at.Goals as goal

-- each live system has a line
pub returns-in_err-line_of-clause-none : goal.returns-in_err-line_of-clause-none
returns-in_err-line_of-clause-none c =
    let g = c.args.snapshot.now in let lines = c.args.choice.now.lines in
    let s = system_of (c.in_ok-identity.identity, c.in_ok-identity.field-0-1) in
    let live = In-slice_get s g.systems c.args.place (sym c.in_ok-identity.ensures) in
    let (line, at) =
    line_there g lines c.well_formed-2.ensures.network c.requires s.clock (In-clocks g s live) in
    absurd (c.in_err-line_of.ensures.none line (subst (λ v. IsLineAt lines v line) (sym c.clock.ensures) at))

pub returns-then-eq-clause-some : goal.returns-then-eq-clause-some
returns-then-eq-clause-some c =
    let g = c.args.snapshot.now in let lines = c.args.choice.now.lines in
    let s = system_of (c.in_ok-identity.identity, c.in_ok-identity.field-0-1) in
    let line = line_of c.in_ok-line_of.field-0.now in
    let at = subst (λ v. IsLineAt lines v line) c.clock.ensures c.in_ok-line_of.ensures.some in
    let same = eqb-true line.root c.args.root (sym c.if-eq.ensures) in
    let best = best_stated g lines c.requires s.clock line at in
    (s, sym c.in_ok-identity.ensures, subst (IsBestIdentity g s.clock) same best, refl)

pub returns-else-eq-clause-none : goal.returns-else-eq-clause-none
returns-else-eq-clause-none c = λ t there follows.
    let g = c.args.snapshot.now in let lines = c.args.choice.now.lines in
    let s = system_of (c.in_ok-identity.identity, c.in_ok-identity.field-0-1) in
    let line = line_of c.in_ok-line_of.field-0.now in
    let one : s ≡ t = let same : Some s ≡ Some t = c.in_ok-identity.ensures ∙ there in cc in
    let at = subst (λ v. IsLineAt lines v line) c.clock.ensures c.in_ok-line_of.ensures.some in
    let best = best_stated g lines c.requires s.clock line at in
    let root =
    one_best g s.clock line.root c.args.root c.well_formed-2.ensures.network best
    (subst (λ (u : System). IsBestIdentity g u.clock c.args.root) (sym one) follows) in
    let is = eq-eqb line.root c.args.root root in
    let no = c.if-eq.ensures in
    absurd cc
