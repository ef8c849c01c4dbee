use Rattle.gptp_certificate_text.specs.Certificate.{line_of}
use Rattle.gptp_graph.proofs.StatementLemmas.{line_clock}
use Rattle.gptp_checker.specs.declared.line_test.LineTest.TheVariants.{Root, Identity, Tie, Role}
use Rattle.gptp_checker.specs.LineTests.{PassesLine}
use Rattle.gptp_checker.specs.Located.{IsFirstRole, IsLowerWay}
use Rattle.gptp_checker.proofs.LineTestLemmas.{same_test}
use Rattle.gptp_checker.proofs.LocatedLemmas.{none_by}
use Rattle.gptp_checker.proofs.lines.passes.Goals as goal

pub has_own_root-requires : goal.has_own_root-requires
has_own_root-requires c =
    line_clock c.args.snapshot.now c.args.certificate.now.lines (line_of c.args.line.now) c.requires.systems
    c.requires.stated

pub has_low_root-requires : goal.has_low_root-requires
has_low_root-requires c =
    line_clock c.args.snapshot.now c.args.certificate.now.lines (line_of c.args.line.now) c.requires.systems
    c.requires.stated

pub returns-in-Root : goal.returns-in-Root
returns-in-Root c =
    same_test c.args.test Root c.args.snapshot.now c.args.certificate.now.lines (line_of c.args.line.now)
    c.has_own_root.result c.in-Root.is c.has_own_root.ensures

pub returns-in-Identity : goal.returns-in-Identity
returns-in-Identity c =
    same_test c.args.test Identity c.args.snapshot.now c.args.certificate.now.lines (line_of c.args.line.now)
    c.has_low_root.result c.in-Identity.is c.has_low_root.ensures

pub returns-in-Tie : goal.returns-in-Tie
returns-in-Tie c =
    let g = c.args.snapshot.now in
    let lines = c.args.certificate.now.lines in
    let line = line_of c.args.line.now in
    same_test c.args.test Tie g lines line c.is_none.result c.in-Tie.is
    (none_by (λ way. IsLowerWay g lines line way.0 way.1) (PassesLine Tie g lines line) c.lower_way.result
    c.is_none.result c.is_none.ensures c.lower_way.ensures.some c.lower_way.ensures.none
    (λ way lower passes. lower.3.2.fails (passes lower.0 lower.1 lower.3.0 lower.3.2.stated)))

pub returns-in-Role : goal.returns-in-Role
returns-in-Role c =
    let g = c.args.snapshot.now in
    let lines = c.args.certificate.now.lines in
    let line = line_of c.args.line.now in
    same_test c.args.test Role g lines line c.is_none-in-Role.result c.in-Role.is
    (none_by (IsFirstRole g lines line) (PassesLine Role g lines line) c.wrong_role.result c.is_none-in-Role.result
    c.is_none-in-Role.ensures c.wrong_role.ensures.some c.wrong_role.ensures.none
    (λ n wrong passes. wrong.2.fails (passes wrong.0 wrong.2.stated)))
