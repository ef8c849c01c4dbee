use Rattle.std.proofs.Common.{get_or, ◌∙◌, sym, pos, arith}
use Rattle.std.proofs.lemmas.Option.{none-some, slice_get-get_or}
use Rattle.gptp_lists.proofs.PlaceLemmas.{member_there}
use Rattle.gptp_certificate_text.specs.Certificate.{line_of}
use Rattle.gptp_accuracy.specs.declared.sums.Sums.{Sums}
use Rattle.gptp_accuracy.proofs.ExactLemmas.{entry_added}
use Rattle.gptp_accuracy.proofs.errors.push_system.Goals as goal

abbrev nothing : Sums
nothing = record { root_drift = pos 0; drift = pos 0; jitter = 0; rate_error = 0; rate = pos 0; error = 0 }

pub reading_of-reading-requires : goal.reading_of-reading-requires
reading_of-reading-requires c = λ near.
    c.requires.within c.args.place (line_of c.in-Some.line.now) (get_or c.args.sums.now c.args.place nothing)
    (sym c.in-Some.ensures) near
    (slice_get-get_or c.args.sums.now c.args.place nothing (omega (arith, c.requires.place, c.requires.sums)))

pub returns-in_ok-push : goal.returns-in_ok-push
returns-in_ok-push c =
    rw c.in_ok-push.ensures.items (entry_added c.args.calm c.args.certificate.now.lines c.args.sums.now c.args.place
    c.args.systems.now.items (line_of c.in-Some.line.now) (get_or c.args.sums.now c.args.place nothing)
    c.system_of.result c.requires.before (sym c.in-Some.ensures)
    (slice_get-get_or c.args.sums.now c.args.place nothing (omega (arith, c.requires.place, c.requires.sums)))
    c.system_of.ensures)

pub returns-in_default : goal.returns-in_default
returns-in_default c =
    let (line, there) = member_there c.args.certificate.now.lines c.args.place c.requires.place in
    absurd (none-some line (c.in_default.ensures ∙ there))
