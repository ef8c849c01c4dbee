use Rattle.gptp_certificate_text.proofs.LineLemmas.{misspelled}
use Rattle.gptp_certificate_text.proofs.entry.read_entry.Goals as goal

pub returns-in-Some-clause-refused : goal.returns-in-Some-clause-refused
returns-in-Some-clause-refused c =
    misspelled c.args.version c.args.after_far c.args.line.now _ c.entry_of_form.result c.in-Some.ensures.words
    c.in-Some.ensures.fits c.in-Some.ensures.found c.entry_of_form.ensures.fault c.entry_of_form.ensures.refused
