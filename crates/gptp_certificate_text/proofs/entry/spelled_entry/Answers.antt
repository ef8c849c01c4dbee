use Rattle.std.proofs.Common.{◌≢◌, sym, subst}
use Rattle.gptp_certificate_text.specs.CertificateText.{spelled_line}
use Rattle.gptp_certificate_text.specs.Entries.{LineKey, IsReadableEntry}
use Rattle.gptp_certificate_text.specs.Lines.{form_of, port_words_of, system_words_of}
use Rattle.gptp_certificate_text.proofs.LineLemmas.{no_port, no_system}
use Rattle.gptp_certificate_text.proofs.WordLemmas.{if_none_weaker, if_some_weaker}
use Rattle.gptp_certificate_text.proofs.entry.spelled_entry.Goals as goal

pub returns-in-System-clause-readable : goal.returns-in-System-clause-readable
returns-in-System-clause-readable c =
    if_some_weaker c.system.result (λ entry readable. readable c.args.version) c.system.ensures.readable

pub returns-in-System-clause-absent : goal.returns-in-System-clause-absent
returns-in-System-clause-absent c = if_none_weaker c.system.result (λ none.
    subst (λ form. (entry : LineKey) → IsReadableEntry c.args.version entry → spelled_line entry ≢ form_of form)
    (sym c.in-System.is) (no_system c.args.version (system_words_of c.in-System.words) none)) c.system.ensures.absent

pub returns-in-Port-clause-readable : goal.returns-in-Port-clause-readable
returns-in-Port-clause-readable c =
    if_some_weaker c.port.result (λ entry readable. readable c.args.version) c.port.ensures.readable

pub returns-in-Port-clause-absent : goal.returns-in-Port-clause-absent
returns-in-Port-clause-absent c = if_none_weaker c.port.result (λ none.
    subst (λ form. (entry : LineKey) → IsReadableEntry c.args.version entry → spelled_line entry ≢ form_of form)
    (sym c.in-Port.is) (no_port c.args.version (port_words_of c.in-Port.words) none)) c.port.ensures.absent
