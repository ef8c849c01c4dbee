use Rattle.std.proofs.Common.{◌≡◌, ◌++◌, drop, map, string_bytes}
use Rattle.gptp_words.specs.Lines.{text_of}
use Rattle.gptp_certificate_text.specs.Certificate.{lines_of}
use Rattle.gptp_certificate_text.specs.CertificateText.{entry_text}
use Rattle.gptp_certificate_text.specs.Entries.{entries_of}
use Rattle.gptp_certificate_text.proofs.text.write_systems.Given as goal

-- what is written and the lines of the systems that are left are all that should be written
abbrev pub invariant-loop-line : goal.invariant-loop-line
invariant-loop-line l =
    string_bytes l.text ++ text_of (map entry_text (entries_of (lines_of (drop l.line-index l.lines))))
    ≡ string_bytes l.initial.text ++ text_of (map entry_text (entries_of (lines_of l.lines)))
