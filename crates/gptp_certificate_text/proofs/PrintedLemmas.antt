-- The text of a certificate is that of its lines.
use Rattle.std.proofs.Common.{◌≡◌, ℕ, List, [], ◌∷◌, ◌++◌, map, codes, sym}
use Rattle.std.proofs.lemmas.Grind.{flat_map-append}
use Rattle.gptp_graph.specs.Labelling.{SystemLine}
use Rattle.gptp_words.specs.Lines.{text_of}
use Rattle.gptp_certificate_text.specs.CertificateText.{certificate_lines, certificate_text, entry_text, head_text}
use Rattle.gptp_certificate_text.specs.Entries.{entries_of}

pub text_of_lines : (version : ℕ) (lines : List SystemLine)
    → certificate_text version lines ≡ text_of (certificate_lines version lines)
text_of_lines version lines =
    sym (flat_map-append (λ line. line ++ 10 ∷ []) (head_text version ∷ map entry_text (entries_of lines))
    (codes "end" ∷ []))
