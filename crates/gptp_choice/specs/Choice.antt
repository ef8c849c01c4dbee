-- What is answered as the settled choice (profile).
use Rattle.std.specs.Prelude.{◌≡◌}
use Rattle.gptp_graph.specs.Snapshot.{Snapshot}
use Rattle.gptp_graph.specs.SettledChoice.{IsSettledChoice}
use Rattle.gptp_certificate_text.specs.Certificate.{CertificateContent, IsCertificate}

-- a certificate of version 2, whose lines stand by rising clock and are the settled choice
pub record Found (g : Snapshot) (c : CertificateContent) : Type 0 where
  pub version : c.version ≡ 2
  pub is : IsCertificate 2 c.lines
  pub choice : IsSettledChoice g c.lines
