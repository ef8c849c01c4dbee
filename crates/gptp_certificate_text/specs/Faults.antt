-- Why a text is no certificate (profile).
use Rattle.std.specs.Prelude.{ℕ, List, codes}
use Rattle.gptp_certificate_text.specs.declared.fault.CertificateFault.{CertificateFault}
use Rattle.gptp_certificate_text.specs.declared.fault.CertificateFault.TheVariants.{Head, Line, Order, Spelling, OutOfMemory}

-- a fault as its number and its name
abbrev pub certificate_fault_text : CertificateFault → List ℕ
certificate_fault_text Head = codes "1 Head"
certificate_fault_text Line = codes "2 Line"
certificate_fault_text Order = codes "3 Order"
certificate_fault_text Spelling = codes "4 Spelling"
certificate_fault_text OutOfMemory = codes "5 OutOfMemory"
