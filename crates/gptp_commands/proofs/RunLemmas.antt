-- The run of a document that is at rest at its end shows a settled world, and certifies it.
use Rattle.std.proofs.Common.{ℕ, Bool, true, false, List, Result, Ok, Err}
use Rattle.std.specs.Prelude.{IfOk}
use Rattle.gptp_graph.specs.Snapshot.{Snapshot}
use Rattle.gptp_network.specs.Document.{DocumentState}
use Rattle.gptp_network.specs.Snapshot.{IsSnapshot}
use Rattle.gptp_certificate.proofs.SettledLemmas.{states_certificate}
use Rattle.gptp_commands.specs.declared.failure.Status.{Status}
use Rattle.gptp_commands.specs.declared.run.RunOptions.{RunOptions}
use Rattle.gptp_commands.specs.RunText.{CertifiesIf, CertifiesRight, PlaysDocument, SettlesInTime, draws, generator, until_of}
use Rattle.gptp_theorem.specs.PlayedLaws.{IsPlayable}
use Rattle.gptp_theorem.proofs.HeadlineLemmas.{documents_lead}
use Rattle.gptp_theorem.proofs.SettleLemmas.{played_settle}

pub runs_settle : (d : DocumentState) (options : RunOptions) (output : List (List ℕ)) (status : Status)
    → IsPlayable d → PlaysDocument d options output status → SettlesInTime d options output
runs_settle d options output status is k rest =
    let until = until_of options d in
    let fate = generator options.seed in
    let plays = k.reports.leads.plays in
    let (settled, snapshot) = documents_lead draws d until fate k.reports.leads.told k.world is plays rest in
    record {
      world = k.world;
      settled = settled;
      snapshot = snapshot;
      report = k.report;
      reports = k.reports;
      certificate = k.certificate;
      certifies = λ g stands. right g stands options.certificate k.certifies;
      lines = k.lines;
    }
  where
    right : (g : Snapshot) → IsSnapshot d (until_of options d) g → (asked : Bool)
        → CertifiesIf asked k.world k.certificate → CertifiesRight asked g k.certificate
    right g stands true (stated, states, lines) = (
      stated,
      played_settle draws d (until_of options d) (generator options.seed) k.reports.leads.told k.world stated g is
          k.reports.leads.plays rest states stands,
      states_certificate k.world stated states,
      lines,
    )
    right g stands false none = none

-- what is so of a result, if there is one, may mean more
pub if_ok_more : {X E : Type 0} (P Q : X → Type 0) → ((x : X) → P x → Q x) → (result : Result X E) → IfOk result P
    → IfOk result Q
if_ok_more P Q more (Ok x) holds = more x holds
if_ok_more P Q more (Err e) none = none
