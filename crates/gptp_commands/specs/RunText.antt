-- What `run` writes for a document, and its status (profile).
use Rattle.std.specs.Prelude.{◌≡◌, ℕ, Bool, true, false, List, [], ◌++◌, Option, unwrap_or}
use Rattle.rand_core.specs.Pcg32Seed.{pcg32_seed}
use Rattle.rand_pcg.specs.Lcg.{Lcg}
use Rattle.rand_pcg.specs.Pcg.{pcg64_of_seed}
use Rattle.gptp_links.specs.declared.bounds.Bounds.{Bounds}
use Rattle.gptp_links.specs.Draws.{drawn}
use Rattle.gptp_network.specs.Document.{DocumentState, seeded_document}
use Rattle.gptp_network.specs.Snapshot.{IsSnapshot}
use Rattle.gptp_scenario.specs.SettlingTime.{settles}
use Rattle.gptp_model.specs.World.{WorldState}
use Rattle.gptp_graph.specs.Labelling.{SystemLine}
use Rattle.gptp_graph.specs.SettledChoice.{IsSettledChoice}
use Rattle.gptp_graph.specs.Snapshot.{Snapshot}
use Rattle.gptp_report.specs.Report.{Reports}
use Rattle.gptp_report.specs.Run.{LeadsSoFar, LeadsTo}
use Rattle.gptp_certificate_text.specs.Certificate.{IsCertificate}
use Rattle.gptp_certificate_text.specs.CertificateText.{certificate_lines}
use Rattle.gptp_certificate.specs.Stated.{States}
use Rattle.gptp_theorem.specs.Headline.{IsSettled}
use Rattle.gptp_theorem.specs.HeadlineLaws.{HasSnapshotOf}
use Rattle.gptp_theorem.specs.PlayedLaws.{DocumentIsAtRest}
use Rattle.gptp_commands.specs.declared.failure.Status.{Status}
use Rattle.gptp_commands.specs.declared.failure.Status.TheVariants.{Done}
use Rattle.gptp_commands.specs.declared.run.RunOptions.{RunOptions}
use Rattle.gptp_commands.specs.Documents.{Answers, AnswersInput, BeginsInput}

-- the end of the run, where none is asked for: when the network has settled, or would have if it were calm
abbrev pub until_of : RunOptions → DocumentState → ℕ
until_of options d = unwrap_or options.until (settles d.network d.events)

-- delays and losses are drawn from the generator of the seed
abbrev pub draws : Bounds → ℕ → Lcg → Option ℕ → Lcg → Type 0
draws bounds sent before answer after = (answer, after) ≡ drawn bounds before

abbrev pub generator : ℕ → Lcg
generator seed = pcg64_of_seed (pcg32_seed 32 seed)

-- the lines of the frames, where they are asked for, and the report of the world that the document leads to
pub record ReportsRun (d : DocumentState) (options : RunOptions) (w : WorldState) (lines : List (List ℕ)) : Type 0 where
  pub frames : List (List ℕ)
  pub leads : LeadsTo draws d (until_of options d) options.frames (generator options.seed) w frames
  pub report : List (List ℕ)
  pub reports : Reports d (until_of options d) w report
  pub are : lines ≡ frames ++ report

-- the certificate of a world, where it is asked for
abbrev pub CertifiesIf : Bool → WorldState → List (List ℕ) → Type 0
CertifiesIf true w lines = (stated : List SystemLine) × States w stated × (lines ≡ certificate_lines 2 stated)
CertifiesIf false w lines = lines ≡ []

-- the text of the run of a document
pub record PlaysDocument (d : DocumentState) (options : RunOptions) (output : List (List ℕ)) (status : Status)
    : Type 0 where
  pub world : WorldState
  pub report : List (List ℕ)
  pub reports : ReportsRun d options world report
  pub certificate : List (List ℕ)
  pub certifies : CertifiesIf options.certificate world certificate
  pub lines : output ≡ report ++ certificate
  pub status_is : status ≡ Done

-- where a certificate is asked for, it is the text of one that states the settled choice
abbrev pub CertifiesRight : Bool → Snapshot → List (List ℕ) → Type 0
CertifiesRight true g lines =
    (stated : List SystemLine) × IsSettledChoice g stated × IsCertificate 2 stated
    × (lines ≡ certificate_lines 2 stated)
CertifiesRight false g lines = lines ≡ []

-- The report is that of a world that is settled and has the snapshot of the document, and after it stands the right
-- certificate of that snapshot, where it is asked for.
pub record IsSettledRun (d : DocumentState) (options : RunOptions) (output : List (List ℕ)) : Type 0 where
  pub world : WorldState
  pub settled : IsSettled world
  pub snapshot : HasSnapshotOf d (until_of options d) world
  pub report : List (List ℕ)
  pub reports : ReportsRun d options world report
  pub certificate : List (List ℕ)
  pub certifies : (g : Snapshot) → IsSnapshot d (until_of options d) g
      → CertifiesRight options.certificate g certificate
  pub lines : output ≡ report ++ certificate

-- the run of a document that is at rest when it ends gives the report of a settled world
abbrev pub SettlesInTime : DocumentState → RunOptions → List (List ℕ) → Type 0
SettlesInTime d options output = DocumentIsAtRest d (until_of options d) → IsSettledRun d options output

-- the document that is run: its systems draw noise from the seed too
abbrev pub document_run : RunOptions → DocumentState → DocumentState
document_run options d = seeded_document options.seed d

-- a document is run, and settles in time
abbrev pub RunsDocument : RunOptions → DocumentState → List (List ℕ) → Status → Type 0
RunsDocument options d output status =
    PlaysDocument (document_run options d) options output status × SettlesInTime (document_run options d) options output

-- an input is a document, which is run so, or fails a test
abbrev pub AnswersDocument : RunOptions → List ℕ → List (List ℕ) → Status → Type 0
AnswersDocument options = Answers (RunsDocument options)

abbrev pub RunText : RunOptions → List ℕ → List (List ℕ) → Status → Type 0
RunText options = AnswersInput (RunsDocument options)

-- the lines of the frames, as far as a document has been run
abbrev pub LeadsDocument : RunOptions → DocumentState → List (List ℕ) → Type 0
LeadsDocument options d lines =
    LeadsSoFar draws (document_run options d) (until_of options (document_run options d)) options.frames
    (generator options.seed) lines

-- the text as far as it has got; from the report on all of it is known
abbrev pub BeginsRun : RunOptions → List ℕ → List (List ℕ) → Type 0
BeginsRun options = BeginsInput (RunsDocument options) (LeadsDocument options)
