-- What a run certifies of a document at rest is accepted of it.
use Rattle.std.proofs.Common.{◌≡◌, ◌≤◌, ℕ, ◌+◌, ℤ, true, List, [], ◌∷◌, Option, length, codes, refl, sym, ap, subst, ◌∙◌, inl, inr}
use Rattle.gptp_graph.specs.Snapshot.{IsWellFormed, Snapshot}
use Rattle.std.specs.Prelude.{unwrap_or}
use Rattle.gptp_scenario.specs.Calm.{last_change}
use Rattle.gptp_scenario.specs.InUse.{count_live}
use Rattle.gptp_scenario.specs.Network.{IsNetwork, NetworkState, seeded}
use Rattle.gptp_scenario.specs.SettlingTime.{settles, settling_span_with}
use Rattle.gptp_scenario.specs.SyncWait.{sync_paths}
use Rattle.gptp_scenario.specs.declared.change.Timed.{Timed}
use Rattle.gptp_scenario.proofs.NetworkLemmas.{calm_seeded, seeded_largest}
use Rattle.gptp_setup.specs.SettlingParams.{SettlingParams}
use Rattle.gptp_network.specs.Document.{DocumentState}
use Rattle.gptp_network.specs.Snapshot.{IsSnapshot, StandsAfter, events_by}
use Rattle.gptp_network.specs.declared.fault.DocumentFault.TheVariants.{TooMany}
use Rattle.gptp_network.proofs.ExistenceLemmas.{snapshot_exists}
use Rattle.gptp_network.proofs.LawLemmas.{never_both, one_meaning, within_limits}
use Rattle.gptp_network.proofs.MeantLemmas.{meant_document, meant_well}
use Rattle.gptp_words.specs.Lines.{text_of}
use Rattle.gptp_certificate_text.specs.declared.certificate.TheConstants.{CERTIFICATE_LIMIT}
use Rattle.gptp_certificate_text.specs.CertificateText.{certificate_text}
use Rattle.gptp_certificate_text.specs.declared.fault.CertificateFault.TheVariants.{Line}
use Rattle.gptp_certificate_text.proofs.PrintedLemmas.{text_of_lines}
use Rattle.gptp_checker.specs.Faults.{IsAccepted}
use Rattle.gptp_checker.proofs.ReadableLemmas.{accepted_length, accepted_readable}
use Rattle.gptp_commands.specs.declared.failure.Status.{Status}
use Rattle.gptp_commands.specs.declared.failure.Status.TheVariants.{Done}
use Rattle.gptp_commands.specs.declared.question.Question.TheVariants.{Choice}
use Rattle.gptp_commands.specs.declared.run.RunOptions.{RunOptions}
use Rattle.gptp_commands.specs.Certified.{AsksAtRest, AsksTheSame, EndsAccepted}
use Rattle.gptp_commands.specs.CheckText.{AnswersBoth, AnswersCertificate, CheckText, RefusesCertificate}
use Rattle.gptp_commands.specs.Documents.{document_limit, RefusesFault}
use Rattle.gptp_commands.specs.QuestionText as questions
use Rattle.gptp_commands.specs.QuestionText.{QuestionText}
use Rattle.gptp_theorem.specs.PlayedLaws.{DocumentIsAtRest}
use Rattle.gptp_commands.specs.RunText.{document_run, until_of, AnswersDocument, CertifiesRight, IsSettledRun, RunText, SettlesInTime}
use Rattle.gptp_commands.proofs.LimitedLemmas.{in_size, of_size}

-- a network settles as soon whatever seed noise is drawn from
abbrev settles_by : NetworkState → List Timed → ℤ → ℕ
settles_by n events largest =
    let pace : SettlingParams = record { params = n.params; largest = largest } in
    last_change events + settling_span_with pace (sync_paths n events) (count_live n.systems events)

seeded_settles : (n : NetworkState) (seed : ℕ) (events : List Timed) → settles (seeded seed n) events ≡ settles n events
seeded_settles n seed events = ap (settles_by n events) (seeded_largest n seed)

module _ (options : RunOptions) (input : List ℕ) (d : DocumentState) (at : Option ℕ)
    (asks : AsksAtRest options input d) (same : AsksTheSame at options d) where
  network : IsNetwork d.network
  network = (meant_document input d asks.means).0

  -- a document is run with the seed
  abbrev whole : DocumentState
  whole = document_run options d

  run_until : until_of options whole ≡ until_of options d
  run_until = ap (unwrap_or options.until) (seeded_settles d.network options.seed d.events)

  run_rests : DocumentIsAtRest whole (until_of options whole)
  run_rests =
      let until = until_of options d in
      let events = events_by until d.events in
      subst (DocumentIsAtRest whole) (sym run_until) (record {
        calm = calm_seeded d.network options.seed events asks.rest.calm;
        settled = subst (λ n. n ≤ until) (sym (seeded_settles d.network options.seed events)) asks.rest.settled;
      })

  module _ (g : Snapshot) (stands : IsSnapshot d (until_of options d) g) where
    well : IsWellFormed g
    well = meant_well input d (until_of options d) g asks.means stands

    -- a right certificate is accepted
    right_accepted : (certificate : List (List ℕ)) → CertifiesRight true g certificate
        → CheckText at (text_of certificate) input (codes "accepted" ∷ []) Done
    right_accepted certificate (stated, right, is_certificate, lines) =
        let is : IsAccepted 2 g stated = record { choice = right; near = λ first. absurd cc } in
        let limits = within_limits d (until_of options d) g network stands in
        let text : text_of certificate
        ≡ certificate_text 2 stated = ap text_of lines ∙ sym (text_of_lines 2 stated) in
        let short : length (text_of certificate) ≤ CERTIFICATE_LIMIT =
        subst (λ t. length t ≤ CERTIFICATE_LIMIT) (sym text)
        (accepted_length 2 g stated (inr refl) well limits is) in
        in_size document_limit (AnswersBoth at (text_of certificate)) (RefusesFault TooMany) input
        (codes "accepted" ∷ []) Done asks.size
        (inl (
          d,
          asks.means,
          in_size CERTIFICATE_LIMIT (AnswersCertificate d at) (RefusesCertificate Line) (text_of certificate)
              (codes "accepted" ∷ []) Done short
              (inl (
                record { version = 2; lines = stated },
                text,
                accepted_readable 2 g stated (inr refl) well limits is,
                is_certificate,
                (
                  g,
                  subst (λ events. StandsAfter d.network events g) (sym same) stands,
                  well,
                  inl (is, record { shown = refl; status_is = refl }),
                ),
              )),
        ))

    -- it is what `choice` writes
    right_chosen : (certificate : List (List ℕ)) → CertifiesRight true g certificate
        → QuestionText (Choice at) input certificate Done
    right_chosen certificate (stated, right, is_certificate, lines) =
        in_size document_limit (questions.AnswersQuestionInput (Choice at))
        (RefusesFault TooMany) input certificate Done
        asks.size
        (inl (
          d,
          asks.means,
          (
            g,
            subst (λ events. StandsAfter d.network events g) (sym same) stands,
            well,
            record { lines = stated; is = is_certificate; choice = right; shown = lines; status_is = refl },
          ),
        ))

    settled_accepted : (output : List (List ℕ)) → IsSettledRun whole options output → EndsAccepted at input output
    settled_accepted output is =
        let stood = subst (λ until. IsSnapshot whole until g) (sym run_until)
        (record { systems = stands.systems; rising = stands.rising; links = stands.links }) in
        let right = subst (λ asked. CertifiesRight asked g is.certificate) asks.asked (is.certifies g stood) in
        record {
          report = is.report;
          certificate = is.certificate;
          lines = is.lines;
          accepted = right_accepted is.certificate right;
          chosen = right_chosen is.certificate right;
        }

    answer_accepted : (output : List (List ℕ)) (status : Status) → AnswersDocument options input output status
        → EndsAccepted at input output
    answer_accepted output status (inl (e, means, (plays, settles))) =
        let is : e ≡ d = one_meaning input e d means asks.means in
        settled_accepted output
        (subst (λ k. SettlesInTime (document_run options k) options output) is settles run_rests)
    answer_accepted output status (inr (fault, fails, refuses)) = absurd (never_both input d fault asks.means fails)

  pub run_accepted : (output : List (List ℕ)) (status : Status) → RunText options input output status
      → EndsAccepted at input output
  run_accepted output status text =
      let (g, stands) = snapshot_exists d (until_of options d) network in
      answer_accepted g stands output status
      (of_size document_limit (AnswersDocument options) (RefusesFault TooMany) input output status asks.size text)
