-- The text of `run`, part after part.
use Rattle.std.proofs.Common.{◌≡◌, ◌⊎◌, ℕ, true, false, List, [], ◌++◌, Option, inl, inr, refl, sym, ap, subst, ◌∙◌, append_assoc, append-nil}
use Rattle.std.specs.Io.KnownBytes.{Appends}
use Rattle.gptp_model.specs.World.{WorldState}
use Rattle.gptp_certificate.specs.Stated.{States}
use Rattle.gptp_certificate_text.specs.CertificateText.{certificate_lines}
use Rattle.gptp_graph.specs.Labelling.{SystemLine}
use Rattle.gptp_network.specs.Document.{DocumentState}
use Rattle.gptp_theorem.specs.PlayedLaws.{IsPlayable}
use Rattle.gptp_theorem.proofs.OctetLemmas.{seeded_playable}
use Rattle.gptp_report.specs.Report.{Reports}
use Rattle.gptp_report.specs.Run.{LeadsSoFar, LeadsTo}
use Rattle.gptp_sink.specs.Sink.{AppendsSome}
use Rattle.gptp_world.proofs.FollowLemmas.{text_append}
use Rattle.gptp_report.proofs.RunLemmas.{led_so_far}
use Rattle.gptp_sink.proofs.SinkLemmas.{appends_both, some_before, some_behind}
use Rattle.gptp_words.specs.Lines.{text_of}
use Rattle.gptp_commands.specs.declared.failure.Status.TheVariants.{Done}
use Rattle.gptp_commands.specs.declared.run.RunOptions.{RunOptions}
use Rattle.gptp_commands.specs.Documents.{SomeOf}
use Rattle.gptp_commands.specs.RunText.{LeadsDocument, PlaysDocument, RunsDocument, document_run, draws, generator, until_of}
use Rattle.gptp_commands.specs.RunSoFar.{PlaysSome, TellsRun}
use Rattle.gptp_commands.proofs.RunLemmas.{runs_settle}

-- ---- the report and the certificate

-- the report alone, where no certificate is asked for
tells_report : (d : DocumentState) (until : ℕ) (w : WorldState) (lines : List (List ℕ)) → Reports d until w lines
    → TellsRun d until false w lines
tells_report d until w lines reports = record {
  report = lines;
  reports = reports;
  certificate = [];
  certifies = refl;
  are = sym (append-nil lines);
}

pub tells_alone : (d : DocumentState) (until : ℕ) (w : WorldState) (old new : Option (List ℕ))
    → (lines : List (List ℕ)) × Reports d until w lines × Appends old new (text_of lines)
    → (lines : List (List ℕ)) × TellsRun d until false w lines × Appends old new (text_of lines)
tells_alone d until w old new (lines, reports, written) = (lines, tells_report d until w lines reports, written)

pub tells_alone_some : (d : DocumentState) (until : ℕ) (w : WorldState) (old new : Option (List ℕ))
    → (lines : List (List ℕ)) × ((lines ≡ []) ⊎ Reports d until w lines) × AppendsSome old new (text_of lines)
    → (lines : List (List ℕ)) × ((lines ≡ []) ⊎ TellsRun d until false w lines) × AppendsSome old new (text_of lines)
tells_alone_some d until w old new (lines, inl none, some) = (lines, inl none, some)
tells_alone_some d until w old new (lines, inr reports, some) =
    (lines, inr (tells_report d until w lines reports), some)

module _ (d : DocumentState) (until : ℕ) (w : WorldState) (stated : List SystemLine) (states : States w stated) where
  tells_both : (report : List (List ℕ)) → Reports d until w report
      → TellsRun d until true w (report ++ certificate_lines 2 stated)
  tells_both report reports = record {
    report = report;
    reports = reports;
    certificate = certificate_lines 2 stated;
    certifies = (stated, states, refl);
    are = refl;
  }

  -- some of the report was written
  pub tells_some : (old new : Option (List ℕ))
      → (lines : List (List ℕ)) × ((lines ≡ []) ⊎ Reports d until w lines) × AppendsSome old new (text_of lines)
      → (lines : List (List ℕ)) × ((lines ≡ []) ⊎ TellsRun d until true w lines) × AppendsSome old new (text_of lines)
  tells_some old new (lines, inl none, some) = (lines, inl none, some)
  tells_some old new (report, inr reports, some) = (
    report ++ certificate_lines 2 stated,
    inr (tells_both report reports),
    rw text_append (some_before old new (text_of report) (text_of (certificate_lines 2 stated)) some),
  )

  -- all of it, and some of the certificate
  pub tells_part : (old between new : Option (List ℕ))
      → (report : List (List ℕ)) × Reports d until w report × Appends old between (text_of report)
      → AppendsSome between new (text_of (certificate_lines 2 stated))
      → (lines : List (List ℕ)) × ((lines ≡ []) ⊎ TellsRun d until true w lines) × AppendsSome old new (text_of lines)
  tells_part old between new (report, reports, written) some = (
    report ++ certificate_lines 2 stated,
    inr (tells_both report reports),
    rw text_append (some_behind old between new (text_of report) (text_of (certificate_lines 2 stated)) written some),
  )

  pub tells_all : (old between new : Option (List ℕ))
      → (report : List (List ℕ)) × Reports d until w report × Appends old between (text_of report)
      → Appends between new (text_of (certificate_lines 2 stated))
      → (lines : List (List ℕ)) × TellsRun d until true w lines × Appends old new (text_of lines)
  tells_all old between new (report, reports, written) behind = (
    report ++ certificate_lines 2 stated,
    tells_both report reports,
    rw text_append
        (appends_both old between new (text_of report) (text_of (certificate_lines 2 stated)) written behind),
  )

-- ---- the lines of the frames, and what is told after them

module _ (d : DocumentState) (options : RunOptions) (w : WorldState) (frames : List (List ℕ))
    (leads : LeadsTo draws d (until_of options d) options.frames (generator options.seed) w frames) where
  plays : (told : List (List ℕ)) → TellsRun d (until_of options d) options.certificate w told
      → PlaysDocument d options (frames ++ told) Done
  plays told tells = record {
    world = w;
    report = frames ++ tells.report;
    reports = record { frames = frames; leads = leads; report = tells.report; reports = tells.reports; are = refl };
    certificate = tells.certificate;
    certifies = tells.certifies;
    lines = ap (λ ls. frames ++ ls) tells.are ∙ sym (append_assoc frames tells.report tells.certificate);
    status_is = refl;
  }

  pub plays_all : (old between new : Option (List ℕ)) → Appends old between (text_of frames)
      → (told : List (List ℕ)) × TellsRun d (until_of options d) options.certificate w told
      × Appends between new (text_of told)
      → (lines : List (List ℕ)) × PlaysDocument d options lines Done × Appends old new (text_of lines)
  plays_all old between new written (told, tells, behind) = (
    frames ++ told,
    plays told tells,
    rw text_append (appends_both old between new (text_of frames) (text_of told) written behind),
  )

  pub plays_some : (old between new : Option (List ℕ)) → Appends old between (text_of frames)
      → (told : List (List ℕ)) × ((told ≡ []) ⊎ TellsRun d (until_of options d) options.certificate w told)
      × AppendsSome between new (text_of told)
      → (lines : List (List ℕ)) × PlaysSome d options lines × AppendsSome old new (text_of lines)
  plays_some old between new written (told, inl none, behind) =
      let alone : text_of frames ++ text_of told ≡ text_of frames =
      ap (λ ls. text_of frames ++ text_of ls) none ∙ append-nil (text_of frames) in (
        frames,
        inr (inl (led_so_far draws d (until_of options d) options.frames (generator options.seed) w frames leads)),
        subst (AppendsSome old new) alone
            (some_behind old between new (text_of frames) (text_of told) written behind),
      )
  plays_some old between new written (told, inr tells, behind) = (
    frames ++ told,
    inr (inr (plays told tells)),
    rw text_append (some_behind old between new (text_of frames) (text_of told) written behind),
  )

-- the frames so far
pub plays_front : (d : DocumentState) (options : RunOptions) (old new : Option (List ℕ))
    → (lines : List (List ℕ)) × ((lines ≡ [])
    ⊎ LeadsSoFar draws d (until_of options d) options.frames (generator options.seed) lines)
    × AppendsSome old new (text_of lines)
    → (lines : List (List ℕ)) × PlaysSome d options lines × AppendsSome old new (text_of lines)
plays_front d options old new (lines, inl none, some) = (lines, inl none, some)
plays_front d options old new (lines, inr leads, some) = (lines, inr (inl leads), some)

-- ---- a document, which settles in time

module _ (d : DocumentState) (options : RunOptions) (playable : IsPlayable d) where
  abbrev whole : DocumentState
  whole = document_run options d

  runs : (lines : List (List ℕ)) → PlaysDocument whole options lines Done → RunsDocument options d lines Done
  runs lines plays =
      (plays, runs_settle whole options lines Done (seeded_playable d options.seed playable) plays)

  pub runs_all : (old new : Option (List ℕ))
      → (lines : List (List ℕ)) × PlaysDocument whole options lines Done × Appends old new (text_of lines)
      → (lines : List (List ℕ)) × RunsDocument options d lines Done × Appends old new (text_of lines)
  runs_all old new (lines, plays, written) = (lines, runs lines plays, written)

  pub runs_some : (old new : Option (List ℕ))
      → (lines : List (List ℕ)) × PlaysSome whole options lines × AppendsSome old new (text_of lines)
      → (lines : List (List ℕ)) × SomeOf (LeadsDocument options d) (RunsDocument options d) lines
      × AppendsSome old new (text_of lines)
  runs_some old new (lines, inl none, some) = (lines, inl none, some)
  runs_some old new (lines, inr (inl leads), some) = (lines, inr (inl leads), some)
  runs_some old new (lines, inr (inr all), some) = (lines, inr (inr (Done, runs lines all)), some)
