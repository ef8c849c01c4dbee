-- What a document leads to has lines of its frames, and a report.
use Rattle.std.proofs.Common.{◌≡◌, ◌⊎◌, ℕ, zero, suc, Bool, true, false, List, [], ◌∷◌, ◌++◌, Option, Some, slice_get, refl, subst, inl, inr}
use Rattle.std.specs.List.{AllByRecursion}
use Rattle.gptp_links.specs.declared.bounds.Bounds.{Bounds}
use Rattle.gptp_messages.specs.declared.message.Message.{Message}
use Rattle.gptp_messages.specs.declared.refused.Refused.{Refused}
use Rattle.gptp_messages.specs.Grammar.{Reads, RefusesFrame}
use Rattle.gptp_scenario.specs.Calm.{IsCalm}
use Rattle.gptp_scenario.specs.declared.change.Timed.{Timed}
use Rattle.gptp_model.specs.declared.done.Done.{Done}
use Rattle.gptp_model.specs.declared.done.Done.TheVariants.{Quiet, Heard}
use Rattle.gptp_model.specs.Acts.{AnySystem, AtSystem}
use Rattle.gptp_model.specs.Advancing.{Told}
use Rattle.gptp_model.specs.Views.{rising_clocks}
use Rattle.gptp_model.specs.World.{WorldState}
use Rattle.gptp_model.proofs.RisingLemmas.{rising_clocks-at}
use Rattle.gptp_network.specs.Document.{DocumentState}
use Rattle.gptp_network.specs.Snapshot.{events_by}
use Rattle.gptp_topology.proofs.RestLemmas.{calm_dec}
use Rattle.gptp_world.proofs.FollowLemmas.{all_told, passes_advances}
use Rattle.gptp_report.specs.declared.frame_line.FrameType.{FrameType}
use Rattle.gptp_report.specs.declared.frame_line.FrameType.TheVariants.{Unread}
use Rattle.gptp_report.specs.FrameLine.{frame_line, frame_type_of, IsOfType}
use Rattle.gptp_report.specs.Report.{calm_line, restless_line, time_line, IsChangeLine, Reports, ShowsSystems}
use Rattle.gptp_report.specs.Run.{Goes, ShowsDone, ShowsFrames, ShowsIf}
use Rattle.gptp_report.specs.SystemLines.{system_lines}
use Rattle.gptp_report.specs.Transitions.{Courses, Makes, ActTrace, transition}
use Rattle.gptp_report.proofs.FrameLemmas.{makes_changes}
use Rattle.gptp_determinism.specs.ExistenceLaws.{DocumentsLead}
use Rattle.gptp_determinism.proofs.DocumentExistLemmas.{has_unfolded}
use Rattle.gptp_determinism.proofs.WayExistLemmas.{AllTellOctets, TellsOctets}
use Rattle.gptp_determinism.proofs.BeginExistLemmas.{acts_exist, beginnings_exist}
use Rattle.gptp_determinism.proofs.ReadLemmas.{frames_are_judged}

-- ---- what is told

-- all that is told is of octets
abbrev pub AreTold : List Told → Type 0
AreTold = AllByRecursion (λ (one : Told). TellsOctets one.done)

told_octets : (ts : List ActTrace) → AllTellOctets ts → AreTold (all_told ts)
told_octets [] all = tt
told_octets (t ∷ ts) all = (all.0, told_octets ts all.1)

told_behind : (told more : List Told) → AreTold told → AreTold more → AreTold (told ++ more)
told_behind [] more all rest = rest
told_behind (one ∷ told) more all rest = (all.0, told_behind told more all.1 rest)

-- of some acts with others after them
octets-parts : (ts us : List ActTrace) → AllTellOctets (ts ++ us) → AllTellOctets ts × AllTellOctets us
octets-parts [] us all = (tt, all)
octets-parts (t ∷ ts) us all = let (front, back) = octets-parts ts us all.1 in ((all.0, front), back)

module _ {F : Type 0} (answers : Bounds → ℕ → F → Option ℕ → F → Type 0) where
  -- of octets where all that happens meanwhile is
  before_event : (event : Timed) (ts : List ActTrace) (fate f : F) (w v : WorldState)
      (k : Makes answers event ts fate f w v) → AllTellOctets ts → AreTold (all_told k.first)
  before_event event ts fate f w v k all =
      let last = transition event k.done k.between v in
      told_octets k.first (octets-parts k.first (last ∷ []) (subst AllTellOctets k.are all)).0

  -- what is told of events, one after another
  record IsToldSo (until : ℕ) (events : List Timed) (fate f : F) (w v : WorldState) : Type 0 where
    told : List Told
    goes : Goes answers until events told fate f w v
    octets : AreTold told

  courses_told : (until : ℕ) (events : List Timed) (ts : List ActTrace) (fate f : F) (w v : WorldState)
      → Courses answers until events ts fate f w v → AllTellOctets ts → IsToldSo until events fate f w v
  courses_told until [] ts fate f w v k all = record {
    told = all_told ts;
    goes = record {
      ahead = k.ahead;
      between = k.between;
      advances = passes_advances answers until ts fate f w k.between k.passes;
      nothing_left = k.nothing_left;
      is = k.is;
    };
    octets = told_octets ts all;
  }
  courses_told until (event ∷ events) ts fate f w v (first, rest, drawn, between, makes, courses, is) all =
      let (front, back) = octets-parts first rest (subst AllTellOctets is all) in
      let more = courses_told until events rest drawn f between v courses back in
      record {
        told = all_told makes.first ++ more.told;
        goes = (
          all_told makes.first,
          more.told,
          drawn,
          between,
          makes_changes answers event first fate drawn w between makes,
          more.goes,
          refl,
        );
        octets = told_behind (all_told makes.first) more.told
            (before_event event first fate drawn w between makes front) more.octets;
      }

-- ---- the lines of frames

-- octets are of a type
type_exists : (octets : List ℕ)
    → ((message : Message) × Reads octets message) ⊎ ((refused : Refused) × RefusesFrame octets refused)
    → (kind : FrameType) × IsOfType octets kind
type_exists octets (inl (message, reads)) = (frame_type_of message, inl (message, reads, refl))
type_exists octets (inr (refused, refuses)) = (Unread, inr (refused, refuses, refl))

done_shown : (at : ℕ) (done : Done) → TellsOctets done → (lines : List (List ℕ)) × ShowsDone at done lines
done_shown at Quiet octets = ([], refl)
done_shown at (Heard clock port answer frame) octets =
    let (kind, is) = type_exists frame.items (frames_are_judged frame.items octets) in
    (frame_line at clock port kind answer frame.items ∷ [], (kind, is, refl))

frames_shown : (told : List Told) → AreTold told → (lines : List (List ℕ)) × ShowsFrames told lines
frames_shown [] all = ([], refl)
frames_shown (one ∷ told) all =
    let (first, shows) = done_shown one.timed.at one.done all.0 in
    let (rest, others) = frames_shown told all.1 in
    (first ++ rest, (first, rest, shows, others, refl))

-- where they are asked for
shown_if : (frames : Bool) (told : List Told) → AreTold told → (lines : List (List ℕ)) × ShowsIf frames told lines
shown_if true told all = frames_shown told all
shown_if false told all = ([], refl)

-- ---- the report

change_line_by : (d : DocumentState) → Dec (IsCalm d.network d.events) → (line : List ℕ) × IsChangeLine d line
change_line_by d (yes calm) = (calm_line d, inl (calm, refl))
change_line_by d (no restless) = (restless_line d, inr (restless, refl))

-- systems with these clocks have lines
systems_shown : (names : List ℕ) (w : WorldState)
    → ((place name : ℕ) → slice_get names place ≡ Some name → AtSystem name w AnySystem)
    → (lines : List (List ℕ)) × ShowsSystems names w lines
systems_shown [] w each = ([], refl)
systems_shown (name ∷ names) w each =
    let at = each zero name refl in
    let (rest, shows) = systems_shown names w (λ place. each (suc place)) in (
      system_lines at.station ++ rest,
      (rest, record { place = at.place; station = at.station; is = at.is; so = refl }, shows),
    )

pub report_exists : (d : DocumentState) (until : ℕ) (w : WorldState)
    → (report : List (List ℕ)) × Reports d until w report
report_exists d until w =
    let (line, change) = change_line_by d (calm_dec d.network d.events) in
    let (systems, shows) = systems_shown (rising_clocks w) w (rising_clocks-at w) in (
      time_line until ∷ line ∷ systems,
      record { change = line; changes = change; systems = systems; shows = shows; are = refl },
    )

-- ---- what a document leads to

-- so it has the lines of its frames, and a report
pub documents_lead : {F : Type 0} (answers : Bounds → ℕ → F → Option ℕ → F → Type 0) → DocumentsLead answers
documents_lead answers all d until frames fate is inject moment =
    let whole =
    has_unfolded answers (beginnings_exist answers) all (acts_exist answers) d until fate is inject moment in
    let k = whole.unfolds in
    let so = courses_told answers until (events_by until d.events) whole.ts k.started k.drawn whole.start whole.after
    k.courses whole.octets in
    let (lines, shows) = shown_if frames so.told so.octets in (
      whole.after,
      lines,
      record {
        told = so.told;
        plays = record {
          started = k.started;
          start = whole.start;
          begun = k.begun;
          drawn = k.drawn;
          goes = so.goes;
        };
        shows = shows;
      },
      report_exists d until whole.after,
    )
