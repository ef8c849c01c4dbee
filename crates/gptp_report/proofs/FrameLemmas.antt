-- A document that is played before an observer that writes the lines of frames is run.
use Rattle.std.proofs.Common.{◌≡◌, ◌⊎◌, ℕ, Bool, true, false, List, [], ◌∷◌, ◌++◌, nat_le, Option, inl, inr, refl, ap, sym, subst, ◌∙◌, append_assoc, append-nil}
use Rattle.std.specs.List.{AllByRecursion}
use Rattle.gptp_links.specs.declared.bounds.Bounds.{Bounds}
use Rattle.gptp_scenario.specs.declared.change.Act.TheVariants as acts
use Rattle.gptp_scenario.specs.declared.change.Change.{Change}
use Rattle.gptp_scenario.specs.declared.change.Timed.{Timed}
use Rattle.gptp_scenario.specs.Network.{NetworkState}
use Rattle.gptp_model.specs.declared.done.Done.{Done}
use Rattle.gptp_model.specs.declared.done.Done.TheVariants.{Quiet}
use Rattle.gptp_model.specs.Acts.{at, Acts}
use Rattle.gptp_model.specs.Advancing.{Told}
use Rattle.gptp_model.specs.Course.{Begun, WasDone}
use Rattle.gptp_model.specs.World.{WorldState}
use Rattle.gptp_network.specs.Document.{DocumentState}
use Rattle.gptp_network.specs.Events.{AreEvents, IsEvent}
use Rattle.gptp_network.specs.Snapshot.{events_by}
use Rattle.gptp_report.specs.declared.frames.Frames.{Frames}
use Rattle.gptp_report.specs.FrameLine.{frame_line, IsOfType}
use Rattle.gptp_report.specs.declared.frame_line.FrameType.{FrameType}
use Rattle.gptp_report.specs.Following.{tells_frames, ShowsDoneIf}
use Rattle.gptp_world.specs.Observing.{Observed, Tells}
use Rattle.gptp_report.specs.Run.{BreaksOff, Changed, Goes, GoesSoFar, LeadsSoFar, LeadsTo, ShowsDone, ShowsFrames, ShowsIf}
use Rattle.gptp_report.specs.Transitions.{Breaks, Courses, CoursesSoFar, Makes, ActTrace}
use Rattle.gptp_words.specs.Lines.{text_of}
use Rattle.gptp_system.specs.declared.answer.Answer.{Answer}
use Rattle.gptp_world.proofs.FollowLemmas.{all_told, passes_advances}

-- the line of a frame that was heard
pub heard_shown : (at clock port : ℕ) (answer : Option Answer) (frame octets : List ℕ) (So : List ℕ → Type 0)
    → octets ≡ frame
    → (kind : FrameType) × IsOfType octets kind × So (text_of (frame_line at clock port kind answer octets ∷ []))
    → (lines : List (List ℕ))
    × ((sort : FrameType) × IsOfType frame sort × (lines ≡ frame_line at clock port sort answer frame ∷ []))
    × So (text_of lines)
heard_shown at clock port answer frame octets So same (kind, is, so) = (
  frame_line at clock port kind answer frame ∷ [],
  (kind, subst (λ o. IsOfType o kind) same is, refl),
  subst (λ o. So (text_of (frame_line at clock port kind answer o ∷ []))) same so,
)

-- ---- lines

-- the lines of all acts, where they are asked for
abbrev ShowsAll : Bool → List ActTrace → List (List ℕ) → Type 0
ShowsAll asked [] lines = lines ≡ []
ShowsAll asked (t ∷ ts) lines = (first : List (List ℕ)) × (rest : List (List ℕ))
    × ShowsDoneIf asked t.told.timed.at t.told.done first × ShowsAll asked ts rest × (lines ≡ first ++ rest)

tells_all : (ts : List ActTrace) (o o_after : Frames) (lines : List (List ℕ)) → Tells tells_frames ts o o_after lines
    → ShowsAll o.asked ts lines
tells_all [] o o_after lines (same, none) = none
tells_all (t ∷ ts) o o_after lines (between, first, rest, (same, one), others, is) = (
  first,
  rest,
  one,
  subst (λ (b : Frames). ShowsAll b.asked ts rest) same (tells_all ts between o_after rest others),
  is,
)

-- the lines of some acts and of more after them, apart
record Parted (asked : Bool) (ts more : List ActTrace) (lines : List (List ℕ)) : Type 0 where
  front : List (List ℕ)
  back : List (List ℕ)
  first : ShowsAll asked ts front
  second : ShowsAll asked more back
  are : lines ≡ front ++ back

parted : (asked : Bool) (ts more : List ActTrace) (lines : List (List ℕ)) → ShowsAll asked (ts ++ more) lines
    → Parted asked ts more lines
parted asked [] more lines shows =
    record { front = []; back = lines; first = refl; second = shows; are = refl }
parted asked (t ∷ ts) more lines (first, rest, one, others, is) =
    let h = parted asked ts more rest others in record {
      front = first ++ h.front;
      back = h.back;
      first = (first, h.front, one, h.first, refl);
      second = h.second;
      are = is ∙ ap (λ zs. first ++ zs) h.are ∙ sym (append_assoc first h.front h.back);
    }

shows_frames : (asked : Bool) (ts : List ActTrace) (lines : List (List ℕ)) → ShowsAll asked ts lines
    → ShowsIf asked (all_told ts) lines
shows_frames true [] lines none = none
shows_frames false [] lines none = none
shows_frames true (t ∷ ts) lines (first, rest, one, others, is) =
    (first, rest, one, shows_frames true ts rest others, is)
shows_frames false (t ∷ ts) lines (first, rest, one, others, is) =
    is ∙ ap (λ zs. zs ++ rest) one ∙ shows_frames false ts rest others

-- the lines of what was told, and then of what was told after it
shows-append : (told more : List Told) (xs ys : List (List ℕ)) → ShowsFrames told xs → ShowsFrames more ys
    → ShowsFrames (told ++ more) (xs ++ ys)
shows-append [] more xs ys none rest = subst (λ zs. ShowsFrames more (zs ++ ys)) (sym none) rest
shows-append (t ∷ ts) more xs ys (first, back, one, shows, is) rest = (
  first,
  back ++ ys,
  one,
  shows-append ts more back ys shows rest,
  ap (λ zs. zs ++ ys) is ∙ append_assoc first back ys,
)

shows_if-append : (frames : Bool) (told more : List Told) (xs ys : List (List ℕ)) → ShowsIf frames told xs
    → ShowsIf frames more ys → ShowsIf frames (told ++ more) (xs ++ ys)
shows_if-append true told more xs ys front back = shows-append told more xs ys front back
shows_if-append false told more xs ys front back = rw front back

-- no frame is heard in a change
quiet_shown : (asked : Bool) (at : ℕ) (done : Done) (lines : List (List ℕ)) → done ≡ Quiet
    → ShowsDoneIf asked at done lines → lines ≡ []
quiet_shown true at done lines quiet shows = subst (λ d. ShowsDone at d lines) quiet shows
quiet_shown false at done lines quiet none = none

-- ---- acts

-- the event is a change
abbrev IsChanging : Timed → Type 0
IsChanging timed = (change : Change) × (timed.act ≡ acts.Change change)

module _ {F : Type 0} (answers : Bounds → ℕ → F → Option ℕ → F → Type 0) where
  made_quiet : (event : Timed) (fate fate_after : F) (w w' : WorldState) (done : Done) → IsChanging event
      → WasDone answers event fate fate_after w w' done → done ≡ Quiet
  made_quiet event fate fate_after w w' done (change, is) was =
      (subst (λ a. Acts a (at event.at w) was.draws done w') is was.acts).0

  pub makes_changes : (event : Timed) (ts : List ActTrace) (fate fate_after : F) (w w' : WorldState)
      (k : Makes answers event ts fate fate_after w w')
      → Changed answers event (all_told k.first) fate fate_after w w'
  makes_changes event ts fate fate_after w w' k = record {
    drawn = k.drawn;
    between = k.between;
    advanced = record {
      ahead = k.passes.ahead;
      between = k.passes.between;
      advances = passes_advances answers event.at k.first fate k.drawn w k.passes.between k.passes.passes;
      nothing_left = k.passes.nothing_left;
      is = k.passes.is;
    };
    done = k.done;
    changed = k.made;
  }

  -- the lines of what is due by the time of an event, which itself shows none
  before_event : (asked : Bool) (event : Timed) (ts : List ActTrace) (fate fate_after : F) (w w' : WorldState)
      (lines : List (List ℕ)) (k : Makes answers event ts fate fate_after w w') → IsChanging event
      → ShowsAll asked ts lines → ShowsIf asked (all_told k.first) lines
  before_event asked event ts fate fate_after w w' lines k changing shows =
      let h = parted asked k.first (_ ∷ []) lines (subst (λ xs. ShowsAll asked xs lines) k.are shows) in
      let quiet = made_quiet event k.drawn fate_after k.between w' k.done changing k.made in
      let last : h.back ≡ [] = alone h.second.0 h.second.1 quiet h.second.2 h.second.3 h.second.4 in
      subst (ShowsIf asked (all_told k.first)) (sym (h.are ∙ ap (λ zs. h.front ++ zs) last ∙ append-nil h.front))
      (shows_frames asked k.first h.front h.first)
    where
      alone : {back : List (List ℕ)} (first rest : List (List ℕ)) → k.done ≡ Quiet
          → ShowsDoneIf asked event.at k.done first → rest ≡ [] → back ≡ first ++ rest → back ≡ []
      alone first rest quiet one none is =
          is ∙ ap (λ zs. zs ++ rest) (quiet_shown asked event.at k.done first quiet one) ∙ none

  -- ---- documents

  -- what a document does, told of its frames
  record Runs (asked : Bool) (until : ℕ) (events : List Timed) (fate fate_after : F) (w w' : WorldState)
      (lines : List (List ℕ)) : Type 0 where
    told : List Told
    goes : Goes answers until events told fate fate_after w w'
    shows : ShowsIf asked told lines

  courses_run : (asked : Bool) (until : ℕ) (events : List Timed) (ts : List ActTrace) (fate fate_after : F)
      (w w' : WorldState) (lines : List (List ℕ)) → AllByRecursion IsChanging events
      → Courses answers until events ts fate fate_after w w' → ShowsAll asked ts lines
      → Runs asked until events fate fate_after w w' lines
  courses_run asked until [] ts fate fate_after w w' lines changing k shows = record {
    told = all_told ts;
    goes = record {
      ahead = k.ahead;
      between = k.between;
      advances = passes_advances answers until ts fate fate_after w k.between k.passes;
      nothing_left = k.nothing_left;
      is = k.is;
    };
    shows = shows_frames asked ts lines shows;
  }
  courses_run asked until (event ∷ events) ts fate fate_after w w' lines changing
      (first, rest, drawn, between, makes, courses, is) shows =
      let h = parted asked first rest lines (subst (λ xs. ShowsAll asked xs lines) is shows) in
      let more = courses_run asked until events rest drawn fate_after between w' h.back changing.1 courses h.second in
      let front = before_event asked event first fate drawn w between h.front makes changing.0 h.first in record {
        told = all_told makes.first ++ more.told;
        goes = (
          all_told makes.first,
          more.told,
          drawn,
          between,
          makes_changes event first fate drawn w between makes,
          more.goes,
          refl,
        );
        shows = subst (ShowsIf asked (all_told makes.first ++ more.told)) (sym h.are)
            (shows_if-append asked (all_told makes.first) more.told h.front h.back front more.shows);
      }

  record RunsSoFar (asked : Bool) (until : ℕ) (events : List Timed) (fate : F) (w : WorldState)
      (lines : List (List ℕ)) : Type 0 where
    told : List Told
    goes : GoesSoFar answers until events told fate w
    shows : ShowsIf asked told lines

  break_off : (asked : Bool) (until : ℕ) (ts : List ActTrace) (fate : F) (w : WorldState)
      → Breaks answers until ts fate w → BreaksOff answers until (all_told ts) fate w
  break_off asked until ts fate w k = record {
    fate_after = k.fate_after;
    after = k.after;
    advances = passes_advances answers until ts fate k.fate_after w k.after k.passes;
  }

  courses_run_so_far : (asked : Bool) (until : ℕ) (events : List Timed) (ts : List ActTrace) (fate : F)
      (w : WorldState) (lines : List (List ℕ)) → AllByRecursion IsChanging events
      → CoursesSoFar answers until events ts fate w → ShowsAll asked ts lines
      → RunsSoFar asked until events fate w lines
  courses_run_so_far asked until [] ts fate w lines changing k shows = record {
    told = all_told ts;
    goes = break_off asked until ts fate w k;
    shows = shows_frames asked ts lines shows;
  }
  courses_run_so_far asked until (event ∷ events) ts fate w lines changing (inl k) shows = record {
    told = all_told ts;
    goes = inl (break_off asked event.at ts fate w k);
    shows = shows_frames asked ts lines shows;
  }
  courses_run_so_far asked until (event ∷ events) ts fate w lines changing
      (inr (first, rest, drawn, between, makes, courses, is)) shows =
      let h = parted asked first rest lines (subst (λ xs. ShowsAll asked xs lines) is shows) in
      let more = courses_run_so_far asked until events rest drawn between h.back changing.1 courses h.second in
      let front = before_event asked event first fate drawn w between h.front makes changing.0 h.first in record {
        told = all_told makes.first ++ more.told;
        goes = inr (
          all_told makes.first,
          more.told,
          drawn,
          between,
          makes_changes event first fate drawn w between makes,
          more.goes,
          refl,
        );
        shows = subst (ShowsIf asked (all_told makes.first ++ more.told)) (sym h.are)
            (shows_if-append asked (all_told makes.first) more.told h.front h.back front more.shows);
      }

  -- the events of a document are changes
  one_changing : (until : ℕ) (event : Timed) (events : List Timed) (due : Bool) → nat_le event.at until ≡ due
      → IsChanging event → AllByRecursion IsChanging (events_by until events)
      → AllByRecursion IsChanging (events_by until (event ∷ events))
  one_changing until event events true is one rest = rw is (one, rest)
  one_changing until event events false is one rest = rw is rest

  are_changing : (n : NetworkState) (until : ℕ) (events : List Timed) → AllByRecursion (IsEvent n) events
      → AllByRecursion IsChanging (events_by until events)
  are_changing n until [] all = tt
  are_changing n until (event ∷ events) all =
      one_changing until event events (nat_le event.at until) refl (all.0.change, all.0.act)
      (are_changing n until events all.1)

  -- ---- the whole

  pub leads_to : (d : DocumentState) (until : ℕ) (o o_after : Frames) (fate started drawn : F)
      (start world : WorldState) (So : List ℕ → Type 0) (ts : List ActTrace) → AreEvents d.network d.events
      → Begun answers d.network fate started start
      → Courses answers until (events_by until d.events) ts started drawn start world
      → Observed tells_frames ts o o_after So
      → (lines : List (List ℕ)) × LeadsTo answers d until o.asked fate world lines × So (text_of lines)
  leads_to d until o o_after fate started drawn start world So ts events begun courses observed =
      let runs = courses_run o.asked until (events_by until d.events) ts started drawn start world observed.lines
      (are_changing d.network until d.events events.each) courses
      (tells_all ts o o_after observed.lines observed.are) in (
        observed.lines,
        record {
          told = runs.told;
          plays = record { started = started; start = start; begun = begun; drawn = drawn; goes = runs.goes };
          shows = runs.shows;
        },
        observed.so,
      )

  pub leads_so_far : (d : DocumentState) (until : ℕ) (o o_after : Frames) (fate started : F) (start : WorldState)
      (So : List ℕ → Type 0) (ts : List ActTrace) → AreEvents d.network d.events
      → Begun answers d.network fate started start
      → CoursesSoFar answers until (events_by until d.events) ts started start
      → Observed tells_frames ts o o_after So
      → (lines : List (List ℕ)) × ((lines ≡ []) ⊎ LeadsSoFar answers d until o.asked fate lines) × So (text_of lines)
  leads_so_far d until o o_after fate started start So ts events begun courses observed =
      let runs = courses_run_so_far o.asked until (events_by until d.events) ts started start observed.lines
      (are_changing d.network until d.events events.each) courses
      (tells_all ts o o_after observed.lines observed.are) in (
        observed.lines,
        inr (record {
          told = runs.told;
          started = started;
          start = start;
          begun = begun;
          goes = runs.goes;
          shows = runs.shows;
        }),
        observed.so,
      )
