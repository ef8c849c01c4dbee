-- What an observer keeps and tells of a chain of acts.
use Rattle.std.proofs.Common.{◌≡◌, ◌⊎◌, inl, inr, ◌==◌, arith, ℕ, Bool, true, false, not, List, [], ◌∷◌, ◌++◌, Option, Some, None, is_some, slice_get, refl, sym, ap, subst, ◌∙◌, append-nil}
use Rattle.std.specs.Option.{option_map_or}
use Rattle.std.proofs.lemmas.Bool.Decides.{nat_tests}
use Rattle.std.proofs.lemmas.Option.{none-some, same_Some}
use Rattle.gptp_model.specs.declared.done.Done.{Done}
use Rattle.gptp_model.specs.declared.done.Done.TheVariants.{Heard, Quiet}
use Rattle.gptp_model.specs.Act.{TimerRunsOut}
use Rattle.gptp_model.specs.Acts.{AnySystem, at, Acts}
use Rattle.gptp_graph.specs.Order.{IsRising}
use Rattle.gptp_links.specs.Fate.{Draw}
use Rattle.gptp_lists.specs.Members.{In}
use Rattle.gptp_lists.proofs.SystemSpecLemmas.{slice_get-In}
use Rattle.gptp_scenario.specs.declared.change.Change.{Change}
use Rattle.gptp_scenario.specs.declared.change.Act.{Act}
use Rattle.gptp_scenario.specs.declared.change.Act.TheVariants.{Change as Changing, Deliver, Expire}
use Rattle.gptp_world.specs.Transitions.{ActTrace}
use Rattle.gptp_system.specs.declared.answer.Answer.{Answer}
use Rattle.gptp_timeline.specs.EventLine.{event_line}
use Rattle.gptp_timeline.specs.Compared.{compared_by_expiry, compared_by_frame}
use Rattle.gptp_timeline.specs.Receipts.{received_by, receiver_clock}
use Rattle.gptp_timeline.specs.Stretch.{at_of, is_change, is_event, receives}
use Rattle.gptp_timeline.specs.Timeline.{all_changes, event_lines, offset_lines}
use Rattle.gptp_timeline.specs.Watch.{event_look, lines_all, see_act, see_system, seen_lines, watched_lines, unless, WatchState}
use Rattle.gptp_timeline.specs.declared.compared.Compared.TheVariants.{All}
use Rattle.gptp_timeline.specs.declared.timeline.TimelineOptions.{TimelineOptions}
use Rattle.gptp_timeline.proofs.ActLemmas.{delivery_others, delivery_stands, expiry_others, OthersStay}
use Rattle.gptp_timeline.proofs.ActStepLemmas.{own_lines, own_step, receipt_step}
use Rattle.gptp_timeline.proofs.HeardLemmas.{receiver_is}
use Rattle.gptp_timeline.proofs.AtRestLemmas.{AllFollow}
use Rattle.gptp_timeline.proofs.ComparedLemmas.{delivery_left, expiry_left}
use Rattle.gptp_timeline.proofs.StillLemmas.{looked_same}
use Rattle.gptp_timeline.proofs.NameLemmas.{AreNamed, one_named, same_named}
use Rattle.gptp_timeline.proofs.StepLemmas.{errors_next, event_changes, event_step, Tracks}
use Rattle.gptp_timeline.proofs.TrackLemmas.{unless_both}

no_more : (offsets : Bool) (lines : List (List ℕ)) → lines ++ unless (not offsets) [] ≡ lines
no_more true lines = append-nil lines
no_more false lines = append-nil lines

module _ (options : TimelineOptions) (from : Option ℕ) (names : List ℕ) (rising : IsRising names)
    (begun : ℕ → Option ℕ) (errors : ℕ → Option ℕ) (ts : List ActTrace) (t : ActTrace) (o : WatchState)
    (tracks : Tracks options.summary options.offsets from names begun errors ts t.before o) where
  abbrev pub Stepped : Act → Done → Type 0
  Stepped act done =
      Tracks options.summary options.offsets from names begun (errors_next from t errors) (ts ++ t ∷ []) t.after
      (see_act (at_of t) act done t.after o)
      × (seen_lines (at_of t) act done t.after o
      ≡ unless options.summary (event_lines (at_of t) act ++ all_changes names t)
      ++ unless (not options.offsets) (offset_lines t (received_by done)))

  quiet_of : (clock : ℕ) → received_by t.told.done ≡ Some clock → (name : ℕ) → (name ≡ clock → ⊥)
      → receives name t ≡ false
  quiet_of clock it name apart =
      let test : clock == name ≡ false = grind (arith, nat_tests) in
      ap (λ r. option_map_or (λ c. c == name) r false) it ∙ test

  none_of : received_by t.told.done ≡ None → (name : ℕ) → receives name t ≡ false
  none_of nobody name = ap (λ r. option_map_or (λ c. c == name) r false) nobody

  by_event : (change : Change) → t.told.timed.act ≡ Changing change → t.told.done ≡ Quiet
      → Stepped (Changing change) Quiet
  by_event change act quiet = (
    event_step options.summary options.offsets from names begun errors ts t o tracks quiet (ap is_change act),
    ap (λ s. unless s (event_line (at_of t) change ∷ []) ++ lines_all (event_look (at_of t)) t.after o)
        tracks.summary_is
        ∙ ap (λ ls. unless options.summary (event_line (at_of t) change ∷ []) ++ ls)
        (event_changes options.summary options.offsets from names begun errors ts t o tracks)
        ∙ unless_both options.summary (event_line (at_of t) change ∷ []) (all_changes names t)
        ∙ sym (no_more options.offsets (unless options.summary (event_line (at_of t) change ∷ all_changes names t))),
  )

  -- a system that receives no time
  own_quiet : (clock i : ℕ) → slice_get names i ≡ Some clock → is_event t ≡ false → OthersStay clock t.before t.after
      → received_by t.told.done ≡ None
      → Tracks options.summary options.offsets from names begun (errors_next from t errors) (ts ++ t ∷ []) t.after
      (see_system (at_of t) t.after clock false All o)
      × (watched_lines (at_of t) t.after clock false All o
      ≡ unless options.summary (all_changes names t) ++ unless (not options.offsets) [])
  own_quiet clock i member act others nobody = (
    own_step options.summary options.offsets from names rising begun errors ts t clock i member act others
        (λ name apart. none_of nobody name) o tracks nobody,
    own_lines options.summary options.offsets from names rising begun errors ts t clock i member act others
        (λ name apart. none_of nobody name) o false tracks
        ∙ append-nil (unless options.summary (all_changes names t))
        ∙ sym (no_more options.offsets (unless options.summary (all_changes names t))),
  )

  -- one that receives time
  own_receipt : (clock i : ℕ) → slice_get names i ≡ Some clock → is_event t ≡ false → OthersStay clock t.before t.after
      → received_by t.told.done ≡ Some clock
      → Tracks options.summary options.offsets from names begun (errors_next from t errors) (ts ++ t ∷ []) t.after
      (see_system (at_of t) t.after clock true All o)
      × (watched_lines (at_of t) t.after clock true All o
      ≡ unless options.summary (all_changes names t) ++ unless (not options.offsets) (offset_lines t (Some clock)))
  own_receipt clock i member act others it = (
    receipt_step options.summary options.offsets from names rising begun errors ts t clock i member act others
        (quiet_of clock it) o tracks it,
    own_lines options.summary options.offsets from names rising begun errors ts t clock i member act others
        (quiet_of clock it) o true tracks,
  )

  -- who receives time is the system that the act is at, or nobody
  own_stepped : (clock i : ℕ) (received : Option ℕ) → slice_get names i ≡ Some clock → is_event t ≡ false
      → OthersStay clock t.before t.after → received_by t.told.done ≡ received
      → (received ≡ Some clock) ⊎ (received ≡ None)
      → Tracks options.summary options.offsets from names begun (errors_next from t errors) (ts ++ t ∷ []) t.after
      (see_system (at_of t) t.after clock (is_some received) All o)
      × (watched_lines (at_of t) t.after clock (is_some received) All o
      ≡ unless options.summary (all_changes names t) ++ unless (not options.offsets) (offset_lines t received))
  own_stepped clock i received member act others is (inl it) =
      rw it (own_receipt clock i member act others (is ∙ it))
  own_stepped clock i received member act others is (inr none) =
      rw none (own_quiet clock i member act others (is ∙ none))

  -- an act that was done
  pub done_step : (act : Act) (done : Done) (draws : List Draw) → AreNamed names t.before
      → AllFollow t.before.stations → t.told.timed.act ≡ act → t.told.done ≡ done
      → Acts act (at (at_of t) t.before) draws done t.after → Stepped act done
  done_step (Deliver link direction) Quiet draws named follow act_is done_is d = absurd d.told
  done_step (Deliver link direction) (Heard clock port answer frame) draws named follow act_is done_is d =
      let (i, member) = slice_get-In clock names
      (one_named names (at (at_of t) t.before) clock AnySystem
      (same_named names t.before (at (at_of t) t.before) refl named)
      (delivery_stands link direction (Heard clock port answer frame) (at (at_of t) t.before) draws t.after d)) in
      let (sees, tells) = looked_same options.summary options.offsets from names begun errors ts t o tracks clock
      (is_some (receiver_clock clock answer frame.items)) (compared_by_frame port frame.items)
      (delivery_left link direction clock port answer frame (at (at_of t) t.before) draws t.after follow d) in
      let (tracked, told) = own_stepped clock i (receiver_clock clock answer frame.items) member (ap is_change act_is)
      (delivery_others link direction (Heard clock port answer frame) (at (at_of t) t.before) draws t.after d)
      (ap received_by done_is) (receiver_is clock answer frame.items) in (
        subst (Tracks options.summary options.offsets from names begun (errors_next from t errors) (ts ++ t ∷ [])
            t.after) (sym sees) tracked,
        tells ∙ told,
      )
  done_step (Expire clock timer) done draws named follow act_is done_is (quiet, stands) =
      let (i, member) = slice_get-In clock names (one_named names (at (at_of t) t.before) clock
      (λ place station. TimerRunsOut place timer (at (at_of t) t.before) draws t.after)
      (same_named names t.before (at (at_of t) t.before) refl named) stands) in
      let (sees, tells) = looked_same options.summary options.offsets from names begun errors ts t o tracks clock false
      (compared_by_expiry timer)
      (expiry_left clock timer (at (at_of t) t.before) draws t.after follow stands) in
      let (tracked, told) = own_quiet clock i member (ap is_change act_is)
      (expiry_others clock timer (at (at_of t) t.before) draws t.after stands) (ap received_by (done_is ∙ quiet)) in
      subst (Stepped (Expire clock timer)) (sym quiet) (
        subst (Tracks options.summary options.offsets from names begun (errors_next from t errors) (ts ++ t ∷ [])
            t.after) (sym sees) tracked,
        tells ∙ told,
      )
  done_step (Changing change) done draws named follow act_is done_is (quiet, changes) =
      subst (Stepped (Changing change)) (sym quiet) (by_event change act_is (done_is ∙ quiet))

-- ---- no other system receives time

module _ (names : List ℕ) (t : ActTrace) (named : AreNamed names t.before) where
  none_receives : (received : Option ℕ) → received_by t.told.done ≡ received
      → ((clock : ℕ) → received ≡ Some clock → In clock names) → (name : ℕ) → (In name names → ⊥)
      → receives name t ≡ false
  none_receives None is among name stranger = ap (λ r. option_map_or (λ c. c == name) r false) is
  none_receives (Some clock) is among name stranger =
      let apart : clock ≡ name → ⊥ = λ same. stranger (subst (λ c. In c names) same (among clock refl)) in
      let test : clock == name ≡ false = grind (arith, nat_tests, apart) in
      ap (λ r. option_map_or (λ c. c == name) r false) is ∙ test

  receiver_named : (clock : ℕ) (answer : Option Answer) (octets : List ℕ) → In clock names → (c : ℕ)
      → receiver_clock clock answer octets ≡ Some c → In c names
  receiver_named clock answer octets among c it = elim (receiver_is clock answer octets) [
    | inl own ↦ subst (λ n. In n names) (same_Some clock c (sym own ∙ it)) among
    | inr none ↦ absurd (none-some c (sym none ∙ it))
  ]

  pub strangers : (act : Act) (done : Done) (draws : List Draw) → t.told.done ≡ done
      → Acts act (at (at_of t) t.before) draws done t.after → (name : ℕ) → (In name names → ⊥)
      → receives name t ≡ false
  strangers (Deliver link direction) Quiet draws is d = absurd d.told
  strangers (Deliver link direction) (Heard clock port answer frame) draws is d =
      none_receives (receiver_clock clock answer frame.items) (ap received_by is)
      (receiver_named clock answer frame.items (one_named names (at (at_of t) t.before) clock AnySystem
      (same_named names t.before (at (at_of t) t.before) refl named)
      (delivery_stands link direction (Heard clock port answer frame) (at (at_of t) t.before) draws t.after d)))
  strangers (Expire clock timer) done draws is (quiet, stands) =
      none_receives None (ap received_by (is ∙ quiet)) (λ c it. absurd (none-some c it))
  strangers (Changing change) done draws is (quiet, changes) =
      none_receives None (ap received_by (is ∙ quiet)) (λ c it. absurd (none-some c it))
