-- A run that goes on from one so far is a run from the start.
use Rattle.std.proofs.Common.{◌≡◌, ◌≢◌, ◌<◌, ◌≤◌, ℕ, zero, suc, Bool, true, false, length, List, [], ◌∷◌, ◌++◌, drop, Option, Some, None, refl, sym, ap, ap₂, subst, ◌∙◌, append-nil, length-append, arith}
use Rattle.std.proofs.lemmas.Bool.Decides.{nat_tests}
use Rattle.std.proofs.lemmas.List.{drop-append-le, drop_all}
use Rattle.std.proofs.lemmas.List.Elements.{filter-append}
use Rattle.std.specs.List.{AllByRecursion, range_with_len}
use Rattle.gptp_links.specs.declared.bounds.Bounds.{Bounds}
use Rattle.gptp_setup.specs.Intervals.{interval_of}
use Rattle.gptp_scenario.specs.Allowed.{AreAllowed, IsAllowed}
use Rattle.gptp_scenario.specs.Calm.{last_change}
use Rattle.gptp_scenario.specs.Network.{IsNetwork, smallest_of}
use Rattle.gptp_scenario.specs.Prompt.{ArePromptActs, DelayFitsInterval}
use Rattle.gptp_scenario.specs.declared.change.Timed.{Timed}
use Rattle.gptp_model.specs.Acts.{at}
use Rattle.gptp_model.specs.Course.{Begun}
use Rattle.gptp_model.specs.Initial.{initial}
use Rattle.gptp_model.specs.Prompt.{NoneFaster}
use Rattle.gptp_model.specs.Sound.{HaveTheirSetups, IsSound}
use Rattle.gptp_model.specs.Views.{rising_clocks}
use Rattle.gptp_model.specs.World.{WorldState}
use Rattle.gptp_model.proofs.PromptLemmas.{all_prompt, begun_none_faster, stays_none_faster}
use Rattle.gptp_model.proofs.SoundLemmas.{starts_sound}
use Rattle.gptp_model.proofs.StayLemmas.{same_stays, stays_on, stays_setups, Stays}
use Rattle.gptp_network.specs.Document.{DocumentState}
use Rattle.gptp_network.specs.Events.{AreInOrder}
use Rattle.gptp_network.specs.Snapshot.{events_by}
use Rattle.gptp_accuracy.specs.Settlings.{settling_of}
use Rattle.gptp_report.proofs.RunLemmas.{passed_stays}
use Rattle.gptp_world.specs.Observing.{Tells}
use Rattle.gptp_world.specs.Transitions.{PassesTo, ActTrace}
use Rattle.gptp_world.proofs.InitialLemmas.{initial_sound}
use Rattle.gptp_timeline.specs.Aside.{aside_begun, AsideState, nobody_aside}
use Rattle.gptp_timeline.specs.LastStretches.{carry_begun, carry_over, CarriedAside, end_begun, end_of, EndsOf, first_aside, kept_after, last_behind, none_kept, none_last, with_end}
use Rattle.gptp_timeline.specs.Limits.{no_limits}
use Rattle.gptp_timeline.specs.Passing.{AllAreSeen, EarlierAreSeen, first_time, MayPass, OneIsSeen, Standing, standing, StretchIsSeen, watch_at_start, watch_before}
use Rattle.gptp_timeline.specs.RunSoFar.{GoesOnFrom, RunUpTo, summary_of}
use Rattle.gptp_timeline.specs.Timeline.{AllPass, Carried, end_before, end_lines, is_begun, IsPassage, IsTimelinePlan, later_than, none_carried, now_of, StretchTrace, tracks, exact_time}
use Rattle.gptp_timeline.specs.Watch.{tells_changes, watch_begun, WatchState, with_aside}
use Rattle.gptp_timeline.specs.declared.ends.StretchesSoFar.{StretchesSoFar}
use Rattle.gptp_timeline.specs.declared.run_so_far.RunSoFar.{RunSoFar}
use Rattle.gptp_timeline.specs.declared.timeline.Plan.{Plan}
use Rattle.gptp_timeline.specs.declared.timeline.TimelineOptions.{TimelineOptions}
use Rattle.gptp_timeline.proofs.ChainLemmas.{passes_to_chain}
use Rattle.gptp_timeline.proofs.CutLemmas.{begun_in, begun_told, courses_on_to, Halts}
use Rattle.gptp_timeline.proofs.EventLemmas.{all_due, all_later, all_now, each_behind, each_in, ends_before, filter_all, first_both, first_so, last_latest, later_by, order_behind, order_front, some_left}
use Rattle.gptp_timeline.proofs.ObservedLemmas.{chained, end_is, IsOfPlan, later_aside, Observes, Rests, start_rests, stretch_begins, stretch_passes, stretch_rests}
use Rattle.gptp_timeline.proofs.PassLemmas.{all_seen, AllGone, courses_stay, earlier_from, GoneSeen}
use Rattle.gptp_timeline.proofs.StretchesSoFarLemmas.{AreAlike, last_alone, last_asked, last_from, last_over, later_all, later_begun, nobody_begun, over_all}

-- ---- stretches of a document with later events

-- what is so of each is so where that is less
all_less : (P Q : Timed → Type 0) (xs : List Timed) → ((x : Timed) → P x → Q x) → AllByRecursion P xs
    → AllByRecursion Q xs
all_less P Q [] less all = tt
all_less P Q (x ∷ xs) less all = (less x all.0, all_less P Q xs less all.1)

module _ {F : Type 0} (answers : Bounds → ℕ → F → Option ℕ → F → Type 0) (d e : DocumentState) (time : ℕ)
    (more : List Timed) (late : AllByRecursion (λ (x : Timed). time ≤ x.at) more) where
  abbrev pub with_more : StretchesSoFar → Standing F → Standing F
  with_more kept s = record s { left = s.left ++ more; kept = kept }

  -- the stretch begins before the time, and the events that are left come before it
  pub record IsEarly (s : Standing F) : Type 0 where
    pub from : s.from < time
    pub left : AllByRecursion (λ (x : Timed). x.at < time) s.left

  -- the events of a stretch that begins earlier are the same, and later ones come behind the others
  module _ (from : ℕ) (left : List Timed) (early : from < time) where
    pub now_same : now_of from (left ++ more) ≡ now_of from left
    now_same =
        filter-append _ left more
        ∙ ap (λ ys. now_of from left ++ ys) (all_later from more (later_by from time more early late)).0
        ∙ append-nil (now_of from left)

    pub later_more : later_than from (left ++ more) ≡ later_than from left ++ more
    later_more =
        filter-append _ left more
        ∙ ap (λ ys. later_than from left ++ ys) (all_later from more (later_by from time more early late)).1

  -- it passes in the other document too
  record OneMore (s t : Standing F) (kept : StretchesSoFar) : Type 0 where
    kept_then : StretchesSoFar
    lines : List (List ℕ)
    seen : OneIsSeen answers false e no_limits (with_more kept s) (with_more kept_then t) lines
    comes : first_time (t.left ++ more) ≡ Some t.from
    early : IsEarly t

  one_more : (s t : Standing F) (lines : List (List ℕ)) (kept : StretchesSoFar) → IsEarly s
      → OneIsSeen answers false d no_limits s t lines → first_time t.left ≡ Some t.from → OneMore s t kept
  one_more s t lines kept early k comes =
      let plan : Plan = record k.plan { settling = settling_of e s.from } in
      let now = now_same s.from s.left early.from in
      let before : AllByRecursion (λ (x : Timed). x.at < time) t.left =
      subst (AllByRecursion (λ (x : Timed). x.at < time)) (sym k.left_is)
      (filter_all (λ (x : Timed). x.at < time) _ s.left early.left) in
      record {
        kept_then = kept_after no_limits (end_of plan t.world t.watch) kept;
        lines = k.told ++ end_lines plan t.world t.watch;
        seen = record {
          left_is = ap (λ xs. xs ++ more) k.left_is ∙ sym (later_more s.from s.left early.from);
          plan = plan;
          known = record {
            from_is = k.known.from_is;
            to_is = k.known.to_is;
            begins_is = k.known.begins_is ∙ ap is_begun (sym now);
            settling_is = refl;
            errors_are = k.known.errors_are;
          };
          told = k.told;
          seen = subst (λ es. StretchIsSeen answers plan es s.fate t.fate s.world t.world s.watch t.watch k.told)
              (sym now) (record { acts = k.seen.acts; courses = k.seen.courses; tells = k.seen.tells });
          kept_is = refl;
          are = refl;
        };
        comes = first_both t.left more t.from comes;
        early = record { from = first_so (λ x. x < time) t.left t.from before comes; left = before };
      }

  -- so do several
  pub record SeveralMore (count : ℕ) (s t : Standing F) (kept : StretchesSoFar) : Type 0 where
    pub kept_then : StretchesSoFar
    pub lines : List (List ℕ)
    pub seen : EarlierAreSeen answers false e no_limits count (with_more kept s) (with_more kept_then t) lines
    pub early : IsEarly t

  pub several_more : (count : ℕ) (s t : Standing F) (lines : List (List ℕ)) (kept : StretchesSoFar) → IsEarly s
      → EarlierAreSeen answers false d no_limits count s t lines → SeveralMore count s t kept
  several_more zero s t lines kept early (same, none) = record {
    kept_then = kept;
    lines = [];
    seen = (ap (with_more kept) same, refl);
    early = subst IsEarly (sym same) early;
  }
  several_more (suc count) s t lines kept early (u, first, rest, k, comes, others, are) =
      let one = one_more s u first kept early k comes in
      let behind = several_more count u t rest one.kept_then one.early others in record {
        kept_then = behind.kept_then;
        lines = one.lines ++ behind.lines;
        seen = (with_more one.kept_then u, one.lines, behind.lines, one.seen, one.comes, behind.seen, refl);
        early = behind.early;
      }

-- ---- what stays

module _ {F : Type 0} (answers : Bounds → ℕ → F → Option ℕ → F → Type 0) (d : DocumentState) where
  -- stretches leave each system with its clock and its parameters
  pub earlier_stay : (count : ℕ) (s t : Standing F) (lines : List (List ℕ)) → HaveTheirSetups s.world
      → EarlierAreSeen answers false d no_limits count s t lines → Stays s.world t.world
  earlier_stay zero s t lines setups (same, none) =
      subst (λ (x : Standing F). Stays s.world x.world) (sym same) (same_stays s.world setups)
  earlier_stay (suc count) s t lines setups (u, first, rest, k, comes, others, are) =
      let one = courses_stay answers k.plan.to (now_of s.from s.left) k.seen.acts s.fate u.fate s.world u.world setups
      k.seen.courses in
      stays_on s.world u.world t.world one
      (earlier_stay count u t rest (stays_setups s.world u.world one) others)

-- a world that begins is sound
pub begun_sound : {F : Type 0} (answers : Bounds → ℕ → F → Option ℕ → F → Type 0) (d : DocumentState)
    (fate fate_after : F) (w : WorldState) → IsNetwork d.network → Begun answers d.network fate fate_after w → IsSound w
begun_sound answers d fate fate_after w network k =
    starts_sound (range_with_len 0 (length d.network.systems)) (initial d.network) k.draws w
    (initial_sound d.network network) k.starts

-- what is carried over, and who is set aside
abbrev both : Carried → AsideState → CarriedAside
both k b = record { carried = k; aside = b }

-- ---- a run goes on

tracks_is : (asked : Bool) → tracks (summary_of asked) ≡ asked
tracks_is true = refl
tracks_is false = refl

module _ {F : Type 0} (answers : Bounds → ℕ → F → Option ℕ → F → Type 0) (p : RunUpTo F) (r : RunSoFar F)
    (e : DocumentState) (until : ℕ) (a : AsideState) (g : GoesOnFrom answers p r e until a) where
  abbrev d : DocumentState
  d = p.document

  abbrev more : List Timed
  more = g.goes.more

  abbrev last : Standing F
  last = g.run.last

  abbrev start : WorldState
  start = g.run.start

  abbrev names : List ℕ
  names = rising_clocks start

  abbrev options : TimelineOptions
  options = summary_of p.asked

  abbrev begins : Standing F
  begins = standing 0 d.events g.run.started start (watch_at_start options nobody_aside start) none_kept

  -- its later events are those behind the first ones
  pub left_is : drop r.events e.events ≡ more
  left_is =
      ap₂ drop g.run.events_are g.goes.events
      ∙ drop-append-le (length d.events) d.events more (omega arith)
      ∙ ap (λ xs. xs ++ more) (drop_all (length d.events) d.events (omega arith))

  pub has_events : r.events ≤ length e.events
  has_events =
      let events = g.run.events_are in let all = ap length g.goes.events in
      omega (arith, events, all, length-append d.events more)

  to_first : end_before until more ≡ g.goes.first
  to_first = ends_before until more g.goes.first g.goes.comes

  first_late : p.at ≤ g.goes.first
  first_late = first_so (λ time. p.at ≤ time) more g.goes.first g.goes.late g.goes.comes

  first_due : g.goes.first ≤ until
  first_due = first_so (λ time. time ≤ until) more g.goes.first g.goes.due g.goes.comes

  pub due_first : end_before until more ≤ until
  due_first = let is = to_first in let soon = first_due in omega (arith, is, soon)

  module _ (network : IsNetwork e.network) (order : AreInOrder e.events) where
    -- ---- what is known of the document

    all_order : AreInOrder (d.events ++ more)
    all_order = subst AreInOrder g.goes.events order

    early : IsEarly answers d e p.at more g.goes.late begins
    early =
        let before = g.run.early in record {
          from = omega (arith, before);
          left = all_less (λ (x : Timed). x.at ≤ last_change d.events) (λ (x : Timed). x.at < p.at) d.events
              (λ x soon. omega (arith, soon, before))
              (last_latest d.events (order_front d.events more all_order));
        }

    all_by : events_by until e.events ≡ d.events ++ more
    all_by =
        let from = first_late in let to = first_due in
        ap (events_by until) g.goes.events ∙ filter-append _ d.events more
        ∙ ap₂ (λ xs ys. xs ++ ys)
        (all_due until d.events (all_less (λ (x : Timed). x.at < p.at) (λ (x : Timed). x.at ≤ until) d.events
        (λ x soon. omega (arith, soon, from, to)) early.left))
        (all_due until more g.goes.due)

    -- ---- the world before its later events

    sound : IsSound start
    sound =
        begun_sound answers d p.fate g.run.started start (subst IsNetwork g.goes.network network) g.run.begun

    stays : Stays start r.world.world_core
    stays =
        let earlier = earlier_stay answers d g.run.count begins last g.run.lines sound.wired.setups g.run.earlier in
        stays_on start last.world r.world.world_core earlier
        (courses_stay answers p.at last.left g.run.acts last.fate r.world.fate last.world r.world.world_core
        (stays_setups start last.world earlier) g.run.courses)

    module _ (to : ℕ) (to_is : to ≡ end_before until more) where
      module _ (acts : List ActTrace) (fate_after : F) (w : WorldState)
          (passes : PassesTo answers to acts r.world.fate fate_after r.world.world_core w) where
        -- the stretches behind the one that was cut can pass
        pub may_go_on : AreAllowed e.events → ArePromptActs (interval_of (smallest_of e.network)) e.events
            → MayPass until to more w
        may_go_on allowed prompt =
            let least = interval_of (smallest_of d.network) in
            let on = stays_on start r.world.world_core w stays
            (passed_stays answers to acts r.world.fate fate_after r.world.world_core w
            (stays_setups start r.world.world_core stays) passes) in
            let none : NoneFaster least w =
            stays_none_faster least start w on
            (begun_none_faster answers d.network p.fate g.run.started start
            (initial_sound d.network (subst IsNetwork g.goes.network network)).wired.setups g.run.begun) in
            let soon = first_due in let is = to_is ∙ to_first in record {
              order = order_behind d.events more all_order;
              due = λ place x there.
                  let is_due = each_in (λ (y : Timed). y.at ≤ until) more g.goes.due place x there in
                  grind (arith, nat_tests);
              within = omega (arith, soon, is);
              allowed = each_behind IsAllowed d.events more (subst AreAllowed g.goes.events allowed);
              prompt = all_prompt least more w none
                  (each_behind (λ (x : Timed). DelayFitsInterval least x.act) d.events more
                  (subst (λ n. ArePromptActs (interval_of (smallest_of n)) (d.events ++ more)) g.goes.network
                  (subst (ArePromptActs (interval_of (smallest_of e.network))) g.goes.events prompt)));
            }

        -- ---- the stretch that was cut

        module _ (plan : Plan) (o : WatchState) (told : List (List ℕ))
            (known : IsTimelinePlan false e r.from to r.begins_with_event plan)
            (tells : Tells tells_changes acts (with_aside (aside_begun r.from a) r.watch) o told) where
          lifted : SeveralMore answers d e p.at more g.goes.late g.run.count begins last none_kept
          lifted =
              several_more answers d e p.at more g.goes.late g.run.count begins last g.run.lines none_kept early
              g.run.earlier

          from_early : last.from < p.at
          from_early = lifted.early.from

          -- where nobody is set aside, and where these are
          abbrev plain : CarriedAside
          plain = first_aside p.asked nobody_aside names

          abbrev chosen : CarriedAside
          chosen = first_aside p.asked a names

          rests : Rests options names plain start begins.watch
          rests =
              subst (λ asked. Rests options names (record { carried = none_carried asked names; aside = nobody_aside })
              start begins.watch) (tracks_is p.asked)
              (start_rests answers d.network p.fate g.run.started options nobody_aside start
              (watch_before options nobody_aside start) g.run.begun sound refl)

          abbrev whole : Standing F
          whole = with_more answers d e p.at more g.goes.late none_kept begins

          gone : GoneSeen answers false e until options names whole plain
              (with_more answers d e p.at more g.goes.late lifted.kept_then last) lifted.lines
          gone =
              earlier_from answers false e until options names whole plain g.run.count
              (with_more answers d e p.at more g.goes.late lifted.kept_then last) lifted.lines rests lifted.seen

          abbrev passages : List StretchTrace
          passages = gone.gone.passages

          abbrev carried : CarriedAside
          carried = over_all passages chosen

          later : last.from < a.from
          later = let first = from_early in let second = g.later in omega (arith, first, second)

          begun_early : (ps : List StretchTrace) → AllByRecursion (λ (q : StretchTrace). q.from ≤ last.from) ps
              → AllByRecursion (λ (q : StretchTrace). q.from < a.from) ps
          begun_early [] all = tt
          begun_early (q ∷ qs) all =
              let first = all.0 in let soon = later in (omega (arith, first, soon), begun_early qs all.1)

          alike : AreAlike a gone.carried carried
          alike =
              subst (λ c. AreAlike a c carried) (sym gone.gone.over)
              (later_all a passages plain chosen (begun_early passages gone.gone.begin)
              (record { carried = refl; nobody = refl; aside = λ time. refl }))

          -- as the stretch that was cut begins
          abbrev begun : CarriedAside
          begun = carry_begun last.from carried

          abbrev aside_now : AsideState
          aside_now = aside_begun last.from a

          begun_is : both (carry_begun last.from gone.carried).carried aside_now ≡ begun
          begun_is =
              let from : carried.aside.from ≡ a.from = ap (λ (b : AsideState). b.from) (alike.aside 0) in
              ap₂ both
              (nobody_begun last.from gone.carried alike.nobody ∙ sym alike.carried
              ∙ sym (later_begun last.from carried (subst (λ time. last.from < time) (sym from) later)))
              (sym (alike.aside last.from))

          halts : Halts answers p.at to last.left g.run.acts acts last.fate r.world.fate fate_after last.world
              r.world.world_core w
          halts =
              courses_on_to answers p.at to last.left g.run.acts acts last.fate r.world.fate fate_after last.world
              r.world.world_core w g.run.courses passes

          abbrev rest : List ActTrace
          rest = begun_in halts.between acts

          -- what the observer keeps where it was cut
          observed : Observes options names begun None (length last.left) g.run.acts r.world.world_core
              (with_aside (aside_begun r.from a) r.watch)
          observed =
              let began = carry_begun last.from gone.carried in
              let o = watch_begun last.from None (length last.left) last.watch in
              subst (λ from. Observes options names begun None (length last.left) g.run.acts r.world.world_core
              (with_aside (aside_begun from a) r.watch)) (sym g.run.from_is)
              (subst (λ c. Observes options names c None (length last.left) g.run.acts r.world.world_core
              (with_aside aside_now r.watch)) begun_is
              (later_aside options names began None (length last.left) g.run.acts r.world.world_core r.watch aside_now
              alike.nobody later
              (stretch_passes options names began answers None p.at last.left g.run.acts last.fate last.world o r.watch
              g.run.told (stretch_begins options names gone.carried last.from None (length last.left) last.world
              last.watch gone.rests) g.run.tells r.world.fate r.world.world_core g.run.courses)))

          observes : Observes options names begun None (length last.left) (g.run.acts ++ rest) w o
          observes =
              (chained options names begun None (length last.left) rest g.run.acts r.world.world_core w
              halts.between.stations w.stations (with_aside (aside_begun r.from a) r.watch) o told
              (sym (ap (λ (v : WorldState). v.stations) halts.is))
              (passes_to_chain answers to rest r.world.fate fate_after halts.between w halts.goes_on) refl
              (begun_told tells_changes halts.between acts (with_aside (aside_begun r.from a) r.watch) o told tells)
              observed).0

          abbrev cut : StretchTrace
          cut = record {
            from = last.from;
            to = to;
            events = last.left;
            acts = g.run.acts ++ rest;
            after = w;
            settling = plan.settling;
            errors = plan.errors;
          }

          of_plan : IsOfPlan plan cut
          of_plan = record {
            from_is = known.from_is ∙ g.run.from_is;
            to_is = known.to_is;
            begins_is = known.begins_is ∙ g.run.begins_is;
            settling_is = refl;
            errors_are = refl;
          }

          observes_cut : Observes options names begun (exact_time cut.errors) (length cut.events) cut.acts cut.after o
          observes_cut =
              subst (λ from. Observes options names begun from (length last.left) (g.run.acts ++ rest) w o)
              (sym (ap exact_time known.errors_are)) observes

          end_cut : end_of plan w o ≡ end_begun names begun cut
          end_cut = end_is options names begun plan cut of_plan o observes_cut

          rests_cut : Rests options names (carry_over cut carried) w o
          rests_cut =
              stretch_rests options names begun (exact_time cut.errors) (length cut.events) cut.acts cut.after o
              observes_cut

          none_now : now_of last.from (last.left ++ more) ≡ last.left
          none_now =
              now_same answers d e p.at more g.goes.late last.from last.left from_early
              ∙ all_now last.from last.left g.run.none_later

          only_more : later_than last.from (last.left ++ more) ≡ more
          only_more =
              later_more answers d e p.at more g.goes.late last.from last.left from_early
              ∙ ap (λ xs. xs ++ more) g.run.none_later

          passage : IsPassage answers false e until last.from (last.left ++ more) last.fate fate_after last.world cut
          passage = record {
            from_is = refl;
            to_is = to_is ∙ ap (end_before until) (sym only_more);
            events_are = sym none_now;
            courses = halts.courses;
            settling_is = known.settling_is ∙ ap (settling_of e) g.run.from_is;
            errors_are = known.errors_are;
          }

          -- ---- all stretches

          module _ (kept : StretchesSoFar) (lines : List (List ℕ)) (fate_end : F) (after : WorldState)
              (o_end : WatchState) (seen : AllAreSeen answers false e no_limits
              (standing to more fate_after w o (kept_after no_limits (end_of plan w o) none_kept))
              (standing until [] fate_end after o_end kept) lines) where
            abbrev second : Standing F
            second = standing to more fate_after w o (kept_after no_limits (end_of plan w o) none_kept)

            ended
                : AllGone answers false e until options names second (carry_over cut carried) fate_end after kept lines
            ended =
                all_seen answers false e until options names second (carry_over cut carried)
                (standing until [] fate_end after o_end kept) lines rests_cut seen refl

            some_more : more ≢ []
            some_more = some_left more g.goes.first g.goes.comes

            -- they pass from the start on
            all_pass : (q : StretchTrace) (qs : List StretchTrace) → ended.passages ≡ q ∷ qs
                → AllPass answers false e until 0 (events_by until e.events) g.run.started fate_end start after
                (passages ++ cut ∷ (q ∷ qs))
            all_pass q qs are =
                subst (λ xs. AllPass answers false e until 0 xs g.run.started fate_end start after
                (passages ++ cut ∷ (q ∷ qs))) (sym all_by)
                (gone.gone.more cut (q ∷ qs) fate_end after (
                  fate_after,
                  passage,
                  subst (λ xs. xs ≢ []) (sym only_more) some_more,
                  subst (λ xs. AllPass answers false e until to xs fate_after fate_end w after (q ∷ qs)) (sym only_more)
                      (subst (AllPass answers false e until to more fate_after fate_end w after) are ended.pass),
                ))

            -- the last three are the same
            all_last : (q s : StretchTrace) (qs : List StretchTrace) → ended.passages ≡ q ∷ (s ∷ qs)
                → kept.last ≡ last_behind names chosen (passages ++ cut ∷ (q ∷ (s ∷ qs))) none_last
            all_last q s qs are =
                let (before, over) = last_over names passages (cut ∷ (q ∷ (s ∷ qs))) chosen none_last in
                ap (λ (k : StretchesSoFar). k.last) ended.verdict_is
                ∙ last_from no_limits names ended.passages (carry_over cut carried) second.kept
                ∙ ap (λ ps. last_behind names (carry_over cut carried) ps second.kept.last) are
                ∙ ap (λ end. last_behind names (carry_over cut carried) (q ∷ (s ∷ qs)) (with_end none_last end)) end_cut
                ∙ last_alone names cut q s qs carried none_last before ∙ sym over

            pub ends : EndsOf answers p.asked a e until p.fate kept.last
            ends = by ended.passages refl ended.pass
              where
                by : (ps : List StretchTrace) → ended.passages ≡ ps
                    → AllPass answers false e until to more fate_after fate_end w after ps
                    → EndsOf answers p.asked a e until p.fate kept.last
                by [] are pass = absurd pass
                by (q ∷ []) are (passed, none, is) =
                    absurd (some_left (later_than g.goes.first more) g.goes.second g.goes.comes_then
                    (subst (λ time. later_than time more ≡ []) (to_is ∙ to_first) none))
                by (q ∷ (s ∷ qs)) are pass = record {
                  started = g.run.started;
                  start = start;
                  begun = subst (λ n. Begun answers n p.fate g.run.started start) (sym g.goes.network) g.run.begun;
                  passages = passages ++ cut ∷ (q ∷ (s ∷ qs));
                  fate_after = fate_end;
                  after = after;
                  pass = all_pass q (s ∷ qs) are;
                  are = all_last q s qs are ∙ last_asked names p.asked (passages ++ cut ∷ (q ∷ (s ∷ qs))) a none_last;
                }
