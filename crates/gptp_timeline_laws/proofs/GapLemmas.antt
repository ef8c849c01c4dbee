-- From one receipt that counts to the next it is no longer than a system waits for Sync, and so what it reads is always
-- exact.
use Rattle.std.proofs.Common.{◌≡◌, ◌⊎◌, ◌≤◌, ◌<◌, ◌+◌, ◌-◌, ◌^◌, ℕ, ℤ, ◌+ℤ◌, Bool, nat_le, List, [], ◌∷◌, ◌++◌, length, map, Option, Some, None, option_map, option_and_then, refl, sym, ap, subst, ◌∙◌, inl, inr, append_assoc, append-nil, arith}
use Rattle.std.specs.List.{AllByRecursion}
use Rattle.std.specs.Prelude.{is_some, IsSome}
use Rattle.std.proofs.lemmas.Option.{none-some, same_Some}
use Rattle.gptp_accuracy.specs.AccuracyText.{reading_at}
use Rattle.gptp_accuracy.specs.TimeErrors.{AreTimeErrors}
use Rattle.gptp_accuracy.specs.TimeErrors as errors_of
use Rattle.gptp_accuracy.specs.declared.errors.TimeErrors.{TimeErrors}
use Rattle.gptp_links.specs.declared.bounds.Bounds.{Bounds}
use Rattle.gptp_lists.specs.Members.{In}
use Rattle.gptp_lists.proofs.SystemSpecLemmas.{In-left, In-right}
use Rattle.gptp_model.specs.Acts.{at}
use Rattle.gptp_model.specs.Views.{rising_clocks}
use Rattle.gptp_model.specs.World.{WorldState}
use Rattle.gptp_network.specs.Document.{DocumentState}
use Rattle.gptp_network.specs.Snapshot.{events_by}
use Rattle.gptp_network.specs.Span.{IsBound}
use Rattle.gptp_network.proofs.InUseLemmas.{paths_are}
use Rattle.gptp_report.specs.Transitions.{Courses}
use Rattle.gptp_roles.specs.Selection.{clock_of}
use Rattle.gptp_scenario.specs.Calm.{last_change}
use Rattle.gptp_scenario.specs.Network.{pace_of}
use Rattle.gptp_scenario.specs.SettlingTime.{settling_span_with}
use Rattle.gptp_scenario.specs.SyncWait.{sync_paths}
use Rattle.gptp_scenario.specs.declared.change.Timed.{Timed}
use Rattle.gptp_scenario.proofs.LogLemmas.{largest_log}
use Rattle.gptp_settling_time.proofs.MomentLemmas.{last_by}
use Rattle.gptp_setup.proofs.IntervalLemmas.{interval_positive}
use Rattle.gptp_system.specs.State.{local_time, SystemState}
use Rattle.gptp_theorem.specs.PlayedLaws.{IsPlayable}
use Rattle.gptp_timeline.specs.ExactReads.{reads_over, unread}
use Rattle.gptp_timeline.specs.Laws.{SayBound}
use Rattle.gptp_timeline.specs.Looks.{events_left}
use Rattle.gptp_timeline.specs.Readings.{clock_time, read_by, reading_among, readings_after}
use Rattle.gptp_timeline.specs.Shown.{live_system}
use Rattle.gptp_timeline.specs.Stretch.{at_of, receives}
use Rattle.gptp_timeline.specs.Timeline.{AreErrorsBy, Carried, none_carried, now_of, StretchTrace, TimelineOf, tracks}
use Rattle.gptp_timeline.specs.declared.exact_reads.ExactReads.{ExactReads}
use Rattle.gptp_timeline.specs.declared.exact_reads.SystemReads.{SystemReads}
use Rattle.gptp_timeline.specs.declared.readings.NewReading.{NewReading}
use Rattle.gptp_timeline.specs.declared.readings.SystemReading.{SystemReading}
use Rattle.gptp_timeline.specs.declared.timeline.TimelineOptions.{TimelineOptions}
use Rattle.gptp_timeline.proofs.EventLemmas.{filter_each, filter_in_order}
use Rattle.gptp_timeline.proofs.PastLemmas.{all_past, PastBy}
use Rattle.gptp_timeline.proofs.RestLemmas.{lives_there}
use Rattle.gptp_timeline.proofs.SettlingLemmas.{events_then, IsFitEvent}
use Rattle.gptp_timeline.proofs.WithinLemmas.{past_behind}
use Rattle.gptp_timeline_laws.specs.Age.{GetsTime, ReceivedWithin, TimelinesAlwaysHaveTime, TimelinesAreAlwaysExact, TimelinesHearAgainInTime, wait_at}
use Rattle.gptp_timeline_laws.specs.Exact.{last_receipt, reads_from}
use Rattle.gptp_timeline_laws.specs.Moments.{BeginsWith, HasTime, last_time, Moment, world_after}
use Rattle.gptp_timeline_laws.specs.Sources.{ReadsFromClock}
use Rattle.gptp_timeline_laws.proofs.AgeLemmas.{timelines_hear_in_time}
use Rattle.gptp_timeline_laws.proofs.BoundLemmas.{readings_both}
use Rattle.gptp_timeline_laws.proofs.CourseLemmas.{BeginsSo, IsQuiet, last_on, left_both, parted, world_on}
use Rattle.gptp_timeline_laws.proofs.ExactLemmas.{less_each}
use Rattle.gptp_timeline_laws.proofs.ExactSoonLemmas.{is_told}
use Rattle.gptp_timeline_laws.proofs.HeldLemmas.{IsRight}
use Rattle.gptp_timeline_laws.proofs.MomentLemmas.{Found, timeline_found}
use Rattle.gptp_timeline_laws.proofs.OriginLemmas.{IsReceived, IsTakenOver, live_time, origin}
use Rattle.gptp_timeline_laws.proofs.ReadSoonLemmas.{acts_right, begins_in, timelines_bound_receipts_soon}
use Rattle.gptp_timeline_laws.proofs.ReceiptLemmas.{last_both, last_early}
use Rattle.gptp_timeline_laws.proofs.ReadsLemmas.{idle_reads, NoReads, reads_both, unread_none}
use Rattle.gptp_timeline_laws.proofs.RootLemmas.{timelines_read_from_roots}
use Rattle.gptp_timeline_laws.proofs.SourceLemmas.{quiet_after, quiet_before}
use Rattle.gptp_timeline_laws.proofs.StandsLemmas.{best_then, lives_then, root_then, slave_then, span_over_then, stands_so, well}
use Rattle.gptp_timeline_laws.proofs.TurnLemmas.{AreInTurn, courses_turn, IsLastReceipt, last_of, last_receipt_is, next_of, turn_each, turn_parts}
use Rattle.gptp_world.specs.Transitions.{ActTrace}
use Rattle.gptp_timeline_laws.proofs.GapActsLemmas.{AreShort, ended_short, over_short}
use Rattle.gptp_timeline_laws.proofs.GapStretchLemmas.{EventsFirst, age_is, begins_then, ends_none, events_first, gets_time, has_slave, held_offset, last_from, none_left, older, over_by, span_at, stays_on}

module _ {F : Type 0} (answers : Bounds → ℕ → F → Option ℕ → F → Type 0) (d : DocumentState) (until : ℕ)
    (options : TimelineOptions) (fate : F) (lines : List (List ℕ)) (exceeded : Bool)
    (t : TimelineOf answers d until options fate lines exceeded) (playable : IsPlayable d) (shown : until ≤ 10 ^ 18)
    (p : StretchTrace) (w : WorldState) (c : Carried) (errors : TimeErrors) (name from bound age : ℕ)
    (says : SayBound errors name bound)
    (begins : BeginsWith t.passages t.start (none_carried (tracks options) (rising_clocks t.start)) p w c)
    (are : p.errors ≡ Some errors) (from_is : errors.from ≡ Some from) (age_so : errors.age ≡ Some age) where
  abbrev names : List ℕ
  names = rising_clocks t.start

  abbrev events : List Timed
  events = events_by p.from d.events

  b : Found answers d playable names until p w c
  b = timeline_found answers d until options fate lines exceeded t playable p w c begins

  say : AreTimeErrors d p.from errors
  say =
      let hold : AreErrorsBy d b.from p.to (Some errors) =
      subst (AreErrorsBy d b.from p.to) are b.passage.errors_are in
      subst (λ at. AreTimeErrors d at errors) (sym b.passage.from_is) hold.0

  aged : (age ≡ wait_at d p.from) × (0 < d.network.params.sync_timeout)
  aged = age_is d.network events (is_some errors.from) age (sym say.age ∙ age_so)

  -- the span is over by then
  over : p.from + span_at d p.from ≤ from
  over =
      over_by d p.from from (is_told d p.from from playable (sym say.from ∙ from_is)) aged.1
      (begins_then answers d until t.passages t.started t.fate_after t.start t.after p playable t.pass
      (begins_in t.passages t.start (none_carried (tracks options) names) p w c begins))

  bounds : IsBound d p.from (Some (span_at d p.from))
  bounds =
      let error = subst (errors_of.IsErrorOf d.network events say.snapshot says.system) says.bound_is
      (say.systems.each says.system says.among).error in (
        error.0,
        record {
          snapshot = say.snapshot;
          stands = say.is;
          is = ap (settling_span_with (pace_of d.network) (sync_paths d.network events))
              (paths_are d.network playable.network events say.snapshot say.is);
        },
      )

  -- from then on the system received time lately
  recent : (time : ℕ) (moment : Moment p time) → from ≤ time → ReceivedWithin name age time moment.done
  recent time moment late =
      let by = over in
      subst (λ span. ReceivedWithin name span time moment.done) (sym aged.0)
      (timelines_hear_in_time answers d until options fate lines exceeded t playable shown p w c say.snapshot time
      (span_at d p.from) name moment begins bounds aged.1 (omega (arith, by, late)) say.is
      (gets_time d p.from bound errors say name says))

  turn : AreInTurn w.time p.acts × (last_time w.time p.acts ≤ p.to)
  turn = courses_turn answers p.to p.events p.acts b.fate b.fate_after w p.after b.passage.courses

  -- the acts up to the last event
  first : EventsFirst (length p.events) (last_change (events_by b.from d.events)) p.acts
  first =
      let last = last_change (events_by b.from d.events) in
      let made = events_then answers d playable names until b.from b.before b.left b.is_left in
      let past = all_past last (events_by b.from d.events)
      (filter_in_order (λ (e : Timed). nat_le e.at b.from) d.events playable.events.in_order) (omega arith) in
      subst (λ es. EventsFirst (length es) last p.acts) (sym b.passage.events_are)
      (events_first answers d playable names b.before (now_of b.from b.left) p.to last p.acts b.fate b.fate_after w
      p.after
      (filter_each (IsFitEvent answers d playable names) (λ (e : Timed). nat_le e.at b.from) b.left b.is_left.fits)
      b.keeps
      (subst (λ es. Courses answers p.to es p.acts b.fate b.fate_after w p.after) b.passage.events_are
      b.passage.courses)
      (past_behind answers d playable names last b.before (now_of b.from b.left) (subst (PastBy last) made past)))

  none_first : events_left first.head (length p.events) ≡ 0
  none_first = ends_none (length p.events) first.head first.ends

  -- are before that time
  early : last_change (events_by b.from d.events) < from
  early =
      let by = last_by b.from d.events in
      let at = b.passage.from_is in
      let late = over in
      let some = interval_positive (pace_of d.network).largest (largest_log d.network playable.network) in
      omega (arith, by, at, late, some)

  parts_turn : AreInTurn w.time first.head × AreInTurn (last_time w.time first.head) first.tail
  parts_turn = turn_parts w.time first.head first.tail (subst (AreInTurn w.time) first.are turn.0)

  -- at each later act, and where the stretch ends, the system had received time lately
  recent_then : (us vs : List ActTrace) (u : ActTrace) → first.tail ≡ us ++ (u ∷ vs) → from ≤ at_of u
      → ReceivedWithin name age (at_of u) (first.head ++ us)
  recent_then us vs u tail_is late =
      let done = first.head ++ us in
      let is : p.acts ≡ done ++ (u ∷ vs) =
      first.are ∙ ap (λ ts. first.head ++ ts) tail_is ∙ sym (append_assoc first.head us (u ∷ vs)) in
      let by = (turn_parts w.time done (u ∷ vs) (subst (AreInTurn w.time) is turn.0)).1.0 in
      let since = over in
      recent (at_of u)
      (record {
        done = done;
        ahead = u ∷ vs;
        are = is;
        no_event_left = left_both (length p.events) first.head us ∙ ap (events_left us) none_first ∙ none_left us;
        late = last_from w.time p.from (at_of u) done (omega (arith, since, late)) by;
        early = omega arith;
      }) late

  recent_end : from ≤ p.to → ReceivedWithin name age p.to p.acts
  recent_end late =
      let since = over in
      recent p.to
      (record {
        done = p.acts;
        ahead = [];
        are = sym (append-nil p.acts);
        no_event_left = ap (λ us. events_left us (length p.events)) first.are
            ∙ left_both (length p.events) first.head first.tail ∙ ap (events_left first.tail) none_first
            ∙ none_left first.tail;
        late = last_from w.time p.from p.to p.acts (omega (arith, since, late)) turn.1;
        early = omega arith;
      }) late

  module _ (B : ℕ → ℕ) (right : (a : ActTrace) → In a p.acts → from ≤ at_of a → IsRight name B a a.before)
      (rs : List SystemReading) where
    -- what is kept after the events
    abbrev begun : List SystemReads
    begun = reads_over (Some from) rs (map unread names) first.head

    idle : NoReads name begun
    idle =
        idle_reads from name first.head rs (map unread names)
        (less_each (last_change (events_by b.from d.events)) from first.head early first.soon) (unread_none names name)

    all_short : AreShort name from age B p.acts right p.acts (reads_over (Some from) rs (map unread names) p.acts)
        (last_time w.time p.acts)
    all_short =
        let on = over_short name from age B p.acts right first.tail first.head (readings_after first.head rs) begun
        (last_time w.time first.head)
        (λ a member. subst (In a) (sym first.are) (In-right a first.head first.tail member)) parts_turn.1
        (λ a member. (turn_each w.time first.head parts_turn.0 a member).1) recent_then
        (λ o there. absurd (none-some o (sym idle ∙ there))) in
        let kept = ap (reads_over (Some from) rs (map unread names)) first.are
        ∙ reads_both (Some from) first.head first.tail rs (map unread names) in
        let last = ap (last_time w.time) first.are ∙ last_on w.time first.head first.tail in
        subst (λ us. AreShort name from age B p.acts right us (reads_over (Some from) rs (map unread names) p.acts)
        (last_time w.time p.acts)) (sym first.are)
        (subst (λ xs. AreShort name from age B p.acts right (first.head ++ first.tail) xs (last_time w.time p.acts))
        (sym kept)
        (subst (λ time. AreShort name from age B p.acts right (first.head ++ first.tail)
        (reads_over (Some from) (readings_after first.head rs) begun first.tail) time) (sym last) on))

    short_gaps : (r : ExactReads) → reads_from from names p rs name ≡ Some r → r.longest ≤ age
    short_gaps r reads =
        ended_short name from age B p.acts right p.to p.after (readings_after p.acts rs)
        (reads_over (Some from) rs (map unread names) p.acts) p.acts (last_time w.time p.acts) r all_short turn.1
        recent_end reads

  -- the last receipt by a moment
  last_then : (time : ℕ) (moment : Moment p time) → from + age ≤ time
      → (last : ℕ) × (last_receipt name None moment.done ≡ Some last) × (from ≤ last) × (time ≤ last + age)
  last_then time moment late =
      let heard = recent time moment (omega (arith, late)) in
      let lately = heard.lately in
      let in_turn = (turn_parts w.time moment.done moment.ahead (subst (AreInTurn w.time) moment.are turn.0)).0 in
      let (last, is, since) = last_of name w.time None moment.done in_turn heard.act heard.member heard.receives in
      (last, is, omega (arith, late, lately, since), omega (arith, lately, since))

  -- ---- what it reads by the last receipt

  module _ (time : ℕ) (moment : Moment p time) (last : ℕ)
      (last_is : last_receipt name None moment.done ≡ Some last) (since : from ≤ last) where
    b_done : BeginsSo first.head first.tail moment.done moment.ahead
    b_done =
        parted (length p.events) first.head first.tail moment.done moment.ahead first.ends
        (sym first.are ∙ moment.are) moment.no_event_left

    receipt : IsLastReceipt name last b_done.more
    receipt =
        elim (last_receipt_is name (last_receipt name None first.head) b_done.more last
        (sym (last_both name None first.head b_done.more)
        ∙ ap (last_receipt name None) (sym b_done.done_is) ∙ last_is)) [
          | inl (old, none) ↦
              let sooner = last_early name from None first.head
              (less_each (last_change (events_by b.from d.events)) from first.head early first.soon)
              (λ x no. absurd (none-some x no)) last old in
              absurd (omega (arith, sooner, since))
          | inr r ↦ r
        ]

    abbrev act : ActTrace
    act = receipt.act

    abbrev done_before : List ActTrace
    done_before = first.head ++ receipt.before

    abbrev done_then : List ActTrace
    done_then = done_before ++ act ∷ []

    abbrev behind : List ActTrace
    behind = receipt.behind ++ moment.ahead

    done_is : moment.done ≡ done_then ++ receipt.behind
    done_is =
        b_done.done_is ∙ ap (λ us. first.head ++ us) receipt.are
        ∙ sym (append_assoc first.head receipt.before (act ∷ receipt.behind))
        ∙ sym (append_assoc done_before (act ∷ []) receipt.behind)

    acts_are : p.acts ≡ done_then ++ behind
    acts_are =
        moment.are ∙ ap (λ us. us ++ moment.ahead) done_is ∙ append_assoc done_then receipt.behind moment.ahead

    turn_then : AreInTurn w.time done_then × AreInTurn (last_time w.time done_then) behind
    turn_then = turn_parts w.time done_then behind (subst (AreInTurn w.time) acts_are turn.0)

    act_last : last_time w.time done_then ≡ at_of act
    act_last = last_on w.time done_before (act ∷ [])

    turn_behind : AreInTurn (at_of act) behind
    turn_behind = subst (λ now. AreInTurn now behind) act_last turn_then.1

    -- the moment at which it is done
    abbrev moment_then : Moment p (at_of act)
    moment_then =
        let by = over in
        let at = receipt.at_is in
        let end = ap (last_time w.time) acts_are ∙ last_on w.time done_then behind in
        let ends = turn.1 in record {
          done = done_then;
          ahead = behind;
          are = acts_are;
          no_event_left = ap (λ us. events_left us (length p.events))
              (append_assoc first.head receipt.before (act ∷ []))
              ∙ left_both (length p.events) first.head (receipt.before ++ act ∷ [])
              ∙ ap (events_left (receipt.before ++ act ∷ [])) none_first ∙ none_left (receipt.before ++ act ∷ []);
          late = last_from w.time p.from (at_of act) done_then (omega (arith, by, at, since))
              (omega (arith, act_last));
          early = next_of (at_of act) p.to behind turn_behind
              (subst (λ now. last_time now behind ≤ p.to) act_last (subst (λ n. n ≤ p.to) end ends));
        }

    gets : GetsTime say.snapshot name
    gets = gets_time d p.from bound errors say name says

    is_over : (at : ℕ) → from ≤ at
        → last_change events
        + settling_span_with (pace_of d.network) (sync_paths d.network events)
        (sync_paths d.network events).systems
        ≤ at
    is_over at on =
        let by = over in
        span_over_then d p.from (span_at d p.from) at playable bounds (omega (arith, by, on))

    among : (a : ActTrace) → In a done_then ⊎ In a receipt.behind → In a p.acts
    among a (inl member) = subst (In a) (sym acts_are) (In-left a done_then behind member)
    among a (inr member) =
        subst (In a) (sym acts_are) (In-right a done_then behind (In-left a receipt.behind moment.ahead member))

    module _ (rs : List SystemReading) (has : c.readings ≡ Some rs) where
      right : (a : ActTrace) → In a p.acts → from ≤ at_of a
          → IsRight name (acts_right answers d until options fate lines exceeded t playable shown p w c errors name from
          bound says begins are from_is).0 a a.before
      right =
          (acts_right answers d until options fate lines exceeded t playable shown p w c errors name from bound says
          begins are from_is).1

      -- then it reads from its best
      reads_then : ReadsFromClock (readings_after done_then rs) name (clock_of gets.best.identity)
      reads_then =
          let k = stands_so answers d until options fate lines exceeded t playable shown p w c (at_of act) moment_then
          begins in
          let v = at (at_of act) (world_after done_then w) in
          let acts = k.before ++ done_then in
          let at_is = receipt.at_is in
          let long = is_over (at_of act) (omega (arith, at_is, since)) in
          let (s, lives) = lives_then answers d playable names events acts v k.stands k.timed bounds.0 say.snapshot
          say.is name gets.near in
          let slave = slave_then answers d playable names events acts v k.stands k.timed bounds.0 say.snapshot
          say.is name gets.near long gets.best gets.is_best gets.other s lives in
          let root = root_then answers d playable names events acts v k.stands k.timed bounds.0 say.snapshot say.is
          name gets.near long gets.best gets.is_best s lives in
          let known = offset_known s lives in
          subst (λ r. ReadsFromClock (readings_after done_then rs) name (clock_of r)) root
          (timelines_read_from_roots answers d until options fate lines exceeded t playable shown p w c rs (at_of act)
          moment_then name s begins has lives (has_slave s slave) known)
        where
          world_is : world_after done_then w ≡ act.after
          world_is = world_on done_before (act ∷ []) w

          offset_known : (s : SystemState) → live_system name (world_after done_then w) ≡ Some s → IsSome s.offset
          offset_known s lives =
              let member = among act (inl (In-right act done_before (act ∷ []) (inl refl))) in
              let at_is = receipt.at_is in
              let so = right act member (omega (arith, at_is, since)) in
              let (u, new, named) = so.reads rs receipt.own in
              by u named (λ taken. so.no_takeover u named taken)
              (origin act.told.timed.act act.told.done act.after rs u new)
            where
              by : (u : NewReading) → u.clock ≡ name → (IsTakenOver act.after u → ⊥)
                  → IsReceived act.told.done act.after u ⊎ IsTakenOver act.after u → IsSome s.offset
              by u named none (inr taken) = absurd (none taken)
              by u named none (inl r) =
                  let there : live_system name act.after ≡ Some s =
                  subst (λ v. live_system name v ≡ Some s) world_is lives in
                  let same : r.own ≡ s =
                  same_Some r.own s (sym r.lives ∙ ap (λ n. live_system n act.after) named ∙ there) in
                  subst (λ (x : SystemState). IsSome x.offset) same (held_offset r.own r.reading r.held)

      -- and goes on to
      reads_on : ReadsFromClock (readings_after moment.done rs) name (clock_of gets.best.identity)
      reads_on =
          let from_best = reads_then in
          let at_is = receipt.at_is in
          let stay = stays_on name (acts_right answers d until options fate lines exceeded t playable shown p w c
          errors name from bound says begins are from_is).0 receipt.behind (readings_after done_then rs)
          (quiet_before receipt.behind moment.ahead
          (quiet_after (receipt.before ++ act ∷ []) behind
          (subst (AllByRecursion IsQuiet) tail_is first.quiet)))
          receipt.none
          (λ a member.
          (let soon = (turn_each (at_of act) behind turn_behind a (In-left a receipt.behind moment.ahead member)).0 in
          right a (among a (inr member)) (omega (arith, soon, at_is, since)))) in
          record {
            kept = from_best.kept;
            has = ap (λ us. reading_among us name)
                (ap (λ us. readings_after us rs) done_is ∙ readings_both done_then receipt.behind rs)
                ∙ stay ∙ from_best.has;
            is = from_best.is;
          }
        where
          tail_is : first.tail ≡ (receipt.before ++ act ∷ []) ++ behind
          tail_is =
              b_done.tail_is ∙ ap (λ us. us ++ moment.ahead) receipt.are
              ∙ append_assoc receipt.before (act ∷ receipt.behind) moment.ahead
              ∙ sym (append_assoc receipt.before (act ∷ []) behind)

      -- so it has time
      has_time : HasTime time (world_after moment.done w) (readings_after moment.done rs) name
      has_time =
          let k = stands_so answers d until options fate lines exceeded t playable shown p w c time moment begins in
          let v = at time (world_after moment.done w) in
          let acts = k.before ++ moment.done in
          let clocks = k.timed.claimed.world.sound.wired.clocks in
          let (s, lives) = lives_then answers d playable names events acts v k.stands k.timed bounds.0 say.snapshot
          say.is name gets.near in
          let there = best_then answers d playable names events acts v k.stands k.timed bounds.0 say.snapshot say.is
          name gets.near gets.best gets.is_best in
          let shape = well answers d playable names events acts v k.stands k.timed bounds.0 in
          let named : clock_of gets.best.identity ≡ gets.best.clock =
          (shape.identified gets.best there.live).clock in
          let (root, leads) = lives_there v gets.best.clock gets.best clocks there.live refl in
          let reads = reads_on in
          record {
            read = read_by reads.kept (local_time s time);
            source = local_time root time +ℤ reads.kept.source.base;
            reads = record {
              kept = reads.kept;
              has = reads.has;
              own = local_time s time;
              shows = live_time name time v.stations s lives;
              read_is = refl;
              source_shows = ap (option_map (λ z. z +ℤ reads.kept.source.base))
                  (ap (λ n. clock_time n time v) (reads.is ∙ named)
                  ∙ live_time gets.best.clock time v.stations root leads);
            };
          }

pub timelines_hear_again_in_time : {F : Type 0} (answers : Bounds → ℕ → F → Option ℕ → F → Type 0)
    → TimelinesHearAgainInTime answers
timelines_hear_again_in_time answers d until options fate lines exceeded t playable shown p w c rs errors name from
    bound age r says begins has are from_is age_so reads =
    let (B, right) = acts_right answers d until options fate lines exceeded t playable shown p w c errors name from
    bound says begins are from_is in
    short_gaps answers d until options fate lines exceeded t playable shown p w c errors name from bound age says begins
    are from_is age_so B right rs r reads

pub timelines_are_always_exact : {F : Type 0} (answers : Bounds → ℕ → F → Option ℕ → F → Type 0)
    → TimelinesAreAlwaysExact answers
timelines_are_always_exact answers d until options fate lines exceeded t playable shown p w c rs errors name from bound
    age time read source most moment says begins has are from_is age_so late r most_is =
    let (last, is, since, soon) = last_then answers d until options fate lines exceeded t playable shown p w c errors
    name from bound age says begins are from_is age_so time moment late in
    let most_then : reading_at says.system age ≡ Some most =
    ap (option_and_then (reading_at says.system)) (sym age_so) ∙ most_is in
    let (one, one_is, less) = older says.system (time - last) age most (omega (arith, soon)) most_then in
    let within = timelines_bound_receipts_soon answers d until options fate lines exceeded t playable shown p w c rs
    errors name from bound last time read source one moment says begins has are from_is is since r one_is in
    omega (arith, within, less)

pub timelines_always_have_time : {F : Type 0} (answers : Bounds → ℕ → F → Option ℕ → F → Type 0)
    → TimelinesAlwaysHaveTime answers
timelines_always_have_time answers d until options fate lines exceeded t playable shown p w c rs errors name from bound
    age time moment says begins has are from_is age_so late =
    let (last, is, since, soon) = last_then answers d until options fate lines exceeded t playable shown p w c errors
    name from bound age says begins are from_is age_so time moment late in
    has_time answers d until options fate lines exceeded t playable shown p w c errors name from bound age says begins
    are from_is age_so time moment last is since rs has
