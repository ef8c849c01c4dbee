-- An event of a time that takes nothing away: by when ports are capable after it, and whether what it tells is heard
-- at once.
use Rattle.std.proofs.Common.{◌≡◌, ◌<◌, ◌≤◌, ◌⊎◌, inl, inr, ◌+◌, ◌*◌, ℕ, Bool, true, false, cond, suc, List, [], ◌∷◌, ◌++◌, filter, refl, sym, ap, ap₂, subst, ◌∙◌, append-nil, append_assoc, arith}
use Rattle.std.specs.Prelude.{◌==◌, ◌&&◌, not}
use Rattle.std.specs.List.{AllByRecursion, list_any}
use Rattle.std.proofs.lemmas.Bool.{and_from, eq-eqb, false_from_ne_true, or_cases, or_parts}
use Rattle.std.proofs.lemmas.Bool.Decides.{nat_tests}
use Rattle.gptp_lists.specs.Members.{In}
use Rattle.gptp_lists.proofs.SystemSpecLemmas.{In-map, In-slice_get}
use Rattle.gptp_vector.specs.declared.port.PortId.{PortId}
use Rattle.gptp_links.specs.declared.bounds.Bounds.{Bounds}
use Rattle.gptp_setup.specs.Intervals.{interval_of}
use Rattle.gptp_scenario.specs.Calm.{IsLive, NothingLapses}
use Rattle.gptp_scenario.specs.Change.{link_acted, link_after, with_up}
use Rattle.gptp_scenario.specs.InUse.{lives}
use Rattle.gptp_scenario.specs.Network.{IsNetwork, NetworkState, pace_of}
use Rattle.gptp_scenario.specs.SyncWait.{sync_paths}
use Rattle.gptp_scenario.specs.declared.change.Act.{Act}
use Rattle.gptp_scenario.specs.declared.change.Act.TheVariants as acts
use Rattle.gptp_scenario.specs.declared.change.Change.TheVariants as changes
use Rattle.gptp_scenario.specs.declared.change.Timed.{Timed}
use Rattle.gptp_scenario.specs.declared.network.LinkSpec.{LinkSpec}
use Rattle.gptp_scenario.specs.declared.sync_wait.SyncPaths.{SyncPaths}
use Rattle.gptp_scenario.proofs.AfterLemmas.{after_keeps}
use Rattle.gptp_model.specs.World.{port_id}
use Rattle.gptp_theorem.proofs.EventLemmas.{link_behind}
use Rattle.gptp_network.proofs.PassLemmas.{kept, passes_at}
use Rattle.gptp_topology.specs.After.{standing_then}
use Rattle.gptp_topology.specs.Course.{cable_is_used, cable_of, named}
use Rattle.gptp_topology.specs.declared.course.Cable.{Cable}
use Rattle.gptp_how_soon.specs.Gains.{is_again, is_hard_to_hear, ready}
use Rattle.gptp_how_soon.specs.Kinds.{is_gain, is_idle, is_loss, is_other, is_recovery, is_recovery_of, is_unused, lowers_unused, makes_nothing, recovers, what_of, is_wider}
use Rattle.gptp_how_soon.specs.Links.{is_new, new_links, varies}
use Rattle.gptp_how_soon.specs.Times.{told_at, told_of}
use Rattle.gptp_how_soon.specs.declared.kinds.Told.{Told}
use Rattle.gptp_settling_time.specs.Gains.{AreSparedBy, ChangesNothing, HasDelaysWithin, IsNoWorse, IsSparedBy, JoinsLive, LeavesCapable, SparesFailed, TakesNothing, UsesNoLink, exchanged_again_from}
use Rattle.gptp_settling_time.specs.HowSoon.{IsGainEvent, IsIdleEvent, TurnsUnused}
use Rattle.gptp_settling_time.specs.EventKinds.{AddsHeard, BettersClock, BringsUp, MakesNothing, RecoversAlone, TurnsInVain}
use Rattle.gptp_settling_time.proofs.SamePathsLemmas.{idle_paths, turned_paths}
use Rattle.gptp_topology.proofs.RestLemmas.{lives_to, three_from, three_parts, used_cable}
use Rattle.gptp_how_soon_laws.proofs.KindLemmas.{gain_is_not_idle, nothing_or_gain}
use Rattle.gptp_how_soon_laws.proofs.ToldLemmas.{Gains, RaisesLink, gain_gains, idle_changes, unused_turns}
use Rattle.gptp_how_soon_laws.proofs.MoreLemmas.{IsMore, Leaves, more_delay, more_live, more_lives, more_on, one_more, same_more}
use Rattle.gptp_how_soon_laws.proofs.NamedLemmas.{end_first}
use Rattle.gptp_how_soon_laws.proofs.ReadyLemmas.{all_from, none_again, none_any, ready_again, ready_least, spared_more}

-- ---- the events of a time

module _ (n : NetworkState) (network : IsNetwork n) (time : ℕ) (first events : List Timed) where
  -- after all of them
  abbrev pub all : List Timed
  all = first ++ events

  abbrev pub tolds : List Told
  tolds = told_of n first events

  abbrev pub news : List Cable
  news = new_links n first all false

  abbrev pub paths : SyncPaths
  paths = sync_paths n all

  abbrev pub start : ℕ
  start = ready n.params paths tolds news

  abbrev pub next : ℕ
  next = suc (time + start)

  -- where a system recovers
  pub record AreFollowed : Type 0 where
    pub most : ℕ
    pub within : HasDelaysWithin n first most
    pub past : AllByRecursion (λ (t : Timed). t.at + most < time) first
    pub turns : list_any lowers_unused tolds ≡ false

  -- where a link turns that isn't used
  abbrev pub AreTurnsFollowed : Type 0
  AreTurnsFollowed = list_any lowers_unused tolds ≡ true → list_any is_gain tolds ≡ false

  -- an event of the time that takes nothing away
  pub record IsTold (e : Told) : Type 0 where
    pub among : In e tolds
    pub kind : (makes_nothing e ≡ true) ⊎ (is_gain e ≡ true)

  pub all_told : list_any is_loss tolds ≡ false → list_any is_wider tolds ≡ false → list_any is_other tolds ≡ false
      → AllByRecursion IsTold tolds
  all_told no_loss no_wider no_other = all_from IsTold tolds (λ e member. record {
    among = member;
    kind = nothing_or_gain e.clock e.what e.kind (none_any is_loss tolds e no_loss member)
        (none_any is_wider tolds e no_wider member) (none_any is_other tolds e no_other member);
  })

  -- ---- what is in use stays in use

  leaves_idle : (made : List Timed) (act : Act) → ChangesNothing n made act → Leaves n made act
  leaves_idle made (acts.Deliver link direction) idle = tt
  leaves_idle made (acts.Expire clock timer) idle = tt
  leaves_idle made (acts.Change (changes.LinkDown clock port)) idle = inl idle
  leaves_idle made (acts.Change (changes.LinkUp clock port)) idle = tt
  leaves_idle made (acts.Change (changes.LinkSet clock port least greatest loss)) idle = absurd idle
  leaves_idle made (acts.Change (changes.Fail number)) idle = idle
  leaves_idle made (acts.Change (changes.Recover number)) idle = tt
  leaves_idle made (acts.Change (changes.Priority1 number value)) idle = tt
  leaves_idle made (acts.Change (changes.Inject clock port octets)) idle = tt

  leaves_gain : (made : List Timed) (act : Act) → Gains n network made act → Leaves n made act
  leaves_gain made (acts.Deliver link direction) gains = tt
  leaves_gain made (acts.Expire clock timer) gains = tt
  leaves_gain made (acts.Change (changes.LinkDown clock port)) gains = absurd gains
  leaves_gain made (acts.Change (changes.LinkUp clock port)) gains = tt
  leaves_gain made (acts.Change (changes.LinkSet clock port least greatest loss)) gains = absurd gains
  leaves_gain made (acts.Change (changes.Fail number)) gains = absurd gains
  leaves_gain made (acts.Change (changes.Recover number)) gains = tt
  leaves_gain made (acts.Change (changes.Priority1 number value)) gains = tt
  leaves_gain made (acts.Change (changes.Inject clock port octets)) gains = tt

  leaves_turned : (made : List Timed) (act : Act) → TurnsUnused n made act → Leaves n made act
  leaves_turned made (acts.Deliver link direction) broken = tt
  leaves_turned made (acts.Expire clock timer) broken = tt
  leaves_turned made (acts.Change (changes.LinkDown clock port)) broken = inr broken
  leaves_turned made (acts.Change (changes.LinkUp clock port)) broken = tt
  leaves_turned made (acts.Change (changes.LinkSet clock port least greatest loss)) broken = absurd broken
  leaves_turned made (acts.Change (changes.Fail number)) broken = absurd broken
  leaves_turned made (acts.Change (changes.Recover number)) broken = tt
  leaves_turned made (acts.Change (changes.Priority1 number value)) broken = tt
  leaves_turned made (acts.Change (changes.Inject clock port octets)) broken = tt

  leaves_told : (made : List Timed) (act : Act) → IsTold (told_at n made act) → Leaves n made act
  leaves_told made act is = elim is.kind [
    | inl nothing ↦ elim (or_cases (is_idle (told_at n made act)) (is_unused (told_at n made act)) nothing) [
      | inl idle ↦ leaves_idle made act (idle_changes n network made act idle)
      | inr unused ↦ leaves_turned made act (unused_turns n network made act unused)
    ]
    | inr gain ↦ leaves_gain made act (gain_gains n network made act gain)
  ]

  -- after those that are left
  pub more_left : (made left : List Timed) → AllByRecursion IsTold (told_of n made left) → IsMore n made (made ++ left)
  more_left made [] each = subst (IsMore n made) (sym (append-nil made)) (same_more n made)
  more_left made (event ∷ left) each =
      more_on n made (made ++ event ∷ []) (made ++ event ∷ left)
      (one_more n made event (leaves_told made event.act each.0))
      (subst (IsMore n (made ++ event ∷ [])) (append_assoc made (event ∷ []) left)
      (more_left (made ++ event ∷ []) left each.1))

  -- ---- what makes nothing of what stands

  module _ (turns : AreTurnsFollowed) (made : List Timed) (event : Timed) (here : event.at ≡ time)
      (among : In (told_at n made event.act) tolds) where
    pub idles : makes_nothing (told_at n made event.act) ≡ true → IsIdleEvent n made event
    idles nothing =
        elim (or_cases (is_idle (told_at n made event.act)) (is_unused (told_at n made event.act)) nothing) [
          | inl idle ↦ inl (idle_changes n network made event.act idle)
          | inr unused ↦ inr (unused_turns n network made event.act unused)
        ]

    -- behind a gain
    turned_late : list_any is_gain tolds ≡ true → (act : Act) → event.act ≡ act
        → is_unused (told_at n made act) ≡ true → TurnsUnused n made act → TurnsInVain n made event next act
    turned_late gained (acts.Deliver link direction) e is broken = absurd broken
    turned_late gained (acts.Expire clock timer) e is broken = absurd broken
    turned_late gained (acts.Change (changes.LinkDown clock port)) e is broken =
        let lowered : lowers_unused (told_at n made event.act) ≡ true =
        ap (λ a. lowers_unused (told_at n made a)) e ∙ ap (λ test. test && true) is in
        let none = turns (passes_at lowers_unused tolds (told_at n made event.act) among lowered) in
        let no : true ≡ false = sym gained ∙ none in absurd cc
    turned_late gained (acts.Change (changes.LinkUp clock port)) e is broken = broken
    turned_late gained (acts.Change (changes.LinkSet clock port least greatest loss)) e is broken = absurd broken
    turned_late gained (acts.Change (changes.Fail number)) e is broken = absurd broken
    turned_late gained (acts.Change (changes.Recover number)) e is broken = absurd broken
    turned_late gained (acts.Change (changes.Priority1 number value)) e is broken = absurd broken
    turned_late gained (acts.Change (changes.Inject clock port octets)) e is broken = absurd broken

    pub idles_late : NothingLapses n.params → list_any is_gain tolds ≡ true
        → makes_nothing (told_at n made event.act) ≡ true → MakesNothing n made event next
    idles_late off gained nothing =
        elim (or_cases (is_idle (told_at n made event.act)) (is_unused (told_at n made event.act)) nothing) [
          | inl idle ↦ inl (idle_changes n network made event.act idle)
          | inr unused ↦ inr (
            off,
            turned_late gained event.act refl unused (unused_turns n network made event.act unused),
          )
        ]

  pub idle_ways : (made : List Timed) (event : Timed) → IsIdleEvent n made event
      → sync_paths n (made ++ event ∷ []) ≡ sync_paths n made
  idle_ways made event (inl idle) = idle_paths n network made event idle
  idle_ways made event (inr turns) = turned_paths n made event turns

  -- ---- one event

  -- what is so before it, and after those that come later
  pub record IsSoFar (made : List Timed) : Type 0 where
    pub more : IsMore n first made
    pub spared : list_any is_recovery tolds ≡ true → AreSparedBy n [] made time

  module _ (followed : list_any is_recovery tolds ≡ true → AreFollowed) (made : List Timed) (event : Timed)
      (here : event.at ≡ time) (so_far : IsSoFar made) (is : IsTold (told_at n made event.act))
      (later : IsMore n (made ++ event ∷ []) all) where
    abbrev pub then : List Timed
    then = made ++ event ∷ []

    step : IsMore n made then
    step = one_more n made event (leaves_told made event.act is)

    delay : (sync_paths n then).delay ≤ paths.delay
    delay = more_delay n then all later

    -- a link comes up
    module _ (clock port : ℕ) (act : event.act ≡ acts.Change (changes.LinkUp clock port))
        (up : RaisesLink n network made clock port) where
      member : In up.link n.links
      member = In-slice_get up.link n.links up.place up.there

      joins : JoinsLive n then (port_id clock port)
      joins place v there end =
          let same = up.only place v there (end_first then (port_id clock port) v end) in
          let ends = after_keeps then v in (
            subst (λ (p : PortId). IsLive n.systems then p.clock)
                (ap (λ (w : LinkSpec). w.a) (sym same) ∙ sym ends.a)
                (more_live n made then step up.link.a.clock (lives_to n made up.link.a.clock up.a)),
            subst (λ (p : PortId). IsLive n.systems then p.clock)
                (ap (λ (w : LinkSpec). w.b) (sym same) ∙ sym ends.b)
                (more_live n made then step up.link.b.clock (lives_to n made up.link.b.clock up.b)),
          )

      -- it is new
      used : cable_is_used (standing_then n all up.link) ≡ true
      used =
          let turned : (link_acted event.act (link_after made up.link)).up ≡ true =
          ap (λ a. (link_acted a (link_after made up.link)).up) act
          ∙ ap (λ test. (cond test (with_up true (link_after made up.link)) (link_after made up.link)).up) up.at in
          later.used up.link member
          (three_from (link_after then up.link).up (lives n.systems then up.link.a.clock)
          (lives n.systems then up.link.b.clock)
          (ap (λ (w : LinkSpec). w.up) (link_behind made event up.link) ∙ turned)
          (more_lives n made then step up.link.a.clock up.a) (more_lives n made then step up.link.b.clock up.b))

      unused : cable_is_used (standing_then n first up.link) ≡ false
      unused = false_from_ne_true (cable_is_used (standing_then n first up.link)) (λ on.
          let (still, a, b) =
          three_parts (link_after made up.link).up (lives n.systems made up.link.a.clock)
          (lives n.systems made up.link.b.clock) (so_far.more.used up.link member on) in
          let no : true ≡ false = sym still ∙ up.down in cc)

      new : In (cable_of (link_after all up.link)) news
      new =
          In-map (λ (w : LinkSpec). cable_of (link_after all w)) up.link (filter (is_new n first all false) n.links)
          (kept (is_new n first all false) up.link n.links member
          (ap₂ (λ on off. on && not (true && off)) used unused))

      capable : event.at + interval_of n.params.pdelay
          + ((sync_paths n then).delay + n.params.turnaround + (sync_paths n then).delay) + 1
          ≤ next
      capable =
          let least = ready_least n.params paths tolds news (cable_of (link_after all up.link)) new in
          let less = delay in
          omega (arith, here, least, less)

      gains_link : IsGainEvent n next made event
      gains_link =
          subst (λ a. TakesNothing n made a × LeavesCapable n made event next a) (sym act) (tt, (joins, capable))

      pub brings : list_any (is_hard_to_hear tolds) news ≡ false → BringsUp n made event next
      brings soft = record {
        clock = clock;
        port = port;
        act = act;
        down = λ place v there end.
            ap (λ (w : LinkSpec). (link_after made w).up)
            (up.only place v there (end_first made (port_id clock port) v end))
            ∙ up.down;
        little = λ place v there end.
            let one = none_any (is_hard_to_hear tolds) news (cable_of (link_after all up.link)) soft new in
            let steady : varies (cable_of (link_after all up.link)) ≡ false =
            (or_parts (is_again tolds (cable_of (link_after all up.link))) (varies (cable_of (link_after all up.link)))
            one).1 in
            let below : (link_after all up.link).bounds.max < 2 * (link_after all up.link).bounds.min =
            grind (arith, nat_tests) in
            let stay = later.bounds up.link member ∙ step.bounds up.link member in
            let same = up.only place v there (end_first made (port_id clock port) v end) in
            subst (λ (w : LinkSpec). (link_after made w).bounds.max < 2 * (link_after made w).bounds.min) (sym same)
            (subst (λ (b : Bounds). b.max < 2 * b.min) stay below);
        live = joins;
        capable = capable;
      }

    -- a system recovers
    module _ (number : ℕ) (act : event.act ≡ acts.Change (changes.Recover number))
        (failed : IsLive n.systems made number → ⊥) (recovery : is_recovery (told_at n made event.act) ≡ true) where
      recovers_so : recovers tolds number ≡ true
      recovers_so =
          passes_at (is_recovery_of number) tolds (told_at n made event.act) is.among
          (and_from ((told_at n made event.act).clock == number) (is_recovery (told_at n made event.act))
          (eq-eqb (told_at n made event.act).clock number (ap named act)) recovery)

      -- a link that it uses is new, and again
      uses_none : list_any (is_again tolds) news ≡ false → UsesNoLink n then number
      uses_none none place v there used ends =
          let member = In-slice_get v n.links place there in
          let on = later.used v member (used_cable n then v used) in
          let kept_ends = after_keeps then v in
          let all_ends = after_keeps all v in
          let fresh : cable_is_used (standing_then n first v) ≡ false =
          false_from_ne_true (cable_is_used (standing_then n first v)) (λ was.
          let (still, a, b) =
          three_parts (link_after made v).up (lives n.systems made v.a.clock) (lives n.systems made v.b.clock)
          (so_far.more.used v member was) in
          elim ends [
            | inl at ↦
                failed (subst (IsLive n.systems made) (ap (λ (p : PortId). p.clock) (sym kept_ends.a) ∙ at)
                (lives_to n made v.a.clock a))
            | inr at ↦
                failed (subst (IsLive n.systems made) (ap (λ (p : PortId). p.clock) (sym kept_ends.b) ∙ at)
                (lives_to n made v.b.clock b))
          ]) in
          let new : In (cable_of (link_after all v)) news =
          In-map (λ (w : LinkSpec). cable_of (link_after all w)) v (filter (is_new n first all false) n.links)
          (kept (is_new n first all false) v n.links member (ap₂ (λ now off. now && not (true && off)) on fresh)) in
          let one = none_any (is_again tolds) news (cable_of (link_after all v)) none new in
          let (a_none, b_none) =
          or_parts (recovers tolds (link_after all v).a.clock) (recovers tolds (link_after all v).b.clock) one in
          elim ends [
            | inl at ↦
                let no : true ≡ false =
                sym recovers_so
                ∙ ap (recovers tolds) (sym (ap (λ (p : PortId). p.clock) (all_ends.a ∙ sym kept_ends.a) ∙ at))
                ∙ a_none in
                cc
            | inr at ↦
                let no : true ≡ false =
                sym recovers_so
                ∙ ap (recovers tolds) (sym (ap (λ (p : PortId). p.clock) (all_ends.b ∙ sym kept_ends.b) ∙ at))
                ∙ b_none in
                cc
          ]

      asks_again : (again : Bool) → list_any (is_again tolds) news ≡ again
          → (exchanged_again_from (pace_of n) (sync_paths n then) event.at ≤ next)
          ⊎ (UsesNoLink n then number × (event.at < next))
      asks_again true is =
          let more = ready_again n.params paths tolds news is in
          let less = delay in
          inl (omega (arith, here, more, less))
      asks_again false is = inr (uses_none is, omega (arith, here))

      gains_system : IsGainEvent n next made event
      gains_system =
          let some = passes_at is_recovery tolds (told_at n made event.act) is.among recovery in
          subst (λ a. TakesNothing n made a × LeavesCapable n made event next a) (sym act) (
            tt,
            (
              failed,
              subst (AreSparedBy n [] made) (sym here) (so_far.spared some),
              asks_again (list_any (is_again tolds) news) refl,
            ),
          )

      -- where what is told over new links is heard at once it uses none
      pub returns : list_any (is_hard_to_hear tolds) news ≡ false → RecoversAlone n made event next
      returns soft = record {
        number = number;
        act = act;
        alone = uses_none (none_again tolds news soft);
        capable = subst (LeavesCapable n made event next) act gains_system.1;
      }

    -- a priority1 gets better
    module _ (number value : ℕ) (act : event.act ≡ acts.Change (changes.Priority1 number value))
        (no_worse : IsNoWorse n made number value) where
      gains_clock : IsGainEvent n next made event
      gains_clock =
          subst (λ a. TakesNothing n made a × LeavesCapable n made event next a) (sym act)
          (no_worse, omega (arith, here))

      betters : BettersClock n made event next
      betters = record {
        clock = number;
        value = value;
        act = act;
        better = no_worse;
        later = omega (arith, here);
      }

    -- who recovers had failed
    recovery_so : (number : ℕ) → event.act ≡ acts.Change (changes.Recover number)
        → is_gain (told_at n made (acts.Change (changes.Recover number))) ≡ true
        → is_recovery (told_at n made event.act) ≡ true
    recovery_so number same gain =
        ap (λ a. is_recovery (told_at n made a)) same
        ∙ ap not (gain_is_not_idle number (what_of (acts.Change (changes.Recover number)))
        (told_at n made (acts.Change (changes.Recover number))).kind gain)

    gains_so : (act : Act) → event.act ≡ act → is_gain (told_at n made act) ≡ true → Gains n network made act
        → IsGainEvent n next made event
    gains_so (acts.Deliver link direction) same gain gains = absurd gains
    gains_so (acts.Expire clock timer) same gain gains = absurd gains
    gains_so (acts.Change (changes.LinkDown clock port)) same gain gains = absurd gains
    gains_so (acts.Change (changes.LinkUp clock port)) same gain gains = gains_link clock port same gains
    gains_so (acts.Change (changes.LinkSet clock port least greatest loss)) same gain gains = absurd gains
    gains_so (acts.Change (changes.Fail number)) same gain gains = absurd gains
    gains_so (acts.Change (changes.Recover number)) same gain gains =
        gains_system number same gains (recovery_so number same gain)
    gains_so (acts.Change (changes.Priority1 number value)) same gain gains = gains_clock number value same gains
    gains_so (acts.Change (changes.Inject clock port octets)) same gain gains = absurd gains

    pub gains : is_gain (told_at n made event.act) ≡ true → IsGainEvent n next made event
    gains gain = gains_so event.act refl gain (gain_gains n network made event.act gain)

    -- ---- what failed systems sent

    spares_by : (act : Act) → event.act ≡ act → SparesFailed act → IsSparedBy n made event time
    spares_by act same spares = inr (inr (subst SparesFailed (sym same) spares))

    spares_gain : (act : Act) → event.act ≡ act → Gains n network made act → IsSparedBy n made event time
    spares_gain (acts.Deliver link direction) same gains = absurd gains
    spares_gain (acts.Expire clock timer) same gains = absurd gains
    spares_gain (acts.Change (changes.LinkDown clock port)) same gains = absurd gains
    spares_gain (acts.Change (changes.LinkUp clock port)) same gains = spares_by _ same tt
    spares_gain (acts.Change (changes.LinkSet clock port least greatest loss)) same gains = absurd gains
    spares_gain (acts.Change (changes.Fail number)) same gains = absurd gains
    spares_gain (acts.Change (changes.Recover number)) same gains = spares_by _ same tt
    spares_gain (acts.Change (changes.Priority1 number value)) same gains = spares_by _ same tt
    spares_gain (acts.Change (changes.Inject clock port octets)) same gains = absurd gains

    -- a link that isn't used comes up, and none goes down
    spares_turn : list_any lowers_unused tolds ≡ false → (act : Act) → event.act ≡ act
        → is_unused (told_at n made act) ≡ true → TurnsUnused n made act → IsSparedBy n made event time
    spares_turn none (acts.Deliver link direction) same turns broken = absurd broken
    spares_turn none (acts.Expire clock timer) same turns broken = absurd broken
    spares_turn none (acts.Change (changes.LinkDown clock port)) same turns broken =
        let lowered : lowers_unused (told_at n made event.act) ≡ true =
        ap (λ a. lowers_unused (told_at n made a)) same ∙ ap (λ test. test && true) turns in
        let no : true ≡ false =
        sym (passes_at lowers_unused tolds (told_at n made event.act) is.among lowered) ∙ none in
        absurd cc
    spares_turn none (acts.Change (changes.LinkUp clock port)) same turns broken = spares_by _ same tt
    spares_turn none (acts.Change (changes.LinkSet clock port least greatest loss)) same turns broken = absurd broken
    spares_turn none (acts.Change (changes.Fail number)) same turns broken = absurd broken
    spares_turn none (acts.Change (changes.Recover number)) same turns broken = absurd broken
    spares_turn none (acts.Change (changes.Priority1 number value)) same turns broken = absurd broken
    spares_turn none (acts.Change (changes.Inject clock port octets)) same turns broken = absurd broken

    spares : list_any is_recovery tolds ≡ true → IsSparedBy n made event time
    spares recovers = elim is.kind [
      | inl nothing ↦
          elim (or_cases (is_idle (told_at n made event.act)) (is_unused (told_at n made event.act)) nothing) [
            | inl idle ↦ inr (inl (idle_changes n network made event.act idle))
            | inr unused ↦
                spares_turn (followed recovers).turns event.act refl unused
                (unused_turns n network made event.act unused)
          ]
      | inr gain ↦ spares_gain event.act refl (gain_gains n network made event.act gain)
    ]

    pub so_on : IsSoFar then
    so_on = record {
      more = more_on n first made then so_far.more step;
      spared = λ recovers.
          spared_more n time [] made event (so_far.spared recovers) (spares recovers);
    }

    -- ---- what is heard at once

    -- a link comes up, a system recovers, or a priority1 gets better
    heard_so : (act : Act) → event.act ≡ act → is_gain (told_at n made act) ≡ true
        → list_any (is_hard_to_hear tolds) news ≡ false → Gains n network made act → AddsHeard n made event next
    heard_so (acts.Deliver link direction) same gain soft gains = absurd gains
    heard_so (acts.Expire clock timer) same gain soft gains = absurd gains
    heard_so (acts.Change (changes.LinkDown clock port)) same gain soft gains = absurd gains
    heard_so (acts.Change (changes.LinkUp clock port)) same gain soft gains = inl (brings clock port same gains soft)
    heard_so (acts.Change (changes.LinkSet clock port least greatest loss)) same gain soft gains = absurd gains
    heard_so (acts.Change (changes.Fail number)) same gain soft gains = absurd gains
    heard_so (acts.Change (changes.Recover number)) same gain soft gains =
        inr (inl (returns number same gains (recovery_so number same gain) soft))
    heard_so (acts.Change (changes.Priority1 number value)) same gain soft gains =
        inr (inr (betters number value same gains))
    heard_so (acts.Change (changes.Inject clock port octets)) same gain soft gains = absurd gains

    pub heard : is_gain (told_at n made event.act) ≡ true → list_any (is_hard_to_hear tolds) news ≡ false
        → AddsHeard n made event next
    heard gain soft = heard_so event.act refl gain soft (gain_gains n network made event.act gain)
