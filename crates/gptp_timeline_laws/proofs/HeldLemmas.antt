-- What a near system reads by a receipt, once the time errors of its network hold, is as exact as they say.
use Rattle.std.proofs.Common.{◌≡◌, ◌==◌, ◌≤◌, ◌+◌, ◌-◌, ◌^◌, ◌&&◌, ℕ, suc, ℤ, ◌+ℤ◌, ◌-ℤ◌, Bool, true, false, List, Option, Some, None, option_map, option_and_then, unsigned_abs, refl, sym, ap, subst, ◌∙◌, arith, if◌then◌else◌}
use Rattle.std.specs.Option.{option_map_or}
use Rattle.std.specs.Prelude.{is_none, IsSome}
use Rattle.std.proofs.lemmas.Bool.Decides.{nat_tests}
use Rattle.std.proofs.lemmas.Option.{none-some, same_Some}
use Rattle.gptp_error_laws.specs.TimeError.{Way, reading_error_at}
use Rattle.gptp_graph.specs.Best.{IsBest}
use Rattle.gptp_graph.specs.Distance.{IsDistance}
use Rattle.gptp_graph.specs.Parent.{IsParent}
use Rattle.gptp_graph.specs.PathBound.{path_bound}
use Rattle.gptp_graph.specs.Snapshot.{IsWellFormed, Snapshot}
use Rattle.gptp_graph.proofs.ParentLemmas.{parent_exists}
use Rattle.gptp_bmca_machine.specs.Settled.{IsSlaveOf}
use Rattle.gptp_invariants.specs.ChoiceSettled.{HasSettledChoice}
use Rattle.gptp_invariants.specs.WorldStanding.{snapshot_of}
use Rattle.gptp_invariants.specs.SyncFollowers.{follower_parts}
use Rattle.gptp_links.specs.declared.bounds.Bounds.{Bounds}
use Rattle.gptp_links.specs.Fate.{Draw}
use Rattle.gptp_lists.specs.Members.{In}
use Rattle.gptp_lists.proofs.SystemSpecLemmas.{slice_get-In}
use Rattle.gptp_messages.specs.declared.message.Message.TheVariants as messages
use Rattle.gptp_messages.specs.Grammar.{Reads}
use Rattle.gptp_model.specs.Acts.{Acts, at}
use Rattle.gptp_model.specs.Advancing.{Happens}
use Rattle.gptp_model.specs.Sound.{HaveOwnClocks}
use Rattle.gptp_model.specs.Views.{ShowsLive}
use Rattle.gptp_model.specs.World.{WorldState}
use Rattle.gptp_model.specs.World.{receiver as to}
use Rattle.gptp_model.specs.declared.done.Done.{Done}
use Rattle.gptp_model.specs.declared.done.Done.TheVariants.{Heard, Quiet}
use Rattle.gptp_network.specs.Document.{DocumentState}
use Rattle.gptp_roles.specs.Selection.{clock_of}
use Rattle.gptp_scaled.specs.Counts.{AreWithin}
use Rattle.gptp_scenario.specs.declared.change.Act.{Act}
use Rattle.gptp_scenario.specs.declared.change.Act.TheVariants.{Change as Changing, Deliver, Expire}
use Rattle.gptp_scenario.specs.declared.change.Timed.{Timed}
use Rattle.gptp_setup.specs.SettlingParams.{SettlingParams}
use Rattle.gptp_sync_machine.specs.Tree.{IsWayTo}
use Rattle.gptp_correction.specs.declared.sync_in.SyncInfo.{SyncInfo}
use Rattle.gptp_system.specs.Reading.{read_at}
use Rattle.gptp_system.specs.State.{clock, local_time, SystemState}
use Rattle.gptp_system.specs.declared.reading.Reading.{Reading}
use Rattle.gptp_system.specs.Syncing.{held_reading, reading_by}
use Rattle.gptp_system.specs.Takeover.{told_time}
use Rattle.gptp_theorem.specs.Headline.{HasComeDown, UsesFollowUp, WorldIsCalm}
use Rattle.gptp_theorem.specs.PlayedLaws.{IsPlayable}
use Rattle.gptp_reading.specs.Reading.{IsBestsTime, reading}
use Rattle.gptp_reading.specs.Readings.{LeavesReading}
use Rattle.gptp_reading.proofs.ExactLemmas.{used_shows, worlds_have_readings, worlds_read_exactly}
use Rattle.gptp_reading.proofs.HeldLemmas.{held_is_read}
use Rattle.gptp_timeline.specs.Readings.{base_of, by_receipt, clock_time, gets, new_in, new_reading, read_by, reading_among, reading_error, received_from, received_reading, source_named, source_time}
use Rattle.gptp_timeline.specs.Receipts.{is_follow_up, received_by}
use Rattle.gptp_timeline.specs.Shown.{live_system}
use Rattle.gptp_timeline.specs.Stretch.{at_of, receives}
use Rattle.gptp_timeline.specs.declared.readings.SystemReading.{SystemReading}
use Rattle.gptp_timeline.proofs.ShownLemmas.{found}
use Rattle.gptp_timeline.specs.declared.readings.KeptReading.{KeptReading}
use Rattle.gptp_timeline.specs.declared.readings.NewReading.{NewReading}
use Rattle.gptp_timeline.specs.declared.readings.TimeSource.{TimeSource}
use Rattle.gptp_timeline.proofs.HeardLemmas.{heard_follow_up, receipt_of, receiver_alone, receives_by}
use Rattle.gptp_timeline.proofs.RestLemmas.{lives_there, shows_live, stands_there}
use Rattle.gptp_timeline.proofs.SettlingLemmas.{Keeps, keeps_act}
use Rattle.gptp_timeline.proofs.WayLemmas.{way_there}
use Rattle.gptp_timeline.proofs.WithinLemmas.{alike, all, best_apart, calm, far, HasBound, near, paths_bounded, rest, same, size_within, well}
use Rattle.gptp_timeline_laws.proofs.OriginLemmas.{IsReceived, IsTakenOver, live_base, live_time}
use Rattle.gptp_timeline_laws.proofs.StepLemmas.{SameClocks}
use Rattle.gptp_world.specs.Transitions.{ActTrace}

-- ---- a receipt is the use of a Follow_Up

pub uses_follow_up : (name time : ℕ) (act : Act) (w : WorldState) (draws : List Draw) (done : Done) (w' : WorldState)
    → Acts act (at time w) draws done w' → received_by done ≡ Some name → UsesFollowUp name done
uses_follow_up name time (Deliver link direction) w draws Quiet w' k told = absurd k.told
uses_follow_up name time (Deliver link direction) w draws (Heard number port answer frame) w' k told =
    let itself : name == name ≡ true = grind (arith, nat_tests) in
    let own : receives_by name (Heard number port answer frame) ≡ true =
    ap (λ o. option_map_or (λ c. c == name) o false) told ∙ itself in
    let (clock_is, port_is, tells, octets) = k.told in
    let (receipt, same) = receipt_of name number answer frame.items own in
    let d = k.delivers in
    let (m, reads) = heard_follow_up d.place (to direction d.channel).port k.octets (record (at time w) { net = d.net })
    draws k.answer w' d.hears (sym tells ∙ receipt.used) (subst (λ o. is_follow_up o ≡ true) octets
    receipt.follow_up) in
    (same, receipt.used, (m, subst (λ o. Reads o (messages.FollowUp m)) (sym octets) reads))
uses_follow_up name time (Expire number timer) w draws done w' (quiet, more) told =
    absurd (none-some name (sym (ap received_by quiet) ∙ told))
uses_follow_up name time (Changing change) w draws done w' (quiet, more) told =
    absurd (none-some name (sym (ap received_by quiet) ∙ told))

-- who receives by it
pub received_name : (name : ℕ) (received : Option ℕ) → option_map_or (λ c. c == name) received false ≡ true
    → received ≡ Some name
received_name name None none = absurd cc
received_name name (Some c) is = let same : c ≡ name = grind (arith, nat_tests) in ap Some same

-- what a receipt leaves is read

pub held_some : (s : SystemState) → IsSome (reading s 0) → (r : Reading) × (held_reading s ≡ Some r)
held_some s some = by s.known s.offset some
  where
    by : (known : Option SyncInfo) (offset : Option ℤ)
        → IsSome (option_and_then (λ k. option_map (λ o. read_at (reading_by s k o) (local_time s 0)) offset) known)
        → (r : Reading) × (option_and_then (λ k. option_map (λ o. reading_by s k o) offset) known ≡ Some r)
    by None offset some = absurd cc
    by (Some k) None some = absurd cc
    by (Some k) (Some o) some = (reading_by s k o, refl)

pub read_by_receipt : (act : Act) (w : WorldState) (draws : List Draw) (done : Done) (w' : WorldState)
    (rs : List SystemReading) (name : ℕ) (s : SystemState) (r : Reading) → Acts act w draws done w'
    → received_by done ≡ Some name → live_system name w' ≡ Some s → held_reading s ≡ Some r
    → (u : NewReading) × (new_reading act done w' rs ≡ Some u) × (u.clock ≡ name)
read_by_receipt (Deliver link direction) w draws done w' rs name s r k told lives held = (
  gets name true (reading_among rs name) (received_from (source_named (clock_of s.root) w') r),
  ap (by_receipt w' rs) told
      ∙ ap (λ l. option_map (gets name true (reading_among rs name)) (option_and_then (received_reading w') l)) lives
      ∙ ap (λ h. option_map (gets name true (reading_among rs name))
      (option_map (received_from (source_named (clock_of s.root) w')) h)) held,
  refl,
)
read_by_receipt (Expire number timer) w draws done w' rs name s r (quiet, more) told lives held =
    absurd (none-some name (sym (ap received_by quiet) ∙ told))
read_by_receipt (Changing change) w draws done w' rs name s r (quiet, more) told lives held =
    absurd (none-some name (sym (ap received_by quiet) ∙ told))

-- ---- tests

pub and_first : (a b : Bool) → a && b ≡ true → a ≡ true
and_first true b is = refl
and_first false b is = absurd cc

none_is : (o : Option ℕ) → is_none o ≡ true → o ≡ None
none_is None is = refl
none_is (Some x) is = absurd cc

-- ---- what is said of it

-- what the system reads by this is off by no more than is said for so long after a receipt, from a receipt then on
pub record IsBounded (name : ℕ) (error_then : ℕ → ℕ) (base : WorldState) (kept : KeptReading) (last : ℕ) : Type 0 where
  pub each : (time : ℕ) (error : ℤ) → last ≤ time → reading_error time base name kept ≡ Some error
      → unsigned_abs error ≤ error_then (time - last)

-- An act in a world is right for a system: the system doesn't take over by it, and a receipt of it leaves a reading
-- that is bounded so.
pub record IsRight (name : ℕ) (error_then : ℕ → ℕ) (t : ActTrace) (w : WorldState) : Type 0 where
  pub no_takeover : (u : NewReading) → u.clock ≡ name → IsTakenOver t.after u → ⊥
  pub bounds : (u : NewReading) → u.clock ≡ name → IsReceived t.told.done t.after u → (base : WorldState)
      → SameClocks base w → SameClocks base t.after → IsBounded name error_then base u.after (at_of t)
  pub reads : (rs : List SystemReading) → receives name t ≡ true
      → (u : NewReading) × (new_in t rs ≡ Some u) × (u.clock ≡ name)

-- ---- an act in a world where the choice stands

-- What it takes: the system has so many links and one more to its best, its choice stands after the act, and what a
-- Follow_Up leaves it is read, and exact.
pub record ReadsSo (name : ℕ) (way : Way) (steps : ℕ) (t : ActTrace) (w : WorldState) : Type 0 where
  pub well : IsWellFormed (snapshot_of w)
  pub far : IsDistance (snapshot_of w) name (suc steps)
  pub same : snapshot_of t.after ≡ snapshot_of w
  pub own : HaveOwnClocks w
  pub own_after : HaveOwnClocks t.after
  pub choice : (s : SystemState) → live_system name t.after ≡ Some s → HasSettledChoice (snapshot_of t.after) s
  pub draws : List Draw
  pub acts : Acts t.told.timed.act (at (at_of t) w) draws t.told.done t.after
  pub used : UsesFollowUp name t.told.done
      → (s : SystemState) × ShowsLive name t.after s × ((moment : ℕ) → IsSome (reading s moment))
  pub exact : (later : ℕ) (read shown : ℤ) → LeavesReading name t.after t.told.done (at_of t + later) read
      → IsBestsTime w name (at_of t + later) shown → AreWithin (reading_error_at way steps later) read shown

module _ (name : ℕ) (way : Way) (steps : ℕ) (t : ActTrace) (w : WorldState) (so : ReadsSo name way steps t w) where
  -- its system doesn't take over: it has a Slave port
  no_takeover : (u : NewReading) → u.clock ≡ name → IsTakenOver t.after u → ⊥
  no_takeover u named taken =
      let lives : live_system name t.after ≡ Some taken.own =
      subst (λ n. live_system n t.after ≡ Some taken.own) named taken.lives in
      let chosen = so.choice taken.own lives in
      let none : taken.own.slave ≡ None = none_is taken.own.slave (and_first (is_none taken.own.slave) _
      taken.sends) in
      let (x, member, clock_is, ports, is_named) = stands_there t.after name taken.own lives in
      let (l, parent) = parent_exists (snapshot_of w) name steps so.well so.far in
      let there : IsParent (snapshot_of t.after) (clock taken.own) l =
      subst (λ v. IsParent (snapshot_of t.after) v l) (sym is_named)
      (subst (λ h. IsParent h name l) (sym so.same) parent) in
      subst (IsSlaveOf (snapshot_of t.after) (clock taken.own)) none chosen.slave l there

  -- and each receipt leaves an exact reading
  receipt_bounds : (u : NewReading) → u.clock ≡ name → IsReceived t.told.done t.after u → (base : WorldState)
      → SameClocks base w → SameClocks base t.after → IsBounded name (reading_error_at way steps) base u.after (at_of t)
  receipt_bounds u named r base before after = record { each = within }
    where
      lives : live_system name t.after ≡ Some r.own
      lives = subst (λ n. live_system n t.after ≡ Some r.own) named r.lives

      own : receives_by name t.told.done ≡ true
      own =
          let itself : name == name ≡ true = grind (arith, nat_tests) in
          ap (λ o. option_map_or (λ c. c == name) o false) (r.told ∙ ap Some named) ∙ itself

      within : (time : ℕ) (error : ℤ) → at_of t ≤ time → reading_error time base name u.after ≡ Some error
          → unsigned_abs error ≤ reading_error_at way steps (time - at_of t)
      within time error behind is =
          let (best, is_best, root_is) = (so.choice r.own lives).root in
          let (x, member, clock_is, ports, is_named) = stands_there t.after name r.own lives in
          let there : IsBest (snapshot_of w) name best =
          subst (λ h. IsBest h name best) so.same (subst (λ v. IsBest (snapshot_of t.after) v best) is_named is_best) in
          let best_named : clock_of r.own.root ≡ best.clock =
          ap clock_of root_is ∙ (so.well.identified best there.live).clock in
          let (root, leads) = lives_there w best.clock best so.own there.live refl in
          let later : ℕ = time - at_of t in
          let sum : at_of t + later ≡ time = omega (arith, behind) in
          let read : ℤ = read_at r.reading (local_time r.own time) in
          let shown : ℤ = told_time root time in
          let exact = so.exact later read shown
          (record {
            uses = uses_follow_up name (at_of t) t.told.timed.act w so.draws t.told.done t.after so.acts
                (r.told ∙ ap Some named);
            system = r.own;
            shows = shows_live name t.after r.own lives;
            is = subst (λ m. reading r.own m ≡ Some read) (sym sum) (held_is_read r.own time r.reading r.held);
          })
          (record {
            best = best;
            is_best = there;
            root = root;
            shows = shows_live best.clock w root leads;
            is = ap (told_time root) (sym sum);
          }) in
          let still : live_system best.clock t.after ≡ Some root =
          receiver_alone name (at_of t) t.told.timed.act w so.draws t.told.done t.after so.acts own best.clock
          (best_apart (snapshot_of w) name steps best so.well so.far there) ∙ leads in
          let base_is : base_of best.clock t.after ≡ root.base =
          live_base best.clock t.after.stations root still in
          let clock_shows : clock_time best.clock time base ≡ Some (local_time root time) =
          sym (before best.clock time) ∙ live_time best.clock time w.stations root leads in
          let source_shows : source_time u.after.source time base ≡ Some shown =
          ap (λ (s : TimeSource). source_time s time base) (r.source ∙ ap (λ c. source_named c t.after) best_named)
          ∙ (λ i. option_map (λ z. z +ℤ base_is i) (clock_shows i)) in
          let own_shows : clock_time name time base ≡ Some (local_time r.own time) =
          sym (after name time) ∙ live_time name time t.after.stations r.own lives in
          let reads : read_by u.after (local_time r.own time) ≡ read =
          ap (λ o. option_map_or (λ (q : Reading). read_at q (local_time r.own time)) o
          (local_time r.own time +ℤ u.after.source.base)) r.left in
          let found : reading_error time base name u.after ≡ Some (read -ℤ shown) =
          (λ i. option_and_then (λ z. option_map (λ x. read_by u.after z -ℤ x) (source_shows i)) (own_shows i))
          ∙ ap (λ z. Some (z -ℤ shown)) reads in
          let error_is : read -ℤ shown ≡ error = same_Some (read -ℤ shown) error (sym found ∙ is) in
          subst (λ z. unsigned_abs z ≤ reading_error_at way steps later) error_is
          (size_within (reading_error_at way steps later) read shown exact)

  -- and one leaves a reading
  receipt_reads : (rs : List SystemReading) → receives name t ≡ true
      → (u : NewReading) × (new_in t rs ≡ Some u) × (u.clock ≡ name)
  receipt_reads rs own =
      let told = received_name name (received_by t.told.done) own in
      let uses = uses_follow_up name (at_of t) t.told.timed.act w so.draws t.told.done t.after so.acts told in
      let (s, shows, some) = so.used uses in
      let lives : live_system name t.after ≡ Some s =
      found name shows.place t.after.stations shows.station shows.is.here shows.is.named
      (λ other x there same. so.own_after other shows.place x shows.station there shows.is.here
      (same ∙ sym shows.is.named))
      ∙ ap (λ l. if l then Some shows.station.system else None) shows.live ∙ ap Some (sym shows.state) in
      let (r, held) = held_some s (some 0) in
      read_by_receipt t.told.timed.act (at (at_of t) w) so.draws t.told.done t.after rs name s r so.acts told lives held

  pub right_for : IsRight name (reading_error_at way steps) t w
  right_for = record { no_takeover = no_takeover; bounds = receipt_bounds; reads = receipt_reads }

-- ---- an act once a network has been calm for long

module _ {F : Type 0} (answers : Bounds → ℕ → F → Option ℕ → F → Type 0) (d : DocumentState)
    (playable : IsPlayable d) (names : List ℕ) (events : List Timed) (g : Snapshot) (name from bound : ℕ)
    (has : HasBound answers d playable names events g name from bound) where
  module _ (until : ℕ) (t : ActTrace) (fate drawn : F) (w : WorldState)
      (happens : Happens answers until t.told fate drawn w t.after) (keeps : Keeps answers d playable names events w)
      (late : from ≤ at_of t) (early : until ≤ 10 ^ 18) where
    abbrev pace : SettlingParams
    pace = (calm answers d playable names events g name from bound has until t fate drawn w happens keeps late).0.pace

    world_calm : WorldIsCalm pace w
    world_calm =
        let c = (calm answers d playable names events g name from bound has until t fate drawn w happens keeps
        late).0 in
        record {
          of = c.set;
          links = λ link member used.
              (let (place, there) = slice_get-In link w.net.channels member in
              let is = c.quiet.links place link there used in (is.lossless, is.good));
          lapses = c.quiet.lapses;
        }

    come_down : HasComeDown pace (path_bound g) (suc has.steps) (at_of t) w
    come_down =
        let c = (calm answers d playable names events g name from bound has until t fate drawn w happens keeps
        late).0 in
        let passed = c.late in omega (arith, passed)

    leads_there : (phase : ℕ → ℕ)
        × IsWayTo (follower_parts pace.params w) (snapshot_of w) (suc has.steps) name has.way phase
    leads_there =
        let claimed = keeps.claimed.world in
        let (phase, leads) = way_there d.network playable.network events w keeps.stands claimed.sound claimed.encodable
        g (alike answers d playable names events g name from bound has until t fate drawn w happens keeps late)
        (suc has.steps) name has.way
        (well answers d playable names events g name from bound has until t fate drawn w happens keeps late) has.far
        has.leads in (
          phase,
          subst (λ (p : SettlingParams). IsWayTo (follower_parts p.params w) (snapshot_of w) (suc has.steps) name
              has.way phase)
              (sym (calm answers d playable names events g name from bound has until t fate drawn w happens keeps
              late).1) leads,
        )

    in_time : at_of t ≤ 10 ^ 18
    in_time = let soon = happens.early in omega (arith, soon, early)

    pub calm_is_right : IsRight name (reading_error_at has.way has.steps) t w
    calm_is_right =
        let was = happens.was_done in
        let invariant = all answers d playable names events g name from bound has until t fate drawn w happens keeps
        late in
        let bounded = paths_bounded answers d playable names events g name from bound has until t fate drawn w happens
        keeps late in
        let close = near answers d playable names events g name from bound has until t fate drawn w happens keeps
        late in
        right_for name has.way has.steps t w (record {
          well = well answers d playable names events g name from bound has until t fate drawn w happens keeps late;
          far = far answers d playable names events g name from bound has until t fate drawn w happens keeps late;
          same = same answers d playable names events g name from bound has until t fate drawn w happens keeps late;
          own = keeps.claimed.world.sound.wired.clocks;
          own_after = (keeps_act answers d playable names events until t fate drawn w happens
              keeps).claimed.world.sound.wired.clocks;
          choice = λ s lives.
              let is = (rest answers d playable names events g name from bound has until t fate drawn w happens keeps
              late s lives).settled in
              record {
                root = is.root;
                steps = is.steps;
                slave = is.slave;
                parent = is.parent;
                roles = λ n of linked. is.roles n of;
              };
          draws = was.draws;
          acts = was.acts;
          used = λ uses.
              let (s, shows) = used_shows answers t.told.timed fate drawn w t.after t.told.done name was uses in (
                s,
                shows,
                worlds_have_readings answers t.told.timed fate drawn w t.after t.told.done invariant was in_time pace
                    (path_bound g) has.steps name s has.way leads_there.0 world_calm bounded come_down uses shows close
                    leads_there.1,
              );
          exact = λ later read shown leaves best.
              worlds_read_exactly answers t.told.timed fate drawn w t.after t.told.done invariant was in_time pace
              (path_bound g) has.steps name later (reading_error_at has.way has.steps later) read shown world_calm
              bounded come_down leaves close
              (record { way = has.way; phase = leads_there.0; leads = leads_there.1; is = refl }) best;
        })

-- Each of these acts from a time on is right for a system, in worlds that keep to these events, as long as clocks can
-- show the time.
abbrev pub AreRight : {F : Type 0} (answers : Bounds → ℕ → F → Option ℕ → F → Type 0) (d : DocumentState)
    (playable : IsPlayable d) (names : List ℕ) (events : List Timed) (name from : ℕ) (error_then : ℕ → ℕ)
    (acts : List ActTrace) → Type 0
AreRight {F} answers d playable names events name from error_then acts = (until : ℕ) (t : ActTrace) (fate drawn : F)
    (w : WorldState) → Happens answers until t.told fate drawn w t.after → Keeps answers d playable names events w
    → t.before ≡ w → until ≤ 10 ^ 18 → In t acts → from ≤ at_of t → IsRight name error_then t w
