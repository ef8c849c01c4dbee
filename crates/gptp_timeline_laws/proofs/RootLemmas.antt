-- A live system whose offset is known reads from the clock of the root that it follows.
use Rattle.std.proofs.Common.{◌≡◌, ◌==◌, ◌⊎◌, ◌++◌, ℕ, ℤ, Bool, true, false, List, [], ◌∷◌, map, Option, Some, None, option_map, slice_get, if◌then◌else◌, refl, sym, ap, subst, ◌∙◌, inl, inr, arith}
use Rattle.std.specs.Prelude.{is_none, IsSome}
use Rattle.std.proofs.lemmas.Bool.Decides.{nat_tests}
use Rattle.std.proofs.lemmas.Option.{none-some, same_Some}
use Rattle.gptp_correction.specs.declared.sync_in.SyncInfo.{SyncInfo}
use Rattle.gptp_invariants.proofs.SyncExactLemmas.{all_kept}
use Rattle.gptp_links.specs.declared.bounds.Bounds.{Bounds}
use Rattle.gptp_links.specs.Fate.{Draw}
use Rattle.gptp_lists.specs.Members.{In}
use Rattle.gptp_lists.proofs.PlaceLemmas.{get-set_same}
use Rattle.gptp_messages.specs.declared.follow_up.FollowUp.{FollowUp as FollowUpFields}
use Rattle.gptp_messages.specs.declared.message.Message.TheVariants as messages
use Rattle.gptp_messages.specs.Grammar.{Reads}
use Rattle.gptp_messages.specs.Head.{message_type}
use Rattle.gptp_model.specs.Acts.{Acts, at, Changes}
use Rattle.gptp_model.specs.Changing.{FailsIf}
use Rattle.gptp_model.specs.Sound.{HaveOwnClocks, IsSound}
use Rattle.gptp_model.specs.Views.{rising_clocks}
use Rattle.gptp_model.specs.World.{WorldState}
use Rattle.gptp_model.specs.declared.done.Done.{Done}
use Rattle.gptp_model.specs.declared.done.Done.TheVariants.{Heard, Quiet}
use Rattle.gptp_model.specs.declared.station.Station.{Station}
use Rattle.gptp_roles.specs.Selection.{clock_of}
use Rattle.gptp_scenario.specs.declared.change.Act.{Act}
use Rattle.gptp_scenario.specs.declared.change.Act.TheVariants.{Change as Changing, Deliver, Expire}
use Rattle.gptp_scenario.specs.declared.change.Change.{Change}
use Rattle.gptp_scenario.specs.declared.change.Change.TheVariants.{Fail, Inject, LinkDown, LinkSet, LinkUp, Priority1, Recover}
use Rattle.gptp_scenario.specs.declared.change.Timed.{Timed}
use Rattle.gptp_system.specs.State.{clock, SystemState}
use Rattle.gptp_system.proofs.TypeLemmas.{type_is}
use Rattle.gptp_system.specs.declared.reading.Reading.{Reading}
use Rattle.gptp_system.specs.Syncing.{held_reading, reading_by}
use Rattle.gptp_theorem.specs.Headline.{UsesFollowUp}
use Rattle.gptp_reading.proofs.KnownLemmas.{acts_hold, EachHolds, HasLearned, holds_begin}
use Rattle.gptp_reading.proofs.RunLemmas.{IsKeptAct}
use Rattle.gptp_timeline.specs.Readings.{failed_by, failed_in, new_in, no_reading, put_reading, read_after, reading_among, readings_after, readings_by}
use Rattle.gptp_timeline.specs.Receipts.{is_follow_up, received_by, receiver_clock}
use Rattle.gptp_timeline.specs.Shown.{live_system}
use Rattle.gptp_timeline.specs.Timeline.{none_carried, tracks}
use Rattle.gptp_timeline.specs.declared.readings.KeptReading.{KeptReading}
use Rattle.gptp_timeline.specs.declared.readings.NewReading.{NewReading}
use Rattle.gptp_timeline.specs.declared.readings.SystemReading.{SystemReading}
use Rattle.gptp_timeline.specs.declared.readings.TimeSource.{TimeSource}
use Rattle.gptp_timeline.proofs.NameLemmas.{acts_named, AreNamed, same_named}
use Rattle.gptp_timeline.proofs.RestLemmas.{found_live}
use Rattle.gptp_timeline.proofs.SettlingLemmas.{keeps_first}
use Rattle.gptp_timeline.proofs.ShownLemmas.{found}
use Rattle.gptp_timeline_laws.specs.Moments.{world_after}
use Rattle.gptp_timeline_laws.specs.Sources.{ReadsFromClock, TimelinesReadFromRoots}
use Rattle.gptp_timeline_laws.proofs.BoundLemmas.{readings_both}
use Rattle.gptp_timeline_laws.proofs.HeldLemmas.{and_first, read_by_receipt}
use Rattle.gptp_timeline_laws.proofs.OriginLemmas.{IsReceived, IsTakenOver, origin}
use Rattle.gptp_timeline_laws.proofs.PartLemmas.{moment_so}
use Rattle.gptp_timeline_laws.proofs.ReadLemmas.{put_other}
use Rattle.gptp_world.specs.Transitions.{ActTrace, transition}

-- ---- a Follow_Up that is used is a receipt

follow_up_read : (octets : List ℕ) (m : FollowUpFields) → Reads octets (messages.FollowUp m)
    → is_follow_up octets ≡ true
follow_up_read [] m reads =
    absurd (let is : message_type [] ≡ 8 = type_is [] (messages.FollowUp m) reads in omega (arith, is))
follow_up_read (octet ∷ octets) m reads =
    let is : message_type (octet ∷ octets) ≡ 8 = type_is (octet ∷ octets) (messages.FollowUp m) reads in
    grind (arith, nat_tests)

pub received_it : (name : ℕ) (done : Done) → UsesFollowUp name done → received_by done ≡ Some name
received_it name Quiet uses = absurd uses
received_it name (Heard number port answer frame) (same, used, (m, reads)) =
    let type = follow_up_read frame.items m reads in
    ap (λ a. receiver_clock number a frame.items) used
    ∙ ap (λ t. if t then Some number else None) type ∙ ap Some same

-- ---- what is kept of all systems

abbrev pub names_of : List SystemReading → List ℕ
names_of rs = map (λ (x : SystemReading). x.clock) rs

names_put : (n : ℕ) (put : Option KeptReading) (rs : List SystemReading)
    → names_of (put_reading n put rs) ≡ names_of rs
names_put n put [] = refl
names_put n put (x ∷ xs) = by (x.clock == n) refl (ap (λ rest. x.clock ∷ rest) (names_put n put xs))
  where
    by : (own : Bool) → x.clock == n ≡ own → x.clock ∷ names_of (put_reading n put xs) ≡ names_of (x ∷ xs)
        → names_of (put_reading n put (x ∷ xs)) ≡ names_of (x ∷ xs)
    by true own rest = rw own rest
    by false own rest = rw own rest

names_after : (act : Act) (new : Option NewReading) (rs : List SystemReading)
    → names_of (readings_by act new rs) ≡ names_of rs
names_after act (Some u) rs = names_put u.clock (Some u.after) rs
names_after act None rs = by (failed_by act) refl
  where
    by : (o : Option ℕ) → failed_by act ≡ o → names_of (readings_by act None rs) ≡ names_of rs
    by None is = rw is refl
    by (Some n) is = rw is (names_put n None rs)

pub names_over : (ts : List ActTrace) (rs : List SystemReading) → names_of (readings_after ts rs) ≡ names_of rs
names_over [] rs = refl
names_over (t ∷ ts) rs = names_over ts (read_after t rs) ∙ names_after t.told.timed.act (new_in t rs) rs

pub names_first : (ns : List ℕ) → names_of (map no_reading ns) ≡ ns
names_first [] = refl
names_first (n ∷ ns) = ap (λ rest. n ∷ rest) (names_first ns)

put_named : (n : ℕ) (put : Option KeptReading) (rs : List SystemReading) → In n (names_of rs)
    → reading_among (put_reading n put rs) n ≡ put
put_named n put [] there = absurd there
put_named n put (x ∷ xs) there = by (x.clock == n) refl there (put_named n put xs)
  where
    by : (own : Bool) → x.clock == n ≡ own → In n (names_of (x ∷ xs))
        → (In n (names_of xs) → reading_among (put_reading n put xs) n ≡ put)
        → reading_among (put_reading n put (x ∷ xs)) n ≡ put
    by true own there rest = rw (own, own) refl
    by false own (inl same) rest = absurd (let apart : n ≡ x.clock → ⊥ = grind (arith, nat_tests) in apart same)
    by false own (inr more) rest = rw (own, own) (rest more)

-- ---- an act

-- a system that an act makes fail doesn't live then
fails_dead : (act : Act) (w : WorldState) (draws : List Draw) (done : Done) (w' : WorldState) (n : ℕ)
    → HaveOwnClocks w' → Acts act w draws done w' → failed_by act ≡ Some n → (place : ℕ) (station : Station)
    → slice_get w'.stations place ≡ Some station → station.live ≡ true → clock station.system ≡ n → ⊥
fails_dead (Deliver link direction) w draws done w' n own acts is place station there live named = none-some n is
fails_dead (Expire name timer) w draws done w' n own acts is place station there live named = none-some n is
fails_dead (Changing change) w draws done w' n own (quiet, k) is place station there live named = by change k is
  where
    now : WorldState
    now = record w { last_change = w.time }

    dead : (number where_is : ℕ) (x : Station) → number ≡ n → slice_get w'.stations where_is ≡ Some x
        → x.live ≡ false → clock x.system ≡ number → ⊥
    dead number where_is x same here off named_so =
        let places = own where_is place x station here there (named_so ∙ same ∙ sym named) in
        let one = same_Some x station
        (sym here ∙ ap (λ i. slice_get w'.stations i) places ∙ there) in
        let no : false ≡ true = sym off ∙ ap (λ (y : Station). y.live) one ∙ live in cc

    fails : (number where_is : ℕ) (x : Station) (l : Bool) → number ≡ n → slice_get w.stations where_is ≡ Some x
        → clock x.system ≡ number → x.live ≡ l → FailsIf l where_is x now draws w' → ⊥
    fails number where_is x true same here named_so alive (none, is_failed) =
        dead number where_is (record x { live = false }) same
        (ap (λ (v : WorldState). slice_get v.stations where_is) is_failed
        ∙ get-set_same w.stations where_is x (record x { live = false }) here) refl named_so
    fails number where_is x false same here named_so off (none, stays) =
        dead number where_is x same (ap (λ (v : WorldState). slice_get v.stations where_is) stays ∙ here) off named_so

    by : (c : Change) → Changes c now draws w' → failed_in c ≡ Some n → ⊥
    by (Fail number) a same =
        fails number a.place a.station a.station.live (same_Some number n same) a.is.here a.is.named refl a.so
    by (LinkDown number port) a same = none-some n same
    by (LinkUp number port) a same = none-some n same
    by (LinkSet number port min max loss) a same = none-some n same
    by (Recover number) a same = none-some n same
    by (Priority1 number value) a same = none-some n same
    by (Inject number port octets) a same = none-some n same

-- a Slave port says that it reads from the clock of the root
abbrev Follows : List SystemReading → ℕ → ℕ → Option ℕ → Type 0
Follows rs name root slave = IsSome slave → ReadsFromClock rs name (clock_of root)

held_known : (s : SystemState) → IsSome s.known → IsSome s.offset → (r : Reading) × (held_reading s ≡ Some r)
held_known s known offset = by s.known s.offset refl refl known offset
  where
    by : (k : Option SyncInfo) (o : Option ℤ) → s.known ≡ k → s.offset ≡ o → IsSome k → IsSome o
        → (r : Reading) × (held_reading s ≡ Some r)
    by None o is also some more = absurd cc
    by (Some k) None is also some more = absurd cc
    by (Some k) (Some o) is also some more = (reading_by s k o, rw (is, also) refl)

slave_none : (o : Option ℕ) → is_none o ≡ true → IsSome o → ⊥
slave_none None none some = absurd cc
slave_none (Some p) none some = absurd cc

module _ (t : ActTrace) (w : WorldState) (draws : List Draw) (sound : IsSound t.after)
    (acts : Acts t.told.timed.act w draws t.told.done t.after) (names : List ℕ) (named : AreNamed names t.after)
    (rs : List SystemReading) (of_names : names_of rs ≡ names) (each : EachHolds (Follows rs) w) where
  abbrev act : Act
  act = t.told.timed.act

  module _ (place : ℕ) (station : Station) (there : slice_get t.after.stations place ≡ Some station)
      (live : station.live ≡ true) (known : IsSome station.system.offset) (slave : IsSome station.system.slave) where
    abbrev s : SystemState
    s = station.system

    abbrev name : ℕ
    name = clock s

    own : HaveOwnClocks t.after
    own = sound.wired.clocks

    lives : live_system name t.after ≡ Some s
    lives =
        found name place t.after.stations station there refl
        (λ other x here same. own other place x station here there same)
        ∙ ap (λ l. if l then Some s else None) live

    listed : In name (names_of rs)
    listed = subst (In name) (sym of_names) (named.each place station there)

    -- it gets a reading where it learned time
    gets : HasLearned t.told.done s → (u : NewReading) × (new_in t rs ≡ Some u) × (u.clock ≡ name)
    gets learned =
        let (r, held) = held_known s learned.known known in
        read_by_receipt act w draws t.told.done t.after rs name s r acts
        (received_it name t.told.done learned.uses) lives held

    from_old : reading_among (read_after t rs) name ≡ reading_among rs name
        → (HasLearned t.told.done s → ⊥) → ReadsFromClock (read_after t rs) name (clock_of s.root)
    from_old same no_new =
        elim (acts_hold (Follows rs) act w draws t.told.done t.after sound acts each place station there live) [
          | inl holds ↦ (let r = holds known slave in record { kept = r.kept; has = same ∙ r.has; is = r.is })
          | inr learned ↦ absurd (no_new learned)
        ]

    reads : ReadsFromClock (read_after t rs) name (clock_of s.root)
    reads = by (new_in t rs) refl
      where
        failed_other : (o : Option ℕ) → failed_by act ≡ o
            → reading_among (readings_by act None rs) name ≡ reading_among rs name
        failed_other None none = rw none refl
        failed_other (Some n) one =
            rw one (put_other n None rs name
            (λ same. fails_dead act w draws t.told.done t.after n own acts one place station there live same))

        by_origin : (u : NewReading) → u.clock ≡ name → IsReceived t.told.done t.after u ⊎ IsTakenOver t.after u
            → ReadsFromClock (put_reading u.clock (Some u.after) rs) name (clock_of s.root)
        by_origin u mine (inl r) =
            let state : r.own ≡ s =
            same_Some r.own s (sym r.lives ∙ ap (λ n. live_system n t.after) mine ∙ lives) in record {
              kept = u.after;
              has = ap (reading_among (put_reading u.clock (Some u.after) rs)) (sym mine)
                  ∙ put_named u.clock (Some u.after) rs (subst (λ n. In n (names_of rs)) (sym mine) listed);
              is = ap (λ (x : TimeSource). x.clock) r.source ∙ ap (λ (x : SystemState). clock_of x.root) state;
            }
        by_origin u mine (inr taken) =
            let state : taken.own ≡ s =
            same_Some taken.own s (sym taken.lives ∙ ap (λ n. live_system n t.after) mine ∙ lives) in
            absurd (slave_none taken.own.slave (and_first (is_none taken.own.slave) _ taken.sends)
            (subst (λ (x : SystemState). IsSome x.slave) (sym state) slave))

        by : (new : Option NewReading) → new_in t rs ≡ new → ReadsFromClock (read_after t rs) name (clock_of s.root)
        by None is =
            from_old (ap (λ o. reading_among (readings_by act o rs) name) is ∙ failed_other (failed_by act) refl)
            (λ learned. (let (u, new, mine) = gets learned in none-some u (sym is ∙ new)))
        by (Some u) is = own_or_other (name == u.clock) refl
          where
            own_or_other : (test : Bool) → name == u.clock ≡ test
                → ReadsFromClock (read_after t rs) name (clock_of s.root)
            own_or_other true test =
                let mine : u.clock ≡ name = grind (arith, nat_tests) in
                subst (λ o. ReadsFromClock (readings_by act o rs) name (clock_of s.root)) (sym is)
                (by_origin u mine (origin act t.told.done t.after rs u is))
            own_or_other false test =
                let apart : name ≡ u.clock → ⊥ = grind (arith, nat_tests) in
                from_old
                (ap (λ o. reading_among (readings_by act o rs) name) is
                ∙ put_other u.clock (Some u.after) rs name apart)
                (λ learned.
                (let (v, new, mine) = gets learned in
                apart (sym mine ∙ ap (λ (x : NewReading). x.clock) (same_Some v u (sym new ∙ is)))))

-- ---- a run

module _ {F : Type 0} (answers : Bounds → ℕ → F → Option ℕ → F → Type 0) (names : List ℕ)
    (first : List SystemReading) where
  record AreFollowed (acts : List ActTrace) (w : WorldState) : Type 0 where
    named : AreNamed names w
    of_names : names_of (readings_after acts first) ≡ names
    each : EachHolds (Follows (readings_after acts first)) w

  act_follows : (ts : List ActTrace) (timed : Timed) (done : Done) (w w' : WorldState)
      → IsKeptAct answers timed done w w' → AreFollowed ts w → AreFollowed (ts ++ transition timed done w w' ∷ []) w'
  act_follows ts timed done w w' k are =
      let t : ActTrace = transition timed done w w' in
      let rs = readings_after ts first in
      let after = readings_both ts (t ∷ []) first in
      let all = all_kept answers timed k.fate k.fate_after w w' done k.fit k.prompt k.octet k.was k.all in
      let named = acts_named names timed.act (at timed.at w) k.was.draws done w' k.was.acts
      (same_named names w (at timed.at w) refl are.named) in record {
        named = named;
        of_names = ap names_of after ∙ names_after timed.act (new_in t rs) rs ∙ are.of_names;
        each = subst (λ us. EachHolds (Follows us) w') (sym after)
            (λ place station there live known slave.
            reads t (at timed.at w) k.was.draws all.is.world.sound k.was.acts names named rs are.of_names are.each place
            station there live known slave);
      }

pub readings_are : (asked : Bool) (names : List ℕ) (before : List ActTrace) (o : Option (List SystemReading))
    (rs : List SystemReading) → o ≡ option_map (readings_after before) (none_carried asked names).readings
    → o ≡ Some rs → rs ≡ readings_after before (map no_reading names)
readings_are true names before o rs is has =
    same_Some rs (readings_after before (map no_reading names)) (sym has ∙ is)
readings_are false names before o rs is has = absurd (none-some rs (sym is ∙ has))

pub timelines_read_from_roots : {F : Type 0} (answers : Bounds → ℕ → F → Option ℕ → F → Type 0)
    → TimelinesReadFromRoots answers
timelines_read_from_roots answers d until options fate lines exceeded t playable ends p w c rs time moment name s begins
    has lives slave known =
    let names = rising_clocks t.start in
    let none = map no_reading names in
    let keeps = keeps_first answers d playable names fate t.started t.start refl t.begun in
    let k = moment_so answers d until options fate lines exceeded t playable ends (AreFollowed answers names none)
    (act_follows answers names none) (λ ts v later on first are. record {
      named = same_named names v (at later v) refl are.named;
      of_names = are.of_names;
      each = are.each;
    }) (record {
      named = keeps.named;
      of_names = names_first names;
      each = holds_begin (Follows none) answers d.network fate t.started t.start t.begun;
    }) p w c time moment begins in
    let live = found_live name (world_after moment.done w).stations s lives in
    let one = k.so.each live.place live.station live.here live.live
    (subst (λ (x : SystemState). IsSome x.offset) (sym live.state) known)
    (subst (λ (x : SystemState). IsSome x.slave) (sym live.state) slave) in
    let was = readings_are (tracks options) names k.before c.readings rs k.readings has in
    let after : readings_after (k.before ++ moment.done) none ≡ readings_after moment.done rs =
    readings_both k.before moment.done none ∙ ap (readings_after moment.done) (sym was) in
    subst (λ us. ReadsFromClock us name (clock_of s.root)) after
    (subst (λ n. ReadsFromClock (readings_after (k.before ++ moment.done) none) n (clock_of s.root)) live.is_named
    (subst (λ (x : SystemState). ReadsFromClock (readings_after (k.before ++ moment.done) none)
    (clock live.station.system)
    (clock_of x.root)) live.state one))
