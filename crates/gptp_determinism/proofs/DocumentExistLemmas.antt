-- A document is played to a time, whatever its fate.
use Rattle.std.proofs.Common.{◌≡◌, ◌⊎◌, ◌+◌, ◌≤◌, ℕ, zero, suc, Bool, true, false, cond, nat_le, List, [], ◌∷◌, ◌++◌, length, Option, refl, sym, ap, subst, ◌∙◌, inl, inr, append_assoc, append-nil, arith}
use Rattle.std.specs.Prelude.{◌==◌, ◌||◌, ⊤}
use Rattle.std.specs.List.{AllByRecursion, range_with_len}
use Rattle.std.proofs.lemmas.Bool.{eqb-true, or_cases}
use Rattle.std.proofs.lemmas.Bool.Decides.{nat_tests}
use Rattle.gptp_links.specs.declared.bounds.Bounds.{Bounds}
use Rattle.gptp_lists.proofs.MappedLemmas.{alike}
use Rattle.gptp_lists.proofs.SystemSpecLemmas.{slice_get-In}
use Rattle.gptp_roles.specs.Selection.{clock_of}
use Rattle.gptp_setup.specs.Intervals.{IsMoment}
use Rattle.gptp_system.specs.State.{clock}
use Rattle.gptp_vector.specs.declared.port.PortId.{PortId}
use Rattle.gptp_scenario.specs.Allowed.{AreAllowed, IsAllowed}
use Rattle.gptp_scenario.specs.Change.{link_after}
use Rattle.gptp_scenario.specs.Network.{IsNetwork, NetworkState, members_have_clock, is_taken, same_port}
use Rattle.gptp_scenario.specs.declared.change.Act.{Act}
use Rattle.gptp_scenario.specs.declared.change.Change.{Change}
use Rattle.gptp_scenario.specs.declared.change.Change.TheVariants.{LinkDown, LinkUp, LinkSet, Fail, Recover, Priority1, Inject}
use Rattle.gptp_scenario.specs.declared.change.Timed.{Timed}
use Rattle.gptp_scenario.specs.declared.network.SystemSpec.{SystemSpec}
use Rattle.gptp_scenario.specs.declared.network.LinkSpec.{LinkSpec}
use Rattle.gptp_scenario.proofs.AfterLemmas.{after_keeps}
use Rattle.gptp_scenario.proofs.LogLemmas.{smallest_log}
use Rattle.gptp_model.specs.Acts.{at, AnyLink, AnySystem, AtLink, AtSystem, IsReadyAct, IsThereToChange}
use Rattle.gptp_model.specs.Course.{Begun}
use Rattle.gptp_model.specs.Initial.{initial}
use Rattle.gptp_model.specs.Pending.{NothingBefore}
use Rattle.gptp_model.specs.Sound.{IsSound}
use Rattle.gptp_model.specs.World.{Channel, WorldState, port_id}
use Rattle.gptp_model.proofs.AdvanceLemmas.{nothing_sooner}
use Rattle.gptp_invariants.proofs.DelayLinkLaneLemmas.{true_same}
use Rattle.gptp_invariants.proofs.WorldOutlineLemmas.{acts_time, starts_are_last}
use Rattle.gptp_network.specs.Document.{DocumentState}
use Rattle.gptp_network.specs.Events.{AreInOrder, IsPossibleChange, IsEvent}
use Rattle.gptp_network.specs.Snapshot.{events_by}
use Rattle.gptp_network.proofs.EventLemmas.{events_allowed}
use Rattle.gptp_network.proofs.PassLemmas.{passes}
use Rattle.gptp_network.proofs.SnapshotLemmas.{clock_after}
use Rattle.gptp_report.specs.Transitions.{Courses, Makes, Passes, PassesTo, ActTrace, Unfolds, transition}
use Rattle.gptp_theorem.specs.PlayedLaws.{IsPlayable}
use Rattle.gptp_theorem.specs.Reached.{Shape, StandsAsPlanned, shape, shape_after, channel_wire}
use Rattle.gptp_theorem.proofs.BeginLemmas.{begun_stands}
use Rattle.gptp_theorem.proofs.ChangeLemmas.{changes_stand}
use Rattle.gptp_theorem.proofs.KeptLemmas.{acts_stand, time_stands}
use Rattle.gptp_theorem.proofs.CalmKeptLemmas.{no_change}
use Rattle.gptp_determinism.specs.ExistenceLaws.{ActsExist, AllInject, BeginningsExist, DocumentsUnfold}
use Rattle.gptp_determinism.specs.GoingOn.{AnswersAll, CanGoOn, InjectsOctets}
use Rattle.gptp_determinism.proofs.WayExistLemmas.{AllTellOctets, done_octets, goes_to, octets-append}
use Rattle.gptp_determinism.proofs.BeginExistLemmas.{acts_exist, beginnings_exist}

-- ---- what an event names is there

-- a link that joins the ports of a link of the network is at the port that this is at
joined_at : (v : LinkSpec) (channel : Channel) (port : PortId) → channel.a ≡ v.a → channel.b ≡ v.b
    → (same_port v.a port ≡ true) ⊎ (same_port v.b port ≡ true) → (channel.a ≡ port) ⊎ (channel.b ≡ port)
joined_at v channel port a b (inl same) = inl (a ∙ true_same v.a port same)
joined_at v channel port a b (inr same) = inr (b ∙ true_same v.b port same)

module _ (n : NetworkState) (events : List Timed) (w : WorldState) (so : StandsAsPlanned n events w) where
  -- the link at a port of the network
  link_there : (port : PortId) → is_taken n.links port ≡ true → AtLink port w.net AnyLink
  link_there port taken =
      let (v, member, is) = passes (λ (x : LinkSpec). same_port x.a port || same_port x.b port) n.links taken in
      let (place, there) = slice_get-In v n.links member in
      let (channel, here, same) = alike channel_wire
      (link_after events) w.net.channels n.links so.links place v there in
      let keeps = after_keeps events v in
      let a : channel.a ≡ v.a = ap (λ (x : LinkSpec). x.a) same ∙ keeps.a in
      let b : channel.b ≡ v.b = ap (λ (x : LinkSpec). x.b) same ∙ keeps.b in
      record {
        place = place;
        channel = channel;
        is = record {
          here = here;
          joined = joined_at v channel port a b (or_cases (same_port v.a port) (same_port v.b port) is);
        };
        so = tt;
      }

  -- the system of a clock of the network
  system_there : IsSound w → (number : ℕ) → members_have_clock n.systems number ≡ true → AtSystem number w AnySystem
  system_there sound number has =
      let (m, member, is) = passes (λ (x : SystemSpec). clock_of x.identity == number) n.systems has in
      let (place, there) = slice_get-In m n.systems member in
      let (station, here, same) = alike shape (shape_after n events) w.stations n.systems so.systems place m
      there in
      let named : clock station.system ≡ clock_of m.identity =
      sym (sound.wired.setups place station here).named ∙ ap (λ (s : Shape). clock_of s.setup.identity) same
      ∙ clock_after events m in
      record {
        place = place;
        station = station;
        is = record { here = here; named = named ∙ eqb-true (clock_of m.identity) number is };
        so = tt;
      }

  change_there : (change : Change) → IsSound w → IsPossibleChange n change → IsThereToChange change w
  change_there (LinkDown number port) sound is = link_there (port_id number port) is
  change_there (LinkUp number port) sound is = link_there (port_id number port) is
  change_there (LinkSet number port least greatest loss) sound (is, bounds) = link_there (port_id number port) is
  change_there (Fail number) sound is = system_there sound number is
  change_there (Recover number) sound is = system_there sound number is
  change_there (Priority1 number value) sound is = system_there sound number is
  change_there (Inject number port octets) sound is = link_there (port_id number port) is

  -- so an event is ready at its time, before which nothing is due
  event_ready : (event : Timed) → IsEvent n event → IsSound w → w.time ≡ event.at
      → NothingBefore event.at w.net.pending → IsReadyAct event.act event.at w
  event_ready event is sound now first =
      subst (λ (act : Act). IsReadyAct act event.at w) (sym is.act)
      (record {
        timely = record { now = omega (arith, now); first = first };
        there = change_there is.change sound is.fits;
        due = tt;
      })

-- ---- events that can be made

-- what is asked of an event that is made in a world of the network
pub record CanBeMade (n : NetworkState) (event : Timed) : Type 0 where
  pub is : IsEvent n event
  pub allowed : IsAllowed event
  pub injects : InjectsOctets event.act

all_made : (n : NetworkState) (events : List Timed) → AllByRecursion (IsEvent n) events → AreAllowed events
    → AllInject events → AllByRecursion (CanBeMade n) events
all_made n [] each allowed inject = tt
all_made n (e ∷ events) each allowed inject = (
  record { is = each.0; allowed = allowed zero e refl; injects = inject.0 },
  all_made n events each.1 (λ place. allowed (suc place)) inject.1,
)

-- each event of a document that is playable can be made
pub events_can : (d : DocumentState) → IsPlayable d → AllInject d.events
    → AllByRecursion (CanBeMade d.network) d.events
events_can d is inject =
    all_made d.network d.events is.events.each
    (events_allowed d.network d.events (smallest_log d.network is.network) is.events) inject

-- what is so of each is so of those up to a time
pub each_by : (P : Timed → Type 0) (until : ℕ) (events : List Timed) → AllByRecursion P events
    → AllByRecursion P (events_by until events)
each_by P until [] each = tt
each_by P until (e ∷ events) each = by (nat_le e.at until) each.0 (each_by P until events each.1)
  where
    by : (early : Bool) → P e → AllByRecursion P (events_by until events)
        → AllByRecursion P (cond early (e ∷ events_by until events) (events_by until events))
    by true one rest = (one, rest)
    by false one rest = rest

-- ---- the times of events

-- from a time on they come one after another, none later than another time
abbrev pub AreAhead : ℕ → ℕ → List Timed → Type 0
AreAhead from until [] = from ≤ until
AreAhead from until (e ∷ events) = (from ≤ e.at) × AreAhead e.at until events

-- the first isn't before a time
abbrev pub StartFrom : ℕ → List Timed → Type 0
StartFrom from [] = ⊤
StartFrom from (e ∷ events) = from ≤ e.at

behind_first : (e : Timed) (events : List Timed) → AreInOrder (e ∷ events) → StartFrom e.at events
behind_first e [] order = tt
behind_first e (f ∷ events) order = order.0

rest_in_order : (e : Timed) (events : List Timed) → AreInOrder (e ∷ events) → AreInOrder events
rest_in_order e [] order = tt
rest_in_order e (f ∷ events) order = order.1

start_sooner : (from later : ℕ) (events : List Timed) → from ≤ later → StartFrom later events → StartFrom from events
start_sooner from later [] less start = tt
start_sooner from later (e ∷ events) less start = omega (arith, less, start)

-- so are those up to a time of events in order
pub ahead_by : (from until : ℕ) (events : List Timed) → from ≤ until → AreInOrder events → StartFrom from events
    → AreAhead from until (events_by until events)
ahead_by from until [] ahead order start = ahead
ahead_by from until (e ∷ events) ahead order start =
    by (nat_le e.at until) refl
    (λ early. ahead_by e.at until events early (rest_in_order e events order) (behind_first e events order))
    (ahead_by from until events ahead (rest_in_order e events order)
    (start_sooner from e.at events start (behind_first e events order)))
  where
    by : (early : Bool) → nat_le e.at until ≡ early → (e.at ≤ until → AreAhead e.at until (events_by until events))
        → AreAhead from until (events_by until events)
        → AreAhead from until (cond early (e ∷ events_by until events) (events_by until events))
    by true is more rest = let in_time : e.at ≤ until = grind (arith, nat_tests) in (start, more in_time)
    by false is more rest = rest

start_at_all : (events : List Timed) → StartFrom 0 events
start_at_all [] = tt
start_at_all (e ∷ events) = omega arith

-- ---- a world stands as the network does all the way

module _ {F : Type 0} (answers : Bounds → ℕ → F → Option ℕ → F → Type 0) (n : NetworkState) (events : List Timed) where
  passes_stand : (until : ℕ) (ts : List ActTrace) (fate f : F) (w v : WorldState)
      → Passes answers until ts fate f w v → StandsAsPlanned n events w → StandsAsPlanned n events v
  passes_stand until [] fate f w v k so = subst (StandsAsPlanned n events) (sym k.1) so
  passes_stand until (t ∷ ts) fate f w v (drawn, is, k, rest) so =
      let timed = t.told.timed in
      passes_stand until ts drawn f t.after v rest
      (acts_stand n events timed.act (at timed.at w) k.was_done.draws t.told.done t.after
      (no_change k.next.item timed.act w k.next.act) k.was_done.acts (time_stands n events w timed.at so))

  pub passes_to_stand : (until : ℕ) (ts : List ActTrace) (fate f : F) (w v : WorldState)
      → PassesTo answers until ts fate f w v → StandsAsPlanned n events w → StandsAsPlanned n events v
  passes_to_stand until ts fate f w v k so =
      subst (StandsAsPlanned n events) (sym k.is)
      (time_stands n events k.between until (passes_stand until ts fate f w k.between k.passes so))

-- ---- events one after another

-- An event is made, and the world can go on, and stands as the network does after it.
pub record HasMade {F : Type 0} (answers : Bounds → ℕ → F → Option ℕ → F → Type 0) (n : NetworkState)
    (before : List Timed) (event : Timed) (fate : F) (w : WorldState) : Type 0 where
  pub ts : List ActTrace
  pub fate_after : F
  pub after : WorldState
  pub makes : Makes answers event ts fate fate_after w after
  pub can : CanGoOn after
  pub stands : StandsAsPlanned n (before ++ event ∷ []) after
  pub now : after.time ≡ event.at
  pub octets : AllTellOctets ts

-- Events are made one after another, and then all happens that is due by a time.
pub record HasCourse {F : Type 0} (answers : Bounds → ℕ → F → Option ℕ → F → Type 0) (n : NetworkState)
    (before events : List Timed) (until : ℕ) (fate : F) (w : WorldState) : Type 0 where
  pub ts : List ActTrace
  pub fate_after : F
  pub after : WorldState
  pub courses : Courses answers until events ts fate fate_after w after
  pub can : CanGoOn after
  pub stands : StandsAsPlanned n (before ++ events) after
  pub now : after.time ≡ until
  pub octets : AllTellOctets ts

module _ {F : Type 0} (answers : Bounds → ℕ → F → Option ℕ → F → Type 0) (acts : ActsExist answers)
    (all : AnswersAll answers) (n : NetworkState) where
  makes_exist : (before : List Timed) (event : Timed) (fate : F) (w : WorldState) → w.time ≤ event.at
      → CanBeMade n event → CanGoOn w → StandsAsPlanned n before w → HasMade answers n before event fate w
  makes_exist before event fate w ahead made can so =
      let way = goes_to answers acts all event.at fate w can ahead made.allowed.moment in
      let so_then = passes_to_stand answers n before event.at way.ts fate way.fate_after w way.after way.passes so in
      let now : way.after.time ≡ event.at = ap (λ (x : WorldState). x.time) way.passes.is in
      let none : NothingBefore (event.at + 1) way.after.net.pending =
      subst (λ (x : WorldState). NothingBefore (event.at + 1) x.net.pending) (sym way.passes.is)
      way.passes.nothing_left in
      let first = nothing_sooner event.at (event.at + 1) way.after.net.pending (omega arith) none in
      let ready = event_ready n before way.after so_then event made.is way.can.sound now first in
      let (drawn, v, done, was, can_then) =
      acts all event way.fate_after way.after way.can made.allowed made.injects ready in
      let act_is = made.is.act in
      record {
        ts = way.ts ++ transition event done way.after v ∷ [];
        fate_after = drawn;
        after = v;
        makes = record {
          first = way.ts;
          drawn = way.fate_after;
          between = way.after;
          passes = way.passes;
          done = done;
          made = was;
          are = refl {a = way.ts ++ transition event done way.after v ∷ []};
        };
        can = can_then;
        stands = changes_stand n before event made.is.change way.after was.draws done v act_is way.can.sound was.acts
            so_then;
        now = acts_time event.act (at event.at way.after) was.draws done v was.acts;
        octets = octets-append way.ts (transition event done way.after v ∷ []) way.octets
            (done_octets event.act event.at way.after v was.draws done way.can was.acts, tt);
      }

  -- From a world that stands as the network does after events that were, those that are ahead are made, up to a time.
  pub courses_exist : (before events : List Timed) (until : ℕ) (fate : F) (w : WorldState) → IsMoment until
      → AreAhead w.time until events → AllByRecursion (CanBeMade n) events → CanGoOn w → StandsAsPlanned n before w
      → HasCourse answers n before events until fate w
  courses_exist before [] until fate w moment ahead made can so =
      let way = goes_to answers acts all until fate w can ahead moment in
      record {
        ts = way.ts;
        fate_after = way.fate_after;
        after = way.after;
        courses = way.passes;
        can = way.can;
        stands = subst (λ (es : List Timed). StandsAsPlanned n es way.after) (sym (append-nil before))
            (passes_to_stand answers n before until way.ts fate way.fate_after w way.after way.passes so);
        now = ap (λ (x : WorldState). x.time) way.passes.is;
        octets = way.octets;
      }
  courses_exist before (event ∷ events) until fate w moment ahead made can so =
      let one = makes_exist before event fate w ahead.0 made.0 can so in
      let rest = courses_exist (before ++ event ∷ []) events until one.fate_after one.after moment
      (subst (λ (t : ℕ). AreAhead t until events) (sym one.now) ahead.1) made.1 one.can one.stands in
      record {
        ts = one.ts ++ rest.ts;
        fate_after = rest.fate_after;
        after = rest.after;
        courses = (one.ts, rest.ts, one.fate_after, one.after, one.makes, rest.courses, refl);
        can = rest.can;
        stands = subst (λ (es : List Timed). StandsAsPlanned n es rest.after) (append_assoc before (event ∷ []) events)
            rest.stands;
        now = rest.now;
        octets = octets-append one.ts rest.ts one.octets rest.octets;
      }

-- ---- a document

-- its world begins, can go on, and stands as the network does, at time 0
pub record HasBegun {F : Type 0} (answers : Bounds → ℕ → F → Option ℕ → F → Type 0) (n : NetworkState) (fate : F)
    : Type 0 where
  pub started : F
  pub start : WorldState
  pub begun : Begun answers n fate started start
  pub can : CanGoOn start
  pub stands : StandsAsPlanned n [] start
  pub now : start.time ≡ 0

-- it goes on with its events up to a time
pub record HasUnfolded {F : Type 0} (answers : Bounds → ℕ → F → Option ℕ → F → Type 0) (d : DocumentState) (until : ℕ)
    (fate : F) : Type 0 where
  pub start : WorldState
  pub ts : List ActTrace
  pub after : WorldState
  pub unfolds : Unfolds answers d until fate start ts after
  pub can : CanGoOn after
  pub octets : AllTellOctets ts

module _ {F : Type 0} (answers : Bounds → ℕ → F → Option ℕ → F → Type 0) (begins : BeginningsExist answers)
    (all : AnswersAll answers) where
  pub has_begun : (n : NetworkState) (fate : F) → IsNetwork n → HasBegun answers n fate
  has_begun n fate network =
      let (f, w, begun, can) = begins all n fate network in
      let so = begun_stands answers n fate f w begun in
      let last : w.last_change ≡ w.time =
      starts_are_last (range_with_len 0 (length n.systems)) (initial n) begun.draws w refl begun.starts in
      record { started = f; start = w; begun = begun; can = can; stands = so; now = sym last ∙ so.last }

  pub has_unfolded : ActsExist answers → (d : DocumentState) (until : ℕ) (fate : F) → IsPlayable d
      → AllInject d.events → IsMoment until → HasUnfolded answers d until fate
  has_unfolded acts d until fate is inject moment =
      let at_first = has_begun d.network fate is.network in
      let ahead : AreAhead 0 until (events_by until d.events) =
      ahead_by 0 until d.events (omega arith) is.events.in_order (start_at_all d.events) in
      let course = courses_exist answers acts all d.network [] (events_by until d.events) until at_first.started
      at_first.start moment (subst (λ (t : ℕ). AreAhead t until (events_by until d.events)) (sym at_first.now) ahead)
      (each_by (CanBeMade d.network) until d.events (events_can d is inject)) at_first.can at_first.stands in
      record {
        start = at_first.start;
        ts = course.ts;
        after = course.after;
        unfolds = record {
          started = at_first.started;
          begun = at_first.begun;
          drawn = course.fate_after;
          courses = course.courses;
        };
        can = course.can;
        octets = course.octets;
      }

-- a document is played to each time
pub documents_unfold : {F : Type 0} (answers : Bounds → ℕ → F → Option ℕ → F → Type 0) → DocumentsUnfold answers
documents_unfold answers all d until fate is inject moment =
    let whole =
    has_unfolded answers (beginnings_exist answers) all (acts_exist answers) d until fate is inject moment in
    (whole.start, whole.ts, whole.after, whole.unfolds, whole.can)
