-- A port that has measured nothing comes up: its system shows what it showed, and only asks.
use Rattle.std.proofs.Common.{◌≡◌, ◌≢◌, ℕ, ℤ, zero, suc, Bool, false, List, [], ◌∷◌, ◌++◌, map, Some, None, slice_get, slice_set, refl, sym, ap, subst, ◌∙◌, append-nil, inl, inr}
use Rattle.std.proofs.lemmas.Option.{none-some, same_Some}
use Rattle.gptp_lists.specs.Members.{In}
use Rattle.gptp_graph.specs.Snapshot.{PortIdentity, port_of}
use Rattle.gptp_links.specs.Fate.{Draw}
use Rattle.gptp_pdelay.specs.Peer.{reset_peer}
use Rattle.gptp_receipt.specs.declared.held.Held.{Held}
use Rattle.gptp_system.specs.declared.answer.Answer.{Answer}
use Rattle.gptp_system.specs.declared.port.Port.{Port}
use Rattle.gptp_system.specs.declared.sending.Sending.{Sending}
use Rattle.gptp_system.specs.Input.{PortUp}
use Rattle.gptp_system.specs.Measuring.{ComesUp, TurnsIf, is_turned, port_asks, request_of}
use Rattle.gptp_system.specs.Selection.{Becomes}
use Rattle.gptp_system.specs.Sends.{with_send}
use Rattle.gptp_system.specs.State.{SystemState, change_at, clock, number, with_peer}
use Rattle.gptp_model.specs.Act.{Calls, all_timers, in_state}
use Rattle.gptp_model.specs.World.{WorldState}
use Rattle.gptp_bmca_machine.specs.Frame.{Lane, Send}
use Rattle.gptp_bmca_machine.specs.Station.{Port as SeenPort, Station as SeenStation}
use Rattle.gptp_invariants.specs.ChoiceView.{port_view, ports_view, send_view, span_at, station_view, system_view, lanes_view, view}
use Rattle.gptp_invariants.proofs.ChoiceSendLemmas.{sends_step}
use Rattle.gptp_invariants.proofs.ChoiceTakeUpLemmas.{BeginApart}

-- ---- the system

-- the port that measured nothing doesn't become capable, nor does it cease to be
not_turned : (s : SystemState) (p : ℕ) (q : Port) → number s.ports p ≡ Some q → q.peer.last ≡ None
    → is_turned reset_peer (number s.ports p) ≡ false
not_turned s p q there none = rw there (rw none refl)

-- what it becomes, and what it sends
record AsksAlone (p now : ℕ) (s s' : SystemState) (sends : List Sending) : Type 0 where
  state : s' ≡ port_asks p now (with_peer p reset_peer s)
  sends_are : sends ≡ request_of p (with_peer p reset_peer s) ∷ []

asks_alone : (p now : ℕ) (s s' : SystemState) (sends : List Sending) (q : Port) → number s.ports p ≡ Some q
    → q.peer.last ≡ None → ComesUp p now s s' sends → AsksAlone p now s s' sends
asks_alone p now s s' sends q there none k =
    let becomes : Becomes (with_peer p reset_peer s) k.between k.first =
    subst (λ b. TurnsIf b p reset_peer now s k.between k.first) (not_turned s p q there none) k.turns in
    record {
      state = k.state ∙ ap (port_asks p now) becomes.state;
      sends_are = k.sends_are ∙ (λ i. with_send (request_of p (becomes.state i)) (becomes.silent i));
    }

-- ---- what is seen of it

-- a change of a port that leaves its interval and its Announce timer isn't seen
pub unseen_at : (keep : ℤ → ℕ) (f : Port → Port)
    → ((q : Port) → (h : Held) → port_view keep h (f q) ≡ port_view keep h q)
    → (hs : List Held) (i : ℕ) (qs : List Port) → ports_view keep hs (change_at f i qs) ≡ ports_view keep hs qs
unseen_at keep f same [] i qs = refl
unseen_at keep f same (h ∷ hs) i [] = refl
unseen_at keep f same (h ∷ hs) zero (q ∷ qs) = ap (λ x. x ∷ ports_view keep hs qs) (same q h)
unseen_at keep f same (h ∷ hs) (suc i) (q ∷ qs) =
    ap (λ xs. port_view keep h q ∷ xs) (unseen_at keep f same hs i qs)

with_ports : SeenStation → List SeenPort → SeenStation
with_ports s ports = record s { ports = ports }

asks_unseen : (live : Bool) (p now : ℕ) (s : SystemState)
    → system_view live (port_asks p now (with_peer p reset_peer s)) ≡ system_view live s
unfolding with_ports
asks_unseen live zero now s = refl
asks_unseen live (suc i) now s =
    ap (with_ports (system_view live s))
    (unseen_at (span_at s) _ (λ q h. refl) s.held i (change_at (λ q. record q { peer = reset_peer q.peer }) i s.ports)
    ∙ unseen_at (span_at s) _ (λ q h. refl) s.held i s.ports)

-- ---- a call

-- a list with a member replaced by one that looks the same looks the same
looks_same : {X Y : Type 0} (f : X → Y) (xs : List X) (i : ℕ) (x y : X) → slice_get xs i ≡ Some x → f y ≡ f x
    → map f (slice_set xs i y) ≡ map f xs
looks_same f [] i x y there same = absurd (none-some x there)
looks_same f (z ∷ xs) zero x y there same = ap (λ v. v ∷ map f xs) (same ∙ ap f (sym (same_Some z x there)))
looks_same f (z ∷ xs) (suc i) x y there same = ap (λ vs. f z ∷ vs) (looks_same f xs i x y there same)

-- no member is left of a list that has none
none_left : {X : Type 0} (xs : List X) → ((x : X) → In x xs → ⊥) → xs ≡ []
none_left [] none = refl
none_left (x ∷ xs) none = absurd (none x (inl refl))

-- What a port that comes up so changes of what is seen: nothing of the systems, and no lane but that which begins at
-- it.
pub record RaisesAlone (from : PortIdentity) (w w' : WorldState) : Type 0 where
  pub time : w'.time ≡ w.time
  pub stations : (view w').stations ≡ (view w).stations
  pub lanes : (j : ℕ) (l' : Lane) → slice_get (view w').lanes j ≡ Some l' → l'.from ≢ from
      → slice_get (view w).lanes j ≡ Some l'
  pub begin : (j : ℕ) (l' : Lane) → slice_get (view w').lanes j ≡ Some l'
      → (l : Lane) × (slice_get (view w).lanes j ≡ Some l) × (l'.from ≡ l.from)

module _ (place p : ℕ) (w : WorldState) (draws : List Draw) (answer : Answer) (w' : WorldState)
    (k : Calls place (PortUp p) w draws answer w') (q : Port) (there : number k.station.system.ports p ≡ Some q)
    (none : q.peer.last ≡ None) (apart : BeginApart (lanes_view w.net.channels)) where
  is : AsksAlone p w.time k.station.system k.after k.sends
  is = asks_alone p w.time k.station.system k.after k.sends q there none k.steps

  same_view : station_view (in_state k.after k.station) ≡ station_view k.station
  same_view =
      ap (system_view k.station.live) is.state
      ∙ asks_unseen k.station.live p w.time k.station.system

  same_clock : clock k.after ≡ clock k.station.system
  same_clock = ap clock is.state

  only_port : (x : Send) → In x (map (send_view k.after) k.sends) → x.port ≡ p
  only_port x member = by (subst (λ xs. In x (map (send_view k.after) xs)) is.sends_are member)
    where
      by : In x (map (send_view k.after) (request_of p (with_peer p reset_peer k.station.system) ∷ [])) → x.port ≡ p
      by (inl same) = ap (λ (y : Send). y.port) same
      by (inr absent) = absurd absent

  pub raises : RaisesAlone (port_of (clock k.station.system) p) w w'
  raises = record {
    time = ap (λ (v : WorldState). v.time) k.is;
    stations = ap (λ (v : WorldState). map station_view v.stations) k.is
        ∙ looks_same station_view w.stations place k.station (in_state k.after k.station) k.here same_view;
    lanes = λ j l' at other.
        let (l, stood, step) = sends_step w.time k.after k.sends draws
        (all_timers place (in_state k.after k.station) w.net) k.net apart k.sent j l'
        (ap (λ (v : WorldState). slice_get (lanes_view v.net.channels) j) (sym k.is) ∙ at) in
        let nothing : step.news ≡ [] =
        none_left step.news (λ f new.
        let (x, x_in, from, octets) = step.sent f new in
        other (step.from ∙ from ∙ (λ i. port_of (same_clock i) (only_port x x_in i)))) in
        let frames : l'.frames ≡ l.frames =
        step.behind ∙ ap (λ fs. l.frames ++ fs) nothing ∙ append-nil l.frames in
        let one : l' ≡ l = λ i. record {
          from = step.from i;
          to = step.to i;
          loss = step.loss i;
          is_up = step.is_up i;
          frames = frames i;
        } in
        stood ∙ ap (λ m. Some m) (sym one);
    begin = λ j l' at.
        let (l, stood, step) = sends_step w.time k.after k.sends draws
        (all_timers place (in_state k.after k.station) w.net) k.net apart k.sent j l'
        (ap (λ (v : WorldState). slice_get (lanes_view v.net.channels) j) (sym k.is) ∙ at) in
        (l, stood, step.from);
  }
