-- The example run is one: each of its states is calm, and each follows by a step.
use Rattle.std.proofs.Common.{◌≡◌, ◌≢◌, pred, ◌⊎◌, ◌≤◌, ◌<◌, ◌+◌, ℕ, zero, suc, pos, true, List, [], ◌∷◌, Some, slice_get, refl, sym, ap, subst, ◌∙◌, inl, inr, arith}
use native.Mathlib.Decide.{ℕ_discrete, dec_le, dec_lt}
use Rattle.gptp_lists.specs.Members.{In}
use Rattle.gptp_graph.specs.Order.{IsLower}
use Rattle.gptp_graph.specs.Snapshot.{System, PortIdentity, port_of, Joins, IsLinked, IsWellFormed}
use Rattle.gptp_graph.proofs.DecisionLemmas.{dec_both, dec_either}
use Rattle.gptp_graph.proofs.OrderLemmas.{IsLower-dec, IsLower-irrefl}
use Rattle.gptp_graph.proofs.LinkDecisions.{PortIdentity-dec}
use Rattle.gptp_graph.proofs.PathLemmas.{path_bounded}
use Rattle.gptp_graph.proofs.SureTests.{sure_well_formed}
use Rattle.gptp_bmca_machine.specs.Frame.{AnnounceFrame, Lane}
use Rattle.gptp_bmca_machine.specs.Station.{Reception, Disabled, Aged, Mine, Received, Port, Station, HoldsAt}
use Rattle.gptp_bmca_machine.specs.Vectors.{message, path_vector, master, system_vector}
use Rattle.gptp_bmca_machine.specs.Facts.{station_system, HeldIsInTime, IsLiveStationState, StationFacts}
use Rattle.gptp_bmca_machine.specs.AtRest.{StationIsAtRest}
use Rattle.gptp_bmca_machine.specs.Network.{IsSettlingNetwork, network_setting}
use Rattle.gptp_bmca_machine.specs.Calm.{IsCalmPort, IsCalmStation, HasStation, HasLane, Calm}
use Rattle.gptp_bmca_machine.specs.Example.{lane_out, lane_back, lone, heard_at, first_identity, network, announce, first_system, lone_system, following, example_state}
use Rattle.gptp_bmca_machine.proofs.PlaceLemmas.{same_mine, received_injective}
use Rattle.gptp_bmca_machine.proofs.TimesLemmas.{times_fit}

-- a fact of what stands in a list of one
pub each_of_one : {X : Type 0} (P : ℕ → X → Type 0) (a : X) → P 0 a → (i : ℕ) (x : X) → slice_get (a ∷ []) i ≡ Some x
    → P i x
each_of_one P a p zero x e = subst (P 0) (let same : a ≡ x = cc in same) p
each_of_one P a p (suc i) x e = absurd cc

-- and of two
pub each_of_two : {X : Type 0} (P : ℕ → X → Type 0) (a b : X) → P 0 a → P 1 b → (i : ℕ) (x : X)
    → slice_get (a ∷ b ∷ []) i ≡ Some x → P i x
each_of_two P a b p q zero x e = subst (P 0) (let same : a ≡ x = cc in same) p
each_of_two P a b p q (suc i) x e = each_of_one (λ j. P (suc j)) b q i x e

-- a fact of the two directions of the link
each_direction : (P : PortIdentity → PortIdentity → Type 0) → P (port_of 1 1) (port_of 2 1)
    → P (port_of 2 1) (port_of 1 1) → (p q : PortIdentity) → Joins network.graph p q → P p q
each_direction P there back p q (inl (inl e)) =
    subst (λ x. P x q) (λ i. (sym e i).a) (subst (P (port_of 1 1)) (λ i. (sym e i).b) there)
each_direction P there back p q (inl (inr none)) = absurd none
each_direction P there back p q (inr (inl e)) =
    subst (λ x. P x q) (λ i. (sym e i).b) (subst (P (port_of 2 1)) (λ i. (sym e i).a) back)
each_direction P there back p q (inr (inr none)) = absurd none

-- the snapshot is a network's
well_formed : IsWellFormed network.graph
unfolding ℕ_discrete dec_le dec_lt dec_both dec_either IsLower-dec PortIdentity-dec
well_formed = (sure_well_formed network.graph).1 refl

pub is_network : IsSettlingNetwork network
is_network =
    times_fit network well_formed (λ v w us path. path_bounded network.graph v w us well_formed path) (omega arith)
    (inl (record {
      begun = omega arith;
      ready = λ p linked. omega arith;
      largest = λ p linked. omega arith;
      times = inl (record {
        claimed = λ d p. refl;
        until = λ d p. refl;
        slack = omega arith;
        step = omega arith;
      });
    }))

-- a master port received nothing, and isn't disabled or aged
pub mine_received : {A : Type 0} (root steps : ℕ) (r : Reception) → Mine root steps ≡ Received r → A
mine_received root steps r e = absurd cc

pub mine_disabled : {A : Type 0} (root steps : ℕ) → Mine root steps ≡ Disabled → A
mine_disabled root steps e = absurd cc

mine_aged : {A : Type 0} (root steps : ℕ) → Mine root steps ≡ Aged → A
mine_aged root steps e = absurd cc

module _ (now clock identity timer : ℕ) (early : now ≤ timer) (soon : timer ≤ now + 4)
    (known : In (record { clock = clock; identity = identity; ports = 1 }) network.graph.systems)
    (linked : IsLinked network.graph (port_of clock 1)) where
  -- a system that is its own root received nothing
  lone_holds : {A : Type 0} (i : ℕ) (r : Reception) → HoldsAt (lone clock identity timer) i r → A
  lone_holds i r (q, at, e) = absurd (each_of_one (λ i (q : Port). q.held ≡ Received r → ⊥)
      (record { held = Mine identity 0; log = pos 2; interval = 4; announce = timer })
      (λ holds. mine_received identity 0 r holds) i q at e)

  pub lone_station : IsLiveStationState (network_setting network) now (lone clock identity timer)
  lone_station = record {
    known = known;
    follows = inl (record { root = refl; steps = refl; trace = refl });
    held = λ i r holds. lone_holds i r holds;
  }

  lone_rests : StationIsAtRest (lone clock identity timer)
  lone_rests = record {
    vector = system_vector (lone clock identity timer);
    chosen = inl (refl, refl);
    own_not_lower = λ h. IsLower-irrefl (system_vector (lone clock identity timer)) h;
    held_not_lower = λ i r holds. lone_holds i r holds;
    source = clock ∷ 0 ∷ 0 ∷ [];
    is = refl;
    fresh = λ i q at e. each_of_one (λ i (q : Port). q.held ≡ Aged → ⊥)
        (record { held = Mine identity 0; log = pos 2; interval = 4; announce = timer }) (λ h. mine_aged identity 0 h)
        i q at e;
    mine = λ i q root steps at e.
        each_of_one (λ i (q : Port). q.held ≡ Mine root steps → (root ≡ identity) × (steps ≡ 0))
        (record { held = Mine identity 0; log = pos 2; interval = 4; announce = timer })
        (λ h. same_mine root steps identity 0 (sym h)) i q at e;
    passive = λ i r holds. lone_holds i r holds;
  }

  pub lone_calm : IsCalmStation network now (lone clock identity timer)
  lone_calm = record {
    at_rest = lone_rests;
    ports = each_of_one (λ i q. IsCalmPort network now (port_of clock (suc i)) q)
        (record { held = Mine identity 0; log = pos 2; interval = 4; announce = timer })
        (record {
          log = refl;
          interval = refl;
          timer = λ root steps e. (early, soon);
          capable = λ started is_linked e. mine_disabled identity 0 e;
          bare = λ started out r e. mine_received identity 0 r e;
          unlinked = λ started out. absurd (out linked);
          long = λ r from e joins source log. mine_received identity 0 r e;
        });
  }

module _ (now at : ℕ) (came : at ≤ now) (stays : now ≤ at + 8) where
  -- what the second system's port received
  holds : HoldsAt (following at) 0 (heard_at at)
  holds = (record { held = Received (heard_at at); log = pos 2; interval = 4; announce = 4 }, refl, refl)

  -- it received nothing else
  only_heard : (P : ℕ → Reception → Type 0) → P 0 (heard_at at) → (i : ℕ) (r : Reception) → HoldsAt (following at) i r
      → P i r
  only_heard P p i r (q, there, e) = each_of_one (λ i (q : Port). (r : Reception) → q.held ≡ Received r → P i r)
      (record { held = Received (heard_at at); log = pos 2; interval = 4; announce = 4 })
      (λ r e. subst (P 0) (received_injective (heard_at at) r e) p) i q there r e

  pub following_station : IsLiveStationState (network_setting network) now (following at)
  following_station = record {
    known = inr (inl refl);
    follows = inr (record { place = 0; r = heard_at at; holds = holds; root = refl; steps = refl; trace = refl });
    held = only_heard (λ i r. HeldIsInTime (network_setting network) now 2 r) (record {
      came = came;
      stays = stays;
      short = omega arith;
      no_loop = λ h. elim h [ inl e ↦ absurd cc | inr none ↦ none ];
    });
  }

  following_rests : StationIsAtRest (following at)
  following_rests = record {
    vector = path_vector announce 1;
    chosen = inr (0, heard_at at, holds, refl, refl);
    own_not_lower = λ h. elim h [ inl less ↦ absurd (omega arith) | inr (same, rest) ↦ absurd (omega arith) ];
    held_not_lower = only_heard (λ i r. IsLower (path_vector r.said (suc i)) (path_vector announce 1) → ⊥)
        (λ h. IsLower-irrefl (path_vector announce 1) h);
    source = 1 ∷ 1 ∷ 1 ∷ [];
    is = refl;
    fresh = each_of_one (λ i (q : Port). q.held ≢ Aged)
        (record { held = Received (heard_at at); log = pos 2; interval = 4; announce = 4 }) (λ e. absurd cc);
    mine = λ i q root steps there e.
        each_of_one (λ i (q : Port). q.held ≡ Mine root steps → (root ≡ first_identity) × (steps ≡ 1))
        (record { held = Received (heard_at at); log = pos 2; interval = 4; announce = 4 })
        (λ h. mine_received root steps (heard_at at) (sym h)) i q there e;
    passive = only_heard (λ i r. (Some 1 ≡ Some (suc i))
        ⊎ (IsLower (master first_identity 1 2 (suc i)) (message r.said (suc i)) → ⊥)) (inl refl);
  }

  pub following_calm : IsCalmStation network now (following at)
  following_calm = record {
    at_rest = following_rests;
    ports = each_of_one (λ i q. IsCalmPort network now (port_of 2 (suc i)) q)
        (record { held = Received (heard_at at); log = pos 2; interval = 4; announce = 4 })
        (record {
          log = refl;
          interval = refl;
          timer = λ root steps e. mine_received root steps (heard_at at) (sym e);
          capable = λ started is_linked e. absurd cc;
          bare = λ started out r e. absurd (out (port_of 1 1, inr (inl refl)));
          unlinked = λ started out. absurd (out (port_of 1 1, inr (inl refl)));
          long = λ r from e joins source log.
              subst (λ (x : Reception). 5 < x.span) (received_injective (heard_at at) r e) (omega arith);
        });
  }

module _ (now timer : ℕ) (second : Station) (frames : List AnnounceFrame) (early : now ≤ timer) (soon : timer ≤ now + 4)
    (is_station : IsLiveStationState (network_setting network) now second) (is_calm : IsCalmStation network now second)
    (is_live : second.live ≡ true) (is_second : station_system second ≡ station_system lone_system)
    (flight : (f : AnnounceFrame) → In f frames → (now ≤ f.due) × (f.due ≤ now + 1)) where
  -- the better system's port is linked
  first_linked : IsLinked network.graph (port_of 1 1)
  first_linked = (port_of 2 1, inl (inl refl))

  -- a fact of each frame in flight
  each_frame : (P : Lane → AnnounceFrame → Type 0)
      → ((f : AnnounceFrame) → In f frames
      → P (lane_out frames) f)
      → (j : ℕ) (l : Lane) (f : AnnounceFrame) → slice_get (example_state now timer second frames).lanes j ≡ Some l
      → In f l.frames
      → P l f
  each_frame P p j l f at h =
      each_of_two (λ j (l : Lane). (f : AnnounceFrame) → In f l.frames → P l f)
      (lane_out frames)
      lane_back
      p (λ f none. absurd none) j l at f h

  -- a fact of each system
  each_station : (P : ℕ → Station → Type 0) → P 0 (first_system timer) → P 1 second → (i : ℕ) (s : Station)
      → slice_get (example_state now timer second frames).stations i ≡ Some s → P i s
  each_station P p q = each_of_two P (first_system timer) second p q

  facts : StationFacts (network_setting network) (example_state now timer second frames)
  facts = record {
    stations = each_station (λ i s. s.live ≡ true → IsLiveStationState (network_setting network) now s)
        (λ live. lone_station now 1 first_identity timer early soon (inl refl) first_linked) (λ live. is_station);
    near = each_frame (λ l f. f.due ≤ now + 4) (λ f h. let (left, due) = flight f h in omega arith);
    fresh = λ j l f at h joins. inl (each_frame (λ l f. f.due ≤ now + 1) (λ f h. (flight f h).1) j l f at h);
    linked = λ j l f at h from to.
        each_frame (λ l f. Joins network.graph l.from l.to) (λ f h. inl (inl refl)) j l f at h;
  }

  there : (s : System) → In s network.graph.systems → HasStation network (example_state now timer second frames) s
  there s (inl e) =
      subst (HasStation network (example_state now timer second frames)) (sym e)
      (record { station = first_system timer; there = refl; live = refl; is = refl })
  there s (inr (inl e)) =
      subst (HasStation network (example_state now timer second frames)) (is_second ∙ sym e)
      (record {
        station = second;
        there = subst (λ c. slice_get (first_system timer ∷ second ∷ []) (pred c) ≡ Some second)
            (λ i. (sym is_second i).clock) refl;
        live = is_live;
        is = refl;
      })
  there s (inr (inr none)) = absurd none

  -- the lanes lead to different ports
  not_back : port_of 2 1 ≢ port_of 1 1
  not_back e = absurd (let clock : 2 ≡ 1 = ap (λ (p : PortIdentity). p.clock) e in cc)

  apart : (i j : ℕ) (l m : Lane) → slice_get (example_state now timer second frames).lanes i ≡ Some l
      → slice_get (example_state now timer second frames).lanes j ≡ Some m → l.to ≡ m.to → i ≡ j
  apart i j l m at also =
      each_of_two (λ i (l : Lane). l.to ≡ m.to → i ≡ j)
      (lane_out frames)
      lane_back
      (each_of_two (λ j (m : Lane). port_of 2 1 ≡ m.to → 0 ≡ j)
      (lane_out frames)
      lane_back
      (λ e. refl) (λ e. absurd (not_back e)) j m also)
      (each_of_two (λ j (m : Lane). port_of 1 1 ≡ m.to → 1 ≡ j)
      (lane_out frames)
      lane_back
      (λ e. absurd (not_back (sym e))) (λ e. refl) j m also)
      i l at

  -- the state is calm
  pub calm : Calm network (example_state now timer second frames)
  calm = record {
    facts = facts;
    stations = each_station (λ i s. s.live ≡ true → IsCalmStation network now s)
        (λ live. lone_calm now 1 first_identity timer early soon (inl refl) first_linked) (λ live. is_calm);
    placed = each_station (λ i s. i ≡ pred s.clock) refl (ap (λ (s : System). pred s.clock) (sym is_second));
    there = there;
    lanes = each_direction (λ p q. HasLane network (example_state now timer second frames) p q)
        (record {
          lane = lane_out frames;
          there = refl;
          from = refl;
          to = refl;
          loss = refl;
          is_up = refl;
        })
        (record {
          lane = lane_back;
          there = refl;
          from = refl;
          to = refl;
          loss = refl;
          is_up = refl;
        });
    apart = apart;
    left = each_frame (λ l f. now ≤ f.due) (λ f h. (flight f h).0);
  }
