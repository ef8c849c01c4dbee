-- The steps of the example run.
use Rattle.std.proofs.Common.{◌≡◌, ◌≢◌, ◌⊎◌, ◌≤◌, ◌+◌, ℕ, zero, suc, pos, true, List, [], ◌∷◌, Some, None, slice_get, append-nil, refl, sym, ap, subst, inl, inr, arith}
use Rattle.gptp_lists.specs.Members.{In}
use Rattle.gptp_graph.specs.Snapshot.{PortIdentity, clocks, port_of, IsLinked}
use Rattle.gptp_bmca_machine.specs.Frame.{Announce, AnnounceFrame, Lane, Send}
use Rattle.gptp_bmca_machine.specs.Station.{Disabled, Mine, Received, Port, Station}
use Rattle.gptp_bmca_machine.specs.Touch.{Hear, Tick, IsUsable, Replaces}
use Rattle.gptp_bmca_machine.specs.Reacts.{IsOwn, IsMasterAt, PortStep, StationReacts}
use Rattle.gptp_bmca_machine.specs.Acts.{LaneStep, MachineSteps}
use Rattle.gptp_bmca_machine.specs.Calm.{Calm}
use Rattle.gptp_bmca_machine.specs.Lapsing.{NothingNearLapses}
use Rattle.gptp_bmca_machine.specs.Run.{IsRun}
use Rattle.gptp_bmca_machine.specs.Example.{lane_out, lane_back, heard_at, first_identity, second_identity, network, announce, octets, example_says, first_system, lone_system, following, example_frame, example_state, turns, begin, run}
use Rattle.gptp_bmca_machine.specs.ExampleLaws.{ExampleSettles}
use Rattle.gptp_bmca_machine.proofs.RunLemmas.{run_settles}
use Rattle.gptp_bmca_machine.proofs.SyncLemmas.{none_lapses}
use Rattle.gptp_bmca_machine.proofs.ExampleLemmas.{each_of_one, each_of_two, mine_received, mine_disabled, lone_station, lone_calm, following_station, following_calm, calm, is_network}

-- a moment comes
waits : (now later timer : ℕ) (second : Station) (frames : List AnnounceFrame) → now ≤ later
    → MachineSteps example_says (example_state now timer second frames) (example_state later timer second frames)
waits now later timer second frames h = inl (record { time = later; later = h; is = refl })

-- what the first system sends, and its port with the timer due at this time
abbrev sent : Send
sent = record { port = 1; octets = octets }

abbrev first_port : ℕ → Port
first_port timer = record { held = Mine first_identity 0; log = pos 2; interval = 4; announce = timer }

module _ (now : ℕ) (second : Station) where
  -- the first system's timer expires, and it announces itself
  first_reacts : StationReacts example_says (first_system now) (Tick 1) now (first_system (4 + now)) (sent ∷ [])
  first_reacts = record {
    clock = refl;
    live = refl;
    ports = each_of_one (λ i q'. (q : Port) × (slice_get (first_system now).ports i ≡ Some q)
        × PortStep example_says 1 (suc i) now (Tick 1) first_identity 0 q q' (sent ∷ []))
        (first_port (4 + now)) (
          first_port now,
          refl,
          record {
            interval = refl;
            mid = Mine first_identity 0;
            before = refl;
            after = inr (record {
              mine = refl;
              on = mine_disabled first_identity 0;
              is_lower = λ r e. mine_received first_identity 0 r e;
              timing = inr (record { sent = (sent, inl refl, refl, (announce, (refl, refl))); timer = omega arith });
            });
          },
        );
    tells = tells;
  }
    where
      own_log : (i : ℕ) (q : Port) → 1 ≡ suc i → slice_get (first_system (4 + now)).ports i ≡ Some q → pos 2 ≡ q.log
      own_log i q number = each_of_one (λ i (q : Port). pos 2 ≡ q.log) (first_port (4 + now)) refl i q

      own : (x : Send) (a : Announce) → x ≡ sent → a ≡ announce
          → IsOwn (first_system (4 + now)) x.port a × IsMasterAt (first_system (4 + now)) x.port
      own x a e f = subst (λ (y : Send). IsOwn (first_system (4 + now)) y.port a
          × IsMasterAt (first_system (4 + now)) y.port) (sym e)
          (subst (λ b. IsOwn (first_system (4 + now)) 1 b × IsMasterAt (first_system (4 + now)) 1) (sym f) (
            record { root = refl; steps = refl; source = refl; log = own_log; path = refl },
            (0, first_port (4 + now), refl, refl, refl),
          ))

      tells : (x : Send) (a : Announce) → In x (sent ∷ []) → example_says x.octets a
          → IsOwn (first_system (4 + now)) x.port a × IsMasterAt (first_system (4 + now)) x.port
      tells x a (inl e) (text, is) = own x a e is
      tells x a (inr none) said = absurd none

  tells : MachineSteps example_says (example_state now now second [])
      (example_state now (4 + now) second (example_frame (1 + now) ∷ []))
  tells = inr (inr (inr (record {
    touch = Tick 1;
    call = record {
      place = 0;
      s = first_system now;
      s' = first_system (4 + now);
      sends = sent ∷ [];
      live = refl;
      time = refl;
      here = refl;
      there = refl;
      stations = each_of_two (λ j m. ((j ≡ 0) × (m ≡ first_system (4 + now)))
          ⊎ ((j ≢ 0) × (slice_get (example_state now now second []).stations j ≡ Some m)))
          (first_system (4 + now)) second (inl (refl, refl)) (inr (λ e. absurd cc, refl));
      reacts = first_reacts;
      lanes = each_of_two (λ j l'. (l : Lane) × (slice_get (example_state now now second []).lanes j ≡ Some l)
          × LaneStep 1 (sent ∷ []) l l')
          (lane_out (example_frame (1 + now) ∷ [])) lane_back (
            lane_out [],
            refl,
            record {
              from = refl;
              to = refl;
              loss = refl;
              is_up = refl;
              news = example_frame (1 + now) ∷ [];
              behind = refl;
              sent = λ f h. elim h [
                | inl e ↦ (sent, inl refl, refl, ap (λ (g : AnnounceFrame). g.octets) e)
                | inr none ↦ absurd none
              ];
              arrives = λ loss up x h from. (example_frame (1 + now), inl refl, octets_of x h);
            },
          ) (
            lane_back,
            refl,
            record {
              from = refl;
              to = refl;
              loss = refl;
              is_up = refl;
              news = [];
              behind = refl;
              sent = λ f h. absurd h;
              arrives = λ loss up x h from.
                  absurd (let clock : 2 ≡ 1 = ap (λ (p : PortIdentity). p.clock) from in cc);
            },
          );
    };
    deaf = λ n a e. absurd cc;
    ages = λ i q r e at h. absurd cc;
  })))
    where
      octets_of : (x : Send) → In x (sent ∷ []) → octets ≡ x.octets
      octets_of x (inl e) = ap (λ (y : Send). y.octets) (sym e)
      octets_of x (inr none) = absurd none

-- the second system hears the frame, whatever it held before that the Announce replaces
hears : (now timer : ℕ) (second : Station) (q : Port) → second.live ≡ true → second.clock ≡ 2
    → second.ports ≡ q ∷ [] → q.interval ≡ 4 → q.held ≢ Disabled → Replaces 2 1 announce q.held
    → MachineSteps example_says (example_state now timer second (example_frame now ∷ []))
    (example_state now timer (following now) [])
hears now timer second q live clock ports interval on replaces = inr (inl (record {
  j = 0;
  l = lane_out (example_frame now ∷ []);
  f = example_frame now;
  fs = [];
  mid = example_state now timer second [];
  touch = Hear 1 announce;
  pops = record {
    here = refl;
    frames = refl;
    due = refl;
    time = refl;
    stations = λ i m at. at;
    lanes = each_of_two (λ j m. ((j ≡ 0) × (m ≡ lane_out []))
        ⊎ ((j ≢ 0) × (slice_get (example_state now timer second (example_frame now ∷ [])).lanes j ≡ Some m)))
        (lane_out []) lane_back (inl (refl, refl)) (inr (λ e. absurd cc, refl));
  };
  call = record {
    place = 1;
    s = second;
    s' = following now;
    sends = [];
    live = live;
    time = refl;
    here = refl;
    there = refl;
    stations = each_of_two (λ j m. ((j ≡ 1) × (m ≡ following now))
        ⊎ ((j ≢ 1) × (slice_get (example_state now timer second []).stations j ≡ Some m)))
        (first_system timer) (following now) (inr (λ e. absurd cc, refl)) (inl (refl, refl));
    reacts = record {
      clock = sym clock;
      live = sym live;
      ports = each_of_one (λ i q'. (q : Port) × (slice_get second.ports i ≡ Some q)
          × PortStep example_says second.clock (suc i) now (Hear 1 announce) first_identity 1 q q' [])
          (record { held = Received (heard_at now); log = pos 2; interval = 4; announce = 4 }) (
            q,
            ap (λ (xs : List Port). slice_get xs 0) ports,
            record {
              interval = sym interval;
              mid = Received (heard_at now);
              before = inl (
                refl,
                on,
                inl (record {
                  qualified = subst (λ c. IsUsable c announce) (sym clock) qualified;
                  replaces = subst (λ c. Replaces c 1 announce q.held) (sym clock) replaces;
                  span = 8;
                  is = refl;
                }),
              );
              after = inl (refl, tt);
            },
          );
      tells = λ x a h. absurd h;
    };
    lanes = λ j l' at. (
      l',
      at,
      record {
        from = refl;
        to = refl;
        loss = refl;
        is_up = refl;
        news = [];
        behind = sym (append-nil l'.frames);
        sent = λ f h. absurd h;
        arrives = λ loss up x h. absurd h;
      },
    );
  };
  owner = clock;
  heard = λ n a e. (same_port n a e, (refl, same_said n a e));
  young = λ n e. absurd cc;
  hears = λ i q a number at on said. (announce, refl);
}))
  where
    qualified : IsUsable 2 announce
    qualified = record {
      foreign = λ e. absurd cc;
      near = omega arith;
      no_loop = λ h. elim h [ inl e ↦ absurd cc | inr none ↦ none ];
      short = omega arith;
    }

    same_port : (n : ℕ) (a : Announce) → Hear 1 announce ≡ Hear n a → n ≡ 1
    same_port n a e = cc

    same_said : (n : ℕ) (a : Announce) → Hear 1 announce ≡ Hear n a → a ≡ announce
    same_said n a e = cc

-- the state while the second system is alone, and while it follows the first, is calm
alone_calm : (now timer : ℕ) (frames : List AnnounceFrame) → now ≤ 4 → now ≤ timer → timer ≤ now + 4
    → ((f : AnnounceFrame) → In f frames → (now ≤ f.due) × (f.due ≤ now + 1))
    → Calm network (example_state now timer lone_system frames)
alone_calm now timer frames opening early soon flight =
    calm now timer lone_system frames early soon
    (lone_station now 2 second_identity 4 opening (omega arith) (inr (inl refl)) linked)
    (lone_calm now 2 second_identity 4 opening (omega arith) (inr (inl refl)) linked) refl refl flight
  where
    linked : IsLinked network.graph (port_of 2 1)
    linked = (port_of 1 1, inr (inl refl))

following_is_calm : (now at timer : ℕ) (frames : List AnnounceFrame) → at ≤ now → now ≤ at + 8 → now ≤ timer
    → timer ≤ now + 4
    → ((f : AnnounceFrame) → In f frames → (now ≤ f.due) × (f.due ≤ now + 1))
    → Calm network (example_state now timer (following at) frames)
following_is_calm now at timer frames came stays early soon flight =
    calm now timer (following at) frames early soon (following_station now at came stays)
    (following_calm now at came stays) refl refl flight

-- nothing lapses in it: no lapse timer runs
nothing_lapses : (now timer : ℕ) (second : Station) (frames : List AnnounceFrame) → second.lapse ≡ None
    → NothingNearLapses network (example_state now timer second frames)
nothing_lapses now timer second frames none =
    none_lapses network (example_state now timer second frames) (λ i s at live.
    each_of_two (λ i (s : Station). s.lapse ≡ None) (first_system timer) second refl none i s at)

-- nothing is in flight, or one frame
none_in_flight : (now : ℕ) (f : AnnounceFrame) → In f [] → (now ≤ f.due) × (f.due ≤ now + 1)
none_in_flight now f h = absurd h

one_in_flight : (now due : ℕ) → now ≤ due → due ≤ now + 1 → (f : AnnounceFrame) → In f (example_frame due ∷ [])
    → (now ≤ f.due) × (f.due ≤ now + 1)
one_in_flight now due left soon f (inl e) =
    subst (λ (g : AnnounceFrame). (now ≤ g.due) × (g.due ≤ now + 1)) (sym e) (left, soon)
one_in_flight now due left soon f (inr none) = absurd none

-- the first system announces itself, with the times worked out
tells_at : (now timer due : ℕ) (second : Station) → timer ≡ 4 + now → due ≡ 1 + now
    → MachineSteps example_says (example_state now now second [])
    (example_state now timer second (example_frame due ∷ []))
tells_at now timer due second e f =
    subst (λ t. MachineSteps example_says (example_state now now second [])
    (example_state now t second (example_frame due ∷ []))) (sym e)
    (subst (λ t. MachineSteps example_says (example_state now now second [])
    (example_state now (4 + now) second (example_frame t ∷ []))) (sym f)
    (tells now second))

-- any number of turns is a run
turns_run : (at count : ℕ) → IsRun example_says network (example_state at (3 + at) (following at) []) (turns at count)
turns_run at zero =
    following_is_calm at at (3 + at) [] (omega arith) (omega arith) (omega arith) (omega arith) (none_in_flight at)
turns_run at (suc count) = (
  following_is_calm at at (3 + at) [] (omega arith) (omega arith) (omega arith) (omega arith) (none_in_flight at),
  nothing_lapses at (3 + at) (following at) [] refl,
  waits at (3 + at) (3 + at) (following at) [] (omega arith),
  (
    following_is_calm (3 + at) at (3 + at) [] (omega arith) (omega arith) (omega arith) (omega arith)
        (none_in_flight (3 + at)),
    nothing_lapses (3 + at) (3 + at) (following at) [] refl,
    tells_at (3 + at) (7 + at) (4 + at) (following at) (omega arith) (omega arith),
    (
      following_is_calm (3 + at) at (7 + at) (example_frame (4 + at) ∷ []) (omega arith) (omega arith) (omega arith)
          (omega arith) (one_in_flight (3 + at) (4 + at) (omega arith) (omega arith)),
      nothing_lapses (3 + at) (7 + at) (following at) (example_frame (4 + at) ∷ []) refl,
      waits (3 + at) (4 + at) (7 + at) (following at) (example_frame (4 + at) ∷ []) (omega arith),
      (
        following_is_calm (4 + at) at (7 + at) (example_frame (4 + at) ∷ []) (omega arith) (omega arith) (omega arith)
            (omega arith) (one_in_flight (4 + at) (4 + at) (omega arith) (omega arith)),
        nothing_lapses (4 + at) (7 + at) (following at) (example_frame (4 + at) ∷ []) refl,
        hears (4 + at) (7 + at) (following at)
            (record { held = Received (heard_at at); log = pos 2; interval = 4; announce = 4 }) refl refl refl refl
            (λ e. absurd cc) (inl refl),
        subst (λ t. IsRun example_says network (example_state (4 + at) t (following (4 + at)) [])
            (turns (4 + at) count))
            (let same : 3 + (4 + at) ≡ 7 + at = omega arith in same) (turns_run (4 + at) count),
      ),
    ),
  ),
)

-- the opening and ten turns are one
example_runs : IsRun example_says network begin run
example_runs = (
  alone_calm 0 1 [] (omega arith) (omega arith) (omega arith) (none_in_flight 0),
  nothing_lapses 0 1 lone_system [] refl,
  waits 0 1 1 lone_system [] (omega arith),
  (
    alone_calm 1 1 [] (omega arith) (omega arith) (omega arith) (none_in_flight 1),
    nothing_lapses 1 1 lone_system [] refl,
    tells_at 1 5 2 lone_system refl refl,
    (
      alone_calm 1 5 (example_frame 2 ∷ []) (omega arith) (omega arith) (omega arith)
          (one_in_flight 1 2 (omega arith) (omega arith)),
      nothing_lapses 1 5 lone_system (example_frame 2 ∷ []) refl,
      waits 1 2 5 lone_system (example_frame 2 ∷ []) (omega arith),
      (
        alone_calm 2 5 (example_frame 2 ∷ []) (omega arith) (omega arith) (omega arith)
            (one_in_flight 2 2 (omega arith) (omega arith)),
        nothing_lapses 2 5 lone_system (example_frame 2 ∷ []) refl,
        hears 2 5 lone_system (record { held = Mine second_identity 0; log = pos 2; interval = 4; announce = 4 }) refl
            refl
            refl refl (mine_disabled second_identity 0) (inl (omega arith)),
        turns_run 2 10,
      ),
    ),
  ),
)

-- so it ends settled
pub example_settles : ExampleSettles
example_settles = record {
  is_network = is_network;
  is_run = example_runs;
  early = omega arith;
  end = refl;
  late = omega arith;
  settled = run_settles example_says network is_network
      (record { after = omega arith; begins = omega arith; late = omega arith })
      (λ d p q joins. omega arith) begin run example_runs
      (λ j l f at. each_of_two
      (λ j (l : Lane). (f : AnnounceFrame) → In f l.frames → 1 ≤ f.due → In l.from.clock (clocks network.graph))
      (lane_out []) lane_back (λ f none. absurd none) (λ f none. absurd none) j l at f)
      (omega arith)
      (omega arith);
}
