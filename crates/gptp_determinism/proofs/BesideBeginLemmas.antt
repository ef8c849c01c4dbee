-- How worlds that are the same but for the time begin, and which act is next in them.
use Rattle.std.proofs.Common.{◌≡◌, ◌≤◌, ℕ, ℤ, List, [], ◌∷◌, ◌++◌, map, length, Option, Some, false, FitsSigned, w8, refl, sym, ap, subst, ◌∙◌, inl, inr, arith}
use Rattle.std.specs.Prelude.{⊤}
use Rattle.std.specs.Int.{int_max}
use Rattle.std.specs.List.{flat_map, range_with_len, reduce, AllZip}
use Rattle.std.specs.Option.{unwrap_or}
use Rattle.std.proofs.lemmas.Int.{ints}
use Rattle.std.proofs.lemmas.List.{length-map}
use Rattle.gptp_links.specs.declared.bounds.Bounds.{Bounds}
use Rattle.gptp_links.specs.declared.link.Direction.{Direction}
use Rattle.gptp_links.specs.Fate.{Draw, Draws}
use Rattle.gptp_links.specs.Queue.{Frame}
use Rattle.gptp_setup.specs.Intervals.{IsLog}
use Rattle.gptp_setup.specs.declared.setup.Setup.{Setup}
use Rattle.gptp_setup.specs.declared.timer.Timer.{Timer}
use Rattle.gptp_setup.specs.declared.timer.Timer.TheVariants as timers
use Rattle.gptp_scenario.specs.Network.{largest_of, logs_of, pace_of, IsNetwork, NetworkState}
use Rattle.gptp_scenario.specs.declared.network.SystemSpec.{SystemSpec}
use Rattle.gptp_scenario.specs.declared.change.Timed.{Timed}
use Rattle.gptp_scenario.specs.declared.change.Act.{Act}
use Rattle.gptp_scenario.specs.declared.change.Act.TheVariants.{Deliver, Expire, Change as Changing}
use Rattle.gptp_scenario.specs.declared.change.Change.{Change}
use Rattle.gptp_scenario.specs.declared.change.Change.TheVariants.{LinkDown, LinkUp, LinkSet, Fail, Recover, Priority1, Inject}
use Rattle.gptp_system.specs.State.{SystemState, clock}
use Rattle.gptp_system.specs.Steps.{HasPortNumber, IsTimerOf}
use Rattle.gptp_vector.specs.declared.port.PortId.{PortId}
use Rattle.gptp_model.specs.declared.item.Item.{Item}
use Rattle.gptp_model.specs.declared.item.Item.TheVariants.{Arrival, Expiry}
use Rattle.gptp_model.specs.declared.station.Station.{Station}
use Rattle.gptp_model.specs.Acts.{AnyLink, AtLink, AtSystem, IsDueThen, IsOldestDue, IsReadyAct, IsThere, IsThereToChange}
use Rattle.gptp_model.specs.Changing.{StartsAll}
use Rattle.gptp_model.specs.Initial.{channel_from, initial, setup_of, station_of}
use Rattle.gptp_model.specs.Pending.{IsNext, NothingBefore}
use Rattle.gptp_model.specs.Views.{IsActOf, IsNextAct}
use Rattle.gptp_model.specs.World.{port_id, station_due, world_queue, Channel, Net, WorldState}
use Rattle.gptp_determinism.specs.BesideWorlds.{FramesBeside, LinksBeside, NetsBeside, StationsBeside, WorldsBeside, member_beside, network_beside, setup_beside}
use Rattle.gptp_determinism.specs.WorldsBesideLaws.{BeginsBesideTime, NextBesideTime, ReadyBesideTime}
use Rattle.gptp_determinism.proofs.BesideCallLemmas.{dues_same, started_beside, starts_all_beside}
use Rattle.gptp_determinism.proofs.BesideSendLemmas.{each_itself, each_on, queues_beside}
use Rattle.gptp_determinism.proofs.NameLemmas.{initial_named}
use Rattle.gptp_determinism.proofs.SendLemmas.{draws_once}

-- ---- the world that a network makes

logs_beside : (xs : List SystemSpec)
    → flat_map (λ (m : SystemSpec). m.intervals.items) (map member_beside xs)
    ≡ flat_map (λ (m : SystemSpec). m.intervals.items) xs
logs_beside [] = refl
logs_beside (x ∷ xs) = ap (λ (logs : List ℤ). x.intervals.items ++ logs) (logs_beside xs)

logs_same : (n m : NetworkState) → network_beside n ≡ network_beside m → logs_of n ≡ logs_of m
logs_same n m same = sym (logs_beside n.systems) ∙ ap logs_of same ∙ logs_beside m.systems

pace_same : (n m : NetworkState) → network_beside n ≡ network_beside m → pace_of n ≡ pace_of m
unfolding largest_of
pace_same n m same =
    let params = ap (λ (x : NetworkState). x.params) same in
    let logs = logs_same n m same in
    λ i. record { params = params i; largest = unwrap_or (reduce int_max (logs i)) (params i).announce }

station_beside : (n m : NetworkState) (x y : SystemSpec) → FitsSigned w8 n.params.sync
    → pace_of n ≡ pace_of m → n.seed ≡ m.seed → member_beside x ≡ member_beside y
    → StationsBeside (station_of n x) (station_of m y)
station_beside n m x y log pace seed same =
    let setups : setup_beside (setup_of n x) ≡ setup_beside (setup_of m y) = λ i. record {
      identity = (same i).identity;
      ports = (same i).ports;
      phase = (same i).phase;
      drift = (same i).drift;
      continues = false;
      intervals = (same i).intervals;
      largest = (pace i).largest;
      seed = seed i;
      params = (pace i).params;
    } in
    record {
      setup = setups;
      log = log;
      system = started_beside 0 (setup_of n x) (setup_of m y) setups log;
      live = refl;
    }

members_same : (x y : SystemSpec) (xs ys : List SystemSpec)
    → member_beside x ∷ map member_beside xs ≡ member_beside y ∷ map member_beside ys
    → (member_beside x ≡ member_beside y) × (map member_beside xs ≡ map member_beside ys)
members_same x y xs ys e = (cc, cc)

stations_beside : (n m : NetworkState) (xs ys : List SystemSpec) → FitsSigned w8 n.params.sync
    → pace_of n ≡ pace_of m → n.seed ≡ m.seed → map member_beside xs ≡ map member_beside ys
    → AllZip StationsBeside (map (station_of n) xs) (map (station_of m) ys)
stations_beside n m [] [] log pace seed same = tt
stations_beside n m [] (y ∷ ys) log pace seed same = absurd cc
stations_beside n m (x ∷ xs) [] log pace seed same = absurd cc
stations_beside n m (x ∷ xs) (y ∷ ys) log pace seed same =
    let parts = members_same x y xs ys same in
    (station_beside n m x y log pace seed parts.0, stations_beside n m xs ys log pace seed parts.1)

link_itself : (c : Channel) → LinksBeside c c
link_itself c =
    let frames : (f : Frame) → FramesBeside f f = λ f. record { due = refl; say = inl refl } in
    record {
      a = refl;
      b = refl;
      bounds = refl;
      up = refl;
      from_a = each_itself FramesBeside c.from_a frames;
      from_b = each_itself FramesBeside c.from_b frames;
    }

log_fits : (log : ℤ) → IsLog log → FitsSigned w8 log
log_fits log is = let low = is.low in let high = is.high in omega (arith, ints)

initial_beside : (n m : NetworkState) → IsNetwork n → network_beside n ≡ network_beside m
    → WorldsBeside (initial n) (initial m)
initial_beside n m is same =
    let log = log_fits n.params.sync is.params.ranges.params.sync in
    let systems = ap (λ (x : NetworkState). x.systems) same in
    let links = ap (λ (x : NetworkState). map channel_from x.links) same in
    record {
      time = refl;
      last_change = refl;
      stations =
          stations_beside n m n.systems m.systems log (pace_same n m same) (ap (λ (x : NetworkState). x.seed) same)
          systems;
      net = record {
        links =
            subst (AllZip LinksBeside (map channel_from n.links)) links
            (each_itself LinksBeside (map channel_from n.links) link_itself);
        pending = refl;
      };
    }

counts_same : (n m : NetworkState) → network_beside n ≡ network_beside m → length n.systems ≡ length m.systems
counts_same n m same =
    sym (length-map n.systems member_beside) ∙ ap (λ (x : NetworkState). length x.systems) same
    ∙ length-map m.systems member_beside

pub begins_beside : {F : Type 0} (answers : Bounds → ℕ → F → Option ℕ → F → Type 0) → BeginsBesideTime answers
begins_beside answers once n m fate f g w v is same k l =
    let starts = subst (λ (count : ℕ). StartsAll (range_with_len 0 count) (initial m) l.draws v)
    (sym (counts_same n m same)) l.starts in
    let (draws, worlds) = starts_all_beside answers once (range_with_len 0 (length n.systems)) (initial n) (initial m)
    w v
    k.draws l.draws (initial_named n is) (initial_beside n m is same)
    (record { fate = fate; one = f; other = g; first = k.drawn; second = l.drawn }) k.starts starts in (
      draws_once answers once fate f g l.draws (subst (λ (ds : List Draw). Draws answers fate ds f)
          draws k.drawn) l.drawn,
      worlds,
    )

-- ---- what is ready, and what is next

link_too : (port : PortId) (n m : Net) → NetsBeside n m → AtLink port n AnyLink → AtLink port m AnyLink
link_too port n m is k =
    let (d, there, links) = each_on LinksBeside n.channels m.channels k.place k.channel is.links k.is.here in
    record {
      place = k.place;
      channel = d;
      is = record {
        here = there;
        joined = elim k.is.joined [
          | inl a ↦ inl (sym links.a ∙ a)
          | inr b ↦ inr (sym links.b ∙ b)
        ];
      };
      so = tt;
    }

system_too : (number : ℕ) (w v : WorldState) (So : Station → Type 0) → WorldsBeside w v
    → ((x y : Station) → StationsBeside x y → So x → So y) → AtSystem number w (λ place station. So station)
    → AtSystem number v (λ place station. So station)
system_too number w v So is on k =
    let (y, there, pair) = each_on StationsBeside w.stations v.stations k.place k.station is.stations k.is.here in
    record {
      place = k.place;
      station = y;
      is = record { here = there; named = sym (ap clock pair.system.same) ∙ k.is.named };
      so = on k.station y pair k.so;
    }

there_to_change : (c : Change) (w v : WorldState) → WorldsBeside w v → IsThereToChange c w → IsThereToChange c v
there_to_change (LinkDown number port) w v is k = link_too (port_id number port) w.net v.net is.net k
there_to_change (LinkUp number port) w v is k = link_too (port_id number port) w.net v.net is.net k
there_to_change (LinkSet number port min max loss) w v is k = link_too (port_id number port) w.net v.net is.net k
there_to_change (Fail number) w v is k = system_too number w v (λ station. ⊤) is (λ x y pair so. tt) k
there_to_change (Recover number) w v is k = system_too number w v (λ station. ⊤) is (λ x y pair so. tt) k
there_to_change (Priority1 number value) w v is k = system_too number w v (λ station. ⊤) is (λ x y pair so. tt) k
there_to_change (Inject number port octets) w v is k = link_too (port_id number port) w.net v.net is.net k

port_too : (p : ℕ) (x y : Station) → StationsBeside x y → HasPortNumber x.system p → HasPortNumber y.system p
port_too p x y pair k =
    record { least = k.least; most = subst (λ (s : SystemState). p ≤ length s.ports) pair.system.same k.most }

timer_too : (timer : Timer) (x y : Station) → StationsBeside x y → IsTimerOf x.system timer → IsTimerOf y.system timer
timer_too (timers.Announce p) x y pair k = port_too p x y pair k
timer_too (timers.Age p) x y pair k = port_too p x y pair k
timer_too (timers.Pdelay p) x y pair k = port_too p x y pair k
timer_too (timers.Respond p) x y pair k = port_too p x y pair k
timer_too timers.Sync x y pair k = tt
timer_too timers.Relay x y pair k = tt
timer_too timers.Lapse x y pair k = tt

there_too : (act : Act) (w v : WorldState) → WorldsBeside w v → IsThere act w → IsThere act v
there_too (Deliver link direction) w v is k =
    let (d, there, links) = each_on LinksBeside w.net.channels v.net.channels link k.channel is.net.links k.here in
    record { channel = d; here = there; so = tt }
there_too (Expire number timer) w v is k =
    system_too number w v (λ station. IsTimerOf station.system timer) is (timer_too timer) k
there_too (Changing c) w v is k = there_to_change c w v is k

oldest_too : (direction : Direction) (time : ℕ) (c d : Channel) → LinksBeside c d → IsOldestDue direction time c
    → IsOldestDue direction time d
oldest_too direction time c d links k =
    front (world_queue direction d) refl
    (subst (λ (fs : List Frame). AllZip FramesBeside fs (world_queue direction d)) k.front
    (queues_beside direction c d links))
  where
    front : (gs : List Frame) → world_queue direction d ≡ gs → AllZip FramesBeside (k.oldest ∷ k.rest) gs
        → IsOldestDue direction time d
    front [] is each = absurd each
    front (g ∷ gs) is each = record { oldest = g; rest = gs; front = is; due = sym each.0.due ∙ k.due }

due_too : (act : Act) (time : ℕ) (w v : WorldState) → WorldsBeside w v → IsDueThen act time w → IsDueThen act time v
due_too (Deliver link direction) time w v is k =
    let (d, there, links) = each_on LinksBeside w.net.channels v.net.channels link k.channel is.net.links k.here in
    record { channel = d; here = there; so = oldest_too direction time k.channel d links k.so }
due_too (Expire number timer) time w v is k =
    system_too number w v (λ station. station_due timer station ≡ Some time) is
    (λ x y pair due. sym (dues_same x y pair timer) ∙ due) k
due_too (Changing c) time w v is k = tt

ready_too : (act : Act) (time : ℕ) (w v : WorldState) → WorldsBeside w v → IsReadyAct act time w
    → IsReadyAct act time v
ready_too act time w v is k = record {
  timely = record {
    now = subst (λ (t : ℕ). t ≤ time) is.time k.timely.now;
    first = subst (NothingBefore time) is.net.pending k.timely.first;
  };
  there = there_too act w v is k.there;
  due = due_too act time w v is k.due;
}

act_too : (item : Item) (w v : WorldState) (act : Act) → WorldsBeside w v → IsActOf item w act → IsActOf item v act
act_too (Arrival link direction) w v act is k = k
act_too (Expiry place timer) w v act is (station, here, k) =
    let (y, there, pair) = each_on StationsBeside w.stations v.stations place station is.stations here in
    (y, there, k ∙ ap (λ (s : SystemState). Expire (clock s) timer) pair.system.same)

pub next_too : (w v : WorldState) (timed : Timed) → WorldsBeside w v → IsNextAct w timed → IsNextAct v timed
next_too w v timed is k = record {
  item = k.item;
  next = subst (λ es. IsNext es timed.at k.item) is.net.pending k.next;
  act = act_too k.item w v timed.act is k.act;
}

-- ---- the other way round

zip_back : {X : Type 0} (R : X → X → Type 0) (xs ys : List X) → ((x y : X) → R x y → R y x) → AllZip R xs ys
    → AllZip R ys xs
zip_back R [] [] back each = tt
zip_back R [] (y ∷ ys) back each = absurd each
zip_back R (x ∷ xs) [] back each = absurd each
zip_back R (x ∷ xs) (y ∷ ys) back each = (back x y each.0, zip_back R xs ys back each.1)

frame_back : (f g : Frame) → FramesBeside f g → FramesBeside g f
frame_back f g is = record {
  due = sym is.due;
  say = elim is.say [
    | inl one ↦ inl (sym one)
    | inr k ↦ inr (record {
      one = k.other;
      other = k.one;
      reads = k.reads_other;
      reads_other = k.reads;
      same = sym k.same;
    })
  ];
}

link_back : (c d : Channel) → LinksBeside c d → LinksBeside d c
link_back c d is = record {
  a = sym is.a;
  b = sym is.b;
  bounds = sym is.bounds;
  up = sym is.up;
  from_a = zip_back FramesBeside c.from_a d.from_a frame_back is.from_a;
  from_b = zip_back FramesBeside c.from_b d.from_b frame_back is.from_b;
}

station_back : (x y : Station) → StationsBeside x y → StationsBeside y x
station_back x y is = record {
  setup = sym is.setup;
  log = subst (λ (setup : Setup). FitsSigned w8 setup.params.sync) is.setup is.log;
  system = record {
    same = sym is.system.same;
    one = is.system.other;
    other = is.system.one;
    log = subst (λ (s : SystemState). FitsSigned w8 s.params.sync) is.system.same is.system.log;
  };
  live = sym is.live;
}

world_back : (w v : WorldState) → WorldsBeside w v → WorldsBeside v w
world_back w v is = record {
  time = sym is.time;
  last_change = sym is.last_change;
  stations = zip_back StationsBeside w.stations v.stations station_back is.stations;
  net = record {
    links = zip_back LinksBeside w.net.channels v.net.channels link_back is.net.links;
    pending = sym is.net.pending;
  };
}

pub ready_beside : ReadyBesideTime
ready_beside act time w v is = (ready_too act time w v is, ready_too act time v w (world_back w v is))

pub next_beside : NextBesideTime
next_beside w v timed is = (next_too w v timed is, next_too v w timed (world_back w v is))
