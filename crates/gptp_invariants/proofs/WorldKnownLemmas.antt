-- What is known of a world begins with it, and every act keeps it.
use Rattle.std.proofs.Common.{◌≡◌, ℕ, ◌+◌, ◌≤◌, true, false, List, [], length, Option, Some, slice_get, refl, sym, ap, subst, ◌∙◌, arith, ◌⊎◌, ℤ, ◌∷◌, inl, inr}
use Rattle.std.specs.List.{range_with_len, AllByRecursion}
use Rattle.gptp_links.specs.declared.bounds.Bounds.{Bounds}
use Rattle.gptp_links.specs.Fate.{Draw}
use Rattle.gptp_setup.specs.declared.setup.Setup.{Setup}
use Rattle.gptp_setup.specs.Intervals.{IsLogUpTo, interval_of, AreIntervals}
use Rattle.gptp_setup.specs.SettlingParams.{SettlingParams, largest_interval}
use Rattle.gptp_setup.proofs.IntervalLemmas.{interval_rises}
use Rattle.gptp_scenario.specs.declared.change.Act.{Act}
use Rattle.gptp_scenario.specs.declared.change.Timed.{Timed}
use Rattle.gptp_model.specs.declared.done.Done.{Done}
use Rattle.gptp_scenario.specs.declared.network.SystemSpec.{SystemSpec}
use Rattle.gptp_scenario.specs.declared.network.LinkSpec.{LinkSpec}
use Rattle.gptp_model.specs.declared.station.Station.{Station}
use Rattle.gptp_model.specs.Acts.{Acts, at}
use Rattle.gptp_model.specs.Course.{Begun, WasDone}
use Rattle.gptp_model.specs.Initial.{channel_from, initial, setup_of, station_of}
use Rattle.gptp_scenario.specs.Network.{IsNetwork, NetworkState, largest_of, logs_of, pace_of}
use Rattle.gptp_scenario.specs.Prompt.{DelayFitsInterval}
use Rattle.gptp_scenario.proofs.LogLemmas.{In-flat_map, largest_greatest, largest_log, logs_within}
use Rattle.gptp_model.specs.Sound.{IsSound}
use Rattle.gptp_model.specs.World.{WorldState}
use Rattle.gptp_lists.proofs.MappedLemmas.{mapped}
use Rattle.gptp_lists.specs.Members.{In}
use Rattle.gptp_lists.proofs.SystemSpecLemmas.{In-slice_get}
use Rattle.gptp_lists.proofs.PlaceLemmas.{member_there}
use Rattle.gptp_model.proofs.SoundLemmas.{later_sound}
use Rattle.gptp_model.proofs.SteadyLemmas.{started_steady}
use Rattle.gptp_model.specs.Prompt.{DelaysFitIntervals}
use Rattle.gptp_invariants.specs.WorldKnown.{IsKnown}
use Rattle.gptp_invariants.specs.DelayLinked.{MeasureLinks}
use Rattle.gptp_model.proofs.ActsByLemmas.{acts_by, starts_by}
use Rattle.gptp_invariants.proofs.WorldKnownKeptLemmas.{IsKept, IsKeptStation, fresh_limit, kept_known, known_kept, IsCounted}
use Rattle.gptp_invariants.proofs.WorldKnownStepLemmas.{IsPromptFor, keeps, started_set}
use Rattle.gptp_invariants.proofs.WorldShortLemmas.{within}
use Rattle.gptp_invariants.proofs.WorldLaterLemmas.{later_known}
use Rattle.gptp_invariants.proofs.DelayLimitLemmas.{AreLimited, IsLimited}
use Rattle.gptp_invariants.proofs.DelayKnownLinkActLemmas.{acts_measure}
use Rattle.gptp_invariants.proofs.DelayStartsLemmas.{starts_all_measure}

-- ---- acts

-- such an act is prompt for each interval that counts
counted_prompt : (p : SettlingParams) (act : Act) (w : WorldState) → DelayFitsInterval (largest_interval p) act
    → DelaysFitIntervals w act
    → IsPromptFor (IsCounted p w.stations) act
counted_prompt p act w most prompt log (inl same) = subst (λ l. DelayFitsInterval (interval_of l) act) (sym same) most
counted_prompt p act w most prompt log (inr at) = prompt at.place at.station log at.here at.among

pub acts_known : (p : SettlingParams) (act : Act) (w : WorldState) (draws : List Draw) (done : Done) (w' : WorldState)
    → IsSound w → DelayFitsInterval (largest_interval p) act → DelaysFitIntervals w act → Acts act w draws done w'
    → IsKnown p w
    → IsKnown p w'
acts_known p act w draws done w' sound most prompt k known =
    let counted = IsCounted p w.stations in
    kept_known p counted w'
    (acts_by (keeps p counted) act w draws done w' (λ known. sound.wired) (counted_prompt p act w most prompt) k
    (known_kept p w sound.on_time known))
    (acts_measure act w draws done w' sound.wired k known.links)

pub done_known : {F : Type 0} (answers : Bounds → ℕ → F → Option ℕ → F → Type 0) (p : SettlingParams) (timed : Timed)
    (fate fate_after : F) (w w' : WorldState) (done : Done) → IsSound w
    → DelayFitsInterval (largest_interval p) timed.act → DelaysFitIntervals w timed.act
    → WasDone answers timed fate fate_after w w' done → IsKnown p w → IsKnown p w'
done_known answers p timed fate fate_after w w' done sound most prompt k known =
    let timely = k.ready.timely in
    acts_known p timed.act (at timed.at w) k.draws done w' (later_sound w timed.at w.last_change sound timely.first)
    most prompt k.acts (later_known p w timed.at timely.now known)

-- ---- the start

-- the intervals that count in a network: the largest, and those of its ports
abbrev IsOf : NetworkState → ℤ → Type 0
IsOf n log = (log ≡ largest_of n) ⊎ In log (logs_of n)

-- those of a system are among them
log_of_system : (n : NetworkState) (place : ℕ) (m : SystemSpec) → slice_get n.systems place ≡ Some m → (log : ℤ)
    → In log m.intervals.items → In log (logs_of n)
log_of_system n place m there log among =
    In-flat_map (λ (x : SystemSpec). x.intervals.items) log n.systems place m there among

all_among : (So : ℤ → Type 0) (logs : List ℤ) → ((log : ℤ) → In log logs → So log) → AllByRecursion So logs
all_among So [] each = tt
all_among So (log ∷ logs) each = (each log (inl refl), all_among So logs (λ x among. each x (inr among)))

-- a system as the network has it, before it starts
initial_station : (n : NetworkState) → IsNetwork n → (place : ℕ) (m : SystemSpec) → slice_get n.systems place ≡ Some m
    → IsKeptStation (pace_of n) (IsOf n) 0 (station_of n m)
initial_station n is place m there =
    let setup : Setup = setup_of n m in
    let params = is.params.ranges.params in
    let logs = log_of_system n place m there in
    let intervals : AreIntervals setup = record {
      many = (is.systems place m there).many;
      each = all_among (IsLogUpTo (largest_of n)) m.intervals.items
          (λ log among. record {
            within = logs_within n is log (logs log among);
            most = largest_greatest n log (logs log among);
          });
      largest = largest_log n is;
    } in
    record {
      setup = params;
      steady = started_steady setup 0 params intervals;
      set = started_set (pace_of n) setup 0 false refl refl intervals;
      logs = λ log among. inr (logs log among);
      in_time = λ live. absurd cc;
      measuring = λ live. absurd cc;
      time = λ live. absurd cc;
    }

-- a link as the network has it: nothing is in flight
initial_channel : (wire : LinkSpec) (limit : Bounds → ℕ) → 0 + wire.bounds.max ≤ limit wire.bounds
    → IsLimited limit 0 (channel_from wire)
initial_channel wire limit room =
    record { room = room; from_a = λ f among. absurd among; from_b = λ f among. absurd among }

pub initial_limited : (n : NetworkState) (limit : Bounds → ℕ)
    → ((place : ℕ) (wire : LinkSpec) → slice_get n.links place ≡ Some wire → 0 + wire.bounds.max ≤ limit wire.bounds)
    → AreLimited limit 0 (initial n).net.channels
initial_limited n limit room link channel here =
    let wire = mapped channel_from n.links link channel here in
    subst (IsLimited limit 0) wire.2 (initial_channel wire.0 limit (room link wire.0 wire.1))

-- a link has no delay above any of the intervals; above the largest neither, since a port is at its end
wire_prompt : (n : NetworkState) → IsNetwork n → (place : ℕ) (wire : LinkSpec) → slice_get n.links place ≡ Some wire
    → (log : ℤ) → IsOf n log → wire.bounds.max ≤ interval_of log
wire_prompt n is place wire here log (inr among) = (is.links place wire here).prompt log among
wire_prompt n is place wire here log (inl same) =
    let link = is.links place wire here in
    let port = link.a in
    let first = port.first in
    let last = port.last in
    let many = (is.systems port.place port.system port.there).many in
    let (one, there) = member_there port.system.intervals.items 0 (omega arith) in
    let among = log_of_system n port.place port.system port.there one
    (In-slice_get one port.system.intervals.items 0 there) in
    let short = link.prompt one among in
    let rises = interval_rises one (largest_of n) (largest_greatest n one among) in
    let most : wire.bounds.max ≤ interval_of (largest_of n) = omega arith in
    subst (λ l. wire.bounds.max ≤ interval_of l) (sym same) most

initial_kept : (n : NetworkState) → IsNetwork n → IsKept (pace_of n) (IsOf n) (initial n)
initial_kept n is = record {
  change = omega arith;
  stations = λ place station here.
      let member = mapped (station_of n) n.systems place station here in
      subst (IsKeptStation (pace_of n) (IsOf n) 0) member.2 (initial_station n is place member.0 member.1);
  largest = inl refl;
  near = λ log so. initial_limited n (within (interval_of log) 0)
      (λ place wire here. let prompt = wire_prompt n is place wire here log so in omega arith);
  fresh = initial_limited n (fresh_limit (pace_of n) 0 0) (λ place wire here. omega arith);
}

-- no system is live yet, so no port measures
initial_measure : (n : NetworkState) → MeasureLinks (initial n)
initial_measure n place station here live =
    let member = mapped (station_of n) n.systems place station here in
    let both : true ≡ false = sym live ∙ ap (λ (x : Station). x.live) (sym member.2) in
    absurd cc

pub begins_known : {F : Type 0} (answers : Bounds → ℕ → F → Option ℕ → F → Type 0) (n : NetworkState)
    (fate fate_after : F) (w : WorldState) → IsNetwork n → Begun answers n fate fate_after w → IsKnown (pace_of n) w
begins_known answers n fate fate_after w is begun =
    let places : List ℕ = range_with_len 0 (length n.systems) in
    kept_known (pace_of n) (IsOf n) w
    (starts_by (keeps (pace_of n) (IsOf n)) places (initial n) begun.draws w begun.starts (initial_kept n is))
    (starts_all_measure places (initial n) begun.draws w (initial_measure n) begun.starts)
