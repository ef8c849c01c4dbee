-- No act changes the intervals of systems, so that what was prompt stays so.
use Rattle.std.proofs.Common.{◌≤◌, ℕ, List, length, Option, sym, subst}
use Rattle.std.proofs.Math.Nat.{le_trans}
use Rattle.std.specs.List.{range_with_len}
use Rattle.gptp_lists.specs.Members.{In}
use Rattle.gptp_links.specs.declared.bounds.Bounds.{Bounds}
use Rattle.gptp_setup.specs.Intervals.{interval_of}
use Rattle.gptp_scenario.specs.declared.change.Act.{Act}
use Rattle.gptp_scenario.specs.declared.change.Act.TheVariants.{Deliver, Expire, Change as Changing}
use Rattle.gptp_scenario.specs.declared.change.Change.TheVariants.{LinkDown, LinkUp, LinkSet, Fail, Recover, Priority1, Inject}
use Rattle.gptp_scenario.specs.declared.change.Timed.{Timed}
use Rattle.gptp_model.specs.declared.item.Item.{Item}
use Rattle.gptp_model.specs.declared.item.Item.TheVariants.{Expiry, Arrival}
use Rattle.gptp_model.specs.declared.station.Station.{Station}
use Rattle.gptp_model.specs.Course.{Begun}
use Rattle.gptp_model.specs.Initial.{initial, station_of}
use Rattle.gptp_scenario.specs.Network.{NetworkState, smallest_of}
use Rattle.gptp_scenario.specs.Prompt.{ArePromptActs, DelayFitsInterval}
use Rattle.gptp_scenario.proofs.LogLemmas.{In-flat_map, interval_least}
use Rattle.gptp_model.specs.Prompt.{AllDelaysFitIntervals, DelaysFitIntervals, NoneFaster}
use Rattle.gptp_model.specs.Sound.{HaveTheirSetups}
use Rattle.gptp_model.specs.Views.{IsActOf, IsNextAct}
use Rattle.gptp_model.specs.World.{WorldState}
use Rattle.gptp_lists.proofs.MappedLemmas.{mapped}
use Rattle.gptp_model.proofs.StayLemmas.{Stays, starts_all_stay}

-- ---- what stays

pub stays_none_faster : (least : ℕ) (w w' : WorldState) → Stays w w' → NoneFaster least w → NoneFaster least w'
stays_none_faster least w w' stays none place new log there member =
    let was = stays.stations place new there in
    none place was.old log was.here (subst (In log) was.same.intervals member)

pub stays_prompt : (act : Act) (w w' : WorldState) → Stays w w' → DelaysFitIntervals w act → DelaysFitIntervals w' act
stays_prompt act w w' stays prompt place new log there member =
    let was = stays.stations place new there in
    prompt place was.old log was.here (subst (In log) was.same.intervals member)

pub stay_prompt : (acts : List Timed) (w w' : WorldState) → Stays w w' → AllDelaysFitIntervals w acts
    → AllDelaysFitIntervals w' acts
stay_prompt acts w w' stays prompt place timed here = stays_prompt timed.act w w' stays (prompt place timed here)

-- ---- worlds of one network

-- what is prompt for a time is so for a longer one
pub prompt_longer : (most longer : ℕ) (act : Act) → most ≤ longer → DelayFitsInterval most act
    → DelayFitsInterval longer act
prompt_longer most longer (Deliver link direction) less prompt = tt
prompt_longer most longer (Expire number timer) less prompt = tt
prompt_longer most longer (Changing (LinkDown number port)) less prompt = tt
prompt_longer most longer (Changing (LinkUp number port)) less prompt = tt
prompt_longer most longer (Changing (LinkSet number port least greatest loss)) less prompt = le_trans prompt less
prompt_longer most longer (Changing (Fail number)) less prompt = tt
prompt_longer most longer (Changing (Recover number)) less prompt = tt
prompt_longer most longer (Changing (Priority1 number value)) less prompt = tt
prompt_longer most longer (Changing (Inject number port octets)) less prompt = tt

-- what is prompt for an interval below which no port announces is so in the world
pub prompt_within : (least : ℕ) (act : Act) (w : WorldState) → NoneFaster least w → DelayFitsInterval least act
    → DelaysFitIntervals w act
prompt_within least act w none prompt place station log here member =
    prompt_longer least (interval_of log) act (none place station log here member) prompt

pub all_prompt : (least : ℕ) (acts : List Timed) (w : WorldState) → NoneFaster least w → ArePromptActs least acts
    → AllDelaysFitIntervals w acts
all_prompt least acts w none prompt place timed here = prompt_within least timed.act w none (prompt place timed here)

initial_none_faster : (n : NetworkState) → NoneFaster (interval_of (smallest_of n)) (initial n)
initial_none_faster n place station log here among =
    let (member, there, is) = mapped (station_of n) n.systems place station here in
    interval_least n log
    (In-flat_map _ log n.systems place member there
    (subst (λ (x : Station). In log x.setup.intervals.items) (sym is) among))

-- no port of a world that begins announces at an interval below the smallest of its network
pub begun_none_faster : {F : Type 0} (answers : Bounds → ℕ → F → Option ℕ → F → Type 0) (n : NetworkState)
    (fate fate_after : F) (w : WorldState) → HaveTheirSetups (initial n) → Begun answers n fate fate_after w
    → NoneFaster (interval_of (smallest_of n)) w
begun_none_faster answers n fate fate_after w setups k =
    stays_none_faster (interval_of (smallest_of n)) (initial n) w
    (starts_all_stay (range_with_len 0 (length n.systems)) (initial n) k.draws w setups k.starts)
    (initial_none_faster n)

-- ---- what is next

-- a delivery sets no bounds, and an expiry neither
is_prompt : (most : ℕ) (item : Item) (act : Act) (w : WorldState) → IsActOf item w act → DelayFitsInterval most act
is_prompt most (Arrival link direction) act w is = subst (DelayFitsInterval most) (sym is) tt
is_prompt most (Expiry place timer) act w (station, here, is) = subst (DelayFitsInterval most) (sym is) tt

pub next_prompt : (w : WorldState) (timed : Timed) → IsNextAct w timed → DelaysFitIntervals w timed.act
next_prompt w timed next place station log here member =
    is_prompt (interval_of log) next.item timed.act w next.act
