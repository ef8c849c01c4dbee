-- Which delays links have had, and by when what was in flight has arrived, as it is computed.
use Rattle.std.proofs.Common.{◌≡◌, ◌<◌, ◌≤◌, inl, inr, ◌+◌, ℕ, true, suc, cond, List, [], ◌∷◌, ◌++◌, Option, Some, None, filter, map, refl, sym, ap, ap₂, subst, ◌∙◌, arith}
use Rattle.std.specs.Prelude.{◌&&◌, nat_le, nat_lt}
use Rattle.std.specs.List.{AllByRecursion}
use Rattle.std.proofs.lemmas.Bool.{and_parts, or_cases}
use Rattle.std.proofs.lemmas.Bool.Decides.{nat_tests}
use Rattle.std.proofs.lemmas.List.{append-nil}
use Rattle.gptp_lists.specs.Members.{In}
use Rattle.gptp_lists.proofs.SystemSpecLemmas.{In-slice_get}
use Rattle.gptp_setup.specs.SettlingParams.{largest_interval}
use Rattle.gptp_scenario.specs.Network.{NetworkState, pace_of}
use Rattle.gptp_scenario.specs.Prompt.{DelayFitsInterval}
use Rattle.gptp_scenario.specs.SyncWait.{sync_paths}
use Rattle.gptp_scenario.specs.declared.change.Act.{Act}
use Rattle.gptp_scenario.specs.declared.change.Act.TheVariants as acts
use Rattle.gptp_scenario.specs.declared.change.Change.TheVariants as changes
use Rattle.gptp_scenario.specs.declared.change.Timed.{Timed}
use Rattle.gptp_scenario.specs.declared.network.LinkSpec.{LinkSpec}
use Rattle.gptp_topology.specs.Course.{cable_of}
use Rattle.gptp_how_soon.specs.Bounds.{arrived_by as arrived_here}
use Rattle.gptp_how_soon.specs.Kinds.{sets_bounds}
use Rattle.gptp_how_soon.specs.Links.{delay_set, longest_among, longest_delay, longest_set}
use Rattle.gptp_how_soon.specs.Rest.{has_come_by}
use Rattle.gptp_how_soon.specs.Times.{arrived_after, has_come_after, last_of as last_here, last_set as set_here}
use Rattle.gptp_how_soon.specs.declared.bounds.Settling.{Settling}
use Rattle.gptp_how_soon.specs.declared.bounds.SettlingTime.{SettlingTime}
use Rattle.gptp_settling_time.specs.Arrivals.{HasArrivedBy, after_set, arrived_by, last_of, sets_link}
use Rattle.gptp_settling_time.specs.Gains.{HasDelaysWithin}

-- ---- delays

-- no link of them takes longer than the longest
longest_there : (w : LinkSpec) (ws : List LinkSpec) → In w ws → w.bounds.max ≤ longest_among (map cable_of ws)
longest_there w [] member = absurd member
longest_there w (x ∷ ws) (inl same) =
    let here : w.bounds.max ≡ x.bounds.max = ap (λ (y : LinkSpec). y.bounds.max) same in omega (arith, here)
longest_there w (x ∷ ws) (inr member) = let rest = longest_there w ws member in omega (arith, rest)

fits_so : (most : ℕ) (act : Act) → delay_set act ≤ most → DelayFitsInterval most act
fits_so most (acts.Deliver link direction) fits = tt
fits_so most (acts.Expire clock timer) fits = tt
fits_so most (acts.Change (changes.LinkDown clock port)) fits = tt
fits_so most (acts.Change (changes.LinkUp clock port)) fits = tt
fits_so most (acts.Change (changes.LinkSet clock port least greatest loss)) fits = fits
fits_so most (acts.Change (changes.Fail number)) fits = tt
fits_so most (acts.Change (changes.Recover number)) fits = tt
fits_so most (acts.Change (changes.Priority1 number value)) fits = tt
fits_so most (acts.Change (changes.Inject clock port octets)) fits = tt

set_within : (most : ℕ) (events others : List Timed) → longest_set (events ++ others) ≤ most
    → AllByRecursion (λ (t : Timed). DelayFitsInterval most t.act) events
set_within most [] others less = tt
set_within most (event ∷ events) others less = (
  fits_so most event.act (omega (arith, less)),
  set_within most events others (omega (arith, less)),
)

pub longest_within : (n : NetworkState) (events others : List Timed)
    → HasDelaysWithin n events (longest_delay n (events ++ others))
longest_within n events others = record {
  links = λ place v there.
      let here = longest_there v n.links (In-slice_get v n.links place there) in omega (arith, here);
  sets = set_within (longest_delay n (events ++ others)) events others (omega arith);
}

pub all_within : (n : NetworkState) (events : List Timed) → HasDelaysWithin n events (longest_delay n events)
all_within n events =
    subst (λ es. HasDelaysWithin n events (longest_delay n es)) (append-nil events) (longest_within n events [])

-- ---- when a link was last set

same_sets : (act : Act) → sets_bounds act ≡ sets_link act
same_sets (acts.Deliver link direction) = refl
same_sets (acts.Expire clock timer) = refl
same_sets (acts.Change (changes.LinkDown clock port)) = refl
same_sets (acts.Change (changes.LinkUp clock port)) = refl
same_sets (acts.Change (changes.LinkSet clock port least greatest loss)) = refl
same_sets (acts.Change (changes.Fail number)) = refl
same_sets (acts.Change (changes.Recover number)) = refl
same_sets (acts.Change (changes.Priority1 number value)) = refl
same_sets (acts.Change (changes.Inject clock port octets)) = refl

same_kept : (events : List Timed)
    → filter (λ (t : Timed). sets_bounds t.act) events ≡ filter (λ (t : Timed). sets_link t.act) events
same_kept [] = refl
same_kept (t ∷ ts) =
    ap₂ (λ test (kept : List Timed). cond test (t ∷ kept) kept) (same_sets t.act) (same_kept ts)

same_last : (events : List Timed) → last_here events ≡ last_of events
same_last [] = refl
same_last (t ∷ ts) = refl

same_arrived : (longest : ℕ) (last : Option ℕ) → arrived_here longest last ≡ after_set longest last
same_arrived longest None = refl
same_arrived longest (Some time) = refl

pub same_set : (longest : ℕ) (events : List Timed) → arrived_here longest (set_here events) ≡ arrived_by longest events
same_set longest events =
    same_arrived longest (set_here events)
    ∙ ap (after_set longest) (ap last_here (same_kept events)
    ∙ same_last (filter (λ (t : Timed). sets_link t.act) events))

-- ---- what has come

-- what was in flight as the time before was sound has arrived
pub has_come_so : (n : NetworkState) (made : List Timed) (b : SettlingTime) (at : ℕ) (s : Settling)
    → b.settling ≡ Some s → has_come_after n made (Some b) at ≡ true
    → (arrived : ℕ) × HasArrivedBy n made (suc (b.at + s.sound)) arrived × (arrived ≤ at)
has_come_so n made b at s is test =
    elim (or_cases (nat_lt (b.at + s.sound + interval) at)
    (nat_lt (b.at + s.sound + delay) at && nat_le (arrived_after n made) (b.at + s.sound))
    ((λ k. has_come_by interval delay (arrived_after n made) b at (sym is k)) ∙ test)) [
      | inl later ↦
          let over = below (b.at + s.sound + interval) at later in
          (suc (b.at + s.sound) + interval, inl refl, omega (arith, over))
      | inr both ↦
          let (later, old) =
          and_parts (nat_lt (b.at + s.sound + delay) at) (nat_le (arrived_after n made) (b.at + s.sound)) both in
          let over = below (b.at + s.sound + delay) at later in
          let gone : arrived_by (longest_delay n made) made ≤ b.at + s.sound =
          subst (λ time. time ≤ b.at + s.sound) (same_set (longest_delay n made) made)
          (most (arrived_after n made) (b.at + s.sound) old) in (
            suc (b.at + s.sound) + delay,
            inr (refl, (longest_delay n made, all_within n made, omega (arith, gone))),
            omega (arith, over),
          )
    ]
  where
    interval : ℕ
    interval = largest_interval (pace_of n)

    delay : ℕ
    delay = (sync_paths n made).delay

    below : (x y : ℕ) → nat_lt x y ≡ true → x < y
    below x y less = grind (arith, nat_tests)

    most : (x y : ℕ) → nat_le x y ≡ true → x ≤ y
    most x y less = grind (arith, nat_tests)
