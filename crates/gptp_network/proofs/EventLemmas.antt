-- The events of a document.
use Rattle.std.proofs.Common.{◌≡◌, ◌≤◌, ◌-◌, ◌++◌, ℕ, zero, suc, List, [], ◌∷◌, length, slice_get, take, Some, refl, sym, ap, subst, ◌∙◌, arith}
use Rattle.std.specs.List.{AllByRecursion}
use Rattle.gptp_setup.specs.Intervals.{interval_of, IsLog}
use Rattle.gptp_setup.proofs.IntervalLemmas.{interval_most}
use Rattle.gptp_scenario.specs.Allowed.{IsFitAct}
use Rattle.gptp_scenario.specs.Calm.{last_change}
use Rattle.gptp_network.specs.declared.keys.TheConstants.{LATEST_EVENT}
use Rattle.gptp_network.specs.Events.{timed, AreInOrder, AreEvents, IsEvent, IsPossibleChange}
use Rattle.gptp_network.specs.declared.events.Event.{Event}
use Rattle.gptp_scenario.specs.Network.{NetworkState, seeded, smallest_of}
use Rattle.gptp_scenario.proofs.NetworkLemmas.{seeded_smallest}
use Rattle.gptp_scenario.specs.Allowed.{AreAllowed, IsAllowed}
use Rattle.gptp_scenario.specs.Prompt.{ArePromptActs, DelayFitsInterval}
use Rattle.gptp_scenario.specs.declared.change.Act.TheVariants as acts
use Rattle.gptp_scenario.specs.declared.change.Change.{Change}
use Rattle.gptp_scenario.specs.declared.change.Change.TheVariants as changes
use Rattle.gptp_scenario.specs.declared.change.Timed.{Timed}

before_last : (n : ℕ) → suc n - 1 ≡ n
before_last n = omega arith

-- the last change is at the time of the last event
pub last_from : (es : List Timed) (e : Timed) → slice_get es (length es - 1) ≡ Some e → e.at ≡ last_change es
last_from [] e h = absurd cc
last_from (x ∷ []) e h = let is : x ≡ e = cc in ap (λ (t : Timed). t.at) (sym is)
last_from (x ∷ y ∷ es) e h =
    last_from (y ∷ es) e (ap (slice_get (y ∷ es)) (before_last (length es))
    ∙ ap (slice_get (x ∷ y ∷ es)) (sym (before_last (suc (length es)))) ∙ h)

in_order_behind : (es : List Timed) (t : Timed) → AreInOrder es → last_change es ≤ t.at → AreInOrder (es ++ t ∷ [])
in_order_behind [] t h k = tt
in_order_behind (e ∷ []) t h k = (k, tt)
in_order_behind (e ∷ f ∷ es) t h k = (h.0, in_order_behind (f ∷ es) t h.1 k)

each_behind : (n : NetworkState) (es : List Timed) (t : Timed) → AllByRecursion (IsEvent n) es → IsEvent n t
    → AllByRecursion (IsEvent n) (es ++ t ∷ [])
each_behind n [] t h k = (k, tt)
each_behind n (e ∷ es) t h k = (h.0, each_behind n es t h.1 k)

pub event_added : (n : NetworkState) (es : List Timed) (e : Event) → AreEvents n es → last_change es ≤ e.at
    → e.at ≤ LATEST_EVENT → IsPossibleChange n e.change → AreEvents n (es ++ timed e ∷ [])
event_added n es e h later early fits = record {
  in_order = in_order_behind es (timed e) h.in_order later;
  each = each_behind n es (timed e) h.each (record { early = early; change = e.change; act = refl; fits = fits });
}

-- the first events of a document are in order too
in_order_front : (k : ℕ) (es : List Timed) → AreInOrder es → AreInOrder (take k es)
in_order_front zero [] h = tt
in_order_front zero (e ∷ es) h = tt
in_order_front (suc k) [] h = tt
in_order_front (suc k) (e ∷ []) h = only k
  where
    only : (k : ℕ) → AreInOrder (e ∷ take k [])
    only zero = tt
    only (suc k) = tt
in_order_front (suc zero) (e ∷ f ∷ es) h = tt
in_order_front (suc (suc k)) (e ∷ f ∷ es) h = (h.0, in_order_front (suc k) (f ∷ es) h.1)

each_front : (n : NetworkState) (k : ℕ) (es : List Timed) → AllByRecursion (IsEvent n) es
    → AllByRecursion (IsEvent n) (take k es)
each_front n zero [] h = tt
each_front n zero (e ∷ es) h = tt
each_front n (suc k) [] h = tt
each_front n (suc k) (e ∷ es) h = (h.0, each_front n k es h.1)

pub first_are : (n : NetworkState) (k : ℕ) (es : List Timed) → AreEvents n es → AreEvents n (take k es)
first_are n k es h = record {
  in_order = in_order_front k es h.in_order;
  each = each_front n k es h.each;
}

-- the last change is early
pub early_from : (n : NetworkState) (es : List Timed) → AreEvents n es → last_change es ≤ LATEST_EVENT
early_from n es h = from_each es h.each where
  from_each : (es : List Timed) → AllByRecursion (IsEvent n) es → last_change es ≤ LATEST_EVENT
  from_each [] h = omega arith
  from_each (e ∷ []) h = h.0.early
  from_each (e ∷ f ∷ es) h = from_each (f ∷ es) h.1

-- ---- the seed

-- they are those of the network whatever its seed
possible_seeded : (n : NetworkState) (seed : ℕ) (change : Change) → IsPossibleChange n change
    → IsPossibleChange (seeded seed n) change
possible_seeded n seed (changes.LinkDown name port) is = is
possible_seeded n seed (changes.LinkUp name port) is = is
possible_seeded n seed (changes.LinkSet name port least greatest loss) (there, bounds) = (
  there,
  record {
    positive = bounds.positive;
    ordered = bounds.ordered;
    prompt = subst (λ log. greatest ≤ interval_of log) (sym (seeded_smallest n seed)) bounds.prompt;
    share = bounds.share;
  },
)
possible_seeded n seed (changes.Fail name) is = is
possible_seeded n seed (changes.Recover name) is = is
possible_seeded n seed (changes.Priority1 name value) is = is
possible_seeded n seed (changes.Inject name port frame) is = is

pub events_seeded : (n : NetworkState) (seed : ℕ) (es : List Timed) → AreEvents n es → AreEvents (seeded seed n) es
events_seeded n seed es h = record { in_order = h.in_order; each = each es h.each }
  where
    each : (es : List Timed) → AllByRecursion (IsEvent n) es → AllByRecursion (IsEvent (seeded seed n)) es
    each [] none = tt
    each (e ∷ es) h = (
      record {
        early = h.0.early;
        change = h.0.change;
        act = h.0.act;
        fits = possible_seeded n seed h.0.change h.0.fits;
      },
      each es h.1,
    )

-- ---- events as acts

fit_from : (n : NetworkState) (change : Change) → IsLog (smallest_of n) → IsPossibleChange n change
    → IsFitAct (acts.Change change)
fit_from n (changes.LinkDown name port) log is = tt
fit_from n (changes.LinkUp name port) log is = tt
fit_from n (changes.LinkSet name port least greatest loss) log (there, bounds) =
    let most = interval_most (smallest_of n) log in let prompt = bounds.prompt in
    record {
      positive = bounds.positive;
      ordered = bounds.ordered;
      short = omega (arith, most, prompt);
      share = bounds.share;
    }
fit_from n (changes.Fail name) log is = tt
fit_from n (changes.Recover name) log is = tt
fit_from n (changes.Priority1 name value) log is = tt
fit_from n (changes.Inject name port frame) log is = tt

allowed_from : (n : NetworkState) (t : Timed) → IsLog (smallest_of n) → IsEvent n t → IsAllowed t
allowed_from n t log is = let early = is.early in record {
  moment = omega (arith, early);
  fit = subst IsFitAct (sym is.act) (fit_from n is.change log is.fits);
}

-- a world of the network can be asked for each of its events
pub events_allowed : (n : NetworkState) (es : List Timed) → IsLog (smallest_of n) → AreEvents n es → AreAllowed es
events_allowed n es log h = each_allowed es h.each where
  each_allowed : (es : List Timed) → AllByRecursion (IsEvent n) es → AreAllowed es
  each_allowed [] h place t there = absurd cc
  each_allowed (e ∷ es) h zero t there = let same : e ≡ t = cc in subst IsAllowed same (allowed_from n e log h.0)
  each_allowed (e ∷ es) h (suc place) t there = each_allowed es h.1 place t there

-- ---- events as prompt acts

prompt_from : (n : NetworkState) (change : Change) → IsPossibleChange n change
    → DelayFitsInterval (interval_of (smallest_of n)) (acts.Change change)
prompt_from n (changes.LinkDown name port) is = tt
prompt_from n (changes.LinkUp name port) is = tt
prompt_from n (changes.LinkSet name port least greatest loss) (there, bounds) = bounds.prompt
prompt_from n (changes.Fail name) is = tt
prompt_from n (changes.Recover name) is = tt
prompt_from n (changes.Priority1 name value) is = tt
prompt_from n (changes.Inject name port frame) is = tt

-- none sets a link to a delay above the announce interval of a port
pub events_prompt : (n : NetworkState) (es : List Timed) → AreEvents n es
    → ArePromptActs (interval_of (smallest_of n)) es
events_prompt n es h = each_prompt es h.each where
  each_prompt : (es : List Timed) → AllByRecursion (IsEvent n) es → ArePromptActs (interval_of (smallest_of n)) es
  each_prompt [] h place t there = absurd cc
  each_prompt (e ∷ es) h zero t there =
      let is = h.0 in let most = interval_of (smallest_of n) in
      let prompt : DelayFitsInterval most e.act =
      subst (DelayFitsInterval most) (sym is.act) (prompt_from n is.change is.fits) in
      let same : e ≡ t = cc in subst (λ (x : Timed). DelayFitsInterval most x.act) same prompt
  each_prompt (e ∷ es) h (suc place) t there = each_prompt es h.1 place t there
