-- Frames in flight arrive within the greatest delay of their link, once those have that were as a link was last set.
use Rattle.std.proofs.Common.{◌≡◌, ◌≤◌, ◌+◌, max, ℕ, Bool, true, false, cond, List, [], ◌∷◌, ◌++◌, append-nil, length, Option, Some, refl, sym, ap, subst, ◌∙◌, arith}
use Rattle.std.specs.List.{range_with_len}
use Rattle.std.specs.Prelude.{⊤, filter}
use Rattle.gptp_links.specs.declared.bounds.Bounds.{Bounds}
use Rattle.gptp_links.specs.declared.link.Direction.TheVariants.{FromA, FromB}
use Rattle.gptp_links.specs.Fate.{Draw}
use Rattle.gptp_scenario.specs.Network.{NetworkState}
use Rattle.gptp_scenario.specs.declared.change.Act.{Act}
use Rattle.gptp_scenario.specs.declared.change.Act.TheVariants.{Deliver, Expire, Change as Changing}
use Rattle.gptp_scenario.specs.declared.change.Change.{Change}
use Rattle.gptp_scenario.specs.declared.change.Timed.{Timed}
use Rattle.gptp_model.specs.Acts.{Acts, Changes, at as at_time}
use Rattle.gptp_model.specs.Course.{Begun}
use Rattle.gptp_model.specs.declared.done.Done.{Done}
use Rattle.gptp_model.specs.Initial.{initial}
use Rattle.gptp_model.specs.World.{WorldState}
use Rattle.gptp_invariants.specs.ChoiceSeenLaws.{IsNoChange}
use Rattle.gptp_invariants.specs.SyncTimed.{ArriveBy}
use Rattle.gptp_invariants.specs.WorldShort.{IsShort}
use Rattle.gptp_invariants.proofs.DelayLimitLemmas.{AreLimited, WorldIsLimited, in_queue, keeps_limit}
use Rattle.gptp_model.proofs.ActsByLemmas.{Elementary, acts_by, changes_by, starts_by}
use Rattle.gptp_invariants.proofs.WorldKnownLemmas.{initial_limited}
use Rattle.gptp_theorem.proofs.EventLemmas.{last_behind}
use Rattle.gptp_settling_time.specs.Arrivals.{after_set, arrived_by, last_of, last_set, sets_link}

-- ---- since a link was set

abbrev pub arrive_limit : ℕ → ℕ → Bounds → ℕ
arrive_limit gone now bounds = max (now + bounds.max) gone

-- Each frame in flight arrives within the greatest delay of its link, or by this time.
abbrev pub AreLimitedBy : ℕ → WorldState → Type 0
AreLimitedBy gone w = AreLimited (arrive_limit gone w.time) w.time w.net.channels

-- so they do by what no frame in flight takes longer than
limited_short : (most : ℕ) (w : WorldState) → IsShort most w → AreLimitedBy (w.time + most) w
limited_short most w short link channel here =
    let one = short link channel here in
    record {
      room = omega arith;
      from_a = λ f among. let soon = one.dues FromA f among in omega (arith, soon);
      from_b = λ f among. let soon = one.dues FromB f among in omega (arith, soon);
    }

-- nothing is in flight in a network that hasn't begun
pub limited_first : (n : NetworkState) → AreLimitedBy 0 (initial n)
limited_first n = initial_limited n (arrive_limit 0 0) (λ place wire here. omega arith)

pub limited_later : (gone : ℕ) (w : WorldState) (time : ℕ) → w.time ≤ time → AreLimitedBy gone w
    → AreLimitedBy gone (at_time time w)
limited_later gone w time later limited link channel here =
    let one = limited link channel here in
    record {
      room = omega arith;
      from_a = λ f among. let soon = one.from_a f among in omega (arith, soon, later);
      from_b = λ f among. let soon = one.from_b f among in omega (arith, soon, later);
    }

pub limited_arrive : (gone settled : ℕ) (w : WorldState) → gone ≤ settled → AreLimitedBy gone w → ArriveBy settled w
limited_arrive gone settled w old limited link direction channel f here among =
    let soon = in_queue (arrive_limit gone w.time) w.time direction channel (limited link channel here) f among in
    omega (arith, soon, old)

-- ---- acts

-- every act keeps the limit that sets no link
keeps : (gone : ℕ) → Elementary ⊥ (λ act. sets_link act ≡ false) (λ octets. ⊤)
    (WorldIsLimited (arrive_limit gone))
keeps gone = keeps_limit (arrive_limit gone) (λ act. sets_link act ≡ false)
    (λ number port least greatest loss now channel none is.
    let never : true ≡ false = none in absurd cc)

sets_none : (act : Act) → IsNoChange act → sets_link act ≡ false
sets_none (Deliver link direction) none = refl
sets_none (Expire number timer) none = refl
sets_none (Changing change) none = absurd none

-- so does each other act
pub limited_unset : (gone : ℕ) (act : Act) (w : WorldState) (draws : List Draw) (done : Done) (w' : WorldState)
    → sets_link act ≡ false → Acts act w draws done w' → AreLimitedBy gone w → AreLimitedBy gone w'
limited_unset gone act w draws done w' = acts_by (keeps gone) act w draws done w' (λ nothing. absurd nothing)

pub limited_acts : (gone : ℕ) (act : Act) (w : WorldState) (draws : List Draw) (done : Done) (w' : WorldState)
    → IsNoChange act → Acts act w draws done w' → AreLimitedBy gone w → AreLimitedBy gone w'
limited_acts gone act w draws done w' none = limited_unset gone act w draws done w' (sets_none act none)

-- so it is as a network begins
pub limited_begins : {F : Type 0} (answers : Bounds → ℕ → F → Option ℕ → F → Type 0) (n : NetworkState)
    (fate fate_after : F) (w : WorldState) → Begun answers n fate fate_after w → AreLimitedBy 0 w
limited_begins answers n fate fate_after w k =
    starts_by (keeps 0) (range_with_len 0 (length n.systems)) (initial n) k.draws w k.starts (limited_first n)

-- ---- events

sets_more : (made : List Timed) (event : Timed)
    → filter (λ (t : Timed). sets_link t.act) (made ++ event ∷ [])
    ≡ filter (λ (t : Timed). sets_link t.act) made ++ cond (sets_link event.act) (event ∷ []) []
sets_more [] event = refl
sets_more (first ∷ made) event = by (sets_link first.act) (sets_more made event)
  where
    by : (sets : Bool)
        → filter (λ (t : Timed). sets_link t.act) (made ++ event ∷ [])
        ≡ filter (λ (t : Timed). sets_link t.act) made ++ cond (sets_link event.act) (event ∷ []) []
        → cond sets (first ∷ filter (λ (t : Timed). sets_link t.act) (made ++ event ∷ []))
        (filter (λ (t : Timed). sets_link t.act) (made ++ event ∷ []))
        ≡ cond sets (first ∷ filter (λ (t : Timed). sets_link t.act) made)
        (filter (λ (t : Timed). sets_link t.act) made)
        ++ cond (sets_link event.act) (event ∷ []) []
    by true more = ap (λ es. first ∷ es) more
    by false more = more

last_of_behind : (events : List Timed) (event : Timed) → last_of (events ++ event ∷ []) ≡ Some event.at
last_of_behind [] event = refl
last_of_behind (first ∷ events) event = ap Some (last_behind (first ∷ events) event)

-- an event that sets a link is the last, and any other isn't
set_last : (made : List Timed) (event : Timed) → sets_link event.act ≡ true
    → last_set (made ++ event ∷ []) ≡ Some event.at
set_last made event sets =
    ap last_of (sets_more made event)
    ∙ ap (λ b. last_of (filter (λ (t : Timed). sets_link t.act) made ++ cond b (event ∷ []) [])) sets
    ∙ last_of_behind (filter (λ (t : Timed). sets_link t.act) made) event

pub set_still : (made : List Timed) (event : Timed) → sets_link event.act ≡ false
    → last_set (made ++ event ∷ []) ≡ last_set made
set_still made event none =
    ap last_of (sets_more made event)
    ∙ ap (λ b. last_of (filter (λ (t : Timed). sets_link t.act) made ++ cond b (event ∷ []) [])) none
    ∙ ap last_of (append-nil (filter (λ (t : Timed). sets_link t.act) made))

-- so what was in flight as the last of the events set a link has arrived by then
pub limited_made : (most : ℕ) (made : List Timed) (event : Timed) (change : Change) (w : WorldState)
    (draws : List Draw) (w' : WorldState) → event.act ≡ Changing change
    → Changes change (record w { last_change = w.time }) draws w' → w'.time ≡ event.at → IsShort most w'
    → AreLimitedBy (arrived_by most made) w → AreLimitedBy (arrived_by most (made ++ event ∷ [])) w'
limited_made most made event change w draws w' act k then short is = by (sets_link event.act) refl
  where
    by : (sets : Bool) → sets_link event.act ≡ sets → AreLimitedBy (arrived_by most (made ++ event ∷ [])) w'
    by true sets =
        subst (λ time. AreLimitedBy time w')
        (ap (λ t. t + most) then ∙ sym (ap (after_set most) (set_last made event sets)))
        (limited_short most w' short)
    by false none =
        subst (λ time. AreLimitedBy time w') (sym (ap (after_set most) (set_still made event none)))
        (changes_by (keeps (arrived_by most made)) change (record w { last_change = w.time }) draws w'
        (λ nothing. absurd nothing) refl (ap sets_link (sym act) ∙ none) k is)
