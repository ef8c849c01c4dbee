-- What a timeline tells of acts follows from their times, the worlds between them, and who received.
use Rattle.std.proofs.Common.{◌≡◌, ◌==◌, ◌&&◌, ℕ, Bool, true, false, cond, not, nat_le, if◌then◌else◌, List, [], ◌∷◌, ◌++◌, Option, Some, None, refl, sym, ap, subst, ◌∙◌}
use Rattle.std.specs.Prelude.{unsigned_abs}
use Rattle.std.specs.List.{cons_option, filter, filter_map, flat_map, list_any}
use Rattle.std.specs.Option.{option_and_then, option_map, option_map_or, option_or}
use Rattle.gptp_model.specs.World.{WorldState}
use Rattle.gptp_model.specs.declared.done.Done.{Done}
use Rattle.gptp_model.specs.declared.done.Done.TheVariants.{Heard, Quiet}
use Rattle.gptp_scenario.specs.declared.change.Act.{Act}
use Rattle.gptp_scenario.specs.declared.change.Act.TheVariants.{Change as Changing, Deliver, Expire}
use Rattle.gptp_scenario.specs.declared.change.Timed.{Timed}
use Rattle.gptp_report.specs.Transitions.{ActTrace, transition}
use Rattle.gptp_determinism.specs.ActLaws.{SameDone}
use Rattle.gptp_determinism.specs.ActTraceLaws.{IsSameTransition, SameTransitions}
use Rattle.gptp_timeline.specs.Aside.{aside_after, aside_behind, aside_over, AsideState, is_aside, is_left_out, is_out, is_returned, is_set_aside, looked_acts, without_clock}
use Rattle.gptp_timeline.specs.Changes.{change_lines}
use Rattle.gptp_timeline.specs.LastStretches.{carry_ended, CarriedAside}
use Rattle.gptp_timeline.specs.Limits.{amount_of}
use Rattle.gptp_timeline.specs.Measures.{ended_by, greatest, one_at, since_after}
use Rattle.gptp_timeline.specs.Receipts.{received_by, receiver_clock}
use Rattle.gptp_timeline.specs.Shown.{is_expecting, same_choice, same_roles, shown}
use Rattle.gptp_timeline.specs.Stretch.{at_of, counts_for, ended, ended_in, error_at, error_from, error_in, is_change, last_at, leaves_another, measured, same_known, under_way, waits, waits_after}
use Rattle.gptp_timeline.specs.ExactReads.{ended_reads, reads_by, reads_over}
use Rattle.gptp_timeline.specs.Looks.{left_after, looked_all, looked_both, looked_by, looked_in, looked_over, measured_times, measured_with, nothing_read}
use Rattle.gptp_timeline.specs.Readings.{by_receipt, new_in, new_reading, read_after, readings_after, readings_by}
use Rattle.gptp_timeline.specs.TimeWatch.{reading_lines}
use Rattle.gptp_timeline.specs.Timeline.{act_lines, acts_lines, Carried, carry, event_lines, offset_lines, stretch_reading_lines}
use Rattle.gptp_timeline.specs.Watch.{unless}
use Rattle.gptp_timeline.specs.declared.timeline.TimelineOptions.{TimelineOptions}

-- ---- one act

same_received : (done said : Done) → SameDone done said → received_by done ≡ received_by said
same_received Quiet Quiet k = refl
same_received Quiet (Heard number reached said octets) k = absurd k
same_received (Heard clock port answer frame) Quiet k = absurd k
same_received (Heard clock port answer frame) (Heard number reached said octets) (clocks, ports, answers, items) =
    λ i. receiver_clock (clocks i) (answers i) (items i)

-- what depends on these alone is the same
same_by : {X : Type 0} (G : Timed → Option ℕ → WorldState → WorldState → X) (t u : ActTrace) → IsSameTransition t u
    → G t.told.timed (received_by t.told.done) t.before t.after
    ≡ G u.told.timed (received_by u.told.done) u.before u.after
same_by G t u k = λ i. G (k.timed i) (same_received t.told.done u.told.done k.done i) (k.before i) (k.after i)

-- an act of which nothing is told, at this time and between these worlds
abbrev quiet : Timed → WorldState → WorldState → ActTrace
quiet timed w w' = transition timed Quiet w w'

same_act : (options : TimelineOptions) (names : List ℕ) (t u : ActTrace) → IsSameTransition t u
    → act_lines options names t ≡ act_lines options names u
same_act options names t u k =
    same_by (λ (timed : Timed) (received : Option ℕ) (w w' : WorldState).
    unless options.summary (event_lines timed.at timed.act
    ++ flat_map (λ name. change_lines timed.at name (shown name w) (shown name w')) names)
    ++ unless (not options.offsets) (offset_lines (quiet timed w w') received)) t u k

abbrev receives_of : ℕ → Option ℕ → Bool
receives_of name received = option_map_or (λ clock. clock == name) received false

same_wait : (since : ℕ → Option ℕ) (t u : ActTrace) → IsSameTransition t u
    → ◌≡◌ {A = ℕ → Option ℕ} (waits_after t since) (waits_after u since)
same_wait since t u k =
    same_by (λ (timed : Timed) (received : Option ℕ) (w w' : WorldState) (name : ℕ).
    since_after timed.at (receives_of name received) (is_expecting (shown name w)) (is_expecting (shown name w'))
    (since name)) t u k

same_ended : (names : List ℕ) (since : ℕ → Option ℕ) (t u : ActTrace) → IsSameTransition t u
    → ended_in names since t ≡ ended_in names since u
same_ended names since t u k =
    same_by (λ (timed : Timed) (received : Option ℕ) (w w' : WorldState).
    filter_map (λ name. option_map (one_at name) (ended_by timed.at (is_change timed.act) (receives_of name received)
    (is_expecting (shown name w')) (since name))) names) t u k

same_error : (t u : ActTrace) → IsSameTransition t u → error_in t ≡ error_in u
same_error t u k =
    same_by (λ (timed : Timed) (received : Option ℕ) (w w' : WorldState).
    option_and_then (λ name.
    option_map (λ error. one_at name (unsigned_abs error)) (error_at name (quiet timed w w'))) received) t u k

same_counts : (name : ℕ) (from : Option ℕ) (t u : ActTrace) → IsSameTransition t u
    → counts_for name from t ≡ counts_for name from u
same_counts name from t u k =
    same_by (λ (timed : Timed) (received : Option ℕ) (w w' : WorldState).
    option_map_or (λ time. nat_le time timed.at) from false && receives_of name received) t u k

-- ---- what systems read

-- `_` is what gptp_timeline keeps of each system, of types that it doesn't export.

-- the reading that a system gets is the same, whatever else is told
same_by_done : (act : Act) (done said : Done) (w : WorldState) (rs : _) → SameDone done said
    → new_reading act done w rs ≡ new_reading act said w rs
same_by_done (Deliver link direction) done said w rs k = ap (by_receipt w rs) (same_received done said k)
same_by_done (Expire name timer) done said w rs k = refl
same_by_done (Changing change) done said w rs k = refl

pub same_new : (rs : _) (t u : ActTrace) → IsSameTransition t u → new_in t rs ≡ new_in u rs
same_new rs t u k =
    same_by_done t.told.timed.act t.told.done u.told.done t.after rs k.done
    ∙ (λ i. new_reading (k.timed i).act u.told.done (k.after i) rs)

pub same_read : (rs : _) (t u : ActTrace) → IsSameTransition t u → read_after t rs ≡ read_after u rs
same_read rs t u k =
    let new = same_new rs t u k in λ i. readings_by (k.timed i).act (new i) rs

same_read_if : (readings : Option _) (t u : ActTrace) → IsSameTransition t u
    → option_map (read_after t) readings ≡ option_map (read_after u) readings
same_read_if None t u k = refl
same_read_if (Some rs) t u k = ap Some (same_read rs t u k)

same_reading_lines : (options : TimelineOptions) (readings : Option _) (t u : ActTrace)
    → IsSameTransition t u → stretch_reading_lines options readings t ≡ stretch_reading_lines options readings u
same_reading_lines options None t u k = refl
same_reading_lines options (Some rs) t u k =
    let new = same_new rs t u k in
    λ i. reading_lines (options.times && options.offsets) (k.timed i).at (k.after i) (new i)

same_readings : (rs : _) (ts us : List ActTrace) → SameTransitions ts us
    → readings_after ts rs ≡ readings_after us rs
same_readings rs [] [] k = refl
same_readings rs [] (u ∷ us) k = absurd k
same_readings rs (t ∷ ts) [] k = absurd k
same_readings rs (t ∷ ts) (u ∷ us) (first, rest) =
    ap (readings_after ts) (same_read rs t u first)
    ∙ same_readings (read_after u rs) ts us rest

same_looked : (rs : _) (left : ℕ) (ts us : List ActTrace) → SameTransitions ts us
    → looked_over rs left ts ≡ looked_over rs left us
same_looked rs left [] [] k = refl
same_looked rs left [] (u ∷ us) k = absurd k
same_looked rs left (t ∷ ts) [] k = absurd k
same_looked rs left (t ∷ ts) (u ∷ us) (first, rest) =
    let new = same_new rs t u first in
    let read = same_read rs t u first in
    let one : looked_in rs left t ≡ looked_in rs left u =
    λ i. looked_by (first.timed i).at (first.after i) (first.timed i).act left (new i) rs (read i) in
    let later : looked_over (read_after t rs) (left_after t.told.timed.act left) ts
    ≡ looked_over (read_after u rs) (left_after u.told.timed.act left) us =
    (λ i. looked_over (read i) (left_after (first.timed i).act left) ts)
    ∙ same_looked (read_after u rs) (left_after u.told.timed.act left) ts us rest in
    λ i. looked_both (one i) (later i)

pub same_times : (rs : _) (left : ℕ) (ts us : List ActTrace) (to : ℕ) (w : WorldState)
    → SameTransitions ts us → measured_times rs left ts to w ≡ measured_times rs left us to w
same_times rs left ts us to w k =
    let looked = same_looked rs left ts us k in
    let read = same_readings rs ts us k in
    λ i. measured_with (looked_both (looked i) (looked_all to w (read i))) nothing_read

same_reads_over : (from : Option ℕ) (rs : _) (xs : _) (ts us : List ActTrace)
    → SameTransitions ts us → reads_over from rs xs ts ≡ reads_over from rs xs us
same_reads_over from rs xs [] [] k = refl
same_reads_over from rs xs [] (u ∷ us) k = absurd k
same_reads_over from rs xs (t ∷ ts) [] k = absurd k
same_reads_over from rs xs (t ∷ ts) (u ∷ us) (first, rest) =
    let new = same_new rs t u first in
    let read = same_read rs t u first in
    (λ i. reads_over from (read i) (reads_by from (first.timed i).at (first.after i) (new i) xs) ts)
    ∙ same_reads_over from (read_after u rs) (reads_by from (at_of u) u.after (new_in u rs) xs) ts us rest

-- what a system read where a stretch ends
pub same_ended_reads : (from : Option ℕ) (rs : _) (xs : _) (ts us : List ActTrace)
    (to : ℕ) (w : WorldState) (name : ℕ) → SameTransitions ts us
    → ended_reads to w (readings_after ts rs) (reads_over from rs xs ts) name
    ≡ ended_reads to w (readings_after us rs) (reads_over from rs xs us) name
same_ended_reads from rs xs ts us to w name k =
    let read = same_readings rs ts us k in
    let reads = same_reads_over from rs xs ts us k in
    λ i. ended_reads to w (read i) (reads i) name

-- ---- several acts

pub same_acts : (options : TimelineOptions) (names : List ℕ) (readings : Option _)
    (ts us : List ActTrace) → SameTransitions ts us
    → acts_lines options names readings ts ≡ acts_lines options names readings us
same_acts options names readings [] [] k = refl
same_acts options names readings [] (u ∷ us) k = absurd k
same_acts options names readings (t ∷ ts) [] k = absurd k
same_acts options names readings (t ∷ ts) (u ∷ us) (first, rest) =
    let later = ap (λ read. acts_lines options names read ts) (same_read_if readings t u first)
    ∙ same_acts options names (option_map (read_after u) readings) ts us rest in
    λ i. (same_act options names t u first i ++ same_reading_lines options readings t u first i) ++ later i

pub same_waits : (ts us : List ActTrace) (since : ℕ → Option ℕ) → SameTransitions ts us
    → ◌≡◌ {A = ℕ → Option ℕ} (waits ts since) (waits us since)
same_waits [] [] since k = refl
same_waits [] (u ∷ us) since k = absurd k
same_waits (t ∷ ts) [] since k = absurd k
same_waits (t ∷ ts) (u ∷ us) since (first, rest) =
    ap (λ (begun : ℕ → Option ℕ). waits ts begun) (same_wait since t u first)
    ∙ same_waits ts us (waits_after u since) rest

same_readings_if : (readings : Option _) (ts us : List ActTrace) → SameTransitions ts us
    → option_map (readings_after ts) readings ≡ option_map (readings_after us) readings
same_readings_if None ts us k = refl
same_readings_if (Some rs) ts us k = ap Some (same_readings rs ts us k)

-- what stretches carry over
pub same_carry : (ts us : List ActTrace) (c : Carried) → SameTransitions ts us → carry ts c ≡ carry us c
same_carry ts us c k =
    let since = same_waits ts us c.since k in
    let readings = same_readings_if c.readings ts us k in
    λ i. record { since = since i; readings = readings i }

-- ---- where some systems are set aside

same_left_out : (a : AsideState) (act : Act) (done said : Done) → SameDone done said
    → is_left_out a act done ≡ is_left_out a act said
same_left_out a (Deliver link direction) done said k =
    ap (λ (received : Option ℕ). is_set_aside a && (not (is_returned a) && is_aside a.clocks received))
    (same_received done said k)
same_left_out a (Expire name timer) done said k = refl
same_left_out a (Changing change) done said k = refl

same_out : (a : AsideState) (t u : ActTrace) → IsSameTransition t u → is_out a t ≡ is_out a u
same_out a t u k =
    same_left_out a t.told.timed.act t.told.done u.told.done k.done
    ∙ (λ i. is_left_out a (k.timed i).act u.told.done)

same_aside_after : (a : AsideState) (act : Act) (done said : Done) → SameDone done said
    → aside_after act done a ≡ aside_after act said a
same_aside_after a (Deliver link direction) done said k =
    ap (λ (received : Option ℕ).
    if is_set_aside a && is_returned a then record a { clocks = without_clock received a.clocks } else a)
    (same_received done said k)
same_aside_after a (Expire name timer) done said k = refl
same_aside_after a (Changing change) done said k = refl

same_aside_behind : (a : AsideState) (t u : ActTrace) → IsSameTransition t u → aside_behind t a ≡ aside_behind u a
same_aside_behind a t u k =
    same_aside_after a t.told.timed.act t.told.done u.told.done k.done
    ∙ (λ i. aside_after (k.timed i).act u.told.done a)

looked_so : (t u : ActTrace) (ts us : List ActTrace) → IsSameTransition t u → SameTransitions ts us → (p q : Bool)
    → p ≡ q → SameTransitions (if p then ts else t ∷ ts) (if q then us else u ∷ us)
looked_so t u ts us first rest true true same = rest
looked_so t u ts us first rest false false same = (first, rest)
looked_so t u ts us first rest true false same = absurd cc
looked_so t u ts us first rest false true same = absurd cc

-- the same acts are looked at
pub same_looked_acts : (a : AsideState) (ts us : List ActTrace) → SameTransitions ts us
    → SameTransitions (looked_acts a ts) (looked_acts a us)
same_looked_acts a [] [] k = tt
same_looked_acts a [] (u ∷ us) k = absurd k
same_looked_acts a (t ∷ ts) [] k = absurd k
same_looked_acts a (t ∷ ts) (u ∷ us) (first, rest) =
    let later : SameTransitions (looked_acts (aside_behind t a) ts) (looked_acts (aside_behind u a) us) =
    subst (λ (b : AsideState). SameTransitions (looked_acts (aside_behind t a) ts) (looked_acts b us))
    (same_aside_behind a t u first) (same_looked_acts (aside_behind t a) ts us rest) in
    looked_so t u (looked_acts (aside_behind t a) ts) (looked_acts (aside_behind u a) us) first later (is_out a t)
    (is_out a u) (same_out a t u first)

same_aside_over : (a : AsideState) (ts us : List ActTrace) → SameTransitions ts us
    → aside_over ts a ≡ aside_over us a
same_aside_over a [] [] k = refl
same_aside_over a [] (u ∷ us) k = absurd k
same_aside_over a (t ∷ ts) [] k = absurd k
same_aside_over a (t ∷ ts) (u ∷ us) (first, rest) =
    ap (aside_over ts) (same_aside_behind a t u first) ∙ same_aside_over (aside_behind u a) ts us rest

pub same_carry_ended : (ts us : List ActTrace) (c : CarriedAside) → SameTransitions ts us
    → carry_ended ts c ≡ carry_ended us c
same_carry_ended ts us c k =
    let since = same_waits ts us c.carried.since k in
    let readings = same_readings_if c.carried.readings (looked_acts c.aside ts) (looked_acts c.aside us)
    (same_looked_acts c.aside ts us k) in
    let aside = same_aside_over c.aside ts us k in
    λ i. record { carried = record { since = since i; readings = readings i }; aside = aside i }

all_ended : (names : List ℕ) (ts us : List ActTrace) (since : ℕ → Option ℕ) → SameTransitions ts us
    → ended names since ts ≡ ended names since us
all_ended names [] [] since k = refl
all_ended names [] (u ∷ us) since k = absurd k
all_ended names (t ∷ ts) [] since k = absurd k
all_ended names (t ∷ ts) (u ∷ us) since (first, rest) =
    let later = ap (λ (begun : ℕ → Option ℕ). ended names begun ts) (same_wait since t u first)
    ∙ all_ended names ts us (waits_after u since) rest in
    λ i. same_ended names since t u first i ++ later i

-- a test of acts has the same answer
abbrev SameTest : (ActTrace → Bool) → Type 0
SameTest test = (t u : ActTrace) → IsSameTransition t u → test t ≡ test u

last_same : (test : ActTrace → Bool) (ts us : List ActTrace) → SameTest test → SameTransitions ts us
    → last_at test ts ≡ last_at test us
last_same test [] [] same k = refl
last_same test [] (u ∷ us) same k = absurd k
last_same test (t ∷ ts) [] same k = absurd k
last_same test (t ∷ ts) (u ∷ us) same (first, rest) =
    let passes = same t u first in
    let later = last_same test ts us same rest in
    λ i. option_or (later i) (if passes i then Some (first.timed i).at else None)

choice_same : (names : List ℕ) → SameTest (leaves_another same_choice names)
choice_same names t u k =
    λ i. list_any (λ name. not (same_choice (shown name (k.before i)) (shown name (k.after i)))) names

roles_same : (names : List ℕ) → SameTest (leaves_another same_roles names)
roles_same names t u k =
    λ i. list_any (λ name. not (same_roles (shown name (k.before i)) (shown name (k.after i)))) names

known_same : (names : List ℕ) → SameTest (leaves_another same_known names)
known_same names t u k =
    λ i. list_any (λ name. not (same_known (shown name (k.before i)) (shown name (k.after i)))) names

all_errors : (ts us : List ActTrace) → SameTransitions ts us → filter_map error_in ts ≡ filter_map error_in us
all_errors [] [] k = refl
all_errors [] (u ∷ us) k = absurd k
all_errors (t ∷ ts) [] k = absurd k
all_errors (t ∷ ts) (u ∷ us) (first, rest) = λ i. cons_option (same_error t u first i) (all_errors ts us rest i)

-- of those that pass a test
errors_if : (t : ActTrace) (passes : Bool) (ts : List ActTrace)
    → filter_map error_in (cond passes (t ∷ ts) ts)
    ≡ cond passes (cons_option (error_in t) (filter_map error_in ts)) (filter_map error_in ts)
errors_if t true ts = refl
errors_if t false ts = refl

same_if : {X : Type 0} (p q : Bool) (one other : Option X) (xs ys : List X) → p ≡ q → one ≡ other → xs ≡ ys
    → cond p (cons_option one xs) xs ≡ cond q (cons_option other ys) ys
same_if p q one other xs ys tests ones others =
    λ i. cond (tests i) (cons_option (ones i) (others i)) (others i)

counted_errors : (name : ℕ) (from : Option ℕ) (ts us : List ActTrace) → SameTransitions ts us
    → filter_map error_in (filter (counts_for name from) ts) ≡ filter_map error_in (filter (counts_for name from) us)
counted_errors name from [] [] k = refl
counted_errors name from [] (u ∷ us) k = absurd k
counted_errors name from (t ∷ ts) [] k = absurd k
counted_errors name from (t ∷ ts) (u ∷ us) (first, rest) =
    let counts : ActTrace → Bool = counts_for name from in
    errors_if t (counts t) (filter counts ts)
    ∙ same_if (counts t) (counts u) (error_in t) (error_in u) (filter_map error_in (filter counts ts))
    (filter_map error_in (filter counts us)) (same_counts name from t u first) (same_error t u first)
    (counted_errors name from ts us rest)
    ∙ sym (errors_if u (counts u) (filter counts us))

pub same_errors_from : (name : ℕ) (from : Option ℕ) (ts us : List ActTrace) → SameTransitions ts us
    → error_from name from ts ≡ error_from name from us
same_errors_from name from ts us k = λ i. amount_of (greatest (counted_errors name from ts us k i))

-- what is measured of them
pub same_measures : (names : List ℕ) (since : ℕ → Option ℕ) (time : ℕ) (ts us : List ActTrace)
    → SameTransitions ts us → measured names since time ts ≡ measured names since time us
same_measures names since time ts us k =
    let choice = last_same (leaves_another same_choice names) ts us (choice_same names) k in
    let roles = last_same (leaves_another same_roles names) ts us (roles_same names) k in
    let offsets = last_same (leaves_another same_known names) ts us (known_same names) k in
    let waited = all_ended names ts us since k in
    let begun = same_waits ts us since k in
    let errors = all_errors ts us k in
    λ i. record {
      choice = choice i;
      roles = roles i;
      offsets = offsets i;
      holdover = greatest (waited i ++ under_way names (begun i) time);
      error = greatest (errors i);
    }
