-- What is kept of what systems read, act by act.
use Rattle.std.proofs.Common.{◌≡◌, ◌==◌, ◌||◌, ℕ, ℤ, ◌+ℤ◌, Bool, true, false, not, List, [], ◌∷◌, map, Option, Some, None, option_map, option_and_then, if◌then◌else◌, refl, sym, ap, subst, ◌∙◌, arith}
use Rattle.std.specs.Option.{option_map_or}
use Rattle.std.proofs.lemmas.Bool.Decides.{nat_tests}
use Rattle.std.proofs.lemmas.Int.{clamps, ints}
use Rattle.std.proofs.lemmas.Option.{none-some, same_Some}
use Rattle.gptp_correction.specs.Correction.{nearest_rate}
use Rattle.gptp_correction.specs.declared.sync_in.SyncInfo.{SyncInfo}
use Rattle.gptp_model.specs.World.{WorldState}
use Rattle.gptp_model.specs.declared.done.Done.{Done}
use Rattle.gptp_roles.specs.Selection.{clock_of}
use Rattle.gptp_scaled.specs.Rate.{FitsRate}
use Rattle.gptp_scenario.specs.declared.change.Act.{Act}
use Rattle.gptp_scenario.specs.declared.change.Act.TheVariants.{Change as Changing, Deliver, Expire}
use Rattle.gptp_setup.specs.declared.timer.Timer.TheVariants as timers
use Rattle.gptp_system.specs.State.{SystemState}
use Rattle.gptp_system.specs.Syncing.{reading_by, slave_rate}
use Rattle.gptp_system.specs.declared.reading.Reading.{Reading}
use Rattle.gptp_timeline.specs.Readings.{by_receipt, by_takeover, gets, is_leading, new_in, new_reading, no_reading, own_reading, put_reading, read_after, reading_among, readings_after, readings_by, reads_own, received_from, received_reading, failed_by, source_named}
use Rattle.gptp_timeline.specs.Receipts.{received_by}
use Rattle.gptp_timeline.specs.Shown.{live_system}
use Rattle.gptp_timeline.specs.Stretch.{is_change}
use Rattle.gptp_timeline.specs.declared.readings.KeptReading.{KeptReading}
use Rattle.gptp_timeline.specs.declared.readings.NewReading.{NewReading}
use Rattle.gptp_timeline.specs.declared.readings.SystemReading.{SystemReading}
use Rattle.gptp_world.specs.Transitions.{ActTrace}

-- ---- one system's reading is put

-- that of another system stays
pub put_other : (n : ℕ) (kept : Option KeptReading) (rs : List SystemReading) (name : ℕ) → (name ≡ n → ⊥)
    → reading_among (put_reading n kept rs) name ≡ reading_among rs name
put_other n kept [] name apart = refl
put_other n kept (x ∷ xs) name apart = by (x.clock == n) refl (put_other n kept xs name apart)
  where
    by : (own : Bool) → x.clock == n ≡ own → reading_among (put_reading n kept xs) name ≡ reading_among xs name
        → reading_among (put_reading n kept (x ∷ xs)) name ≡ reading_among (x ∷ xs) name
    by true is rest =
        let same : x.clock ≡ n = grind (arith, nat_tests) in
        let other : x.clock == name ≡ false = grind (arith, nat_tests) in
        rw (is, other) rest
    by false is rest = rw (is, rest) refl

-- its own is what was put
pub put_own : (n : ℕ) (put : Option KeptReading) (rs : List SystemReading) (kept : KeptReading)
    → reading_among (put_reading n put rs) n ≡ Some kept → put ≡ Some kept
put_own n put [] kept is = absurd (none-some kept is)
put_own n put (x ∷ xs) kept is = by (x.clock == n) refl (put_own n put xs kept) is
  where
    by : (own : Bool) → x.clock == n ≡ own → (reading_among (put_reading n put xs) n ≡ Some kept → put ≡ Some kept)
        → reading_among (put_reading n put (x ∷ xs)) n ≡ Some kept → put ≡ Some kept
    by true own rest is = rw (own, own) at is
    by false own rest is = rest (rw (own, own) at is)

-- no system has time at first
pub none_at_first : (names : List ℕ) (name : ℕ) → reading_among (map no_reading names) name ≡ None
none_at_first [] name = refl
none_at_first (n ∷ ns) name = by (n == name) (none_at_first ns name)
  where
    by : (own : Bool) → reading_among (map no_reading ns) name ≡ None
        → (if own then None else reading_among (map no_reading ns) name) ≡ None
    by true rest = refl
    by false rest = rest

-- ---- rates fit

nearest_fits : (z : ℤ) → FitsRate (nearest_rate z)
nearest_fits z = omega (arith, ints, clamps)

-- the rate of what was received is held at the limits of Integer32
abbrev pub RateFits : KeptReading → Type 0
RateFits kept = (r : Reading) → kept.received ≡ Some r → FitsRate r.rate

received_fits : (w : WorldState) (s : SystemState) (kept : KeptReading) → received_reading w s ≡ Some kept
    → RateFits kept
received_fits w s kept is r received = by s.known s.offset is
  where
    by : (known : Option SyncInfo) (offset : Option ℤ)
        → option_map (received_from (source_named (clock_of s.root) w))
        (option_and_then (λ k. option_map (λ o. reading_by s k o) offset) known) ≡ Some kept
        → FitsRate r.rate
    by None offset is = absurd (none-some kept is)
    by (Some known) None is = absurd (none-some kept is)
    by (Some known) (Some offset) is =
        let source = source_named (clock_of s.root) w in
        let one : received_from source (reading_by s known offset) ≡ kept =
        same_Some (received_from source (reading_by s known offset)) kept is in
        let same : reading_by s known offset ≡ r =
        same_Some (reading_by s known offset) r (ap (λ (k : KeptReading). k.received) one ∙ received) in
        subst (λ (x : Reading). FitsRate x.rate) same (nearest_fits (known.rate +ℤ slave_rate s))

-- ---- a new reading

-- it follows on the one before, and its rate fits
pub record IsNew (rs : List SystemReading) (u : NewReading) : Type 0 where
  pub before : u.before ≡ reading_among rs u.clock
  pub fits : RateFits u.after

receipt_new : (w : WorldState) (rs : List SystemReading) (received : Option ℕ) (u : NewReading)
    → by_receipt w rs received ≡ Some u → IsNew rs u
receipt_new w rs None u is = absurd (none-some u is)
receipt_new w rs (Some name) u is = by (live_system name w) is
  where
    by_kept : (kept : Option KeptReading) → ((k : KeptReading) → kept ≡ Some k → RateFits k)
        → option_map (gets name true (reading_among rs name)) kept ≡ Some u → IsNew rs u
    by_kept None fits is = absurd (none-some u is)
    by_kept (Some k) fits is =
        subst (IsNew rs) (same_Some (gets name true (reading_among rs name) k) u is)
        (record { before = refl; fits = fits k refl })

    by : (live : Option SystemState)
        → option_map (gets name true (reading_among rs name)) (option_and_then (received_reading w) live) ≡ Some u
        → IsNew rs u
    by None is = absurd (none-some u is)
    by (Some s) is = by_kept (received_reading w s) (λ k e. received_fits w s k e) is

takeover_new : (w : WorldState) (rs : List SystemReading) (name : ℕ) (u : NewReading)
    → by_takeover w rs name ≡ Some u → IsNew rs u
takeover_new w rs name u is =
    by (reads_own (reading_among rs name) || not (option_map_or is_leading (live_system name w) false)) is
  where
    by : (none : Bool)
        → (if none then None else Some (gets name false (reading_among rs name) (own_reading w name))) ≡ Some u
        → IsNew rs u
    by true is = absurd (none-some u is)
    by false is =
        subst (IsNew rs) (same_Some (gets name false (reading_among rs name) (own_reading w name)) u is)
        (record { before = refl; fits = λ r no. absurd (none-some r no) })

pub is_new : (act : Act) (done : Done) (w : WorldState) (rs : List SystemReading) (u : NewReading)
    → new_reading act done w rs ≡ Some u → IsNew rs u
is_new (Deliver link direction) done w rs u is = receipt_new w rs (received_by done) u is
is_new (Expire name timers.Sync) done w rs u is = takeover_new w rs name u is
is_new (Expire name timer) done w rs u is = absurd (none-some u is)
is_new (Changing change) done w rs u is = absurd (none-some u is)

-- ---- after acts

-- each reading that is kept has a rate that fits
abbrev pub RatesFit : List SystemReading → Type 0
RatesFit rs = (name : ℕ) (kept : KeptReading) → reading_among rs name ≡ Some kept → RateFits kept

pub fit_at_first : (names : List ℕ) → RatesFit (map no_reading names)
fit_at_first names name kept is = absurd (none-some kept (sym (none_at_first names name) ∙ is))

put_fit : (n : ℕ) (put : Option KeptReading) (rs : List SystemReading) → RatesFit rs
    → ((kept : KeptReading) → put ≡ Some kept → RateFits kept) → RatesFit (put_reading n put rs)
put_fit n put rs fit new name kept is = by (name == n) refl
  where
    by : (own : Bool) → name == n ≡ own → RateFits kept
    by true own =
        let same : name ≡ n = grind (arith, nat_tests) in
        new kept (put_own n put rs kept (subst (λ m. reading_among (put_reading n put rs) m ≡ Some kept) same is))
    by false own =
        let apart : name ≡ n → ⊥ = grind (arith, nat_tests) in
        fit name kept (sym (put_other n put rs name apart) ∙ is)

pub step_fit : (t : ActTrace) (rs : List SystemReading) → RatesFit rs → RatesFit (read_after t rs)
step_fit t rs fit = by (new_in t rs) refl
  where
    failed : (name : Option ℕ) → failed_by t.told.timed.act ≡ name
        → RatesFit (readings_by t.told.timed.act None rs)
    failed None is = rw is fit
    failed (Some name) is = rw is (put_fit name None rs fit (λ kept no. absurd (none-some kept no)))

    by : (new : Option NewReading) → new_in t rs ≡ new → RatesFit (readings_by t.told.timed.act new rs)
    by None is = failed (failed_by t.told.timed.act) refl
    by (Some u) is =
        let new = is_new t.told.timed.act t.told.done t.after rs u is in
        put_fit u.clock (Some u.after) rs fit
        (λ kept same. subst RateFits (same_Some u.after kept same) new.fits)

pub acts_fit : (ts : List ActTrace) (rs : List SystemReading) → RatesFit rs → RatesFit (readings_after ts rs)
acts_fit [] rs fit = fit
acts_fit (t ∷ ts) rs fit = acts_fit ts (read_after t rs) (step_fit t rs fit)

-- ---- an act that is no event

quiet_fails_none : (act : Act) → is_change act ≡ false → failed_by act ≡ None
quiet_fails_none (Deliver link direction) quiet = refl
quiet_fails_none (Expire name timer) quiet = refl
quiet_fails_none (Changing change) quiet = absurd cc

-- where no system gets a reading by it all stay
pub quiet_reads : (act : Act) (rs : List SystemReading) → is_change act ≡ false → readings_by act None rs ≡ rs
quiet_reads act rs quiet = let none = quiet_fails_none act quiet in rw none refl
