use Rattle.std.proofs.Common.{◌≡◌, ℕ, zero, suc, ◌+◌, ◌-◌, ◌*◌, ◌<◌, ◌≤◌, ℤ, pos, ◌+ℤ◌, ◌-ℤ◌, ◌*ℤ◌, unsigned_abs, [], ◌∷◌, length, inl, inr, ap, ◌∙◌, sym, subst, refl, arith}
use Rattle.std.specs.Prelude.{min}
use Rattle.std.proofs.lemmas.Bool.{cases_lt}
use Rattle.std.proofs.lemmas.List.{get_or_append_left, length-append}
use Rattle.std.proofs.Math.Seq.{get_or-append_seam}
use Rattle.gptp_pdelay.specs.Clock.{IsDrift}
use Rattle.gptp_scaled.specs.Floor.{floor_div}
use Rattle.gptp_scaled.specs.Rate.{unit, rate_of}
use Rattle.gptp_pdelay.specs.GoodLink.{ceil_div}
use Rattle.gptp_pdelay.specs.Measured.{clock_rate}
use Rattle.gptp_correction.specs.Sum.{sum_below}
use Rattle.gptp_error_laws.specs.TimeError.{WayLink, Way, clock_at, drift_at, hop_error, hop_error_at, link_at, measured_jitter_at, measured_most_at, rate_error_at, rates_error_at, steady_rate_at, total_below, unlike_at, wait_error_at}
use Rattle.gptp_error_laws.specs.WayLaws.{IsDocumented, ParentsErrorStays, longer}

-- sums of the same numbers are the same
pub total_same : (n : ℕ) (f g : ℕ → ℕ) → ((i : ℕ) → i < n → f i ≡ g i) → total_below n f ≡ total_below n g
total_same zero f g h = refl
total_same (suc n) f g h =
    let before = total_same n f g (λ i k. h i (omega (arith, k))) in
    let here = h n (omega arith) in
    omega (arith, before, here)

pub sum_same : (n : ℕ) (f g : ℕ → ℤ) → ((i : ℕ) → i < n → f i ≡ g i) → sum_below n f ≡ sum_below n g
sum_same zero f g h = refl
sum_same (suc n) f g h =
    ap (λ z. z +ℤ f n) (sum_same n f g (λ i k. h i (omega (arith, k)))) ∙ ap (λ z. sum_below n g +ℤ z)
    (h n (omega arith))

-- the links that a way had stay where they were
pub link_same : (w : Way) (l : WayLink) (i : ℕ) → i < length w.links → link_at (longer w l) i ≡ link_at w i
link_same w l i h = get_or_append_left w.links (l ∷ []) (record { least = 0; most = 0; drift = pos 0 }) i h

-- and so do the clocks after them
pub clock_same : (w : Way) (l : WayLink) (i : ℕ) → i ≤ length w.links → clock_at (longer w l) i ≡ clock_at w i
clock_same w l zero h = refl
clock_same w l (suc i) h = ap (λ (k : WayLink). clock_rate k.drift) (link_same w l i h)

pub steady_same : (w : Way) (l : WayLink) (i : ℕ) → i < length w.links
    → steady_rate_at (longer w l) i ≡ steady_rate_at w i
steady_same w l i h =
    ap (λ a. rate_of (pos a) (pos (clock_at (longer w l) (suc i)))) (clock_same w l i (omega (arith, h)))
    ∙ ap (λ b. rate_of (pos (clock_at w i)) (pos b)) (clock_same w l (suc i) h)

pub rate_error_same : (w : Way) (l : WayLink) (i : ℕ) → i < length w.links
    → rate_error_at (longer w l) i ≡ rate_error_at w i
rate_error_same w l i h =
    ap (λ (k : WayLink). min (ceil_div (2202000000000 * (k.most - k.least + 2 * w.blur)) w.interval) 879609302 + 4)
    (link_same w l i h)

hop_same : (w : Way) (l : WayLink) (i : ℕ) → i < length w.links → hop_error_at (longer w l) i ≡ hop_error_at w i
hop_same w l i h =
    ap (λ (k : WayLink). hop_error (k.most - k.least + 2 * w.blur) (k.most + w.blur) w.turnaround) (link_same w l i h)

unlike_same : (w : Way) (l : WayLink) (i : ℕ) → i < length w.links → unlike_at (longer w l) i ≡ unlike_at w i
unlike_same w l i h =
    let sums = sum_same (suc i) (steady_rate_at (longer w l)) (steady_rate_at w)
    (λ j k. steady_same w l j (omega (arith, h, k))) in
    missed sums (clock_same w l (suc i) h)
  where
    missed : {s t : ℤ} {a b : ℕ} → s ≡ t → a ≡ b → let root = pos (clock_at w 0) in
        unsigned_abs (s -ℤ floor_div ((root -ℤ pos a) *ℤ unit) (pos a)) ≡
        unsigned_abs (t -ℤ floor_div ((root -ℤ pos b) *ℤ unit) (pos b))
    missed {t = t} {a = a} e f =
        ap (λ v. unsigned_abs (v -ℤ floor_div ((pos (clock_at w 0) -ℤ pos a) *ℤ unit) (pos a))) e
        ∙ ap (λ v. unsigned_abs (t -ℤ floor_div ((pos (clock_at w 0) -ℤ pos v) *ℤ unit) (pos v))) f

pub rates_same : (w : Way) (l : WayLink) (i : ℕ) → i < length w.links
    → rates_error_at (longer w l) i ≡ rates_error_at w i
rates_same w l i h =
    let totals = total_same (suc i) (rate_error_at (longer w l)) (rate_error_at w)
    (λ j k. rate_error_same w l j (omega (arith, h, k))) in
    let missed = unlike_same w l i h in
    ap (λ n. min (n + unlike_at (longer w l) i) 2587332284) totals
    ∙ ap (λ n. min (total_below (suc i) (rate_error_at w) + n) 2587332284) missed

wait_same : (w : Way) (l : WayLink) (i : ℕ) → suc i < length w.links → wait_error_at (longer w l) i ≡ wait_error_at w i
wait_same w l i h =
    ap (λ (k : WayLink). ceil_div ((w.residence + (k.most - k.least + 2 * w.blur)
    + measured_most_at (longer w l) (suc i)) * rates_error_at (longer w l) i) 33550000)
    (link_same w l i (omega (arith, h)))
    ∙ ap (λ (k : WayLink). ceil_div ((w.residence + measured_jitter_at w i + (k.most + w.blur))
    * rates_error_at (longer w l) i) 33550000) (link_same w l (suc i) h)
    ∙ ap (λ n. ceil_div ((w.residence + measured_jitter_at w i + measured_most_at w (suc i)) * n) 33550000)
    (rates_same w l i (omega (arith, h)))

-- the errors of the systems on it stay
pub parents_error_stays : ParentsErrorStays
parents_error_stays w l h k =
    let hops =
    total_same h (hop_error_at (longer w l)) (hop_error_at w) (λ i m. hop_same w l i (omega (arith, k, m))) in
    let waits = total_same (h - 1) (wait_error_at (longer w l)) (wait_error_at w)
    (λ i m. wait_same w l i (omega (arith, k, m))) in
    ap (λ n. n + total_below (h - 1) (wait_error_at (longer w l))) hops
    ∙ ap (λ n. total_below h (hop_error_at w) + n) waits

-- a way that goes on is one link longer, and its last link is that one
pub longer_length : (w : Way) (l : WayLink) → length (longer w l).links ≡ suc (length w.links)
longer_length w l = omega (arith, length-append w.links (l ∷ []))

pub link_last : (w : Way) (l : WayLink) (i : ℕ) → i ≡ length w.links → link_at (longer w l) i ≡ l
link_last w l i e =
    ap (link_at (longer w l)) e ∙ get_or-append_seam w.links l [] (record { least = 0; most = 0; drift = pos 0 })

-- the drifts of a way that goes on
pub drift_same : (w : Way) (l : WayLink) (i : ℕ) → i ≤ length w.links → drift_at (longer w l) i ≡ drift_at w i
drift_same w l zero h = refl
drift_same w l (suc i) h = ap (λ (k : WayLink). k.drift) (link_same w l i h)

pub drift_last : (w : Way) (l : WayLink) (i : ℕ) → i ≡ suc (length w.links) → drift_at (longer w l) i ≡ l.drift
drift_last w l i e =
    ap (drift_at (longer w l)) e ∙ ap (λ (k : WayLink). k.drift) (link_last w l (length w.links) refl)

-- a way that goes on to a clock within its limits is one of a document
pub documented_longer : (w : Way) (l : WayLink) → IsDocumented w → IsDrift l.drift → IsDocumented (longer w l)
documented_longer w l documented drift = record {
  little = documented.little;
  long = documented.long;
  waits = documented.waits;
  drifts = λ i within. elim (cases_lt i (suc (length w.links))) [
    | inl before ↦ (let early : i ≤ length w.links = omega (arith, before) in
        subst IsDrift (sym (drift_same w l i early)) (documented.drifts i early))
    | inr last ↦ (let e : i ≡ suc (length w.links) = omega (arith, last, within, longer_length w l) in
        subst IsDrift (sym (drift_last w l i e)) drift)
  ];
}
