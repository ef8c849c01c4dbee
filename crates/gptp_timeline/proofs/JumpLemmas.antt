-- What a system reads that gets a reading, worked out once.
use Rattle.std.proofs.Common.{◌≡◌, ℕ, ℤ, ◌-ℤ◌, Option, Some, option_and_then, option_map, sym, ap, ◌∙◌}
use Rattle.gptp_model.specs.World.{WorldState}
use Rattle.gptp_timeline.specs.Jumps.{error_before, jump_of}
use Rattle.gptp_timeline.specs.Readings.{clock_time, read_by, reading_error, source_time, step_of}
use Rattle.gptp_timeline.specs.declared.readings.KeptReading.{KeptReading}
use Rattle.gptp_timeline.specs.declared.readings.NewReading.{NewReading}

module _ (at : ℕ) (w : WorldState) (u : NewReading) (kept : KeptReading) (shown : ℤ) (has : u.before ≡ Some kept)
    (shows : clock_time u.clock at w ≡ Some shown) where
  abbrev off_by : KeptReading → ℤ → Option ℤ
  off_by k s = option_map (λ time. read_by k s -ℤ time) (source_time k.source at w)

  error_is : (k : KeptReading) → reading_error at w u.clock k ≡ off_by k shown
  error_is k = ap (option_and_then (off_by k)) shows

  before_is : error_before at w u ≡ off_by kept shown
  before_is = ap (option_and_then (reading_error at w u.clock)) has ∙ error_is kept

  step_is : step_of at w u ≡ Some (read_by u.after shown -ℤ read_by kept shown)
  step_is =
      ap (option_and_then (λ old. option_map (λ s. read_by u.after s -ℤ read_by old s) (clock_time u.clock at w))) has
      ∙ ap (option_map (λ s. read_by u.after s -ℤ read_by kept s)) shows

  pub jump_is : (read old step : ℤ) (time after was before : Option ℤ) → read ≡ read_by u.after shown
      → old ≡ read_by kept shown → time ≡ source_time u.after.source at w
      → after ≡ option_map (λ t. read -ℤ t) time → was ≡ source_time kept.source at w
      → before ≡ option_map (λ t. old -ℤ t) was → step ≡ read -ℤ old
      → record { before = before; after = after; step = Some step } ≡ jump_of at w u
  jump_is read old step time after was before read_is old_is time_is after_is was_is was_off more =
      let first : before ≡ error_before at w u =
      was_off ∙ (λ i. option_map (λ t. old_is i -ℤ t) (was_is i)) ∙ sym before_is in
      let second : after ≡ reading_error at w u.clock u.after =
      after_is ∙ (λ i. option_map (λ t. read_is i -ℤ t) (time_is i)) ∙ sym (error_is u.after) in
      let third : Some step ≡ step_of at w u =
      ap Some more ∙ (λ i. Some (read_is i -ℤ old_is i)) ∙ sym step_is in
      λ i. record { before = first i; after = second i; step = third i }
