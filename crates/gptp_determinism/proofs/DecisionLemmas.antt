-- Numbers are within their ranges or aren't, and an Announce is qualified or fails a first test.
use Rattle.std.proofs.Common.{◌≡◌, ◌≢◌, ◌⊎◌, ◌<◌, ◌≤◌, ◌^◌, ℕ, ℤ, pos, neg_ℤ, ◌+ℤ◌, List, [], ◌∷◌, length, Contains, inl, inr, arith}
use Rattle.std.proofs.lemmas.Bool.{cases_eq, cases_lt}
use Rattle.std.proofs.lemmas.Int.{ints, by_lt_z}
use Rattle.gptp_lists.specs.Members.{In}
use Rattle.gptp_scaled.specs.Interval.{FitsInterval}
use Rattle.gptp_scaled.specs.Rate.{FitsRate, scaled_by}
use Rattle.gptp_scaled.specs.ScaledNs.{FitsScaled}
use Rattle.gptp_scaled.specs.Stamp.{scaled_of}
use Rattle.gptp_messages.specs.declared.announce.AnnounceView.{AnnounceView}
use Rattle.gptp_receipt.specs.Qualification.{test_number, FailsTest, FirstFailure, Qualified}
use Rattle.gptp_receipt.specs.declared.qualification.Why.{Why}
use Rattle.gptp_receipt.specs.declared.qualification.Why.TheVariants as whys
use Rattle.gptp_correction.specs.declared.correction.Hop.{Hop}
use Rattle.gptp_correction.specs.declared.sync_in.SyncInfo.{SyncInfo}
use Rattle.gptp_correction.specs.Correction.{carried, carried_on, link_time, passage, receipt, upstream_time, BridgeFits, SlaveFits}
use Rattle.gptp_system.specs.Syncing.{offset_of, OffsetFits}
use Rattle.gptp_invariants.proofs.WorldOrderLemmas.{contains_in, in_contains}

-- it is so, or it isn't
abbrev pub Decided : Type 0 → Type 0
Decided P = P ⊎ (P → ⊥)

-- ---- numbers

-- a number is a signed one of 96 bits, or isn't
scaled_or_not : (z : ℤ) → Decided (FitsScaled z)
scaled_or_not z =
    by_lt_z z (neg_ℤ (pos (2 ^ 95)))
    (λ below. inr (λ fits. let low = fits.low in omega (arith, ints, low, below)))
    (λ low. by_lt_z z (pos (2 ^ 95))
    (λ high. inl (record { low = low; high = high }))
    (λ above. inr (λ fits. let high = fits.high in omega (arith, ints, high, above))))

-- it is one of 32 bits, or isn't
rate_or_not : (z : ℤ) → Decided (FitsRate z)
rate_or_not z =
    by_lt_z z (neg_ℤ (pos (2 ^ 31)))
    (λ below. inr (λ fits. omega (arith, ints, fits, below)))
    (λ low. by_lt_z z (pos (2 ^ 31))
    (λ high. inl (omega (arith, ints, low, high)))
    (λ above. inr (λ fits. omega (arith, ints, fits, above))))

-- it is one of 64 bits, or isn't
interval_or_not : (z : ℤ) → Decided (FitsInterval z)
interval_or_not z =
    by_lt_z z (neg_ℤ (pos (2 ^ 63)))
    (λ below. inr (λ fits. omega (arith, ints, fits, below)))
    (λ low. by_lt_z z (pos (2 ^ 63))
    (λ high. inl (omega (arith, ints, low, high)))
    (λ above. inr (λ fits. omega (arith, ints, fits, above))))

-- ---- the numbers of a system

module _ (info : SyncInfo) where
  bridge_by : (h : Hop) → Decided (FitsScaled (link_time h.delay h.neighbour)) → Decided (FitsScaled (upstream_time h))
      → Decided (FitsRate (carried_on (carried info) h).rate) → Decided (FitsScaled (passage h))
      → Decided (FitsScaled (scaled_by (carried_on (carried info) h).rate (passage h)))
      → Decided (FitsInterval (carried_on (carried info) h).correction)
      → Decided (BridgeFits h (carried_on (carried info) h))
  bridge_by h (inr unfit) b c d e f = inr (λ k. unfit k.link)
  bridge_by h (inl a) (inr unfit) c d e f = inr (λ k. unfit k.upstream)
  bridge_by h (inl a) (inl b) (inr unfit) d e f = inr (λ k. unfit k.rate)
  bridge_by h (inl a) (inl b) (inl c) (inr unfit) e f = inr (λ k. unfit k.between)
  bridge_by h (inl a) (inl b) (inl c) (inl d) (inr unfit) f = inr (λ k. unfit k.scaled)
  bridge_by h (inl a) (inl b) (inl c) (inl d) (inl e) (inr unfit) = inr (λ k. unfit k.correction)
  bridge_by h (inl a) (inl b) (inl c) (inl d) (inl e) (inl f) =
      inl (record { link = a; upstream = b; rate = c; between = d; scaled = e; correction = f })

  -- the numbers that a bridge names fit, or one doesn't
  pub bridge_or_not : (h : Hop) → Decided (BridgeFits h (carried_on (carried info) h))
  bridge_or_not h =
      let rate = (carried_on (carried info) h).rate in
      bridge_by h (scaled_or_not (link_time h.delay h.neighbour)) (scaled_or_not (upstream_time h)) (rate_or_not rate)
      (scaled_or_not (passage h)) (scaled_or_not (scaled_by rate (passage h)))
      (interval_or_not (carried_on (carried info) h).correction)

  module _ (delay neighbour : ℤ) where
    slave_by : Decided (FitsScaled (link_time delay neighbour)) → Decided (FitsRate ((carried info).rate +ℤ neighbour))
        → Decided (FitsScaled (scaled_by ((carried info).rate +ℤ neighbour) (link_time delay neighbour)))
        → Decided (FitsScaled (receipt (scaled_of info.origin) (carried info) delay neighbour))
        → Decided (SlaveFits (scaled_of info.origin) (carried info) delay neighbour)
    slave_by (inr unfit) r s t = inr (λ k. unfit k.link)
    slave_by (inl l) (inr unfit) s t = inr (λ k. unfit k.rate)
    slave_by (inl l) (inl r) (inr unfit) t = inr (λ k. unfit k.scaled)
    slave_by (inl l) (inl r) (inl s) (inr unfit) = inr (λ k. unfit k.sum)
    slave_by (inl l) (inl r) (inl s) (inl t) = inl (record { link = l; rate = r; scaled = s; sum = t })

    -- the numbers that a slave names fit, or one doesn't
    slave_or_not : Decided (SlaveFits (scaled_of info.origin) (carried info) delay neighbour)
    slave_or_not =
        slave_by (scaled_or_not (link_time delay neighbour)) (rate_or_not ((carried info).rate +ℤ neighbour))
        (scaled_or_not (scaled_by ((carried info).rate +ℤ neighbour) (link_time delay neighbour)))
        (scaled_or_not (receipt (scaled_of info.origin) (carried info) delay neighbour))

offset_by : (info : SyncInfo) (delay rate : ℤ)
    → Decided (SlaveFits (scaled_of info.origin) (carried info) delay rate)
    → Decided (FitsScaled (offset_of info delay rate)) → Decided (OffsetFits info delay rate)
offset_by info delay rate (inr unfit) o = inr (λ k. unfit k.receipt)
offset_by info delay rate (inl r) (inr unfit) = inr (λ k. unfit k.offset)
offset_by info delay rate (inl r) (inl o) = inl (record { receipt = r; offset = o })

-- the numbers on the way to an offset fit, or one doesn't
pub offset_or_not : (info : SyncInfo) (delay rate : ℤ) → Decided (OffsetFits info delay rate)
offset_or_not info delay rate =
    offset_by info delay rate (slave_or_not info delay rate)
    (scaled_or_not (offset_of info delay rate))

-- ---- an Announce

-- a clock is in a list, or isn't
member_or_not : (c : ℕ) (xs : List ℕ) → Decided (In c xs)
member_or_not c [] = inr (λ none. none)
member_or_not c (x ∷ xs) = go (cases_eq c x) (member_or_not c xs)
  where
    go : Decided (c ≡ x) → Decided (In c xs) → Decided (In c (x ∷ xs))
    go (inl same) rest = inl (inl same)
    go (inr other) (inl there) = inl (inr there)
    go (inr other) (inr none) = inr neither
      where
        neither : In c (x ∷ xs) → ⊥
        neither (inl same) = other same
        neither (inr there) = none there

contained_by : (c : ℕ) (xs : List ℕ) → Decided (In c xs) → Decided (Contains xs c)
contained_by c xs (inl there) = inl (in_contains c xs there)
contained_by c xs (inr none) = inr (λ found. none (contains_in c xs found))

-- it is qualified, or there is a first test that it fails
abbrev pub Judged : AnnounceView → ℕ → Type 0
Judged a c = Qualified a c ⊎ ((why : Why) × FirstFailure a c why)

judged_by_length : (a : AnnounceView) (c : ℕ) → a.head.source.clock ≢ c → a.body.steps < 255
    → (Contains a.path c → ⊥) → (255 < length a.path) ⊎ (length a.path ≤ 255) → Judged a c
judged_by_length a c foreign near clear (inr short) =
    inl (record { foreign = foreign; near = near; no_loop = clear; short = short })
judged_by_length a c foreign near clear (inl long) = inr (whys.TraceTooLong, record { fails = long; first = first })
  where
    first : (earlier : Why) → test_number earlier < 4 → FailsTest a c earlier → ⊥
    first whys.OwnMessage before fails = foreign fails
    first whys.TooManySteps before fails = let few = near in let many = fails in omega arith
    first whys.Loop before fails = clear fails
    first whys.TraceTooLong before fails = let later = before in omega arith

judged_by_path : (a : AnnounceView) (c : ℕ) → a.head.source.clock ≢ c → a.body.steps < 255
    → Decided (Contains a.path c) → Judged a c
judged_by_path a c foreign near (inr clear) =
    judged_by_length a c foreign near clear (cases_lt 255 (length a.path))
judged_by_path a c foreign near (inl passed) = inr (whys.Loop, record { fails = passed; first = first })
  where
    first : (earlier : Why) → test_number earlier < 3 → FailsTest a c earlier → ⊥
    first whys.OwnMessage before fails = foreign fails
    first whys.TooManySteps before fails = let few = near in let many = fails in omega arith
    first whys.Loop before fails = let later = before in omega arith
    first whys.TraceTooLong before fails = let later = before in omega arith

judged_by_steps : (a : AnnounceView) (c : ℕ) → a.head.source.clock ≢ c
    → (a.body.steps < 255) ⊎ (255 ≤ a.body.steps) → Judged a c
judged_by_steps a c foreign (inl near) =
    judged_by_path a c foreign near (contained_by c a.path (member_or_not c a.path))
judged_by_steps a c foreign (inr far) = inr (whys.TooManySteps, record { fails = far; first = first })
  where
    first : (earlier : Why) → test_number earlier < 2 → FailsTest a c earlier → ⊥
    first whys.OwnMessage before fails = foreign fails
    first whys.TooManySteps before fails = let later = before in omega arith
    first whys.Loop before fails = let later = before in omega arith
    first whys.TraceTooLong before fails = let later = before in omega arith

judged_by_source : (a : AnnounceView) (c : ℕ) → Decided (a.head.source.clock ≡ c) → Judged a c
judged_by_source a c (inr foreign) = judged_by_steps a c foreign (cases_lt a.body.steps 255)
judged_by_source a c (inl own) = inr (whys.OwnMessage, record { fails = own; first = first })
  where
    first : (earlier : Why) → test_number earlier < 1 → FailsTest a c earlier → ⊥
    first whys.OwnMessage before fails = let later = before in omega arith
    first whys.TooManySteps before fails = let later = before in omega arith
    first whys.Loop before fails = let later = before in omega arith
    first whys.TraceTooLong before fails = let later = before in omega arith

pub announce_is_judged : (a : AnnounceView) (c : ℕ) → Judged a c
announce_is_judged a c = judged_by_source a c (cases_eq a.head.source.clock c)
