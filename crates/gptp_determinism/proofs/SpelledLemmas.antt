-- A Follow_Up as it is written reads as one whose numbers are wrapped to their octets.
use Rattle.std.proofs.Common.{◌≡◌, ◌<◌, ◌+◌, ◌%◌, ◌/◌, ◌^◌, ℕ, ℤ, List, [], ◌∷◌, ◌++◌, length, Bool, FitsSigned, w8, w32, w64, ap, subst, ◌∙◌, append-nil, arith}
use Rattle.std.specs.Prelude.{if◌then◌else◌}
use Rattle.std.specs.Int.{cast_signed, cast_unsigned}
use Rattle.std.proofs.Math.Facts.{of_z-to_z, sfits_to_z}
use Rattle.std.proofs.lemmas.Nat.{mod_below}
use Rattle.byteorder.specs.Endian.{big_bytes}
use Rattle.gptp_messages.specs.declared.follow_up.FollowUp.{FollowUp}
use Rattle.gptp_messages.specs.declared.message.Message.TheVariants as messages
use Rattle.gptp_messages.specs.FollowUp.{FollowUpFits}
use Rattle.gptp_messages.specs.Grammar.{Reads, Written}
use Rattle.gptp_messages.specs.Tlv.{spelled}
use Rattle.gptp_messages.proofs.WrittenLemmas.{reads_back}

-- ---- numbers wrapped to their octets

wrap_2 : (n : ℕ) → big_bytes 2 (n % 2 ^ 16) ≡ big_bytes 2 n
wrap_2 n =
    let b1 : n % 65536 / 256 % 256 ≡ n / 256 % 256 = omega arith in
    let b0 : n % 65536 % 256 ≡ n % 256 = omega arith in
    λ i. b1 i ∷ b0 i ∷ []

wrap_4 : (n : ℕ) → big_bytes 4 (n % 2 ^ 32) ≡ big_bytes 4 n
wrap_4 n =
    let b3 : n % 4294967296 / 16777216 % 256 ≡ n / 16777216 % 256 = omega arith in
    let b2 : n % 4294967296 / 65536 % 256 ≡ n / 65536 % 256 = omega arith in
    let b1 : n % 4294967296 / 256 % 256 ≡ n / 256 % 256 = omega arith in
    let b0 : n % 4294967296 % 256 ≡ n % 256 = omega arith in
    λ i. b3 i ∷ b2 i ∷ b1 i ∷ b0 i ∷ []

wrap_6 : (n : ℕ) → big_bytes 6 (n % 2 ^ 48) ≡ big_bytes 6 n
wrap_6 n =
    let b5 : n % 281474976710656 / 1099511627776 % 256 ≡ n / 1099511627776 % 256 = omega arith in
    let b4 : n % 281474976710656 / 4294967296 % 256 ≡ n / 4294967296 % 256 = omega arith in
    let b3 : n % 281474976710656 / 16777216 % 256 ≡ n / 16777216 % 256 = omega arith in
    let b2 : n % 281474976710656 / 65536 % 256 ≡ n / 65536 % 256 = omega arith in
    let b1 : n % 281474976710656 / 256 % 256 ≡ n / 256 % 256 = omega arith in
    let b0 : n % 281474976710656 % 256 ≡ n % 256 = omega arith in
    λ i. b5 i ∷ b4 i ∷ b3 i ∷ b2 i ∷ b1 i ∷ b0 i ∷ []

wrap_8 : (n : ℕ) → big_bytes 8 (n % 2 ^ 64) ≡ big_bytes 8 n
wrap_8 n =
    let b7 : n % 18446744073709551616 / 72057594037927936 % 256 ≡ n / 72057594037927936 % 256 = omega arith in
    let b6 : n % 18446744073709551616 / 281474976710656 % 256 ≡ n / 281474976710656 % 256 = omega arith in
    let b5 : n % 18446744073709551616 / 1099511627776 % 256 ≡ n / 1099511627776 % 256 = omega arith in
    let b4 : n % 18446744073709551616 / 4294967296 % 256 ≡ n / 4294967296 % 256 = omega arith in
    let b3 : n % 18446744073709551616 / 16777216 % 256 ≡ n / 16777216 % 256 = omega arith in
    let b2 : n % 18446744073709551616 / 65536 % 256 ≡ n / 65536 % 256 = omega arith in
    let b1 : n % 18446744073709551616 / 256 % 256 ≡ n / 256 % 256 = omega arith in
    let b0 : n % 18446744073709551616 % 256 ≡ n % 256 = omega arith in
    λ i. b7 i ∷ b6 i ∷ b5 i ∷ b4 i ∷ b3 i ∷ b2 i ∷ b1 i ∷ b0 i ∷ []

-- a number with its sign
signed_8 : (z : ℤ) → big_bytes 8 (cast_unsigned w64 (cast_signed w64 (cast_unsigned w64 z % 2 ^ 64)))
    ≡ big_bytes 8 (cast_unsigned w64 z)
signed_8 z =
    let n = cast_unsigned w64 z in
    ap (big_bytes 8) (of_z-to_z {w = w64} (record { fits = mod_below n (2 ^ 64) (omega arith) })) ∙ wrap_8 n

signed_4 : (z : ℤ) → big_bytes 4 (cast_unsigned w32 (cast_signed w32 (cast_unsigned w32 z % 2 ^ 32)))
    ≡ big_bytes 4 (cast_unsigned w32 z)
signed_4 z =
    let n = cast_unsigned w32 z in
    ap (big_bytes 4) (of_z-to_z {w = w32} (record { fits = mod_below n (2 ^ 32) (omega arith) })) ∙ wrap_4 n

-- ---- a Follow_Up

abbrev pub wrapped : FollowUp → FollowUp
wrapped m = record {
  head = record {
    source = record { clock = m.head.source.clock % 2 ^ 64; port = m.head.source.port % 2 ^ 16 };
    sequence = m.head.sequence % 2 ^ 16;
    correction = cast_signed w64 (cast_unsigned w64 m.head.correction % 2 ^ 64);
    log_interval = m.head.log_interval;
    two_step = m.head.two_step;
  };
  origin = record { seconds = m.origin.seconds % 2 ^ 48; nanos = m.origin.nanos };
  rate = cast_signed w32 (cast_unsigned w32 m.rate % 2 ^ 32);
}

-- its octets, by those of its numbers
abbrev tail : ℕ → List ℕ → List ℕ → List ℕ
tail nanos seconds rate = (seconds ++ big_bytes 4 nanos) ++ spelled (record {
  tlv_type = 3;
  value =
      (0x00 ∷ 0x80 ∷ 0xC2 ∷ 0x00 ∷ 0x00 ∷ 0x01 ∷ rate)
      ++ (0 ∷ 0 ∷ 0 ∷ 0 ∷ 0 ∷ 0 ∷ 0 ∷ 0 ∷ 0 ∷ 0 ∷ 0 ∷ 0 ∷ 0 ∷ 0 ∷ 0 ∷ 0 ∷ 0 ∷ 0 ∷ []);
})

abbrev front : ℕ → Bool → ℤ → List ℕ → List ℕ → List ℕ → List ℕ → List ℕ
front size two_step log clock port sequence correction =
    0x18 ∷ 0x12 ∷ big_bytes 2 size
    ++ (0 ∷ 0 ∷ (if two_step then 2 else 0) ∷ 8 ∷ correction)
    ++ (0 ∷ 0 ∷ 0 ∷ 0 ∷ clock ++ port)
    ++ sequence
    ++ (0 ∷ cast_unsigned w8 log ∷ [])

written_same : (m : FollowUp) → Written (messages.FollowUp (wrapped m)) ≡ Written (messages.FollowUp m)
written_same m =
    let clock = wrap_8 m.head.source.clock in
    let port = wrap_2 m.head.source.port in
    let sequence = wrap_2 m.head.sequence in
    let correction = signed_8 m.head.correction in
    let seconds = wrap_6 m.origin.seconds in
    let rate = signed_4 m.rate in
    λ i. front (34 + length (tail m.origin.nanos (seconds i) (rate i))) m.head.two_step m.head.log_interval (clock i)
    (port i) (sequence i) (correction i) ++ tail m.origin.nanos (seconds i) (rate i)

wrapped_fits : (m : FollowUp) → FitsSigned w8 m.head.log_interval → m.origin.nanos < 1000000000
    → FollowUpFits (wrapped m)
wrapped_fits m log nanos = record {
  head = record {
    source = record {
      clock = mod_below m.head.source.clock (2 ^ 64) (omega arith);
      port = mod_below m.head.source.port (2 ^ 16) (omega arith);
    };
    sequence = mod_below m.head.sequence (2 ^ 16) (omega arith);
    correction =
        sfits_to_z (record { fits = mod_below (cast_unsigned w64 m.head.correction) (2 ^ 64) (omega arith) });
    log_interval = log;
  };
  origin = record { seconds = mod_below m.origin.seconds (2 ^ 48) (omega arith); nanos = nanos };
  rate = sfits_to_z (record { fits = mod_below (cast_unsigned w32 m.rate) (2 ^ 32) (omega arith) });
}

pub written_reads : (m : FollowUp) → FitsSigned w8 m.head.log_interval → m.origin.nanos < 1000000000
    → Reads (Written (messages.FollowUp m)) (messages.FollowUp (wrapped m))
written_reads m log nanos =
    let back = (reads_back (messages.FollowUp (wrapped m)) [] (wrapped_fits m log nanos)).same in
    subst (λ (f : List ℕ). Reads f (messages.FollowUp (wrapped m)))
    (append-nil (Written (messages.FollowUp (wrapped m))) ∙ written_same m) back
