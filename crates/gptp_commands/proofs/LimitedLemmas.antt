-- What is written for the octets that were read is written for all there are.
use Rattle.std.proofs.Common.{◌≡◌, ℕ, ◌≤◌, ◌<◌, Bool, true, false, nat_le, List, ◌++◌, [], length, Option, Some, None, Result, Ok, Err, inl, inr, refl, sym, ap, subst, ◌∙◌, append-nil, length-append, arith}
use Rattle.std.specs.Bool.{MatchBool}
use Rattle.std.specs.Prelude.{IfErr, IfSome, OnErr}
use Rattle.std.proofs.lemmas.Bool.{le-leb, leb-true, leb-false, lt-leb}
use Rattle.gptp_commands.specs.declared.failure.Status.{Status}
use Rattle.std.specs.Io.KnownBytes.{Appends}
use Rattle.gptp_sink.specs.Sink.{AppendsSome}
use Rattle.gptp_sink.proofs.SinkLemmas.{none_of}
use Rattle.gptp_commands.specs.Limited.{Begins, Limited}
use Rattle.gptp_commands.specs.Written.{Writes, WritesSome}
use Rattle.gptp_words.specs.Lines.{text_of}
use Rattle.gptp_commands.specs.Source.{ReadsWhole}

-- what is so after an error is so whatever else is known of that
pub if_error : {X E : Type 0} (P : Type 0) (Q : E → Type 0) (result : Result X E) → OnErr result P
    → IfErr result (λ e. Q e → P)
if_error P Q (Ok x) none = tt
if_error P Q (Err e) so = λ known. so

-- what is said of known octets
pub if_some : (P Q : List ℕ → Type 0) (known : Option (List ℕ)) → ((octets : List ℕ) → P octets → Q octets)
    → IfSome known P
    → IfSome known Q
if_some P Q None step holds = tt
if_some P Q (Some octets) step holds = step octets holds

-- an input within its size is answered as that says
pub in_size : (limit : ℕ) (Within : List ℕ → List (List ℕ) → Status → Type 0) (Past : List (List ℕ) → Status → Type 0)
    (input : List ℕ) (output : List (List ℕ)) (status : Status) → length input ≤ limit → Within input output status
    → Limited limit Within Past input output status
in_size limit Within Past input output status fits holds = rw (le-leb (length input) limit fits) holds

pub of_size : (limit : ℕ) (Within : List ℕ → List (List ℕ) → Status → Type 0) (Past : List (List ℕ) → Status → Type 0)
    (input : List ℕ) (output : List (List ℕ)) (status : Status) → length input ≤ limit
    → Limited limit Within Past input output status → Within input output status
of_size limit Within Past input output status fits text = rw (le-leb (length input) limit fits) at text

-- what an input within its size is answered may mean more
pub limited_weaker : (limit : ℕ) (Within More : List ℕ → List (List ℕ) → Status → Type 0)
    (Past : List (List ℕ) → Status → Type 0) (input : List ℕ) (output : List (List ℕ)) (status : Status)
    → (Within input output status → More input output status) → Limited limit Within Past input output status
    → Limited limit More Past input output status
limited_weaker limit Within More Past input output status more text = by_size (nat_le (length input) limit) text
  where
    by_size : (fits : Bool) → MatchBool fits (Within input output status) (Past output status)
        → MatchBool fits (More input output status) (Past output status)
    by_size true within = more within
    by_size false past = past

-- what holds of a front of the input that is all of it, or too long by itself, holds of the input
pub same_size : (limit : ℕ) (Within Past : List ℕ → Type 0) (input octets rest : List ℕ) → input ≡ octets ++ rest
    → (length octets ≤ limit → rest ≡ []) → (limit < length octets → Past octets → Past input)
    → MatchBool (nat_le (length octets) limit) (Within octets) (Past octets)
    → MatchBool (nat_le (length input) limit) (Within input) (Past input)
same_size limit Within Past input octets rest split whole past holds =
    by_size (nat_le (length octets) limit) refl holds
  where
    by_size : (fits : Bool) → nat_le (length octets) limit ≡ fits → MatchBool fits (Within octets) (Past octets)
        → MatchBool (nat_le (length input) limit) (Within input) (Past input)
    by_size true test within =
        let none : rest ≡ [] = whole (leb-true (length octets) limit test) in
        let all : input ≡ octets = split ∙ rw none (append-nil octets) in
        let fits : nat_le (length input) limit ≡ true = ap (λ xs. nat_le (length xs) limit) all ∙ test in
        rw fits (subst Within (sym all) within)
    by_size false test long =
        let past_size = leb-false (length octets) limit test in
        let longer : nat_le (length input) limit ≡ false =
        lt-leb (length input) limit (omega (arith, ap length split, length-append octets rest)) in
        rw longer (past past_size long)

module _ (limit : ℕ) (Within : List ℕ → List (List ℕ) → Status → Type 0) (Past : List (List ℕ) → Status → Type 0) where
  abbrev Text : List ℕ → List (List ℕ) → Status → Type 0
  Text = Limited limit Within Past

  -- the text for such a front is the text for the input
  fronts : (input octets rest : List ℕ) → input ≡ octets ++ rest → (length octets ≤ limit → rest ≡ [])
      → (output : List (List ℕ)) (status : Status) → Text octets output status → Text input output status
  fronts input octets rest split whole output status text =
      same_size limit (λ xs. Within xs output status) (λ xs. Past output status) input octets rest split whole
      (λ long past. past) text

  -- the text for the octets that were read is the text for all there are
  pub same_text : (left rest : Option (List ℕ)) (octets : List ℕ) → ReadsWhole limit left rest octets
      → IfSome left (λ input. (output : List (List ℕ)) (status : Status) → Text octets output status
      → Text input output status)
  same_text None rest octets reads = tt
  same_text (Some xs) None octets reads = absurd reads.taken
  same_text (Some xs) (Some ys) octets reads =
      fronts xs octets ys reads.taken reads.whole

  -- what holds of the text for the octets that were read holds of the text for the input
  pub text_holds : (left rest : Option (List ℕ)) (octets text : List ℕ) (status : Status) (Q : List ℕ → Type 0)
      → ReadsWhole limit left rest octets
      → (output : List (List ℕ)) × Text octets output status × (text ≡ text_of output) → Q text
      → IfSome left (λ input. (output : List (List ℕ)) × Text input output status × Q (text_of output))
  text_holds left rest octets text status Q reads (output, holds, text-is) written =
      if_some _ _ left (λ input same. (output, same output status holds, rw text-is at written))
      (same_text left rest octets reads)

  -- a text that was written for the octets that were read is written for the input
  pub writes_holds : (left rest : Option (List ℕ)) (octets : List ℕ) (old new : Option (List ℕ)) (status : Status)
      → ReadsWhole limit left rest octets
      → (output : List (List ℕ)) × Text octets output status × Appends old new (text_of output)
      → Writes Text left old new status
  writes_holds left rest octets old new status reads (output, holds, written) =
      if_some _ _ left (λ input same. (output, same output status holds, written)) (same_text left rest octets reads)

  -- ---- as far as a text has got

  module _ (SoFar : List ℕ → List (List ℕ) → Type 0) where
    -- a front of the input, within its size or not
    begins_same : (input octets rest : List ℕ) → input ≡ octets ++ rest → (length octets ≤ limit → rest ≡ [])
        → ((output : List (List ℕ)) (status : Status) → Text octets output status → Text input output status)
        → (lines : List (List ℕ)) → Begins limit SoFar Text octets lines → Begins limit SoFar Text input lines
    begins_same input octets rest split whole same lines (inl none) = inl none
    begins_same input octets rest split whole same lines (inr (inl (within, so_far))) =
        let all : input ≡ octets =
        split ∙ ap (λ more. octets ++ more) (whole within) ∙ append-nil octets in
        inr (inl (subst (λ xs. (length xs ≤ limit) × SoFar xs lines) (sym all) (within, so_far)))
    begins_same input octets rest split whole same lines (inr (inr (status, text))) =
        inr (inr (status, same lines status text))

    same_begins : (left rest : Option (List ℕ)) (octets : List ℕ) → ReadsWhole limit left rest octets
        → IfSome left (λ input. (lines : List (List ℕ)) → Begins limit SoFar Text octets lines
        → Begins limit SoFar Text input lines)
    same_begins None rest octets reads = tt
    same_begins (Some xs) None octets reads = absurd reads.taken
    same_begins (Some xs) (Some ys) octets reads =
        begins_same xs octets ys reads.taken reads.whole
        (fronts xs octets ys reads.taken reads.whole)

    -- what was written of a text for the octets that were read was written of one for the input
    pub some_holds : (left rest : Option (List ℕ)) (octets : List ℕ) (old new : Option (List ℕ))
        → ReadsWhole limit left rest octets
        → (lines : List (List ℕ)) × Begins limit SoFar Text octets lines × AppendsSome old new (text_of lines)
        → WritesSome (Begins limit SoFar Text) left old new
    some_holds left rest octets old new reads (lines, begins, written) =
        if_some _ _ left (λ input same. (lines, same lines begins, written)) (same_begins left rest octets reads)

    -- nothing was written
    pub none_holds : (left known : Option (List ℕ)) → WritesSome (Begins limit SoFar Text) left known known
    none_holds None known = tt
    none_holds (Some input) known = ([], inl refl, none_of known [])
