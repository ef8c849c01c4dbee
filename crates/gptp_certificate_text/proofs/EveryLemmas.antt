-- Each text is that of a certificate that can be read, or fails.
use Rattle.std.proofs.Common.{◌≡◌, ◌≢◌, ◌⊎◌, ◌+◌, ◌<◌, ℕ, zero, suc, Bool, true, false, List, [], ◌∷◌, ◌++◌, length, map, codes, append_assoc, refl, sym, ap, ap₂, subst, ◌∙◌, inl, inr, arith}
use Rattle.std.specs.List.{AllByRecursion}
use Rattle.std.proofs.lemmas.List.{length-append}
use native.Mathlib.Decide.{ℕ_discrete, dec_lt}
use Rattle.gptp_graph.specs.Labelling.{PortLine, SystemLine}
use Rattle.gptp_graph.proofs.DecisionLemmas.{dec_both}
use Rattle.gptp_certificate_text.specs.declared.fault.CertificateFault.{CertificateFault}
use Rattle.gptp_certificate_text.specs.declared.fault.CertificateFault.TheVariants.{Head, Line, Order, Spelling, OutOfMemory}
use Rattle.gptp_certificate_text.specs.Certificate.{IsCertificate, IsVersion}
use Rattle.gptp_certificate_text.specs.CertificateText.{certificate_text, end_text, entry_text, front_text, head_text, spelled_line}
use Rattle.gptp_certificate_text.specs.Entries.{LineKey, SystemEntry, PortEntry, FollowEach, CanFollow, IsReadable, IsReadableEntry, StandInOrder, entry_clock, ends_far, entries_of, is_far, entry_number}
use Rattle.gptp_certificate_text.specs.Forms.{FitsHere, HasForm}
use Rattle.gptp_certificate_text.specs.Lines.{RefusesLine}
use Rattle.gptp_certificate_text.specs.Parsing.{FailsToParse, FailsBehind, FailsFrom, RestFails, StandBefore}
use Rattle.gptp_certificate_text.specs.Words.{Lacks}
use Rattle.gptp_certificate_text.proofs.DecisionLemmas.{BeginsWith, HasCut, HasEntry, after_dec, cut_exists, entry_dec, form_dec, octets_dec}
use Rattle.gptp_certificate_text.proofs.LineLemmas.{entry_words, one_form}
use Rattle.gptp_certificate_text.proofs.OrderLemmas.{is_certificate}
use Rattle.gptp_certificate_text.proofs.ReadingLemmas.{first_head, no_head, parsed, rest_fails, second_head, unfed}
use Rattle.gptp_certificate_text.proofs.TextLemmas.{entries_text, entries_text-append}

-- ---- order

near_dec : (far : Bool) → Dec (far ≡ false)
near_dec true = no (λ same. absurd cc)
near_dec false = yes refl

follows_dec : (before entry : LineKey) → Dec (CanFollow before entry)
follows_dec before (SystemEntry clock root steps far parent) = dec_lt (entry_clock before) clock
follows_dec before (PortEntry clock port) = by (ℕ_discrete (entry_clock before) clock)
    (dec_lt (entry_number before) port.number) (near_dec (is_far before))
  where
    by : Dec (entry_clock before ≡ clock) → Dec (entry_number before < port.number) → Dec (is_far before ≡ false)
        → Dec (CanFollow before (PortEntry clock port))
    by (yes same) (yes above) (yes near) = yes (same, above, near)
    by (yes same) (yes above) (no far) = no (λ h. far h.2)
    by (yes same) (no below) near = no (λ h. below h.1)
    by (no other) above near = no (λ h. other h.0)

follow_each_dec : (before : LineKey) (entries : List LineKey) → Dec (FollowEach before entries)
follow_each_dec before [] = yes tt
follow_each_dec before (entry ∷ rest) = dec_both (follows_dec before entry) (follow_each_dec entry rest)

order_dec : (entries : List LineKey) → Dec (StandInOrder entries)
order_dec [] = yes tt
order_dec (SystemEntry clock root steps far parent ∷ rest) =
    follow_each_dec (SystemEntry clock root steps far parent) rest
order_dec (PortEntry clock port ∷ rest) = no (λ stand. stand)

-- ---- the lines of systems

-- entries in order are the ports of a system, and the lines of others
record AreGrouped (clock : ℕ) (entries : List LineKey) : Type 0 where
  ports : List PortLine
  more : List SystemLine
  are : map (PortEntry clock) ports ++ entries_of more ≡ entries

grouped : (clock : ℕ) (first : LineKey) (entries : List LineKey) → entry_clock first ≡ clock → FollowEach first entries
    → AreGrouped clock entries
grouped clock first [] is each = record { ports = []; more = []; are = refl }
grouped clock first (PortEntry name port ∷ rest) is each =
    let same : name ≡ clock = sym each.0.0 ∙ is in
    let behind = grouped clock (PortEntry name port) rest same each.1 in
    record {
      ports = port ∷ behind.ports;
      more = behind.more;
      are = ap₂ (λ (v : ℕ) (es : List LineKey). PortEntry v port ∷ es) (sym same) behind.are;
    }
grouped clock first (SystemEntry name root steps far parent ∷ rest) is each =
    let behind = grouped name (SystemEntry name root steps far parent) rest refl each.1 in
    let line : SystemLine = record {
      clock = name;
      root = root;
      steps = steps;
      far = far;
      parent = parent;
      ports = behind.ports;
    } in
    record {
      ports = [];
      more = line ∷ behind.more;
      are = ap (λ (es : List LineKey). SystemEntry name root steps far parent ∷ es) behind.are;
    }

lines_exist : (entries : List LineKey) → StandInOrder entries → (lines : List SystemLine) × (entries_of lines ≡ entries)
lines_exist [] stand = ([], refl)
lines_exist (SystemEntry name root steps far parent ∷ rest) stand =
    let behind = grouped name (SystemEntry name root steps far parent) rest refl stand in
    let line : SystemLine = record {
      clock = name;
      root = root;
      steps = steps;
      far = far;
      parent = parent;
      ports = behind.ports;
    } in
    (line ∷ behind.more, ap (λ (es : List LineKey). SystemEntry name root steps far parent ∷ es) behind.are)
lines_exist (PortEntry name port ∷ rest) stand = absurd stand

-- ---- line by line

readable_more : (version : ℕ) (before : List LineKey) (entry : LineKey)
    → AllByRecursion (IsReadableEntry version) before
    → IsReadableEntry version entry → AllByRecursion (IsReadableEntry version) (before ++ entry ∷ [])
readable_more version [] entry all one = (one, tt)
readable_more version (first ∷ before) entry all one = (all.0, readable_more version before entry all.1 one)

grown : (head entries line more : List ℕ)
    → (head ++ (entries ++ ((line ++ 10 ∷ []) ++ []))) ++ more ≡ (head ++ entries) ++ (line ++ 10 ∷ more)
grown head entries line more = simp append_assoc refl

front_more : (version : ℕ) (before : List LineKey) (entry : LineKey) (more : List ℕ)
    → front_text version (before ++ entry ∷ []) ++ more
    ≡ front_text version before ++ (entry_text entry ++ 10 ∷ more)
front_more version before entry more =
    ap (λ (t : List ℕ). ((head_text version ++ 10 ∷ []) ++ t) ++ more) (entries_text-append before (entry ∷ []))
    ∙ grown (head_text version ++ 10 ∷ []) (entries_text before) (entry_text entry) more

-- the text is that of a certificate that can be read
abbrev pub IsCertificates : List ℕ → Type 0
IsCertificates text =
    (version : ℕ) × (lines : List SystemLine) × (text ≡ certificate_text version lines) × IsReadable version lines
    × IsCertificate version lines

abbrev pub IsFaulty : List ℕ → Type 0
IsFaulty text = (fault : CertificateFault) × FailsToParse text fault

-- a fault that isn't want of memory
not_memory : (version : ℕ) (before : List LineKey) (rest : List ℕ) (fault : CertificateFault)
    → (fault ≡ OutOfMemory → ⊥) → (fault ≡ OutOfMemory) ⊎ RestFails version before rest fault
    → RestFails version before rest fault
not_memory version before rest fault other (inl memory) = absurd (other memory)
not_memory version before rest fault other (inr fails) = fails

module _ (text : List ℕ) (version : ℕ) (is_version : IsVersion version) where
  faulty : (before : List LineKey) (rest : List ℕ) (fault : CertificateFault) → StandBefore version before rest text
      → RestFails version before rest fault → IsCertificates text ⊎ IsFaulty text
  faulty before rest fault stand fails = inr (
    fault,
    inr (record {
      version = version;
      before = before;
      rest = rest;
      is_version = is_version;
      stand = stand;
      fails = fails;
    }),
  )

  ended : (before : List LineKey) (rest : List ℕ) → StandBefore version before rest text → rest ≡ end_text
      → IsCertificates text
  ended before rest stand end =
      let (lines, are) = lines_exist before stand.order in
      let stands : StandBefore version (entries_of lines) rest text =
      subst (λ (es : List LineKey). StandBefore version es rest text) (sym are) stand in
      let (whole, readable) = parsed text rest version version lines lines refl refl stands end in
      (version, lines, whole, readable, is_certificate version lines is_version readable stands.order)

  module _ (before : List LineKey) (rest : List ℕ) (stand : StandBefore version before rest text)
      (goes_on : rest ≢ end_text)
      (later : (entry : LineKey) (more : List ℕ) → StandBefore version (before ++ entry ∷ []) more text
      → length more < length rest → IsCertificates text ⊎ IsFaulty text)
      (line more : List ℕ) (lacks : Lacks 10 line) (first : rest ≡ line ++ 10 ∷ more) where
    refused : (fault : CertificateFault) → (fault ≡ OutOfMemory → ⊥) → RefusesLine version before line fault
        → IsCertificates text ⊎ IsFaulty text
    refused fault other refuses =
        faulty before rest fault stand (not_memory version before rest fault other
        (rest_fails version before rest line more fault goes_on first lacks refuses))

    by_order : (entry : LineKey) → HasForm version (ends_far before) line → IsReadableEntry version entry
        → line ≡ entry_text entry → Dec (StandInOrder (before ++ entry ∷ [])) → IsCertificates text ⊎ IsFaulty text
    by_order entry has readable is (no out) =
        refused Order (λ same. absurd cc) (inr (inr (
          refl,
          record {
            entry = entry;
            readable = readable;
            fits = subst (FitsHere version (ends_far before))
                (one_form has.form (spelled_line entry) has.words (entry_words version entry readable)
                (sym has.is ∙ is))
                has.fits;
            is = is;
            order = out;
          },
        )))
    by_order entry has readable is (yes order) =
        let long : length rest ≡ length line + suc (length more) =
        ap length first ∙ length-append line (10 ∷ more) in
        later entry more
        (record {
          readable = readable_more version before entry stand.readable readable;
          order = order;
          split = stand.split ∙ ap (λ (t : List ℕ). front_text version before ++ t)
              (first ∙ ap (λ (t : List ℕ). t ++ 10 ∷ more) is) ∙ sym (front_more version before entry more);
        }) (omega (arith, long))

    by_entry : HasForm version (ends_far before) line → Dec (HasEntry line version)
        → IsCertificates text ⊎ IsFaulty text
    by_entry has (no unread) =
        refused Spelling (λ same. absurd cc)
        (inr (inl (inr (refl, has, λ entry readable is. unread (entry, readable, is)))))
    by_entry has (yes (entry, readable, is)) =
        by_order entry has readable is (order_dec (before ++ entry ∷ []))

    by_form : Dec (HasForm version (ends_far before) line) → IsCertificates text ⊎ IsFaulty text
    by_form (no formless) = refused Line (λ same. absurd cc) (inr (inl (inl (refl, formless))))
    by_form (yes has) = by_entry has (entry_dec line version)

  by_cut : (before : List LineKey) (rest : List ℕ) → StandBefore version before rest text → rest ≢ end_text
      → ((entry : LineKey) (more : List ℕ) → StandBefore version (before ++ entry ∷ []) more text
      → length more < length rest → IsCertificates text ⊎ IsFaulty text)
      → HasCut 10 rest ⊎ Lacks 10 rest → IsCertificates text ⊎ IsFaulty text
  by_cut before rest stand goes_on later (inl (line, more, lacks, first)) =
      by_form before rest stand goes_on later line more lacks first (form_dec line version (ends_far before))
  by_cut before rest stand goes_on later (inr lacks) =
      faulty before rest Line stand (unfed version before rest goes_on lacks)

  by_end : (before : List LineKey) (rest : List ℕ) → StandBefore version before rest text → Dec (rest ≡ end_text)
      → ((entry : LineKey) (more : List ℕ) → StandBefore version (before ++ entry ∷ []) more text
      → length more < length rest → IsCertificates text ⊎ IsFaulty text)
      → IsCertificates text ⊎ IsFaulty text
  by_end before rest stand (yes end) later = inl (ended before rest stand end)
  by_end before rest stand (no goes_on) later = by_cut before rest stand goes_on later (cut_exists 10 rest)

  -- the rest has fewer octets than n
  from_rest : (n : ℕ) (before : List LineKey) (rest : List ℕ) → StandBefore version before rest text → length rest < n
      → IsCertificates text ⊎ IsFaulty text
  from_rest zero before rest stand below = absurd (omega (arith, below))
  from_rest (suc n) before rest stand below =
      by_end before rest stand (octets_dec rest end_text)
      (λ entry more stands shorter.
      from_rest n (before ++ entry ∷ []) more stands (omega (arith, below, shorter)))

  from_head : (rest : List ℕ) → text ≡ head_text version ++ 10 ∷ rest → IsCertificates text ⊎ IsFaulty text
  from_head rest is =
      from_rest (suc (length rest)) [] rest
      (record { readable = tt; order = tt; split = is ∙ sym (head_alone (head_text version) rest) }) (omega arith)
    where
      head_alone : (head behind : List ℕ) → ((head ++ 10 ∷ []) ++ []) ++ behind ≡ head ++ 10 ∷ behind
      head_alone head behind = simp append_assoc refl

module _ (text : List ℕ) where
  by_heads : Dec (BeginsWith (codes "gptp-certificate 1" ++ 10 ∷ []) text)
      → Dec (BeginsWith (codes "gptp-certificate 2" ++ 10 ∷ []) text) → IsCertificates text ⊎ IsFaulty text
  by_heads (yes (rest, is)) second = from_head text 1 (inl refl) rest (first_head text rest is)
  by_heads (no one) (yes (rest, is)) = from_head text 2 (inr refl) rest (second_head text rest is)
  by_heads (no one) (no two) =
      inr (Head, inl (refl, no_head text (λ rest is. one (rest, is)) (λ rest is. two (rest, is))))

  pub read_or_faulty : IsCertificates text ⊎ IsFaulty text
  read_or_faulty =
      by_heads (after_dec (codes "gptp-certificate 1" ++ 10 ∷ []) text)
      (after_dec (codes "gptp-certificate 2" ++ 10 ∷ []) text)

-- ---- the part of a text that fails

part_of : (text : List ℕ) (fault : CertificateFault) (failure : FailsBehind text fault)
    → Dec (BeginsWith end_text failure.rest) → (part : List ℕ) × FailsFrom text fault part
part_of text fault failure (yes (more, is)) = (more, inr (failure, inl is))
part_of text fault failure (no none) = (failure.rest, inr (failure, inr (λ more is. none (more, is), refl)))

pub part_exists : (text : List ℕ) (fault : CertificateFault) → FailsToParse text fault
    → (part : List ℕ) × FailsFrom text fault part
part_exists text fault (inl (is, lacks)) = (text, inl (is, lacks, refl))
part_exists text fault (inr failure) = part_of text fault failure (after_dec end_text failure.rest)
