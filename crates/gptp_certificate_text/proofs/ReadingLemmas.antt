-- Reading line by line: lines have no line feed in them, so the first line of a text is one.
use Rattle.std.proofs.Common.{◌≡◌, ◌≢◌, ◌+◌, ◌<◌, ℕ, List, [], ◌∷◌, ◌++◌, codes, inl, inr, refl, sym, ap, subst, ◌∙◌, append_assoc, arith}
use Rattle.std.specs.Prelude.{◌⊎◌, Bool, Option, Some, None, decimal, not, ◌==◌}
use Rattle.std.proofs.lemmas.Fmt.{decimal_digit}
use Rattle.std.proofs.lemmas.List.Folds.{list_all-append}
use Rattle.gptp_graph.specs.Labelling.{SystemLine}
use Rattle.gptp_graph.specs.SettledRole.{Role, Disabled, Master, Slave, Passive}
use Rattle.gptp_certificate_text.specs.declared.fault.CertificateFault.{CertificateFault}
use Rattle.gptp_certificate_text.specs.declared.fault.CertificateFault.TheVariants.{OutOfMemory}
use Rattle.gptp_certificate_text.specs.Certificate.{IsVersion}
use Rattle.gptp_certificate_text.specs.Words.{IsWord, Lacks}
use Rattle.gptp_certificate_text.specs.Forms.{Form, SystemForm, FarForm, PortForm, ParentWords, HasForm, HasParentWords, HasWords, form_text, parent_text, role_word}
use Rattle.gptp_certificate_text.specs.CertificateText.{certificate_text, end_text, entry_text, front_text, head_text, spelled_line}
use Rattle.gptp_certificate_text.specs.Entries.{LineKey, IsReadable, IsReadableEntry, ends_far, entries_of}
use Rattle.gptp_certificate_text.specs.Lines.{RefusesLine}
use Rattle.gptp_certificate_text.specs.Parsing.{FailsToParse, FailsFrom, HasNoForm, IsFailingPart, LacksHead, RestFails, StandBefore}
use Rattle.gptp_certificate_text.proofs.WordLemmas.{no_cut, one_cut, plain_lacks_feed}
use Rattle.gptp_certificate_text.proofs.FormLemmas.{far_parts, link_parts, port_parts, system_parts}
use Rattle.gptp_certificate_text.proofs.LineLemmas.{decimal_word, entry_words}

lacks_value : (word rest : List ℕ) → IsWord word → Lacks 10 rest → Lacks 10 (word ++ 32 ∷ rest)
lacks_value word rest is lacks =
    list_all-append (λ other. not (other == 10)) word (32 ∷ rest) ∙ rw (plain_lacks_feed word is.plain) lacks

role_lacks_feed : (role : Role) → Lacks 10 (role_word role)
role_lacks_feed Disabled = refl
role_lacks_feed Master = refl
role_lacks_feed Slave = refl
role_lacks_feed Passive = refl

parent_lacks_feed : (parent : Option ParentWords) → HasParentWords parent → Lacks 10 (parent_text parent)
parent_lacks_feed None h = refl
parent_lacks_feed (Some link) h = subst (Lacks 10) (sym (link_parts link))
    (lacks_value link.own_port (link.clock ++ 32 ∷ link.port) h.own_port
    (lacks_value link.clock link.port h.clock (plain_lacks_feed link.port h.port.plain)))

form_lacks_feed : (form : Form) → HasWords form → Lacks 10 (form_text form)
form_lacks_feed (SystemForm words) h = subst (Lacks 10) (sym (system_parts words))
    (lacks_value words.clock _ h.clock (lacks_value words.root _ h.root
    (lacks_value words.steps _ h.steps (parent_lacks_feed words.parent h.parent))))
form_lacks_feed (FarForm words) h = subst (Lacks 10) (sym (far_parts words))
    (lacks_value words.clock _ h.clock (lacks_value words.steps _ h.steps (plain_lacks_feed words.root h.root.plain)))
form_lacks_feed (PortForm words) h = subst (Lacks 10) (sym (port_parts words))
    (lacks_value words.clock _ h.clock (lacks_value words.number _ h.number (role_lacks_feed words.role)))

pub line_lacks_feed : (version : ℕ) (after_far : Bool) (line : List ℕ) → HasForm version after_far line
    → Lacks 10 line
line_lacks_feed version after_far line has = subst (Lacks 10) (sym has.is) (form_lacks_feed has.form has.words)

pub entry_lacks_feed : (version : ℕ) (entry : LineKey) → IsReadableEntry version entry → Lacks 10 (entry_text entry)
entry_lacks_feed version entry readable = form_lacks_feed (spelled_line entry) (entry_words version entry readable)

pub head_lacks_feed : (version : ℕ) → version < 10 → Lacks 10 (head_text version)
head_lacks_feed version small =
    list_all-append (λ other. not (other == 10)) (codes "gptp-certificate ") (decimal version)
    ∙ rw (plain_lacks_feed (decimal version) (decimal_word version (omega arith)).plain) refl

-- the head line by its octets
head_is : (version : ℕ) (rest : List ℕ) → version < 10
    → head_text version ++ 10 ∷ rest ≡ codes "gptp-certificate " ++ (48 + version) ∷ 10 ∷ rest
head_is version rest small =
    ap (λ (digits : List ℕ). codes "gptp-certificate " ++ (digits ++ 10 ∷ rest)) (decimal_digit version small)

pub first_head : (text rest : List ℕ) → text ≡ codes "gptp-certificate 1" ++ 10 ∷ rest → text ≡ head_text 1 ++ 10 ∷ rest
first_head text rest is = is ∙ sym (head_is 1 rest (omega arith))

pub second_head : (text rest : List ℕ) → text ≡ codes "gptp-certificate 2" ++ 10 ∷ rest
    → text ≡ head_text 2 ++ 10 ∷ rest
second_head text rest is = is ∙ sym (head_is 2 rest (omega arith))

-- a text that begins with neither has no head line
pub no_head : (text : List ℕ) → ((rest : List ℕ) → text ≢ codes "gptp-certificate 1" ++ 10 ∷ rest)
    → ((rest : List ℕ) → text ≢ codes "gptp-certificate 2" ++ 10 ∷ rest) → LacksHead text
no_head text one two version rest (inl e) is =
    one rest (is ∙ ap (λ v. head_text v ++ 10 ∷ rest) e ∙ head_is 1 rest (omega arith))
no_head text one two version rest (inr e) is =
    two rest (is ∙ ap (λ v. head_text v ++ 10 ∷ rest) e ∙ head_is 2 rest (omega arith))

-- a rest with no line feed has no line
pub unfed : (version : ℕ) (before : List LineKey) (rest : List ℕ) → rest ≢ end_text → Lacks 10 rest
    → HasNoForm version before rest
unfed version before rest goes_on lacks =
    record { goes_on = goes_on; formless = λ line more has e. no_cut 10 line more (subst (Lacks 10) e lacks) }

-- the lines before the end are a certificate's
pub parsed : (text rest : List ℕ) (version read_version : ℕ) (lines read : List SystemLine) → read_version ≡ version
    → read ≡ lines → StandBefore version (entries_of lines) rest text → rest ≡ end_text
    → (text ≡ certificate_text read_version read) × IsReadable read_version read
parsed text rest version read_version lines read same_version same_lines stand end =
    subst (λ ls. (text ≡ certificate_text read_version ls) × IsReadable read_version ls) (sym same_lines)
    (subst (λ v. (text ≡ certificate_text v lines) × IsReadable v lines) (sym same_version)
    (stand.split ∙ ap (λ r. front_text version (entries_of lines) ++ r) end, stand.readable))

-- the first line's fault is that of the rest
pub rest_fails : (version : ℕ) (before : List LineKey) (rest line more : List ℕ) (fault : CertificateFault)
    → rest ≢ end_text → rest ≡ line ++ 10 ∷ more → Lacks 10 line → RefusesLine version before line fault
    → (fault ≡ OutOfMemory) ⊎ RestFails version before rest fault
rest_fails version before rest line more fault goes_on first lacks (inl e) = inl e
rest_fails version before rest line more fault goes_on first lacks (inr (inl (inl (e, formless)))) =
    inr (subst (RestFails version before rest) (sym e) (record {
      goes_on = goes_on;
      formless = λ other rest_of has d.
          let same = one_cut 10 line other more rest_of lacks (line_lacks_feed version (ends_far before) other has)
          (sym first ∙ d) in
          formless (subst (HasForm version (ends_far before)) (sym same.0) has);
    }))
rest_fails version before rest line more fault goes_on first lacks (inr (inl (inr (e, has, unread)))) =
    inr (subst (RestFails version before rest) (sym e)
    (record { line = line; more = more; form = has; first = first; unread = unread }))
rest_fails version before rest line more fault goes_on first lacks (inr (inr (e, out))) =
    inr (subst (RestFails version before rest) (sym e) (record {
      entry = out.entry;
      more = more;
      readable = out.readable;
      fits = out.fits;
      first = first ∙ ap (λ l. l ++ 10 ∷ more) out.is;
      order = out.order;
    }))

-- the fault of the rest is the text's
pub fails_from : (version : ℕ) (before : List LineKey) (text rest part : List ℕ) (fault : CertificateFault)
    → IsVersion version → StandBefore version before rest text → IsFailingPart rest part
    → (fault ≡ OutOfMemory) ⊎ RestFails version before rest fault → (fault ≡ OutOfMemory) ⊎ FailsFrom text fault part
fails_from version before text rest part fault is_version stand failing (inl e) = inl e
fails_from version before text rest part fault is_version stand failing (inr fails) =
    inr (inr (
      record {
        version = version;
        before = before;
        rest = rest;
        is_version = is_version;
        stand = stand;
        fails = fails;
      },
      failing,
    ))

-- without the part
pub fails_somewhere : (text part : List ℕ) (fault : CertificateFault)
    → (fault ≡ OutOfMemory) ⊎ FailsFrom text fault part → (fault ≡ OutOfMemory) ⊎ FailsToParse text fault
fails_somewhere text part fault (inl e) = inl e
fails_somewhere text part fault (inr (inl (e, lacks, at))) = inr (inl (e, lacks))
fails_somewhere text part fault (inr (inr (failure, failing))) = inr (inr failure)

-- the text ends with that part
pub ends_with_part : (text part : List ℕ) (fault : CertificateFault) → FailsFrom text fault part
    → (front : List ℕ) × (text ≡ front ++ part)
ends_with_part text part fault (inl (e, lacks, at)) = ([], sym at)
ends_with_part text part fault (inr (failure, inl behind)) =
    let front = front_text failure.version failure.before in (
      front ++ end_text,
      failure.stand.split ∙ ap (λ r. front ++ r) behind ∙ sym (append_assoc front end_text part),
    )
ends_with_part text part fault (inr (failure, inr (other, at))) =
    let front = front_text failure.version failure.before in
    (front, failure.stand.split ∙ ap (λ r. front ++ r) (sym at))
