-- The laws of the text: it is read in one way.
use Rattle.std.proofs.Common.{◌≡◌, ◌≢◌, ℕ, ◌<◌, ◌≤◌, ◌^◌, List, [], ◌∷◌, ◌++◌, map, codes, inl, inr, refl, sym, ap, subst, ◌∙◌, append_assoc, append-nil, arith}
use Rattle.std.specs.Prelude.{◌⊎◌, Bool, true, false, Option, Some, None, decimal, get_or}
use Rattle.std.specs.List.{AllByRecursion}
use Rattle.std.specs.Option.{option_map}
use Rattle.std.proofs.lemmas.Fmt.{decimal_injective}
use Rattle.std.proofs.lemmas.List.{append_cancel_left}
use Rattle.hex.specs.Hex.{encode_lower, decode_sized}
use Rattle.byteorder.specs.Endian.{big_bytes, big_number}
use Rattle.gptp_graph.specs.Labelling.{PortLine, SystemLine, line_clocks}
use Rattle.gptp_lists.specs.Members.{In}
use Rattle.gptp_graph.specs.Order.{IsRising}
use Rattle.gptp_graph.specs.Parent.{ParentLink}
use Rattle.gptp_graph.specs.SettledRole.{Role}
use Rattle.gptp_certificate_text.specs.declared.fault.CertificateFault.{CertificateFault}
use Rattle.gptp_certificate_text.specs.declared.fault.CertificateFault.TheVariants.{Head, Line, Order, OutOfMemory, Spelling}
use Rattle.gptp_certificate_text.specs.Certificate.{IsCertificate, IsVersion}
use Rattle.gptp_certificate_text.specs.CertificateText.{certificate_text, end_text, entry_text, far_words, front_text, head_text, parent_words, port_words, spelled_line, system_words}
use Rattle.gptp_certificate_text.specs.Entries.{LineKey, SystemEntry, PortEntry, FollowEach, IsReadable, IsReadableEntry, IsReadableLink, IsReadableParent, StandInOrder, entry_clock, ends_far, entries_of, is_far, entry_number, system_entry}
use Rattle.gptp_certificate_text.specs.Forms.{Form, SystemForm, FarForm, PortForm, FitsHere, HasForm, ParentWords, PortWords, FarWords, SystemWords, form_text}
use Rattle.gptp_certificate_text.specs.Parsing.{FailsToParse, FailsBehind, FailsFrom, IsFailingPart, LacksHead, RestFails}
use Rattle.gptp_certificate_text.proofs.LineLemmas.{entry_words, one_form}
use Rattle.gptp_certificate_text.proofs.OrderLemmas.{all_behind}
use Rattle.gptp_certificate_text.proofs.ReadingLemmas.{entry_lacks_feed, head_lacks_feed, line_lacks_feed}
use Rattle.gptp_certificate_text.proofs.SpellingLemmas.{digits_read, number_read, same_ok}
use Rattle.gptp_certificate_text.proofs.TextLemmas.{entries_text}
use Rattle.gptp_certificate_text.proofs.WordLemmas.{one_cut}

-- digits are one number's
same_digits : (n x y : ℕ) → x < 256 ^ n → y < 256 ^ n → encode_lower (big_bytes n x) ≡ encode_lower (big_bytes n y)
    → x ≡ y
same_digits n x y f g e =
    let bytes = same_ok _ (big_bytes n x) (big_bytes n y) (digits_read n x)
    (ap (λ w. decode_sized w n) e ∙ digits_read n y) in
    sym (number_read n x f) ∙ ap (big_number n) bytes ∙ number_read n y g

same_number : (x y : ℕ) → x ≤ 65535 → y ≤ 65535 → decimal x ≡ decimal y → x ≡ y
same_number x y f g e = decimal_injective x y (omega arith) (omega arith) e

abbrev link_of : ℕ → ℕ → ℕ → ParentLink
link_of own clock port = record { own_port = own; clock = clock; port = port }

same_link : (a b : ParentLink) → IsReadableLink a → IsReadableLink b → parent_words a ≡ parent_words b → a ≡ b
same_link a b f g e =
    let own = same_number a.own_port b.own_port f.own_port.most g.own_port.most
    (ap (λ (w : ParentWords). w.own_port) e) in
    let clock = same_digits 8 a.clock b.clock f.clock g.clock (ap (λ (w : ParentWords). w.clock) e) in
    let port = same_number a.port b.port f.port.most g.port.most (ap (λ (w : ParentWords). w.port) e) in
    ap (λ (x : ℕ). link_of x a.clock a.port) own ∙ ap (λ (x : ℕ). link_of b.own_port x a.port) clock
    ∙ ap (λ (x : ℕ). link_of b.own_port b.clock x) port

some_words : (p q : ParentWords) → Some p ≡ Some q → p ≡ q
some_words p q e = cc

same_parent : (a b : Option ParentLink) → IsReadableParent a → IsReadableParent b
    → option_map parent_words a ≡ option_map parent_words b → a ≡ b
same_parent None None f g e = refl
same_parent None (Some b) f g e = absurd cc
same_parent (Some a) None f g e = absurd cc
same_parent (Some a) (Some b) f g e =
    ap (λ (l : ParentLink). Some l) (same_link a b f g (some_words (parent_words a) (parent_words b) e))

same_system_words : (a b : SystemWords) → SystemForm a ≡ SystemForm b → a ≡ b
same_system_words a b e = cc

same_port_words : (a b : PortWords) → PortForm a ≡ PortForm b → a ≡ b
same_port_words a b e = cc

abbrev port_of : ℕ → Role → PortLine
port_of number role = record { number = number; role = role }

same_far_words : (a b : FarWords) → FarForm a ≡ FarForm b → a ≡ b
same_far_words a b e = cc

same_spelled : (v w : ℕ) (a b : LineKey) → IsReadableEntry v a → IsReadableEntry w b
    → spelled_line a ≡ spelled_line b → a ≡ b
same_spelled v w (SystemEntry c r s true p) (SystemEntry c2 r2 s2 true p2) f g e =
    let words = same_far_words (far_words c r s) (far_words c2 r2 s2) e in
    let clock = same_digits 8 c c2 f.0 g.0 (ap (λ (w : FarWords). w.clock) words) in
    let root = same_digits 14 r r2 f.1 g.1 (ap (λ (w : FarWords). w.root) words) in
    let steps = same_number s s2 f.2 g.2 (ap (λ (w : FarWords). w.steps) words) in
    let parent = f.3.0 ∙ sym g.3.0 in
    ap (λ (x : ℕ). SystemEntry x r s true p) clock ∙ ap (λ (x : ℕ). SystemEntry c2 x s true p) root
    ∙ ap (λ (x : ℕ). SystemEntry c2 r2 x true p) steps
    ∙ ap (λ (x : Option ParentLink). SystemEntry c2 r2 s2 true x) parent
same_spelled v w (SystemEntry c r s true p) (SystemEntry c2 r2 s2 false p2) f g e = absurd cc
same_spelled v w (SystemEntry c r s true p) (PortEntry c2 q2) f g e = absurd cc
same_spelled v w (SystemEntry c r s false p) (SystemEntry c2 r2 s2 true p2) f g e = absurd cc
same_spelled v w (SystemEntry c r s false p) (SystemEntry c2 r2 s2 false p2) f g e =
    let words = same_system_words (system_words c r s p) (system_words c2 r2 s2 p2) e in
    let clock = same_digits 8 c c2 f.0 g.0 (ap (λ (w : SystemWords). w.clock) words) in
    let root = same_digits 14 r r2 f.1 g.1 (ap (λ (w : SystemWords). w.root) words) in
    let steps = same_number s s2 f.2 g.2 (ap (λ (w : SystemWords). w.steps) words) in
    let parent = same_parent p p2 f.3 g.3 (ap (λ (w : SystemWords). w.parent) words) in
    ap (λ (x : ℕ). SystemEntry x r s false p) clock ∙ ap (λ (x : ℕ). SystemEntry c2 x s false p) root
    ∙ ap (λ (x : ℕ). SystemEntry c2 r2 x false p) steps
    ∙ ap (λ (x : Option ParentLink). SystemEntry c2 r2 s2 false x) parent
same_spelled v w (SystemEntry c r s false p) (PortEntry c2 q2) f g e = absurd cc
same_spelled v w (PortEntry c q) (SystemEntry c2 r2 s2 true p2) f g e = absurd cc
same_spelled v w (PortEntry c q) (SystemEntry c2 r2 s2 false p2) f g e = absurd cc
same_spelled v w (PortEntry c q) (PortEntry c2 q2) f g e =
    let words = same_port_words (port_words c q) (port_words c2 q2) e in
    let clock = same_digits 8 c c2 f.0 g.0 (ap (λ (w : PortWords). w.clock) words) in
    let number = same_number q.number q2.number f.1.most g.1.most (ap (λ (w : PortWords). w.number) words) in
    let role = ap (λ (w : PortWords). w.role) words in
    ap (λ (x : ℕ). PortEntry x q) clock ∙ ap (λ (x : ℕ). PortEntry c2 (port_of x q.role)) number
    ∙ ap (λ (x : Role). PortEntry c2 (port_of q2.number x)) role

one_entry : (v w : ℕ) (a b : LineKey) → IsReadableEntry v a → IsReadableEntry w b → entry_text a ≡ entry_text b → a ≡ b
one_entry v w a b f g e =
    same_spelled v w a b f g (one_form (spelled_line a) (spelled_line b) (entry_words v a f) (entry_words w b g) e)

-- one line stands first
first_entry : (v w : ℕ) (a b : LineKey) (x y : List ℕ) → IsReadableEntry v a → IsReadableEntry w b
    → entry_text a ++ 10 ∷ x ≡ entry_text b ++ 10 ∷ y
    → (a ≡ b) × (x ≡ y)
first_entry v w a b x y f g e =
    let cut = one_cut 10 (entry_text a) (entry_text b) x y (entry_lacks_feed v a f) (entry_lacks_feed w b g) e in
    (one_entry v w a b f g cut.0, cut.1)

has_form : (v : ℕ) (after_far : Bool) (entry : LineKey) → IsReadableEntry v entry
    → FitsHere v after_far (spelled_line entry) → HasForm v after_far (entry_text entry)
has_form v after_far entry readable fits =
    record { form = spelled_line entry; words = entry_words v entry readable; fits = fits; is = refl }

same_line : (v : ℕ) (after_far : Bool) (line more : List ℕ) (entry : LineKey) (rest : List ℕ) → HasForm v after_far line
    → IsReadableEntry v entry → line ++ 10 ∷ more ≡ entry_text entry ++ 10 ∷ rest → line ≡ entry_text entry
same_line v after_far line more entry rest has readable e =
    (one_cut 10 line (entry_text entry) more rest (line_lacks_feed v after_far line has)
    (entry_lacks_feed v entry readable) e).0

-- a port line in order doesn't stand right after a far system's line
port_after : (first : LineKey) (before : List LineKey) (clock : ℕ) (port : PortLine)
    → FollowEach first (before ++ PortEntry clock port ∷ []) → ends_far (first ∷ before) ≡ false
port_after first [] clock port each = each.0.2
port_after first (next ∷ before) clock port each = port_after next before clock port each.1

-- what stands in order has a form that can stand there
stands_fit : (v : ℕ) (before : List LineKey) (entry : LineKey) → IsReadableEntry v entry
    → StandInOrder (before ++ entry ∷ []) → FitsHere v (ends_far before) (spelled_line entry)
stands_fit v before (SystemEntry c r s true p) readable stand = readable.3.1
stands_fit v before (SystemEntry c r s false p) readable stand = tt
stands_fit v [] (PortEntry c p) readable stand = absurd stand
stands_fit v (SystemEntry c r s far q ∷ before) (PortEntry d p) readable stand =
    port_after (SystemEntry c r s far q) before d p stand
stands_fit v (PortEntry c q ∷ before) (PortEntry d p) readable stand = absurd stand

-- an entry's line that can stand there is no fault
no_fault : (v : ℕ) (before : List LineKey) (entry : LineKey) (more : List ℕ) (fault : CertificateFault)
    → IsReadableEntry v entry → StandInOrder (before ++ entry ∷ [])
    → RestFails v before (entry_text entry ++ 10 ∷ more) fault → ⊥
no_fault v before entry more Head readable stand fails = fails
no_fault v before entry more Line readable stand fails =
    let fits = stands_fit v before entry readable stand in
    fails.formless (entry_text entry) more (has_form v (ends_far before) entry readable fits) refl
no_fault v before entry more Order readable stand fails =
    let same = first_entry v v entry fails.entry more fails.more readable fails.readable fails.first in
    fails.order (subst (λ e. StandInOrder (before ++ e ∷ [])) same.0 stand)
no_fault v before entry more Spelling readable stand fails =
    fails.unread entry readable
    (same_line v (ends_far before) fails.line fails.more entry more fails.form readable (sym fails.first))
no_fault v before entry more OutOfMemory readable stand fails = fails

form_not_end : (form : Form) (more : List ℕ) → end_text ≡ form_text form ++ 10 ∷ more → ⊥
form_not_end (SystemForm words) more e =
    let same : ◌≡◌ {A = ℕ} 101 115 = ap (λ (text : List ℕ). get_or text 0 0) e in
    absurd (omega (arith, same))
form_not_end (FarForm words) more e =
    let same : ◌≡◌ {A = ℕ} 101 115 = ap (λ (text : List ℕ). get_or text 0 0) e in
    absurd (omega (arith, same))
form_not_end (PortForm words) more e =
    let same : ◌≡◌ {A = ℕ} 101 112 = ap (λ (text : List ℕ). get_or text 0 0) e in
    absurd (omega (arith, same))

-- nor is the end
no_end : (v : ℕ) (before : List LineKey) (fault : CertificateFault) → RestFails v before end_text fault → ⊥
no_end v before Head fails = fails
no_end v before Line fails = fails.goes_on refl
no_end v before Order fails = form_not_end (spelled_line fails.entry) fails.more fails.first
no_end v before Spelling fails =
    form_not_end fails.form.form fails.more (fails.first ∙ ap (λ l. l ++ 10 ∷ fails.more) fails.form.is)
no_end v before OutOfMemory fails = fails

same_fault : (v : ℕ) (before : List LineKey) (rest : List ℕ) (f g : CertificateFault) → RestFails v before rest f
    → RestFails v before rest g → f ≡ g
same_fault v before rest Head g a b = absurd a
same_fault v before rest OutOfMemory g a b = absurd a
same_fault v before rest Line Head a b = absurd b
same_fault v before rest Line Line a b = refl
same_fault v before rest Line Order a b =
    absurd (a.formless (entry_text b.entry) b.more (has_form v (ends_far before) b.entry b.readable b.fits) b.first)
same_fault v before rest Line Spelling a b = absurd (a.formless b.line b.more b.form b.first)
same_fault v before rest Line OutOfMemory a b = absurd b
same_fault v before rest Order Head a b = absurd b
same_fault v before rest Order Line a b =
    absurd (b.formless (entry_text a.entry) a.more (has_form v (ends_far before) a.entry a.readable a.fits) a.first)
same_fault v before rest Order Order a b = refl
same_fault v before rest Order Spelling a b =
    absurd (b.unread a.entry a.readable
    (same_line v (ends_far before) b.line b.more a.entry a.more b.form a.readable (sym b.first ∙ a.first)))
same_fault v before rest Order OutOfMemory a b = absurd b
same_fault v before rest Spelling Head a b = absurd b
same_fault v before rest Spelling Line a b = absurd (b.formless a.line a.more a.form a.first)
same_fault v before rest Spelling Order a b =
    absurd (a.unread b.entry b.readable
    (same_line v (ends_far before) a.line a.more b.entry b.more a.form b.readable (sym a.first ∙ b.first)))
same_fault v before rest Spelling Spelling a b = refl
same_fault v before rest Spelling OutOfMemory a b = absurd b

-- of two fronts of a text one goes on with the other's lines
abbrev GoesOn : List LineKey → List LineKey → List ℕ → List ℕ → Type 0
GoesOn xs ys x y = (zs : List LineKey) × (ys ≡ xs ++ zs) × (x ≡ entries_text zs ++ y)

first_of : (a : LineKey) (xs : List LineKey) (x : List ℕ)
    → entries_text (a ∷ xs) ++ x ≡ entry_text a ++ 10 ∷ (entries_text xs ++ x)
first_of a xs x = simp append_assoc refl

more_of : (a b : LineKey) (xs ys : List LineKey) (x y : List ℕ) → a ≡ b → GoesOn xs ys x y
    → GoesOn (a ∷ xs) (b ∷ ys) x y
more_of a b xs ys x y same goes = (goes.0, ap (λ e. e ∷ ys) (sym same) ∙ ap (λ es. a ∷ es) goes.1, goes.2)

either_more : (a b : LineKey) (xs ys : List LineKey) (x y : List ℕ) → a ≡ b → GoesOn xs ys x y ⊎ GoesOn ys xs y x
    → GoesOn (a ∷ xs) (b ∷ ys) x y ⊎ GoesOn (b ∷ ys) (a ∷ xs) y x
either_more a b xs ys x y same (inl goes) = inl (more_of a b xs ys x y same goes)
either_more a b xs ys x y same (inr goes) = inr (more_of b a ys xs y x (sym same) goes)

fronts : (v w : ℕ) (xs ys : List LineKey) (x y : List ℕ) → AllByRecursion (IsReadableEntry v) xs
    → AllByRecursion (IsReadableEntry w) ys → entries_text xs ++ x ≡ entries_text ys ++ y
    → GoesOn xs ys x y ⊎ GoesOn ys xs y x
fronts v w [] ys x y f g e = inl (ys, refl, e)
fronts v w (a ∷ xs) [] x y f g e = inr (a ∷ xs, refl, sym e)
fronts v w (a ∷ xs) (b ∷ ys) x y f g e =
    let cut = first_entry v w a b (entries_text xs ++ x) (entries_text ys ++ y) f.0 g.0
    (sym (first_of a xs x) ∙ e ∙ first_of b ys y) in
    either_more a b xs ys x y cut.0 (fronts v w xs ys x y f.1 g.1 cut.1)

all_at : (v : ℕ) (xs : List LineKey) (entry : LineKey) (zs : List LineKey)
    → AllByRecursion (IsReadableEntry v) (xs ++ entry ∷ zs) → IsReadableEntry v entry
all_at v [] entry zs all = all.0
all_at v (x ∷ xs) entry zs all = all_at v xs entry zs all.1

each_front : (first : LineKey) (xs : List LineKey) (entry : LineKey) (zs : List LineKey)
    → FollowEach first (xs ++ entry ∷ zs)
    → FollowEach first (xs ++ entry ∷ [])
each_front first [] entry zs each = (each.0, tt)
each_front first (x ∷ xs) entry zs each = (each.0, each_front x xs entry zs each.1)

stand_front : (xs : List LineKey) (entry : LineKey) (zs : List LineKey) → StandInOrder (xs ++ entry ∷ zs)
    → StandInOrder (xs ++ entry ∷ [])
stand_front [] (SystemEntry c r s far p) zs stand = tt
stand_front [] (PortEntry c p) zs stand = absurd stand
stand_front (SystemEntry c r s far p ∷ xs) entry zs stand = each_front (SystemEntry c r s far p) xs entry zs stand
stand_front (PortEntry c p ∷ xs) entry zs stand = absurd stand

-- where lines in order go on, there is no fault
at_fault : (v : ℕ) (xs ys zs : List LineKey) (x y : List ℕ) (fault : CertificateFault)
    → AllByRecursion (IsReadableEntry v) ys → StandInOrder ys
    → ys ≡ xs ++ zs → x ≡ entries_text zs ++ y → RestFails v xs x fault → (xs ≡ ys) × (x ≡ y)
at_fault v xs ys [] x y fault readable stand goes rest fails = (sym (goes ∙ append-nil xs), rest)
at_fault v xs ys (entry ∷ zs) x y fault readable stand goes rest fails =
    absurd (no_fault v xs entry (entries_text zs ++ y) fault
    (all_at v xs entry zs (subst (AllByRecursion (IsReadableEntry v)) goes readable))
    (stand_front xs entry zs (subst StandInOrder goes stand))
    (subst (λ r. RestFails v xs r fault) (rest ∙ first_of entry zs y) fails))

not_end : (zs : List LineKey) (y : List ℕ) (P : Type 0) → end_text ≡ entries_text zs ++ y → (end_text ≡ y → P) → P
not_end [] y P e f = f e
not_end (entry ∷ zs) y P e f = absurd (form_not_end (spelled_line entry) (entries_text zs ++ y)
    (e ∙ first_of entry zs y))

-- the head line stands first
head_first : (v : ℕ) (xs : List LineKey) (x : List ℕ)
    → front_text v xs ++ x ≡ head_text v ++ 10 ∷ (entries_text xs ++ x)
head_first v xs x = simp append_assoc refl

small_version : (v : ℕ) → IsVersion v → v < 10
small_version v (inl e) = omega arith
small_version v (inr e) = omega arith

-- a head line is one version's, with what comes after it
behind_head : (v w : ℕ) (xs ys : List LineKey) (x y : List ℕ) → IsVersion v → IsVersion w
    → front_text v xs ++ x ≡ front_text w ys ++ y → (v ≡ w) × (entries_text xs ++ x ≡ entries_text ys ++ y)
behind_head v w xs ys x y is_v is_w e =
    let small_v = small_version v is_v in
    let small_w = small_version w is_w in
    let cut = one_cut 10 (head_text v) (head_text w) (entries_text xs ++ x) (entries_text ys ++ y)
    (head_lacks_feed v small_v) (head_lacks_feed w small_w) (sym (head_first v xs x) ∙ e ∙ head_first w ys y) in
    let digits : decimal v ≡ decimal w =
    append_cancel_left (codes "gptp-certificate ") (decimal v) (decimal w) cut.0 in
    (decimal_injective v w (omega arith) (omega arith) digits, cut.1)

-- a text is of one version
pub one_version : (v w : ℕ) (xs ys : List SystemLine) → IsVersion v → IsVersion w
    → certificate_text v xs ≡ certificate_text w ys → v ≡ w
one_version v w xs ys is_v is_w e =
    (behind_head v w (entries_of xs) (entries_of ys) end_text end_text is_v is_w e).0

near_if_ports : (far : Bool) (port : PortLine) (ports : List PortLine) → (far ≡ true → port ∷ ports ≡ [])
    → far ≡ false
near_if_ports false port ports bare = refl
near_if_ports true port ports bare = absurd (let none = bare refl in cc)

ports_follow : (first : LineKey) (clock : ℕ) (ports : List PortLine) (more : List LineKey) → entry_clock first ≡ clock
    → (is_far first ≡ true → ports ≡ [])
    → ((number : ℕ) → In number (map (λ (p : PortLine). p.number) ports) → entry_number first < number)
    → IsRising (map (λ (p : PortLine). p.number) ports)
    → ((last : LineKey) → entry_clock last ≡ clock → FollowEach last more)
    → FollowEach first (map (PortEntry clock) ports ++ more)
ports_follow first clock [] more is bare above rising behind = behind first is
ports_follow first clock (port ∷ ports) more is bare above rising behind = (
  (is, above port.number (inl refl), near_if_ports (is_far first) port ports bare),
  ports_follow (PortEntry clock port) clock ports more refl (λ far. absurd cc) rising.0 rising.1
      behind,
)

ports_positive : (version clock : ℕ) (ports : List PortLine) (more : List LineKey)
    → AllByRecursion (IsReadableEntry version) (map (PortEntry clock) ports ++ more)
    → (number : ℕ) → In number (map (λ (p : PortLine). p.number) ports) → 0 < number
ports_positive version clock [] more all number i = absurd i
ports_positive version clock (port ∷ ports) more all number (inl e) = let least = all.0.1.least in omega arith
ports_positive version clock (port ∷ ports) more all number (inr i) =
    ports_positive version clock ports more all.1 number i

rest_in_order : (v : ℕ) (line : SystemLine) (lines : List SystemLine) → IsCertificate v (line ∷ lines)
    → IsCertificate v lines
rest_in_order v line lines is = record {
  is_version = is.is_version;
  order = record { clocks = is.order.clocks.1; ports = λ l i. is.order.ports l (inr i) };
  bare = λ l i. is.bare l (inr i);
  second = λ l i. is.second l (inr i);
}

lines_follow : (v : ℕ) (lines : List SystemLine) (first : LineKey)
    → ((clock : ℕ) → In clock (line_clocks lines) → entry_clock first < clock)
    → IsCertificate v lines → IsReadable v lines → FollowEach first (entries_of lines)
lines_follow v [] first above order readable = tt
lines_follow v (line ∷ lines) first above order readable = (
  above line.clock (inl refl),
  ports_follow (system_entry line) line.clock line.ports (entries_of lines) refl
      (λ far. (order.bare line (inl refl) far).ports)
      (ports_positive v line.clock line.ports (entries_of lines) readable.1) (order.order.ports line (inl refl))
      (λ last is. lines_follow v lines last
      (λ clock i. subst (λ c. c < clock) (sym is) (order.order.clocks.0 clock i)) (rest_in_order v line lines order)
      (all_behind v (map (PortEntry line.clock) line.ports) (entries_of lines) readable.1)),
)

-- the lines of a certificate that can be read stand in order
lines_stand : (v : ℕ) (lines : List SystemLine) → IsCertificate v lines → IsReadable v lines
    → StandInOrder (entries_of lines)
lines_stand v [] order readable = tt
lines_stand v (line ∷ lines) order readable =
    ports_follow (system_entry line) line.clock line.ports (entries_of lines) refl
    (λ far. (order.bare line (inl refl) far).ports)
    (ports_positive v line.clock line.ports (entries_of lines) readable.1) (order.order.ports line (inl refl))
    (λ last is. lines_follow v lines last
    (λ clock i. subst (λ c. c < clock) (sym is) (order.order.clocks.0 clock i)) (rest_in_order v line lines order)
    (all_behind v (map (PortEntry line.clock) line.ports) (entries_of lines) readable.1))

no_certificate_of : (text : List ℕ) (fault : CertificateFault) (b : FailsBehind text fault) (ys : List LineKey)
    → StandInOrder ys → AllByRecursion (IsReadableEntry b.version) ys
    → GoesOn b.before ys b.rest end_text ⊎ GoesOn ys b.before end_text b.rest → ⊥
no_certificate_of text fault b ys stand readable (inl goes) =
    let same = at_fault b.version b.before ys goes.0 b.rest end_text fault readable stand goes.1 goes.2 b.fails in
    no_end b.version b.before fault (subst (λ r. RestFails b.version b.before r fault) same.1 b.fails)
no_certificate_of text fault b ys stand readable (inr goes) =
    not_end goes.0 b.rest ⊥ goes.2
    (λ e. no_end b.version b.before fault (subst (λ r. RestFails b.version b.before r fault) (sym e) b.fails))

pub no_certificate : (text : List ℕ) (fault : CertificateFault) (version : ℕ) (lines : List SystemLine)
    → FailsToParse text fault → IsCertificate version lines → IsReadable version lines
    → text ≢ certificate_text version lines
no_certificate text fault version lines (inl (e, lacks)) order readable is =
    lacks version (entries_text (entries_of lines) ++ end_text) order.is_version
    (is ∙ head_first version (entries_of lines) end_text)
no_certificate text fault version lines (inr b) order readable is =
    let behind = behind_head b.version version b.before (entries_of lines) b.rest end_text b.is_version
    order.is_version (sym b.stand.split ∙ is) in
    let readable_there : IsReadable b.version lines = subst (λ v. IsReadable v lines) (sym behind.0) readable in
    no_certificate_of text fault b (entries_of lines) (lines_stand version lines order readable) readable_there
    (fronts b.version version b.before (entries_of lines) b.rest end_text b.stand.readable readable behind.1)

-- two faults after lines of one version, of which the ones go on with the others
one_fault_of : (v : ℕ) (f g : CertificateFault) (xs ys : List LineKey) (x y : List ℕ)
    → AllByRecursion (IsReadableEntry v) ys → StandInOrder ys → RestFails v xs x f → RestFails v ys y g
    → GoesOn xs ys x y → f ≡ g
one_fault_of v f g xs ys x y readable order first second goes =
    let same = at_fault v xs ys goes.0 x y f readable order goes.1 goes.2 first in
    same_fault v ys y f g
    (subst (λ r. RestFails v ys r f) same.1 (subst (λ es. RestFails v es x f) same.0 first)) second

one_fault_behind : (text : List ℕ) (f g : CertificateFault) (a : FailsBehind text f) (b : FailsBehind text g)
    → a.version ≡ b.version → GoesOn a.before b.before a.rest b.rest ⊎ GoesOn b.before a.before b.rest a.rest → f ≡ g
one_fault_behind text f g a b same (inl goes) =
    one_fault_of b.version f g a.before b.before a.rest b.rest b.stand.readable b.stand.order
    (subst (λ v. RestFails v a.before a.rest f) same a.fails) b.fails goes
one_fault_behind text f g a b same (inr goes) =
    sym (one_fault_of a.version g f b.before a.before b.rest a.rest a.stand.readable a.stand.order
    (subst (λ v. RestFails v b.before b.rest g) (sym same) b.fails) a.fails goes)

-- a text that fails after a head line has that of its version
has_head : (text : List ℕ) (f : CertificateFault) → FailsBehind text f → LacksHead text → ⊥
has_head text f b lacks =
    lacks b.version (entries_text b.before ++ b.rest) b.is_version
    (b.stand.split ∙ head_first b.version b.before b.rest)

-- of two failures of a text one goes on with the other's lines
abbrev GoOn : (text : List ℕ) (f g : CertificateFault) → FailsBehind text f → FailsBehind text g → Type 0
GoOn text f g a b = GoesOn a.before b.before a.rest b.rest ⊎ GoesOn b.before a.before b.rest a.rest

both_behind : (text : List ℕ) (f g : CertificateFault) (a : FailsBehind text f) (b : FailsBehind text g)
    → (a.version ≡ b.version) × GoOn text f g a b
both_behind text f g a b =
    let behind = behind_head a.version b.version a.before b.before a.rest b.rest a.is_version b.is_version
    (sym a.stand.split ∙ b.stand.split) in (
      behind.0,
      fronts a.version b.version a.before b.before a.rest b.rest a.stand.readable b.stand.readable behind.1,
    )

pub one_fault : (text : List ℕ) (f g : CertificateFault) → FailsToParse text f → FailsToParse text g → f ≡ g
one_fault text f g (inl (d, lacks)) (inl (e, also)) = d ∙ sym e
one_fault text f g (inl (d, lacks)) (inr b) = absurd (has_head text g b lacks)
one_fault text f g (inr a) (inl (e, lacks)) = absurd (has_head text f a lacks)
one_fault text f g (inr a) (inr b) =
    let both = both_behind text f g a b in
    one_fault_behind text f g a b both.0 both.1

-- ---- where a text fails

-- the rest of the one that goes on is that of the other
same_rest : (v : ℕ) (fault : CertificateFault) (xs ys : List LineKey) (x y : List ℕ)
    → AllByRecursion (IsReadableEntry v) ys → StandInOrder ys → RestFails v xs x fault → GoesOn xs ys x y → x ≡ y
same_rest v fault xs ys x y readable order fails goes =
    (at_fault v xs ys goes.0 x y fault readable order goes.1 goes.2 fails).1

one_rest : (text : List ℕ) (f g : CertificateFault) (a : FailsBehind text f) (b : FailsBehind text g)
    → a.version ≡ b.version → GoOn text f g a b → a.rest ≡ b.rest
one_rest text f g a b same (inl goes) =
    same_rest b.version f a.before b.before a.rest b.rest b.stand.readable b.stand.order
    (subst (λ v. RestFails v a.before a.rest f) same a.fails) goes
one_rest text f g a b same (inr goes) =
    sym (same_rest a.version g b.before a.before b.rest a.rest a.stand.readable a.stand.order
    (subst (λ v. RestFails v b.before b.rest g) (sym same) b.fails) goes)

one_part_of : (rest p q : List ℕ) → IsFailingPart rest p → IsFailingPart rest q → p ≡ q
one_part_of rest p q (inl e) (inl f) = append_cancel_left end_text p q (sym e ∙ f)
one_part_of rest p q (inl e) (inr (goes_on, f)) = absurd (goes_on p e)
one_part_of rest p q (inr (goes_on, e)) (inl f) = absurd (goes_on q f)
one_part_of rest p q (inr (_, e)) (inr (_, f)) = e ∙ sym f

pub one_part : (text : List ℕ) (f g : CertificateFault) (p q : List ℕ) → FailsFrom text f p → FailsFrom text g q
    → p ≡ q
one_part text f g p q (inl (_, _, e)) (inl (_, _, h)) = e ∙ sym h
one_part text f g p q (inl (_, lacks, _)) (inr (b, _)) = absurd (has_head text g b lacks)
one_part text f g p q (inr (a, _)) (inl (_, lacks, _)) = absurd (has_head text f a lacks)
one_part text f g p q (inr (a, x)) (inr (b, y)) =
    let both = both_behind text f g a b in
    one_part_of b.rest p q (subst (λ (rest : List ℕ). IsFailingPart rest p) (one_rest text f g a b both.0 both.1) x) y

-- what fails from somewhere fails
pub fails_somewhere : (text : List ℕ) (fault : CertificateFault) (part : List ℕ) → FailsFrom text fault part
    → FailsToParse text fault
fails_somewhere text fault part (inl (e, lacks, _)) = inl (e, lacks)
fails_somewhere text fault part (inr (b, _)) = inr b

same_ports : (c d : ℕ) (ps qs : List PortLine) (xs ys : List SystemLine)
    → map (PortEntry c) ps ++ entries_of xs ≡ map (PortEntry d) qs ++ entries_of ys → (ps ≡ qs)
    × (entries_of xs ≡ entries_of ys)
same_ports c d [] [] xs ys e = (refl, e)
same_ports c d [] (q ∷ qs) [] ys e = absurd cc
same_ports c d [] (q ∷ qs) (x ∷ xs) ys e = absurd cc
same_ports c d (p ∷ ps) [] xs [] e = absurd cc
same_ports c d (p ∷ ps) [] xs (y ∷ ys) e = absurd cc
same_ports c d (p ∷ ps) (q ∷ qs) xs ys e =
    let first : p ≡ q = cc in
    let others : map (PortEntry c) ps ++ entries_of xs ≡ map (PortEntry d) qs ++ entries_of ys = cc in
    let rest = same_ports c d ps qs xs ys others in
    (ap (λ l. l ∷ ps) first ∙ ap (λ ls. q ∷ ls) rest.0, rest.1)

abbrev system_line : ℕ → ℕ → ℕ → Bool → Option ParentLink → List PortLine → SystemLine
system_line clock root steps far parent ports =
    record { clock = clock; root = root; steps = steps; far = far; parent = parent; ports = ports }

same_system : (a b : SystemLine) → system_entry a ≡ system_entry b → a.ports ≡ b.ports → a ≡ b
same_system a b e ports =
    let clock : a.clock ≡ b.clock = cc in
    let root : a.root ≡ b.root = cc in
    let steps : a.steps ≡ b.steps = cc in
    let far : a.far ≡ b.far = cc in
    let parent : a.parent ≡ b.parent = cc in
    ap (λ (x : ℕ). system_line x a.root a.steps a.far a.parent a.ports) clock
    ∙ ap (λ (x : ℕ). system_line b.clock x a.steps a.far a.parent a.ports) root
    ∙ ap (λ (x : ℕ). system_line b.clock b.root x a.far a.parent a.ports) steps
    ∙ ap (λ (x : Bool). system_line b.clock b.root b.steps x a.parent a.ports) far
    ∙ ap (λ (x : Option ParentLink). system_line b.clock b.root b.steps b.far x a.ports) parent
    ∙ ap (λ (x : List PortLine). system_line b.clock b.root b.steps b.far b.parent x) ports

same_lines : (xs ys : List SystemLine) → entries_of xs ≡ entries_of ys → xs ≡ ys
same_lines [] [] e = refl
same_lines [] (y ∷ ys) e = absurd cc
same_lines (x ∷ xs) [] e = absurd cc
same_lines (x ∷ xs) (y ∷ ys) e =
    let first : system_entry x ≡ system_entry y = cc in
    let others : map (PortEntry x.clock) x.ports ++ entries_of xs
    ≡ map (PortEntry y.clock) y.ports ++ entries_of ys = cc in
    let rest = same_ports x.clock y.clock x.ports y.ports xs ys others in
    ap (λ l. l ∷ xs) (same_system x y first rest.0) ∙ ap (λ ls. y ∷ ls) (same_lines xs ys rest.1)

whole : (xs ys zs : List LineKey) → ys ≡ xs ++ zs → end_text ≡ entries_text zs ++ end_text → xs ≡ ys
whole xs ys [] goes rest = sym (goes ∙ append-nil xs)
whole xs ys (entry ∷ zs) goes rest =
    absurd (form_not_end (spelled_line entry) (entries_text zs ++ end_text) (rest ∙ first_of entry zs end_text))

whole_either : (xs ys : List LineKey) → GoesOn xs ys end_text end_text ⊎ GoesOn ys xs end_text end_text → xs ≡ ys
whole_either xs ys (inl goes) = whole xs ys goes.0 goes.1 goes.2
whole_either xs ys (inr goes) = sym (whole ys xs goes.0 goes.1 goes.2)

pub one_certificate : (v w : ℕ) (one other : List SystemLine) → IsVersion v → IsVersion w → IsReadable v one
    → IsReadable w other → certificate_text v one ≡ certificate_text w other → (v ≡ w) × (one ≡ other)
one_certificate v w one other is_v is_w f g e =
    let behind = behind_head v w (entries_of one) (entries_of other) end_text end_text is_v is_w e in (
      behind.0,
      same_lines one other (whole_either (entries_of one) (entries_of other)
          (fronts v w (entries_of one) (entries_of other) end_text end_text f g behind.1)),
    )
