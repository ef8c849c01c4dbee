-- What is told has one list of lines, and a world one report.
use Rattle.std.proofs.Common.{◌≡◌, ℕ, Bool, true, false, List, [], ◌∷◌, ◌++◌, Option, sym, ap, subst, ◌∙◌, inl, inr, arith}
use Rattle.gptp_messages.proofs.GrammarLemmas.{never_both, one_reading}
use Rattle.gptp_system.specs.declared.answer.Answer.{Answer}
use Rattle.gptp_network.specs.Document.{DocumentState}
use Rattle.gptp_model.specs.declared.done.Done.{Done}
use Rattle.gptp_model.specs.declared.done.Done.TheVariants.{Quiet, Heard}
use Rattle.gptp_model.specs.declared.station.Station.{Station}
use Rattle.gptp_model.specs.Advancing.{Told}
use Rattle.gptp_model.specs.Sound.{HaveOwnClocks}
use Rattle.gptp_model.specs.Views.{rising_clocks}
use Rattle.gptp_model.specs.World.{WorldState}
use Rattle.gptp_graph.specs.Labelling.{PortLine, SystemLine}
use Rattle.gptp_graph.specs.Marking.{AreFarSteps, IsLowestRoot, Statement}
use Rattle.gptp_graph.specs.Parent.{ParentLink}
use Rattle.gptp_graph.specs.Snapshot.{Snapshot}
use Rattle.gptp_graph.proofs.RisingLemmas.{same_rising}
use Rattle.gptp_certificate.specs.Stated.{IsFarLine, IsStatedLine, States}
use Rattle.gptp_invariants.specs.WorldBounded.{statement_of, statements_of}
use Rattle.gptp_invariants.specs.WorldStanding.{snapshot_of}
use Rattle.gptp_lists.specs.Members.{In}
use Rattle.gptp_report.specs.declared.frame_line.FrameType.{FrameType}
use Rattle.gptp_report.specs.FrameLine.{frame_line, frame_type_of, IsOfType}
use Rattle.gptp_report.specs.Report.{time_line, IsChangeLine, Reports, ShowsSystems}
use Rattle.gptp_report.specs.Run.{ShowsDone, ShowsFrames, ShowsIf}
use Rattle.gptp_report.specs.SystemLines.{system_lines}
use Rattle.gptp_scenario.specs.declared.change.Timed.{Timed}
use Rattle.gptp_determinism.specs.ActLaws.{SameDone}
use Rattle.gptp_determinism.specs.CourseLaws.{SameTold}
use Rattle.gptp_determinism.specs.Named.{IsNamed}
use Rattle.gptp_determinism.proofs.NameLemmas.{system_too}

-- ---- frames

-- octets are of one type
type_once : (octets : List ℕ) (kind other : FrameType) → IsOfType octets kind → IsOfType octets other → kind ≡ other
type_once octets kind other (inl (m, m-reads, k)) (inl (n, n-reads, l)) =
    k ∙ ap frame_type_of (one_reading octets m n m-reads n-reads) ∙ sym l
type_once octets kind other (inl (m, reads, k)) (inr (e, refuses, l)) = absurd (never_both octets m e reads refuses)
type_once octets kind other (inr (e, refuses, k)) (inl (m, reads, l)) = absurd (never_both octets m e reads refuses)
type_once octets kind other (inr (d, d-refuses, k)) (inr (e, e-refuses, l)) = k ∙ sym l

done_shown_once : (at : ℕ) (done said : Done) (xs ys : List (List ℕ)) → SameDone done said → ShowsDone at done xs
    → ShowsDone at said ys → xs ≡ ys
done_shown_once at Quiet Quiet xs ys same k l = k ∙ sym l
done_shown_once at Quiet (Heard clock port answer frame) xs ys same k l = absurd same
done_shown_once at (Heard clock port answer frame) Quiet xs ys same k l = absurd same
done_shown_once at (Heard clock port answer frame) (Heard number place said others) xs ys
    (clocks, ports, told, octets) (kind, k-of, k) (other, l-of, l) =
    let kinds = type_once others.items kind other
    (subst (λ (o : List ℕ). IsOfType o kind) octets k-of) l-of in
    let line : ℕ → ℕ → FrameType → Option Answer → List ℕ → List (List ℕ) =
    λ c p t a o. frame_line at c p t a o ∷ [] in
    k ∙ ap (λ (c : ℕ). line c port kind answer frame.items) clocks
    ∙ ap (λ (p : ℕ). line number p kind answer frame.items) ports
    ∙ ap (λ (t : FrameType). line number place t answer frame.items) kinds
    ∙ ap (λ (a : Option Answer). line number place other a frame.items) told
    ∙ ap (λ (o : List ℕ). line number place other said o) octets ∙ sym l

frames_shown_once : (told more : List Told) (xs ys : List (List ℕ)) → SameTold told more → ShowsFrames told xs
    → ShowsFrames more ys → xs ≡ ys
frames_shown_once [] [] xs ys same k l = k ∙ sym l
frames_shown_once [] (u ∷ us) xs ys same k l = absurd same
frames_shown_once (t ∷ ts) [] xs ys same k l = absurd same
frames_shown_once (t ∷ ts) (u ∷ us) xs ys (times, dones, same) (first, rest, k, ks, k-is) (third, fourth, l, ls, l-is) =
    let one = done_shown_once u.timed.at t.done u.done first third dones
    (subst (λ (e : Timed). ShowsDone e.at t.done first) times k) l in
    let more = frames_shown_once ts us rest fourth same ks ls in
    k-is ∙ ap (λ (zs : List (List ℕ)). zs ++ rest) one ∙ ap (λ (zs : List (List ℕ)). third ++ zs) more ∙ sym l-is

pub shown_once : (frames : Bool) (told more : List Told) (xs ys : List (List ℕ)) → SameTold told more
    → ShowsIf frames told xs → ShowsIf frames more ys → xs ≡ ys
shown_once true told more xs ys same k l = frames_shown_once told more xs ys same k l
shown_once false told more xs ys same k l = k ∙ sym l

-- ---- the report

systems_once : (names : List ℕ) (w : WorldState) (xs ys : List (List ℕ)) → HaveOwnClocks w → ShowsSystems names w xs
    → ShowsSystems names w ys → xs ≡ ys
systems_once [] w xs ys own k l = k ∙ sym l
systems_once (name ∷ names) w xs ys own (rest, k, ks) (others, l, ls) =
    let other = system_too name w (λ place station. xs ≡ system_lines station ++ rest)
    (λ place station. ys ≡ system_lines station ++ others) own k l in
    k.so ∙ ap (λ (zs : List (List ℕ)). system_lines k.station ++ zs) (systems_once names w rest others own ks ls)
    ∙ sym other

change_once : (d : DocumentState) (line other : List ℕ) → IsChangeLine d line → IsChangeLine d other → line ≡ other
change_once d line other (inl (calm, k)) (inl (_, l)) = k ∙ sym l
change_once d line other (inl (calm, k)) (inr (restless, l)) = absurd (restless calm)
change_once d line other (inr (restless, k)) (inl (calm, l)) = absurd (restless calm)
change_once d line other (inr (_, k)) (inr (_, l)) = k ∙ sym l

pub reports_once : (d : DocumentState) (until : ℕ) (w : WorldState) (xs ys : List (List ℕ)) → IsNamed w
    → Reports d until w xs → Reports d until w ys → xs ≡ ys
reports_once d until w xs ys is k l =
    let changes = change_once d k.change l.change k.changes l.changes in
    let systems = systems_once (rising_clocks w) w k.systems l.systems is.clocks k.shows l.shows in
    k.are ∙ ap (λ (line : List ℕ). time_line until ∷ line ∷ k.systems) changes
    ∙ ap (λ (zs : List (List ℕ)). time_line until ∷ l.change ∷ zs) systems ∙ sym l.are

-- ---- the certificate

-- what is stated of a far system: its root is the least one, and its steps by the shortest routes
root_once : (g : Snapshot) (all : List Statement) (one : Statement) (root other : ℕ) → IsLowestRoot g all one root
    → IsLowestRoot g all one other → root ≡ other
root_once g all one root other k l =
    let (s, s-beside, s-is) = k.stated in
    let (t, t-beside, t-is) = l.stated in
    let more = l.least s s-beside in
    let less = k.least t t-beside in
    omega (arith, s-is, t-is, more, less)

steps_once : (g : Snapshot) (all : List Statement) (one : Statement) (n m : ℕ) → AreFarSteps g all one n
    → AreFarSteps g all one m → n ≡ m
steps_once g all one n m (inl (us, us-leads, n-is, us-least)) (inl (ts, ts-leads, m-is, ts-least)) =
    let less = us-least ts ts-leads in
    let more = ts-least us us-leads in
    omega (arith, n-is, m-is, less, more)
steps_once g all one n m (inl (us, leads, n-is, _)) (inr (none, m-is)) = absurd (none us leads)
steps_once g all one n m (inr (none, n-is)) (inl (ts, leads, m-is, _)) = absurd (none ts leads)
steps_once g all one n m (inr (_, n-is)) (inr (_, m-is)) = n-is ∙ sym m-is

line : ℕ → ℕ → ℕ → Bool → Option ParentLink → List PortLine → SystemLine
line clock root steps far parent ports = record {
  clock = clock;
  root = root;
  steps = steps;
  far = far;
  parent = parent;
  ports = ports;
}

-- a far system has one line
far_line_once : (g : Snapshot) (all : List Statement) (one : Statement) (x y : SystemLine) → IsFarLine g all one x
    → IsFarLine g all one y → x ≡ y
unfolding line
far_line_once g all one x y k l =
    let roots = root_once g all one x.root y.root k.root l.root in
    let steps = steps_once g all one x.steps y.steps k.steps l.steps in
    ap (λ (c : ℕ). line c x.root x.steps x.far x.parent x.ports) (k.clock ∙ sym l.clock)
    ∙ ap (λ (r : ℕ). line y.clock r x.steps x.far x.parent x.ports) roots
    ∙ ap (λ (n : ℕ). line y.clock y.root n x.far x.parent x.ports) steps
    ∙ ap (λ (b : Bool). line y.clock y.root y.steps b x.parent x.ports) (k.far ∙ sym l.far)
    ∙ ap (λ (p : Option ParentLink). line y.clock y.root y.steps y.far p x.ports) (k.bare.parent ∙ sym l.bare.parent)
    ∙ ap (λ (ps : List PortLine). line y.clock y.root y.steps y.far y.parent ps) (k.bare.ports ∙ sym l.bare.ports)

-- so has every other
line_once : (w : WorldState) (station : Station) (x y : SystemLine) → IsStatedLine w station x
    → IsStatedLine w station y
    → x ≡ y
line_once w station x y (inl k) (inl l) = k.is ∙ sym l.is
line_once w station x y (inl k) (inr l) = absurd (k.is_near l.is_far)
line_once w station x y (inr k) (inl l) = absurd (l.is_near k.is_far)
line_once w station x y (inr k) (inr l) =
    far_line_once (snapshot_of w) (statements_of w) (statement_of station) x y k l

-- a line that one certificate of a world has the other has too
in_other : (w : WorldState) (lines others : List SystemLine) → States w lines → States w others → (x : SystemLine)
    → In x lines → In x others
in_other w lines others k l x member =
    let stated = k.stated x member in
    let (y, there, is) = l.all stated.station stated.there stated.live in
    subst (λ (z : SystemLine). In z others) (line_once w stated.station y x is stated.is) there

pub states_once : (w : WorldState) (lines others : List SystemLine) → States w lines → States w others
    → lines ≡ others
states_once w lines others k l =
    same_rising (λ (x : SystemLine). x.clock) lines others k.rising l.rising (in_other w lines others k l)
    (in_other w others lines l k)
