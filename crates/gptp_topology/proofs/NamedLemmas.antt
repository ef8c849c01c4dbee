-- An act changes nothing at a link at none of whose ends it names a system.
use Rattle.std.proofs.Common.{◌≡◌, ◌≢◌, ℕ, Bool, true, false, ◌==◌, cond, refl, sym, ap}
use Rattle.std.proofs.lemmas.Bool.{and_left, ne_eqb, or_from}
use Rattle.gptp_scenario.specs.Change.{is_at, link_acted, link_changed, system_changed, member_with_bounds, with_up}
use Rattle.gptp_scenario.specs.Network.{same_port}
use Rattle.gptp_scenario.specs.declared.change.Act.{Act}
use Rattle.gptp_scenario.specs.declared.change.Act.TheVariants as acts
use Rattle.gptp_scenario.specs.declared.change.Change.{Change}
use Rattle.gptp_scenario.specs.declared.change.Change.TheVariants as changes
use Rattle.gptp_scenario.specs.declared.network.LinkSpec.{LinkSpec}
use Rattle.gptp_topology.specs.Course.{acted, cable_of, lives_acted, named, named_by, cable_wire}
use Rattle.gptp_topology.specs.declared.course.Standing.{Standing}

-- ---- whether a system lives

lives_changed : (change : Change) (own : ℕ) (lives : Bool) → named_by change ≢ own
    → (system_changed change own (record { identity = 0; live = lives })).live ≡ lives
lives_changed (changes.LinkDown clock port) own lives other = refl
lives_changed (changes.LinkUp clock port) own lives other = refl
lives_changed (changes.LinkSet clock port least greatest loss) own lives other = refl
lives_changed (changes.Fail clock) own lives other = rw (ne_eqb clock own other) refl
lives_changed (changes.Recover clock) own lives other = rw (ne_eqb clock own other) refl
lives_changed (changes.Priority1 clock value) own lives other = rw (ne_eqb clock own other) refl
lives_changed (changes.Inject clock port octets) own lives other = refl

lives_same : (act : Act) (own : ℕ) (lives : Bool) → named act ≢ own → lives_acted act own lives ≡ lives
lives_same (acts.Deliver link direction) own lives other = refl
lives_same (acts.Expire clock timer) own lives other = refl
lives_same (acts.Change change) own lives other = lives_changed change own lives other

-- ---- whether it is up, and its bounds

pub not_at : (clock port : ℕ) (w : LinkSpec) → clock ≢ w.a.clock → clock ≢ w.b.clock → is_at clock port w ≡ false
not_at clock port w a b =
    or_from (same_port w.a (record { clock = clock; port = port }))
    (same_port w.b (record { clock = clock; port = port }))
    (and_left (w.a.clock == clock) (w.a.port == port) (ne_eqb w.a.clock clock (λ same. a (sym same))))
    (and_left (w.b.clock == clock) (w.b.port == port) (ne_eqb w.b.clock clock (λ same. b (sym same))))

wire_changed : (change : Change) (w : LinkSpec) → named_by change ≢ w.a.clock → named_by change ≢ w.b.clock
    → link_changed change w ≡ w
wire_changed (changes.LinkDown clock port) w a b = ap (λ test. cond test (with_up false w) w) (not_at clock port w a b)
wire_changed (changes.LinkUp clock port) w a b = ap (λ test. cond test (with_up true w) w) (not_at clock port w a b)
wire_changed (changes.LinkSet clock port least greatest loss) w a b =
    ap (λ test. cond test (member_with_bounds least greatest loss w) w) (not_at clock port w a b)
wire_changed (changes.Fail clock) w a b = refl
wire_changed (changes.Recover clock) w a b = refl
wire_changed (changes.Priority1 clock value) w a b = refl
wire_changed (changes.Inject clock port octets) w a b = refl

wire_same : (act : Act) (w : LinkSpec) → named act ≢ w.a.clock → named act ≢ w.b.clock → link_acted act w ≡ w
wire_same (acts.Deliver link direction) w a b = refl
wire_same (acts.Expire clock timer) w a b = refl
wire_same (acts.Change change) w a b = wire_changed change w a b

-- ---- how the link stands

pub untouched : (act : Act) (s : Standing) → named act ≢ s.cable.a.clock → named act ≢ s.cable.b.clock → acted act s ≡ s
untouched act s a b = λ i. record {
  at = s.at;
  cable = cable_of (wire_same act (cable_wire s.cable) a b i);
  a_lives = lives_same act s.cable.a.clock s.a_lives a i;
  b_lives = lives_same act s.cable.b.clock s.b_lives b i;
}
