-- What is as it was has no lines.
use Rattle.std.proofs.lemmas.Option.{same_Some}
use Rattle.std.proofs.Common.{◌≡◌, ◌&&◌, ◌+◌, ◌==◌, append-nil, ℕ, zero, suc, Bool, true, false, List, [], ◌∷◌, ◌++◌, Option, Some, None, slice_get, refl, sym, ap, ◌∙◌, arith}
use Rattle.std.specs.List.{flat_map}
use Rattle.std.proofs.lemmas.Bool.Decides.{nat_tests}
use Rattle.gptp_roles.specs.declared.role.Role.{Role}
use Rattle.gptp_roles.specs.declared.role.Role.TheVariants.{Disabled, Master, Slave, Passive}
use Rattle.gptp_timeline.specs.Changes.{change_lines, port_lines, same_line}
use Rattle.gptp_timeline.specs.Ports.{role_number, same_bool, shows_same_port, same_ports}
use Rattle.gptp_timeline.specs.Shown.{is_known, same_choice, same_roles, same_slave, same_way}
use Rattle.gptp_timeline.specs.Stretch.{same_known}
use Rattle.gptp_timeline.specs.declared.ports.ShownPort.{ShownPort}
use Rattle.gptp_timeline.specs.declared.shown.Shown.{Shown}

pub number_itself : (n : ℕ) → n == n ≡ true
number_itself n = grind (arith, nat_tests)

pub bool_itself : (b : Bool) → same_bool b b ≡ true
bool_itself true = refl
bool_itself false = refl

pub port_itself : (p : ShownPort) → shows_same_port p p ≡ true
port_itself p = rw (number_itself (role_number p.role), bool_itself p.capable) refl

ports_itself : (ps : List ShownPort) → same_ports ps ps ≡ true
ports_itself [] = refl
ports_itself (p ∷ ps) = rw (port_itself p, ports_itself ps) refl

slave_itself : (slave : Option ℕ) → same_slave slave slave ≡ true
slave_itself None = refl
slave_itself (Some port) = number_itself port

way_itself : (s : Shown) → same_way s s ≡ true
way_itself s = rw (number_itself s.root, number_itself s.steps, slave_itself s.slave) refl

pub choice_itself : (s : Option Shown) → same_choice s s ≡ true
choice_itself None = refl
choice_itself (Some s) = way_itself s

pub roles_itself : (s : Option Shown) → same_roles s s ≡ true
roles_itself None = refl
roles_itself (Some s) = rw (way_itself s, ports_itself s.ports) refl

pub known_itself : (s : Option Shown) → same_known s s ≡ true
known_itself s = bool_itself (is_known s)

line_itself : (s : Option Shown) → same_line s s ≡ true
line_itself s = rw (choice_itself s, bool_itself (is_known s)) refl

no_port_lines : (at name port : ℕ) (ps : List ShownPort) → port_lines at name port ps ps ≡ []
no_port_lines at name port [] = refl
no_port_lines at name port (p ∷ ps) = rw (port_itself p, no_port_lines at name (port + 1) ps) refl

-- no line tells of it
pub no_change_lines : (at name : ℕ) (s : Option Shown) → change_lines at name s s ≡ []
no_change_lines at name None = refl
no_change_lines at name (Some s) = rw (line_itself (Some s), no_port_lines at name 1 s.ports) refl

-- ---- what tests of sameness say

pub both : (a b : Bool) → a && b ≡ true → (a ≡ true) × (b ≡ true)
both true b is = (refl, is)
both false b is = absurd cc

pub same_number : (a b : ℕ) → a == b ≡ true → a ≡ b
same_number a b is = grind (arith, nat_tests)

same_slave_is : (a b : Option ℕ) → same_slave a b ≡ true → a ≡ b
same_slave_is None None is = refl
same_slave_is None (Some q) is = absurd cc
same_slave_is (Some p) None is = absurd cc
same_slave_is (Some p) (Some q) is = ap Some (same_number p q is)

pub way_is : (a b : Shown) → same_way a b ≡ true → (a.root ≡ b.root) × (a.steps ≡ b.steps) × (a.slave ≡ b.slave)
way_is a b is =
    let (root, rest) = both (a.root == b.root) (a.steps == b.steps && same_slave a.slave b.slave) is in
    let (steps, slave) = both (a.steps == b.steps) (same_slave a.slave b.slave) rest in
    (same_number a.root b.root root, same_number a.steps b.steps steps, same_slave_is a.slave b.slave slave)

pub same_truth : (a b : Bool) → same_bool a b ≡ true → a ≡ b
same_truth true true is = refl
same_truth true false is = absurd cc
same_truth false true is = absurd cc
same_truth false false is = refl

abbrev role_from : ℕ → Role
role_from zero = Disabled
role_from (suc zero) = Master
role_from (suc (suc zero)) = Slave
role_from (suc (suc (suc n))) = Passive

role_back : (r : Role) → role_from (role_number r) ≡ r
role_back Disabled = refl
role_back Master = refl
role_back Slave = refl
role_back Passive = refl

pub same_port_is : (p q : ShownPort) → shows_same_port p q ≡ true → p ≡ q
same_port_is p q is =
    let (roles, capable) = both (role_number p.role == role_number q.role) (same_bool p.capable q.capable) is in
    let role : p.role ≡ q.role =
    sym (role_back p.role) ∙ ap role_from (same_number (role_number p.role) (role_number q.role) roles)
    ∙ role_back q.role in
    ap (λ (r : Role). record { role = r; capable = p.capable }) role
    ∙ ap (λ (c : Bool). record { role = q.role; capable = c }) (same_truth p.capable q.capable capable)

-- ---- lines of several names

pub flat_same : {X : Type 0} (f g : ℕ → List X) (names : List ℕ)
    → ((i n : ℕ) → slice_get names i ≡ Some n → g n ≡ f n) → flat_map f names ≡ flat_map g names
flat_same f g [] same = refl
flat_same f g (n ∷ ns) same =
    ap (λ h. h ++ flat_map f ns) (sym (same 0 n refl))
    ∙ ap (λ t. g n ++ t) (flat_same f g ns (λ i m at. same (suc i) m at))

pub flat_none : {X : Type 0} (f : ℕ → List X) (names : List ℕ)
    → ((i n : ℕ) → slice_get names i ≡ Some n → f n ≡ []) → flat_map f names ≡ []
flat_none f [] none = refl
flat_none f (n ∷ ns) none =
    ap (λ h. h ++ flat_map f ns) (none 0 n refl) ∙ flat_none f ns (λ i m at. none (suc i) m at)

-- where one name has lines and the others have none, all lines are its lines
pub flat_one : {X : Type 0} (f : ℕ → List X) (names : List ℕ) (place name : ℕ) → slice_get names place ≡ Some name
    → ((i n : ℕ) → slice_get names i ≡ Some n → (i ≡ place → ⊥) → f n ≡ []) → flat_map f names ≡ f name
flat_one f [] place name there none = absurd cc
flat_one f (n ∷ ns) zero name there none =
    ap (λ t. f n ++ t) (flat_none f ns (λ i m at. none (suc i) m at (λ e. absurd (omega arith))))
    ∙ append-nil (f n) ∙ ap f (same_Some n name there)
flat_one f (n ∷ ns) (suc place) name there none =
    ap (λ h. h ++ flat_map f ns) (none 0 n refl (λ e. absurd (omega arith)))
    ∙ flat_one f ns place name there (λ i m at apart. none (suc i) m at (λ e. apart (omega arith)))
