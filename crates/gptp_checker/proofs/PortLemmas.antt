-- The ports of a line: their numbers, and going over them.
use Rattle.std.proofs.Common.{Bool, true, false, not, rules, ◌≡◌, ◌<◌, ◌≤◌, ◌+◌, ℕ, zero, suc, List, [], ◌∷◌, Some, length, map, get_or, option_map, slice_get, refl, sym, ap, ap₂, subst, ◌∙◌, arith}
use Rattle.std.proofs.lemmas.List.{length-map}
use Rattle.std.proofs.lemmas.Option.{slice_get-get_or, slice_get-map}
use Rattle.std.specs.List.{range_with_len}
use Rattle.gptp_certificate_text.specs.Certificate.{port_line_of, role_of}
use Rattle.gptp_graph.specs.Labelling.{PortLine}
use Rattle.gptp_lists.specs.Members.{In}
use Rattle.gptp_graph.specs.SettledRole as settled
use Rattle.gptp_roles.specs.declared.role.Role.{Role}
use Rattle.gptp_roles.specs.declared.role.Role.TheVariants.{Disabled, Master, Slave, Passive}
use Rattle.gptp_roles.specs.contracts.role.Role.{the_type}
use Rattle.gptp_checker.specs.Places.{numbers_of}
use Rattle.gptp_checker.proofs.EachLemmas.{HoldBefore, one_more, all_hold}
use denote.Enum.Bare.{sameb, same_true}

-- what is read at a place
abbrev pub port_at : List (ℕ × Role) → ℕ → ℕ × Role
port_at ports i = get_or ports i (0, Disabled)

-- as many as in the range
pub numbers_length : (ports : List (ℕ × Role)) (a n : ℕ) → numbers_of ports ≡ range_with_len a n → length ports ≡ n
numbers_length [] a zero e = refl
numbers_length [] a (suc n) e = absurd cc
numbers_length (p ∷ ports) a zero e = absurd cc
numbers_length (p ∷ ports) a (suc n) e =
    let rest : numbers_of ports ≡ range_with_len (a + 1) n = cc in ap suc (numbers_length ports (a + 1) n rest)

-- and each is its place's number
pub numbers_at : (ports : List (ℕ × Role)) (a n i : ℕ) → numbers_of ports ≡ range_with_len a n → i < n
    → (port_at ports i).0 ≡ i + a
numbers_at ports a zero i e b = absurd (omega arith)
numbers_at [] a (suc n) i e b = absurd cc
numbers_at (p ∷ ports) a (suc n) zero e b = let first : p.0 ≡ a = cc in omega arith
numbers_at (p ∷ ports) a (suc n) (suc i) e b =
    let rest : numbers_of ports ≡ range_with_len (a + 1) n = cc in
    let at = numbers_at ports (a + 1) n i rest (omega arith) in omega arith

-- as many, each with its place's number, are the range
pub numbers_by : (ports : List (ℕ × Role)) (a n : ℕ) → length ports ≡ n
    → ((i : ℕ) → i < n → (port_at ports i).0 ≡ i + a) → numbers_of ports ≡ range_with_len a n
numbers_by [] a zero e h = refl
numbers_by [] a (suc n) e h = absurd (omega arith)
numbers_by (p ∷ ports) a zero e h = absurd (omega arith)
numbers_by (p ∷ ports) a (suc n) e h =
    let first : p.0 ≡ 0 + a = h 0 (omega arith) in
    ap₂ (λ (x : ℕ) (xs : List ℕ). x ∷ xs) (omega arith)
    (numbers_by ports (a + 1) n (omega arith) (λ i b. let at = h (suc i) (omega arith) in omega arith))

module _ (P : PortLine → Type 0) (ports items : List (ℕ × Role)) (i : ℕ) (e : ports ≡ items) where
  -- the port line at a place
  pub line_there : i < length ports → slice_get (map port_line_of items) i ≡ Some (port_line_of (port_at ports i))
  line_there b =
      subst (λ (xs : List (ℕ × Role)). slice_get (map port_line_of xs) i ≡ Some (port_line_of (port_at ports i))) e
      (slice_get-map port_line_of ports i ∙ ap (option_map port_line_of) (slice_get-get_or ports i (0, Disabled) b))

  -- what holds of the ports before and of this one holds of one more
  pub next_port : i < length ports → HoldBefore P (map port_line_of items) i → P (port_line_of (port_at ports i))
      → HoldBefore P (map port_line_of items) (i + 1)
  next_port b h here = one_more P (map port_line_of items) i h (λ x at. put x (sym (line_there b) ∙ at))
    where
      put : (x : PortLine) → Some (port_line_of (port_at ports i)) ≡ Some x → P x
      put x same = let s : port_line_of (port_at ports i) ≡ x = cc in subst P s here

  -- at the end it holds of all
  pub all_ports : HoldBefore P (map port_line_of items) i → length ports ≤ i
      → (port : PortLine) → In port (map port_line_of items) → P port
  all_ports h b = all_hold P (map port_line_of items) i h (let n = length-map items port_line_of in
      let m : length ports ≡ length items = ap length e in omega arith)

-- roles by their names
role_back : settled.Role → Role
role_back settled.Disabled = Disabled
role_back settled.Master = Master
role_back settled.Slave = Slave
role_back settled.Passive = Passive

back_again : (role : Role) → role_back (role_of role) ≡ role
unfolding role_back
back_again Disabled = refl
back_again Master = refl
back_again Slave = refl
back_again Passive = refl

pub same_role : (one two : Role) → role_of one ≡ role_of two → one ≡ two
same_role one two e = sym (back_again one) ∙ ap role_back e ∙ back_again two

-- a role is the same as itself
pub same_as_itself : (role : Role) → sameb the_type role role ≡ true
same_as_itself Disabled = refl
same_as_itself Master = refl
same_as_itself Slave = refl
same_as_itself Passive = refl

-- what a comparison of two roles says
pub roles_differ : (one two : Role) → true ≡ not (sameb the_type one two) → one ≡ two → ⊥
roles_differ one two e same =
    let s : sameb the_type one two ≡ true = ap (λ (x : Role). sameb the_type x two) same ∙ same_as_itself two in
    let n : not (sameb the_type one two) ≡ false = ap not s in absurd cc

not_false : (b : Bool) → false ≡ not b → b ≡ true
not_false true e = refl
not_false false e = absurd cc

pub roles_agree : (one two : Role) → false ≡ not (sameb the_type one two) → one ≡ two
roles_agree one two e = same_true the_type (search rules) one two (not_false (sameb the_type one two) e)
