-- What is so of whatever is read.
use Rattle.std.proofs.Common.{◌≡◌, ◌≤◌, ℕ, ℤ, pos, negsuc, Bool, true, false, List, Option, Some, None, Result, Ok, Err, nat_le, refl, subst}
use Rattle.std.specs.Prelude.{if◌then◌else◌, IfSome}
use Rattle.std.proofs.lemmas.Bool.{and_parts, leb-true}
use Rattle.toml.specs.Data.{Data, Members, as_integer, get_member}
use Rattle.gptp_scenario.specs.Params.{is_between}
use Rattle.gptp_scenario.specs.declared.fault.NetworkFault.{NetworkFault}
use Rattle.gptp_network.specs.Faults.{◌>>=◌, tested}
use Rattle.gptp_network.specs.Values.{key_in, kind_of, natural, natural_of}
use Rattle.gptp_network.specs.declared.fault.DocumentFault.{DocumentFault}
use Rattle.gptp_network.specs.declared.fault.DocumentFault.TheVariants.{MissingKey, OutOfRange}

-- ---- what is read

-- whatever is read, this is so of it
abbrev pub Gives : {X : Type 0} → (X → Type 0) → Result X DocumentFault → Type 0
Gives {X} P r = (x : X) → r ≡ Ok x → P x

same_ok : {X : Type 0} (x y : X) (made : Result X DocumentFault) → made ≡ Ok x → made ≡ Ok y → x ≡ y
same_ok x y made e f = cc

pub given : {X : Type 0} (P : X → Type 0) (x : X) → P x → Gives P (Ok x)
given P x so y is = subst P (same_ok x y (Ok x) refl is) so

pub refused : {X : Type 0} (P : X → Type 0) (fault : DocumentFault) → Gives P (Err fault)
refused P fault x is = absurd cc

-- by one step and what is made of its answer
pub next : {X Y : Type 0} (P : Y → Type 0) (r : Result X DocumentFault) (f : X → Result Y DocumentFault)
    → ((x : X) → r ≡ Ok x → Gives P (f x)) → Gives P (r >>= f)
next P (Ok x) f so = so x refl
next P (Err fault) f so = refused P fault

pub either : {X : Type 0} (P : X → Type 0) (test : Bool) (r s : Result X DocumentFault) → Gives P r → Gives P s
    → Gives P (if test then r else s)
either P true r s first second = first
either P false r s first second = second

-- where it stands only if no test found a fault
pub unless_faulty : {X : Type 0} (P : X → Type 0) (fault : Option NetworkFault) (x : X) → (fault ≡ None → P x)
    → Gives P (tested fault x)
unless_faulty P None x so = given P x (so refl)
unless_faulty P (Some fault) x so = refused P _

-- ---- numbers

-- a number lies in a range
abbrev pub IsWithin : ℕ → ℕ → ℕ → Type 0
IsWithin least greatest n = (least ≤ n) × (n ≤ greatest)

natural_within : (least greatest : ℕ) (z : ℤ) → Gives (IsWithin least greatest) (natural_of least greatest z)
natural_within least greatest (pos m) = by (is_between least greatest m) refl
  where
    by : (test : Bool) → is_between least greatest m ≡ test
        → Gives (IsWithin least greatest) (if test then Ok m else Err OutOfRange)
    by true is =
        let parts = and_parts (nat_le least m) (nat_le m greatest) is in
        given (IsWithin least greatest) m (leb-true least m parts.0, leb-true m greatest parts.1)
    by false is = refused (IsWithin least greatest) OutOfRange
natural_within least greatest (negsuc m) = refused (IsWithin least greatest) OutOfRange

-- a number that is read lies in its range, where its default does
pub value_within : (key : List ℕ) (least greatest : ℕ) (default : Option ℕ) (t : Members)
    → IfSome default (IsWithin least greatest) → Gives (IsWithin least greatest) (natural key least greatest default t)
unfolding natural
value_within key least greatest default t so = by (get_member key t)
  where
    else_default : (o : Option ℕ) → IfSome o (IsWithin least greatest)
        → Gives (IsWithin least greatest) (key_in as_integer (natural_of least greatest) o None)
    else_default None here = refused (IsWithin least greatest) MissingKey
    else_default (Some n) here = given (IsWithin least greatest) n here

    by : (o : Option Data) → Gives (IsWithin least greatest) (key_in as_integer (natural_of least greatest) default o)
    by None = else_default default so
    by (Some d) =
        next (IsWithin least greatest) (kind_of (as_integer d)) (natural_of least greatest)
        (λ z is. natural_within least greatest z)
