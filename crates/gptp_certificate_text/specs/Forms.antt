-- The forms of a certificate's lines: their words, whatever these spell (profile).
use Rattle.std.specs.Prelude.{◌≡◌, ⊤, ℕ, Bool, false, List, ◌++◌, Option, Some, None, codes}
use Rattle.gptp_graph.specs.SettledRole.{Role, Disabled, Master, Slave, Passive}
use Rattle.gptp_certificate_text.specs.Words.{IsWord}

-- the three words of a parent: the own port, and the clock and port at the other end
pub record ParentWords : Type 0 where
  pub own_port : List ℕ
  pub clock : List ℕ
  pub port : List ℕ

-- the words of a system line that aren't the same in all
pub record SystemWords : Type 0 where
  pub clock : List ℕ
  pub root : List ℕ
  pub steps : List ℕ
  pub parent : Option ParentWords

-- the words of a far system's line that aren't the same in all
pub record FarWords : Type 0 where
  pub clock : List ℕ
  pub steps : List ℕ
  pub root : List ℕ

-- the words of a port line that aren't the same in all, the last of them as the role that it names
pub record PortWords : Type 0 where
  pub clock : List ℕ
  pub number : List ℕ
  pub role : Role

-- a system line has eight words or ten, a far system's line six, a port line four
pub data Form : Type 0 where
  SystemForm : SystemWords → Form
  FarForm : FarWords → Form
  PortForm : PortWords → Form

-- the word for a role
abbrev pub role_word : Role → List ℕ
role_word Disabled = codes "disabled"
role_word Master = codes "master"
role_word Slave = codes "slave"
role_word Passive = codes "passive"

-- three words, or `none`
abbrev pub parent_text : Option ParentWords → List ℕ
parent_text None = codes "none"
parent_text (Some parent) = parent.own_port ++ codes " " ++ parent.clock ++ codes " " ++ parent.port

-- a system line of these words
abbrev pub system_text : SystemWords → List ℕ
system_text words =
    codes "system " ++ words.clock
    ++ codes " root " ++ words.root
    ++ codes " steps " ++ words.steps
    ++ codes " parent " ++ parent_text words.parent

-- a far system's line of these words
abbrev pub far_text : FarWords → List ℕ
far_text words = codes "system " ++ words.clock ++ codes " far " ++ words.steps ++ codes " root " ++ words.root

-- a port line of these words
abbrev pub port_text : PortWords → List ℕ
port_text words = codes "port " ++ words.clock ++ codes " " ++ words.number ++ codes " " ++ role_word words.role

-- a line of this form
abbrev pub form_text : Form → List ℕ
form_text (SystemForm words) = system_text words
form_text (FarForm words) = far_text words
form_text (PortForm words) = port_text words

-- each of them is a word
pub record AreParentWords (parent : ParentWords) : Type 0 where
  pub own_port : IsWord parent.own_port
  pub clock : IsWord parent.clock
  pub port : IsWord parent.port

-- each of them, if there are any
abbrev pub HasParentWords : Option ParentWords → Type 0
HasParentWords None = ⊤
HasParentWords (Some parent) = AreParentWords parent

-- each of them is a word
pub record AreSystemWords (words : SystemWords) : Type 0 where
  pub clock : IsWord words.clock
  pub root : IsWord words.root
  pub steps : IsWord words.steps
  pub parent : HasParentWords words.parent

-- each of them is a word
pub record AreFarWords (words : FarWords) : Type 0 where
  pub clock : IsWord words.clock
  pub steps : IsWord words.steps
  pub root : IsWord words.root

-- each of them is a word
pub record ArePortWords (words : PortWords) : Type 0 where
  pub clock : IsWord words.clock
  pub number : IsWord words.number

-- each of the form's words is one
abbrev pub HasWords : Form → Type 0
HasWords (SystemForm words) = AreSystemWords words
HasWords (FarForm words) = AreFarWords words
HasWords (PortForm words) = ArePortWords words

-- the form can stand in a text of this version, right after the line of a far system or not: a far system's line stands
-- in version 2 alone, and a port line not right after one
abbrev pub FitsHere : ℕ → Bool → Form → Type 0
FitsHere version after_far (SystemForm words) = ⊤
FitsHere version after_far (FarForm words) = version ≡ 2
FitsHere version after_far (PortForm words) = after_far ≡ false

-- by its words and their number the line is one that can stand there
pub record HasForm (version : ℕ) (after_far : Bool) (line : List ℕ) : Type 0 where
  pub form : Form
  pub words : HasWords form
  pub fits : FitsHere version after_far form
  pub is : line ≡ form_text form
