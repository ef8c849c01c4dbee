-- What an agenda holds, as a plain list in order of putting (profile).
use Rattle.std.specs.Prelude.{◌≡◌, ℕ, ◌+◌, ◌<◌, ◌≤◌, ◌==◌, not, if◌then◌else◌, List, [], ◌∷◌, Option, Some, None, refl}
use Rattle.std.specs.Coded.{Coded, code_by, coded×, coded_ℕ, coded_list}
use Rattle.std.specs.List.{All, filter}
use Rattle.std.specs.Option.{option_map}

-- something to be done at a time, in ns, under the number that it got when it was put
pub record AgendaEntry (T : Type 0) : Type 0 where
  pub time : ℕ
  pub number : ℕ
  pub item : T

-- an agenda: the number of the next entry, the entries in order of putting, how many more can be put without being
-- refused, and the greatest time taken so far, at first 0
pub record Pending (T : Type 0) : Type 0 where
  pub next : ℕ
  pub entries : List (AgendaEntry T)
  pub room : ℕ
  pub base : ℕ

abbrev pub entry_code : {T : Type 0} → Coded T → Coded (AgendaEntry T)
entry_code {T} code =
    code_by (ℕ × (ℕ × T)) (coded× coded_ℕ (coded× coded_ℕ code)) (λ e. (e.time, (e.number, e.item)))
    (λ p. record { time = p.0; number = p.1.0; item = p.1.1 }) (λ _. refl)

abbrev pub pending_code : {T : Type 0} → Coded T → Coded (Pending T)
pending_code {T} code =
    code_by (ℕ × (List (AgendaEntry T) × (ℕ × ℕ)))
    (coded× coded_ℕ (coded× (coded_list (entry_code code)) (coded× coded_ℕ coded_ℕ)))
    (λ a. (a.next, (a.entries, (a.room, a.base))))
    (λ p. record { next = p.0; entries = p.1.0; room = p.1.1.0; base = p.1.1.1 }) (λ _. refl)

module _ {T : Type 0} where
  abbrev pub entry : ℕ → ℕ → T → AgendaEntry T
  entry time number item = record { time = time; number = number; item = item }

  -- the entry of a number, if it is there
  abbrev pub entry_at : List (AgendaEntry T) → ℕ → Option (AgendaEntry T)
  entry_at [] number = None
  entry_at (e ∷ es) number = if e.number == number then Some e else entry_at es number

  -- the entries but the one of this number
  abbrev pub without_number : ℕ → List (AgendaEntry T) → List (AgendaEntry T)
  without_number number = filter (λ (e : AgendaEntry T). not (e.number == number))

  -- an entry is due no earlier than this time, and one of this time has no lower number
  pub record IsNoEarlier (time number : ℕ) (e : AgendaEntry T) : Type 0 where
    pub not_before : time ≤ e.time
    pub by_number : e.time ≡ time → number ≤ e.number

  -- the first of least time: a member of the list, and no member is earlier
  pub record IsFirst (entries : List (AgendaEntry T)) (time number : ℕ) : Type 0 where
    pub member : option_map (λ (e : AgendaEntry T). e.time) (entry_at entries number) ≡ Some time
    pub least : All (IsNoEarlier time number) entries

  -- nothing is due at this time
  abbrev pub NothingDue : List (AgendaEntry T) → ℕ → Type 0
  NothingDue entries now = All (λ (e : AgendaEntry T). now < e.time) entries

  -- numbers from `low` on that rise, all below `next`
  abbrev pub RiseFrom : ℕ → List (AgendaEntry T) → ℕ → Type 0
  RiseFrom low [] next = low ≤ next
  RiseFrom low (e ∷ es) next = (low ≤ e.number) × RiseFrom (e.number + 1) es next
