-- What a port that is selected holds in the end, and the Announces that are sent.
use Rattle.std.proofs.Common.{◌≡◌, ◌≢◌, ℕ, zero, suc, ◌+◌, Bool, true, false, not, ◌&&◌, List, [], ◌∷◌, Some, slice_get, refl, sym, ap, subst, ◌∙◌, inl, inr, arith, eqb-true}
use Rattle.std.specs.Prelude.{if◌then◌else◌, ◌==◌}
use Rattle.std.proofs.lemmas.Option.{none-some, same_Some}
use Rattle.std.proofs.lemmas.Bool.{cases_Bool}
use Rattle.gptp_lists.specs.Members.{In}
use Rattle.gptp_vector.specs.declared.vector.Vector.{Vector}
use Rattle.gptp_receipt.specs.declared.held.Held.{Held}
use Rattle.gptp_receipt.specs.declared.held.Held.TheVariants as helds
use Rattle.gptp_receipt.specs.Held.{received}
use Rattle.gptp_roles.specs.declared.role.Role.{Role}
use Rattle.gptp_roles.specs.declared.role.Role.TheVariants as roles
use Rattle.gptp_roles.specs.Role.{announces_already, each_port, held_after_selection, is_fresh, is_master, chosen_role}
use Rattle.gptp_roles.proofs.RoleLemmas.{held_after-kept, held_after-master, master_is_lower}
use Rattle.gptp_system.specs.declared.port.Port.{Port}
use Rattle.gptp_system.specs.declared.sending.Sending.{Sending}
use Rattle.gptp_system.specs.State.{SystemState, clock}
use Rattle.gptp_system.specs.Sends.{announcement}
use Rattle.gptp_system.specs.Selection.{Selects, announced_again, announcements, choosing, fresh_ports}
use Rattle.gptp_system.specs.Facts.{IsAtRest}
use Rattle.gptp_system.specs.Reacts.{IsAnnounce, HoldsOrIsDisabled, IsOwnAnnounce, PortEnds, PortAnnounces}
use Rattle.gptp_system.proofs.ChangedLemmas.{each_port-get}
use Rattle.gptp_system.proofs.PortLemmas.{Marked, all_announced-get}

-- ---- one port

master_is : (r : Role) → is_master r ≡ true → r ≡ roles.Master
master_is roles.Disabled e = absurd cc
master_is roles.Master e = refl
master_is roles.Slave e = absurd cc
master_is roles.Passive e = absurd cc

-- a port that isn't Master is Disabled or received
not_master_kept : (v : Vector) (c n : ℕ) (h : Held) → is_master (chosen_role v c n h) ≡ false → HoldsOrIsDisabled h
not_master_kept v c n helds.Disabled other = inl refl
not_master_kept v c n helds.Aged other = absurd cc
not_master_kept v c n (helds.Mine root steps) other = absurd cc
not_master_kept v c n (helds.Received r) other = inr (r, refl)

master_on : (v : Vector) (c n : ℕ) (h : Held) → is_master (chosen_role v c n h) ≡ true → h ≢ helds.Disabled
master_on v c n h master e = absurd (disabled (ap (λ x. is_master (chosen_role v c n x)) (sym e) ∙ master))
  where
    disabled : is_master (chosen_role v c n helds.Disabled) ≡ true → ⊥
    disabled is = cc

-- a port that announces already is Mine with the chosen root and steps
already_mine : (v : Vector) (h : Held) → announces_already v h ≡ true → h ≡ helds.Mine v.root v.steps
already_mine v helds.Disabled is = absurd cc
already_mine v helds.Aged is = absurd cc
already_mine v (helds.Received r) is = absurd cc
already_mine v (helds.Mine root steps) is = go (root == v.root) (steps == v.steps) refl refl is
  where
    go : (a b : Bool) → (root == v.root) ≡ a → (steps == v.steps) ≡ b → (a && b) ≡ true
        → helds.Mine root steps ≡ helds.Mine v.root v.steps
    go true true same_root same_steps e = rw (eqb-true root v.root same_root, eqb-true steps v.steps same_steps) refl
    go true false same_root same_steps e = absurd cc
    go false b same_root same_steps e = absurd cc

not_fresh_mine : (v : Vector) (c n : ℕ) (h : Held) → is_master (chosen_role v c n h) ≡ true → is_fresh v c n h ≡ false
    → h ≡ helds.Mine v.root v.steps
not_fresh_mine v c n h master stale = already_mine v h (go (announces_already v h) (rw master at stale))
  where
    go : (b : Bool) → (true && not b) ≡ false → b ≡ true
    go true e = refl
    go false e = absurd cc

-- what a port holds after a choice, where a fresh one tells and any other lets its timer run
pub chosen_ends : (v : Vector) (c n now : ℕ) (mid : Held) (q q' : Port) (sends : List Sending)
    → ((is_fresh v c n mid ≡ true → PortAnnounces n now q q' sends)
    × (is_fresh v c n mid ≡ false → q'.announce ≡ q.announce))
    → PortEnds c n now v.root v.steps mid (held_after_selection v c n mid) q q' sends
chosen_ends v c n now mid q q' sends (tells, stays) =
    elim (cases_Bool (is_master (chosen_role v c n mid))) [
      | inr other ↦ inl (held_after-kept v c n mid other, not_master_kept v c n mid other)
      | inl master ↦ inr (record {
        mine = held_after-master v c n mid master;
        on = master_on v c n mid master;
        is_lower = λ r is. master_is_lower v c n mid r is (master_is (chosen_role v c n mid) master);
        timing = elim (cases_Bool (is_fresh v c n mid)) [
          | inl fresh ↦ inr (tells fresh)
          | inr stale ↦ inl (not_fresh_mine v c n mid master stale, stays stale)
        ];
      })
    ]

-- a fresh port is Master
pub fresh_mine : (v : Vector) (c n : ℕ) (h : Held) → is_fresh v c n h ≡ true
    → held_after_selection v c n h ≡ helds.Mine v.root v.steps
fresh_mine v c n h fresh = held_after-master v c n h (go (is_master (chosen_role v c n h)) fresh)
  where
    go : (b : Bool) → (b && not (announces_already v h)) ≡ true → b ≡ true
    go true e = refl
    go false e = absurd cc

-- ---- the Announces of marked ports

-- a marked port's Announce is sent
pub announcement_sent : (c root steps n : ℕ) (fs : List Bool) (qs : List Port) (i : ℕ) (q : Port)
    → slice_get fs i ≡ Some true
    → slice_get qs i ≡ Some q
    → In (announcement (record { clock = c; port = n + i }) root steps q) (announcements c root steps n fs qs)
announcement_sent c root steps n [] qs i q marked there = absurd (none-some true marked)
announcement_sent c root steps n (f ∷ fs) [] i q marked there = absurd (none-some q there)
announcement_sent c root steps n (f ∷ fs) (p ∷ qs) zero q marked there =
    let here : n + 0 ≡ n = omega arith in
    rw (same_Some f true marked, here) (inl (ap (λ x. announcement (record {
      clock =
          c;
      port = n;
    }) root steps x) (sym (same_Some p q there))))
announcement_sent c root steps n (f ∷ fs) (p ∷ qs) (suc i) q marked there =
    let number : n + suc i ≡ n + 1 + i = omega arith in
    rw number (behind f (announcement_sent c root steps (n + 1) fs qs i q marked there))
  where
    behind : (b : Bool)
        → In (announcement (record {
          clock =
              c;
          port = n + 1 + i;
        }) root steps q) (announcements c root steps (n + 1) fs qs)
        → In (announcement (record { clock = c; port = n + 1 + i }) root steps q)
        (if b
        then announcement (record { clock = c; port = n }) root steps p ∷ announcements c root steps (n + 1) fs qs
        else announcements c root steps (n + 1) fs qs)
    behind true member = inr member
    behind false member = member

-- whatever is sent is the Announce of a marked port
abbrev pub IsMarked : ℕ → ℕ → ℕ → ℕ → List Bool → List Port → Sending → Type 0
IsMarked c root steps n fs qs x =
    (i : ℕ) × (q : Port) × (slice_get fs i ≡ Some true) × (slice_get qs i ≡ Some q)
    × (x ≡ announcement (record { clock = c; port = n + i }) root steps q)

pub from_announcements : (c root steps n : ℕ) (fs : List Bool) (qs : List Port) (x : Sending)
    → In x (announcements c root steps n fs qs)
    → IsMarked c root steps n fs qs x
from_announcements c root steps n [] qs x member = absurd member
from_announcements c root steps n (f ∷ fs) [] x member = absurd member
from_announcements c root steps n (f ∷ fs) (q ∷ qs) x member =
    first_or_behind f refl (λ later. from_announcements c root steps (n + 1) fs qs x later) member
  where
    behind : IsMarked c root steps (n + 1) fs qs x → IsMarked c root steps n (f ∷ fs) (q ∷ qs) x
    behind (i, p, marked, there, is) =
        let number : n + 1 + i ≡ n + suc i = omega arith in
        (suc i, p, marked, there, is ∙ ap (λ m. announcement (record { clock = c; port = m }) root steps p) number)

    first_or_behind : (b : Bool) → f ≡ b
        → (In x (announcements c root steps (n + 1) fs qs) → IsMarked c root steps (n + 1) fs qs x)
        → In x
        (if b
        then announcement (record { clock = c; port = n }) root steps q ∷ announcements c root steps (n + 1) fs qs
        else announcements c root steps (n + 1) fs qs)
        → IsMarked c root steps n (f ∷ fs) (q ∷ qs) x
    first_or_behind true is ih (inl here) =
        let number : n ≡ n + 0 = omega arith in (
          zero,
          q,
          ap (λ b. Some b) is,
          refl,
          here ∙ ap (λ m. announcement (record {
            clock =
                c;
            port = m;
          }) root steps q) number,
        )
    first_or_behind true is ih (inr later) = behind (ih later)
    first_or_behind false is ih later = behind (ih later)

-- ---- a whole selection

-- what every port holds in the end, from what it held after the touch
pub record Ends (t : SystemState) (now : ℕ) (s' : SystemState) (sends : List Sending) (i : ℕ) (h' : Held)
    (q' : Port) : Type 0
  where
    pub mid : Held
    pub port : Port
    pub mid_there : slice_get t.held i ≡ Some mid
    pub port_there : slice_get t.ports i ≡ Some port
    pub log : q'.log_interval ≡ port.log_interval
    pub ends : PortEnds (clock t) (suc i) now s'.root s'.steps mid h' port q' sends

pub record Concludes (t : SystemState) (now : ℕ) (s' : SystemState) (sends : List Sending) : Type 0 where
  pub same_clock : clock s' ≡ clock t
  pub ports : (i : ℕ) (h' : Held) (q' : Port) → slice_get s'.held i ≡ Some h' → slice_get s'.ports i ≡ Some q'
      → Ends t now s' sends i h' q'
  pub tells : (x : Sending) → In x sends → IsAnnounce x.body → IsOwnAnnounce s' x

-- forwards: what is made of a member stands where it stood
each_from-there : {X : Type 0} (f : ℕ → Held → X) (n : ℕ) (hs : List Held) (i : ℕ) (h : Held) → slice_get hs i ≡ Some h
    → slice_get (Rattle.gptp_roles.specs.Role.each_from f n hs) i ≡ Some (f (n + i) h)
each_from-there f n [] i h there = absurd (none-some h there)
each_from-there f n (g ∷ hs) zero h there =
    let here : n ≡ n + 0 = omega arith in
    ap (λ x. Some (f n x)) (same_Some g h there) ∙ ap (λ p. Some (f p h)) here
each_from-there f n (g ∷ hs) (suc i) h there =
    let number : n + 1 + i ≡ n + suc i = omega arith in
    each_from-there f (n + 1) hs i h there ∙ ap (λ p. Some (f p h)) number

pub each_port-there : {X : Type 0} (f : ℕ → Held → X) (hs : List Held) (i : ℕ) (h : Held) → slice_get hs i ≡ Some h
    → slice_get (each_port f hs) i ≡ Some (f (suc i) h)
each_port-there f hs i h there =
    let number : 1 + i ≡ suc i = omega arith in
    each_from-there f 1 hs i h there ∙ ap (λ p. Some (f p h)) number

choosing_concludes : (v : Vector) (now : ℕ) (t : SystemState)
    → Concludes t now (choosing v now t) (announcements (clock t) v.root v.steps 1 (fresh_ports v t) t.ports)
choosing_concludes v now t = record { same_clock = refl; ports = ports; tells = tells }
  where
    sent : List Sending
    sent = announcements (clock t) v.root v.steps 1 (fresh_ports v t) t.ports

    tells_at : (i : ℕ) (q q' : Port) → slice_get (fresh_ports v t) i ≡ Some true → slice_get t.ports i ≡ Some q
        → q' ≡ announced_again now q → PortAnnounces (suc i) now q q' sent
    tells_at i q q' fresh there new =
        let number : 1 + i ≡ suc i = omega arith in
        record {
          sent = (
            announcement (record { clock = clock t; port = 1 + i }) v.root v.steps q,
            announcement_sent (clock t) v.root v.steps 1 (fresh_ports v t) t.ports i q fresh there,
            number,
            (_, refl),
          );
          timer = ap (λ (x : Port). x.announce) new;
        }

    ports : (i : ℕ) (h' : Held) (q' : Port) → slice_get (choosing v now t).held i ≡ Some h'
        → slice_get (choosing v now t).ports i ≡ Some q' → Ends t now (choosing v now t) sent i h' q'
    ports i h' q' stands there =
        let (mid, held, is) = each_port-get (held_after_selection v (clock t)) t.held i h' stands in
        go mid held is (all_announced-get now (fresh_ports v t) t.ports i q' there)
      where
        flag : (mid : Held) → slice_get t.held i ≡ Some mid
            → slice_get (fresh_ports v t) i ≡ Some (is_fresh v (clock t) (suc i) mid)
        flag mid held = each_port-there (is_fresh v (clock t)) t.held i mid held

        go : (mid : Held) → slice_get t.held i ≡ Some mid → h' ≡ held_after_selection v (clock t) (suc i) mid
            → Marked (announced_again now) (slice_get (fresh_ports v t) i ≡ Some true) t.ports i q'
            → Ends t now (choosing v now t) sent i h' q'
        go mid held is (q, was, inl (fresh, new)) = record {
          mid = mid;
          port = q;
          mid_there = held;
          port_there = was;
          log = ap (λ (x : Port). x.log_interval) new;
          ends = rw is
              (chosen_ends v (clock t) (suc i) now mid q q' sent (
                λ e. tells_at i q q' fresh was new,
                λ e. absurd (let both =
                    same_Some (is_fresh v (clock t) (suc i) mid) true (sym (flag mid held) ∙ fresh) in cc),
              ));
        }
        go mid held is (q, was, inr (stale, old)) = record {
          mid = mid;
          port = q;
          mid_there = held;
          port_there = was;
          log = ap (λ (x : Port). x.log_interval) old;
          ends = rw is
              (chosen_ends v (clock t) (suc i) now mid q q' sent
              (λ e. absurd (stale (flag mid held ∙ ap (λ b. Some b) e)), λ e. ap (λ (x : Port). x.announce) old));
        }

    same_log : (p q : Port) → Some p ≡ Some q → p.log_interval ≡ q.log_interval
    same_log p q same = ap (λ (y : Port). y.log_interval) (same_Some p q same)

    tells : (x : Sending) → In x sent → IsAnnounce x.body → IsOwnAnnounce (choosing v now t) x
    tells x member announce =
        let (i, q, fresh, there, is) =
        from_announcements (clock t) v.root v.steps 1 (fresh_ports v t) t.ports x member in
        let (h, stands, flagged) = each_port-get (is_fresh v (clock t)) t.held i true fresh in
        let number : 1 + i ≡ suc i = omega arith in
        record {
          place = i;
          port = q;
          number_is = ap (λ (y : Sending). y.port) is ∙ number;
          holds = each_port-there (held_after_selection v (clock t)) t.held i h stands
              ∙ ap (λ y. Some y) (fresh_mine v (clock t) (suc i) h (sym flagged));
          is = is ∙ ap (λ m. announcement (record { clock = clock t; port = m }) v.root v.steps q) number;
          log = λ q' there'. names i q q' there (all_announced-get now (fresh_ports v t) t.ports i q' there');
        }
      where
        names : (i : ℕ) (q q' : Port) → slice_get t.ports i ≡ Some q
            → Marked (announced_again now) (slice_get (fresh_ports v t) i ≡ Some true) t.ports i q'
            → q'.log_interval ≡ q.log_interval
        names i q q' there (p, was, inl (fresh, new)) =
            ap (λ (y : Port). y.log_interval) new ∙ same_log p q (sym was ∙ there)
        names i q q' there (p, was, inr (stale, old)) =
            ap (λ (y : Port). y.log_interval) old ∙ same_log p q (sym was ∙ there)

-- a system that selects
pub selects_concludes : (now : ℕ) (t u : SystemState) (sends : List Sending) → Selects now t u sends
    → Concludes t now u sends
selects_concludes now t u sends k =
    subst (λ x. Concludes t now x sends) (sym k.state)
    (subst (Concludes t now (choosing k.vector now t)) (sym k.sends_are) (choosing_concludes k.vector now t))

-- a system at rest that does nothing
pub rest_concludes : (now : ℕ) (s : SystemState) → IsAtRest s → Concludes s now s []
rest_concludes now s r = record { same_clock = refl; ports = ports; tells = λ x member. absurd member }
  where
    ports : (i : ℕ) (h' : Held) (q' : Port) → slice_get s.held i ≡ Some h' → slice_get s.ports i ≡ Some q'
        → Ends s now s [] i h' q'
    ports i h q stands there = record {
      mid = h;
      port = q;
      mid_there = stands;
      port_there = there;
      log = refl;
      ends = elim (cases_Bool (is_master (chosen_role r.vector (clock s) (suc i) h))) [
        | inr other ↦ inl (refl, not_master_kept r.vector (clock s) (suc i) h other)
        | inl master ↦ let mine = is_mine master in
            inr (record {
              mine = mine;
              on = λ e. absurd (mine_on (sym mine ∙ e));
              is_lower = λ reception is. absurd (none-some reception (ap received (sym mine) ∙ is));
              timing = inl (mine, refl);
            })
      ];
    }
      where
        same : h ≡ held_after_selection r.vector (clock s) (suc i) h
        same =
            same_Some h (held_after_selection r.vector (clock s) (suc i) h)
            (sym stands ∙ ap (λ hs. slice_get hs i) r.stays
            ∙ each_port-there (held_after_selection r.vector (clock s)) s.held i h stands)

        is_mine : is_master (chosen_role r.vector (clock s) (suc i) h) ≡ true → h ≡ helds.Mine s.root s.steps
        is_mine master = rw (r.root, r.steps) (same ∙ held_after-master r.vector (clock s) (suc i) h master)

        mine_on : helds.Mine s.root s.steps ≡ helds.Disabled → ⊥
        mine_on e = cc
