-- A system whose slave port is the own port of its parent follows that parent.
use Rattle.std.proofs.Common.{◌≡◌, ◌⊎◌, ℕ, suc, List, Some, None, slice_get, refl, sym, ap, subst, ◌∙◌, inl, inr}
use Rattle.std.specs.Option.{option_map}
use Rattle.gptp_graph.specs.Parent.{ParentLink, IsParent}
use Rattle.gptp_graph.specs.SettledChoice.{IsParentIfAny}
use Rattle.gptp_graph.specs.Snapshot.{IsLinked, IsWellFormed, Joins, Snapshot, port_of}
use Rattle.gptp_graph.proofs.LinkLemmas.{Joins-sym}
use Rattle.gptp_receipt.specs.declared.held.Held.{Held}
use Rattle.gptp_receipt.specs.declared.held.Reception.{Reception}
use Rattle.gptp_receipt.specs.Held.{received}
use Rattle.gptp_system.specs.State.{SystemState, clock, parent}
use Rattle.gptp_model.specs.declared.station.Station.{Station}
use Rattle.gptp_bmca_machine.specs.AtRest.{ChoosesItself, ChoosesPort}
use Rattle.gptp_bmca_machine.specs.Clean.{CameOverLink}
use Rattle.gptp_bmca_machine.specs.Settled.{IsSlaveOf}
use Rattle.gptp_bmca_machine.specs.Station.{Reception as SeenReception, HoldsAt}
use Rattle.gptp_invariants.specs.ChoiceView.{port_identity_number, station_view}
use Rattle.gptp_invariants.proofs.ChoicePortLemmas.{held_from}
use Rattle.gptp_invariants.specs.ChoiceSettled.{followed_link}

-- the parent is where what the slave port holds came from
parent_is : (s : SystemState) (i : ℕ) (h : Held) (r : Reception) → s.slave ≡ Some (suc i)
    → slice_get s.held i ≡ Some h → received h ≡ Some r → parent s ≡ Some (suc i, r.vector.source)
parent_is s i h r slave stands got = rw (slave, stands, got) refl

module _ (g : Snapshot) (station : Station) (wf : IsWellFormed g) where
  abbrev s : SystemState
  s = station.system

  -- what its slave port received came from the port at the other end of that link, which is the parent's
  follows_there : (i : ℕ) (seen : SeenReception) → HoldsAt (station_view station) i seen
      → (IsLinked g (port_of (clock s) (suc i)) → CameOverLink g (clock s) (suc i) seen.said) → s.slave ≡ Some (suc i)
      → (l : ParentLink) → IsParent g (clock s) l → l.own_port ≡ suc i
      → option_map followed_link (parent s) ≡ Some l
  follows_there i seen holds over slave l follows own =
      let at = held_from station.live s i seen holds in
      let joins = subst (λ n. Joins g (port_of (clock s) n) (port_of l.clock l.port)) own follows.nearer.joins in
      let came = over (port_of l.clock l.port, joins) in
      let back = Joins-sym g came.from (port_of (clock s) (suc i)) came.joins in
      let ends : port_identity_number at.reception.vector.source ≡ port_of l.clock l.port =
      ap (λ (r : SeenReception). r.said.source) (sym at.is) ∙ came.source
      ∙ wf.one_link (port_of (clock s) (suc i)) came.from (port_of l.clock l.port) back joins in
      let same : followed_link (suc i, at.reception.vector.source) ≡ l =
      λ j. record { own_port = sym own j; clock = (ends j).clock; port = (ends j).port } in
      ap (option_map followed_link) (parent_is s i at.held at.reception slave at.stands at.got) ∙ ap Some same

  -- so the system follows its parent, where all that it holds came over its links
  pub parent_settled : (vector : List ℕ)
      → ChoosesItself (station_view station) vector ⊎ ChoosesPort (station_view station) vector
      → ((i : ℕ) (r : SeenReception) → HoldsAt (station_view station) i r → IsLinked g (port_of (clock s) (suc i))
      → CameOverLink g (clock s) (suc i) r.said)
      → IsSlaveOf g (clock s) s.slave → IsParentIfAny g (clock s) (option_map followed_link (parent s))
  parent_settled vector (inl (own, none)) came slave =
      let shown : option_map followed_link (parent s) ≡ None = rw none refl in
      subst (IsParentIfAny g (clock s)) (sym shown) (subst (IsSlaveOf g (clock s)) none slave)
  parent_settled vector (inr (i, r, holds, path, some)) came slave =
      let (l, follows, own) = subst (IsSlaveOf g (clock s)) some slave in
      subst (IsParentIfAny g (clock s)) (sym (follows_there i r holds (came i r holds) some l follows own)) follows
