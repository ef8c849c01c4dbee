-- What a world shows is what its state says.
use Rattle.std.proofs.Common.{◌≡◌, ℕ, Option, None, Some, IfNone, slice_get, sym, ap, subst, ◌∙◌}
use Rattle.std.proofs.lemmas.Option.{same_Some, slice_get_within}
use Rattle.gptp_roles.specs.declared.role.Role.{Role}
use Rattle.gptp_system.specs.Start.{role_at}
use Rattle.gptp_system.specs.State.{SystemState}
use Rattle.gptp_system.specs.Steps.{HasPortNumber}
use Rattle.gptp_model.specs.declared.item.Item.{Item}
use Rattle.gptp_model.specs.declared.item.Item.TheVariants.{Expiry, Arrival}
use Rattle.gptp_world.specs.declared.world_parts.WorldParts.{WorldParts}
use Rattle.gptp_model.specs.declared.station.Station.{Station}
use Rattle.gptp_model.specs.Acts.{AtSystem}
use Rattle.gptp_model.specs.Agrees.{Agrees}
use Rattle.gptp_model.specs.Pending.{IsNext}
use Rattle.gptp_world.specs.WorldParts.{world_of}
use Rattle.gptp_model.specs.Sound.{IsSound}
use Rattle.gptp_world.specs.WorldParts.{IsPlacedItem}
use Rattle.gptp_model.specs.Views.{FollowsRoot, HasPort, HasRole, ShowsLive}
use Rattle.gptp_model.specs.World.{WorldState}
use Rattle.gptp_model.proofs.NextDueLemmas.{next_runs_out}

-- the system of what is next is there
pub next_placed : (parts : WorldParts) (time : ℕ) (item : Item) → Agrees (world_of parts)
    → IsNext parts.net.traffic.net.pending time item → IsPlacedItem item parts
next_placed parts time (Arrival link direction) agrees next = tt
next_placed parts time (Expiry place timer) agrees next =
    let out = next_runs_out place timer time (world_of parts) agrees next in
    slice_get_within parts.stations.items place out.station out.here

-- a clock is that of one system alone, so a port that this one hasn't got is nowhere
pub no_port : (number port : ℕ) (w : WorldState) (s : SystemState) → IsSound w → ShowsLive number w s
    → (HasPortNumber s port → ⊥)
    → AtSystem number w (HasPort port) → ⊥
no_port number port w s is shows none at =
    let same : at.place ≡ shows.place =
    is.wired.clocks at.place shows.place at.station shows.station at.is.here shows.is.here
    (at.is.named ∙ sym shows.is.named) in
    let one : at.station ≡ shows.station =
    same_Some at.station shows.station (sym at.is.here ∙ (ap (slice_get w.stations) same ∙ shows.is.here)) in
    let of : HasPortNumber s port =
    subst (λ x. HasPortNumber x port) (ap (λ (x : Station). x.system) one ∙ sym shows.state) at.so.port_of in
    none of

-- what a live system follows is what it shows
pub follows_shown : (number root steps : ℕ) (slave : Option ℕ) (w : WorldState) (s : SystemState) → ShowsLive number w s
    → root ≡ s.root → steps ≡ s.steps → slave ≡ s.slave → AtSystem number w (FollowsRoot root steps slave)
follows_shown number root steps slave w s shows same_root same_steps same_slave = record {
  place = shows.place;
  station = shows.station;
  is = shows.is;
  so = record {
    live = shows.live;
    root_is = same_root ∙ ap (λ (x : SystemState). x.root) shows.state;
    steps_are = same_steps ∙ ap (λ (x : SystemState). x.steps) shows.state;
    slave_is = same_slave ∙ ap (λ (x : SystemState). x.slave) shows.state;
  };
}

-- and so are the roles of its ports
pub role_shown : (number port : ℕ) (w : WorldState) (s : SystemState) (role : Role) → ShowsLive number w s
    → HasPortNumber s port → role ≡ role_at s port → AtSystem number w (HasRole port role)
role_shown number port w s role shows of same = record {
  place = shows.place;
  station = shows.station;
  is = shows.is;
  so = record {
    live = shows.live;
    port_of = subst (λ x. HasPortNumber x port) shows.state of;
    role_is = same ∙ ap (λ x. role_at x port) shows.state;
  };
}

-- what follows where nothing was found
pub on_none : {X : Type 0} (found : Option X) (P Q : Type 0) → (P → Q) → IfNone found P → IfNone found Q
on_none None P Q f p = f p
on_none (Some x) P Q f p = p
