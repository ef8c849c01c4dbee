-- A Sync over two links of the ring, number by number.
use Rattle.std.specs.Prelude.{◌≡◌, ℕ, zero, suc, ◌+◌, pos, List, [], ◌∷◌}
use Rattle.gptp_correction.specs.declared.correction.Hop.{Hop}
use Rattle.gptp_correction.specs.Carry.{carry_of, CarryFits}
use Rattle.gptp_error_laws.specs.TimeError.{time_error}
use Rattle.gptp_error_laws.specs.Examples.{two_links_way}
use Rattle.gptp_error_laws.specs.WayLaws.{AreRead, GoesOver, IsDocumented, shown_at}

-- The Sync is sent at 2 s and is 390 ns, the least delay, on each link. Its Follow_Up comes to the bridge 20 ns
-- after it, and the bridge sends on 1,000 ns later.
abbrev pub sent : ℕ → ℕ
sent zero = 2000000000
sent (suc i) = 2000001410

abbrev pub sync_came : ℕ → ℕ
sync_came zero = 2000000390
sync_came (suc i) = 2000001800

-- On each link the last request took 410 ns and its response 390 ns, 1 s after a request that took 390 ns and a
-- response that took 410 ns: so the neighbour seems to be fast by 20 ns in a second, and the delay to be 400 ns.
abbrev pub two_hops : List Hop
two_hops =
    record { delay = pos 26214401; neighbour = pos 43980; ingress = pos 131072025559040; egress = pos 131072092405760 }
    ∷ record { delay = pos 26214401; neighbour = pos 43980; ingress = pos 131072117964800; egress = pos 0 }
    ∷ []

-- all clocks begin at 0
abbrev pub phases : ℕ → ℕ
phases i = 0

-- The premises of the law are met, and the time that is carried is 1310722 units past the root's clock, 20 ns: each
-- link seems to be 10 ns longer than it was. The time error of the way is 2622278 units.
pub record GoesOverTwoLinks : Type 0 where
  pub documented : IsDocumented two_links_way
  pub read : AreRead two_links_way phases (shown_at two_links_way phases)
  pub goes : GoesOver two_links_way two_hops (shown_at two_links_way phases) sent sync_came
  pub fits : CarryFits (shown_at two_links_way phases 0 (sent 0)) two_hops
  pub carried : carry_of (shown_at two_links_way phases 0 (sent 0)) two_hops ≡ pos (131072117964800 + 1310722)
  pub shown : shown_at two_links_way phases 0 (sync_came 1) ≡ pos 131072117964800
  pub error : time_error two_links_way ≡ 2622278
