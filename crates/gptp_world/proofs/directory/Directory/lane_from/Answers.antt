use Rattle.std.proofs.Common.{◌≡◌, ◌≤◌, ℕ, None, Some, IfSome, slice_get, subst, arith}
use Rattle.std.proofs.lemmas.Option.{slice_get_within}
use Rattle.gptp_setup.specs.declared.limits.TheConstants.{MOST_PORTS}
use Rattle.gptp_traffic.specs.declared.joined_link.Lane.{Lane}
use Rattle.gptp_world.specs.Directory.{DirectoryState, BeginsAt}
use Rattle.gptp_world.proofs.LaneLemmas.{port_id, at_port, begins, only_lane, small_port}
use Rattle.gptp_world.proofs.directory.Directory.lane_from.Goals as goal
use Rattle.gptp_world.proofs.directory.Directory.lane_from.Goals.{then-len-place-via-then-len-place, then-len-place-via-else-len-place+then-port-ge-PORT_SPAN}

pub returns-then-len-place-clause-only : goal.returns-then-len-place-clause-only
returns-then-len-place-clause-only c =
    subst (λ (d : DirectoryState). (clock : ℕ) → (lane : Lane) → slice_get d.clocks c.args.place ≡ Some clock
    → BeginsAt d.joins (port_id clock c.args.port) lane → None ≡ Some lane)
    c.self.view_is
    (λ clock lane e b. elim c.then-len-place.branch [
      | then-len-place-via-then-len-place w ↦
          let l = slice_get_within _ c.args.place clock e in let past = w.if-len-place.true in
          let n = c.len.ensures in let v = c.self.inside.clocks.ok.0 in absurd (omega arith)
      | then-len-place-via-else-len-place+then-port-ge-PORT_SPAN w ↦
          let small = small_port _ _
          (port_id clock c.args.port) lane.link lane.direction b.join
          c.self.invariant.directory.plan b.there b.begins in
          let big = w.if-port-ge-PORT_SPAN.true in let n = c.from-port.ensures in absurd (omega arith)
    ])

pub returns-clause-some : goal.returns-clause-some
returns-clause-some c =
    let p = c.from-port.ensures in
    let small : c.args.port ≤ MOST_PORTS = let b = c.if-port-ge-PORT_SPAN.false in omega arith in
    subst (λ (d : DirectoryState). (clock : ℕ) → slice_get d.clocks c.args.place ≡ Some clock
    → IfSome c.index.result.now (BeginsAt d.joins (port_id clock c.args.port)))
    c.self.view_is
    (λ clock e. begins _ _ (port_id clock c.args.port) c.index.result.now
    (at_port _ _ _ c.args.place c.args.port clock c.index.result.now c.self.invariant.lanes e small
    (rw p at c.index.ensures)))

pub returns-clause-only : goal.returns-clause-only
returns-clause-only c =
    let p = c.from-port.ensures in
    let small : c.args.port ≤ MOST_PORTS = let b = c.if-port-ge-PORT_SPAN.false in omega arith in
    subst (λ (d : DirectoryState). (clock : ℕ) → (lane : Lane) → slice_get d.clocks c.args.place ≡ Some clock
    → BeginsAt d.joins (port_id clock c.args.port) lane → c.index.result.now ≡ Some lane)
    c.self.view_is
    (λ clock lane e b. only_lane _ _ (port_id clock c.args.port) c.index.result.now lane c.self.invariant.directory.plan
    (at_port _ _ _ c.args.place c.args.port clock c.index.result.now c.self.invariant.lanes e small
    (rw p at c.index.ensures)) b)
