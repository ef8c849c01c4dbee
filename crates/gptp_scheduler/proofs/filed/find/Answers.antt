use Rattle.std.proofs.Common.{◌≡◌, ℕ, ◌≤◌, nat_lt, false, sym, subst, ◌≢◌, arith, rules}
use Rattle.std.proofs.lemmas.Bool.Decides.{nat_tests}
use Rattle.std.proofs.lemmas.List.Sorted.{IsPartitionPoint-from_clause}
use Rattle.std.specs.List.Sorted.{IsPartitionedBy}
use Rattle.gptp_scheduler.specs.Filed.{IsInSlab}
use Rattle.gptp_scheduler.specs.declared.filed.Filed.{Filed}
use Rattle.gptp_scheduler.proofs.FiledLemmas.{in-at, is-filed, not-filed, rises-parted}
use Rattle.gptp_scheduler.proofs.filed.find.Goals as goal

past : (a b : ℕ) → false ≡ nat_lt a b → b ≤ a
past a b test = grind (arith, nat_tests)

pub returns-in_err-one-clause-nowhere : goal.returns-in_err-one-clause-nowhere
returns-in_err-one-clause-nowhere c =
    let rising = c.requires.rising in
    let parted : IsPartitionedBy (λ (f : Filed). nat_lt f.number c.args.number) c.args.filed.now =
    λ i j d. rises-parted c.args.filed.now rising.0 c.args.number i j d rising.1 in
    let point = IsPartitionPoint-from_clause (λ (f : Filed). nat_lt f.number c.args.number) _ _
    c.partition_point-place.ensures.partitioned parted (λ a r q k. search rules) in
    let beyond = past _ _ c.in_err-one.ensures.lookup.0 in
    rw c.from_residual.ensures
    (not-filed c.args.filed.now rising.0 c.args.number c.partition_point-place.result rising.1 point.0 point.1
    (λ within. absurd (omega arith)))

pub returns-then-one-number-clause-found : goal.returns-then-one-number-clause-found
returns-then-one-number-clause-found c =
    let one = c.in_ok-one.ensures.lookup.3 in
    let f = c.in_ok-one.one.now in
    is-filed c.args.number f c.args.filed.now c.if-one-number.true
    (subst (λ (x : Filed). IsInSlab x c.args.filed.now) (sym (one.1 f))
    (in-at c.args.filed.now c.partition_point-place.result f one.0))

pub returns-else-one-number-clause-nowhere : goal.returns-else-one-number-clause-nowhere
returns-else-one-number-clause-nowhere c =
    let rising = c.requires.rising in
    let parted : IsPartitionedBy (λ (f : Filed). nat_lt f.number c.args.number) c.args.filed.now =
    λ i j d. rises-parted c.args.filed.now rising.0 c.args.number i j d rising.1 in
    let point = IsPartitionPoint-from_clause (λ (f : Filed). nat_lt f.number c.args.number) _ _
    c.partition_point-place.ensures.partitioned parted (λ a r q k. search rules) in
    let one = c.in_ok-one.ensures.lookup.3 in
    let apart = c.if-one-number.false in
    not-filed c.args.filed.now rising.0 c.args.number c.partition_point-place.result rising.1 point.0
    point.1 (λ within e. subst (λ (x : Filed). x.number ≢ c.args.number) (one.1 e) apart)
