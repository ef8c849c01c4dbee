use Rattle.gptp_traffic.proofs.traffic.Traffic.copy.Goals as goal

pub invariant_of-result : goal.invariant_of-result
invariant_of-result c = rw (
  c.in_ok-copy.ensures,
  c.in_ok-from_slice.ensures.items,
  c.deref.ensures.value,
) (record { links = c.self.invariant.links; fit = c.self.invariant.fit })
