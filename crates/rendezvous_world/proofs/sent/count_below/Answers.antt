use Rattle.std.proofs.Common.{ℕ, nat_lt, rules}
use Rattle.std.proofs.lemmas.List.Sorted.{IsPartitionPoint-from_clause}
use Rattle.rendezvous_world.proofs.Finding.{below_cut, above_cut}
use Rattle.rendezvous_world.proofs.sent.count_below.Goals as goal

pub returns-then-is_count_below-clause-before : goal.returns-then-is_count_below-clause-before
returns-then-is_count_below-clause-before c =
    below_cut c.args.number c.args.starts.now c.args.guess c.requires (c.is_count_below.ensures c.if-is_count_below.true)

pub returns-then-is_count_below-clause-after : goal.returns-then-is_count_below-clause-after
returns-then-is_count_below-clause-after c =
    above_cut c.args.number c.args.starts.now c.args.guess c.requires (c.is_count_below.ensures c.if-is_count_below.true)

pub returns-clause-before : goal.returns-clause-before
returns-clause-before c =
    let r = IsPartitionPoint-from_clause (λ (s : ℕ). nat_lt s c.args.number) c.args.starts.now c.partition_point.result c.partition_point.ensures.partitioned c.requires (λ a b f' k. search rules) in r.0

pub returns-clause-after : goal.returns-clause-after
returns-clause-after c =
    let r = IsPartitionPoint-from_clause (λ (s : ℕ). nat_lt s c.args.number) c.args.starts.now c.partition_point.result c.partition_point.ensures.partitioned c.requires (λ a b f' k. search rules) in r.1
