use Rattle.std.proofs.Common.{ℕ, ◌≡◌, ◌-◌, List, false, nat_lt, length, get_or, sym, ap, ◌∙◌, subst, arith}
use Rattle.std.specs.List.{AllWithin}
use Rattle.std.specs.List.Sorted.{IsPartitionedBy}
use Rattle.endpoint_model.specs.declared.entry.Entry.{Entry}
use Rattle.endpoint_model.specs.Added.{Added, AreShort}
use Rattle.rendezvous_world.specs.Datagrams.{nth}
use Rattle.rendezvous_world.specs.Sent.{sent_among}
use Rattle.rendezvous_world.proofs.Finding.{starts_parted, before_first, behind_within, found_at, found_short}
use Rattle.rendezvous_world.proofs.sent.find.Goals as goal

pub count_below-behind-requires : goal.count_below-behind-requires
count_below-behind-requires c = subst (λ (ss : List ℕ). IsPartitionedBy (λ (s : ℕ). nat_lt s c.args.number) ss) (sym c.requires) (starts_parted c.args.number c.args.lines.now)

pub returns-then-behind-eq0-clause-letter : goal.returns-then-behind-eq0-clause-letter
returns-then-behind-eq0-clause-letter c =
    before_first c.args.lines.now c.args.starts.now c.args.number c.requires
    (subst (λ (k : ℕ). AllWithin (λ (s : ℕ). nat_lt s c.args.number ≡ false) c.args.starts.now k (length c.args.starts.now)) c.if-behind-eq0.true c.count_below-behind.ensures.after)

pub line_at-line-requires : goal.line_at-line-requires
line_at-line-requires c =
    let some = c.if-behind-eq0.false in
    omega (arith, behind_within c.args.lines.now c.args.starts.now c.count_below-behind.result c.requires c.count_below-behind.ensures.inside)

pub returns-clause-letter : goal.returns-clause-letter
returns-clause-letter c =
    c.find_among.ensures
    ∙ ap (λ (by : ℕ). nth (sent_among by c.entries.result.now) (c.args.number - get_or c.args.starts.now (c.count_below-behind.result - 1) 0)) c.end.ensures
    ∙ ap (λ (es : List Entry). nth (sent_among c.line_at-line.result.now.end es) (c.args.number - get_or c.args.starts.now (c.count_below-behind.result - 1) 0))
    (c.entries.ensures.entries ∙ ap (λ (added : Added). added.entries) c.out.ensures)
    ∙ found_at c.args.lines.now c.args.starts.now c.args.number c.count_below-behind.result c.line_at-line.result.now c.requires c.count_below-behind.ensures.inside c.if-behind-eq0.false
    c.count_below-behind.ensures.before c.count_below-behind.ensures.after c.line_at-line.ensures

pub returns-clause-short : goal.returns-clause-short
returns-clause-short c =
    found_short c.end.result c.entries.result.now (c.args.number - get_or c.args.starts.now (c.count_below-behind.result - 1) 0) c.find_among.result
    (subst (λ (es : List Entry). AreShort es) (sym c.entries.ensures.entries) c.entries.ensures.short) c.find_among.ensures
