use Rattle.std.proofs.Common.{true, rules, ◌≡◌, ℕ, List, length, ap, sym, ◌∙◌, subst}
use Rattle.std.proofs.lemmas.Map.Entries.{length-values_of}
use Rattle.std.proofs.lemmas.Bool.{eqb-true}
use Rattle.std.specs.Map.{values_of}
use Rattle.flow_recv.specs.Keyed.{AllWhole}
use Rattle.flow_recv.proofs.Wholes.{all_whole}
use Rattle.flow_recv.proofs.held.HeldRuns.are_whole.Goals as goal

pub returns : goal.returns
returns c e =
    let t : c.self.inside.indexed ≡ true = search rules in
    let runs = values_of c.self.inside.map.entries in
    let same : c.len-2.result ≡ c.len.result = sym (eqb-true c.len.result c.len-2.result e) in
    subst AllWhole c.self.view_is
    (all_whole runs (sym (ap (λ (ks : List ℕ). length ks) (c.self.invariant.whole t)) ∙ (sym c.len-2.ensures.len ∙ (same ∙ (c.len.ensures.len ∙ sym (length-values_of c.self.inside.map.entries))))))
