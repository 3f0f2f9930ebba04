use Rattle.std.proofs.Common.{◌≡◌, true, ℕ, List, ap, sym, ◌∙◌, rules}
use Rattle.std.specs.List.{slice_get}
use Rattle.std.specs.Option.{option_map}
use Rattle.std.specs.Map.{values_of}
use Rattle.rtmfp_data_chunks.specs.Runs.{Run, is_whole}
use Rattle.flow_recv.specs.Receiver.{first_of}
use Rattle.flow_recv.proofs.Keeping.{no_keys}
use Rattle.flow_recv.proofs.Among.{whole_first}
use Rattle.flow_recv.proofs.held.HeldRuns.first_whole.Goals as goal

pub returns-in-Some : goal.returns-in-Some
returns-in-Some c =
    let i = c.self.inside in
    let t : c.self.inside.indexed ≡ true = search rules in
    sym c.in-Some.ensures.first ∙ (ap (λ (ks : List ℕ). slice_get ks 0) (c.self.invariant.whole t) ∙ (whole_first (values_of i.map.entries) ∙ ap (λ (rs : List Run). option_map (λ y. y.first) (first_of is_whole rs)) c.self.view_is))

pub returns-in-None : goal.returns-in-None
returns-in-None c =
    let i = c.self.inside in
    let t : c.self.inside.indexed ≡ true = search rules in
    let none = no_keys i.whole.keys c.in-None.ensures.variant.1 in
    ap (λ (ks : List ℕ). slice_get ks 0) (sym none) ∙ (ap (λ (ks : List ℕ). slice_get ks 0) (c.self.invariant.whole t) ∙ (whole_first (values_of i.map.entries) ∙ ap (λ (rs : List Run). option_map (λ y. y.first) (first_of is_whole rs)) c.self.view_is))
