use Rattle.std.proofs.Common.{◌≡◌, length, sym, subst, arith, Some}
use Rattle.startup.specs.Judging.{after_extension_of, Extends}
use Rattle.endpoint_model.specs.State.{State}
use Rattle.end_chunks.proofs.Constants.{extension_keeps}
use Rattle.end_chunks.proofs.Keyed.{kept_end}
use Rattle.end_chunks.proofs.Found.{extended_found, hellos_are}
use Rattle.end_chunks.proofs.introducing.extend.Goals as goal

pub invariant_of-end : goal.invariant_of-end
invariant_of-end c =
    let i = c.end.inside in
    let e = c.args.extension.now in
    let is : Extends i.startup e = subst (λ (s : State). Extends s.startup e) (sym c.end.view_is) c.requires in
    let chosen = Some (e.found.near, is.attempt) in
    kept_end i.settings i.print i.startup c.apply_redirect-spread.new.self (after_extension_of i.startup chosen e.new i.moment) c.end.invariant
    (extension_keeps i.startup chosen e.new i.moment) (c.apply_redirect-spread.ensures.after chosen (extended_found i.startup e is))

pub returns-clause-enough : goal.returns-clause-enough
returns-clause-enough c =
    let i = c.end.inside in
    let e = c.args.extension.now in
    let is : Extends i.startup e = subst (λ (s : State). Extends s.startup e) (sym c.end.view_is) c.requires in
    let places : length e.new ≡ length c.apply_redirect-spread.result.to = hellos_are i.startup e is c.apply_redirect-spread.result (c.apply_redirect-spread.ensures.spread (Some (e.found.near, is.attempt)) (extended_found i.startup e is)) in
    omega (arith, places, c.in_ok-blanks.ensures.count, c.count-count.ensures)

pub returns-clause-space : goal.returns-clause-space
returns-clause-space c =
    let i = c.end.inside in
    let e = c.args.extension.now in
    let is : Extends i.startup e = subst (λ (s : State). Extends s.startup e) (sym c.end.view_is) c.requires in
    let places : length e.new ≡ length c.apply_redirect-spread.result.to = hellos_are i.startup e is c.apply_redirect-spread.result (c.apply_redirect-spread.ensures.spread (Some (e.found.near, is.attempt)) (extended_found i.startup e is)) in
    omega (arith, places, c.in_ok-make_room.ensures.ok, c.count-count.ensures)
