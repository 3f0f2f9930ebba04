use Rattle.std.proofs.Common.{◌≡◌, ◌||◌, ℕ, List, map, length, nat_le, Bool, true, false, Result, Ok, Err, OnOk, refl, sym, ap, ◌∙◌, subst, arith}
use Rattle.std.specs.Prelude.{is_err}
use Rattle.std.specs.declared.alloc.AllocError.{AllocError}
use Rattle.std.specs.List.{list_any}
use Rattle.std.proofs.lemmas.Bool.{or_parts}
use Rattle.rtmfp_text.specs.declared.names.Named.{Named}
use Rattle.rtmfp_text.specs.Names.{is_like}
use Rattle.rendezvous_world.specs.declared.end.End.{End as EndKept}
use Rattle.rendezvous_world.specs.declared.step.Step.TheVariants.{End}
use Rattle.rendezvous_world.specs.Seen.{Seen}
use Rattle.rendezvous_world.specs.Faults.{is_bad, is_outside}
use Rattle.rendezvous_world.specs.Stepping.{with_end, new_end, new_setup}
use Rattle.rendezvous_world.specs.Inside.{named_of, world_seen}
use Rattle.rendezvous_world.proofs.Refusing.{bad_done, memory_done, done_done, fault_left, bad_end_is}
use Rattle.rendezvous_world.proofs.Pieces.{fresh_with, seen_end, kept_end}
use Rattle.rendezvous_world.proofs.world.World.add_end.Goals as goal

pub returns-then-is_bad_end : goal.returns-then-is_bad_end
returns-then-is_bad_end c =
    bad_done c.args.self.now c.args.line (End c.args.name.now c.args.max_peers c.args.max_sessions c.args.cert.now) refl refl
    (sym (bad_end_is c.args.self.now c.args.name.now c.args.cert.now c.certified_print-print.result c.args.max_peers c.args.max_sessions c.is_bad_end.result c.certified_print-print.ensures.print c.is_bad_end.ensures) ∙ c.if-is_bad_end.true)

pub returns-then-is_err : goal.returns-then-is_err
returns-then-is_err c =
    let i = c.self.inside in
    let fine = sym (bad_end_is c.args.self.now c.args.name.now c.args.cert.now c.certified_print-print.result c.args.max_peers c.args.max_sessions c.is_bad_end.result c.certified_print-print.ensures.print c.is_bad_end.ensures) ∙ c.if-is_bad_end.false in
    let left = fault_left c.args.self.now c.args.line (End c.args.name.now c.args.max_peers c.args.max_sessions c.args.cert.now) refl refl fine in
    memory_done c.args.self.now c.args.line (End c.args.name.now c.args.max_peers c.args.max_sessions c.args.cert.now) (world_seen i.moment c.reserve.new.self.items i.journal)
    (ap (λ (es : List EndKept). world_seen i.moment es i.journal) c.reserve.ensures.items ∙ c.self.view_is) left

pub returns-in_default : goal.returns-in_default
returns-in_default c =
    let i = c.self.inside in
    let fine = sym (bad_end_is c.args.self.now c.args.name.now c.args.cert.now c.certified_print-print.result c.args.max_peers c.args.max_sessions c.is_bad_end.result c.certified_print-print.ensures.print c.is_bad_end.ensures) ∙ c.if-is_bad_end.false in
    let left = fault_left c.args.self.now c.args.line (End c.args.name.now c.args.max_peers c.args.max_sessions c.args.cert.now) refl refl fine in
    memory_done c.args.self.now c.args.line (End c.args.name.now c.args.max_peers c.args.max_sessions c.args.cert.now) (world_seen i.moment c.reserve.new.self.items i.journal)
    (ap (λ (es : List EndKept). world_seen i.moment es i.journal) c.reserve.ensures.items ∙ c.self.view_is) left

pub push-requires : goal.push-requires
push-requires c =
    let i = c.self.inside in
    let all : (list_any (is_like c.args.name.now c.certified_print-print.result) (map named_of c.args.self.now.ends) || nat_le 1024 (length c.args.self.now.ends) || is_outside 1048576 c.args.max_peers || is_outside 65536 c.args.max_sessions) ≡ false =
    sym c.is_bad_end.ensures ∙ c.if-is_bad_end.false in
    let none = (or_parts _ _ (or_parts _ _ (or_parts _ _ all).0).0).0 in
    let names : map named_of c.args.self.now.ends ≡ i.named = ap (λ (w : Seen). map named_of w.ends) (sym c.self.view_is) ∙ sym c.self.invariant.names in
    subst (λ (n : List ℕ). list_any (is_like n c.certified_print-print.result) i.named ≡ false) (sym c.again.ensures)
    (subst (λ (ns : List Named). list_any (is_like c.args.name.now c.certified_print-print.result) ns ≡ false) names none)

pub invariant_of-self-2 : goal.invariant_of-self-2
invariant_of-self-2 c =
    let i = c.self.inside in
    let fine = sym (bad_end_is c.args.self.now c.args.name.now c.args.cert.now c.certified_print-print.result c.args.max_peers c.args.max_sessions c.is_bad_end.result c.certified_print-print.ensures.print c.is_bad_end.ensures) ∙ c.if-is_bad_end.false in
    rw (c.put.ensures, c.in-Ok.ensures.ok, c.reserve.ensures.items)
    (kept_end i.moment i.ends.items i.named i.journal i.starts.items i.sent i.keyed c.self.invariant c.again-2.result c.again.result c.args.name.now c.certified_print-print.result c.args.cert.now c.args.max_peers c.args.max_sessions c.new.result
    c.again-2.ensures c.again.ensures c.certified_print-print.ensures.print c.certified_print-print.ensures.form
    (fresh_with c.args.max_peers c.args.max_sessions c.args.cert.now c.certified_print-print.result c.counted_secret.result c.new.result c.new.ensures.state c.counted_secret.ensures)
    (subst (λ (w : Seen). is_bad w (End c.args.name.now c.args.max_peers c.args.max_sessions c.args.cert.now) ≡ false) (sym c.self.view_is) fine))

pub returns : goal.returns
returns c =
    let i = c.self.inside in
    let fine = sym (bad_end_is c.args.self.now c.args.name.now c.args.cert.now c.certified_print-print.result c.args.max_peers c.args.max_sessions c.is_bad_end.result c.certified_print-print.ensures.print c.is_bad_end.ensures) ∙ c.if-is_bad_end.false in
    let left = fault_left c.args.self.now c.args.line (End c.args.name.now c.args.max_peers c.args.max_sessions c.args.cert.now) refl refl fine in
    rw (c.put.ensures, c.reserve.ensures.items)
    (done_done c.args.self.now c.args.line (End c.args.name.now c.args.max_peers c.args.max_sessions c.args.cert.now) _ left
    (seen_end i.moment i.ends.items i.journal c.again-2.result c.args.name.now c.certified_print-print.result c.args.cert.now c.args.max_peers c.args.max_sessions c.new.result c.again-2.ensures c.certified_print-print.ensures.print
    (fresh_with c.args.max_peers c.args.max_sessions c.args.cert.now c.certified_print-print.result c.counted_secret.result c.new.result c.new.ensures.state c.counted_secret.ensures)
    ∙ ap (λ (w : Seen). with_end w (new_end c.args.name.now (new_setup c.args.max_peers c.args.max_sessions c.args.cert.now))) c.self.view_is))

-- what holds where there was no want of memory holds
where_fine : (P : Type 0) (r : Result (Unit {0}) AllocError) (b : Bool) → b ≡ is_err r → b ≡ false → OnOk r P → P
where_fine P (Ok x) b is fine ok = ok
where_fine P (Err e) b is fine ok = absurd (let clash : true ≡ false = sym is ∙ fine in cc)

pub put-requires : goal.put-requires
put-requires c =
    let room = where_fine _ c.reserve.result c.is_err.result c.is_err.ensures.value c.if-is_err.false c.reserve.ensures.ok in omega (arith, room)
