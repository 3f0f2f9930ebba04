use Rattle.std.proofs.Common.{◌≡◌, ◌∙◌, ap, sym}
use Rattle.std.specs.Map.{remove_entry}
use Rattle.rtmfp_data_chunks.specs.Runs.{Run}
use Rattle.flow_recv.specs.Keyed.{changed_entry, emptied, over}
use Rattle.rtmfp_data_chunks.proofs.Keys.{is_key}
use Rattle.flow_recv.proofs.Keeping.{is_some_and, gone_later, put_back}
use Rattle.std.specs.Map.{lookup}
use Rattle.flow_recv.proofs.held.join_at.Goals as goal

pub returns-in-Ok-clause-joined : goal.returns-in-Ok-clause-joined
returns-in-Ok-clause-joined c =
    let es = c.args.map.now.entries in
    let z = c.in-Some.run' in
    let to : Run → Run → Run = λ v y. over y c.args.bytes.now v in
    is_some_and (lookup (is_key c.args.later) es) z (λ v. c.remove.new.self.entries ≡ remove_entry (is_key c.args.later) (changed_entry (to v) c.args.first es)) (sym c.in-Some.ensures.run)
    (c.remove.ensures.entries ∙ (ap (remove_entry (is_key c.args.later)) (c.in-Ok.ensures.appended ∙ ap (changed_entry (to z) c.args.first) c.in-Some.ensures.left) ∙ gone_later (to z) emptied c.args.first c.args.later es c.requires.apart))

pub returns-in-Err-clause-unchanged : goal.returns-in-Err-clause-unchanged
returns-in-Err-clause-unchanged c =
    let es = c.args.map.now.entries in
    let z = c.in-Some.run' in
    c.put_back_at.ensures ∙ (ap (λ (v : Run). changed_entry (λ y. v) c.args.later c.append_both_at.new.map.entries) c.in-Err.ensures.later ∙ ap (changed_entry (λ y. z) c.args.later) (c.in-Err.ensures.unchanged ∙ c.in-Some.ensures.left) ∙ put_back z emptied c.args.later es (sym c.in-Some.ensures.run))
