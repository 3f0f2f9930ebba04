use Rattle.std.proofs.Common.{◌≡◌, None, ap, ◌∙◌}
use Rattle.crypto_profile.specs.declared.group.GroupSecret.{GroupSecret}
use Rattle.crypto_profile.specs.Keys.{startup_keys_of}
use Rattle.crypto_profile.specs.Opening.{open_refusal}
use Rattle.end_loops.proofs.Opening.{is_opened, not_short, opened_so, unrefused}
use Rattle.end_loops.proofs.admission.open_in_startup.Goals as goal

pub returns-in-Ok-clause-ok : goal.returns-in-Ok-clause-ok
returns-in-Ok-clause-ok c =
    let keys = c.startup.result.now in
    let none : open_refusal keys c.args.sid c.args.part.now ≡ None = unrefused _ c.open_in_place.result c.in-Ok.field-0 c.in-Ok.is c.open_in_place.ensures.refused in
    opened_so c.args.end.now c.args.place keys c.args.sid c.args.part.now c.open_in_place.new.buf
    (c.startup.ensures ∙ ap (λ (g : GroupSecret). startup_keys_of g) c.group_at-group.ensures) c.requires none
    (is_opened keys c.args.part.now c.open_in_place.new.buf (not_short keys c.args.sid c.args.part.now none) c.in-Ok.ensures.plain)

pub returns-in-Ok-clause-front : goal.returns-in-Ok-clause-front
returns-in-Ok-clause-front c =
    let keys = c.startup.result.now in
    let none : open_refusal keys c.args.sid c.args.part.now ≡ None = unrefused _ c.open_in_place.result c.in-Ok.field-0 c.in-Ok.is c.open_in_place.ensures.refused in
    (is_opened keys c.args.part.now c.open_in_place.new.buf (not_short keys c.args.sid c.args.part.now none) c.in-Ok.ensures.plain).front
