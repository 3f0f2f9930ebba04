use Rattle.std.proofs.Common.{◌∙◌, Some, None, sym, ap, length, arith}
use Rattle.rtmfp_forms.specs.OptionReading.{option_parts, piece_then, options_in}
use Rattle.rtmfp_forms.proofs.Lists.{next_option, no_next, no_fault, shown_piece, shown_fault}
use Rattle.rtmfp_forms.proofs.options.OptionsIterator.next.Goals as goal

pub invariant_of-self : goal.invariant_of-self
invariant_of-self c =
    let arm = c.in-Ok-Some-default in
    let read = shown_piece c.piece.result (piece_then c.self.inside.rest.now) arm.field-0-0 (Some arm.option) arm.after c.piece.ensures arm.is arm.field-0-0-is in
    (next_option (options_in c.self.inside.rest.now) c.self.inside.rest.now (option_parts arm.option) arm.after.now c.self.invariant read).others

pub returns-in-Ok-Some-default-clause-steps : goal.returns-in-Ok-Some-default-clause-steps
returns-in-Ok-Some-default-clause-steps c =
    let arm = c.in-Ok-Some-default in
    let read = shown_piece c.piece.result (piece_then c.self.inside.rest.now) arm.field-0-0 (Some arm.option) arm.after c.piece.ensures arm.is arm.field-0-0-is in
    sym c.self.view_is ∙ (next_option (options_in c.self.inside.rest.now) c.self.inside.rest.now (option_parts arm.option) arm.after.now c.self.invariant read).first

pub returns-in-Ok-Some-default-clause-goes : goal.returns-in-Ok-Some-default-clause-goes
returns-in-Ok-Some-default-clause-goes c =
    let shorter = ap length (returns-in-Ok-Some-default-clause-steps c) in
    record { on = λ finite. (tt, tt, omega (arith, shorter)); keeps = tt; rests = λ finite. tt }

pub returns-in-Ok-None-default-clause-steps : goal.returns-in-Ok-None-default-clause-steps
returns-in-Ok-None-default-clause-steps c =
    let arm = c.in-Ok-None-default in
    let read = shown_piece c.piece.result (piece_then c.self.inside.rest.now) arm.field-0-0 None arm.field-0-1 c.piece.ensures arm.is arm.field-0-0-is in
    let none = sym c.self.view_is ∙ no_next (options_in c.self.inside.rest.now) c.self.inside.rest.now arm.field-0-1.now c.self.invariant read in
    (none, none)

pub returns-in-Err-clause-steps : goal.returns-in-Err-clause-steps
returns-in-Err-clause-steps c =
    absurd (no_fault (options_in c.self.inside.rest.now) c.self.inside.rest.now c.in-Err.field-0 c.self.invariant (shown_fault c.piece.result (piece_then c.self.inside.rest.now) c.in-Err.field-0 c.piece.ensures c.in-Err.is))
